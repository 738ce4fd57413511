use Rattle.std.proofs.Common.{sym, ap, refl}
use Rattle.oil_grammar.specs.Tokens.{with_room}
use Rattle.oil_grammar.proofs.Numerals.{digit_read, no_digit}
use Rattle.oil_grammar.proofs.token.read_digit.Goals as goal

pub returns-in-Some : goal.returns-in-Some
returns-in-Some c = digit_read c.args.hexadecimal c.args.number c.in-Some.digit c.args.b c.with_digit.result c.in-Some.ensures.value c.with_digit.ensures

pub returns-in-None : goal.returns-in-None
returns-in-None c = λ tail. ap with_room (no_digit c.args.hexadecimal c.args.number c.args.b _ tail refl (sym c.in-None.ensures.value))
