use Rattle.std.proofs.Common.{◌≢◌, length, rules}
use Rattle.oil_grammar.proofs.Numerals.{all_read}
use Rattle.oil_grammar.proofs.token.value_of.Goals as goal

pub returns : goal.returns
returns c =
    let some : length c.args.digits.now ≢ 0 = search rules in
    all_read c.args.hexadecimal c.loop-first.number c.args.digits.now c.loop-first.rest.now c.loop-first.invariant.room some c.in_default.ensures.cases c.loop-first.invariant.value
