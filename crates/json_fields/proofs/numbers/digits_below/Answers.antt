use Rattle.std.proofs.Common.{sym, arith}
use Rattle.json_fields.proofs.Numerals.{parse_refused}
use Rattle.json_fields.proofs.numbers.digits_below.Goals as goal

pub returns-in_default-2 : goal.returns-in_default-2
returns-in_default-2 c =
    parse_refused c.args.limit c.args.text.now c.parse.result _ c.parse.ensures.value.0 (rw (← c.as_bytes.ensures.value) (sym c.if-not-is_digits.ensures)) (omega arith) c.in_default.is
