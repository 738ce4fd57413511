use Rattle.std.proofs.Common.{length, ◌<◌, ◌≤◌, sym, ap, ◌∙◌, arith}
use Rattle.std.specs.Result.{result_ok}
use Rattle.std.proofs.lemmas.Bool.Decides.{nat_tests}
use Rattle.json_fields.proofs.Addresses.{reads_hexadecimal, after_prefix, address_of-digits}
use Rattle.json_fields.proofs.numbers.address_of.Goals as goal

pub returns : goal.returns
returns c =
    let digits = sym c.if-not-all_hexadecimal.ensures in
    let some : 0 < length c.in_ok-digits.digits.now = grind (arith, nat_tests) in
    let short : length c.in_ok-digits.digits.now ≤ 8 = omega arith in
    let stripped = c.in_ok-digits.ensures.cases in
    let text = after_prefix c.args.text.now c.in_ok-digits.digits.now stripped.0 stripped.1 stripped.2 in
    c.ok.ensures.value ∙ ap result_ok (reads_hexadecimal c.in_ok-digits.digits.now c.from_str_radix.result c.from_str_radix.ensures.value digits some short) ∙ sym (rw text (address_of-digits c.in_ok-digits.digits.now digits some short))
