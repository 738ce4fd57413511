-- What std reads of a number's text.
use Rattle.std.proofs.Common.{◌≡◌, ℕ, ◌<◌, ◌≤◌, ◌^◌, length, true, List, Result, Ok, arith}
use Rattle.std.specs.Char.{is_ascii_digit}
use Rattle.std.specs.List.{list_all}
use Rattle.std.specs.Str.Parse.{digits_value, ParsesUnsigned}
use Rattle.std.proofs.Math.Nat.{pow-le-pow_right}
use Rattle.std.proofs.lemmas.Bool.{ltb-true, leb-true, and_parts}
use Rattle.std.proofs.lemmas.Int.Digits.{digits_value-lt}
use Rattle.std.proofs.lemmas.Result.{Ok-from_Ok_iff}
use Rattle.std.proofs.lemmas.Str.Parse.{parse_digits}
use Rattle.json_fields.proofs.Numerals.{numerals}
use Rattle.syswcet.specs.Words.{is_number}

-- `parse` reads 1 to 10 digits
pub reads_number : {E : Type 0} (text : List ℕ) (r : Result ℕ E) → ParsesUnsigned 64 10 text r → is_number text ≡ true → r ≡ Ok (digits_value 10 text)
reads_number text r h is =
    let few : length text ≤ 10 = leb-true _ _ (and_parts _ _ (and_parts _ _ is).0).1 in
    let some : 0 < length text = ltb-true _ _ (and_parts _ _ (and_parts _ _ is).0).0 in
    let digits : list_all is_ascii_digit text ≡ true = (and_parts _ _ is).1 in
    let small : 10 ^ length text ≤ 10 ^ 10 = pow-le-pow_right (omega arith) few in
    let below : digits_value 10 text < 10 ^ length text = digits_value-lt 10 text (numerals.to text digits) in
    Ok-from_Ok_iff r _ _ (parse_digits numerals 64 text r h digits) (some, omega (arith, below, small))
