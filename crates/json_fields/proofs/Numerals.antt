-- What std reads as a number, in this crate's words.
use Rattle.std.proofs.Common.{◌≡◌, ℕ, ◌<◌, ◌^◌, length, Bool, true, List, [], ◌∷◌, Result, Err, refl, arith, rules, None, inl, inr}
use Rattle.std.specs.Prelude.{◌&&◌}
use Rattle.std.proofs.lemmas.Bool.{cases_lt, le-ltb, and_parts}
use Rattle.std.proofs.lemmas.Result.{OkIff-at_err}
use Rattle.std.specs.Char.{is_ascii_digit}
use Rattle.std.specs.List.{list_all}
use Rattle.std.specs.Result.{OkIff}
use Rattle.std.specs.Str.Parse.{digits_value, ParsesUnsigned}
use Rattle.std.proofs.lemmas.Str.Parse.{IsNumeralModel, IsDigitsTest, numerals_by_value, parse_digits}
use Rattle.json_fields.specs.Numbers.{is_digits, digits_below}

digits_test : IsDigitsTest (λ ds. list_all is_ascii_digit ds ≡ true)
digits_test = search rules

pub numerals : IsNumeralModel (λ ds. list_all is_ascii_digit ds ≡ true) (digits_value 10)
numerals = numerals_by_value _ digits_test

one_digit : (a : Bool) → a ≡ true → (a && true) ≡ true
one_digit a h = rw h

-- such a text has a digit, and digits alone
pub digits_are_digits : (text : List ℕ) → is_digits text ≡ true → (list_all is_ascii_digit text ≡ true) × (0 < length text)
digits_are_digits [] h = absurd cc
digits_are_digits (c ∷ []) h = (one_digit _ h, omega arith)
digits_are_digits (c ∷ d ∷ rest) h = ((and_parts _ _ h).1, omega arith)

-- what `parse` reads of a text of digits
parses : {E : Type 0} (text : List ℕ) (r : Result ℕ E) → ParsesUnsigned 128 10 text r → is_digits text ≡ true → OkIff r ((0 < length text) × (digits_value 10 text < 2 ^ 128)) (digits_value 10 text)
parses text r h digits = parse_digits numerals 128 text r h (digits_are_digits text digits).0

pub parse_refused : {E : Type 0} (limit : ℕ) (text : List ℕ) (r : Result ℕ E) (e : E) → ParsesUnsigned 128 10 text r → is_digits text ≡ true → limit < 2 ^ 128 → r ≡ Err e → None ≡ digits_below limit text
parse_refused limit text r e h digits small is =
    let refused = OkIff-at_err r _ _ e (parses text r h digits) is in
    elim (cases_lt (digits_value 10 text) limit) [
      | inl lt ↦ absurd (refused ((digits_are_digits text digits).1, omega arith))
      | inr le ↦ rw (digits, le-ltb (digits_value 10 text) limit le) refl
    ]
