-- The decimal digits of a number are read back as the number.
use Rattle.std.proofs.Common.{◌≡◌, ℕ, zero, suc, ◌+◌, ◌/◌, ◌%◌, ◌^◌, ◌<◌, ◌≤◌, ◌==◌, true, false, List, [], ◌∷◌, ◌++◌, length, get_or, Some, refl, arith, decimal}
use Rattle.std.specs.List.{list_all}
use Rattle.std.specs.Char.{is_ascii_digit}
use Rattle.std.proofs.lemmas.Fmt.{decimal_by_steps_wide, decimal_digit, decimal_is_IsNumeral_wide}
use Rattle.std.proofs.lemmas.Bool.{ne_eqb, le-leb, lt-ltb, and_parts}
use Rattle.json_fields.specs.Numbers.{is_digits, digits_below}

record Digits (n : ℕ) (ds : List ℕ) : Type 0 where
  all : list_all is_ascii_digit ds ≡ true
  some : 0 < length ds
  first : 0 < n → (get_or ds 0 0 == 48) ≡ false

digit : (d : ℕ) → d < 10 → is_ascii_digit (48 + d) ≡ true
digit d low =
    let least : 48 ≤ 48 + d = omega arith in
    let most : 48 + d ≤ 57 = omega arith in
    rw (le-leb 48 (48 + d) least, le-leb (48 + d) 57 most) refl

one : (n : ℕ) → n < 10 → Digits n ((48 + n) ∷ [])
one n low = record { all = rw (digit n low) refl; some = omega arith; first = λ some. ne_eqb (48 + n) 48 (λ is. omega arith) }

all_more : (ds : List ℕ) (d : ℕ) → list_all is_ascii_digit ds ≡ true → is_ascii_digit d ≡ true → list_all is_ascii_digit (ds ++ d ∷ []) ≡ true
all_more [] d all last = rw last refl
all_more (c ∷ ds) d all last =
    let parts = and_parts (is_ascii_digit c) (list_all is_ascii_digit ds) all in
    rw (parts.0, all_more ds d parts.1 last) refl

more : (n : ℕ) (ds : List ℕ) → 10 ≤ n → Digits (n / 10) ds → Digits n (ds ++ (48 + n % 10) ∷ [])
more n [] large front = absurd (omega (arith, front.some))
more n (c ∷ ds) large front = record {
  all = all_more (c ∷ ds) _ front.all (digit (n % 10) (omega arith));
  some = omega arith;
  first = λ _. front.first (omega arith);
}

digits_of_decimal : (n : ℕ) → n < 10 ^ 64 → Digits n (decimal n)
digits_of_decimal = decimal_by_steps_wide Digits one more

is_digits-Digits : (n : ℕ) (ds : List ℕ) → 0 < n → Digits n ds → is_digits ds ≡ true
is_digits-Digits n [] some digits = absurd (omega (arith, digits.some))
is_digits-Digits n (c ∷ []) some digits = (and_parts _ _ digits.all).0
is_digits-Digits n (c ∷ d ∷ ds) some digits = rw (digits.first some) digits.all

pub is_digits-decimal : (n : ℕ) → n < 10 ^ 64 → is_digits (decimal n) ≡ true
is_digits-decimal zero low = rw (decimal_digit 0 (omega arith)) refl
is_digits-decimal (suc n) low = is_digits-Digits (suc n) (decimal (suc n)) (omega arith) (digits_of_decimal (suc n) low)

-- a number below the limit is read back from its digits
pub digits_below-decimal : (limit n : ℕ) → n < limit → n < 10 ^ 64 → digits_below limit (decimal n) ≡ Some n
digits_below-decimal limit n low small =
    let value = (decimal_is_IsNumeral_wide n small).1 in
    rw (is_digits-decimal n small, value, lt-ltb n limit low) refl
