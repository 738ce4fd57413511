-- What std reads as a hexadecimal number, in this crate's words.
use Rattle.std.proofs.Common.{◌≡◌, ◌≢◌, ℕ, suc, ◌<◌, ◌≤◌, ◌^◌, length, true, List, [], ◌∷◌, Result, Ok, Some, refl, sym, ap, ◌∙◌, arith, get_or, drop, subst}
use Rattle.std.proofs.lemmas.Bool.{false≢true, and_parts}
use Rattle.std.specs.Prelude.{nat_lt, nat_le, codes}
use Rattle.std.specs.Char.{digit_value}
use Rattle.std.specs.List.{list_all}
use Rattle.std.specs.Str.Parse.{digits_value, ParsesUnsigned, AllDigits, without_leading_plus}
use Rattle.std.specs.Str.Pattern.{FindsTextPrefix}
use Rattle.std.proofs.Math.Nat.{pow-le-pow_right}
use Rattle.std.proofs.lemmas.Bool.{lt-ltb, ltb-true, le-leb}
use Rattle.std.proofs.lemmas.Int.Digits.{digits_value-lt}
use Rattle.std.proofs.lemmas.Result.{Ok-from_Ok_iff}
use Rattle.std.proofs.lemmas.Str.Parse.{without_leading_plus_none}
use Rattle.json_fields.specs.Numbers.{address_of}

all_hexadecimal : (ds : List ℕ) → list_all (λ c. nat_lt (digit_value c) 16) ds ≡ true → AllDigits 16 ds
all_hexadecimal [] h = tt
all_hexadecimal (c ∷ cs) h = (ltb-true _ _ (and_parts _ _ h).0, all_hexadecimal cs (and_parts _ _ h).1)

no_plus_in : (c : ℕ) → nat_lt (digit_value c) 16 ≡ true → c ≢ 43
no_plus_in c h is = absurd (false≢true (subst (λ d. nat_lt (digit_value d) 16 ≡ true) is h))

no_plus : (ds : List ℕ) → list_all (λ c. nat_lt (digit_value c) 16) ds ≡ true → get_or ds 0 0 ≢ 43
no_plus [] h = λ is. absurd (omega arith)
no_plus (c ∷ cs) h = no_plus_in c (and_parts _ _ h).0

pub below : (ds : List ℕ) → list_all (λ c. nat_lt (digit_value c) 16) ds ≡ true → length ds ≤ 8 → digits_value 16 ds < 2 ^ 32
below ds h short =
    let small : 16 ^ length ds ≤ 16 ^ 8 = pow-le-pow_right (omega arith) short in
    omega (arith, digits_value-lt 16 ds (all_hexadecimal ds h))

pub reads_hexadecimal : {E : Type 0} (ds : List ℕ) (r : Result ℕ E) → ParsesUnsigned 32 16 ds r → list_all (λ c. nat_lt (digit_value c) 16) ds ≡ true → 0 < length ds → length ds ≤ 8 → r ≡ Ok (digits_value 16 ds)
reads_hexadecimal ds r h digits some short =
    let plain : without_leading_plus ds ≡ ds = without_leading_plus_none ds (no_plus ds digits) in
    let parsed = rw plain at h in
    Ok-from_Ok_iff r _ _ parsed ((some, all_hexadecimal ds digits), below ds digits short)

-- the text is `0x` and then the digits
pub after_prefix : (text digits : List ℕ) (n : ℕ) → FindsTextPrefix (codes "0x") text (Some n) → digits ≡ drop n text → text ≡ 48 ∷ 120 ∷ digits
after_prefix text digits n found is = found.1 ∙ ap (λ rest. 48 ∷ 120 ∷ rest) (sym is)

pub address_of-digits : (ds : List ℕ) → list_all (λ c. nat_lt (digit_value c) 16) ds ≡ true → 0 < length ds → length ds ≤ 8 → address_of (48 ∷ 120 ∷ ds) ≡ Some (digits_value 16 ds)
address_of-digits ds digits some short =
    let longer : nat_lt 2 (suc (suc (length ds))) ≡ true = lt-ltb 2 (suc (suc (length ds))) (omega arith) in
    let fits : nat_le (suc (suc (length ds))) 10 ≡ true = le-leb (suc (suc (length ds))) 10 (omega arith) in
    rw (longer, fits, digits) refl
