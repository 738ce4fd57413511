-- Digits are read from the left, and a number that has no room never gets any again.
use Rattle.std.proofs.Common.{◌≡◌, ◌≢◌, ℕ, ◌+◌, ◌*◌, ◌^◌, ◌≤◌, ◌<◌, Bool, true, false, cond, List, [], ◌∷◌, length, refl, sym, ap, ◌∙◌, Some, None, Option, arith, ltb-false}
use borrow.Author.Tests.{ltb-true}
use Rattle.std.specs.Prelude.{nat_lt, if◌then◌else◌, option_and_then}
use Rattle.std.proofs.lemmas.Bool.Decides.{nat_tests}
use Rattle.oil_grammar.specs.Bytes.{digit_of}
use Rattle.oil_grammar.specs.Tokens.{value_after, value_of, with_room}
use Rattle.oil_grammar.specs.Working.Reading.{ReadsDigit}

abbrev radix : Bool → ℕ
radix hexadecimal = if hexadecimal then 16 else 10

-- one digit
pub digit_step : (hexadecimal : Bool) (n d b : ℕ) (digits tail : List ℕ) → digits ≡ b ∷ tail → digit_of hexadecimal b ≡ Some d → value_after hexadecimal n digits ≡ value_after hexadecimal (n * (if hexadecimal then 16 else 10) + d) tail
unfolding value_after
digit_step hexadecimal n d b digits tail split is = rw split (rw is refl)

pub no_digit : (hexadecimal : Bool) (n b : ℕ) (digits tail : List ℕ) → digits ≡ b ∷ tail → digit_of hexadecimal b ≡ None → value_after hexadecimal n digits ≡ None
unfolding value_after
no_digit hexadecimal n b digits tail split is = rw split (rw is refl)

pub no_more : (hexadecimal : Bool) (n : ℕ) (digits : List ℕ) → length digits ≡ 0 → value_after hexadecimal n digits ≡ Some n
unfolding value_after
no_more hexadecimal n [] none = refl
no_more hexadecimal n (b ∷ tail) none = absurd (cc)

times : (hexadecimal : Bool) (n d : ℕ) → n ≤ n * (if hexadecimal then 16 else 10) + d
times true n d = omega arith
times false n d = omega arith

grown : (hexadecimal : Bool) (n m : ℕ) (f : ℕ → Option ℕ) (o : Option ℕ) → ((k : ℕ) → f k ≡ Some m → k ≤ m) → option_and_then (λ d. f (n * (if hexadecimal then 16 else 10) + d)) o ≡ Some m → n ≤ m
grown hexadecimal n m f None more is = absurd (cc)
grown hexadecimal n m f (Some d) more is = omega (arith, times hexadecimal n d, more (n * (if hexadecimal then 16 else 10) + d) is)

-- more digits make no number smaller
grows : (hexadecimal : Bool) (n m : ℕ) (digits : List ℕ) → value_after hexadecimal n digits ≡ Some m → n ≤ m
unfolding value_after
grows hexadecimal n m [] is = let same : n ≡ m = cc in omega arith
grows hexadecimal n m (b ∷ tail) is = grown hexadecimal n m (λ k. value_after hexadecimal k tail) (digit_of hexadecimal b) (λ k. grows hexadecimal k m tail) is

no_room_after : (n : ℕ) (o : Option ℕ) → 2 ^ 64 ≤ n → ((m : ℕ) → o ≡ Some m → n ≤ m) → with_room o ≡ None
no_room_after n None big more = refl
no_room_after n (Some m) big more = let least : n ≤ m = more m refl in let no : nat_lt m (2 ^ 64) ≡ false = grind (arith, nat_tests) in rw no refl

no_choice : (b : Bool) (n : ℕ) → cond b (Some n) None ≡ None → b ≡ false
no_choice true n is = absurd (cc)
no_choice false n is = refl

a_choice : (b : Bool) (n m : ℕ) → cond b (Some n) None ≡ Some m → (b ≡ true) × (n ≡ m)
a_choice true n m is = (refl, cc)
a_choice false n m is = absurd (cc)

-- a number without room gets none
pub no_room : (hexadecimal : Bool) (n : ℕ) (digits : List ℕ) → with_room (Some n) ≡ None → with_room (value_after hexadecimal n digits) ≡ None
no_room hexadecimal n digits big =
    let test : nat_lt n (2 ^ 64) ≡ false = no_choice (nat_lt n (2 ^ 64)) n big in
    no_room_after n (value_after hexadecimal n digits) (ltb-false n (2 ^ 64) test) (λ m. grows hexadecimal n m digits)

pub room : (n m : ℕ) → with_room (Some n) ≡ Some m → (n ≡ m) × (m < 2 ^ 64)
room n m is =
    let parts : (nat_lt n (2 ^ 64) ≡ true) × (n ≡ m) = a_choice (nat_lt n (2 ^ 64)) n m is in
    let below : n < 2 ^ 64 = ltb-true n (2 ^ 64) parts.0 in
    (parts.1, omega (arith, parts.1))

pub with_room_small : (n : ℕ) → n < 2 ^ 64 → Some n ≡ with_room (Some n)
with_room_small n below = let yes : nat_lt n (2 ^ 64) ≡ true = grind (arith, nat_tests) in rw yes refl

pub digit_read : (hexadecimal : Bool) (n d b : ℕ) (r : Option ℕ) → Some d ≡ digit_of hexadecimal b → r ≡ with_room (Some (n * (if hexadecimal then 16 else 10) + d)) → ReadsDigit hexadecimal n b r
digit_read hexadecimal n d b None is gives = λ tail. ap with_room (digit_step hexadecimal n d b (b ∷ tail) tail refl (sym is)) ∙ no_room hexadecimal (n * (if hexadecimal then 16 else 10) + d) tail (sym gives)
digit_read hexadecimal n d b (Some next) is gives =
    let parts : (n * (if hexadecimal then 16 else 10) + d ≡ next) × (next < 2 ^ 64) = room (n * (if hexadecimal then 16 else 10) + d) next (sym gives) in
    (parts.1, λ tail. ap with_room (digit_step hexadecimal n d b (b ∷ tail) tail refl (sym is)) ∙ ap (λ k. with_room (value_after hexadecimal k tail)) parts.0)

pub value_of_some : (hexadecimal : Bool) (digits : List ℕ) → length digits ≢ 0 → value_of hexadecimal digits ≡ value_after hexadecimal 0 digits
value_of_some hexadecimal [] some = absurd (some refl)
value_of_some hexadecimal (b ∷ tail) some = refl

pub all_read : (hexadecimal : Bool) (n : ℕ) (digits rest : List ℕ) → n < 2 ^ 64 → length digits ≢ 0 → length rest ≡ 0 → with_room (value_after hexadecimal n rest) ≡ with_room (value_after hexadecimal 0 digits) → Some n ≡ with_room (value_of hexadecimal digits)
all_read hexadecimal n digits rest below some none same =
    with_room_small n below ∙ (ap with_room (sym (no_more hexadecimal n rest none)) ∙ (same ∙ ap with_room (sym (value_of_some hexadecimal digits some))))
