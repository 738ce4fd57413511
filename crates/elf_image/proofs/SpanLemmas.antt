-- Segments in the order of their addresses overlap, and hold a section, exactly where those of the
-- file do.
use Rattle.std.proofs.Common.{◌≡◌, ℕ, zero, suc, ◌+◌, ◌*◌, ◌<◌, ◌≤◌, max, Bool, true, false, cond, ◌||◌, nat_lt, nat_le, ◌⊎◌, inl, inr, List, [], ◌∷◌, length, get_or, take, filter, count_by, sum_by, IsPermutation, zero-add, add-one, subst, refl, sym, ◌∙◌, ap, arith}
use Rattle.std.specs.List.{list_any}
use Rattle.std.proofs.lemmas.List.Sums.{sum_by-cons}
use Rattle.std.proofs.lemmas.List.Sorted.{sum_by-IsPermutation, All-permutation}
use Rattle.std.proofs.lemmas.List.Elements.{filter_passes}
use Rattle.std.proofs.lemmas.Bool.{lt-ltb, le-ltb, ltb-true, ltb-false, le-leb, lt-leb, cases_lt, or_right}
use Rattle.elf_image.specs.Elf.{shares, overlaps, is_within}
use Rattle.elf_image.specs.Working.Spans.{is_filled, IsInOrder, end_of, reach_of}
use Rattle.elf_image.specs.declared.headers.ProgramHeader.{ProgramHeader}
use Rattle.elf_image.specs.declared.headers.SectionHeader.{SectionHeader}

-- ---- any

pub any_at : {X : Type 0} (p : X → Bool) (xs : List X) (i : ℕ) (d : X) → i < length xs → p (get_or xs i d) ≡ true → list_any p xs ≡ true
any_at p [] i d below h = absurd (omega arith)
any_at p (x ∷ xs) zero d below h = ap (λ b. b || list_any p xs) h
any_at p (x ∷ xs) (suc i) d below h = or_right (p x) (list_any p xs) (any_at p xs i d (omega arith) h)

pub any_none : {X : Type 0} (p : X → Bool) (xs : List X) → ((i : ℕ) (d : X) → i < length xs → p (get_or xs i d) ≡ false) → list_any p xs ≡ false
any_none p [] h = refl
any_none p (x ∷ xs) h =
    ap (λ b. b || list_any p xs) (h 0 x (omega arith)) ∙ any_none p xs (λ i d below. h (suc i) d (omega arith))

any-filter_cases : {X : Type 0} (p q : X → Bool) (x : X) (xs : List X) (b : Bool) → q x ≡ b → (b ≡ false → p x ≡ false)
    → list_any p (filter q xs) ≡ list_any p xs → list_any p (cond b (x ∷ filter q xs) (filter q xs)) ≡ (p x || list_any p xs)
any-filter_cases p q x xs true is out rest = ap (λ b. p x || b) rest
any-filter_cases p q x xs false is out rest = rest ∙ sym (ap (λ b. b || list_any p xs) (out refl))

-- a filter that keeps whatever passes changes nothing
pub any-filter : {X : Type 0} (p q : X → Bool) → ((x : X) → q x ≡ false → p x ≡ false) → (xs : List X) → list_any p (filter q xs) ≡ list_any p xs
any-filter p q out [] = refl
any-filter p q out (x ∷ xs) = any-filter_cases p q x xs (q x) refl (out x) (any-filter p q out xs)

counts_one : (b any : Bool) (n : ℕ) → any ≡ nat_lt 0 n → (b || any) ≡ nat_lt 0 (cond b 1 0 + n)
counts_one true any n rest = sym (lt-ltb 0 (1 + n) (omega arith))
counts_one false any n rest = rest ∙ ap (nat_lt 0) (sym (zero-add n))

any_counts : {X : Type 0} (p : X → Bool) (xs : List X) → list_any p xs ≡ nat_lt 0 (count_by p xs)
any_counts p [] = refl
any_counts p (x ∷ xs) =
    counts_one (p x) (list_any p xs) (count_by p xs) (any_counts p xs) ∙ sym (ap (nat_lt 0) (sum_by-cons (λ y. cond (p y) 1 0) x xs))

pub any-permutation : {X : Type 0} (p : X → Bool) (xs ys : List X) → IsPermutation xs ys → list_any p ys ≡ list_any p xs
any-permutation p xs ys moved =
    any_counts p ys ∙ ap (nat_lt 0) (sum_by-IsPermutation (λ y. cond (p y) 1 0) xs ys moved) ∙ sym (any_counts p xs)

-- ---- overlaps do not depend on the order

pair_count : List ProgramHeader → ℕ
pair_count [] = 0
pair_count (x ∷ xs) = count_by (shares x) xs + pair_count xs

overlaps_counts : (xs : List ProgramHeader) → overlaps xs ≡ nat_lt 0 (pair_count xs)
unfolding pair_count
overlaps_counts [] = refl
overlaps_counts (x ∷ xs) =
    ap (λ b. b || overlaps xs) (any_counts (shares x) xs) ∙ ap (λ b. nat_lt 0 (count_by (shares x) xs) || b) (overlaps_counts xs)
    ∙ some_of (count_by (shares x) xs) (pair_count xs)
  where
    some_of : (m n : ℕ) → (nat_lt 0 m || nat_lt 0 n) ≡ nat_lt 0 (m + n)
    some_of m n = grind arith

sum_by-add : {X : Type 0} (f g : X → ℕ) (xs : List X) → sum_by (λ x. f x + g x) xs ≡ sum_by f xs + sum_by g xs
sum_by-add f g [] = refl
sum_by-add f g (x ∷ xs) =
    let e = sum_by-add f g xs in
    let a = sum_by-cons (λ x. f x + g x) x xs in
    let b = sum_by-cons f x xs in
    let c = sum_by-cons g x xs in
    omega (arith, a, b, c, e)

sum_by-same : {X : Type 0} (f g : X → ℕ) → ((x : X) → f x ≡ g x) → (xs : List X) → sum_by f xs ≡ sum_by g xs
sum_by-same f g same [] = refl
sum_by-same f g same (x ∷ xs) =
    let e = sum_by-same f g same xs in
    let a = sum_by-cons f x xs in
    let b = sum_by-cons g x xs in
    let h = same x in
    omega (arith, a, b, e, h)

shares_sym : (a b : ProgramHeader) → shares a b ≡ shares b a
shares_sym a b = grind arith

-- each ordered pair of members that share an address, and each member that shares one with itself
all_pairs : List ProgramHeader → ℕ
all_pairs xs = sum_by (λ x. count_by (shares x) xs) xs

itself : ProgramHeader → ℕ
itself x = cond (shares x x) 1 0

all_pairs-is : (xs : List ProgramHeader) → all_pairs xs ≡ sum_by itself xs + 2 * pair_count xs
unfolding all_pairs itself pair_count
all_pairs-is [] = refl
all_pairs-is (x ∷ xs) =
    let rest = all_pairs-is xs in
    let front = sum_by-cons (λ y. count_by (shares y) (x ∷ xs)) x xs in
    let own = sum_by-cons (λ y. cond (shares x y) 1 0) x xs in
    let each = sum_by-same (λ y. count_by (shares y) (x ∷ xs)) (λ y. cond (shares x y) 1 0 + count_by (shares y) xs)
    (λ y. sum_by-cons (λ z. cond (shares y z) 1 0) x xs ∙ ap (λ b. cond b 1 0 + count_by (shares y) xs) (shares_sym y x)) xs in
    let added = sum_by-add (λ y. cond (shares x y) 1 0) (λ y. count_by (shares y) xs) xs in
    let ours = sum_by-cons (λ y. cond (shares y y) 1 0) x xs in
    omega (arith, rest, front, own, each, added, ours)

all_pairs-permutation : (xs ys : List ProgramHeader) → IsPermutation xs ys → all_pairs ys ≡ all_pairs xs
unfolding all_pairs
all_pairs-permutation xs ys moved =
    sum_by-IsPermutation (λ x. count_by (shares x) ys) xs ys moved
    ∙ sum_by-same (λ x. count_by (shares x) ys) (λ x. count_by (shares x) xs)
    (λ x. sum_by-IsPermutation (λ y. cond (shares x y) 1 0) xs ys moved) xs

pub overlaps-permutation : (xs ys : List ProgramHeader) → IsPermutation xs ys → overlaps ys ≡ overlaps xs
overlaps-permutation xs ys moved =
    let a = all_pairs-is xs in
    let b = all_pairs-is ys in
    let c = all_pairs-permutation xs ys moved in
    let d = sum_by-IsPermutation itself xs ys moved in
    let same : pair_count ys ≡ pair_count xs = omega (arith, a, b, c, d) in
    overlaps_counts ys ∙ ap (nat_lt 0) same ∙ sym (overlaps_counts xs)

-- ---- nor on segments without addresses

shares_none : (a b : ProgramHeader) → is_filled b ≡ false → shares a b ≡ false
shares_none a b empty = let none = ltb-false 0 b.size empty in le-ltb _ _ (omega (arith, none))

overlaps-filter_cases : (x : ProgramHeader) (xs : List ProgramHeader) (b : Bool) → is_filled x ≡ b → overlaps (filter is_filled xs) ≡ overlaps xs
    → overlaps (cond b (x ∷ filter is_filled xs) (filter is_filled xs)) ≡ (list_any (shares x) xs || overlaps xs)
overlaps-filter_cases x xs true is rest =
    ap (λ b. b || overlaps (filter is_filled xs)) (any-filter (shares x) is_filled (λ y. shares_none x y) xs) ∙ ap (λ b. list_any (shares x) xs || b) rest
overlaps-filter_cases x xs false is rest =
    rest ∙ sym (ap (λ b. b || overlaps xs) (any_none (shares x) xs (λ i d below. shares_sym x (get_or xs i d) ∙ shares_none (get_or xs i d) x is)))

pub overlaps-filter : (xs : List ProgramHeader) → overlaps (filter is_filled xs) ≡ overlaps xs
overlaps-filter [] = refl
overlaps-filter (x ∷ xs) = overlaps-filter_cases x xs (is_filled x) refl (overlaps-filter xs)

pub overlaps-in_order : (loaded spans : List ProgramHeader) → IsInOrder loaded spans → overlaps spans ≡ overlaps loaded
overlaps-in_order loaded spans order = overlaps-permutation (filter is_filled loaded) spans order.same ∙ overlaps-filter loaded

-- ---- where two segments overlap

overlaps_at : (xs : List ProgramHeader) (j i : ℕ) (d : ProgramHeader) → j < i → i < length xs → shares (get_or xs j d) (get_or xs i d) ≡ true → overlaps xs ≡ true
overlaps_at [] j i d before below h = absurd (omega arith)
overlaps_at (x ∷ xs) j zero d before below h = absurd (omega arith)
overlaps_at (x ∷ xs) zero (suc i) d before below h = ap (λ b. b || overlaps xs) (any_at (shares x) xs i d (omega arith) h)
overlaps_at (x ∷ xs) (suc j) (suc i) d before below h =
    or_right (list_any (shares x) xs) (overlaps xs) (overlaps_at xs j i d (omega arith) (omega arith) h)

pub overlaps_none : (xs : List ProgramHeader) → ((j i : ℕ) (d : ProgramHeader) → j < i → i < length xs → shares (get_or xs j d) (get_or xs i d) ≡ false) → overlaps xs ≡ false
overlaps_none [] h = refl
overlaps_none (x ∷ xs) h =
    ap (λ b. b || overlaps xs) (any_none (shares x) xs (λ i d below. h 0 (suc i) d (omega arith) (omega arith)))
    ∙ overlaps_none xs (λ j i d before below. h (suc j) (suc i) d (omega arith) (omega arith))

-- ---- reaches

pub reach_bound : (xs : List ProgramHeader) (k j : ℕ) (d : ProgramHeader) → j < k → j < length xs → end_of (get_or xs j d) ≤ reach_of (take k xs)
reach_bound [] k j d before below = absurd (omega arith)
reach_bound (x ∷ xs) zero j d before below = absurd (omega arith)
reach_bound (x ∷ xs) (suc k) zero d before below = omega arith
reach_bound (x ∷ xs) (suc k) (suc j) d before below = let h = reach_bound xs k j d (omega arith) (omega arith) in omega (arith, h)

reach_more_suc : (xs : List ProgramHeader) (i : ℕ) (d : ProgramHeader) → i < length xs → reach_of (take (suc i) xs) ≡ max (reach_of (take i xs)) (end_of (get_or xs i d))
reach_more_suc [] i d below = absurd (omega arith)
reach_more_suc (x ∷ xs) zero d below = omega arith
reach_more_suc (x ∷ xs) (suc i) d below = let h = reach_more_suc xs i d (omega arith) in omega (arith, h)

pub reach_more : (xs : List ProgramHeader) (i : ℕ) (d : ProgramHeader) → i < length xs → reach_of (take (i + 1) xs) ≡ max (reach_of (take i xs)) (end_of (get_or xs i d))
reach_more xs i d below = rw add-one (reach_more_suc xs i d below)

-- a reach above zero is the end of some segment
pub record IsEndBefore (xs : List ProgramHeader) (k reach : ℕ) (d : ProgramHeader) : Type 0 where
  pub place : ℕ
  pub before : place < k
  pub below : place < length xs
  pub is : end_of (get_or xs place d) ≡ reach

reach_later : (x : ProgramHeader) (xs : List ProgramHeader) (k reach : ℕ) (d : ProgramHeader) → IsEndBefore xs k reach d → IsEndBefore (x ∷ xs) (suc k) reach d
reach_later x xs k reach d e = record { place = suc e.place; before = omega (arith, e.before); below = omega (arith, e.below); is = e.is }

pub reach_attained : (xs : List ProgramHeader) (k : ℕ) (d : ProgramHeader) → 0 < reach_of (take k xs) → IsEndBefore xs k (reach_of (take k xs)) d
reach_attained [] zero d some = absurd (omega arith)
reach_attained [] (suc k) d some = absurd (omega arith)
reach_attained (x ∷ xs) zero d some = absurd (omega arith)
reach_attained (x ∷ xs) (suc k) d some =
    elim (cases_lt (end_of x) (reach_of (take k xs))) as (λ _. IsEndBefore (x ∷ xs) (suc k) (max (end_of x) (reach_of (take k xs))) d) [
      | inl later ↦
          let e : reach_of (take k xs) ≡ max (end_of x) (reach_of (take k xs)) = omega arith in
          subst (λ r. IsEndBefore (x ∷ xs) (suc k) r d) e (reach_later x xs k _ d (reach_attained xs k d (omega arith)))
      | inr first ↦ record { place = 0; before = omega arith; below = omega arith; is = omega arith }
    ]

-- ---- the answers

all_filled : (loaded spans : List ProgramHeader) → IsInOrder loaded spans → (i : ℕ) (d : ProgramHeader) → i < length spans → 0 < (get_or spans i d).size
all_filled loaded spans order i d below =
    ltb-true 0 _ (All-permutation (λ x. is_filled x ≡ true) (filter is_filled loaded) spans order.same (filter_passes is_filled loaded) i d below)

pub overlap_found : (loaded spans : List ProgramHeader) → IsInOrder loaded spans → (i : ℕ) (d : ProgramHeader) → i < length spans
    → (get_or spans i d).address < reach_of (take i spans) → overlaps loaded ≡ true
overlap_found loaded spans order i d below h =
    let e = reach_attained spans i d (omega (arith, h)) in
    let low = order.rises e.place i d (omega (arith, e.before)) below in
    let filled = all_filled loaded spans order i d below in
    sym (overlaps-in_order loaded spans order)
    ∙ overlaps_at spans e.place i d e.before below (lt-ltb _ _ (omega (arith, low, filled, h, e.is)))

pub no_overlap : (xs : List ProgramHeader) (i j : ℕ) (d : ProgramHeader) → i < length xs → j < i → reach_of (take i xs) ≤ (get_or xs i d).address
    → shares (get_or xs j d) (get_or xs i d) ≡ false
no_overlap xs i j d below before h =
    let bound = reach_bound xs i j d before (omega arith) in
    le-ltb _ _ (omega (arith, bound, h))

-- ---- sections in segments

within_none : (section : SectionHeader) → 0 < section.size → (x : ProgramHeader) → is_filled x ≡ false → is_within section x ≡ false
within_none section some x empty = let none = ltb-false 0 x.size empty in grind (arith, none)

pub code_fits-in_order : (loaded spans : List ProgramHeader) → IsInOrder loaded spans → (section : SectionHeader) → 0 < section.size
    → list_any (is_within section) spans ≡ list_any (is_within section) loaded
code_fits-in_order loaded spans order section some =
    any-permutation (is_within section) (filter is_filled loaded) spans order.same ∙ any-filter (is_within section) is_filled (within_none section some) loaded

-- the spans before count begin by the section's address, those from count on don't
pub within_by_reach : (spans : List ProgramHeader) (section : SectionHeader) (count : ℕ) (d : ProgramHeader) → 0 < section.size → count ≤ length spans
    → ((i : ℕ) (e : ProgramHeader) → i < count → (get_or spans i e).address ≤ section.address)
    → ((i : ℕ) (e : ProgramHeader) → count ≤ i → i < length spans → section.address < (get_or spans i e).address)
    → nat_le (section.address + section.size) (reach_of (take count spans)) ≡ list_any (is_within section) spans
within_by_reach spans section count d some within low high =
    elim (cases_lt (reach_of (take count spans)) (section.address + section.size)) [
      | inl short ↦
          leb_off short
          ∙ sym (any_none (is_within section) spans (λ i e below. elim (cases_lt i count) [
            | inl before ↦ let bound = reach_bound spans count i e before below in not_within section (get_or spans i e) (inl (omega (arith, bound, short)))
            | inr after ↦ not_within section (get_or spans i e) (inr (high i e after below))
          ]))
      | inr long ↦
          le-leb _ _ long
          ∙ sym (let e = reach_attained spans count d (omega (arith, long, some)) in
          any_at (is_within section) spans e.place d e.below
          (is_in section (get_or spans e.place d) (low e.place d e.before) (omega (arith, e.is, long))))
    ]
  where
    leb_off : {m n : ℕ} → m < n → nat_le n m ≡ false
    leb_off {m} {n} h = lt-leb n m h

    not_within : (section : SectionHeader) (x : ProgramHeader) → (end_of x < section.address + section.size) ⊎ (section.address < x.address) → is_within section x ≡ false
    not_within section x h = grind arith

    is_in : (section : SectionHeader) (x : ProgramHeader) → x.address ≤ section.address → section.address + section.size ≤ end_of x → is_within section x ≡ true
    is_in section x low_enough high_enough = grind arith
