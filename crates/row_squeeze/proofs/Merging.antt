-- One column more of the sums over chains, and how large they get.
use Rattle.std.proofs.Common.{◌≡◌, ℕ, ◌+◌, ◌*◌, ◌^◌, ◌<◌, ◌≤◌, ◌==◌, Bool, true, false, cond, List, [], ◌∷◌, ◌++◌, map, length, get_or, take, set, replicate, ℤ, pos, ◌+ℤ◌, ◌*ℤ◌, unsigned_abs, refl, sym, ap, ◌∙◌, zero-add, inl, inr, ◌⊎◌, arith}
use Rattle.std.proofs.lemmas.Bool.{eq-eqb, ne_eqb, cases_eq}
use Rattle.std.proofs.lemmas.Int.{ints}
use Rattle.std.proofs.lemmas.List.{length-map, length-set, get_or-set_same, get_or-set_other, take_more, same_lists, map_more, length-take-le, length-replicate, get_or-replicate}
use Rattle.std.proofs.lemmas.List.Elements.{All-head, All-tail, All-take, All-get_or, All-from_get_or}
use Rattle.std.proofs.lemmas.List.FromFn.{length-map-range_with_len, get_or-map-range_with_len}
use Rattle.whole_rows.specs.Row.{IsInRange, AreInRange}
use Rattle.whole_rows.specs.Rows.{product_sum}
use Rattle.row_squeeze.specs.Squeezed.{members, merged}
use Rattle.row_squeeze.specs.Working.Parts.{AreShort}
use Rattle.row_squeeze.proofs.Products.{times_one, times_zero}

-- ---- one column more

sum_push : (xs : List ℤ) (ns : List ℕ) (x : ℤ) (n : ℕ) → length xs ≡ length ns → product_sum (xs ++ x ∷ []) (ns ++ n ∷ []) ≡ product_sum xs ns +ℤ x *ℤ pos n
sum_push [] [] x n e = omega (arith, ints)
sum_push [] (m ∷ ns) x n e = absurd (omega arith)
sum_push (y ∷ xs) [] x n e = absurd (omega arith)
sum_push (y ∷ xs) (m ∷ ns) x n e = let rest = sum_push xs ns x n (omega arith) in omega (arith, ints)

-- 1 for the place itself, 0 for any other
abbrev at_place : ℕ → ℕ → ℕ
at_place k other = cond (other == k) 1 0

-- the sum at one place
sum_more : (places : List ℕ) (xs : List ℤ) (j k : ℕ) → length places ≡ length xs → j < length xs → product_sum (take (j + 1) xs) (members (take (j + 1) places) k) ≡ product_sum (take j xs) (members (take j places) k) +ℤ get_or xs j (pos 0) *ℤ pos (at_place k (get_or places j 0))
sum_more places xs j k e h =
    let same : length (take j xs) ≡ length (map (at_place k) (take j places)) = length-take-le j xs (omega arith) ∙ sym (length-map (take j places) (at_place k) ∙ length-take-le j places (omega arith)) in
    rw (take_more xs j (pos 0) h, map_more (at_place k) places j 0 (omega arith)) (sum_push (take j xs) (map (at_place k) (take j places)) (get_or xs j (pos 0)) (at_place k (get_or places j 0)) same)

pub merged-at : (count : ℕ) (places : List ℕ) (xs : List ℤ) (k : ℕ) (d : ℤ) → k < count → get_or (merged count places xs) k d ≡ product_sum xs (members places k)
merged-at count places xs k d h = get_or-map-range_with_len (λ place. product_sum xs (members places place)) 0 count k k d h (zero-add k)

pub merged-length : (count : ℕ) (places : List ℕ) (xs : List ℤ) → length (merged count places xs) ≡ count
merged-length count places xs = length-map-range_with_len (λ place. product_sum xs (members places place)) 0 count

-- the sum at the column's place with one entry more
abbrev next : ℕ → List ℕ → List ℤ → ℕ → ℤ
next count places xs j = get_or (merged count (take j places) (take j xs)) (get_or places j 0) (pos 0) +ℤ get_or xs j (pos 0)

sums_more : (count : ℕ) (places : List ℕ) (xs : List ℤ) (j k : ℕ) (d : ℤ) → length places ≡ length xs → j < length xs → get_or places j 0 < count → k < count → get_or (set (merged count (take j places) (take j xs)) (get_or places j 0) (next count places xs j)) k d ≡ get_or (merged count (take (j + 1) places) (take (j + 1) xs)) k d
sums_more count places xs j k d e h within l = by_place (cases_eq k (get_or places j 0))
  where
    more : get_or (merged count (take (j + 1) places) (take (j + 1) xs)) k d ≡ product_sum (take j xs) (members (take j places) k) +ℤ get_or xs j (pos 0) *ℤ pos (at_place k (get_or places j 0))
    more = merged-at count (take (j + 1) places) (take (j + 1) xs) k d l ∙ sum_more places xs j k e h

    by_place : (k ≡ get_or places j 0) ⊎ (k ≡ get_or places j 0 → ⊥) → get_or (set (merged count (take j places) (take j xs)) (get_or places j 0) (next count places xs j)) k d ≡ get_or (merged count (take (j + 1) places) (take (j + 1) xs)) k d
    by_place (inl q) =
        let one : at_place k (get_or places j 0) ≡ 1 = rw (eq-eqb (get_or places j 0) k (sym q)) refl in
        let first : get_or (set (merged count (take j places) (take j xs)) (get_or places j 0) (next count places xs j)) k d ≡ next count places xs j =
        ap (λ (i : ℕ). get_or (set (merged count (take j places) (take j xs)) (get_or places j 0) (next count places xs j)) i d) q ∙ get_or-set_same (merged count (take j places) (take j xs)) (get_or places j 0) (next count places xs j) d (rw (merged-length count (take j places) (take j xs)) within) in
        let there : get_or (merged count (take j places) (take j xs)) (get_or places j 0) (pos 0) ≡ product_sum (take j xs) (members (take j places) k) =
        ap (λ (i : ℕ). get_or (merged count (take j places) (take j xs)) i (pos 0)) (sym q) ∙ merged-at count (take j places) (take j xs) k (pos 0) l in
        let last : get_or xs j (pos 0) *ℤ pos (at_place k (get_or places j 0)) ≡ get_or xs j (pos 0) =
        ap (λ (n : ℕ). get_or xs j (pos 0) *ℤ pos n) one ∙ times_one (get_or xs j (pos 0)) in
        first ∙ ap (λ (x : ℤ). x +ℤ get_or xs j (pos 0)) there ∙ ap (λ (x : ℤ). product_sum (take j xs) (members (take j places) k) +ℤ x) (sym last) ∙ sym more
    by_place (inr n) =
        let none : at_place k (get_or places j 0) ≡ 0 = rw (ne_eqb (get_or places j 0) k (λ q. n (sym q))) refl in
        let last = times_zero (get_or xs j (pos 0)) (at_place k (get_or places j 0)) none in
        let first : get_or (set (merged count (take j places) (take j xs)) (get_or places j 0) (next count places xs j)) k d ≡ product_sum (take j xs) (members (take j places) k) =
        get_or-set_other (merged count (take j places) (take j xs)) (get_or places j 0) k (next count places xs j) d n ∙ merged-at count (take j places) (take j xs) k d l in
        let zero : product_sum (take j xs) (members (take j places) k) +ℤ get_or xs j (pos 0) *ℤ pos (at_place k (get_or places j 0)) ≡ product_sum (take j xs) (members (take j places) k) = omega (arith, ints) in
        first ∙ sym zero ∙ sym more

pub merged_more : (count : ℕ) (places : List ℕ) (xs : List ℤ) (j : ℕ) → length places ≡ length xs → j < length xs → get_or places j 0 < count → set (merged count (take j places) (take j xs)) (get_or places j 0) (get_or (merged count (take j places) (take j xs)) (get_or places j 0) (pos 0) +ℤ get_or xs j (pos 0)) ≡ merged count (take (j + 1) places) (take (j + 1) xs)
merged_more count places xs j e h within =
    let long : length (set (merged count (take j places) (take j xs)) (get_or places j 0) (next count places xs j)) ≡ count =
    length-set (merged count (take j places) (take j xs)) (get_or places j 0) (next count places xs j) ∙ merged-length count (take j places) (take j xs) in
    same_lists (set (merged count (take j places) (take j xs)) (get_or places j 0) (next count places xs j)) (merged count (take (j + 1) places) (take (j + 1) xs)) (long ∙ sym (merged-length count (take (j + 1) places) (take (j + 1) xs))) (λ k d l. sums_more count places xs j k d e h within (omega arith))

-- ---- how large the sums get

choice_size : (x : ℤ) (t : Bool) → unsigned_abs (x *ℤ pos (cond t 1 0)) ≤ unsigned_abs x
choice_size x true = omega (arith, ints, times_one x)
choice_size x false = omega (arith, ints, times_zero x 0 refl)

pub sum_size : (xs : List ℤ) (places : List ℕ) (k : ℕ) → AreShort xs → unsigned_abs (product_sum xs (members places k)) ≤ length xs * 2 ^ 40
sum_size [] places k short = omega arith
sum_size (x ∷ xs) [] k short = omega arith
sum_size (x ∷ xs) (place ∷ places) k short =
    let one : unsigned_abs x < 2 ^ 40 = All-head (λ y. unsigned_abs y < 2 ^ 40) x xs short in
    let first = choice_size x (place == k) in
    let rest = sum_size xs places k (All-tail (λ y. unsigned_abs y < 2 ^ 40) x xs short) in
    omega (arith, ints)

pub merged-in_range : (count : ℕ) (places : List ℕ) (xs : List ℤ) → AreShort xs → length xs < 2 ^ 64 → AreInRange (merged count places xs)
merged-in_range count places xs short few =
    All-from_get_or IsInRange (merged count places xs) (pos 0) (λ k h. let l : k < count = rw merged-length at h in let size = sum_size xs places k short in rw (merged-at count places xs k (pos 0) l) (omega arith))

pub next-in_range : (count : ℕ) (places : List ℕ) (xs : List ℤ) (j : ℕ) → length places ≡ length xs → j < length xs → get_or places j 0 < count → AreShort xs → length xs < 2 ^ 64 → IsInRange (get_or (merged count (take j places) (take j xs)) (get_or places j 0) (pos 0) +ℤ get_or xs j (pos 0))
next-in_range count places xs j e h within short few =
    let sum = merged-at count (take j places) (take j xs) (get_or places j 0) (pos 0) within in
    let size = sum_size (take j xs) (take j places) (get_or places j 0) (All-take (λ y. unsigned_abs y < 2 ^ 40) j xs short) in
    let one : unsigned_abs (get_or xs j (pos 0)) < 2 ^ 40 = All-get_or (λ y. unsigned_abs y < 2 ^ 40) xs j (pos 0) h short in
    let long = length-take-le j xs (omega arith) in
    omega (arith, ints)

pub merged_none : (count : ℕ) (places : List ℕ) (xs : List ℤ) → replicate count (pos 0) ≡ merged count (take 0 places) (take 0 xs)
merged_none count places xs =
    same_lists (replicate count (pos 0)) (merged count [] []) (length-replicate count (pos 0) ∙ sym (merged-length count [] [])) (λ k d l. let h : k < count = rw length-replicate at l in get_or-replicate count k (pos 0) d h ∙ sym (merged-at count [] [] k d h))
