-- A combination with 1 times a row, formed at the places alone where the pivot row isn't 0.
use Rattle.std.proofs.Common.{◌≡◌, ℕ, zero, suc, ◌+◌, ◌-◌, ◌*◌, ◌^◌, ◌<◌, ◌≤◌, Bool, true, false, cond, List, [], ◌∷◌, ◌++◌, map, length, get_or, take, drop, set, All, ℤ, pos, ◌-ℤ◌, ◌*ℤ◌, refl, sym, ap, ◌∙◌, subst, append_assoc, get_or-set_same, get_or-set_other, arith}
use Rattle.std.specs.Prelude.{unsigned_abs, Option, None}
use Rattle.std.proofs.Math.IntN.{*ℤ-zero}
use Rattle.std.proofs.Math.Nat.{mul-le-mul_left}
use Rattle.std.proofs.lemmas.Int.{ints, unsigned_abs-mul}
use Rattle.std.proofs.lemmas.List.{get_or_at, set_at, length-append, drop_more, drop_all, take_more}
use Rattle.std.proofs.lemmas.List.Elements.{All-nil, All-cons, All-head, All-tail, All-weaker, All-get_or}
use Rattle.whole_rows.specs.Row.{IsInRange, is_zero}
use Rattle.whole_rows.proofs.Combinations.{is_in_range-yes}
use Rattle.whole_rows.proofs.Whole.{difference_size, narrow_product_size}
use Rattle.whole_simplex.specs.Sizes.{AreSmall, AreWithin, entries_of}
use Rattle.whole_simplex.specs.Places.{places_from, places_of}
use Rattle.whole_simplex.specs.Outcome.{AreNarrow, combination_pairs, elimination_pairs}
use Rattle.whole_simplex.specs.Tables.{entry, combined, eliminated}
use Rattle.whole_simplex.proofs.Eliminated.{zero_from_test}
use Rattle.whole_simplex.proofs.Primitive.{one_times}
use Rattle.whole_simplex.proofs.Scaled.{combined_first}

-- ---- the places of a row

places_within : (place : ℕ) (row : List ℤ) → All (λ k. k < place + length row) (places_from place row)
places_within place [] = All-nil (λ k. k < place + 0)
places_within place (x ∷ row) =
    by_test (is_zero x) (All-weaker (λ k. k < suc place + length row) (λ k. k < place + length (x ∷ row)) (λ k h. omega arith) (places_from (suc place) row) (places_within (suc place) row))
  where
    by_test : (b : Bool) → All (λ k. k < place + length (x ∷ row)) (places_from (suc place) row) → All (λ k. k < place + length (x ∷ row)) (cond b (places_from (suc place) row) (place ∷ places_from (suc place) row))
    by_test true later = later
    by_test false later = All-cons (λ k. k < place + length (x ∷ row)) place (places_from (suc place) row) (omega arith) later

pub place_within : (places : List ℕ) (pivot : List ℤ) (i : ℕ) → places ≡ places_of pivot → i < length places → get_or places i 0 < length pivot
place_within places pivot i e h =
    All-get_or (λ k. k < length pivot) places i 0 h (subst (λ (ks : List ℕ). All (λ k. k < length pivot) ks) (sym e) (All-weaker (λ k. k < 0 + length pivot) (λ k. k < length pivot) (λ k l. omega arith) (places_of pivot) (places_within 0 pivot)))

-- each place is less than those after it
abbrev AreRising : List ℕ → Type 0
AreRising [] = Unit {0}
AreRising (k ∷ ks) = All (λ j. k < j) ks × AreRising ks

places_from_on : (place : ℕ) (row : List ℤ) → All (λ k. place ≤ k) (places_from place row)
places_from_on place [] = All-nil (λ k. place ≤ k)
places_from_on place (x ∷ row) =
    by_test (is_zero x) (All-weaker (λ k. suc place ≤ k) (λ k. place ≤ k) (λ k h. omega arith) (places_from (suc place) row) (places_from_on (suc place) row))
  where
    by_test : (b : Bool) → All (λ k. place ≤ k) (places_from (suc place) row) → All (λ k. place ≤ k) (cond b (places_from (suc place) row) (place ∷ places_from (suc place) row))
    by_test true later = later
    by_test false later = All-cons (λ k. place ≤ k) place (places_from (suc place) row) (omega arith) later

places_rise : (place : ℕ) (row : List ℤ) → AreRising (places_from place row)
places_rise place [] = tt
places_rise place (x ∷ row) = by_test (is_zero x) (places_rise (suc place) row)
  where
    by_test : (b : Bool) → AreRising (places_from (suc place) row) → AreRising (cond b (places_from (suc place) row) (place ∷ places_from (suc place) row))
    by_test true later = later
    by_test false later =
        (All-weaker (λ k. suc place ≤ k) (λ k. place < k) (λ k h. omega arith) (places_from (suc place) row) (places_from_on (suc place) row), later)

drop_rises : (i : ℕ) (ks : List ℕ) → AreRising ks → AreRising (drop i ks)
drop_rises zero ks h = h
drop_rises (suc i) [] h = tt
drop_rises (suc i) (k ∷ ks) h = drop_rises i ks h.1

-- ---- one place after the other

abbrev pub subtracted : List ℕ → List ℤ → ℤ → List ℤ → List ℤ
subtracted [] row a pivot = row
subtracted (place ∷ places) row a pivot = subtracted places (set row place (entry row place -ℤ a *ℤ entry pivot place)) a pivot

longer : (l : List ℤ) (x : ℤ) → length (l ++ x ∷ []) ≡ suc (length l)
longer l x = length-append l (x ∷ []) ∙ omega arith

joined : (l : List ℤ) (x : ℤ) (rest : List ℤ) → (l ++ x ∷ []) ++ rest ≡ l ++ x ∷ rest
joined l x rest = append_assoc l (x ∷ []) rest

-- the entries that are done, and the pivot row's entries at their places, before the others
subtracted_from : (done before row pivot : List ℤ) (a : ℤ) → length done ≡ length before → length row ≡ length pivot → subtracted (places_from (length done) pivot) (done ++ row) a (before ++ pivot) ≡ done ++ combined (pos 1) row a pivot
subtracted_from done before [] [] a same long = refl
subtracted_from done before [] (y ∷ pivot) a same long = absurd (omega arith)
subtracted_from done before (x ∷ row) [] a same long = absurd (omega arith)
subtracted_from done before (x ∷ row) (y ∷ pivot) a same long =
    by_test (is_zero y) refl
    (λ e. next e (subtracted_from (done ++ e ∷ []) (before ++ y ∷ []) row pivot a (longer done e ∙ ap suc same ∙ sym (longer before y)) (omega arith)))
  where
    here : entry (done ++ x ∷ row) (length done) ≡ x
    here = get_or_at done x row (pos 0) (length done) refl

    there : entry (before ++ y ∷ pivot) (length done) ≡ y
    there = get_or_at before y pivot (pos 0) (length done) (sym same)

    next : (e : ℤ) → subtracted (places_from (length (done ++ e ∷ [])) pivot) ((done ++ e ∷ []) ++ row) a ((before ++ y ∷ []) ++ pivot) ≡ (done ++ e ∷ []) ++ combined (pos 1) row a pivot → subtracted (places_from (suc (length done)) pivot) (done ++ e ∷ row) a (before ++ y ∷ pivot) ≡ done ++ e ∷ combined (pos 1) row a pivot
    next e step = (rw (longer done e, joined done e row, joined before y pivot) at step) ∙ joined done e (combined (pos 1) row a pivot)

    stays : is_zero y ≡ true → x ≡ pos 1 *ℤ x -ℤ a *ℤ y
    stays z =
        let none : y ≡ pos 0 = zero_from_test y z in
        omega (arith, ints, one_times x, ap (λ t. a *ℤ t) none, *ℤ-zero a)

    by_test : (b : Bool) → is_zero y ≡ b → ((e : ℤ) → subtracted (places_from (suc (length done)) pivot) (done ++ e ∷ row) a (before ++ y ∷ pivot) ≡ done ++ e ∷ combined (pos 1) row a pivot) → subtracted (cond b (places_from (suc (length done)) pivot) (length done ∷ places_from (suc (length done)) pivot)) (done ++ x ∷ row) a (before ++ y ∷ pivot) ≡ done ++ (pos 1 *ℤ x -ℤ a *ℤ y) ∷ combined (pos 1) row a pivot
    by_test true z rest = rest x ∙ ap (λ e. done ++ e ∷ combined (pos 1) row a pivot) (stays z)
    by_test false z rest =
        ap (λ (e : ℤ). subtracted (places_from (suc (length done)) pivot) (set (done ++ x ∷ row) (length done) e) a (before ++ y ∷ pivot))
        (ap (λ t. t -ℤ a *ℤ entry (before ++ y ∷ pivot) (length done)) here ∙ ap (λ t. x -ℤ a *ℤ t) there ∙ ap (λ t. t -ℤ a *ℤ y) (sym (one_times x)))
        ∙ ap (λ (r : List ℤ). subtracted (places_from (suc (length done)) pivot) r a (before ++ y ∷ pivot)) (set_at done x row (pos 1 *ℤ x -ℤ a *ℤ y) (length done) refl)
        ∙ rest (pos 1 *ℤ x -ℤ a *ℤ y)

pub subtracted_is : (row pivot : List ℤ) (a : ℤ) → length row ≡ length pivot → subtracted (places_of pivot) row a pivot ≡ combined (pos 1) row a pivot
subtracted_is row pivot a long = subtracted_from [] [] row pivot a refl long

-- an entry before the places stays
entry_before : (places : List ℕ) (row : List ℤ) (a : ℤ) (pivot : List ℤ) (k : ℕ) → All (λ j. k < j) places → entry (subtracted places row a pivot) k ≡ entry row k
entry_before [] row a pivot k h = refl
entry_before (place ∷ places) row a pivot k h =
    let first : k < place = All-head (λ j. k < j) place places h in
    entry_before places (set row place (entry row place -ℤ a *ℤ entry pivot place)) a pivot k (All-tail (λ j. k < j) place places h)
    ∙ get_or-set_other row place k (entry row place -ℤ a *ℤ entry pivot place) (pos 0) (omega arith)

-- ---- the loop

split_place : (places : List ℕ) (i place : ℕ) → i < length places → place ≡ get_or places i 0 → drop i places ≡ place ∷ drop (i + 1) places
split_place places i place h at = drop_more places i 0 h ∙ ap (λ (k : ℕ). k ∷ drop (i + 1) places) (sym at)

pub subtracted_more : (places : List ℕ) (i place : ℕ) (row : List ℤ) (a : ℤ) (pivot whole : List ℤ) → i < length places → place ≡ get_or places i 0 → subtracted (drop i places) row a pivot ≡ whole → subtracted (drop (i + 1) places) (set row place (entry row place -ℤ a *ℤ entry pivot place)) a pivot ≡ whole
subtracted_more places i place row a pivot whole h at before =
    sym (ap (λ (ks : List ℕ). subtracted ks row a pivot) (split_place places i place h at)) ∙ before

pub subtracted_place : (places : List ℕ) (i place : ℕ) (row : List ℤ) (a : ℤ) (pivot whole : List ℤ) → places ≡ places_of pivot → i < length places → place ≡ get_or places i 0 → place < length row → subtracted (drop i places) row a pivot ≡ whole → entry row place -ℤ a *ℤ entry pivot place ≡ entry whole place
subtracted_place places i place row a pivot whole is h at within before =
    let rise : AreRising (place ∷ drop (i + 1) places) = subst AreRising (split_place places i place h at) (drop_rises i places (subst AreRising (sym is) (places_rise 0 pivot))) in
    sym (ap (λ (r : List ℤ). entry r place) (sym (subtracted_more places i place row a pivot whole h at before))
    ∙ entry_before (drop (i + 1) places) (set row place (entry row place -ℤ a *ℤ entry pivot place)) a pivot place rise.0
    ∙ get_or-set_same row place (entry row place -ℤ a *ℤ entry pivot place) (pos 0) within)

pub subtracted_ends : (places : List ℕ) (i : ℕ) (row : List ℤ) (a : ℤ) (pivot whole : List ℤ) → length places ≤ i → subtracted (drop i places) row a pivot ≡ whole → row ≡ whole
subtracted_ends places i row a pivot whole e before =
    sym (ap (λ (ks : List ℕ). subtracted ks row a pivot) (drop_all i places (omega arith))) ∙ before

-- ---- sizes

difference_within : (p x a y : ℤ) (bound limit : ℕ) → unsigned_abs p * unsigned_abs x + unsigned_abs a * bound ≤ limit → unsigned_abs y ≤ bound → unsigned_abs (p *ℤ x -ℤ a *ℤ y) ≤ limit
difference_within p x a y bound limit h k =
    omega (arith, ints, unsigned_abs-mul p x, unsigned_abs-mul a y, mul-le-mul_left (unsigned_abs a) k)

pub combined_within : (p a : ℤ) (row other : List ℤ) (bound limit : ℕ) → All (λ x. unsigned_abs p * unsigned_abs x + unsigned_abs a * bound ≤ limit) row → AreWithin bound other → AreWithin limit (combined p row a other)
combined_within p a [] other bound limit h k = All-nil (λ x. unsigned_abs x ≤ limit)
combined_within p a (x ∷ row) [] bound limit h k = All-nil (λ x. unsigned_abs x ≤ limit)
combined_within p a (x ∷ row) (y ∷ other) bound limit h k =
    All-cons (λ x. unsigned_abs x ≤ limit) (p *ℤ x -ℤ a *ℤ y) (combined p row a other)
    (difference_within p x a y bound limit (All-head (λ x. unsigned_abs p * unsigned_abs x + unsigned_abs a * bound ≤ limit) x row h) (All-head (λ y. unsigned_abs y ≤ bound) y other k))
    (combined_within p a row other bound limit (All-tail (λ x. unsigned_abs p * unsigned_abs x + unsigned_abs a * bound ≤ limit) x row h) (All-tail (λ y. unsigned_abs y ≤ bound) y other k))

-- the same, where all is to stay below 2^63
product_below : (p a x y : ℤ) (bound : ℕ) → unsigned_abs p * unsigned_abs x + unsigned_abs a * bound < 2 ^ 63 → unsigned_abs y ≤ bound → unsigned_abs (a *ℤ y) < 2 ^ 63
product_below p a x y bound h k = omega (arith, unsigned_abs-mul a y, mul-le-mul_left (unsigned_abs a) k)

below_is_up_to : (p a : ℤ) (row : List ℤ) (bound : ℕ) → All (λ x. unsigned_abs p * unsigned_abs x + unsigned_abs a * bound < 2 ^ 63) row → All (λ x. unsigned_abs p * unsigned_abs x + unsigned_abs a * bound ≤ 2 ^ 63 - 1) row
below_is_up_to p a row bound h =
    All-weaker (λ x. unsigned_abs p * unsigned_abs x + unsigned_abs a * bound < 2 ^ 63) (λ x. unsigned_abs p * unsigned_abs x + unsigned_abs a * bound ≤ 2 ^ 63 - 1) (λ x k. omega arith) row h

pub small_sums : (p a : ℤ) (row pivot : List ℤ) (bound : ℕ) → All (λ x. unsigned_abs p * unsigned_abs x + unsigned_abs a * bound < 2 ^ 63) row → AreWithin bound pivot → AreSmall (combined (pos 1) (map (λ x. p *ℤ x) row) a pivot)
small_sums p a row pivot bound h k =
    subst (λ (r : List ℤ). AreSmall r) (sym (combined_first p a row pivot))
    (All-weaker (λ x. unsigned_abs x ≤ 2 ^ 63 - 1) (λ x. unsigned_abs x < 2 ^ 63) (λ x l. omega arith) (combined p row a pivot)
    (combined_within p a row pivot bound (2 ^ 63 - 1) (below_is_up_to p a row bound h) k))

pub row_products : (p a : ℤ) (row : List ℤ) (bound : ℕ) → All (λ x. unsigned_abs p * unsigned_abs x + unsigned_abs a * bound < 2 ^ 63) row → All (λ x. unsigned_abs (p *ℤ x) < 2 ^ 63) row
row_products p a row bound h =
    All-weaker (λ x. unsigned_abs p * unsigned_abs x + unsigned_abs a * bound < 2 ^ 63) (λ x. unsigned_abs (p *ℤ x) < 2 ^ 63) (λ x k. omega (arith, unsigned_abs-mul p x)) row h

pub pivot_products : (p a : ℤ) (row pivot : List ℤ) (bound : ℕ) → length row ≡ length pivot → All (λ x. unsigned_abs p * unsigned_abs x + unsigned_abs a * bound < 2 ^ 63) row → AreWithin bound pivot → All (λ y. unsigned_abs (a *ℤ y) < 2 ^ 63) pivot
pivot_products p a [] [] bound same h k = All-nil (λ y. unsigned_abs (a *ℤ y) < 2 ^ 63)
pivot_products p a [] (y ∷ pivot) bound same h k = absurd (omega arith)
pivot_products p a (x ∷ row) [] bound same h k = absurd (omega arith)
pivot_products p a (x ∷ row) (y ∷ pivot) bound same h k =
    let limit = All-head (λ x. unsigned_abs p * unsigned_abs x + unsigned_abs a * bound < 2 ^ 63) x row h in
    let within = All-head (λ y. unsigned_abs y ≤ bound) y pivot k in
    All-cons (λ y. unsigned_abs (a *ℤ y) < 2 ^ 63) y pivot
    (product_below p a x y bound limit within)
    (pivot_products p a row pivot bound (omega arith) (All-tail (λ x. unsigned_abs p * unsigned_abs x + unsigned_abs a * bound < 2 ^ 63) x row h) (All-tail (λ y. unsigned_abs y ≤ bound) y pivot k))

pub small_is_within : (row : List ℤ) → AreSmall row → AreWithin (2 ^ 63 - 1) row
small_is_within row h = All-weaker (λ x. unsigned_abs x < 2 ^ 63) (λ x. unsigned_abs x ≤ 2 ^ 63 - 1) (λ x k. omega arith) row h

within_is_small : (row : List ℤ) (bound : ℕ) → bound < 2 ^ 63 → AreWithin bound row → AreSmall row
within_is_small row bound l h = All-weaker (λ x. unsigned_abs x ≤ bound) (λ x. unsigned_abs x < 2 ^ 63) (λ x k. omega arith) row h

-- ---- no pair of numbers below 2^63 is wide

product_in_range : (a b : ℤ) → unsigned_abs a < 2 ^ 63 → unsigned_abs b < 2 ^ 63 → IsInRange (a *ℤ b)
product_in_range a b h k = let size = narrow_product_size a b h k in omega arith

small_pairs : (p a : ℤ) (row other : List ℤ) → unsigned_abs p < 2 ^ 63 → unsigned_abs a < 2 ^ 63 → AreSmall row → AreSmall other → AreNarrow (combination_pairs p row a other)
small_pairs p a [] other hp ha h k = refl
small_pairs p a (x ∷ row) [] hp ha h k = refl
small_pairs p a (x ∷ row) (y ∷ other) hp ha h k =
    let hx = All-head (λ x. unsigned_abs x < 2 ^ 63) x row h in
    let hy = All-head (λ x. unsigned_abs x < 2 ^ 63) y other k in
    rw (
      is_in_range-yes (p *ℤ x) (product_in_range p x hp hx),
      is_in_range-yes (a *ℤ y) (product_in_range a y ha hy),
      is_in_range-yes (p *ℤ x -ℤ a *ℤ y) (difference_size (p *ℤ x) (a *ℤ y) (narrow_product_size p x hp hx) (narrow_product_size a y ha hy)),
    )
    (small_pairs p a row other hp ha (All-tail (λ x. unsigned_abs x < 2 ^ 63) x row h) (All-tail (λ x. unsigned_abs x < 2 ^ 63) y other k))

small_elimination : (place : ℕ) (pivot row : List ℤ) → place < length row → length row ≡ length pivot → AreSmall row → AreSmall pivot → AreNarrow (elimination_pairs place pivot row)
small_elimination place pivot row within same h k =
    by_test (is_zero (entry row place)) (small_pairs (entry pivot place) (entry row place) row pivot (k place (pos 0) (omega arith)) (h place (pos 0) within) h k)
  where
    by_test : (b : Bool) → AreNarrow (combination_pairs (entry pivot place) row (entry row place) pivot) → AreNarrow (cond b [] (combination_pairs (entry pivot place) row (entry row place) pivot))
    by_test true narrow = refl
    by_test false narrow = narrow

-- narrow entries, eliminated
pub eliminates_within : (place : ℕ) (pivot narrow new whole : List ℤ) (wide : Option (List ℤ)) (bound limit : ℕ) → wide ≡ None → entries_of narrow wide ≡ whole → AreWithin bound narrow → bound < 2 ^ 63 → AreWithin limit pivot → limit < 2 ^ 63 → place < length whole → length whole ≡ length pivot → new ≡ eliminated place pivot narrow → (entries_of new wide ≡ eliminated place pivot whole) × AreNarrow (elimination_pairs place pivot whole)
eliminates_within place pivot narrow new whole wide bound limit none is h hb k hl within same new_is =
    let same_whole : narrow ≡ whole = ap (λ (w : Option (List ℤ)). entries_of narrow w) (sym none) ∙ is in (
      ap (λ (w : Option (List ℤ)). entries_of new w) none ∙ new_is ∙ ap (λ (l : List ℤ). eliminated place pivot l) same_whole,
      small_elimination place pivot whole within same (subst AreSmall same_whole (within_is_small narrow bound hb h)) (within_is_small pivot limit hl k),
    )

-- one entry more is read
pub read_more : (row old new : List ℤ) (i : ℕ) (x : ℤ) → i < length row → old ≡ take i row → new ≡ old ++ x ∷ [] → x ≡ get_or row i (pos 0) → new ≡ take (i + 1) row
read_more row old new i x h before is at =
    is ∙ ap (λ (l : List ℤ). l ++ x ∷ []) before ∙ ap (λ (y : ℤ). take i row ++ y ∷ []) at ∙ sym (take_more row i (pos 0) h)
