-- Sets of the moments at which sources arrived.
use Rattle.std.proofs.Common.{◌≡◌, ℕ, zero, suc, ◌+◌, ◌-◌, ◌<◌, ◌≤◌, Bool, true, false, cond, List, [], ◌∷◌, ◌++◌, length, Option, Some, None, Ordering, Less, Equal, Greater, refl, sym, ap, ◌∙◌, subst, arith, inl, inr, ◌⊎◌}
use Rattle.std.specs.Prelude.{◌||◌, nat_eq, nat_lt, slice_get, slice_set, is_some}
use Rattle.std.specs.BTreeMap.{is_at}
use Rattle.std.specs.BTreeSet.{BTreeSet, contains}
use Rattle.std.specs.List.{list_any}
use Rattle.std.specs.Ordering.{is_eq, nat_cmp}
use Rattle.std.proofs.lemmas.Bool.{eqb-true, eq-eqb, ne_eqb, lt-ltb, ltb-true, or_parts}
use Rattle.std.proofs.lemmas.List.{length-set}
use Rattle.std.proofs.lemmas.Option.{same_Some}
use Rattle.osek_machine.specs.Declarations.{gap}
use Rattle.osek_machine.specs.Events.{Arrival}
use Rattle.trace_check.specs.Verdict.{moments_of}
use Rattle.trace_check.specs.Working.Arrived.{Holds, AreKept, IsLeastFrom, IsFirstFrom}
use Rattle.trace_check.proofs.NamesBack.{alike}

-- ---- lists of sets

each_more : {A : Type 0} (P : A → Type 0) (xs : List A) (y : A) → ((i : ℕ) (x : A) → slice_get xs i ≡ Some x → P x) → P y
    → (i : ℕ) (x : A) → slice_get (xs ++ y ∷ []) i ≡ Some x → P x
each_more P [] y each last zero x is = subst P (same_Some y x is) last
each_more P [] y each last (suc i) x is = absurd cc
each_more P (first ∷ xs) y each last zero x is = each 0 x is
each_more P (first ∷ xs) y each last (suc i) x is = each_more P xs y (λ j. each (suc j)) last i x is

pub set_or_same : {A : Type 0} (xs : List A) (i k : ℕ) (y x : A) → slice_get (slice_set xs i y) k ≡ Some x
    → ((k ≡ i) × (x ≡ y)) ⊎ ((k ≡ i → ⊥) × (slice_get xs k ≡ Some x))
set_or_same [] i k y x is = absurd cc
set_or_same (first ∷ xs) zero zero y x is = inl (refl, sym (same_Some y x is))
set_or_same (first ∷ xs) zero (suc k) y x is = inr ((λ e. absurd (omega (arith, e))), is)
set_or_same (first ∷ xs) (suc i) zero y x is = inr ((λ e. absurd (omega (arith, e))), is)
set_or_same (first ∷ xs) (suc i) (suc k) y x is = next (set_or_same xs i k y x is)
  where
    next : ((k ≡ i) × (x ≡ y)) ⊎ ((k ≡ i → ⊥) × (slice_get xs k ≡ Some x))
        → ((suc k ≡ suc i) × (x ≡ y)) ⊎ ((suc k ≡ suc i → ⊥) × (slice_get xs k ≡ Some x))
    next (inl both) = inl (ap suc both.0, both.1)
    next (inr other) = inr ((λ e. other.0 (omega (arith, e))), other.1)

-- ---- no arrival yet

pub kept_more : (sets : List (BTreeSet ℕ)) (set : BTreeSet ℕ) (count : ℕ) → AreKept sets count [] → set.keys ≡ [] → AreKept (sets ++ set ∷ []) (count + 1) []
kept_more sets set count kept none = record {
  count = omega (arith, kept.count, length-push);
  each = λ source found is. each_more (λ s. Holds s []) sets set kept.each (λ moment. ap (list_any (is_at (nat_cmp moment))) none) source found is;
}
  where
    length-push : length (sets ++ set ∷ []) ≡ length sets + 1
    length-push = count_push sets
      where
        count_push : (xs : List (BTreeSet ℕ)) → length (xs ++ set ∷ []) ≡ length xs + 1
        count_push [] = omega arith
        count_push (x ∷ xs) = omega (arith, count_push xs)

-- ---- one more arrival

compared : (a b : ℕ) → is_eq (nat_cmp a b) ≡ nat_eq b a
compared a b = alike (is_eq (nat_cmp a b)) (nat_eq b a) (λ is. eq-eqb b a (sym (same_from (nat_cmp a b) refl is))) (λ is. equal_from (eqb-true b a is))
  where
    same_from : (o : Ordering) → nat_cmp a b ≡ o → is_eq o ≡ true → a ≡ b
    same_from Less e is = absurd cc
    same_from Equal e is = grind arith
    same_from Greater e is = absurd cc

    equal_from : b ≡ a → is_eq (nat_cmp a b) ≡ true
    equal_from e = grind arith

moments_same : (source at : ℕ) (arrivals : List Arrival) → moments_of source (record { source = source; moment = at } ∷ arrivals) ≡ at ∷ moments_of source arrivals
moments_same source at arrivals = rw (eq-eqb source source refl) refl

moments_other : (source other at : ℕ) (arrivals : List Arrival) → (other ≡ source → ⊥)
    → moments_of other (record { source = source; moment = at } ∷ arrivals) ≡ moments_of other arrivals
moments_other source other at arrivals differs = rw (ne_eqb source other (λ e. differs (sym e))) refl

either_way : (a b : Bool) → cond a true b ≡ (a || b)
either_way true b = refl
either_way false b = refl

holds_more : (old new : BTreeSet ℕ) (at : ℕ) (moments : List ℕ) → ((q : ℕ) → contains nat_cmp new q ≡ cond (is_at (nat_cmp at) q) true (contains nat_cmp old q))
    → Holds old moments → Holds new (at ∷ moments)
holds_more old new at moments updates holds moment =
    updates moment ∙ rw (holds moment, compared at moment) (either_way (nat_eq moment at) (list_any (nat_eq moment) moments))

pub kept_after : (sets : List (BTreeSet ℕ)) (sources source at : ℕ) (old new : BTreeSet ℕ) (arrivals : List Arrival) → slice_get sets source ≡ Some old
    → ((q : ℕ) → contains nat_cmp new q ≡ cond (is_at (nat_cmp at) q) true (contains nat_cmp old q))
    → AreKept sets sources arrivals → AreKept (slice_set sets source new) sources (record { source = source; moment = at } ∷ arrivals)
kept_after sets sources source at old new arrivals here updates kept = record {
  count = length-set sets source new ∙ kept.count;
  each = λ other set is. by other set (set_or_same sets source other new set is);
}
  where
    by : (other : ℕ) (set : BTreeSet ℕ) → ((other ≡ source) × (set ≡ new)) ⊎ ((other ≡ source → ⊥) × (slice_get sets other ≡ Some set))
        → Holds set (moments_of other (record { source = source; moment = at } ∷ arrivals))
    by other set (inl both) =
        subst (λ (s : ℕ). Holds set (moments_of s (record { source = source; moment = at } ∷ arrivals))) (sym both.0)
        (subst (λ (s : BTreeSet ℕ). Holds s (moments_of source (record { source = source; moment = at } ∷ arrivals))) (sym both.1)
        (subst (Holds new) (sym (moments_same source at arrivals))
        (holds_more old new at (moments_of source arrivals) updates (kept.each source old here))))
    by other set (inr away) =
        subst (Holds set) (sym (moments_other source other at arrivals away.0)) (kept.each other set away.1)

-- ---- moments that are near

or_true : (a b : Bool) → b ≡ true → (a || b) ≡ true
or_true true b is = refl
or_true false b is = is

any_at : (p : ℕ → Bool) (m : ℕ) (moments : List ℕ) → list_any (nat_eq m) moments ≡ true → p m ≡ true → list_any p moments ≡ true
any_at p m [] among passes = absurd cc
any_at p m (n ∷ moments) among passes = by (nat_eq m n) refl (any_at p m moments)
  where
    by : (b : Bool) → nat_eq m n ≡ b → (list_any (nat_eq m) moments ≡ true → p m ≡ true → list_any p moments ≡ true) → (p n || list_any p moments) ≡ true
    by true is later = let here : p n ≡ true = subst (λ k. p k ≡ true) (eqb-true m n is) passes in rw here refl
    by false is later = or_true (p n) (list_any p moments) (later (rw is at among) passes)

abbrev Passing : (ℕ → Bool) → List ℕ → Type 0
Passing p moments = (m : ℕ) × (list_any (nat_eq m) moments ≡ true) × (p m ≡ true)

passing : (p : ℕ → Bool) (moments : List ℕ) → list_any p moments ≡ true → Passing p moments
passing p [] is = absurd cc
passing p (n ∷ moments) is = by (p n) refl (passing p moments)
  where
    by : (b : Bool) → p n ≡ b → (list_any p moments ≡ true → Passing p moments) → Passing p (n ∷ moments)
    by true here later = (n, rw (eq-eqb n n refl) refl, here)
    by false here later =
        let found = later (rw here at is) in
        (found.0, or_true (nat_eq found.0 n) (list_any (nat_eq found.0) moments) found.1, found.2)

pub near_least : (at distance low least : ℕ) (moments : List ℕ) → low ≡ at - (distance - 1) → IsLeastFrom low moments least
    → nat_lt (gap at least) distance ≡ list_any (λ other. nat_lt (gap at other) distance) moments
near_least at distance low least moments low_is is =
    alike (nat_lt (gap at least) distance) (list_any (λ other. nat_lt (gap at other) distance) moments)
    (λ near. any_at (λ other. nat_lt (gap at other) distance) least moments is.among near)
    (λ near. nearest (passing (λ other. nat_lt (gap at other) distance) moments near))
  where
    nearest : Passing (λ other. nat_lt (gap at other) distance) moments → nat_lt (gap at least) distance ≡ true
    nearest found =
        let close : gap at found.0 < distance = ltb-true (gap at found.0) distance found.2 in
        let from : low ≤ found.0 = omega (arith, low_is, close) in
        let before : least ≤ found.0 = is.first found.0 from found.1 in
        lt-ltb (gap at least) distance (omega (arith, low_is, close, before, is.from))

pub near_none : (at distance low : ℕ) (moments : List ℕ) → low ≡ at - (distance - 1) → ((other : ℕ) → low ≤ other → list_any (nat_eq other) moments ≡ false)
    → false ≡ list_any (λ other. nat_lt (gap at other) distance) moments
near_none at distance low moments low_is none =
    alike false (list_any (λ other. nat_lt (gap at other) distance) moments) (λ e. absurd cc)
    (λ near. absurd (nobody (passing (λ other. nat_lt (gap at other) distance) moments near)))
  where
    nobody : Passing (λ other. nat_lt (gap at other) distance) moments → ⊥
    nobody found =
        let close : gap at found.0 < distance = ltb-true (gap at found.0) distance found.2 in
        let from : low ≤ found.0 = omega (arith, low_is, close) in
        let wrong : false ≡ true = sym (none found.0 from) ∙ found.1 in
        absurd cc

-- ---- any moment at all

pub any_is : (first : Option ℕ) (moments : List ℕ) (at distance : ℕ) → IsFirstFrom 0 moments first
    → is_some first ≡ list_any (λ other. true || nat_lt (gap at other) distance) moments
any_is (Some least) moments at distance is = sym (any_at (λ other. true) least moments is.among refl)
any_is None [] at distance none = refl
any_is None (m ∷ moments) at distance none =
    let here : (nat_eq m m || list_any (nat_eq m) moments) ≡ false = none m (omega arith) in
    let parts = or_parts (nat_eq m m) (list_any (nat_eq m) moments) here in
    let wrong : true ≡ false = sym (eq-eqb m m refl) ∙ parts.0 in
    absurd cc
