-- An optimal outcome holds the greatest value of the rows, and a direction is a ray of them.
use Rattle.std.proofs.Common.{◌≡◌, ℕ, zero, suc, ◌+◌, ◌*◌, ◌/◌, ◌^◌, ◌<◌, ◌≤◌, Bool, true, false, cond, List, [], ◌∷◌, ◌++◌, map, length, get_or, ℤ, pos, negsuc, ◌+ℤ◌, ◌*ℤ◌, ◌≤ℤ◌, ◌<ℤ◌, refl, sym, ap, ◌∙◌, subst, arith, length-append}
use Rattle.whole_simplex.specs.declared.Optimum.{Optimum}
use Rattle.whole_simplex.specs.declared.SolveFault.{SolveFault}
use Rattle.whole_simplex.specs.declared.SolveFault.TheVariants.{Entries, Pivots, Unbounded, Wide, Multiplier, Memory}
use Rattle.std.specs.Prelude.{IfOk, IfErr, Result, Ok, Err, Option, Some, None, unsigned_abs, int_div, nat_lt}
use Rattle.std.specs.List.{list_any}
use Rattle.std.proofs.lemmas.Int.{ints}
use Rattle.std.proofs.lemmas.List.{length-map}
use Rattle.std.proofs.lemmas.List.Folds.{list_any_at}
use Rattle.std.proofs.lemmas.List.Elements.{All-from_get_or}
use Rattle.std.proofs.lemmas.Bool.{false≢true}
use Rattle.std.proofs.Math.ListN.{get_or-append}
use Rattle.std.proofs.Math.Seq.{get_or-append_seam}
use Rattle.whole_rows.specs.Rows.{RowsData, AreRows, right_sum}
use Rattle.whole_rows.specs.Duals.{CoversColumns, AreGood}
use Rattle.whole_rows.specs.Greatest.{Reaches, IsGreatest}
use Rattle.whole_rows.proofs.Duality.{unreached}
use Rattle.whole_simplex.specs.declared.line.Line.{Line}
use Rattle.whole_simplex.specs.Answers.{IsSmall, IsOptimum, IsUnbounded, IsUnboundedFault}
use Rattle.whole_simplex.specs.Outcome.{Outcome, TooLarge, Greatest, LargeMultiplier, Direction, Limit, TooWide, is_large, is_wide, optimal_outcome, ray_outcome, ray_of, ray_pairs, outcome_of_leaving, outcome_of_entering, outcome_at, outcome_from, outcome_of, pivot_pairs, table_size, SaysOutcome}
use Rattle.whole_simplex.specs.Tables.{entry, width, entering, leaving, first_table, table_at}
use Rattle.whole_simplex.proofs.Chain.{IsEqual, table_equal}
use Rattle.whole_simplex.proofs.Direction as direction
use Rattle.whole_simplex.proofs.Entering.{entering-some, entering-none}
use Rattle.whole_simplex.proofs.Leaving.{none_leaves}
use Rattle.whole_simplex.proofs.Members.{In}
use Rattle.whole_simplex.proofs.Multipliers as multipliers
use Rattle.whole_simplex.proofs.Point as point

-- what an outcome promises
abbrev pub IsSound : RowsData → Outcome → Type 0
IsSound d (Greatest number ms denominator bound) = IsOptimum d ms denominator bound
IsSound d (Direction ray) = IsUnbounded d ray
IsSound d outcome = Unit {0}

-- ---- a quotient, rounded down

record IsQuotient (value denominator quotient : ℤ) : Type 0 where
  natural : ℕ
  is : quotient ≡ pos natural
  reached : (denominator *ℤ quotient) ≤ℤ value
  below : value <ℤ (denominator *ℤ (quotient +ℤ pos 1))

quotient-is : (value denominator : ℤ) → pos 0 ≤ℤ value → pos 0 <ℤ denominator → IsQuotient value denominator (int_div value denominator)
quotient-is (negsuc a) denominator h k = absurd (omega (arith, ints))
quotient-is (pos a) (pos zero) h k = absurd (omega (arith, ints))
quotient-is (pos a) (negsuc b) h k = absurd (omega (arith, ints))
quotient-is (pos a) (pos (suc b)) h k = record {
  natural = a / suc b;
  is = refl;
  reached = (let low : suc b * (a / suc b) ≤ a = omega arith in omega (arith, ints, low));
  below = (let high : a < suc b * (a / suc b + 1) = omega arith in omega (arith, ints, high));
}

-- ---- tests of lists

fails_where_none : {X : Type 0} (p : X → Bool) (xs : List X) (k : ℕ) (d : X) (b : Bool) → p (get_or xs k d) ≡ b → list_any p xs ≡ false → k < length xs → b ≡ false
fails_where_none p xs k d true e h below = absurd (false≢true (sym h ∙ list_any_at p xs k d below e))
fails_where_none p xs k d false e h below = refl

none_of_any : {X : Type 0} (p : X → Bool) (xs : List X) (k : ℕ) (d : X) → list_any p xs ≡ false → k < length xs → p (get_or xs k d) ≡ false
none_of_any p xs k d h below = fails_where_none p xs k d (p (get_or xs k d)) refl h below

not_large : (x : ℤ) → is_large x ≡ false → x <ℤ pos (2 ^ 80)
not_large x h = grind (arith, ints)

-- ---- the optimum

module _ (d : RowsData) (r : AreRows d) (number : ℕ) where
  equal : IsEqual (width d) (first_table d) (table_at d number)
  equal = table_equal d number r

  module _ (none_enters : entering (width d) (table_at d number).objective ≡ None) where
    above : (k : ℕ) → k < width d → pos 0 ≤ℤ entry (table_at d number).objective k
    above k h = entering-none (width d) (table_at d number).objective k (let long = equal.tableau.objective_length in omega arith) none_enters h

    values : List ℤ
    values = multipliers.multipliers_of d (table_at d number).objective

    denominator : ℤ
    denominator = entry (table_at d number).objective (width d)

    value : ℤ
    value = entry (table_at d number).objective (width d + 1)

    counted : length values ≡ length d.rows
    unfolding values
    counted = multipliers.multipliers_length d r (table_at d number) equal above

    denominator_is_above : pos 0 <ℤ denominator
    unfolding denominator
    denominator_is_above = equal.tableau.denominator

    size : pos (unsigned_abs denominator) ≡ denominator
    size = (let h = denominator_is_above in omega (arith, ints))

    covers : CoversColumns d (map unsigned_abs values) (unsigned_abs denominator)
    unfolding values denominator
    covers = multipliers.covers_columns d r (table_at d number) equal above (unsigned_abs (entry (table_at d number).objective (width d))) size

    sum_is : right_sum d (map unsigned_abs values) ≡ value
    unfolding values value
    sum_is = multipliers.right_sum_is d r (table_at d number) equal above

    quotient : IsQuotient value denominator (int_div value denominator)
    unfolding value denominator
    quotient = quotient-is (entry (table_at d number).objective (width d + 1)) (entry (table_at d number).objective (width d)) equal.tableau.value equal.tableau.denominator

    good : AreGood d (map unsigned_abs values) (unsigned_abs denominator) quotient.natural
    good = record {
      counted = length-map values unsigned_abs ∙ counted;
      covers = covers;
      below = (let h = quotient.below in
          omega (arith, ints, sum_is, ap (λ x. x *ℤ (int_div value denominator +ℤ pos 1)) (sym size), ap (λ x. pos (unsigned_abs denominator) *ℤ (x +ℤ pos 1)) quotient.is));
    }

    greatest : IsGreatest d (int_div value denominator)
    unfolding value denominator
    greatest = record {
      numerators = point.sizes (point.point d r (table_at d number) equal) 0 (length d.costs);
      denominator = unsigned_abs (point.denominator d r (table_at d number) equal *ℤ point.multiple d r (table_at d number) equal);
      is_point = point.point_is d r (table_at d number) equal;
      reaches = point.point_reaches d r (table_at d number) equal (int_div value denominator) quotient.reached;
      unreached = λ u k p reach. unreached d (map unsigned_abs values) (unsigned_abs denominator) quotient.natural r.shape good u k p
          (subst (λ x. Reaches d u k x) (ap (λ x. x +ℤ pos 1) quotient.is) reach);
    }

    small_at : (k : ℕ) → k < length values → list_any is_large (values ++ denominator ∷ []) ≡ false → entry values k <ℤ pos (2 ^ 80)
    small_at k h small =
        not_large (entry values k)
        (ap is_large (sym (get_or-append values (denominator ∷ []) (pos 0) k h)) ∙ none_of_any is_large (values ++ denominator ∷ []) k (pos 0) small (omega (arith, length-append values (denominator ∷ []))))

    denominator_small : list_any is_large (values ++ denominator ∷ []) ≡ false → denominator <ℤ pos (2 ^ 80)
    denominator_small small =
        not_large denominator
        (ap is_large (sym (get_or-append_seam values denominator [] (pos 0))) ∙ none_of_any is_large (values ++ denominator ∷ []) (length values) (pos 0) small (omega (arith, length-append values (denominator ∷ []))))

    values_above : (k : ℕ) → k < length values → pos 0 ≤ℤ entry values k
    unfolding values
    values_above k h = multipliers.multipliers_above d r (table_at d number) equal above k (let c = counted in omega arith)

    is_optimum : list_any is_large (values ++ denominator ∷ []) ≡ false → IsOptimum d values denominator (int_div value denominator)
    is_optimum small = record {
      counted = counted;
      multipliers_small = All-from_get_or IsSmall values (pos 0) (λ k h. (values_above k h, small_at k h small));
      denominator_small = ((let h = denominator_is_above in omega (arith, ints)), denominator_small small);
      denominator_above = denominator_is_above;
      covers = covers;
      reached = (let h = quotient.reached in omega (arith, ints, sum_is));
      below = (let h = quotient.below in omega (arith, ints, sum_is));
      greatest = greatest;
    }

    by_size : (large : Bool) → list_any is_large (values ++ denominator ∷ []) ≡ large → IsSound d (cond large (LargeMultiplier (values ++ denominator ∷ [])) (Greatest number values denominator (int_div value denominator)))
    by_size true e = tt
    by_size false e = is_optimum e

    optimal_sound : IsSound d (optimal_outcome d number (table_at d number).objective)
    unfolding values denominator value
    optimal_sound = by_size (list_any is_large (values ++ denominator ∷ [])) refl

  -- ---- the ray

  module _ (place : ℕ) (enters : entering (width d) (table_at d number).objective ≡ Some place) (none_leave : leaving (width d) place (table_at d number).lines ≡ None) where
    bounded : (line : Line) → In line (table_at d number).lines → entry line.entries place ≤ℤ pos 0
    bounded line m = none_leaves (width d) place (table_at d number).lines none_leave line m

    within : place < width d
    within = (entering-some (width d) (table_at d number).objective place enters).0

    falls : entry (table_at d number).objective place <ℤ pos 0
    falls = (entering-some (width d) (table_at d number).objective place enters).1

    is_unbounded : IsUnbounded d (ray_of (length d.costs) place (table_at d number).lines)
    is_unbounded =
        subst (λ ray. IsUnbounded d ray) (direction.ray_is_stated d r (table_at d number) equal place within falls bounded)
        (record {
          not_negative = All-from_get_or (λ x. pos 0 ≤ℤ x) (direction.ray d r (table_at d number) equal place within falls bounded) (pos 0)
              (λ k h. direction.ray_above d r (table_at d number) equal place within falls bounded k
              (let long = direction.ray_length d r (table_at d number) equal place within falls bounded in omega arith));
          is_ray = direction.ray_is d r (table_at d number) equal place within falls bounded;
        })

    by_wide : (wide : Bool) → IsSound d (cond wide (TooWide number (ray_pairs (length d.costs) place (table_at d number).lines)) (Direction (ray_of (length d.costs) place (table_at d number).lines)))
    by_wide true = tt
    by_wide false = is_unbounded

    ray_sound : IsSound d (ray_outcome d number place (table_at d number).lines)
    ray_sound = by_wide (list_any is_wide (ray_pairs (length d.costs) place (table_at d number).lines))

  -- ---- a table

  leaving_sound : (place : ℕ) (otherwise : ℕ → Line → Outcome) (o : Option Line) → entering (width d) (table_at d number).objective ≡ Some place → leaving (width d) place (table_at d number).lines ≡ o → ((pivot : Line) → IsSound d (otherwise place pivot)) → IsSound d (outcome_of_leaving d number place (table_at d number).lines otherwise o)
  leaving_sound place otherwise None e f h = ray_sound place e f
  leaving_sound place otherwise (Some pivot) e f h = h pivot

  entering_sound : (otherwise : ℕ → Line → Outcome) (o : Option ℕ) → entering (width d) (table_at d number).objective ≡ o → ((place : ℕ) (pivot : Line) → IsSound d (otherwise place pivot)) → IsSound d (outcome_of_entering d number (table_at d number) otherwise o)
  entering_sound otherwise None e h = optimal_sound e
  entering_sound otherwise (Some place) e h =
      leaving_sound place otherwise (leaving (width d) place (table_at d number).lines) e refl (λ pivot. h place pivot)

  table_sound : (otherwise : ℕ → Line → Outcome) → ((place : ℕ) (pivot : Line) → IsSound d (otherwise place pivot)) → IsSound d (outcome_at d number (table_at d number) otherwise)
  table_sound otherwise h = entering_sound otherwise (entering (width d) (table_at d number).objective) refl h

wide_or : (d : RowsData) (wide : Bool) (first second : Outcome) → IsSound d first → IsSound d second → IsSound d (cond wide first second)
wide_or d true first second h k = h
wide_or d false first second h k = k

from_sound : (d : RowsData) → AreRows d → (left number : ℕ) → IsSound d (outcome_from d left number)
from_sound d r zero number = table_sound d r number (λ place pivot. Limit) (λ place pivot. tt)
from_sound d r (suc left) number =
    table_sound d r number
    (λ place pivot. cond (list_any is_wide (pivot_pairs (width d) place pivot (table_at d number)))
    (TooWide number (pivot_pairs (width d) place pivot (table_at d number)))
    (outcome_from d left (suc number)))
    (λ place pivot. wide_or d (list_any is_wide (pivot_pairs (width d) place pivot (table_at d number)))
    (TooWide number (pivot_pairs (width d) place pivot (table_at d number))) (outcome_from d left (suc number)) tt (from_sound d r left (suc number)))

pub outcome_sound : (d : RowsData) (limit : ℕ) → AreRows d → IsSound d (outcome_of d limit)
outcome_sound d limit r =
    wide_or d (nat_lt 16777216 (table_size d)) TooLarge (outcome_from d limit 0) tt (from_sound d r limit 0)

-- ---- the answers

pub sound_optimum : (d : RowsData) (limit : ℕ) (o : Outcome) (optimum : Optimum) → SaysOutcome d limit o (Ok optimum) → IsSound d o → IsOptimum d optimum.multipliers optimum.denominator optimum.bound
sound_optimum d limit (Greatest number ms denominator bound) optimum h s =
    subst (λ m. IsOptimum d m optimum.denominator optimum.bound) (sym h.1)
    (subst (λ x. IsOptimum d ms x optimum.bound) (sym h.2) (subst (λ x. IsOptimum d ms denominator x) (sym h.3) s))
sound_optimum d limit TooLarge optimum h s = absurd h
sound_optimum d limit (LargeMultiplier values) optimum h s = absurd h
sound_optimum d limit (Direction ray) optimum h s = absurd h
sound_optimum d limit Limit optimum h s = absurd h
sound_optimum d limit (TooWide number pairs) optimum h s = absurd h

sound_ray : (d : RowsData) (limit : ℕ) (o : Outcome) (ray : List ℤ) → SaysOutcome d limit o (Err (Unbounded ray)) → IsSound d o → IsUnbounded d ray
sound_ray d limit (Direction direction) ray h s = subst (λ r. IsUnbounded d r) (sym h) s
sound_ray d limit (Greatest number ms denominator bound) ray h s = absurd h
sound_ray d limit TooLarge ray h s = absurd h
sound_ray d limit (LargeMultiplier values) ray h s = absurd h
sound_ray d limit Limit ray h s = absurd h
sound_ray d limit (TooWide number pairs) ray h s = absurd h

sound_fault : (d : RowsData) (limit : ℕ) (o : Outcome) (fault : SolveFault) → SaysOutcome d limit o (Err fault) → IsSound d o → IsUnboundedFault d fault
sound_fault d limit o (Unbounded ray) h s = sound_ray d limit o ray h s
sound_fault d limit o (Entries rows columns) h s = tt
sound_fault d limit o (Pivots count) h s = tt
sound_fault d limit o (Wide pivots a b) h s = tt
sound_fault d limit o (Multiplier value) h s = tt
sound_fault d limit o Memory h s = tt

pub answer_optimum : (d : RowsData) (limit : ℕ) (answer : Result Optimum SolveFault) → AreRows d → SaysOutcome d limit (outcome_of d limit) answer → IfOk answer (λ optimum. IsOptimum d optimum.multipliers optimum.denominator optimum.bound)
answer_optimum d limit (Ok optimum) r h = sound_optimum d limit (outcome_of d limit) optimum h (outcome_sound d limit r)
answer_optimum d limit (Err fault) r h = tt

pub answer_fault : (d : RowsData) (limit : ℕ) (answer : Result Optimum SolveFault) → AreRows d → SaysOutcome d limit (outcome_of d limit) answer → IfErr answer (IsUnboundedFault d)
answer_fault d limit (Ok optimum) r h = tt
answer_fault d limit (Err fault) r h = sound_fault d limit (outcome_of d limit) fault h (outcome_sound d limit r)

-- the size of the table decides the first answer
pub says_size : (d : RowsData) (limit : ℕ) (t : Bool) (answer : Result Optimum SolveFault) → t ≡ nat_lt 16777216 (table_size d) → t ≡ false → SaysOutcome d limit (outcome_from d limit 0) answer → SaysOutcome d limit (outcome_of d limit) answer
says_size d limit t answer e f h = subst (λ b. SaysOutcome d limit (cond b TooLarge (outcome_from d limit 0)) answer) (sym f ∙ e) h

pub says_entries : (d : RowsData) (limit rows columns : ℕ) (t : Bool) → t ≡ nat_lt 16777216 (table_size d) → t ≡ true → rows ≡ length d.rows → columns ≡ length d.costs → SaysOutcome d limit (outcome_of d limit) (Err (Entries rows columns))
says_entries d limit rows columns t e f g h = subst (λ b. SaysOutcome d limit (cond b TooLarge (outcome_from d limit 0)) (Err (Entries rows columns))) (sym f ∙ e) (g, h)

pub says_memory : (d : RowsData) (limit : ℕ) (o : Outcome) → SaysOutcome d limit o (Err Memory)
says_memory d limit o = tt
