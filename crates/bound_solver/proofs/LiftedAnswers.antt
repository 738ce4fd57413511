-- What the answers of squeezed rows say of the full ones.
use Rattle.std.proofs.Common.{◌≡◌, ℕ, ◌^◌, Bool, true, false, cond, List, [], ◌∷◌, ℤ, pos, ◌≤ℤ◌, Option, Result, Ok, Err, refl, subst, arith, rules}
use Rattle.std.proofs.lemmas.Int.{ints}
use Rattle.std.specs.Prelude.{set}
use Rattle.whole_rows.specs.Rows.{RowsData}
use Rattle.whole_simplex.specs.declared.Optimum.{Optimum}
use Rattle.whole_simplex.specs.declared.SolveFault.{SolveFault}
use Rattle.whole_simplex.specs.declared.SolveFault.TheVariants.{Multiplier}
use Rattle.whole_simplex.specs.Outcome.{Outcome, TooLarge, Greatest, LargeMultiplier, Direction, Limit, TooWide, SaysOutcome, is_large}
use Rattle.row_squeeze.specs.declared.Link.{Link}
use Rattle.row_squeeze.specs.Lift.{lifted, lifted_of, lifted_value, outgoing_at}
use Rattle.bound_solver.specs.Bounds.{lifted_optimum, lifted_outcome}

-- ---- a lift that stops

stops_large : (d : RowsData) (links : List (Option Link)) (denominator : ℤ) (multipliers : List ℤ) (rows : List ℕ) (value : ℤ)
    → lifted d links denominator multipliers rows ≡ Err value → is_large value ≡ true
stops_large d links denominator multipliers [] value e = absurd cc
stops_large d links denominator multipliers (row ∷ rows) value e =
    by_test (lifted_value d denominator multipliers row (outgoing_at links row)) (λ after. stops_large d links denominator after rows value)
    (is_large (lifted_value d denominator multipliers row (outgoing_at links row))) refl e
  where
    by_test : (v : ℤ) → ((after : List ℤ) → lifted d links denominator after rows ≡ Err value → is_large value ≡ true)
        → (t : Bool) → is_large v ≡ t
        → cond t (Err v) (lifted d links denominator (set multipliers row v) rows) ≡ Err value → is_large value ≡ true
    by_test v next true large stop = let same : v ≡ value = cc in subst (λ w. is_large w ≡ true) same large
    by_test v next false small on = next (set multipliers row v) on

is_above : (value : ℤ) → is_large value ≡ true → pos (2 ^ 80) ≤ℤ value
is_above value large = grind (arith, ints)

says_large : (d : RowsData) (limit number : ℕ) (denominator bound value : ℤ) (lift : Result (List ℤ) ℤ)
    → lift ≡ Err value → pos (2 ^ 80) ≤ℤ value
    → SaysOutcome d limit (lifted_optimum number denominator bound lift) (Err (Multiplier value))
says_large d limit number denominator bound value (Ok multipliers) e large = absurd cc
says_large d limit number denominator bound value (Err stopped) e large =
    let same : stopped ≡ value = cc in
    rw same (search rules, large)

-- where a multiplier is too large, the lift stops at it
pub says_stopped : (full : RowsData) (links : List (Option Link)) (number : ℕ) (denominator bound value : ℤ) (multipliers : List ℤ)
    → lifted_of full links denominator multipliers ≡ Err value → (d : RowsData) (limit : ℕ)
    → SaysOutcome d limit (lifted_optimum number denominator bound (lifted_of full links denominator multipliers)) (Err (Multiplier value))
says_stopped full links number denominator bound value multipliers e d limit =
    says_large d limit number denominator bound value (lifted_of full links denominator multipliers) e
    (is_above value (stops_large full links denominator _ _ value e))

-- ---- an optimum

-- the answer says the lifted outcome where the optimum said the outcome
pub says_lifted : (full : RowsData) (links : List (Option Link)) (d : RowsData) (limit : ℕ) (outcome : Outcome) (optimum : Optimum) (answer : Result Optimum SolveFault)
    → SaysOutcome d limit outcome (Ok optimum)
    → SaysOutcome d limit (lifted_optimum optimum.pivots optimum.denominator optimum.bound (lifted_of full links optimum.denominator optimum.multipliers)) answer
    → SaysOutcome d limit (lifted_outcome full links outcome) answer
says_lifted full links d limit TooLarge optimum answer said says = absurd said
says_lifted full links d limit (Greatest number multipliers denominator bound) optimum answer (number_is, multipliers_is, denominator_is, bound_is) says =
    rw (← number_is, ← multipliers_is, ← denominator_is, ← bound_is) says
says_lifted full links d limit (LargeMultiplier values) optimum answer said says = absurd said
says_lifted full links d limit (Direction ray) optimum answer said says = absurd said
says_lifted full links d limit Limit optimum answer said says = absurd said
says_lifted full links d limit (TooWide number pairs) optimum answer said says = absurd said
