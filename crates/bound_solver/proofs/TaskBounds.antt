-- The rows of a task have an outcome, are small and have no negative right side.
use Rattle.std.proofs.Common.{◌≡◌, ℕ, true, List, ℤ, pos, ◌≤ℤ◌, All, Option, Result, subst, sym, arith}
use Rattle.std.proofs.lemmas.Int.{ints}
use Rattle.std.proofs.lemmas.List.Elements.{All-map}
use Rattle.listed.specs.Lists.{differ}
use Rattle.whole_rows.specs.Rows.{RowsData}
use Rattle.whole_simplex.specs.declared.Optimum.{Optimum}
use Rattle.whole_simplex.specs.declared.SolveFault.{SolveFault}
use Rattle.whole_simplex.specs.Answers.{IsOptimum}
use Rattle.whole_simplex.specs.Outcome.{SaysOutcome, outcome_of}
use Rattle.row_squeeze.specs.declared.Link.{Link}
use Rattle.row_squeeze.specs.Links.{AreLinks}
use Rattle.row_squeeze.specs.Squeezed.{squeezed_of}
use Rattle.wcet_atomic_blocks.specs.Plants.{PlantData, IsPlant}
use Rattle.abstract_sched.specs.declared.states.AbsState.{AbsState}
use Rattle.abstract_sched.specs.States.{same_state}
use Rattle.row_build.specs.Families
use Rattle.row_build.specs.Links.{links_of}
use Rattle.row_build.specs.Rows.{rows_of}
use Rattle.row_laws.specs.Laws.{RowsAreSmall, LinksJoinColumns}
use Rattle.bound_solver.specs.Bounds.{IsWithinLimits, lifted_outcome, solved_rows, bound_outcome}
use Rattle.bound_solver.proofs.Limits.{optimum_within}

-- ---- the answer of a task, from that of its rows and links

pub joined : LinksJoinColumns
    → (plant : PlantData) (states : List AbsState) (task : ℕ) (rows : RowsData) (links : List (Option Link))
    → IsPlant plant → rows ≡ rows_of plant states task → links ≡ links_of plant states task → AreLinks rows links
joined join plant states task rows links belongs rows_are links_are =
    subst (λ (r : RowsData). AreLinks r links) (sym rows_are)
    (subst (AreLinks (rows_of plant states task)) (sym links_are) (join plant states task belongs))

-- the outcome of these rows with these links
abbrev SaysOf : ℕ → RowsData → List (Option Link) → Result Optimum SolveFault → Type 0
SaysOf pivots rows links answer =
    SaysOutcome (squeezed_of rows links) pivots (lifted_outcome rows links (outcome_of (squeezed_of rows links) pivots)) answer

pub says_of_task : (plant : PlantData) (states : List AbsState) (task pivots : ℕ) (rows : RowsData) (links : List (Option Link)) (answer : Result Optimum SolveFault)
    → rows ≡ rows_of plant states task → links ≡ links_of plant states task → SaysOf pivots rows links answer
    → SaysOutcome (solved_rows plant states task) pivots (bound_outcome plant states task pivots) answer
says_of_task plant states task pivots rows links answer rows_are links_are says =
    subst (λ (ls : List (Option Link)). SaysOf pivots (rows_of plant states task) ls answer) links_are
    (subst (λ (r : RowsData). SaysOf pivots r links answer) rows_are says)

-- ---- limits

rights_not_negative : (plant : PlantData) (states : List AbsState) (task : ℕ) → All (λ right. pos 0 ≤ℤ right) (rows_of plant states task).rights
rights_not_negative plant states task =
    All-map (λ right. pos 0 ≤ℤ right) (λ row. pos row.right) (Families.rows plant states task) (λ i d l. omega (arith, ints))

pub bound_within : RowsAreSmall
    → (plant : PlantData) (states : List AbsState) (task : ℕ) (multipliers : List ℤ) (denominator bound : ℤ)
    → IsPlant plant → differ same_state states ≡ true
    → IsOptimum (rows_of plant states task) multipliers denominator bound → IsWithinLimits bound
bound_within small plant states task multipliers denominator bound belongs once optimum =
    optimum_within (rows_of plant states task) multipliers denominator bound (small plant states task belongs once) (rights_not_negative plant states task) optimum
