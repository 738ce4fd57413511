-- The search for what fails in a list of states, step by step.
use Rattle.std.proofs.Common.{◌≡◌, ℕ, ◌+◌, List, Option, Some, None, Ok, Err, Contains, refl, sym, ◌∙◌, subst, below_more}
use Rattle.std.specs.Prelude.{slice_get}
use Rattle.std.proofs.lemmas.Option.{same_Some}
use Rattle.wcet_atomic_blocks.specs.Plants.{PlantData}
use Rattle.abstract_sched.specs.declared.states.AbsState.{AbsState}
use Rattle.scheduler_moves.specs.declared.closure.Closure.{Closure}
use Rattle.scheduler_moves.specs.declared.closure.Closure.TheVariants as closures
use Rattle.scheduler_moves.specs.declared.moves.Misuse.{Misuse}
use Rattle.scheduler_moves.specs.declared.moves.Move.{Move}
use Rattle.scheduler_moves.specs.Moves.{initial, successors}
use Rattle.scheduler_moves.specs.Closed.{AreListed, MovesStay, StartsBelow, HoldsBefore, HasMisuse, LacksMove}
use Rattle.scheduler_moves.specs.Working.Opened.{IsFoundAt, IsMissingMove}

-- one mode more
pub starts_more : (plant : PlantData) (states : List AbsState) (mode : ℕ) (start : AbsState) → start ≡ initial plant mode → Contains states start
    → StartsBelow plant states mode → StartsBelow plant states (mode + 1)
starts_more plant states mode start is listed below =
    below_more (λ m. Contains states (initial plant m)) mode below (subst (Contains states) is listed)

-- one state more
pub holds_more : (plant : PlantData) (states : List AbsState) (number : ℕ) → IsFoundAt plant states number None
    → HoldsBefore plant states number → HoldsBefore plant states (number + 1)
holds_more plant states number found before = record {
  starts = before.starts;
  stays = λ earlier state lt at.
      below_more (λ n. (s : AbsState) → slice_get states n ≡ Some s → MovesStay plant states s) number (λ n less s there. before.stays n s less there)
      found earlier lt state at;
}

-- the state's moves stay listed, or the first that doesn't is told
pub found_moves : (plant : PlantData) (states : List AbsState) (number : ℕ) (state : AbsState) (moves : List Move) (found : Option Closure)
    → slice_get states number ≡ Some state → successors plant state ≡ Ok moves → IsMissingMove states moves number found → IsFoundAt plant states number found
found_moves plant states number state moves None there moved all = λ other at.
    let same : state ≡ other = same_Some state other (sym there ∙ at) in
    subst (MovesStay plant states) same (subst (AreListed states) (sym moved) all)
found_moves plant states number state moves (Some (closures.Missing s transition)) there moved lacks = λ before.
    let missing : LacksMove plant states number transition = record {
      state = state;
      there = there;
      moves = moves;
      moved = moved;
      move = lacks.1.move;
      at = lacks.1.at;
      lacks = lacks.1.lacks;
      first = lacks.1.first;
      before = before;
    } in
    subst (λ n. LacksMove plant states n transition) (sym lacks.0) missing
found_moves plant states number state moves (Some closures.Yes) there moved lacks = absurd lacks
found_moves plant states number state moves (Some (closures.MissingInitial mode)) there moved lacks = absurd lacks
found_moves plant states number state moves (Some (closures.Misuse s code)) there moved lacks = absurd lacks

-- the state's misuse is told
pub found_misuse : (plant : PlantData) (states : List AbsState) (number : ℕ) (state : AbsState) (misuse : Misuse)
    → slice_get states number ≡ Some state → successors plant state ≡ Err misuse → HoldsBefore plant states number → HasMisuse plant states number misuse.code
found_misuse plant states number state misuse there misused before = record {
  state = state;
  there = there;
  misuse = misuse;
  misused = misused;
  code_is = refl;
  before = before;
}
