-- Tests of worked systems, and what follows where they pass.
use Rattle.std.proofs.Common.{◌≡◌, ℕ, ◌<◌, Bool, true, false, ◌&&◌, List, Contains, length, Result, Ok, Err, sym, ◌∙◌, subst, arith}
use Rattle.std.specs.Prelude.{slice_index_or}
use Rattle.std.specs.List.{list_any, list_all, range_with_len}
use Rattle.std.proofs.lemmas.Bool.{and_parts}
use Rattle.std.proofs.lemmas.List.Elements.{All-contains}
use Rattle.std.proofs.lemmas.List.FromFn.{length-range_with_len, get_or-range_with_len}
use Rattle.std.proofs.lemmas.List.Sums.{AllPass-from_list_all}
use Rattle.std.proofs.lemmas.Map.Views.{Contains-from_any}
use Rattle.abstract_sched.proofs.Sameness.{state_Decides}
use Rattle.abstract_sched.specs.declared.states.AbsState.{AbsState}
use Rattle.abstract_sched.specs.States.{same_state}
use Rattle.scheduler_moves.specs.declared.moves.Misuse.{Misuse}
use Rattle.scheduler_moves.specs.declared.moves.Move.{Move}
use Rattle.scheduler_moves.specs.Closed.{AreListed, IsClosed}
use Rattle.scheduler_moves.specs.Moves.{initial, successors}
use Rattle.wcet_atomic_blocks.specs.Plants.{PlantData}

-- ---- Lists that pass a test

abbrev pub passes_at : {A : Type 0} (p : A → Bool) (xs : List A) (x : A) → list_all p xs ≡ true → Contains xs x → p x ≡ true
passes_at p xs x pass has = All-contains (λ y. p y ≡ true) xs x (AllPass-from_list_all p xs pass) has

-- ---- Closed lists

abbrev pub lists : List AbsState → AbsState → Bool
lists states state = list_any (same_state state) states

listed_from : (states : List AbsState) (state : AbsState) → lists states state ≡ true → Contains states state
listed_from states state found = Contains-from_any (λ x y. (state_Decides x y).0) state states found

abbrev pub lists_all : List AbsState → Result (List Move) Misuse → Bool
lists_all states (Ok moves) = list_all (λ move. lists states move.to) moves
lists_all states (Err misuse) = false

are_listed : (states : List AbsState) (moves : Result (List Move) Misuse) → lists_all states moves ≡ true → AreListed states moves
are_listed states (Ok moves) pass = λ k d below. listed_from states (slice_index_or moves k d).to (AllPass-from_list_all
    (λ move. lists states move.to) moves pass k d below)
are_listed states (Err misuse) pass = absurd cc

abbrev pub is_closed : PlantData → List AbsState → Bool
is_closed plant states =
    list_all (λ mode. lists states (initial plant mode)) (range_with_len 0 (length plant.system.modes))
    && list_all (λ state. lists_all states (successors plant state)) states

pub in_range : (n k : ℕ) → k < n → Contains (range_with_len 0 n) k
in_range n k below = (k, subst (λ l. k < l) (sym (length-range_with_len 0 n)) below, get_or-range_with_len 0 n k k below ∙ (omega arith))

pub closed_from : (plant : PlantData) (states : List AbsState) → is_closed plant states ≡ true → IsClosed plant states
closed_from plant states pass =
    let parts = and_parts (list_all (λ mode. lists states (initial plant mode)) (range_with_len 0 (length plant.system.modes)))
    (list_all (λ state. lists_all states (successors plant state)) states) pass in
    record {
      starts = λ mode below. listed_from states (initial plant mode)
          (passes_at (λ m. lists states (initial plant m)) (range_with_len 0 (length plant.system.modes)) mode parts.0
          (in_range (length plant.system.modes) mode below));
      stays = λ state has. are_listed states (successors plant state) (passes_at (λ s. lists_all states (successors plant s)) states state parts.1 has);
    }
