-- In every open window the visits that wait are of the blocks that their contexts began last; and who stands at the
-- opening stands at a node of its own.
use Rattle.std.proofs.Common.{◌≡◌, ℕ, true, false, List, [], ◌∷◌, map, Option, Some, None, refl, sym, ◌∙◌, ap, subst}
use Rattle.std.specs.Prelude.{option_map, slice_get, option_to_list}
use Rattle.std.specs.Option.{option_map_or}
use Rattle.std.proofs.Math.ListN.{get_or-map}
use Rattle.std.proofs.lemmas.List.{length-map}
use Rattle.std.proofs.lemmas.Option.{none-some, same_Some}
use Rattle.osek_kernel.specs.declared.context.Context.{Context}
use Rattle.osek_kernel.specs.Contexts.{IsContext, place_of}
use Rattle.osek_kernel.specs.Positions.{position_of}
use Rattle.osek_machine.specs.State.{MachineState}
use Rattle.osek_machine.specs.Events.{Event}
use Rattle.wcet_atomic_blocks.specs.declared.block.Block.{Block}
use Rattle.wcet_atomic_blocks.specs.NodeSets.{holds}
use Rattle.wcet_atomic_blocks.specs.PlantLaws.{HasNode}
use Rattle.wcet_atomic_blocks.specs.Plants.{PlantData}
use Rattle.abstract_sched.specs.declared.states.AbsState.{AbsState}
use Rattle.shadow_runs.specs.Shadow.{begun}
use Rattle.shadow_runs.proofs.Planted.{there_is}
use Rattle.row_build.specs.Columns.{Column, Starts, In, Stands}
use Rattle.activation_windows.specs.Counted.{IsDeclaredCase}
use Rattle.activation_windows.specs.Windows.{Window, nodes_after, running_after, open_window, start_by}
use Rattle.activation_windows.proofs.Induction.{Inducts, of_open}
use Rattle.activation_windows.proofs.Stepping.{told_of, contexts_exist}
use Rattle.activation_windows.proofs.InBlocks.{StandsThere, holds_at, IsVisit, Wait, run_waits, after_waits}
use Rattle.activation_windows.proofs.AtNodes.{stands_here, owner_is}
use Rattle.activation_windows.proofs.Windows.{nodes_count}

-- ---- Where a context stands

holds_some : (plant : PlantData) (block : Option ℕ) (number node : ℕ) → block ≡ Some number → HasNode plant node number → holds_at plant block node ≡ true
holds_some plant block number node e has =
    let there = there_is (slice_get plant.blocks.blocks number) _ has in
    ap (λ (o : Option ℕ). holds_at plant o node) e
    ∙ (ap (λ (o : Option Block). option_map_or (λ b. holds b.nodes node) o false) there.there ∙ there.holds)

-- the node that the steps tell of a context is one of its own, in its block
node_stands : (plant : PlantData) (states : List AbsState) (task mode : ℕ) (events : List Event) (state : MachineState)
    → IsDeclaredCase plant states task mode events state → (c : Context) (number : ℕ) → IsContext plant.system c
    → position_of plant.system (nodes_after plant mode events) c ≡ Some number
    → StandsThere plant (position_of plant.system (begun plant mode events) c) c number
node_stands plant states task mode events state case c number exists at =
    let here = stands_here plant states task mode events state c number case exists at in
    record {
      owner = owner_is plant mode events state c number exists here;
      inside = holds_some plant (position_of plant.system (begun plant mode events) c) here.block number here.began here.inside;
    }

-- ---- At the opening

abbrev pub standing_visits : PlantData → ℕ → List Event → List (Option Column)
standing_visits plant mode events = map (λ node. option_map Stands node) (nodes_after plant mode events)

stands_of : (plant : PlantData) (block : Option ℕ) (c : Context) (node : Option ℕ) (visit : Column) → option_map Stands node ≡ Some visit
    → ((number : ℕ) → node ≡ Some number → StandsThere plant block c number) → IsVisit plant block c visit
stands_of plant block c None visit e stands = absurd (none-some visit e)
stands_of plant block c (Some number) visit e stands =
    subst (λ (v : Column). IsVisit plant block c v) (same_Some (Stands number) visit e) (stands number refl)

pub opening_waits : (plant : PlantData) (states : List AbsState) (task mode : ℕ) (events : List Event) (state : MachineState)
    → IsDeclaredCase plant states task mode events state → Wait plant (begun plant mode events) (standing_visits plant mode events)
opening_waits plant states task mode events state case = record {
  count = length-map (nodes_after plant mode events) (λ (node : Option ℕ). option_map Stands node) ∙ nodes_count plant mode events;
  visits = λ c visit exists at.
      stands_of plant (position_of plant.system (begun plant mode events) c) c (position_of plant.system (nodes_after plant mode events) c) visit
      (sym (get_or-map (λ (node : Option ℕ). option_map Stands node) (nodes_after plant mode events) (place_of plant.system c) None) ∙ at)
      (λ number e. node_stands plant states task mode events state case c number exists e);
}

-- ---- In every open window

pub waits_in : (plant : PlantData) (states : List AbsState) (task mode : ℕ)
    → Inducts plant states task mode (λ events state window. Wait plant (begun plant mode events) window.waiting)
waits_in plant states task mode = record {
  starts = λ state case is. run_waits plant (begun plant mode []) (running_after plant mode [])
      (record { uses = option_to_list (Some (Starts (In mode))); waiting = standing_visits plant mode [] })
      (told_of plant states task mode [] state case).running (opening_waits plant states task mode [] state case);
  begins = λ event earlier before after later is. run_waits plant (begun plant mode (event ∷ earlier)) (running_after plant mode (event ∷ earlier))
      (record { uses = option_to_list (start_by plant mode event earlier); waiting = standing_visits plant mode (event ∷ earlier) })
      (told_of plant states task mode (event ∷ earlier) after later.whole).running
      (opening_waits plant states task mode (event ∷ earlier) after later.whole);
  goes_on = λ event earlier before after window later new on is_open waits. run_waits plant (begun plant mode (event ∷ earlier))
      (running_after plant mode (event ∷ earlier)) _
      (told_of plant states task mode (event ∷ earlier) after later.whole).running
      (after_waits plant mode event earlier window.waiting (contexts_exist plant states task mode event earlier before after later)
      (told_of plant states task mode earlier before later.case).positions.count waits);
}

pub open_waits : (plant : PlantData) (states : List AbsState) (task mode : ℕ) (events : List Event) (state : MachineState) (window : Window)
    → IsDeclaredCase plant states task mode events state → open_window plant task mode events ≡ Some window
    → Wait plant (begun plant mode events) window.waiting
open_waits plant states task mode events state window case e =
    of_open plant states task mode (λ events state window. Wait plant (begun plant mode events) window.waiting)
    (waits_in plant states task mode) events state window case e
