-- The visits that wait in a window: each is of the block that its context began last, and a context that runs waits no
-- more. What is used and what waits grows by the visits that steps begin alone.
use Rattle.std.proofs.Common.{◌≡◌, ℕ, ◌+◌, ◌≤◌, inl, inr, Bool, true, false, cond, List, ◌∷◌, length, Option, Some, None, refl, sym, ◌∙◌, ap, subst, arith}
use Rattle.std.specs.Prelude.{is_some, option_map, option_and_then, slice_get, sum_by}
use Rattle.std.specs.Option.{option_map_or}
use Rattle.std.proofs.lemmas.Option.{none-some, same_Some}
use Rattle.osek_kernel.specs.declared.context.Context.{Context}
use Rattle.osek_kernel.specs.declared.context.Context.TheVariants as contexts
use Rattle.osek_kernel.specs.Contexts.{IsContext, place_of, context_count}
use Rattle.osek_kernel.specs.Positions.{position_of, placed, started, answered}
use Rattle.osek_machine.specs.Events.{ServiceCall, Event, Arrive, Take, Execute, Serve, Idle}
use Rattle.osek_machine.proofs.Placing.{contexts_apart, placed_here, placed_elsewhere, placed_count}
use Rattle.wcet_atomic_blocks.specs.NodeSets.{holds}
use Rattle.wcet_atomic_blocks.specs.Plants.{PlantData}
use Rattle.scheduler_moves.specs.Moves.{entry_block}
use Rattle.shadow_runs.specs.Shadow.{begun, block_after}
use Rattle.shadow_runs.proofs.Together.{started_together, placed_together}
use Rattle.row_build.specs.Columns.{Column, Begins, Stands, owner_of}
use Rattle.activation_windows.specs.Windows.{Window, entered, behind, waiting_after, run_in}
use Rattle.activation_windows.proofs.Windows.{started_count}
use Rattle.activation_windows.proofs.Sums.{sum_option, sum_waiting, sum_with, waiting_with, waiting_without}

-- ---- Of which block a visit is

-- the block has the node
abbrev pub holds_at : PlantData → Option ℕ → ℕ → Bool
holds_at plant block node = option_map_or (λ b. holds b.nodes node) (option_and_then (slice_get plant.blocks.blocks) block) false

-- the context stands at a node of its own, in its block
pub record StandsThere (plant : PlantData) (block : Option ℕ) (context : Context) (node : ℕ) : Type 0 where
  pub owner : owner_of plant node ≡ Some context
  pub inside : holds_at plant block node ≡ true

-- the visit is of the context's block
abbrev pub IsVisit : PlantData → Option ℕ → Context → Column → Type 0
IsVisit plant block context (Begins number) = block ≡ Some number
IsVisit plant block context (Stands node) = StandsThere plant block context node
IsVisit plant block context column = ⊥

-- The visits that wait are of the blocks that their contexts began last.
pub record Wait (plant : PlantData) (blocks : List (Option ℕ)) (waiting : List (Option Column)) : Type 0 where
  pub count : length waiting ≡ context_count plant.system
  pub visits : (c : Context) (visit : Column) → IsContext plant.system c → position_of plant.system waiting c ≡ Some visit
      → IsVisit plant (position_of plant.system blocks c) c visit

-- ---- A context runs

pub run_waits : (plant : PlantData) (blocks : List (Option ℕ)) (who : Option Context) (window : Window)
    → ((c : Context) → who ≡ Some c → IsContext plant.system c) → Wait plant blocks window.waiting → Wait plant blocks (run_in plant who window).waiting
run_waits plant blocks None window exist waits = waits
run_waits plant blocks (Some d) window exist waits = record {
  count = placed_count plant.system d None window.waiting ∙ waits.count;
  visits = λ c visit there at. elim (contexts_apart plant.system c d there (exist d refl)) [
    | inl same ↦ absurd (none-some visit (sym (ap (position_of plant.system (placed plant.system d None window.waiting)) same
        ∙ placed_here plant.system d None window.waiting (exist d refl) waits.count) ∙ at))
    | inr other ↦ waits.visits c visit there (sym (placed_elsewhere plant.system d c None window.waiting other) ∙ at)
  ];
}

-- who runs waits no more
pub run_leaves : (plant : PlantData) (c : Context) (window : Window) → IsContext plant.system c → length window.waiting ≡ context_count plant.system
    → position_of plant.system (run_in plant (Some c) window).waiting c ≡ None
run_leaves plant c window exists count = placed_here plant.system c None window.waiting exists count

-- ---- Blocks begin

-- a visit that begins is of the block that begins
begins_there : (plant : PlantData) (c : Context) (block : Option ℕ) (now : Option ℕ) (visit : Column) → option_map Begins block ≡ Some visit → now ≡ block
    → IsVisit plant now c visit
begins_there plant c None now visit e same = absurd (none-some visit e)
begins_there plant c (Some number) now visit e same =
    subst (λ (v : Column). IsVisit plant now c v) (same_Some (Begins number) visit e) same

stands_on : (plant : PlantData) (c : Context) (before now : Option ℕ) (visit : Column) → now ≡ before → IsVisit plant before c visit → IsVisit plant now c visit
stands_on plant c before now visit same is = subst (λ (b : Option ℕ). IsVisit plant b c visit) (sym same) is

started_waits : (plant : PlantData) (blocks : List (Option ℕ)) (who : Option Context) (waiting : List (Option Column))
    → ((c : Context) → who ≡ Some c → IsContext plant.system c) → length blocks ≡ context_count plant.system → Wait plant blocks waiting
    → Wait plant (started plant.system (entry_block plant) who blocks) (started plant.system (entered plant) who waiting)
started_waits plant blocks who waiting exist count waits = record {
  count = started_count plant.system (entered plant) who waiting ∙ waits.count;
  visits = λ c visit there at.
      elim (started_together plant.system (entered plant) (entry_block plant) who c visit waiting blocks exist there waits.count count at) [
        | inl new ↦ begins_there plant c (entry_block plant c) _ visit new.0 new.1
        | inr old ↦ stands_on plant c (position_of plant.system blocks c) _ visit old.1 (waits.visits c visit there old.0)
      ];
}

going_on : (plant : PlantData) (c : Context) (ended : Option Context) (block now : Option ℕ) (visit : Column)
    → cond (is_some ended) None (option_map Begins block) ≡ Some visit → now ≡ cond (is_some ended) None block → IsVisit plant now c visit
going_on plant c None block now visit e same = begins_there plant c block now visit e same
going_on plant c (Some d) block now visit e same = absurd (none-some visit e)

placed_waits : (plant : PlantData) (blocks : List (Option ℕ)) (call : ServiceCall) (waiting : List (Option Column))
    → IsContext plant.system call.caller → length blocks ≡ context_count plant.system → Wait plant blocks waiting
    → Wait plant (placed plant.system call.caller (cond (is_some call.reply.ended) None (block_after plant call)) blocks)
    (placed plant.system call.caller (cond (is_some call.reply.ended) None (behind plant call)) waiting)
placed_waits plant blocks call waiting exists count waits =
    let new = cond (is_some call.reply.ended) None (behind plant call) in
    let block = cond (is_some call.reply.ended) None (block_after plant call) in
    record {
      count = placed_count plant.system call.caller new waiting ∙ waits.count;
      visits = λ c visit there at.
          elim (placed_together plant.system call.caller c new block visit waiting blocks exists there waits.count count at) [
            | inl here ↦ going_on plant c call.reply.ended (block_after plant call) _ visit here.1 here.2
            | inr old ↦ stands_on plant c (position_of plant.system blocks c) _ visit old.1 (waits.visits c visit there old.0)
          ];
    }

served_waits : (plant : PlantData) (blocks : List (Option ℕ)) (call : ServiceCall) (waiting : List (Option Column))
    → IsContext plant.system call.caller → ((c : Context) → option_map contexts.Task call.reply.activated ≡ Some c → IsContext plant.system c)
    → length blocks ≡ context_count plant.system → Wait plant blocks waiting
    → Wait plant (answered plant.system (entry_block plant) call.caller (block_after plant call) call.reply blocks)
    (answered plant.system (entered plant) call.caller (behind plant call) call.reply waiting)
served_waits plant blocks call waiting exists exist count waits =
    started_waits plant (placed plant.system call.caller (cond (is_some call.reply.ended) None (block_after plant call)) blocks)
    (option_map contexts.Task call.reply.activated)
    (placed plant.system call.caller (cond (is_some call.reply.ended) None (behind plant call)) waiting) exist
    (placed_count plant.system call.caller _ blocks ∙ count) (placed_waits plant blocks call waiting exists count waits)

-- The contexts of a step exist.
abbrev pub ContextsExist : PlantData → Event → Type 0
ContextsExist plant (Take taking) = (c : Context) → taking.started ≡ Some c → IsContext plant.system c
ContextsExist plant (Serve call) =
    IsContext plant.system call.caller × ((c : Context) → option_map contexts.Task call.reply.activated ≡ Some c → IsContext plant.system c)
ContextsExist plant event = Unit {0}

pub after_waits : (plant : PlantData) (mode : ℕ) (event : Event) (earlier : List Event) (waiting : List (Option Column)) → ContextsExist plant event
    → length (begun plant mode earlier) ≡ context_count plant.system → Wait plant (begun plant mode earlier) waiting
    → Wait plant (begun plant mode (event ∷ earlier)) (waiting_after plant event waiting)
after_waits plant mode (Arrive arrival) earlier waiting exist count waits = waits
after_waits plant mode (Take taking) earlier waiting exist count waits =
    started_waits plant (begun plant mode earlier) taking.started waiting exist count waits
after_waits plant mode (Execute execution) earlier waiting exist count waits = waits
after_waits plant mode (Serve call) earlier waiting exist count waits =
    served_waits plant (begun plant mode earlier) call waiting exist.0 exist.1 count waits
after_waits plant mode (Idle cycles) earlier waiting exist count waits = waits

-- ---- Sums

-- the visit of the context that runs, where it waits
abbrev pub visit_of : PlantData → Option Context → List (Option Column) → Option Column
visit_of plant None waiting = None
visit_of plant (Some c) waiting = position_of plant.system waiting c

pub run_uses : (plant : PlantData) (count : Column → ℕ) (who : Option Context) (window : Window)
    → sum_by count (run_in plant who window).uses ≡ sum_option count (visit_of plant who window.waiting) + sum_by count window.uses
run_uses plant count None window = omega arith
run_uses plant count (Some c) window = sum_with count (position_of plant.system window.waiting c) window.uses

-- what is used and what waits stays
pub run_total : (plant : PlantData) (count : Column → ℕ) (who : Option Context) (window : Window)
    → sum_by count (run_in plant who window).uses + sum_waiting count (run_in plant who window).waiting
    ≡ sum_by count window.uses + sum_waiting count window.waiting
run_total plant count None window = refl
run_total plant count (Some c) window =
    let used = run_uses plant count (Some c) window in
    let waits = waiting_without count window.waiting (place_of plant.system c) in
    omega arith

-- the visits that a step begins
abbrev pub newly : PlantData → (Column → ℕ) → Event → ℕ
newly plant count (Take taking) = sum_option count (option_and_then (entered plant) taking.started)
newly plant count (Serve call) =
    sum_option count (cond (is_some call.reply.ended) None (behind plant call))
    + sum_option count (option_and_then (entered plant) (option_map contexts.Task call.reply.activated))
newly plant count event = 0

started_sum : (plant : PlantData) (count : Column → ℕ) (who : Option Context) (waiting : List (Option Column))
    → sum_waiting count (started plant.system (entered plant) who waiting) ≤ sum_waiting count waiting + sum_option count (option_and_then (entered plant) who)
started_sum plant count None waiting = omega arith
started_sum plant count (Some c) waiting = waiting_with count waiting (place_of plant.system c) (entered plant c)

pub waiting_sum : (plant : PlantData) (count : Column → ℕ) (event : Event) (waiting : List (Option Column))
    → sum_waiting count (waiting_after plant event waiting) ≤ sum_waiting count waiting + newly plant count event
waiting_sum plant count (Arrive arrival) waiting = omega arith
waiting_sum plant count (Take taking) waiting = started_sum plant count taking.started waiting
waiting_sum plant count (Execute execution) waiting = omega arith
waiting_sum plant count (Serve call) waiting =
    let new = cond (is_some call.reply.ended) None (behind plant call) in
    let gone = waiting_with count waiting (place_of plant.system call.caller) new in
    let begins = started_sum plant count (option_map contexts.Task call.reply.activated) (placed plant.system call.caller new waiting) in
    omega arith
waiting_sum plant count (Idle cycles) waiting = omega arith
