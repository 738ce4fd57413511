-- The visits that count for a loop are those of its own context.
use Rattle.std.proofs.Common.{◌≡◌, ℕ, ◌+◌, Bool, true, false, List, length, Option, Some, None, refl, sym, ◌∙◌, ap, arith}
use Rattle.std.specs.Prelude.{nat_eq, ◌==◌, ◌&&◌, ◌||◌, slice_get, option_map}
use Rattle.std.specs.List.{range_with_len, starts_with}
use Rattle.std.specs.Option.{option_map_or}
use Rattle.std.proofs.lemmas.Bool.{and_parts, eqb-true}
use Rattle.std.proofs.lemmas.Option.{same_Some}
use Rattle.timing_file.specs.declared.timing.Loop.{Loop}
use Rattle.osek_kernel.specs.declared.context.Context.{Context}
use Rattle.osek_kernel.specs.Contexts.{context_at}
use Rattle.osek_kernel.specs.Positions.{position_of}
use Rattle.osek_machine.specs.State.{MachineState}
use Rattle.osek_machine.specs.Events.{Event}
use Rattle.flow_graph.specs.declared.node.Node.{Node}
use Rattle.wcet_atomic_blocks.specs.declared.loops.LoopInstance.{LoopInstance}
use Rattle.wcet_atomic_blocks.specs.Loops.{block_enters, begins_outside, enters, instance_of, in_range, is_inside, is_called_inside, lies_within, node_passes, same_string}
use Rattle.wcet_atomic_blocks.specs.PlantLaws.{FirstIsInside, NodesAreOfOwner}
use Rattle.wcet_atomic_blocks.specs.Plants.{PlantData}
use Rattle.wcet_atomic_blocks.proofs.PlantFacts.{first_is_inside, nodes_are_of_owner}
use Rattle.abstract_sched.specs.declared.states.AbsState.{AbsState}
use Rattle.row_build.specs.Columns.{Column, Starts, Moves, Goes, Begins, Stands, owner_of}
use Rattle.row_build.specs.Families.{is_listed, is_listed_edge}
use Rattle.shadow_runs.specs.Shadow.{begun}
use Rattle.activation_windows.specs.Counted.{IsDeclaredCase}
use Rattle.activation_windows.specs.Windows.{running_after}
use Rattle.activation_windows.proofs.BeginningRows.{begun_owner, owner_by}
use Rattle.activation_windows.proofs.InBlocks.{IsVisit}
use Rattle.activation_windows.proofs.Instances.{number_passes}
use Rattle.activation_windows.proofs.Sums.{one, edges_count, begins_count, stands_count}

-- ---- What a column counts

abbrev pub backs_count : LoopInstance → Column → ℕ
backs_count instance column = edges_count (is_listed_edge instance.backs) column

abbrev pub entries_count : LoopInstance → Column → ℕ
entries_count instance column =
    edges_count (is_listed_edge instance.entering) column + (begins_count (is_listed instance.blocks) column + stands_count (is_listed instance.within) column)

-- ---- Visits of other contexts

some_passes : {A : Type 0} (test : A → Bool) (o : Option A) → option_map_or test o false ≡ true → (a : A) × (o ≡ Some a) × (test a ≡ true)
some_passes test None e = absurd cc
some_passes test (Some a) e = (a, refl, e)

string_context : (head node : Node) → same_string head node ≡ true → head.context ≡ node.context
string_context head node is = eqb-true head.context node.context (and_parts (head.context == node.context) _ is).0

pub inside_context : (head : Node) (l : Loop) (node : Node) → is_inside head l node ≡ true → head.context ≡ node.context
inside_context head l node is = string_context head node (and_parts (same_string head node) (in_range l node.address) is).0

either : (a b : Bool) (P : Type 0) → (a || b) ≡ true → (a ≡ true → P) → (b ≡ true → P) → P
either true b P is first second = first refl
either false b P is first second = second is

inside_string : (head : Node) (l : Loop) (node : Node) → lies_within head l node ≡ true → head.context ≡ node.context
inside_string head l node is =
    either (is_inside head l node) (is_called_inside head l node) (head.context ≡ node.context) is (inside_context head l node)
    (λ called. eqb-true head.context node.context (and_parts (head.context == node.context) _ (and_parts (head.context == node.context
    && option_map_or (in_range l) (slice_get node.sites (length head.sites)) false) (starts_with nat_eq node.sites head.sites) called).0).0)

pub none_one : (test : Bool) → (test ≡ true → ⊥) → one test ≡ 0
none_one true not_so = absurd (not_so refl)
none_one false not_so = refl

pub visit_backs : (plant : PlantData) (block : Option ℕ) (c : Context) (instance : LoopInstance) (visit : Column) → IsVisit plant block c visit
    → backs_count instance visit ≡ 0
visit_backs plant block c instance (Starts start) is = absurd is
visit_backs plant block c instance (Moves going) is = absurd is
visit_backs plant block c instance (Goes along) is = absurd is
visit_backs plant block c instance (Begins number) is = refl
visit_backs plant block c instance (Stands node) is = refl

begins_own : (plant : PlantData) (states : List AbsState) (task mode : ℕ) (events : List Event) (state : MachineState) (head : Node) (declared : ℕ) (l : Loop)
    (d : Context) (number : ℕ)
    → IsDeclaredCase plant states task mode events state → running_after plant mode events ≡ Some d
    → position_of plant.system (begun plant mode events) d ≡ Some number
    → is_listed (instance_of plant.flow plant.blocks.blocks head declared l).blocks number ≡ true → context_at plant.system head.context ≡ d
unfolding FirstIsInside NodesAreOfOwner
begins_own plant states task mode events state head declared l d number case runs began listed =
    let block = some_passes (λ b. enters plant.flow head l b.begin) (slice_get plant.blocks.blocks number)
    (number_passes (block_enters plant.flow plant.blocks.blocks head l) (range_with_len 0 (length plant.blocks.blocks)) number listed) in
    let first = some_passes (is_inside head l) (slice_get plant.flow.nodes block.0.begin.first)
    (and_parts (node_passes plant.flow (is_inside head l) block.0.begin.first) (begins_outside plant.flow l block.0.begin.after) block.2).0 in
    let owner : first.0.context ≡ block.0.begin.owner = owner_by (slice_get plant.flow.nodes block.0.begin.first) block.0.begin.owner first.0 first.1
    (nodes_are_of_owner plant case.of.belongs number block.0 block.0.begin.first block.1
    (first_is_inside plant case.of.belongs number block.0 block.1)) in
    ap (context_at plant.system) (inside_context head l first.0 first.2 ∙ owner)
    ∙ begun_owner plant states task mode events state case d runs number block.0 began block.1

stands_own : (plant : PlantData) (head : Node) (declared : ℕ) (l : Loop) (d : Context) (node : ℕ) → owner_of plant node ≡ Some d
    → is_listed (instance_of plant.flow plant.blocks.blocks head declared l).within node ≡ true → context_at plant.system head.context ≡ d
stands_own plant head declared l d node owner listed =
    let at = some_passes (lies_within head l) (slice_get plant.flow.nodes node)
    (number_passes (node_passes plant.flow (lies_within head l)) (range_with_len 0 (length plant.flow.nodes)) node listed) in
    ap (context_at plant.system) (inside_string head l at.0 at.2)
    ∙ same_Some (context_at plant.system at.0.context) d (ap (option_map (λ (n : Node). context_at plant.system n.context)) (sym at.1) ∙ owner)

-- a context that runs used no visit that counts, unless it is the loop's own
pub other_entries : (plant : PlantData) (states : List AbsState) (task mode : ℕ) (events : List Event) (state : MachineState) (head : Node) (declared : ℕ)
    (l : Loop) (d : Context) (visit : Column)
    → IsDeclaredCase plant states task mode events state → running_after plant mode events ≡ Some d
    → IsVisit plant (position_of plant.system (begun plant mode events) d) d visit → (context_at plant.system head.context ≡ d → ⊥)
    → entries_count (instance_of plant.flow plant.blocks.blocks head declared l) visit ≡ 0
other_entries plant states task mode events state head declared l d (Starts start) case runs is other = absurd is
other_entries plant states task mode events state head declared l d (Moves going) case runs is other = absurd is
other_entries plant states task mode events state head declared l d (Goes along) case runs is other = absurd is
other_entries plant states task mode events state head declared l d (Begins number) case runs is other =
    let none = none_one (is_listed (instance_of plant.flow plant.blocks.blocks head declared l).blocks number)
    (λ listed. other (begins_own plant states task mode events state head declared l d number case runs is listed)) in
    omega arith
other_entries plant states task mode events state head declared l d (Stands node) case runs is other =
    let none = none_one (is_listed (instance_of plant.flow plant.blocks.blocks head declared l).within node)
    (λ listed. other (stands_own plant head declared l d node is.owner listed)) in
    omega arith
