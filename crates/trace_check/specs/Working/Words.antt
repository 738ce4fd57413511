-- Words of the verdict over the parts of a follower.
use Rattle.std.specs.Prelude.{ℕ, ◌||◌, nat_lt, Bool, false, List, position, Option, Some, None, if◌then◌else◌}
use Rattle.std.specs.Option.{option_map_or}
use Rattle.oil_model.specs.declared.system.System.{System}
use Rattle.timing_file.specs.declared.timing.Timing.{Timing}
use Rattle.osek_kernel.specs.Sources.{source_at, is_live, is_one_shot}
use Rattle.osek_machine.specs.Declarations.{distance_of, gap}
use Rattle.flow_graph.specs.declared.node.Node.{Node}
use Rattle.wcet_atomic_blocks.specs.Plants.{PlantData}
use Rattle.abstract_sched.specs.declared.states.AbsState.{AbsState}
use Rattle.trace_check.specs.Verdict.{Times, ends_early, lasts_over, is_node}

abbrev pub has_wrong_times_since : ℕ → Times → Bool
has_wrong_times_since latest times = ends_early times || nat_lt times.start latest

abbrev pub is_live_in : PlantData → AbsState → ℕ → Bool
is_live_in plant state source = is_live plant.system state.mode (source_at plant.system source)

abbrev pub any_lasted_over : ℕ → ℕ → Option ℕ → Bool
any_lasted_over bound end since = option_map_or (lasts_over bound end) since false

abbrev pub since_by : Bool → Bool → ℕ → Option ℕ → Option ℕ
since_by begun active start since = if begun then Some start else (if active then since else None)

abbrev pub node_among : List Node → Node → Option ℕ
node_among nodes node = position (is_node node.context node.sites node.address) nodes

abbrev pub is_near_by : System → Timing → ℕ → ℕ → ℕ → Bool
is_near_by system timing source at other =
    is_one_shot system (source_at system source) || nat_lt (gap at other) (distance_of system timing (source_at system source))
