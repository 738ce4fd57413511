-- Rows by what they are of, and what the kinds stand for.
use Rattle.std.specs.Prelude.{ℕ, ◌<◌, Bool, List, [], length, slice_index_or, if◌then◌else◌}
use Rattle.osek_kernel.specs.Contexts.{context_at}
use Rattle.osek_kernel.specs.Sources.{source_at, is_one_shot}
use Rattle.wcet_atomic_blocks.specs.declared.loops.LoopInstance.{LoopInstance}
use Rattle.wcet_atomic_blocks.specs.Plants.{PlantData}
use Rattle.abstract_sched.specs.declared.states.AbsState.{AbsState}
use Rattle.row_build.specs.declared.kinds.RowKind.{RowKind}
use Rattle.row_build.specs.declared.kinds.RowKind.TheVariants as kinds
use Rattle.abstract_sched.specs.States.{same_state}
use Rattle.row_build.specs.declared.into.StateTest.{StateTest}
use Rattle.row_build.specs.declared.into.StateTest.TheVariants as tests
use Rattle.row_build.specs.Families.{Row, runs_at, runs_in_block, one_start, leaves, passes, stands_by_start, stands_into, stands_once, begins_by_move, begins_into, goes_round, arrives_apart, arrives_once}
use Rattle.row_build.specs.Working.Numbered.{state_at}

-- an instance without a member
abbrev pub no_instance : LoopInstance
no_instance = record { context = 0; declared = 0; backs = []; entering = []; blocks = []; within = [] }

abbrev pub instance_at : List LoopInstance → ℕ → LoopInstance
instance_at instances number = slice_index_or instances number no_instance

abbrev pub row_of : PlantData → List AbsState → List LoopInstance → ℕ → RowKind → Row
row_of plant states instances task kinds.OneStart = one_start
row_of plant states instances task (kinds.Leaves state) = leaves plant task (state_at states state)
row_of plant states instances task (kinds.Passes node) = passes plant node
row_of plant states instances task (kinds.StandsByStart place node) = stands_by_start plant task (context_at plant.system place) node
row_of plant states instances task (kinds.StandsInto place node) = stands_into plant task (context_at plant.system place) node
row_of plant states instances task (kinds.StandsOnce place) = stands_once plant (context_at plant.system place)
row_of plant states instances task (kinds.BeginsByMove block owner after) = begins_by_move plant block (record { owner = owner; after = after; first = 0 })
row_of plant states instances task (kinds.BeginsInto block owner) = begins_into plant task block (context_at plant.system owner)
row_of plant states instances task (kinds.GoesRound instance) = goes_round plant (instance_at instances instance)
row_of plant states instances task (kinds.ArrivesApart source) = arrives_apart plant source
row_of plant states instances task (kinds.ArrivesOnce source) = arrives_once source

-- states and nodes exist
abbrev pub IsKind : PlantData → List AbsState → List LoopInstance → RowKind → Type 0
IsKind plant states instances (kinds.Leaves state) = state < length states
IsKind plant states instances (kinds.StandsByStart place node) = node < length plant.flow.nodes
IsKind plant states instances (kinds.StandsInto place node) = node < length plant.flow.nodes
IsKind plant states instances (kinds.GoesRound instance) = instance < length instances
IsKind plant states instances kind = Unit {0}

-- ---- Tests of states

abbrev pub test_of : PlantData → List AbsState → ℕ → StateTest → AbsState → Bool
test_of plant states task (tests.Is state) = same_state (state_at states state)
test_of plant states task (tests.RunsAt place node) = runs_at plant task (context_at plant.system place) node
test_of plant states task (tests.RunsIn place block) = runs_in_block plant task (context_at plant.system place) block

-- what the test names exists
abbrev pub IsTest : PlantData → List AbsState → StateTest → Type 0
IsTest plant states (tests.Is state) = state < length states
IsTest plant states (tests.RunsAt place node) = node < length plant.flow.nodes
IsTest plant states (tests.RunsIn place block) = Unit {0}

abbrev pub kind_of_source : PlantData → ℕ → RowKind
kind_of_source plant source = if is_one_shot plant.system (source_at plant.system source) then kinds.ArrivesOnce source else kinds.ArrivesApart source
