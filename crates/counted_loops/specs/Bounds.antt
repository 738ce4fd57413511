-- Bounds of activations over found timings: for the loops whose code gives a bound nothing is asked of runs.
use Rattle.std.specs.Prelude.{◌≡◌, ℕ, ◌≤◌, List, Contains, Option}
use Rattle.osek_machine.specs.Activations.{Activation, activations}
use Rattle.osek_machine.specs.Events.{Event}
use Rattle.osek_machine.specs.Runs.{IsRun}
use Rattle.osek_machine.specs.State.{MachineState}
use Rattle.wcet_atomic_blocks.specs.Plants.{PlantData, IsPlant}
use Rattle.abstract_sched.specs.declared.states.AbsState.{AbsState}
use Rattle.scheduler_moves.specs.Closed.{IsClosed}
use Rattle.activation_windows.specs.Bounds.{BoundsActivations}
use Rattle.counted_loops.specs.Counted.{AreFound}
use Rattle.counted_loops.specs.Found.{found_timing, IsDeclaredBut}

-- the plant with found bounds in place of declared ones
abbrev pub found_plant : PlantData → List (Option ℕ) → PlantData
found_plant plant found = record plant { timing = found_timing plant.timing found }

-- In every run of the machine that keeps what is declared, of the loops for those alone for which no bound was found, no
-- activation of the task lasts longer, ended or not.
abbrev pub BoundsActivationsBut : PlantData → List (Option ℕ) → ℕ → ℕ → Type 0
BoundsActivationsBut plant found task bound = (mode : ℕ) (events : List Event) (state : MachineState) (activation : Activation)
    → IsRun plant.image plant.system mode events state → IsDeclaredBut plant.image plant.system plant.timing found events
    → Contains (activations plant.system mode events) activation → activation.task ≡ task → activation.cycles ≤ bound

-- So a bound over the found timing, with a closed list of states, is one without the premise on these loops.
abbrev pub FoundTimingsBound : Type 0
FoundTimingsBound = (plant : PlantData) (found : List (Option ℕ)) (states : List AbsState) (task bound : ℕ)
    → IsPlant plant → AreFound plant.image plant.system plant.flow plant.timing.loops found → IsClosed (found_plant plant found) states
    → BoundsActivations (found_plant plant found) task bound → BoundsActivationsBut plant found task bound
