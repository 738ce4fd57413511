-- The laws of the simulation: by induction on the run.
use Rattle.std.proofs.Common.{ℕ, List, [], ◌∷◌, Contains, Option, sym, subst}
use Rattle.osek_kernel.specs.declared.kernel.Kernel.{Kernel}
use Rattle.osek_kernel.specs.Positions.{ArePositions}
use Rattle.osek_kernel.specs.Taken.{initial}
use Rattle.osek_machine.specs.State.{MachineState}
use Rattle.osek_machine.specs.Events.{Event}
use Rattle.osek_machine.specs.Runs.{IsInitial, IsRun}
use Rattle.osek_machine.specs.Declarations.{PairsReturns}
use Rattle.osek_machine.proofs.Times.{starts_with_room}
use Rattle.graph_runs.specs.Walking.{MisusesNothing}
use Rattle.graph_runs.proofs.Walking.{starts_walk, walkers_are_not_stuck}
use Rattle.wcet_atomic_blocks.specs.Plants.{PlantData, IsPlant}
use Rattle.abstract_sched.specs.declared.states.AbsState.{AbsState}
use Rattle.scheduler_moves.specs.Closed.{IsClosed}
use Rattle.scheduler_moves.specs.Composed.{composed}
use Rattle.scheduler_moves.specs.Moves.{start_blocks}
use Rattle.scheduler_moves.proofs.Composing.{composed_kernel, composed_positions}
use Rattle.shadow_runs.specs.Covering.{RunsAreCovered, NothingIsMisused, StepsAreCovered, PlacesMakeSense}
use Rattle.shadow_runs.specs.Shadow.{begun}
use Rattle.shadow_runs.proofs.Begun.{starts_begin}
use Rattle.shadow_runs.proofs.Inside.{start_inside}
use Rattle.shadow_runs.proofs.Numbers.{at_node}
use Rattle.shadow_runs.proofs.Planted.{have_graph}
use Rattle.shadow_runs.proofs.Stepping.{Covers, IsNext, can_compose, step_is_fine, next_covers}

-- ---- The induction

start_covers : (plant : PlantData) (states : List AbsState) (mode : ℕ) (state : MachineState) → IsPlant plant → IsClosed plant states
    → IsInitial plant.image plant.system mode state
    → Covers plant states mode [] state
start_covers plant states mode state is closed run =
    let blocks : List (Option ℕ) = start_blocks plant (initial plant.system mode) in
    record {
      room = starts_with_room plant.image plant.system mode state run;
      walking = starts_walk plant.image plant.system plant.timing mode state (have_graph plant is) run;
      blocks = subst (λ (k : Kernel). ArePositions plant.system k blocks) (sym run.kernel) (starts_begin plant is (initial plant.system mode));
      inside = start_inside plant is mode state run;
      listed = subst (λ (k : Kernel). Contains states (composed plant.system k blocks)) (sym run.kernel) (closed.starts mode run.exists);
    }

pub covers : (plant : PlantData) (states : List AbsState) (mode : ℕ) (events : List Event) (state : MachineState) → IsPlant plant → IsClosed plant states
    → IsRun plant.image plant.system mode events state → PairsReturns plant.image events → Covers plant states mode events state × MisusesNothing events
covers plant states mode [] state is closed run pairs = (start_covers plant states mode state is closed run, tt)
covers plant states mode (event ∷ earlier) state is closed run pairs =
    let before = covers plant states mode earlier run.0 is closed run.1 pairs.1 in
    let next : IsNext plant states mode event earlier run.0 state = record
    { is = is; closed = closed; run = run.1; covers = before.0; step = run.2; pairs = pairs.0 } in
    let fine = step_is_fine plant states mode event earlier run.0 state next in
    (next_covers plant states mode event earlier run.0 state next fine, (fine.clean, before.1))

-- ---- The laws

pub runs_are_covered : RunsAreCovered
runs_are_covered plant states mode events state case =
    let all = (covers plant states mode events state case.belongs case.closed case.run case.pairs).0 in
    let can = can_compose plant states mode events state all in
    record {
      listed = all.listed;
      kernel = composed_kernel plant.system state.kernel (begun plant mode events) can;
      blocks = composed_positions plant.system state.kernel (begun plant mode events) can;
      inside = all.inside;
    }

pub nothing_is_misused : NothingIsMisused
nothing_is_misused plant states mode events state case = (covers plant states mode events state case.belongs case.closed case.run case.pairs).1

pub steps_are_covered : StepsAreCovered
steps_are_covered plant states mode event earlier before after next =
    let case = next.before_it in
    let all = (covers plant states mode earlier before case.belongs case.closed case.run case.pairs).0 in
    let fine = step_is_fine plant states mode event earlier before after
    (record { is = case.belongs; closed = case.closed; run = case.run; covers = all; step = next.step; pairs = next.pairs }) in
    (fine.covered, fine.clean)

pub places_make_sense : PlacesMakeSense
places_make_sense plant states mode events state case =
    let all = (covers plant states mode events state case.belongs case.closed case.run case.pairs).0 in
    record {
      moves = λ context address stuck.
          walkers_are_not_stuck plant.image plant.system plant.timing context address state (have_graph plant case.belongs) all.room all.walking stuck;
      facts = λ context standing exists stands. (at_node plant case.belongs context standing (all.walking.walks context standing exists stands)).stands.facts;
    }
