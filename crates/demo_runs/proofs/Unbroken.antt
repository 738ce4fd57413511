-- The run of a generated system has no broken step.
use Rattle.std.proofs.Common.{◌≡◌, ℕ, true, false, List, sym, ◌∙◌, subst}
use Rattle.osek_machine.specs.Events.{Event, Arrive, Take, Execute, Serve, Idle}
use Rattle.osek_machine.specs.State.{MachineState}
use Rattle.flow_graph.specs.declared.flow.Flow.{Flow}
use Rattle.graph_runs.specs.Walking.{IsNoMisuse}
use Rattle.wcet_atomic_blocks.specs.declared.block.Blocks.{Blocks}
use Rattle.wcet_atomic_blocks.specs.Plants.{PlantData, IsPlant}
use Rattle.replay.specs.declared.response.PlayKind.{PlayKind}
use Rattle.replay.specs.declared.response.PlayKind.TheVariants.{TooClose, Unpaired, CodeWritten, LoopPast, Misuse}
use Rattle.replay.specs.Play.{Breaks, ComesTooClose, IsMisuse, PlaysUpTo}
use Rattle.demo_gen.specs.declared.task.DemoTask.{DemoTask}
use Rattle.demo_gen.specs.Demo.{the_image, the_system, the_timing}
use Rattle.demo_gen.specs.Draws.{tasks_of}
use Rattle.demo_gen.proofs.Ranges.{are_drawn}
use Rattle.demo_plants.proofs.Closing.{same_plant}
use Rattle.demo_runs.specs.Laws.{RunsHaveNoBrokenStep}
use Rattle.demo_runs.specs.Schedule.{the_schedule}
use Rattle.demo_runs.proofs.Arriving.{arrives_in_time}
use Rattle.demo_runs.proofs.Newest.{IsNewest, returns_paired, code_spared, nothing_misused, within_bounds}

none_too_close : (tasks : List DemoTask) (flow : Flow) (blocks : Blocks) (count source moment : ℕ) (event : Event) (earlier : List Event) (state : MachineState)
    → IsNewest tasks flow blocks count event earlier state → ComesTooClose (the_system tasks) (the_timing tasks) source moment event earlier → ⊥
none_too_close tasks flow blocks count source moment (Arrive a) earlier state newest close =
    close.2 (arrives_in_time (the_image tasks) (the_system tasks) (the_timing tasks) count a earlier state newest.played)
none_too_close tasks flow blocks count source moment (Take t) earlier state newest close = absurd close
none_too_close tasks flow blocks count source moment (Execute e) earlier state newest close = absurd close
none_too_close tasks flow blocks count source moment (Serve c) earlier state newest close = absurd close
none_too_close tasks flow blocks count source moment (Idle cycles) earlier state newest close = absurd close

no_misuse : (code : ℕ) (event : Event) → IsNoMisuse event → IsMisuse code event → ⊥
no_misuse code (Serve c) clean is = let wrong : true ≡ false = sym is.0 ∙ clean in cc
no_misuse code (Arrive a) clean is = absurd is
no_misuse code (Take t) clean is = absurd is
no_misuse code (Execute e) clean is = absurd is
no_misuse code (Idle cycles) clean is = absurd is

none_breaks : (tasks : List DemoTask) (flow : Flow) (blocks : Blocks) (count : ℕ) (event : Event) (earlier : List Event) (state : MachineState) (fault : PlayKind)
    → IsNewest tasks flow blocks count event earlier state → Breaks (the_image tasks) (the_system tasks) (the_timing tasks) event earlier fault → ⊥
none_breaks tasks flow blocks count event earlier state (TooClose source moment) newest breaks =
    none_too_close tasks flow blocks count source moment event earlier state newest breaks
none_breaks tasks flow blocks count event earlier state (Unpaired context address moment) newest breaks =
    breaks.1 (returns_paired tasks flow blocks count event earlier state newest)
none_breaks tasks flow blocks count event earlier state (CodeWritten context address moment) newest breaks =
    breaks.2 (code_spared tasks flow blocks count event earlier state newest)
none_breaks tasks flow blocks count event earlier state (LoopPast context address moment) newest breaks =
    breaks.2 (within_bounds tasks flow blocks count event earlier state newest)
none_breaks tasks flow blocks count event earlier state (Misuse context address code moment) newest breaks =
    no_misuse code event (nothing_misused tasks flow blocks count event earlier state newest).0 breaks.2

pub runs_have_no_broken_step : RunsHaveNoBrokenStep
runs_have_no_broken_step seed count plant fault is played =
    let tasks = tasks_of seed count in
    let same = same_plant plant tasks is.plant_is.image_is is.plant_is.system_is is.plant_is.timing_is in
    let there : PlaysUpTo (the_image tasks) (the_system tasks) (the_timing tasks) (the_schedule count) fault =
    subst (λ (p : PlantData). PlaysUpTo p.image p.system p.timing (the_schedule count) fault) same played in
    none_breaks tasks plant.flow plant.blocks count there.event there.earlier there.state fault (record {
      drawn = are_drawn seed count is.some is.few;
      belongs = subst IsPlant same is.plant_is.belong;
      played = there.played;
      declared = there.declared;
      clean = there.clean;
    }) there.breaks
