-- The newest step of the run of a generated system: it keeps what is declared, and misuses no service.
use Rattle.std.proofs.Common.{ℕ, ◌≤◌, List, [], ◌∷◌, length, Contains, refl, sym, ap, ◌∙◌}
use Rattle.std.specs.List.{AllByRecursion}
use Rattle.elf_image.specs.Image.{ImageData, has_word}
use Rattle.oil_model.specs.declared.system.System.{System}
use Rattle.rv32_machine.specs.Code.{insn_at}
use Rattle.timing_file.specs.declared.timing.Loop.{Loop}
use Rattle.timing_file.specs.declared.timing.Timing.{Timing}
use Rattle.osek_kernel.specs.Contexts.{IsContext}
use Rattle.osek_machine.specs.Declarations.{AreWithinBounds, IsDeclared, PairsReturns, ReturnsPaired, SparesCode}
use Rattle.osek_machine.specs.Events.{Execution, Event, Arrive, Take, Execute, Serve, Idle}
use Rattle.osek_machine.specs.Loops.{laps_of}
use Rattle.osek_machine.specs.Room.{IsStateOf}
use Rattle.osek_machine.specs.Runs.{IsRun}
use Rattle.osek_machine.specs.State.{MachineState}
use Rattle.osek_machine.specs.Steps.{Executes}
use Rattle.osek_machine.proofs.Kept.{running_exists}
use Rattle.osek_machine.proofs.Times.{runs_keep_room}
use Rattle.flow_graph.specs.declared.flow.Flow.{Flow}
use Rattle.graph_runs.specs.Walking.{AreWalking, MisusesNothing}
use Rattle.graph_runs.proofs.Walking.{runs_walk}
use Rattle.wcet_atomic_blocks.specs.declared.block.Blocks.{Blocks}
use Rattle.wcet_atomic_blocks.specs.Plants.{IsPlant}
use Rattle.shadow_runs.proofs.Covering.{nothing_is_misused}
use Rattle.shadow_runs.proofs.Members.{first_member, later_member}
use Rattle.shadow_runs.proofs.Numbers.{at_node}
use Rattle.shadow_runs.proofs.Planted.{have_graph}
use Rattle.counted_loops.proofs.Running.{go_round_at_most}
use Rattle.replay.specs.declared.schedule.Schedule.{Schedule}
use Rattle.replay.specs.Playing.{IsPlayed}
use Rattle.demo_gen.specs.declared.task.DemoTask.{DemoTask}
use Rattle.demo_gen.specs.Demo.{the_image, the_system, the_timing, the_states}
use Rattle.demo_gen.specs.Working.Drawn.{AreDrawn}
use Rattle.demo_plants.proofs.Closing.{are_covered}
use Rattle.demo_plants.proofs.EntriesOf.{the_program, is_demo}
use Rattle.demo_plants.proofs.Faultless.{inside}
use Rattle.demo_plants.proofs.Simple.{plant_with}
use Rattle.demo_runs.specs.Schedule.{the_schedule}
use Rattle.demo_runs.proofs.Counting.{loops_are_counted}
use Rattle.demo_runs.proofs.Instructions.{IsUsed, used_at, used_paired, used_spares}

-- a run that is played is a run
played_run : (image : ImageData) (system : System) (timing : Timing) (schedule : Schedule) (events : List Event) (state : MachineState)
    → IsPlayed image system timing schedule events state → IsRun image system schedule.mode events state
played_run image system timing schedule [] state begins = begins.initial
played_run image system timing schedule (event ∷ earlier) state played =
    (played.0, played_run image system timing schedule earlier played.0 played.1, played.2.step)

-- The step is the newest one of the run, which kept what is declared and misused nothing before it.
pub record IsNewest (tasks : List DemoTask) (flow : Flow) (blocks : Blocks) (count : ℕ) (event : Event) (earlier : List Event) (state : MachineState) : Type 0 where
  pub drawn : AreDrawn tasks
  pub belongs : IsPlant (plant_with tasks flow blocks)
  pub played : IsPlayed (the_image tasks) (the_system tasks) (the_timing tasks) (the_schedule count) (event ∷ earlier) state
  pub declared : IsDeclared (the_image tasks) (the_system tasks) (the_timing tasks) earlier
  pub clean : MisusesNothing earlier

-- ---- The instruction of the step

insn_used : (tasks : List DemoTask) (flow : Flow) (blocks : Blocks) (count : ℕ) (e : Execution) (earlier : List Event) (state : MachineState)
    → (newest : IsNewest tasks flow blocks count (Execute e) earlier state) → (step : Executes (the_image tasks) (the_system tasks) e newest.played.0 state)
    → IsUsed step.step.insn
insn_used tasks flow blocks count e earlier state newest step =
    let before : MachineState = newest.played.0 in
    let demo = is_demo tasks newest.drawn in
    let run : IsRun (the_image tasks) (the_system tasks) 0 earlier before =
    played_run (the_image tasks) (the_system tasks) (the_timing tasks) (the_schedule count) earlier before newest.played.1 in
    let graph = have_graph (plant_with tasks flow blocks) newest.belongs in
    let room : IsStateOf (the_system tasks) before = runs_keep_room (the_image tasks) (the_system tasks) 0 earlier before graph.system_lawful graph.entries run in
    let walking : AreWalking (the_program tasks) (the_system tasks) before =
    runs_walk (the_image tasks) (the_system tasks) (the_timing tasks) 0 earlier before graph run newest.declared.returns newest.clean in
    let exists : IsContext (the_system tasks) e.context = running_exists (the_system tasks) before e.context room step.running in
    let here = at_node (plant_with tasks flow blocks) newest.belongs e.context e.before (walking.walks e.context e.before exists step.stands) in
    let within = inside (the_program tasks) tasks here.node demo here.reached in
    used_at (insn_at (the_image tasks)) (has_word (the_image tasks).code) within.task within.place step.step.insn
    (demo.placed here.node.context within.task within.there) within.below
    (ap (insn_at (the_image tasks)) (sym (here.stands.place_is ∙ within.address_is)) ∙ step.step.fetched)

pub returns_paired : (tasks : List DemoTask) (flow : Flow) (blocks : Blocks) (count : ℕ) (event : Event) (earlier : List Event) (state : MachineState)
    → IsNewest tasks flow blocks count event earlier state → ReturnsPaired (the_image tasks) event
returns_paired tasks flow blocks count (Execute e) earlier state newest =
    let step : Executes (the_image tasks) (the_system tasks) e newest.played.0 state = newest.played.2.step in
    used_paired (insn_at (the_image tasks)) e.before.place step.step.insn e.before.calls e.after.place step.step.fetched
    (insn_used tasks flow blocks count e earlier state newest step)
returns_paired tasks flow blocks count (Arrive a) earlier state newest = tt
returns_paired tasks flow blocks count (Take t) earlier state newest = tt
returns_paired tasks flow blocks count (Serve c) earlier state newest = tt
returns_paired tasks flow blocks count (Idle cycles) earlier state newest = tt

pub code_spared : (tasks : List DemoTask) (flow : Flow) (blocks : Blocks) (count : ℕ) (event : Event) (earlier : List Event) (state : MachineState)
    → IsNewest tasks flow blocks count event earlier state → SparesCode (the_image tasks) event
code_spared tasks flow blocks count (Execute e) earlier state newest =
    let before : MachineState = newest.played.0 in
    let step : Executes (the_image tasks) (the_system tasks) e before state = newest.played.2.step in
    used_spares (the_image tasks) step.step.insn e.before.place e.before.registers before.memory e.device step.step.effect e.stored
    (insn_used tasks flow blocks count e earlier state newest step) step.step.does step.stored
code_spared tasks flow blocks count (Arrive a) earlier state newest = tt
code_spared tasks flow blocks count (Take t) earlier state newest = tt
code_spared tasks flow blocks count (Serve c) earlier state newest = tt
code_spared tasks flow blocks count (Idle cycles) earlier state newest = tt

-- ---- The run with it

run_with : (tasks : List DemoTask) (flow : Flow) (blocks : Blocks) (count : ℕ) (event : Event) (earlier : List Event) (state : MachineState)
    → IsNewest tasks flow blocks count event earlier state → IsRun (the_image tasks) (the_system tasks) 0 (event ∷ earlier) state
run_with tasks flow blocks count event earlier state newest =
    played_run (the_image tasks) (the_system tasks) (the_timing tasks) (the_schedule count) (event ∷ earlier) state newest.played

pairs_with : (tasks : List DemoTask) (flow : Flow) (blocks : Blocks) (count : ℕ) (event : Event) (earlier : List Event) (state : MachineState)
    → IsNewest tasks flow blocks count event earlier state → PairsReturns (the_image tasks) (event ∷ earlier)
pairs_with tasks flow blocks count event earlier state newest = (returns_paired tasks flow blocks count event earlier state newest, newest.declared.returns)

pub nothing_misused : (tasks : List DemoTask) (flow : Flow) (blocks : Blocks) (count : ℕ) (event : Event) (earlier : List Event) (state : MachineState)
    → IsNewest tasks flow blocks count event earlier state → MisusesNothing (event ∷ earlier)
nothing_misused tasks flow blocks count event earlier state newest =
    let plant = plant_with tasks flow blocks in
    let covered = are_covered tasks newest.drawn plant (record { image_is = refl; system_is = refl; timing_is = refl; belong = newest.belongs }) in
    nothing_is_misused plant (the_states (length tasks)) 0 (event ∷ earlier) state (record {
      belongs = newest.belongs;
      closed = covered.closed;
      run = run_with tasks flow blocks count event earlier state newest;
      pairs = pairs_with tasks flow blocks count event earlier state newest;
    })

-- what holds of each member
each_member : {A : Type 0} (P : A → Type 0) (xs : List A) → ((x : A) → Contains xs x → P x) → AllByRecursion P xs
each_member P [] holds = tt
each_member P (x ∷ xs) holds = (holds x (first_member x xs), each_member P xs (λ y has. holds y (later_member y x xs has)))

pub within_bounds : (tasks : List DemoTask) (flow : Flow) (blocks : Blocks) (count : ℕ) (event : Event) (earlier : List Event) (state : MachineState)
    → IsNewest tasks flow blocks count event earlier state → AreWithinBounds (the_image tasks) (the_timing tasks) (event ∷ earlier)
within_bounds tasks flow blocks count event earlier state newest context =
    let plant = plant_with tasks flow blocks in
    each_member (λ (l : Loop). AllByRecursion (λ laps. laps ≤ l.bound) (laps_of (the_image tasks) l context (event ∷ earlier))) (the_timing tasks).loops
    (λ l has. go_round_at_most plant l l.bound 0 (event ∷ earlier) state context newest.belongs has
    (loops_are_counted tasks plant l newest.drawn (record { image_is = refl; system_is = refl; timing_is = refl; belong = newest.belongs }) has)
    (run_with tasks flow blocks count event earlier state newest) (pairs_with tasks flow blocks count event earlier state newest)
    (nothing_misused tasks flow blocks count event earlier state newest))
