-- In a run each active context has one open invocation more than it has open calls.
use Rattle.std.proofs.Common.{◌≡◌, ℕ, suc, ◌-◌, ◌<◌, inl, inr, Bool, true, false, cond, List, [], ◌∷◌, length, take, get_or, Option, Some, None, refl, sym, ◌∙◌, ap, subst, arith, length-append}
use Rattle.std.specs.Prelude.{slice_get, is_none, is_some, option_map, ◌&&◌}
use Rattle.std.proofs.lemmas.Option.{same_Some, none-some, slice_get-get_or}
use Rattle.std.proofs.lemmas.List.{length-take-le}
use Rattle.oil_model.specs.declared.system.System.{System}
use Rattle.oil_model.specs.System as systems
use Rattle.elf_image.specs.Image.{ImageData}
use Rattle.rv32_decode.specs.declared.instruction.Insn.{Insn}
use Rattle.rv32_machine.specs.declared.turns.Turn.{Turn}
use Rattle.rv32_machine.specs.declared.turns.Turn.TheVariants.{Onward, Branching, Jumping, Calling, Returning, Serving, Indirect, Breaking}
use Rattle.rv32_machine.specs.Execution.{following}
use Rattle.rv32_machine.specs.Code.{insn_at}
use Rattle.rv32_machine.specs.Places.{turn_at, turn_of, pair_at}
use Rattle.rv32_machine.specs.ContextStep.{Standing, calls_after, turn_from}
use Rattle.timing_file.specs.declared.timing.Loop.{Loop}
use Rattle.timing_file.specs.declared.timing.Timing.{Timing}
use Rattle.osek_kernel.specs.declared.context.Context.{Context}
use Rattle.osek_kernel.specs.declared.context.Context.TheVariants as contexts
use Rattle.osek_kernel.specs.declared.kernel.Reply.{Reply}
use Rattle.osek_kernel.specs.Contexts.{IsContext, place_of, context_count, entry_of}
use Rattle.osek_kernel.specs.Sources.{source_count}
use Rattle.osek_kernel.specs.Positions.{position_of, placed, started, answered}
use Rattle.osek_machine.specs.State.{MachineState, standing_of, standing_at, at_entry}
use Rattle.osek_machine.specs.Events.{Taking, Execution, ServiceCall, Event, Arrive, Take, Execute, Serve, Idle}
use Rattle.osek_machine.specs.Steps.{Step, Takes, Executes, Serves, gone_on, taken_by, served_by, argument_in}
use Rattle.osek_machine.specs.Room.{HaveEntries, IsStateOf}
use Rattle.osek_machine.specs.Runs.{IsRun, IsInitial}
use Rattle.osek_machine.specs.Loops.{same_context, is_this, begun, moved_on, returned, innermost, turned, laps_of}
use Rattle.osek_machine.proofs.Kept.{taken_exists, served_exists, running_exists, pending_within}
use Rattle.osek_machine.proofs.Times.{runs_keep_room}
use Rattle.osek_machine.proofs.Placing.{contexts_apart, placed_here, placed_elsewhere, placed_count}
use Rattle.replay.specs.Working.Table.{Table}
use Rattle.replay.specs.Working.Laps.{AreKept, MayTurn, MayTurnAt}
use Rattle.replay.specs.declared.laps.Laps.{Laps}
use Rattle.replay.proofs.LapsTables.{length-moved_on}
use Rattle.replay.proofs.LapsKept.{same_context-refl, same_context-other}

-- Each active context has one more open invocation than open calls.
pub record Deep (told : Loop → Context → List ℕ) (system : System) (standings : List (Option Standing)) : Type 0 where
  pub each : (c : Context) (standing : Standing) → IsContext system c → position_of system standings c ≡ Some standing
      → (declared : Loop) → length (told declared c) ≡ suc (length standing.calls)

pub record AreDeep (image : ImageData) (system : System) (events : List Event) (state : MachineState) : Type 0 where
  pub deep : Deep (λ declared c. laps_of image declared c events) system state.standings

-- ---- Turns

last_there : (calls : List ℕ) → 0 < length calls → slice_get calls (length calls - 1) ≡ Some (get_or calls (length calls - 1) 0)
last_there calls some = slice_get-get_or calls (length calls - 1) 0 (omega arith)

returned_depth : (declared : Loop) (calls xs : List ℕ) → length xs ≡ suc (length calls)
    → length (returned declared (innermost calls) xs) ≡ suc (length (take (length calls - 1) calls))
returned_depth declared [] xs e = e
returned_depth declared (call ∷ calls) [] e = absurd (omega arith)
returned_depth declared (call ∷ calls) (x ∷ xs) e =
    ap (λ (o : Option ℕ). length (returned declared o (x ∷ xs))) (last_there (call ∷ calls) (omega arith))
    ∙ (length-moved_on declared (get_or (call ∷ calls) (length (call ∷ calls) - 1) 0) (following (get_or (call ∷ calls) (length (call ∷ calls) - 1) 0)) xs
    ∙ omega (arith, e, length-take-le (length (call ∷ calls) - 1) (call ∷ calls) (omega arith)))

turned_depth : (declared : Loop) (turn : Turn) (e : Execution) (xs : List ℕ) → length xs ≡ suc (length e.before.calls)
    → length (turned declared (Some turn) e xs) ≡ suc (length (calls_after turn e.before.place e.before.calls))
turned_depth declared Onward e xs is = length-moved_on declared e.before.place e.after.place xs ∙ is
turned_depth declared (Branching target) e xs is = length-moved_on declared e.before.place e.after.place xs ∙ is
turned_depth declared (Jumping target) e xs is = length-moved_on declared e.before.place e.after.place xs ∙ is
turned_depth declared (Calling target) e xs is = omega (arith, is, length-append e.before.calls (e.before.place ∷ []))
turned_depth declared Returning e xs is = returned_depth declared e.before.calls xs is
turned_depth declared Serving e xs is = length-moved_on declared e.before.place e.after.place xs ∙ is
turned_depth declared Indirect e xs is = length-moved_on declared e.before.place e.after.place xs ∙ is
turned_depth declared Breaking e xs is = length-moved_on declared e.before.place e.after.place xs ∙ is

-- the turn of the instruction that stands there
turn_there : (code : ℕ → Option Insn) (insn : Insn) (before : Standing) → code before.place ≡ Some insn
    → turn_at code before.place ≡ Some (turn_from code insn before)
turn_there code insn before fetched = ap (option_map (turn_of (pair_at code before.place) before.place)) fetched

-- ---- Contexts that are placed

-- what is told of one context changes, and it is placed
deep_placed : (told told' : Loop → Context → List ℕ) (system : System) (context : Context) (position : Option Standing) (xs : List (Option Standing))
    → IsContext system context → length xs ≡ context_count system → Deep told system xs
    → ((standing : Standing) → position ≡ Some standing → (declared : Loop) → length (told' declared context) ≡ suc (length standing.calls))
    → ((c : Context) → (c ≡ context → ⊥) → (declared : Loop) → length (told' declared c) ≡ length (told declared c))
    → Deep told' system (placed system context position xs)
deep_placed told told' system context position xs is count deep own others = record {
  each = λ c standing there e declared. elim (contexts_apart system c context there is) [
    | inl same ↦ subst (λ (d : Context). length (told' declared d) ≡ suc (length standing.calls)) (sym same)
        (own standing (sym (placed_here system context position xs is count)
        ∙ (ap (position_of system (placed system context position xs)) (sym same) ∙ e)) declared)
    | inr other ↦ others c (λ same. other (ap (place_of system) same)) declared
        ∙ deep.each c standing there (sym (placed_elsewhere system context c position xs other) ∙ e) declared
  ];
}

entry_calls : (registers : List ℕ) (found : Option ℕ) (standing : Standing) → option_map (standing_at registers) found ≡ Some standing → standing.calls ≡ []
entry_calls registers None standing e = absurd (none-some standing e)
entry_calls registers (Some place) standing e = ap (λ (s : Standing). s.calls) (sym (same_Some (standing_at registers place) standing e))

one_open : (standing : Standing) → standing.calls ≡ [] → 1 ≡ suc (length standing.calls)
one_open standing none = ap (λ (calls : List ℕ). suc (length calls)) (sym none)

deep_started : (image : ImageData) (system : System) (registers : List ℕ) (told : Loop → Context → List ℕ) (who : Option Context)
    (xs : List (Option Standing))
    → ((c : Context) → who ≡ Some c → IsContext system c) → length xs ≡ context_count system → Deep told system xs
    → Deep (λ declared c. cond (is_this c who) (begun []) (told declared c)) system (started system (at_entry image system registers) who xs)
deep_started image system registers told None xs exists count deep = deep
deep_started image system registers told (Some context) xs exists count deep =
    deep_placed told (λ declared c. cond (same_context c context) (begun []) (told declared c)) system context (at_entry image system registers context) xs
    (exists context refl) count deep
    (λ standing e declared. rw (same_context-refl context) (one_open standing (entry_calls registers (entry_of image system context) standing e)))
    (λ c other declared. rw (same_context-other c context other) refl)

-- ---- Steps

take_deep : (image : ImageData) (system : System) (taking : Taking) (earlier : List Event) (before after : MachineState) → systems.IsLawful system
    → IsStateOf system before
    → Takes image system taking before after → AreDeep image system earlier before → AreDeep image system (Take taking ∷ earlier) after
take_deep image system taking earlier before after lawful fits step deep =
    let done = taken_by system taking.source before in
    let w = pending_within before.pending taking.source step.pending in
    let same : length before.pending ≡ source_count system = fits.pending in
    let within : taking.source < source_count system = omega arith in
    subst (AreDeep image system (Take taking ∷ earlier)) (sym step.becomes) (record {
      deep = subst (λ (who : Option Context). Deep (λ declared c. cond (is_this c who) (begun []) (laps_of image declared c earlier)) system
          (started system (at_entry image system taking.registers) done.started before.standings)) (sym step.started)
          (deep_started image system taking.registers (λ declared c. laps_of image declared c earlier) done.started before.standings
          (taken_exists system before.kernel lawful taking.source within) fits.positions.count deep.deep);
    })

execute_deep : (image : ImageData) (system : System) (e : Execution) (earlier : List Event) (before after : MachineState) → IsStateOf system before
    → Executes image system e before after → AreDeep image system earlier before → AreDeep image system (Execute e ∷ earlier) after
execute_deep image system e earlier before after fits step deep =
    let is : IsContext system e.context = running_exists system before e.context fits step.running in
    subst (AreDeep image system (Execute e ∷ earlier)) (sym step.becomes) (record {
      deep = deep_placed (λ declared c. laps_of image declared c earlier) (λ declared c. laps_of image declared c (Execute e ∷ earlier))
          system e.context (Some e.after) before.standings
          is fits.positions.count deep.deep
          (λ standing at declared. rw (same_context-refl e.context, turn_there (insn_at image) step.step.insn e.before step.step.fetched)
          (turned_depth declared (turn_from (insn_at image) step.step.insn e.before) e (laps_of image declared e.context earlier)
          (deep.deep.each e.context e.before is step.stands declared)
          ∙ ap (λ (calls : List ℕ). suc (length calls)) (sym step.step.calls_are ∙ ap (λ (s : Standing). s.calls) (same_Some e.after standing at))))
          (λ c other declared. rw (same_context-other c e.context other) refl);
    })

length-cond_moved : (b : Bool) (declared : Loop) (from to : ℕ) (xs : List ℕ) → length (cond b (moved_on declared from to xs) xs) ≡ length xs
length-cond_moved true declared from to xs = length-moved_on declared from to xs
length-cond_moved false declared from to xs = refl

-- what is told when the caller of a service went on behind it, or ended
abbrev after_call : ServiceCall → Option Context → (Loop → Context → List ℕ) → Loop → Context → List ℕ
after_call call ended told declared c =
    cond (same_context c call.caller && is_none ended) (moved_on declared call.before.place (following call.before.place) (told declared c)) (told declared c)

length-after_call : (call : ServiceCall) (ended : Option Context) (told : Loop → Context → List ℕ) (declared : Loop) (c : Context)
    → length (after_call call ended told declared c) ≡ length (told declared c)
length-after_call call ended told declared c =
    length-cond_moved (same_context c call.caller && is_none ended) declared call.before.place (following call.before.place) (told declared c)

gone_standing : (ended : Option Context) (next standing : Standing) → cond (is_some ended) None (Some next) ≡ Some standing → next ≡ standing
gone_standing None next standing e = same_Some next standing e
gone_standing (Some c) next standing e = absurd (none-some standing e)

activated : (system : System) (reply : Reply) → ((t : ℕ) → reply.activated ≡ Some t → t < length system.tasks)
    → (c : Context) → option_map contexts.Task reply.activated ≡ Some c → IsContext system c
activated system reply exist c e = at reply.activated exist e
  where
    at : (o : Option ℕ) → ((t : ℕ) → o ≡ Some t → t < length system.tasks) → option_map contexts.Task o ≡ Some c → IsContext system c
    at None exist h = absurd (none-some c h)
    at (Some t) exist h = subst (IsContext system) (same_Some (contexts.Task t) c h) (exist t refl)

-- the same for the reply of the kernel, which the call has
answered_deep : (image : ImageData) (system : System) (call : ServiceCall) (reply : Reply) (next : Standing) (told : Loop → Context → List ℕ)
    (xs : List (Option Standing))
    → IsContext system call.caller → length xs ≡ context_count system → ((t : ℕ) → reply.activated ≡ Some t → t < length system.tasks)
    → next.calls ≡ call.before.calls → position_of system xs call.caller ≡ Some call.before → Deep told system xs
    → Deep (λ declared c. cond (is_this c (option_map contexts.Task reply.activated)) (begun [])
    (after_call call reply.ended told declared c))
    system (answered system (at_entry image system call.registers) call.caller (Some next) reply xs)
answered_deep image system call reply next told xs is count exist calls stands deep =
    deep_started image system call.registers gone (option_map contexts.Task reply.activated) (placed system call.caller left xs)
    (activated system reply exist) (placed_count system call.caller left xs ∙ count)
    (deep_placed told gone system call.caller left xs is count deep
    (λ standing at declared. length-after_call call reply.ended told declared call.caller
    ∙ (deep.each call.caller call.before is stands declared
    ∙ ap (λ (cs : List ℕ). suc (length cs)) (sym calls ∙ ap (λ (s : Standing). s.calls) (gone_standing reply.ended next standing at))))
    (λ c other declared. length-after_call call reply.ended told declared c))
  where
    left : Option Standing
    left = cond (is_some reply.ended) None (Some next)

    gone : Loop → Context → List ℕ
    gone declared c = after_call call reply.ended told declared c

serve_deep : (image : ImageData) (system : System) (call : ServiceCall) (earlier : List Event) (before after : MachineState) → IsStateOf system before
    → Serves image system call before after → AreDeep image system earlier before → AreDeep image system (Serve call ∷ earlier) after
serve_deep image system call earlier before after fits step deep =
    let done = served_by system call before in
    let next = gone_on done.reply.code call.before in
    let is : IsContext system call.caller = running_exists system before call.caller fits step.running in
    subst (AreDeep image system (Serve call ∷ earlier)) (sym step.becomes) (record {
      deep = subst (λ (reply : Reply). Deep (λ declared c. cond (is_this c (option_map contexts.Task reply.activated)) (begun [])
          (after_call call reply.ended (λ declared c. laps_of image declared c earlier) declared c))
          system (answered system (at_entry image system call.registers) call.caller (Some next) done.reply before.standings)) (sym step.replied)
          (answered_deep image system call done.reply next (λ declared c. laps_of image declared c earlier) before.standings is fits.positions.count
          (served_exists system before.kernel call.caller call.service (argument_in call.before) step.argument) refl step.stands deep.deep);
    })

pub step_deep : (image : ImageData) (system : System) (event : Event) (earlier : List Event) (before after : MachineState) → systems.IsLawful system
    → IsStateOf system before
    → Step image system event before after → AreDeep image system earlier before → AreDeep image system (event ∷ earlier) after
step_deep image system (Arrive arrival) earlier before after lawful fits step deep =
    subst (AreDeep image system (Arrive arrival ∷ earlier)) (sym step.becomes) (record { deep = deep.deep })
step_deep image system (Take taking) earlier before after lawful fits step deep = take_deep image system taking earlier before after lawful fits step deep
step_deep image system (Execute e) earlier before after lawful fits step deep = execute_deep image system e earlier before after fits step deep
step_deep image system (Serve call) earlier before after lawful fits step deep = serve_deep image system call earlier before after fits step deep
step_deep image system (Idle cycles) earlier before after lawful fits step deep =
    subst (AreDeep image system (Idle cycles ∷ earlier)) (sym step.becomes) (record { deep = deep.deep })

-- ---- Runs

pub start_deep : (image : ImageData) (system : System) (mode : ℕ) (state : MachineState) → IsInitial image system mode state → AreDeep image system [] state
start_deep image system mode state initial = record {
  deep = record { each = λ c standing is at declared. one_open standing (initial.entries c standing is at).calls };
}

pub runs_deep : (image : ImageData) (system : System) (mode : ℕ) (events : List Event) (state : MachineState) → systems.IsLawful system
    → HaveEntries image system
    → IsRun image system mode events state → AreDeep image system events state
runs_deep image system mode [] state lawful entries run = start_deep image system mode state run
runs_deep image system mode (event ∷ earlier) state lawful entries run =
    step_deep image system event earlier run.0 state lawful (runs_keep_room image system mode earlier run.0 lawful entries run.1) run.2
    (runs_deep image system mode earlier run.0 lawful entries run.1)

-- ---- Room for a call

may_turn : (turn : Option Turn) (table : Table) (calls : ℕ) → table.depth ≡ suc calls → ((target : ℕ) → turn ≡ Some (Calling target) → calls < 16)
    → MayTurn turn table
may_turn None table calls is few = tt
may_turn (Some Onward) table calls is few = tt
may_turn (Some (Branching target)) table calls is few = tt
may_turn (Some (Jumping target)) table calls is few = tt
may_turn (Some (Calling target)) table calls is few = omega (arith, few target refl)
may_turn (Some Returning) table calls is few = tt
may_turn (Some Serving) table calls is few = tt
may_turn (Some Indirect) table calls is few = tt
may_turn (Some Breaking) table calls is few = tt

-- There is room for a call where fewer than 17 invocations are open ..
pub turns_below : (image : ImageData) (system : System) (timing : Timing) (events : List Event) (laps : Laps) (c : Context) (turn : Option Turn) (n : ℕ)
    → AreKept image system timing events laps → IsContext system c → ((declared : Loop) → length (laps_of image declared c events) ≡ suc n)
    → ((target : ℕ) → turn ≡ Some (Calling target) → n < 16) → MayTurnAt system c turn laps.contexts.items
turns_below image system timing events laps c turn n kept is deep few = record {
  may = λ table at. may_turn turn table n (sym (kept.keep.deep c table is at any) ∙ deep any) few;
}
  where
    any : Loop
    any = record { from = 0; to = 0; bound = 0 }

-- .. so where a context of a run has fewer than 16 open calls.
pub turns_in_room : (image : ImageData) (system : System) (timing : Timing) (events : List Event) (state : MachineState) (laps : Laps) (c : Context)
    (standing : Standing) (turn : Option Turn)
    → AreKept image system timing events laps → AreDeep image system events state → IsContext system c → standing_of system state c ≡ Some standing
    → ((target : ℕ) → turn ≡ Some (Calling target) → length standing.calls < 16) → MayTurnAt system c turn laps.contexts.items
turns_in_room image system timing events state laps c standing turn kept deep is stands few =
    turns_below image system timing events laps c turn (length standing.calls) kept is (deep.deep.each c standing is stands) few
