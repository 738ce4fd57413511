-- Along a run that arrives in time and lasts within the bound: the events that are recorded of it are followed without a
-- fault, and the follower stands where the run does.
use Rattle.std.proofs.Common.{◌≡◌, ℕ, ◌+◌, ◌-◌, ◌<◌, ◌≤◌, nat_lt, Bool, true, false, cond, List, [], ◌∷◌, length, Option, Some, None, refl, sym, ◌∙◌, ap, subst, arith, is_some, is_none, option_map, ◌==◌}
use Rattle.std.specs.Prelude.{◌&&◌, ◌||◌, not, slice_index_or, slice_set, option_and_then, option_to_list}
use Rattle.std.specs.List.{AllByRecursion, list_any, cons_option}
use Rattle.std.specs.Option.{option_map_or}
use Rattle.std.proofs.lemmas.Bool.{le-ltb, eq-eqb, eqb-true}
use Rattle.osek_kernel.specs.declared.context.Context.TheVariants as contexts
use Rattle.osek_kernel.specs.declared.kernel.Active.{Active}
use Rattle.osek_kernel.specs.declared.kernel.Kernel.{Kernel}
use Rattle.osek_kernel.specs.Contexts.{place_of}
use Rattle.osek_kernel.specs.Kernel.{task_state}
use Rattle.osek_kernel.specs.Sources.{source_at, is_live, is_one_shot}
use Rattle.osek_kernel.specs.Taken.{initial}
use Rattle.osek_machine.specs.Activations.{active_since}
use Rattle.osek_machine.specs.Declarations.{ArrivesInTime, IsInTime, KeepsArrivals, arrivals_of, distance_of, gap}
use Rattle.osek_machine.specs.Events.{Arrival, Taking, Execution, ServiceCall, Event, Arrive, Take, Execute, Serve, Idle, cycles_of, duration}
use Rattle.osek_machine.specs.Laws.{Stands, Passes}
use Rattle.osek_machine.specs.Room.{IsStateOf}
use Rattle.osek_machine.specs.State.{MachineState}
use Rattle.osek_machine.specs.Steps.{Arrives, Takes, Serves}
use Rattle.osek_machine.proofs.Times.{runs_take_their_time, steps_take_their_time}
use Rattle.wcet_atomic_blocks.specs.Plants.{PlantData}
use Rattle.abstract_sched.specs.declared.states.AbsState.{AbsState}
use Rattle.abstract_sched.specs.States.{kernel_of}
use Rattle.scheduler_moves.specs.declared.moves.MoveLabel.{MoveLabel}
use Rattle.scheduler_moves.specs.declared.moves.MoveLabel.TheVariants as labels
use Rattle.scheduler_moves.specs.Composed.{composed}
use Rattle.scheduler_moves.specs.Moves as moves
use Rattle.row_build.specs.Columns.{Going, activates, takes_source, calls_at, is_active_in}
use Rattle.shadow_runs.specs.Covering.{IsCase, IsStepOf, MakesMove, CallsAtExit}
use Rattle.shadow_runs.specs.Shadow.{shadow}
use Rattle.shadow_runs.proofs.Covering.{runs_are_covered, steps_are_covered}
use Rattle.trace_check.specs.declared.trace.Event.{Event as TraceEvent}
use Rattle.trace_check.specs.declared.trace.Event.TheVariants as traces
use Rattle.trace_check.specs.Verdict.{Follower, Times, at_start, since_after, moved, move_with, move_of, has_wrong_times, has_lasted_over, begins_over, lasts_over, is_near, moments_of}
use Rattle.trace_record.specs.Fitting.{LastWithin}
use Rattle.trace_record.specs.Recording.{recorded_of, recorded_in}
use Rattle.trace_record.proofs.Active.{Agrees, agrees, room_in}
use Rattle.trace_record.proofs.Ends.{going_to, take_ends, serve_ends}
use Rattle.trace_record.proofs.Following.{AreSound, all_followed, followed_append, sound_append}
use Rattle.trace_record.proofs.Lasting.{open_within, going_within, earlier_within}
use Rattle.trace_record.proofs.Since.{since_moves}
use Rattle.trace_record.proofs.Targets.{finds_move}

-- ---- What holds after each step

-- The follower stands where the run does.
pub record Follows (plant : PlantData) (task mode : ℕ) (events : List Event) (state : MachineState) (f : Follower) : Type 0 where
  pub state_is : f.state ≡ shadow plant mode events state
  pub pending_is : f.pending ≡ state.pending
  pub started : f.last_start ≤ state.last_start
  pub latest : f.latest ≤ state.moment
  pub arrivals_are : (source : ℕ) → moments_of source f.arrivals ≡ arrivals_of source events
  pub since_is : f.since ≡ active_since plant.system mode task events

-- A step of such a run: the run before it, and what is known of both.
pub record IsGiven (plant : PlantData) (states : List AbsState) (task bound mode : ℕ) (event : Event) (earlier : List Event) (before after : MachineState)
    : Type 0 where
  pub next : IsStepOf plant states mode event earlier before after
  pub exists : task < length plant.system.tasks
  pub in_time : ArrivesInTime plant.system plant.timing event earlier
  pub within : LastWithin plant task bound mode (event ∷ earlier)

-- The recorded event, if there is one, has no fault, and is followed as far as the step goes.
pub record Advances (plant : PlantData) (task bound mode : ℕ) (event : Event) (earlier : List Event) (after : MachineState) (f : Follower) : Type 0 where
  pub sound : AreSound plant task bound f (option_to_list (recorded_of plant.system event earlier))
  pub follows : Follows plant task mode (event ∷ earlier) after
      (all_followed plant task f (option_to_list (recorded_of plant.system event earlier)))

-- ---- What is known of a step

case_after : (plant : PlantData) (states : List AbsState) (mode : ℕ) (event : Event) (earlier : List Event) (before after : MachineState)
    → IsStepOf plant states mode event earlier before after → IsCase plant states mode (event ∷ earlier) after
case_after plant states mode event earlier before after next = record {
  belongs = next.before_it.belongs;
  closed = next.before_it.closed;
  run = (before, next.before_it.run, next.step);
  pairs = (next.pairs, next.before_it.pairs);
}

-- the moments of the step
record HasTimes (event : Event) (earlier : List Event) (before after : MachineState) : Type 0 where
  start : before.moment ≡ duration earlier
  end : after.moment ≡ duration earlier + cycles_of event
  began : before.last_start ≤ before.moment

times_in : (plant : PlantData) (states : List AbsState) (mode : ℕ) (event : Event) (earlier : List Event) (before after : MachineState)
    → IsStepOf plant states mode event earlier before after → HasTimes event earlier before after
times_in plant states mode event earlier before after next =
    let stands : Stands mode earlier before = runs_take_their_time plant.image plant.system mode earlier before next.before_it.run in
    let passes : Passes event before after = steps_take_their_time plant.image plant.system event before after next.step in
    let room : IsStateOf plant.system before = room_in plant next.before_it.belongs mode earlier before next.before_it.run in
    record {
      start = stands.moment;
      end = passes.moment ∙ ap (λ n. n + cycles_of event) stands.moment;
      began = room.time;
    }

agree_before : (plant : PlantData) (states : List AbsState) (task bound mode : ℕ) (event : Event) (earlier : List Event) (before after : MachineState)
    → IsGiven plant states task bound mode event earlier before after → Agrees plant task mode earlier before
agree_before plant states task bound mode event earlier before after given =
    agrees plant given.next.before_it.belongs task mode earlier before given.exists given.next.before_it.run

agree_after : (plant : PlantData) (states : List AbsState) (task bound mode : ℕ) (event : Event) (earlier : List Event) (before after : MachineState)
    → IsGiven plant states task bound mode event earlier before after → Agrees plant task mode (event ∷ earlier) after
agree_after plant states task bound mode event earlier before after given =
    agrees plant given.next.before_it.belongs task mode (event ∷ earlier) after given.exists (before, given.next.before_it.run, given.next.step)

-- whether the task is active in the shadow
active_in_shadow : (plant : PlantData) (states : List AbsState) (task mode : ℕ) (events : List Event) (state : MachineState)
    → IsCase plant states mode events state
    → is_active_in (shadow plant mode events state) (contexts.Task task) ≡ is_some (task_state state.kernel task)
active_in_shadow plant states task mode events state case =
    ap (λ (k : Kernel). is_some (task_state k task)) (runs_are_covered plant states mode events state case).kernel

-- ---- How long activations have lasted

pub not_over : (bound end : ℕ) (since : Option ℕ) → ((start : ℕ) → since ≡ Some start → end - start ≤ bound)
    → option_map_or (lasts_over bound end) since false ≡ false
not_over bound end None within = refl
not_over bound end (Some start) within = (let known = within start refl in le-ltb bound (end - start) known)

going_on_lasts : (plant : PlantData) (states : List AbsState) (task bound mode : ℕ) (event : Event) (earlier : List Event) (before after : MachineState)
    (f : Follower) → IsGiven plant states task bound mode event earlier before after → f.since ≡ active_since plant.system mode task earlier
    → has_lasted_over bound (duration earlier + cycles_of event) f ≡ false
going_on_lasts plant states task bound mode event earlier before after f given since =
    not_over bound (duration earlier + cycles_of event) f.since (λ start is.
    going_within plant task bound mode event earlier before after start given.exists given.next.step
    (agree_before plant states task bound mode event earlier before after given) given.within (sym since ∙ is))

-- what a move that activates the task begins
begins_within : (plant : PlantData) (states : List AbsState) (task bound mode : ℕ) (event : Event) (earlier : List Event) (before after : MachineState)
    (going : Going) → IsGiven plant states task bound mode event earlier before after
    → since_after plant task (duration earlier) going (active_since plant.system mode task earlier) ≡ active_since plant.system mode task (event ∷ earlier)
    → (activates plant (contexts.Task task) going && lasts_over bound (duration earlier + cycles_of event) (duration earlier)) ≡ false
begins_within plant states task bound mode event earlier before after going given since =
    by (activates plant (contexts.Task task) going) refl
  where
    by : (b : Bool) → activates plant (contexts.Task task) going ≡ b
        → (b && lasts_over bound (duration earlier + cycles_of event) (duration earlier)) ≡ false
    by false is = refl
    by true is =
        let known : active_since plant.system mode task (event ∷ earlier) ≡ Some (duration earlier) =
        sym since
        ∙ ap (λ b. cond b (Some (duration earlier)) (cond (is_active_in going.move.to (contexts.Task task))
        (active_since plant.system mode task earlier) None)) is in
        le-ltb bound (duration earlier + cycles_of event - duration earlier)
        (open_within plant task bound mode (event ∷ earlier) (duration earlier) given.exists given.within known)

or_false : (a b : Bool) → a ≡ false → b ≡ false → (a || b) ≡ false
or_false a b one two = ap (λ t. t || b) one ∙ two

-- ---- An arrival

not_near : (plant : PlantData) (source moment : ℕ) (others : List ℕ) → is_one_shot plant.system (source_at plant.system source) ≡ false
    → AllByRecursion (λ other. distance_of plant.system plant.timing (source_at plant.system source) ≤ gap moment other) others
    → list_any (is_near plant (source_at plant.system source) moment) others ≡ false
not_near plant source moment [] once apart = refl
not_near plant source moment (other ∷ others) once apart =
    or_false (is_near plant (source_at plant.system source) moment other) (list_any (is_near plant (source_at plant.system source) moment) others)
    (or_false (is_one_shot plant.system (source_at plant.system source))
    (nat_lt (gap moment other) (distance_of plant.system plant.timing (source_at plant.system source))) once
    (le-ltb (gap moment other) (distance_of plant.system plant.timing (source_at plant.system source)) apart.0))
    (not_near plant source moment others once apart.1)

apart_in : (plant : PlantData) (source moment : ℕ) (others : List ℕ) → IsInTime plant.system plant.timing source moment others
    → list_any (is_near plant (source_at plant.system source) moment) others ≡ false
apart_in plant source moment others in_time = by (is_one_shot plant.system (source_at plant.system source)) refl
  where
    by : (b : Bool) → is_one_shot plant.system (source_at plant.system source) ≡ b
        → list_any (is_near plant (source_at plant.system source) moment) others ≡ false
    by true is = ap (list_any (is_near plant (source_at plant.system source) moment)) (in_time.once is)
    by false is = not_near plant source moment others is in_time.apart

arrive_on : (plant : PlantData) (states : List AbsState) (task bound mode : ℕ) (a : Arrival) (earlier : List Event) (before after : MachineState) (f : Follower)
    → IsGiven plant states task bound mode (Arrive a) earlier before after → Follows plant task mode earlier before f
    → Advances plant task bound mode (Arrive a) earlier after f
arrive_on plant states task bound mode a earlier before after f given follows =
    let step : Arrives plant.system a before after = given.next.step in
    let times : HasTimes (Arrive a) earlier before after = times_in plant states mode (Arrive a) earlier before after given.next in
    let same : shadow plant mode (Arrive a ∷ earlier) after ≡ shadow plant mode earlier before =
    (steps_are_covered plant states mode (Arrive a) earlier before after given.next).0 in
    record {
      sound = (
        record {
          walks = or_false (not (is_live plant.system f.state.mode (source_at plant.system a.source))) (nat_lt a.moment f.last_start)
              (ap (λ (s : AbsState). not (is_live plant.system s.mode (source_at plant.system a.source))) follows.state_is ∙ ap not step.live)
              (let begun = step.begun in let was = follows.started in le-ltb a.moment f.last_start (omega arith));
          apart = ap (list_any (is_near plant (source_at plant.system a.source) a.moment)) (follows.arrivals_are a.source)
              ∙ apart_in plant a.source a.moment (arrivals_of a.source earlier) given.in_time;
          within = refl;
        },
        tt,
      );
      follows = record {
        state_is = follows.state_is ∙ sym same;
        pending_is = ap (λ p. slice_set p a.source true) follows.pending_is ∙ ap (λ (s : MachineState). s.pending) (sym step.becomes);
        started = (let was = follows.started in
            let is : after.last_start ≡ before.last_start = ap (λ (s : MachineState). s.last_start) step.becomes in omega arith);
        latest = (let was = follows.latest in let past = step.past in
            let is : after.moment ≡ before.moment = ap (λ (s : MachineState). s.moment) step.becomes in omega arith);
        arrivals_are = λ source. ap (cons_option (cond (a.source == source) (Some a.moment) None)) (follows.arrivals_are source);
        since_is = follows.since_is;
      };
    }

-- ---- A move

-- the times of the step
abbrev times_by : Event → List Event → Times
times_by event earlier = record { start = duration earlier; end = duration earlier + cycles_of event }

right_times : (plant : PlantData) (task mode : ℕ) (event : Event) (earlier : List Event) (before after : MachineState) (f : Follower)
    → HasTimes event earlier before after → Follows plant task mode earlier before f → has_wrong_times f (times_by event earlier) ≡ false
right_times plant task mode event earlier before after f times follows =
    or_false (nat_lt (duration earlier + cycles_of event) (duration earlier)) (nat_lt (duration earlier) f.latest)
    (le-ltb (duration earlier + cycles_of event) (duration earlier) (omega arith))
    (let start = times.start in let was = follows.latest in le-ltb (duration earlier) f.latest (omega arith))

within_bound : (plant : PlantData) (states : List AbsState) (task bound mode : ℕ) (event : Event) (earlier : List Event) (before after : MachineState)
    (f : Follower) (going : Going) (found : Option Going)
    → IsGiven plant states task bound mode event earlier before after → f.since ≡ active_since plant.system mode task earlier
    → since_after plant task (duration earlier) going (active_since plant.system mode task earlier) ≡ active_since plant.system mode task (event ∷ earlier)
    → found ≡ Some going
    → (has_lasted_over bound (duration earlier + cycles_of event) f || begins_over plant task bound (times_by event earlier) found) ≡ false
within_bound plant states task bound mode event earlier before after f going found given since moves is =
    or_false (has_lasted_over bound (duration earlier + cycles_of event) f) (begins_over plant task bound (times_by event earlier) found)
    (going_on_lasts plant states task bound mode event earlier before after f given since)
    (ap (begins_over plant task bound (times_by event earlier)) is
    ∙ begins_within plant states task bound mode event earlier before after going given moves)

-- The follower moves as the shadow does.
moved_follows : (plant : PlantData) (task mode : ℕ) (event : Event) (earlier : List Event) (before after : MachineState) (g : Follower) (label : MoveLabel)
    → HasTimes event earlier before after → after.last_start ≡ before.moment → g.pending ≡ after.pending → g.latest ≤ before.moment
    → ((source : ℕ) → moments_of source g.arrivals ≡ arrivals_of source (event ∷ earlier))
    → since_after plant task (duration earlier) (going_to plant mode earlier before label (shadow plant mode (event ∷ earlier) after)) g.since
    ≡ active_since plant.system mode task (event ∷ earlier)
    → Follows plant task mode (event ∷ earlier) after
    (moved plant task (times_by event earlier) g (going_to plant mode earlier before label (shadow plant mode (event ∷ earlier) after)))
moved_follows plant task mode event earlier before after g label times began pending latest arrivals since = record {
  state_is = refl;
  pending_is = pending;
  started = (let start = times.start in omega arith);
  latest = (let start = times.start in let end = times.end in omega arith);
  arrivals_are = arrivals;
  since_is = since;
}

-- ---- A source is taken

only_take : (source : ℕ) (other : MoveLabel) → takes_source source other ≡ true → other ≡ labels.Take source
only_take source (labels.Take taken) passes = ap labels.Take (eqb-true taken source passes)
only_take source (labels.Service node) passes = absurd cc

take_on : (plant : PlantData) (states : List AbsState) (task bound mode : ℕ) (t : Taking) (earlier : List Event) (before after : MachineState) (f : Follower)
    → IsGiven plant states task bound mode (Take t) earlier before after → Follows plant task mode earlier before f
    → Advances plant task bound mode (Take t) earlier after f
take_on plant states task bound mode t earlier before after f given follows =
    let step : Takes plant.image plant.system t before after = given.next.step in
    let times : HasTimes (Take t) earlier before after = times_in plant states mode (Take t) earlier before after given.next in
    let makes : MakesMove plant mode (labels.Take t.source) (Take t) earlier before after =
    (steps_are_covered plant states mode (Take t) earlier before after given.next).0 in
    let to : AbsState = shadow plant mode (Take t ∷ earlier) after in
    let going : Going = going_to plant mode earlier before (labels.Take t.source) to in
    let event : TraceEvent = traces.Take (duration earlier) (duration earlier + t.cycles) t.source in
    let g : Follower = record f { pending = slice_set f.pending t.source false } in
    let found : move_of plant f.state event ≡ Some going =
    ap (λ s. move_with plant s (takes_source t.source)) follows.state_is
    ∙ finds_move plant (shadow plant mode earlier before) makes.moves (labels.Take t.source) to
    (takes_source t.source) makes.moved makes.listed (eq-eqb t.source t.source refl) (only_take t.source) in
    let since : since_after plant task (duration earlier) going (active_since plant.system mode task earlier)
    ≡ active_since plant.system mode task (Take t ∷ earlier) =
    since_moves plant task mode (Take t) earlier before after going given.next.step (record {
      from_is = active_in_shadow plant states task mode earlier before given.next.before_it;
      to_is = active_in_shadow plant states task mode (Take t ∷ earlier) after (case_after plant states mode (Take t) earlier before after given.next);
      ends = take_ends plant mode t.source earlier before to (contexts.Task task);
    }) (agree_before plant states task bound mode (Take t) earlier before after given)
    (agree_after plant states task bound mode (Take t) earlier before after given) in
    record {
      sound = (
        record {
          walks = or_false (has_wrong_times f (times_by (Take t) earlier))
              (not (slice_index_or f.pending t.source false) || is_none (move_of plant f.state event))
              (right_times plant task mode (Take t) earlier before after f times follows)
              (or_false (not (slice_index_or f.pending t.source false)) (is_none (move_of plant f.state event))
              (ap (λ p. not (slice_index_or p t.source false)) follows.pending_is ∙ ap not step.pending) (ap is_none found));
          apart = refl;
          within = within_bound plant states task bound mode (Take t) earlier before after f going (move_of plant f.state event) given
              follows.since_is since found;
        },
        tt,
      );
      follows = subst (Follows plant task mode (Take t ∷ earlier) after)
          (sym (ap (λ o. option_map_or (moved plant task (times_by (Take t) earlier) g) o g) found))
          (moved_follows plant task mode (Take t) earlier before after g (labels.Take t.source) times
          (ap (λ (s : MachineState). s.last_start) step.becomes)
          (ap (λ p. slice_set p t.source false) follows.pending_is ∙ ap (λ (s : MachineState). s.pending) (sym step.becomes))
          follows.latest follows.arrivals_are
          (ap (since_after plant task (duration earlier) going) follows.since_is ∙ since));
    }

-- ---- A service is called

only_service : (node : ℕ) (other : MoveLabel) → calls_at node other ≡ true → other ≡ labels.Service node
only_service node (labels.Take source) passes = absurd cc
only_service node (labels.Service called) passes = ap labels.Service (eqb-true called node passes)

serve_on : (plant : PlantData) (states : List AbsState) (task bound mode : ℕ) (c : ServiceCall) (earlier : List Event) (before after : MachineState)
    (f : Follower) → IsGiven plant states task bound mode (Serve c) earlier before after → Follows plant task mode earlier before f
    → Advances plant task bound mode (Serve c) earlier after f
serve_on plant states task bound mode c earlier before after f given follows =
    let step : Serves plant.image plant.system c before after = given.next.step in
    let times : HasTimes (Serve c) earlier before after = times_in plant states mode (Serve c) earlier before after given.next in
    let calls : CallsAtExit plant mode c earlier before after =
    (steps_are_covered plant states mode (Serve c) earlier before after given.next).0 in
    let to : AbsState = shadow plant mode (Serve c ∷ earlier) after in
    let going : Going = going_to plant mode earlier before (labels.Service calls.node) to in
    let event : TraceEvent =
    traces.Service (duration earlier) (duration earlier + c.cycles) (place_of plant.system c.caller) c.before.calls c.before.place in
    let found : move_of plant f.state event ≡ Some going =
    ap (option_and_then (λ node. move_with plant f.state (calls_at node))) calls.stands
    ∙ (ap (λ s. move_with plant s (calls_at calls.node)) follows.state_is
    ∙ finds_move plant (shadow plant mode earlier before) calls.makes.moves (labels.Service calls.node) to
    (calls_at calls.node) calls.makes.moved calls.makes.listed (eq-eqb calls.node calls.node refl) (only_service calls.node)) in
    let since : since_after plant task (duration earlier) going (active_since plant.system mode task earlier)
    ≡ active_since plant.system mode task (Serve c ∷ earlier) =
    since_moves plant task mode (Serve c) earlier before after going given.next.step (record {
      from_is = active_in_shadow plant states task mode earlier before given.next.before_it;
      to_is = active_in_shadow plant states task mode (Serve c ∷ earlier) after (case_after plant states mode (Serve c) earlier before after given.next);
      ends = serve_ends plant states mode c earlier before after given.next calls.node calls.stands to (contexts.Task task);
    }) (agree_before plant states task bound mode (Serve c) earlier before after given)
    (agree_after plant states task bound mode (Serve c) earlier before after given) in
    record {
      sound = (
        record {
          walks = or_false (has_wrong_times f (times_by (Serve c) earlier)) (is_none (move_of plant f.state event))
              (right_times plant task mode (Serve c) earlier before after f times follows) (ap is_none found);
          apart = refl;
          within = within_bound plant states task bound mode (Serve c) earlier before after f going (move_of plant f.state event) given
              follows.since_is since found;
        },
        tt,
      );
      follows = subst (Follows plant task mode (Serve c ∷ earlier) after)
          (sym (ap (λ o. option_map_or (moved plant task (times_by (Serve c) earlier) f) o f) found))
          (moved_follows plant task mode (Serve c) earlier before after f (labels.Service calls.node) times
          (ap (λ (s : MachineState). s.last_start) step.becomes)
          (follows.pending_is ∙ ap (λ (s : MachineState). s.pending) (sym step.becomes))
          follows.latest follows.arrivals_are
          (ap (since_after plant task (duration earlier) going) follows.since_is ∙ since));
    }

-- ---- A step that isn't recorded

execute_on : (plant : PlantData) (states : List AbsState) (task bound mode : ℕ) (x : Execution) (earlier : List Event) (before after : MachineState)
    (f : Follower) → IsGiven plant states task bound mode (Execute x) earlier before after → Follows plant task mode earlier before f
    → Advances plant task bound mode (Execute x) earlier after f
execute_on plant states task bound mode x earlier before after f given follows =
    let times : HasTimes (Execute x) earlier before after = times_in plant states mode (Execute x) earlier before after given.next in
    let along = (steps_are_covered plant states mode (Execute x) earlier before after given.next).0 in
    record {
      sound = tt;
      follows = record {
        state_is = follows.state_is ∙ sym along.stays;
        pending_is = follows.pending_is ∙ ap (λ (s : MachineState). s.pending) (sym given.next.step.becomes);
        started = (let was = follows.started in let began = times.began in
            let is : after.last_start ≡ before.moment = ap (λ (s : MachineState). s.last_start) given.next.step.becomes in omega arith);
        latest = (let was = follows.latest in let start = times.start in let end = times.end in omega arith);
        arrivals_are = follows.arrivals_are;
        since_is = follows.since_is;
      };
    }

idle_on : (plant : PlantData) (states : List AbsState) (task bound mode cycles : ℕ) (earlier : List Event) (before after : MachineState)
    (f : Follower) → IsGiven plant states task bound mode (Idle cycles) earlier before after → Follows plant task mode earlier before f
    → Advances plant task bound mode (Idle cycles) earlier after f
idle_on plant states task bound mode cycles earlier before after f given follows =
    let times : HasTimes (Idle cycles) earlier before after = times_in plant states mode (Idle cycles) earlier before after given.next in
    let stays : shadow plant mode (Idle cycles ∷ earlier) after ≡ shadow plant mode earlier before =
    (steps_are_covered plant states mode (Idle cycles) earlier before after given.next).0 in
    record {
      sound = tt;
      follows = record {
        state_is = follows.state_is ∙ sym stays;
        pending_is = follows.pending_is ∙ ap (λ (s : MachineState). s.pending) (sym given.next.step.becomes);
        started = (let was = follows.started in let began = times.began in
            let is : after.last_start ≡ before.moment = ap (λ (s : MachineState). s.last_start) given.next.step.becomes in omega arith);
        latest = (let was = follows.latest in let start = times.start in let end = times.end in omega arith);
        arrivals_are = follows.arrivals_are;
        since_is = follows.since_is;
      };
    }

-- ---- Each step

advances : (plant : PlantData) (states : List AbsState) (task bound mode : ℕ) (event : Event) (earlier : List Event) (before after : MachineState)
    (f : Follower) → IsGiven plant states task bound mode event earlier before after → Follows plant task mode earlier before f
    → Advances plant task bound mode event earlier after f
advances plant states task bound mode (Arrive a) earlier before after f given follows =
    arrive_on plant states task bound mode a earlier before after f given follows
advances plant states task bound mode (Take t) earlier before after f given follows =
    take_on plant states task bound mode t earlier before after f given follows
advances plant states task bound mode (Execute x) earlier before after f given follows =
    execute_on plant states task bound mode x earlier before after f given follows
advances plant states task bound mode (Serve c) earlier before after f given follows =
    serve_on plant states task bound mode c earlier before after f given follows
advances plant states task bound mode (Idle cycles) earlier before after f given follows =
    idle_on plant states task bound mode cycles earlier before after f given follows

-- ---- The whole run

start_since : (o : Option Active) → cond {A = Option ℕ} (is_some o) (Some 0) None ≡ option_map (λ active. 0) o
start_since None = refl
start_since (Some active) = refl

start_follows : (plant : PlantData) (states : List AbsState) (task mode : ℕ) (state : MachineState) → IsCase plant states mode [] state
    → Follows plant task mode [] state (at_start plant task mode)
start_follows plant states task mode state case =
    let same : shadow plant mode [] state ≡ moves.initial plant mode =
    ap (λ (k : Kernel). composed plant.system k (moves.start_blocks plant (initial plant.system mode))) case.run.kernel in
    let kernel : kernel_of (moves.initial plant mode) ≡ initial plant.system mode =
    ap kernel_of (sym same) ∙ ((runs_are_covered plant states mode [] state case).kernel ∙ case.run.kernel) in
    record {
      state_is = sym same;
      pending_is = sym case.run.pending;
      started = omega arith;
      latest = omega arith;
      arrivals_are = λ source. refl;
      since_is = ap (λ (k : Kernel). cond {A = Option ℕ} (is_some (task_state k task)) (Some 0) None) kernel
          ∙ start_since (task_state (initial plant.system mode) task);
    }

-- What holds of the run so far.
pub record GoesAlong (plant : PlantData) (task bound mode : ℕ) (events : List Event) (state : MachineState) : Type 0 where
  pub sound : AreSound plant task bound (at_start plant task mode) (recorded_in plant.system events)
  pub follows : Follows plant task mode events state (all_followed plant task (at_start plant task mode) (recorded_in plant.system events))

pub goes_along : (plant : PlantData) (states : List AbsState) (task bound mode : ℕ) (events : List Event) (state : MachineState)
    → IsCase plant states mode events state → task < length plant.system.tasks → KeepsArrivals plant.system plant.timing events
    → LastWithin plant task bound mode events → GoesAlong plant task bound mode events state
goes_along plant states task bound mode [] state case exists arrivals within =
    record { sound = tt; follows = start_follows plant states task mode state case }
goes_along plant states task bound mode (event ∷ earlier) state case exists arrivals within =
    let before : MachineState = case.run.0 in
    let one_less : IsCase plant states mode earlier before =
    record { belongs = case.belongs; closed = case.closed; run = case.run.1; pairs = case.pairs.1 } in
    let agree : Agrees plant task mode earlier before = agrees plant case.belongs task mode earlier before exists case.run.1 in
    let along = goes_along plant states task bound mode earlier before one_less exists arrivals.1
    (earlier_within plant task bound mode event earlier before state exists case.run.2 agree within) in
    let start : Follower = at_start plant task mode in
    let first : List TraceEvent = recorded_in plant.system earlier in
    let more : List TraceEvent = option_to_list (recorded_of plant.system event earlier) in
    let now = advances plant states task bound mode event earlier before state (all_followed plant task start first) (record {
      next = record { before_it = one_less; step = case.run.2; pairs = case.pairs.0 };
      exists = exists;
      in_time = arrivals.0;
      within = within;
    }) along.follows in
    record {
      sound = sound_append plant task bound start first more along.sound now.sound;
      follows = subst (Follows plant task mode (event ∷ earlier) state) (sym (followed_append plant task start first more)) now.follows;
    }
