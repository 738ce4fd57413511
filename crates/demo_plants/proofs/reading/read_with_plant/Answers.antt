use Rattle.std.proofs.Common.{◌≡◌, ◌∙◌, ℕ, List, length, Result, Ok, sym, ap, subst}
use Rattle.std.proofs.lemmas.List.FromFn.{length-map-range_with_len}
use Rattle.json_fields.specs.Files.{IsGiven}
use Rattle.abstract_sched.specs.declared.rules.StateRules.{StateRules}
use Rattle.abstract_sched.specs.declared.states.AbsState.{AbsState}
use Rattle.certificate.specs.declared.fault.StatesKind.TheVariants as states_kinds
use Rattle.certificate.specs.States.{states_in}
use Rattle.scheduler_moves.specs.Closed.{IsClosed}
use Rattle.scheduler_moves.specs.Moves.{rules_of}
use Rattle.demo_gen.specs.Demo.{the_states}
use Rattle.demo_gen.specs.Draws.{task_at, tasks_of}
use Rattle.demo_gen.proofs.Ranges.{are_drawn}
use Rattle.demo_plants.specs.Working.Sources.{tasks_in}
use Rattle.demo_plants.proofs.Closing.{are_covered}
use Rattle.demo_plants.proofs.Given.{given_once, same_ok}
use Rattle.demo_plants.proofs.reading.read_with_plant.Goals as goal

pub states_of-requires : goal.states_of-requires
states_of-requires c =
    let source = c.args.source.now in
    let tasks = tasks_in source in
    let covered = are_covered tasks (are_drawn source.seed source.count c.requires.whole.some c.requires.whole.few) c.args.plant c.requires.plant in (
      the_states (length tasks),
      subst (λ bytes. IsGiven states_kinds.Json (states_in (rules_of c.args.plant)) bytes (Ok (the_states (length tasks)))) (sym c.as_slice.ensures)
          (subst (λ (rules : StateRules). IsGiven states_kinds.Json (states_in rules) source.texts.states (Ok (the_states (length tasks)))) (sym covered.rules) c.requires.whole.read.states),
    )

pub returns : goal.returns
returns c =
    let source = c.args.source.now in
    let tasks = tasks_in source in
    let covered = are_covered tasks (are_drawn source.seed source.count c.requires.whole.some c.requires.whole.few) c.args.plant c.requires.plant in
    let wanted = subst (λ bytes. IsGiven states_kinds.Json (states_in (rules_of c.args.plant)) bytes (Ok (the_states (length tasks)))) (sym c.as_slice.ensures)
    (subst (λ (rules : StateRules). IsGiven states_kinds.Json (states_in rules) source.texts.states (Ok (the_states (length tasks)))) (sym covered.rules) c.requires.whole.read.states) in
    let same : c.in_ok-states.states ≡ the_states (length tasks) =
    same_ok _ _ (given_once states_kinds.Json (states_in (rules_of c.args.plant)) c.as_slice.result.now (Ok c.in_ok-states.states) (Ok (the_states (length tasks))) c.in_ok-states.ensures.are wanted) in
    let count : length tasks ≡ source.count = length-map-range_with_len (task_at source.seed source.count) 0 source.count in
    record {
      plant = c.requires.plant;
      states = same ∙ ap the_states count;
      closed = subst (λ (states : List AbsState). IsClosed c.args.plant states) (sym same) covered.closed;
      once = c.in_ok-states.ensures.lawful.once;
    }
