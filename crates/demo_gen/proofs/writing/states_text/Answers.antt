use Rattle.std.proofs.Common.{◌≡◌, ◌∙◌, List, Ok, subst}
use Rattle.std.specs.Prelude.{IfOk}
use Rattle.json_fields.specs.Files.{IsGiven}
use Rattle.abstract_sched.specs.declared.states.AbsState.{AbsState}
use Rattle.abstract_sched.specs.Fits.{AreLawful}
use Rattle.certificate.specs.declared.fault.StatesKind.TheVariants as states_kinds
use Rattle.certificate.specs.States.{states_in}
use Rattle.demo_gen.specs.Demo.{the_states}
use Rattle.demo_gen.specs.Reading.{the_rules}
use Rattle.demo_gen.proofs.Sets.{states_lawful}
use Rattle.demo_gen.proofs.writing.states_text.Goals as goal

pub returns-clause-again : goal.returns-clause-again
returns-clause-again c =
    let rules = the_rules c.args.count in
    let same : c.as_slice.result.now ≡ the_states c.args.count = c.as_slice.ensures ∙ c.in_ok-states.ensures in
    subst (λ (states : List AbsState). AreLawful rules states → IfOk c.write_states.result (λ text. IsGiven states_kinds.Json (states_in rules) text (Ok states)))
    same (c.write_states.ensures.again rules) (states_lawful c.args.count c.requires)
