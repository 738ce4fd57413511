use Rattle.std.proofs.Common.{true}
use Rattle.serde_json.specs.View.{view}
use Rattle.certificate.specs.Form.{is_task}
use Rattle.certificate.proofs.Forms.{is_list_with-view}
use Rattle.certificate.proofs.form.are_tasks.Goals as goal

pub returns-in-Some : goal.returns-in-Some
returns-in-Some c =
    rw (is_list_with-view (λ n. true) is_task (view c.args.value.now) c.in-Some.tasks.now c.in-Some.ensures) c.all_tasks.ensures
