use Rattle.std.proofs.Common.{◌≡◌, true, length, eqb, arith}
use Rattle.std.specs.Prelude.{not}
use Rattle.std.proofs.lemmas.Bool.Decides.{nat_tests}
use Rattle.serde_json.specs.View.{view}
use Rattle.json_fields.specs.Forms.{is_number}
use Rattle.certificate.proofs.Forms.{is_list_with-view}
use Rattle.certificate.proofs.form.is_task.Goals as goal

pub returns-then-members-ne1 : goal.returns-then-members-ne1
returns-then-members-ne1 c =
    let more : not (eqb (length c.in-Some.members.now) 1) ≡ true = grind (arith, nat_tests) in
    rw (is_list_with-view (λ n. not (eqb n 1)) is_number (view c.args.value.now) c.in-Some.members.now c.in-Some.ensures, more) c.are_numbers.ensures
