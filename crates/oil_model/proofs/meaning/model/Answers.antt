use Rattle.oil_model.proofs.Lawful.{answer_lawful}
use Rattle.oil_model.proofs.meaning.model.Goals as goal

pub returns-in_ok-system_of-in-None-clause-lawful :
    goal.returns-in_ok-system_of-in-None-clause-lawful
returns-in_ok-system_of-in-None-clause-lawful c =
    let none = rw c.in-None.is at c.in_ok-fault.ensures in
    answer_lawful c.args.tree.now c.as_slice-objects.result.now c.in_ok-system_of-in-None.field-0 c.as_slice-objects.ensures none c.in_ok-system_of-in-None.ensures
