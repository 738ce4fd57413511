use Rattle.oil_model.proofs.TakenNames.{taken_once_more}
use Rattle.oil_model.proofs.taken.take_name.Goals as goal

pub returns-in-Ok : goal.returns-in-Ok
returns-in-Ok c =
    taken_once_more c.args.taken.now c.insert.new.self (c.name_set.result, c.as_slice.result) c.args.object.now c.in-Ok.is_new
    c.name_set.ensures c.as_slice.ensures c.in-Ok.ensures.added c.in-Ok.ensures.updates.0
