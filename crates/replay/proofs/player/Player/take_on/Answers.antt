-- The source is pending, and it is taken in the run too.
use Rattle.std.proofs.Common.{false}
use Rattle.std.proofs.lemmas.List.Quantifiers.{position-Some}
use Rattle.osek_machine.specs.Machine.{state_of}
use Rattle.replay.proofs.Nexts.{takes_next}
use Rattle.replay.proofs.Turns.{takes_on}
use Rattle.replay.proofs.player.Player.take_on.Goals as goal

pub take-requires-clause-pending : goal.take-requires-clause-pending
take-requires-clause-pending c =
    let comes = takes_next c.args.plant.now.system c.args.schedule.now c.args.self.now.arrivals (state_of c.args.self.now.machine) c.args.source c.requires.next in
    (position-Some (λ pending. pending) (state_of c.args.self.now.machine).pending c.args.source false comes.least).1

pub returns : goal.returns
returns c = λ events follows.
    takes_on c.args.plant.now c.args.schedule.now events c.args.self.now c.take.new.self c.args.source c.moment-start.result c.moment.result c.have_graph.ensures.timing c.requires.lawful
    follows c.requires.next c.moment-start.ensures c.moment.ensures c.take.ensures
