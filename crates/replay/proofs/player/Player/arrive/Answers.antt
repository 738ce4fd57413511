-- The source may arrive, and the newest arrival tells whether it is in time.
use Rattle.std.proofs.Common.{ℕ, true, false, refl, sym, ap, ◌∙◌, subst, arith}
use Rattle.osek_kernel.specs.Sources.{is_live, source_at}
use Rattle.osek_machine.specs.Machine.{state_of}
use Rattle.replay.specs.declared.turn.Turn.TheVariants as turns
use Rattle.replay.specs.declared.response.PlayKind.TheVariants.{TooClose}
use Rattle.replay.specs.Turning.{IsBroken}
use Rattle.replay.specs.Working.Moves.{HasArrived}
use Rattle.replay.specs.Working.Turns.{Moved}
use Rattle.replay.proofs.Turns.{AsksInTime, MayArrive, asks_in_time, arrives_in_time, arrives_too_soon, may_arrive}
use Rattle.replay.proofs.player.Player.arrive.Goals as goal

pub index-requires : goal.index-requires
index-requires c =
    let may : MayArrive c.args.plant.now c.args.schedule.now c.args.self.now c.args.arrival =
    may_arrive c.args.plant.now c.args.schedule.now c.requires.following.0 c.args.self.now c.args.arrival c.requires.lawful c.requires.following.1 c.requires.next in
    let within = may.within in let source = c.number_of-source.ensures in
    omega (arith, c.args.self.now.newest.ok.0)

pub make_arrival-requires-clause-live : goal.make_arrival-requires-clause-live
make_arrival-requires-clause-live c =
    let may : MayArrive c.args.plant.now c.args.schedule.now c.args.self.now c.args.arrival =
    may_arrive c.args.plant.now c.args.schedule.now c.requires.following.0 c.args.self.now c.args.arrival c.requires.lawful c.requires.following.1 c.requires.next in
    ap (λ (n : ℕ). is_live c.args.plant.now.system (state_of c.args.self.now.machine).kernel.mode (source_at c.args.plant.now.system n)) c.number_of-source.ensures ∙ may.live

pub make_arrival-requires-clause-within : goal.make_arrival-requires-clause-within
make_arrival-requires-clause-within c =
    let may : MayArrive c.args.plant.now c.args.schedule.now c.args.self.now c.args.arrival =
    may_arrive c.args.plant.now c.args.schedule.now c.requires.following.0 c.args.self.now c.args.arrival c.requires.lawful c.requires.following.1 c.requires.next in
    let within = may.within in let source = c.number_of-source.ensures in omega arith

pub returns-then-not-is_in_time : goal.returns-then-not-is_in_time
returns-then-not-is_in_time c = λ events follows.
    let may : MayArrive c.args.plant.now c.args.schedule.now c.args.self.now c.args.arrival =
    may_arrive c.args.plant.now c.args.schedule.now events c.args.self.now c.args.arrival c.requires.lawful follows c.requires.next in
    let within = may.within in let source = c.number_of-source.ensures in
    let asks : AsksInTime c.args.plant.now c.args.self.now c.args.arrival false =
    asks_in_time c.args.plant.now c.args.self.now c.args.arrival c.number_of-source.result c.index.result.now c.is_in_time.result false c.number_of-source.ensures (omega arith)
    c.index.ensures c.is_in_time.ensures c.if-not-is_in_time.true in (
      subst (λ (n : ℕ). IsBroken c.args.plant.now c.args.schedule.now events (TooClose n c.args.arrival.at)) (sym c.number_of-source.ensures)
          (arrives_too_soon c.args.plant.now c.args.schedule.now events c.args.self.now c.args.arrival c.requires.lawful follows c.requires.next asks),
      refl,
    )

pub returns : goal.returns
returns c = λ events follows.
    let may : MayArrive c.args.plant.now c.args.schedule.now c.args.self.now c.args.arrival =
    may_arrive c.args.plant.now c.args.schedule.now events c.args.self.now c.args.arrival c.requires.lawful follows c.requires.next in
    let within = may.within in let source = c.number_of-source.ensures in
    let asks : AsksInTime c.args.plant.now c.args.self.now c.args.arrival true =
    asks_in_time c.args.plant.now c.args.self.now c.args.arrival c.number_of-source.result c.index.result.now c.is_in_time.result true c.number_of-source.ensures (omega arith)
    c.index.ensures c.is_in_time.ensures c.if-not-is_in_time.false in
    subst (λ (n : ℕ). HasArrived c.args.plant.now.system (record { source = n; moment = c.args.arrival.at }) c.args.self.now c.make_arrival.new.self
    → Moved c.args.plant.now c.args.schedule.now events c.args.self.now c.make_arrival.new.self (turns.Arrive n c.args.arrival.at)) (sym c.number_of-source.ensures)
    (λ has. arrives_in_time c.args.plant.now c.args.schedule.now events c.args.self.now c.make_arrival.new.self c.args.arrival c.requires.lawful follows c.requires.next asks has)
    c.make_arrival.ensures
