-- What a turn of a player tells of the step that it made.
use Rattle.std.specs.Prelude.{◌≡◌, ◌+◌, List}
use Rattle.osek_machine.specs.Events.{Event, Arrive, Take, Execute, Serve, Idle, duration}
use Rattle.replay.specs.declared.turn.Turn.{Turn}
use Rattle.replay.specs.declared.turn.Turn.TheVariants as turns

-- the turn tells the step, which was made after the earlier ones
abbrev pub Tells : Event → List Event → Turn → Type 0
Tells (Arrive a) earlier (turns.Arrive source moment) = (source ≡ a.source) × (moment ≡ a.moment)
Tells (Take t) earlier (turns.Take source start end) =
    (source ≡ t.source) × (start ≡ duration earlier) × (end ≡ duration earlier + t.cycles)
Tells (Execute e) earlier (turns.Insn start end) = (start ≡ duration earlier) × (end ≡ duration earlier + e.cycles)
Tells (Serve c) earlier (turns.Service context sites address start end) =
    (context ≡ c.caller) × (sites ≡ c.before.calls) × (address ≡ c.before.place)
    × (start ≡ duration earlier) × (end ≡ duration earlier + c.cycles)
Tells (Idle cycles) earlier (turns.Idle end) = end ≡ duration earlier + cycles
Tells event earlier turn = ⊥
