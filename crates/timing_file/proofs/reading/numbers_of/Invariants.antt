use Rattle.std.proofs.Common.{◌≡◌}
use Rattle.serde_json.specs.View.{members_view}
use Rattle.json_fields.proofs.Loops.{with_front}
use Rattle.timing_file.specs.Timing.{numbers_of}
use Rattle.timing_file.proofs.reading.numbers_of.Given as goal

abbrev pub invariant-loop-name : goal.invariant-loop-name
invariant-loop-name l =
    (with_front l.numbers (numbers_of l.greatest (members_view l.name-iterator)) ≡ numbers_of l.greatest (members_view l.members.entries))
    × (goal.iterator-loop-name).can_next l.name-iterator
    × (goal.iterator-loop-name).is_finite l.name-iterator
