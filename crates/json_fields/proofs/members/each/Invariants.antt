use Rattle.std.proofs.Common.{◌≡◌, map, drop}
use Rattle.listed.specs.Lists.{each_from}
use Rattle.serde_json.specs.View.{view}
use Rattle.json_fields.proofs.Loops.{with_front}
use Rattle.json_fields.proofs.members.each.Given as goal

abbrev pub invariant-loop-place : goal.invariant-loop-place
invariant-loop-place g l = with_front l.items (each_from (g.F.Format.gives l.format) l.place (map view (drop l.place l.values))) ≡ each_from (g.F.Format.gives l.format) 0 (map view l.values)
