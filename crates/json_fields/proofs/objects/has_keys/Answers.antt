use Rattle.std.proofs.lemmas.List.Folds.{list_all-map}
use Rattle.json_fields.proofs.objects.has_keys.Goals as goal

pub returns-then-has_each : goal.returns-then-has_each
returns-then-has_each c = simp (list_all-map, ← c.if-has_each.ensures) c.has_only.ensures

pub returns-else-has_each : goal.returns-else-has_each
returns-else-has_each c = simp (list_all-map, ← c.if-has_each.ensures) c.if-has_each.false
