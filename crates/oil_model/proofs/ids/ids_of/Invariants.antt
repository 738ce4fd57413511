use Rattle.std.proofs.Common.{◌≡◌, length}
use Rattle.std.specs.Prelude.{fold, filter_map}
use Rattle.oil_model.specs.References.{add_once, id_at, ids_of}
use Rattle.oil_model.proofs.ids.ids_of.Given as goal

abbrev pub invariant-loop-first : goal.invariant-loop-first
invariant-loop-first l = fold add_once l.ids (filter_map (id_at l.objects l.target l.level l.name) l.rest) ≡ ids_of l.objects l.target l.level l.name l.fn.attributes

abbrev pub decreases-loop-first : goal.decreases-loop-first
decreases-loop-first l = length l.rest
