-- The entry isn't 0.
use Rattle.std.proofs.Common.{ap, ◌∙◌}
use Rattle.std.specs.Int.{w128}
use mir.Val.{of_z}
use Rattle.whole_simplex.proofs.pivot.eliminate.Goals as goal

pub eliminate_entry-requires-clause-entry : goal.eliminate_entry-requires-clause-entry
eliminate_entry-requires-clause-entry c = λ e. c.if-entry-eq0.false (ap (of_z w128) (c.entry.ensures.value ∙ e))
