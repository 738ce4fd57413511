use Rattle.std.proofs.Common.{refl, ◌∙◌}
use Rattle.oil_model.proofs.rule.rule_fault.Goals as goal

pub returns-in-Some : goal.returns-in-Some
returns-in-Some c =
    rw (← c.in-Some.ensures, ← c.level_of-level.ensures)
    (c.least.ensures ∙ rw (c.times_fault.ensures, c.values_fault.ensures, c.count_at-count.ensures) refl)
