use Rattle.std.proofs.Common.{rules, ◌≡◌, ◌<◌, ◌+◌, set, sym, ap, subst, Some}
use Rattle.wcet_atomic_blocks.specs.Working.Tables.{AreAftersBelow}
use Rattle.wcet_atomic_blocks.proofs.TableSteps.{afters_pass, afters_set}
use Rattle.wcet_atomic_blocks.proofs.tables.after_table.Goals as goal
use Rattle.wcet_atomic_blocks.proofs.tables.after_table.Goals.{in-Some, in_default}

pub loop-number-preserved : goal.loop-number-preserved
loop-number-preserved c = elim c.match-begins-number.branch [
  | in-Some w ↦
      let below : w.in-Some.node < c.args.nodes = search rules in
      let same : c.match-begins-number.table.items ≡ set c.loop-number.table.items w.in-Some.node (Some c.loop-number.number) = ap (λ v. v.items) w.table-is in
      subst (AreAftersBelow c.args.begins.now (c.loop-number.number + 1) c.args.nodes) (sym same)
      (afters_set c.args.begins.now c.loop-number.number c.args.nodes _ _ w.in-Some.node c.loop-number-test.true w.in-Some.is below c.loop-number.invariant)
  | in_default w ↦
      let same : c.match-begins-number.table.items ≡ c.loop-number.table.items = ap (λ v. v.items) w.table-is in
      subst (AreAftersBelow c.args.begins.now (c.loop-number.number + 1) c.args.nodes) (sym same)
      (afters_pass c.args.begins.now c.loop-number.number c.args.nodes _ _ c.loop-number-test.true w.in_default.not-Some c.loop-number.invariant)
]
