use Rattle.std.proofs.Common.{arith}
use Rattle.timing_file.proofs.Bounds.{extra_at-small, cost_of_class-le}
use Rattle.timing_file.proofs.timing.Timing.insn.Goals as goal

pub extra_at-requires : goal.extra_at-requires
extra_at-requires c = rw c.as_slice.ensures (omega (arith, extra_at-small c.args.self.now.extra c.args.address c.requires.extra))

pub overflow_add-result : goal.overflow_add-result
overflow_add-result c =
    let extra = rw c.as_slice.ensures at c.extra_at.ensures in
    omega (arith, c.class_cost.ensures, cost_of_class-le c.args.self.now c.args.class c.args.taken c.requires, extra, extra_at-small c.args.self.now.extra c.args.address c.requires.extra)
