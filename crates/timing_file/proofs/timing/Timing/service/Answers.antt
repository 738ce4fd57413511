use Rattle.std.proofs.Common.{arith}
use Rattle.timing_file.proofs.Bounds.{extra_at-small, cost_of_service-le}
use Rattle.timing_file.proofs.timing.Timing.service.Goals as goal

pub extra_at-requires : goal.extra_at-requires
extra_at-requires c = rw c.as_slice.ensures (omega (arith, extra_at-small c.args.self.now.extra c.args.address c.requires.extra))

pub overflow_add-result : goal.overflow_add-result
overflow_add-result c =
    let extra = rw c.as_slice.ensures at c.extra_at.ensures in
    let cost = cost_of_service-le c.args.self.now.services c.args.service c.requires.services in
    omega (arith, c.cost.ensures, cost, extra, extra_at-small c.args.self.now.extra c.args.address c.requires.extra)
