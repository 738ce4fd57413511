use Rattle.std.proofs.Common.{refl}
use Rattle.osek_kernel.specs.Kernel.{with_inner}
use Rattle.osek_kernel.proofs.Changes.{put_changed}
use Rattle.osek_kernel.proofs.kernel.Kernel.set_inner.Goals as goal

pub returns-in-Some : goal.returns-in-Some
returns-in-Some c =
    put_changed (with_inner c.args.inner) c.args.self.now c.taken_out.new.self c.put.new.self c.args.task c.in-Some.active
    (record { inner = c.args.inner; held = c.in-Some.active.held })
    c.in-Some.ensures.state c.in-Some.ensures.kernel c.put.ensures refl
