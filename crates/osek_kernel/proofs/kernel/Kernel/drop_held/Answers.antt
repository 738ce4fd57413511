use Rattle.std.proofs.Common.{ap}
use Rattle.osek_kernel.specs.declared.kernel.Active.{Active}
use Rattle.osek_kernel.specs.Served.{without_last}
use Rattle.osek_kernel.proofs.Changes.{put_changed}
use Rattle.osek_kernel.proofs.kernel.Kernel.drop_held.Goals as goal

pub returns-in-Some : goal.returns-in-Some
returns-in-Some c =
    let a : Active = c.in-Some.active in
    put_changed without_last c.args.self.now c.taken_out.new.self c.put.new.self c.args.task a
    (record a { held = c.all_but_last.result })
    c.in-Some.ensures.state c.in-Some.ensures.kernel c.put.ensures (ap (λ held. record a { held = held }) c.all_but_last.ensures)
