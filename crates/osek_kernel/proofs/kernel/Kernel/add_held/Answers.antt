use Rattle.std.proofs.Common.{ap}
use Rattle.osek_kernel.specs.declared.kernel.Active.{Active}
use Rattle.osek_kernel.specs.Served.{holding}
use Rattle.osek_kernel.proofs.Changes.{put_changed, put_as_it_was, on_ok, on_err}
use Rattle.osek_kernel.proofs.kernel.Kernel.add_held.Goals as goal

pub returns-in-Some-clause-ok : goal.returns-in-Some-clause-ok
returns-in-Some-clause-ok c =
    let a : Active = c.in-Some.active in
    on_ok c.push-added.result
    (λ added. put_changed (holding c.args.resource) c.args.self.now c.taken_out.new.self c.put.new.self c.args.task a
    (record a { held = c.push-added.new.self })
    c.in-Some.ensures.state c.in-Some.ensures.kernel c.put.ensures (ap (λ held. record a { held = held }) added))
    c.push-added.ensures.ok

pub returns-in-Some-clause-err : goal.returns-in-Some-clause-err
returns-in-Some-clause-err c =
    let a : Active = c.in-Some.active in
    on_err c.push-added.result
    (λ kept. put_as_it_was c.args.self.now c.taken_out.new.self c.put.new.self c.args.task a
    (record a { held = c.push-added.new.self })
    c.in-Some.ensures.state c.in-Some.ensures.kernel c.put.ensures (ap (λ held. record a { held = held }) kept))
    c.push-added.ensures.err
