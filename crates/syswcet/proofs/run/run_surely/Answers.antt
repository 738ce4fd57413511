use Rattle.std.proofs.Common.{refl}
use Rattle.command_steps.proofs.Surely.{ends_surely}
use Rattle.syswcet.proofs.run.run_surely.Goals as goal

pub returns : goal.returns
returns c = ends_surely _ _ _ _ c.args.files.now c.run.new.files c.args.out.now c.run.new.out c.run.result (λ files. refl) c.run.ensures.ran
