use Rattle.std.proofs.Common.{◌<◌, ◌∙◌, length, sym, rules}
use Rattle.osek_kernel.specs.Sources.{source_at, is_live}
use Rattle.row_build.proofs.Growing.{found_number, no_number}
use Rattle.row_build.proofs.families.is_ever_live.Goals as goal

pub returns-then-lives : goal.returns-then-lives
returns-then-lives c =
    let system = c.args.plant.now.system in let n = c.loop-mode.mode in
    let within : n < length system.modes = search rules in
    found_number (λ mode. is_live system mode (source_at system c.args.source)) (length system.modes) n within (sym c.lives.ensures ∙ c.if-lives.true)

pub loop-mode-preserved : goal.loop-mode-preserved
loop-mode-preserved c =
    let system = c.args.plant.now.system in
    no_number (λ mode. is_live system mode (source_at system c.args.source)) c.loop-mode.mode c.loop-mode.invariant (sym c.lives.ensures ∙ c.if-lives.false)
