use Rattle.std.proofs.Common.{◌++◌, ◌∷◌, [], Bool, List, cond, false, sym, ◌∙◌, ap, append_assoc}
use Rattle.osek_kernel.specs.declared.context.Context.TheVariants as contexts
use Rattle.scheduler_moves.specs.Moves.{initial}
use Rattle.row_build.specs.Columns.{is_active_in}
use Rattle.split_search.specs.Working.Flags.{mode_flags}
use Rattle.split_search.proofs.TakePlaces.{modes_more}
use Rattle.split_search.proofs.takes.push_modes.Goals as goal

pub loop-mode-preserved : goal.loop-mode-preserved
loop-mode-preserved c =
    let plant = c.args.plant.now in
    let mode = c.loop-mode.mode in
    let added = cond (is_active_in (initial plant mode) (contexts.Task c.args.task)) (false ∷ []) [] in
    c.in_ok-push_mode.ensures
    ∙ ap (λ (found : List Bool). found ++ cond (is_active_in (initial c.args.plant.now c.loop-mode.mode) (contexts.Task c.args.task)) (false ∷ []) []) c.loop-mode.invariant
    ∙ append_assoc c.args.found.now (mode_flags plant c.args.task mode) added
    ∙ ap (λ (flags : List Bool). c.args.found.now ++ flags) (sym (modes_more plant c.args.task mode))
