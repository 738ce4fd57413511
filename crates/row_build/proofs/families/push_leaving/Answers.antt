use Rattle.std.proofs.Common.{◌+◌, [], ◌∷◌, ◌++◌, cond, get_or, map, take, sym}
use Rattle.std.specs.Prelude.{filter}
use Rattle.abstract_sched.specs.declared.states.AbsState.{AbsState}
use Rattle.osek_kernel.specs.declared.context.Context.TheVariants as contexts
use Rattle.row_build.specs.Columns as columns
use Rattle.row_build.specs.Families as words
use Rattle.row_build.specs.Working.Kinds.{IsKind, row_of}
use Rattle.row_build.specs.Working.Numbered.{no_state}
use Rattle.row_build.proofs.Growing.{adds_both, adds_like, filter_more}
use Rattle.row_build.proofs.families.push_leaving.Goals as goal

pub loop-state-preserved : goal.loop-state-preserved
loop-state-preserved c =
    let plant = c.args.plant.now in let states = c.args.states.now in let instances = c.args.instances.now in let task = c.args.task in let n = c.loop-state.state in
    adds_like (row_of plant states instances task) (IsKind plant states instances) c.args.kinds.now c.push_if_active.new.kinds
    (map (words.leaves plant task) (filter (λ (state : AbsState). columns.is_active_in state (contexts.Task task)) (take n states)) ++ map (words.leaves plant task) (cond (columns.is_active_in (get_or states n no_state) (contexts.Task task)) (get_or states n no_state ∷ []) [])) (map (words.leaves plant task) (filter (λ (state : AbsState). columns.is_active_in state (contexts.Task task)) (take (n + 1) states)))
    (sym (filter_more (words.leaves plant task) (λ (state : AbsState). columns.is_active_in state (contexts.Task task)) states n no_state c.loop-state-test.true))
    (adds_both (row_of plant states instances task) (IsKind plant states instances) c.args.kinds.now c.loop-state.kinds c.push_if_active.new.kinds
    (map (words.leaves plant task) (filter (λ (state : AbsState). columns.is_active_in state (contexts.Task task)) (take n states))) (map (words.leaves plant task) (cond (columns.is_active_in (get_or states n no_state) (contexts.Task task)) (get_or states n no_state ∷ []) [])) c.loop-state.invariant c.in_ok-push_if_active.ensures)
