use Rattle.std.proofs.Common.{ℕ, ◌+◌, [], ◌∷◌, ◌++◌, cond, not, sym}
use Rattle.std.specs.Prelude.{filter}
use Rattle.std.specs.List.{flat_map, range_with_len}
use Rattle.row_build.specs.Columns as columns
use Rattle.row_build.specs.Families as words
use Rattle.row_build.specs.Working.Kinds.{IsKind, row_of}
use Rattle.row_build.proofs.Growing.{adds_both, adds_like, flat_filter_more}
use Rattle.row_build.proofs.visits.push_beginning.Goals as goal

pub loop-block-preserved : goal.loop-block-preserved
loop-block-preserved c =
    let plant = c.args.plant.now in let states = c.args.states.now in let instances = c.args.instances.now in let task = c.args.task in let n = c.loop-block.block in
    adds_like (row_of plant states instances task) (IsKind plant states instances) c.args.kinds.now c.push_if_begun.new.kinds
    (flat_map (words.beginning_at plant task) (filter (λ (block : ℕ). not (columns.is_own_entry plant task block)) (range_with_len 0 n)) ++ flat_map (words.beginning_at plant task) (cond (not (columns.is_own_entry plant task n)) (n ∷ []) [])) (flat_map (words.beginning_at plant task) (filter (λ (block : ℕ). not (columns.is_own_entry plant task block)) (range_with_len 0 (n + 1))))
    (sym (flat_filter_more (words.beginning_at plant task) (λ (block : ℕ). not (columns.is_own_entry plant task block)) n))
    (adds_both (row_of plant states instances task) (IsKind plant states instances) c.args.kinds.now c.loop-block.kinds c.push_if_begun.new.kinds
    (flat_map (words.beginning_at plant task) (filter (λ (block : ℕ). not (columns.is_own_entry plant task block)) (range_with_len 0 n))) (flat_map (words.beginning_at plant task) (cond (not (columns.is_own_entry plant task n)) (n ∷ []) [])) c.loop-block.invariant c.in_ok-push_if_begun.ensures)
