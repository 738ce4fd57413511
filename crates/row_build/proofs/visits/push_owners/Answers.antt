use Rattle.std.proofs.Common.{◌+◌, [], ◌∷◌, ◌++◌, cond, map, sym}
use Rattle.std.specs.Prelude.{filter}
use Rattle.std.specs.List.{list_any, range_with_len}
use Rattle.osek_kernel.specs.declared.context.Context.{Context}
use Rattle.osek_kernel.specs.Contexts.{context_at}
use Rattle.row_build.specs.Families as words
use Rattle.row_build.specs.Working.Kinds.{IsKind, row_of}
use Rattle.row_build.proofs.Growing.{adds_both, adds_like, passing_numbers_more}
use Rattle.row_build.proofs.visits.push_owners.Goals as goal

pub loop-place-preserved : goal.loop-place-preserved
loop-place-preserved c =
    let plant = c.args.plant.now in let states = c.args.states.now in let instances = c.args.instances.now in let task = c.args.task in let n = c.loop-place.place in
    adds_like (row_of plant states instances task) (IsKind plant states instances) c.args.kinds.now c.push_owner.new.kinds
    (map (words.stands_once plant) (filter (λ (context : Context). list_any (words.is_owned plant context) c.args.nodes.now) (map (context_at plant.system) (range_with_len 0 n))) ++ map (words.stands_once plant) (cond (list_any (words.is_owned plant (context_at plant.system n)) c.args.nodes.now) (context_at plant.system n ∷ []) [])) (map (words.stands_once plant) (filter (λ (context : Context). list_any (words.is_owned plant context) c.args.nodes.now) (map (context_at plant.system) (range_with_len 0 (n + 1)))))
    (sym (passing_numbers_more (words.stands_once plant) (λ (context : Context). list_any (words.is_owned plant context) c.args.nodes.now) (context_at plant.system) n))
    (adds_both (row_of plant states instances task) (IsKind plant states instances) c.args.kinds.now c.loop-place.kinds c.push_owner.new.kinds
    (map (words.stands_once plant) (filter (λ (context : Context). list_any (words.is_owned plant context) c.args.nodes.now) (map (context_at plant.system) (range_with_len 0 n)))) (map (words.stands_once plant) (cond (list_any (words.is_owned plant (context_at plant.system n)) c.args.nodes.now) (context_at plant.system n ∷ []) [])) c.loop-place.invariant c.in_ok-push_owner.ensures)
