use Rattle.std.proofs.Common.{◌≡◌, ◌++◌, ◌∷◌, map, take}
use Rattle.demo_gen.proofs.states.put_sets.Given as goal

abbrev pub invariant-loop-set : goal.invariant-loop-set
invariant-loop-set l = l.made ≡ l.fn.made ++ map (λ set. l.first ∷ set) (take l.set-index l.sets)
