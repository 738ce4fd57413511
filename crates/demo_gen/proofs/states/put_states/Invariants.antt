use Rattle.std.proofs.Common.{◌≡◌, ◌++◌, ◌==◌, map, take}
use Rattle.std.specs.Prelude.{filter}
use Rattle.demo_gen.specs.Demo as words
use Rattle.demo_gen.proofs.states.put_states.Given as goal

abbrev pub invariant-loop-set : goal.invariant-loop-set
invariant-loop-set l = l.states ≡ l.fn.states ++ map words.state_of (filter (λ set. words.size set == l.size) (take l.set-index l.sets))
