use Rattle.std.proofs.Common.{◌≡◌, ◌==◌, map}
use Rattle.std.specs.Prelude.{filter, flat_map}
use Rattle.std.specs.List.{range_with_len}
use Rattle.demo_gen.specs.Demo as words
use Rattle.demo_gen.proofs.states.states_of.Given as goal

abbrev pub invariant-loop-size : goal.invariant-loop-size
invariant-loop-size l =
    l.states ≡ map words.state_of (flat_map (λ n. filter (λ set. words.size set == n) (words.sets l.count)) (range_with_len 0 l.size))
