use Rattle.std.proofs.Common.{◌≡◌, true, take}
use Rattle.std.specs.BTreeSet.{contains_by}
use Rattle.std.specs.Cmp.Lexicographic.{slice_cmp}
use Rattle.std.specs.List.{list_all}
use Rattle.std.specs.Ordering.{nat_cmp}
use Rattle.flow_graph.proofs.names.are_in.Given as goal

abbrev pub invariant-loop-ticks : goal.invariant-loop-ticks
invariant-loop-ticks l = list_all (λ ticks. contains_by (λ k. slice_cmp nat_cmp ticks.name k.now) l.names) (take l.ticks-index l.numbers) ≡ true
