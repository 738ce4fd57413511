-- Which edges of a loop are looked for.
use Rattle.std.specs.Prelude.{Bool}
use Rattle.timing_file.specs.declared.timing.Loop.{Loop}
use Rattle.flow_graph.specs.declared.edge.EdgeKind.{EdgeKind}
use Rattle.flow_graph.specs.declared.node.Node.{Node}
use Rattle.wcet_atomic_blocks.specs.declared.wanted.Wanted.{Wanted}
use Rattle.wcet_atomic_blocks.specs.declared.wanted.Wanted.TheVariants.{Back, Entering}
use Rattle.wcet_atomic_blocks.specs.Loops.{is_back, is_entering}

abbrev pub edge_test : Wanted → Node → Loop → Node → EdgeKind → Node → Bool
edge_test Back = is_back
edge_test Entering = is_entering
