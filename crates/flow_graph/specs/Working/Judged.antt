-- The program that the code judges.
use Rattle.std.specs.Prelude.{◌≡◌, List}
use Rattle.elf_image.specs.Image.{has_word}
use Rattle.rv32_machine.specs.Code.{insn_at}
use Rattle.rv32_machine.specs.declared.turns.Turn.{Turn}
use Rattle.rv32_machine.specs.Places.{service_at}
use Rattle.flow_graph.specs.declared.edge.Edge.{Edge}
use Rattle.flow_graph.specs.declared.judged.Judged.{Judged}
use Rattle.flow_graph.specs.declared.node.Node.{Node}
use Rattle.flow_graph.specs.Graph.{Program, edges_by}

abbrev pub program_in : Judged → Program
program_in judged = record {
  code = insn_at judged.image.now;
  has_word = has_word judged.image.now.code;
  entries = judged.entries.now;
  system = judged.system.now;
  loops = judged.loops.now;
}

-- the edges that the turn gives the node
abbrev pub AreEdges : Judged → Node → Turn → List (Edge Node) → Type 0
AreEdges judged node turn edges =
    edges ≡ edges_by (service_at (insn_at judged.image.now) node.address) node turn
