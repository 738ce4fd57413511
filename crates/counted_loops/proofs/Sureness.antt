-- Counted loops of a plant, and the edges that its contexts go along.
use Rattle.std.proofs.Common.{◌≡◌, ◌⊎◌, inl, inr, ℕ, zero, suc, ◌+◌, ◌-◌, ◌^◌, ◌<◌, ◌≤◌, ◌%◌, ℤ, pos, Bool, true, false, cond, List, [], ◌∷◌, length, Option, Some, None, refl, sym, ◌∙◌, ap, subst, arith}
use Rattle.std.specs.Prelude.{◌&&◌, ◌==◌, All, Contains, IfSome, slice_get}
use Rattle.std.specs.List.{list_any}
use Rattle.std.proofs.lemmas.Bool.{eqb-true, and_parts}
use Rattle.std.proofs.lemmas.Int.{ints}
use Rattle.std.proofs.lemmas.Option.{none-some, same_Some}
use Rattle.elf_image.specs.Image.{ImageData, IsLawful, has_word, holds_word, word_at, word_in}
use Rattle.rv32_decode.specs.declared.instruction.Insn.{Insn}
use Rattle.rv32_decode.specs.declared.instruction.Insn.TheVariants.{Imm}
use Rattle.rv32_decode.specs.declared.instruction.ImmOp.TheVariants.{Addi}
use Rattle.rv32_decode.specs.Formats.{IsSigned}
use Rattle.rv32_machine.specs.Code.{insn_at}
use Rattle.rv32_machine.specs.Places.{preceding}
use Rattle.rv32_machine.proofs.StepLaws.{IsCodeAt, image_fits, insn_is_code}
use Rattle.timing_file.specs.declared.timing.Loop.{Loop}
use Rattle.timing_file.specs.Lawful.{IsLoop}
use Rattle.flow_graph.specs.declared.edge.Edge.{Edge}
use Rattle.flow_graph.specs.declared.flow.Flow.{Flow}
use Rattle.flow_graph.specs.declared.node.Node.{Node}
use Rattle.flow_graph.specs.Graph.{edges_of, entries_of}
use Rattle.flow_graph.specs.Judging.{IsEdge, IsTarget}
use Rattle.wcet_atomic_blocks.specs.Plants.{PlantData, IsPlant}
use Rattle.wcet_atomic_blocks.proofs.GraphFacts.{beside_first}
use Rattle.shadow_runs.proofs.Numbers.{leaves_there}
use Rattle.counted_loops.specs.Counted.{IsCounted, HasEdge, HasLimit}
use Rattle.counted_loops.specs.Words.{loads}
use Rattle.counted_loops.proofs.Knowing.{IsSure}

-- ---- Constants

imm_fits : (image : ImageData) (address rd rs1 : ℕ) (imm : ℤ) → IsLawful image → insn_at image address ≡ Some (Imm Addi rd rs1 imm) → IsSigned 12 imm
imm_fits image address rd rs1 imm lawful at = (insn_is_code image address (Imm Addi rd rs1 imm) lawful at).decoded.fits.immediate

value_fits : (image : ImageData) (l : Loop) (q : ℕ) (value : ℤ) → IsLawful image → HasLimit (insn_at image) l q value → IsSigned 12 value
value_fits image l zero value lawful is = subst (IsSigned 12) (sym is) (omega (arith, ints), omega (arith, ints))
value_fits image l (suc n) value lawful is = imm_fits image (preceding (preceding l.from)) (suc n) 0 value lawful is

pub sure_of : (plant : PlantData) (l : Loop) (bound : ℕ) → IsPlant plant → IsLoop l
    → IsCounted (insn_at plant.image) (entries_of plant.image plant.system) plant.flow l bound
    → IsSure (insn_at plant.image) (entries_of plant.image plant.system) plant.flow l bound
sure_of plant l bound belongs declared is = record {
  is = is;
  words = declared.0;
  registers = image_fits plant.image;
  start = imm_fits plant.image (preceding l.from) is.counter 0 is.start belongs.image is.starts;
  step = imm_fits plant.image is.counts.place is.counter is.counter is.step belongs.image is.counts.counts;
  value = value_fits plant.image l is.limit is.value belongs.image is.limit_is;
}

-- ---- Words are aligned

aligned_word : (image : ImageData) (address word : ℕ) (b : Bool) → has_word image.code address ≡ b → word_at image address ≡ Some word → address % 4 ≡ 0
aligned_word image address word true e at =
    eqb-true (address % 4) 0 (and_parts (address % 4 == 0) (list_any (holds_word address) image.code) e).0
aligned_word image address word false e at =
    absurd (none-some word (sym (ap (λ (b : Bool). cond b (Some (word_in image.memory address)) None) e) ∙ at))

pub aligned_at : (image : ImageData) (address : ℕ) (insn : Insn) → IsLawful image → insn_at image address ≡ Some insn → address % 4 ≡ 0
aligned_at image address insn lawful at =
    let code = insn_is_code image address insn lawful at in
    aligned_word image address code.word (has_word image.code address) refl code.fetched

-- ---- Edges

numbered : (nodes : List Node) (next : Node) (to : Option ℕ) → IsTarget nodes (Some next) to → (target : ℕ) × (to ≡ Some target) × (slice_get nodes target ≡ Some next)
numbered nodes next (Some target) is = (target, refl, is)
numbered nodes next None is = absurd is

pub edge_there : (plant : PlantData) → IsPlant plant → (number : ℕ) (node : Node) (place : ℕ) (edge : Edge Node) (next : Node)
    → slice_get plant.flow.nodes number ≡ Some node → slice_get (edges_of (insn_at plant.image) node) place ≡ Some edge → edge.to ≡ Some next
    → HasEdge plant.flow node edge.kind next
edge_there plant is number node place edge next listed leaves arrives =
    let there = leaves_there plant is number node listed in
    let e = beside_first (IsEdge plant.flow.nodes) (edges_of (insn_at plant.image) node) there.leaving.edges place edge there.are.edges_are leaves in
    let to = numbered plant.flow.nodes next e.0.to (subst (λ (o : Option Node). IsTarget plant.flow.nodes o e.0.to) arrives e.2.to_is) in
    record {
      number = number;
      stands = listed;
      leaving = there.leaving;
      leaves = there.listed;
      place = place;
      edge = e.0;
      is_edge = e.1;
      kind_is = e.2.kind_is;
      next = to.0;
      arrives = to.1;
      leads = to.2;
    }
