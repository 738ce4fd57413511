-- Where a step goes by its turn, and along which edge.
use Rattle.std.proofs.Common.{◌≡◌, ℕ, ◌-◌, ℤ, Bool, true, false, cond, List, [], ◌∷◌, ◌⊎◌, inl, inr, length, take, Option, Some, None, refl, sym, ◌∙◌, ap}
use Rattle.std.specs.Prelude.{◌==◌, ◌&&◌, slice_get}
use Rattle.std.specs.Option.{option_map}
use Rattle.std.proofs.lemmas.Option.{none-some, same_Some}
use Rattle.rv32_decode.specs.declared.instruction.Insn.{Insn}
use Rattle.rv32_decode.specs.declared.instruction.Insn.TheVariants.{Lui, Auipc, Jal, Jalr, Branch, Load, Save, Imm, Reg, Fence, Ecall, Ebreak}
use Rattle.rv32_machine.specs.declared.turns.Pair.{Pair}
use Rattle.rv32_machine.specs.declared.turns.ServiceAt.{ServiceAt}
use Rattle.rv32_machine.specs.declared.turns.Turn.{Turn}
use Rattle.rv32_machine.specs.declared.turns.Turn.TheVariants.{Onward, Branching, Jumping, Calling, Returning, Serving, Indirect, Breaking}
use Rattle.rv32_machine.specs.ContextStep.{IsPaired, calls_after}
use Rattle.rv32_machine.specs.Execution.{Effect, executed, word_of, moved, jump_target, following, branch_holds}
use Rattle.rv32_machine.specs.Places.{linked, turn_of}
use Rattle.rv32_machine.specs.Registers.{value_of}
use Rattle.flow_graph.specs.declared.edge.Edge.{Edge}
use Rattle.flow_graph.specs.declared.edge.EdgeKind.TheVariants as kinds
use Rattle.flow_graph.specs.declared.node.Node.{Node}
use Rattle.flow_graph.specs.Graph.{edge_to, edges_for, edges_by, node_at, next_node, called_node, returned_node}
use Rattle.flow_graph.specs.Faults.{is_indirect}
use Rattle.flow_graph.specs.Standing.{edge_number}

-- a step to `next` along the edge of that number, by the turn
abbrev pub GoesBy : Turn → ℕ → ℕ → ℕ → Type 0
GoesBy Onward place next i = (next ≡ following place) × (i ≡ 0)
GoesBy (Branching target) place next i = ((next ≡ following place) × (i ≡ 0)) ⊎ ((next ≡ target) × (i ≡ 1))
GoesBy (Jumping target) place next i = (next ≡ target) × (i ≡ 0)
GoesBy (Calling target) place next i = (next ≡ target) × (i ≡ 0)
GoesBy Returning place next i = i ≡ 0
GoesBy Serving place next i = ⊥
GoesBy Indirect place next i = i ≡ 0
GoesBy Breaking place next i = ⊥

-- the effect that an instruction has is the one that its line gives
next_of : (line effect : Effect) → Some line ≡ Some effect → effect.next ≡ line.next
next_of line effect e = ap (λ (one : Effect). one.next) (sym (same_Some line effect e))

onward_goes : (place : ℕ) (line effect : Effect) → line.next ≡ following place → Some line ≡ Some effect → (effect.next ≡ following place) × (◌≡◌ {A = ℕ} 0 0)
onward_goes place line effect same e = (next_of line effect e ∙ same, refl)

either_linked : (zero_rd one_rd : Bool) (target place next : ℕ) → next ≡ target
    → GoesBy (cond zero_rd (Jumping target) (cond one_rd (Calling target) Indirect)) place next 0
either_linked true one_rd target place next h = (h, refl)
either_linked false true target place next h = (h, refl)
either_linked false false target place next h = refl

linked_goes : (rd target place next : ℕ) → next ≡ target → GoesBy (linked rd target) place next 0
linked_goes rd target place next h = either_linked (rd == 0) (rd == 1) target place next h

alone_goes : (is_return : Bool) (place next : ℕ) → GoesBy (cond is_return Returning Indirect) place next 0
alone_goes true place next = refl
alone_goes false place next = refl

branch_goes : (holds : Bool) (target place next : ℕ) → next ≡ cond holds target (following place) → GoesBy (Branching target) place next (cond holds 1 0)
branch_goes true target place next h = inr (h, refl)
branch_goes false target place next h = inl (h, refl)

pub goes : (insn : Insn) (pair : Option Pair) (place : ℕ) (regs : List ℕ) (memory : ℕ → Option ℕ) (device : ℕ) (effect : Effect)
    → executed insn place regs memory device ≡ Some effect
    → ((p : Pair) → pair ≡ Some p → (rd rs1 : ℕ) (offset : ℤ) → insn ≡ Jalr rd rs1 offset → jump_target (value_of regs rs1) offset ≡ p.target)
    → GoesBy (turn_of pair place insn) place effect.next (edge_number insn regs)
goes (Lui rd imm) pair place regs memory device effect e known = onward_goes place _ effect refl e
goes (Auipc rd imm) pair place regs memory device effect e known = onward_goes place _ effect refl e
goes (Jal rd offset) pair place regs memory device effect e known = linked_goes rd (moved place offset) place effect.next (next_of _ effect e)
goes (Jalr rd rs1 offset) None place regs memory device effect e known = alone_goes ((rd == 0) && (rs1 == 1) && (word_of offset == 0)) place effect.next
goes (Jalr rd rs1 offset) (Some p) place regs memory device effect e known =
    linked_goes rd p.target place effect.next (next_of _ effect e ∙ known p refl rd rs1 offset refl)
goes (Branch op rs1 rs2 offset) pair place regs memory device effect e known =
    branch_goes (branch_holds op rs1 rs2 regs) (moved place offset) place effect.next (next_of _ effect e)
goes (Load op rd rs1 offset) pair place regs memory device effect e known = onward_goes place _ effect refl e
goes (Save op rs1 rs2 offset) pair place regs memory device effect e known = onward_goes place _ effect refl e
goes (Imm op rd rs1 imm) pair place regs memory device effect e known = onward_goes place _ effect refl e
goes (Reg op rd rs1 rs2) pair place regs memory device effect e known = onward_goes place _ effect refl e
goes (Fence rd rs1 imm) pair place regs memory device effect e known = onward_goes place _ effect refl e
goes Ecall pair place regs memory device effect e known = absurd (none-some effect e)
goes Ebreak pair place regs memory device effect e known = absurd (none-some effect e)

-- the edge of that number leads to a node with that address and those open calls
pub record Reaches (edges : List (Edge Node)) (context i address : ℕ) (sites : List ℕ) : Type 0 where
  pub edge : Edge Node
  pub leaves : slice_get edges i ≡ Some edge
  pub next : Node
  pub arrives : edge.to ≡ Some next
  pub context_is : next.context ≡ context
  pub address_is : next.address ≡ address
  pub sites_are : next.sites ≡ sites

first_reaches : (edges : List (Edge Node)) (edge : Edge Node) (to : Node) (i address : ℕ) → edge.to ≡ Some to → address ≡ to.address → i ≡ 0
    → Reaches (edge ∷ edges) to.context i address to.sites
first_reaches edges edge to i address arrives there first = record {
  edge = edge;
  leaves = ap (slice_get (edge ∷ edges)) first;
  next = to;
  arrives = arrives;
  context_is = refl;
  address_is = sym there;
  sites_are = refl;
}

back_reaches : (node : Node) (found : Option ℕ) (i address : ℕ) → i ≡ 0 → option_map following found ≡ Some address
    → Reaches (edges_for (λ site. edge_to kinds.Return (returned_node node site)) found) node.context i address (take (length node.sites - 1) node.sites)
back_reaches node None i address first h = absurd (none-some address h)
back_reaches node (Some site) i address first h =
    first_reaches [] (edge_to kinds.Return (returned_node node site)) (returned_node node site) i address refl (sym (same_Some (following site) address h))
    first

pub reaches : (service : Option ServiceAt) (node : Node) (turn : Turn) (i address : ℕ) → is_indirect turn ≡ false → GoesBy turn node.address address i
    → IsPaired turn node.sites address → Reaches (edges_by service node turn) node.context i address (calls_after turn node.address node.sites)
reaches service node Onward i address direct h paired = first_reaches _ _ (next_node node) i address refl h.0 h.1
reaches service node (Branching target) i address direct h paired =
    elim h [
      | inl w ↦ first_reaches _ _ (next_node node) i address refl w.0 w.1
      | inr w ↦ record {
        edge = edge_to kinds.Taken (node_at node target);
        leaves = ap (slice_get (edges_by service node (Branching target))) w.1;
        next = node_at node target;
        arrives = refl;
        context_is = refl;
        address_is = sym w.0;
        sites_are = refl;
      }
    ]
reaches service node (Jumping target) i address direct h paired = first_reaches _ _ (node_at node target) i address refl h.0 h.1
reaches service node (Calling target) i address direct h paired = first_reaches _ _ (called_node node target) i address refl h.0 h.1
reaches service node Returning i address direct h paired = back_reaches node (slice_get node.sites (length node.sites - 1)) i address h paired
reaches service node Serving i address direct h paired = absurd h
reaches service node Indirect i address direct h paired = absurd cc
reaches service node Breaking i address direct h paired = absurd h
