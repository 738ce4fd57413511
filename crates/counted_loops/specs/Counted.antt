-- Counted loops: declared loops whose code itself says how often they go round.
-- A register, the counter, is loaded with a constant by the word before the loop. One word of the loop adds a constant to
-- it. The branch at the loop's end compares it with the limit, which is x0, or a register that the word before that one
-- loads with a constant. No other word of the loop writes either, and nothing comes into the loop but by its front.
use Rattle.std.specs.Prelude.{◌≡◌, ◌⊎◌, ℕ, zero, suc, ◌+◌, ℤ, pos, Bool, true, false, All, List, ◌==◌, slice_get, Option, Some, None, IfSome}
use Rattle.std.specs.List.{AllZip}
use Rattle.rv32_decode.specs.declared.instruction.BranchOp.{BranchOp}
use Rattle.rv32_decode.specs.declared.instruction.BranchOp.TheVariants.{Bne, Blt}
use Rattle.rv32_decode.specs.declared.instruction.Insn.{Insn}
use Rattle.rv32_decode.specs.declared.instruction.Insn.TheVariants.{Branch}
use Rattle.rv32_machine.specs.Code.{insn_at}
use Rattle.rv32_machine.specs.Execution.{moved}
use Rattle.rv32_machine.specs.Places.{preceding}
use Rattle.elf_image.specs.Image.{ImageData}
use Rattle.oil_model.specs.declared.system.System.{System}
use Rattle.timing_file.specs.declared.timing.Loop.{Loop}
use Rattle.timing_file.specs.Costs.{lies_in}
use Rattle.flow_graph.specs.declared.edge.Edge.{Edge}
use Rattle.flow_graph.specs.declared.edge.EdgeKind.{EdgeKind}
use Rattle.flow_graph.specs.declared.edge.EdgeKind.TheVariants.{Straight}
use Rattle.flow_graph.specs.declared.flow.Flow.{Flow}
use Rattle.flow_graph.specs.declared.flow.Leaving.{Leaving}
use Rattle.flow_graph.specs.declared.node.Node.{Node}
use Rattle.flow_graph.specs.Graph.{entries_of}
use Rattle.counted_loops.specs.Rounds.{AreRounds}
use Rattle.counted_loops.specs.Words.{IsWordIn, IsPlainAt, writes_at, loads, adds}

-- ---- The graph

-- an edge of the graph, by its nodes
pub record HasEdge (flow : Flow) (source : Node) (kind : EdgeKind) (target : Node) : Type 0 where
  pub number : ℕ
  pub stands : slice_get flow.nodes number ≡ Some source
  pub leaving : Leaving
  pub leaves : slice_get flow.leaving number ≡ Some leaving
  pub place : ℕ
  pub edge : Edge ℕ
  pub is_edge : slice_get leaving.edges place ≡ Some edge
  pub kind_is : edge.kind ≡ kind
  pub next : ℕ
  pub arrives : edge.to ≡ Some next
  pub leads : slice_get flow.nodes next ≡ Some target

-- some node of the graph has an address of which this holds
pub record HasNode (flow : Flow) (here : ℕ → Bool) : Type 0 where
  pub number : ℕ
  pub node : Node
  pub stands : slice_get flow.nodes number ≡ Some node
  pub lies : here node.address ≡ true

-- an edge of this kind from one address to another just goes on to the given one, from the word before it
pub record GoesOnTo (address : ℕ) (source : ℕ) (kind : EdgeKind) (target : ℕ) : Type 0 where
  pub from : source ≡ preceding address
  pub straight : kind ≡ Straight
  pub to : target ≡ address

-- Each edge to where `here` holds, unless it comes from where `inner` holds, just goes on to the address from the word
-- before it.
abbrev pub EntersAt : Flow → (ℕ → Bool) → (ℕ → Bool) → ℕ → Type 0
EntersAt flow inner here address = (source target : Node) (kind : EdgeKind) → HasEdge flow source kind target
    → here target.address ≡ true → inner source.address ≡ false → GoesOnTo address source.address kind target.address

-- no context begins where this holds
abbrev pub BeginsNowhere : List (Option ℕ) → (ℕ → Bool) → Type 0
BeginsNowhere entries here = All (λ entry. IfSome entry (λ address. here address ≡ false)) entries

-- ---- The conditions

abbrev pub in_loop : Loop → ℕ → Bool
in_loop l address = lies_in l.from l.to address

abbrev pub Compares : BranchOp → Type 0
Compares Bne = Unit {0}
Compares Blt = Unit {0}
Compares op = ⊥

-- The word at the loop's end is `bne counter, limit` or `blt counter, limit` back to its first word.
pub record Closes (code : ℕ → Option Insn) (l : Loop) (op : BranchOp) (counter limit : ℕ) : Type 0 where
  pub offset : ℤ
  pub branch : code l.to ≡ Some (Branch op counter limit offset)
  pub compares : Compares op
  pub back : moved l.to offset ≡ l.from
  pub counter_counts : counter ≡ 0 → ⊥
  pub apart : counter ≡ limit → ⊥

-- Of the other words one alone writes the counter, and it adds the step, which isn't 0.
pub record CountsOnce (code : ℕ → Option Insn) (l : Loop) (counter : ℕ) (step : ℤ) : Type 0 where
  pub place : ℕ
  pub inside : IsWordIn l.from l.to place
  pub counts : code place ≡ Some (adds counter step)
  pub moves : step ≡ pos 0 → ⊥
  pub alone : (address : ℕ) → IsWordIn l.from l.to address → writes_at code counter address ≡ true → address ≡ place

-- The value of the limit: that of x0, or the constant that the second word before the loop loads.
abbrev pub HasLimit : (ℕ → Option Insn) → Loop → ℕ → ℤ → Type 0
HasLimit code l zero value = value ≡ pos 0
HasLimit code l (suc n) value = code (preceding (preceding l.from)) ≡ Some (loads (suc n) value)

-- The address is come to by the word before it alone.
pub record IsComeToStraight (entries : List (Option ℕ)) (flow : Flow) (address : ℕ) : Type 0 where
  pub no_entry : BeginsNowhere entries (λ other. other == address)
  pub entered : EntersAt flow (λ other. false) (λ other. other == address) address

-- A limit that is loaded is so each time, before the counter is.
abbrev pub LimitIsLoaded : List (Option ℕ) → Flow → Loop → ℕ → Type 0
LimitIsLoaded entries flow l zero = Unit {0}
LimitIsLoaded entries flow l (suc n) = IsComeToStraight entries flow (preceding l.from)

-- The loop is counted, and goes round at most so often each time that it is come into.
pub record IsCounted (code : ℕ → Option Insn) (entries : List (Option ℕ)) (flow : Flow) (l : Loop) (bound : ℕ) : Type 0 where
  pub op : BranchOp
  pub counter : ℕ
  pub limit : ℕ
  -- what the counter starts with, what is added to it in each round, and the limit's value
  pub start : ℤ
  pub step : ℤ
  pub value : ℤ
  pub reached : HasNode flow (in_loop l)
  pub closes : Closes code l op counter limit
  pub plain : (address : ℕ) → IsWordIn l.from l.to address → IsPlainAt code address
  pub counts : CountsOnce code l counter step
  pub keeps : (limit ≡ 0) ⊎ ((address : ℕ) → IsWordIn l.from l.to address → writes_at code limit address ≡ false)
  pub starts : code (preceding l.from) ≡ Some (loads counter start)
  pub no_entry : BeginsNowhere entries (in_loop l)
  pub entered : EntersAt flow (in_loop l) (in_loop l) l.from
  pub limit_is : HasLimit code l limit value
  pub limit_loaded : LimitIsLoaded entries flow l limit
  -- the branch is taken in all rounds but the last one
  pub rounds : AreRounds op start step value (suc bound)

-- ---- What is found

-- the bound of a loop that is counted, or none where it isn't
abbrev pub IsFound : (ℕ → Option Insn) → List (Option ℕ) → Flow → Loop → Option ℕ → Type 0
IsFound code entries flow l (Some bound) = IsCounted code entries flow l bound
IsFound code entries flow l None = (bound : ℕ) → IsCounted code entries flow l bound → ⊥

-- those of several loops of an image and a system with their graph
abbrev pub AreFound : ImageData → System → Flow → List Loop → List (Option ℕ) → Type 0
AreFound image system flow loops found = AllZip (IsFound (insn_at image) (entries_of image system) flow) loops found
