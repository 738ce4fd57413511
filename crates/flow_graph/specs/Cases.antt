-- Worked cases of nodes, edges and faults.
use Rattle.std.specs.Prelude.{◌≡◌, ℕ, ◌==◌, is_some, List, [], ◌∷◌, pos, negsuc, Option, Some, None, if◌then◌else◌, refl}
use Rattle.rv32_decode.specs.declared.instruction.Insn.{Insn}
use Rattle.rv32_decode.specs.declared.instruction.Insn.TheVariants.{Jal, Jalr, Branch, Imm, Ecall}
use Rattle.rv32_decode.specs.declared.instruction.BranchOp.TheVariants.{Bne}
use Rattle.rv32_decode.specs.declared.instruction.ImmOp.TheVariants.{Addi}
use Rattle.oil_model.specs.declared.system.System.{System}
use Rattle.timing_file.specs.declared.timing.Loop.{Loop}
use Rattle.flow_graph.specs.declared.edge.EdgeKind.TheVariants as kinds
use Rattle.flow_graph.specs.declared.fault.CodeKind.TheVariants.{IntoService, BadService, Recursion, UncoveredBack}
use Rattle.flow_graph.specs.declared.fault.CodeKind.TheVariants as faults
use Rattle.flow_graph.specs.declared.node.Node.{Node}
use Rattle.flow_graph.specs.Graph.{Program, edge_to, edges_of}
use Rattle.flow_graph.specs.Faults.{fault_of}

abbrev node_of : List ℕ → ℕ → Node
node_of sites address = record { context = 0; sites = sites; address = address }

abbrev no_objects : System
no_objects = record { tasks = []; isrs = []; resources = []; alarms = []; counters = []; modes = [] }

abbrev program_with : (ℕ → Option Insn) → ℕ → List Loop → Program
program_with code entry loops = record {
  code = code;
  has_word = λ address. is_some (code address);
  entries = Some entry ∷ [];
  system = no_objects;
  loops = loops;
}

-- ---- A task that ends: li t0, 7, then TerminateTask

abbrev ending : ℕ → Option Insn
ending address =
    if address == 0x100 then Some (Imm Addi 5 0 (pos 7))
    else if address == 0x104 then Some (Imm Addi 10 0 (pos 0))
    else if address == 0x108 then Some (Imm Addi 17 0 (pos 2))
    else if address == 0x10c then Some Ecall
    else None

goes_on_case : edges_of ending (node_of [] 0x100) ≡ edge_to kinds.Straight (node_of [] 0x104) ∷ []
goes_on_case = refl

ends_case : edges_of ending (node_of [] 0x10c) ≡ record { to = None; kind = kinds.Service } ∷ []
ends_case = refl

no_fault_case : fault_of (program_with ending 0x100 []) (node_of [] 0x108) ≡ None
no_fault_case = refl

-- an entry within the service, and a place behind the last word
middle_case : fault_of (program_with ending 0x104 []) (node_of [] 0x104) ≡ None
middle_case = refl

entry_case : fault_of (program_with ending 0x108 []) (node_of [] 0x108) ≡ Some IntoService
entry_case = refl

leaves_case : fault_of (program_with ending 0x100 []) (node_of [] 0x110) ≡ Some faults.Leaves
leaves_case = refl

-- ---- A loop: addi t0, t0, -1, then bne t0, zero, -4

abbrev looping : ℕ → Option Insn
looping address =
    if address == 0x200 then Some (Imm Addi 5 5 (negsuc 0))
    else if address == 0x204 then Some (Branch Bne 5 0 (negsuc 3))
    else None

branch_case
    : edges_of looping (node_of [] 0x204)
    ≡ edge_to kinds.Straight (node_of [] 0x208) ∷ edge_to kinds.Taken (node_of [] 0x200) ∷ []
branch_case = refl

uncovered_case : fault_of (program_with looping 0x200 []) (node_of [] 0x204) ≡ Some UncoveredBack
uncovered_case = refl

covered_case : fault_of (program_with looping 0x200 (record { from = 0x200; to = 0x204; bound = 9 } ∷ [])) (node_of [] 0x204) ≡ None
covered_case = refl

-- ---- A call: jal ra, 8 at 0x300, and jalr zero, 0(ra) at 0x308

abbrev calling : ℕ → Option Insn
calling address = if address == 0x300 then Some (Jal 1 (pos 8)) else if address == 0x308 then Some (Jalr 0 1 (pos 0)) else None

call_case : edges_of calling (node_of (0x50 ∷ []) 0x300) ≡ edge_to kinds.Call (node_of (0x50 ∷ 0x300 ∷ []) 0x308) ∷ []
call_case = refl

-- the return goes behind its own call alone
return_case : edges_of calling (node_of (0x50 ∷ 0x300 ∷ []) 0x308) ≡ edge_to kinds.Return (node_of (0x50 ∷ []) 0x304) ∷ []
return_case = refl

recursion_case : fault_of (program_with calling 0x300 []) (node_of (0x300 ∷ []) 0x300) ≡ Some Recursion
recursion_case = refl

returns_case : fault_of (program_with calling 0x308 []) (node_of [] 0x308) ≡ Some faults.Leaves
returns_case = refl
