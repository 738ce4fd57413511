-- The files that commands read: each is one step, which reads the file and says what it holds, or what its fault is.
use Rattle.std.specs.Prelude.{◌≡◌, ℕ, List, Some, Result, Ok, Err}
use Rattle.oil_grammar.specs.declared.fault.OilKind.{OilKind}
use Rattle.oil_grammar.specs.declared.fault.OilFault.TheVariants.{At}
use Rattle.oil_grammar.specs.declared.tree.Tree.{Tree}
use Rattle.oil_grammar.specs.Grammar.{IsTextOf}
use Rattle.oil_grammar.specs.Faults.{IsRefusalOf}
use Rattle.oil_model.specs.declared.fault.ModelKind.{ModelKind}
use Rattle.oil_model.specs.declared.system.System.{System}
use Rattle.oil_model.specs.Meaning.{IsSystemOf, model_fault_of}
use Rattle.command_steps.specs.declared.halt.Refusal.{Refusal}
use Rattle.command_steps.specs.Steps.{Calls, Step, File}
use Rattle.reports.specs.Oil.{oil_refusal, model_refusal}

-- the limits of the files, in bytes
abbrev pub image_limit : ℕ
image_limit = 16777216

abbrev pub states_limit : ℕ
states_limit = 67108864

abbrev pub oil_limit : ℕ
oil_limit = 1048576

-- ---- an OIL file, and the system that its tree stands for

abbrev pub HasTree : List ℕ → Result Tree Refusal → Type 0
HasTree bytes (Ok tree) = IsTextOf tree bytes
HasTree bytes (Err refusal) = (line : ℕ) × (kind : OilKind) × IsRefusalOf bytes (At line kind) × (refusal ≡ oil_refusal line kind)

abbrev pub OilTree : {F : Type 0} → Calls F → List ℕ → Step F Tree
OilTree calls name = File calls name oil_limit HasTree

abbrev pub HasSystem : Tree → Result System Refusal → Type 0
HasSystem tree (Ok system) = IsSystemOf tree system
HasSystem tree (Err refusal) = (object : ℕ) × (kind : ModelKind) × (model_fault_of tree ≡ Some (object, kind)) × (refusal ≡ model_refusal object kind)
