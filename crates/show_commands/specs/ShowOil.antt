-- `show oil OIL`: the file is read, and where its tree stands for a system, the tree's layout is written.
use Rattle.std.specs.Prelude.{◌≡◌, ℕ, List, Result, Ok, Err}
use Rattle.oil_grammar.specs.declared.tree.Tree.{Tree}
use Rattle.oil_grammar.specs.Layout.{layout_of}
use Rattle.oil_model.specs.declared.system.System.{System}
use Rattle.command_steps.specs.declared.halt.Refusal.{Refusal}
use Rattle.command_steps.specs.Steps.{Calls, Step, Judged, Then}
use Rattle.inputs.specs.Inputs.{OilTree, HasSystem}

abbrev pub HasLayout : Tree → Result (List ℕ) Refusal → Type 0
HasLayout tree (Ok text) = (system : System) × HasSystem tree (Ok system) × (text ≡ layout_of tree)
HasLayout tree (Err refusal) = HasSystem tree (Err refusal)

abbrev pub ShowOil : {F : Type 0} → Calls F → List ℕ → Step F (List ℕ)
ShowOil calls oil = Then (OilTree calls oil) (λ tree. Judged (HasLayout tree))
