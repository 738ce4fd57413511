-- What `model` answers to a tree. Want of memory says nothing.
use Rattle.std.specs.Prelude.{◌≡◌, ℕ, List, Option, Some, Result, Ok, Err, bytes_eq, position}
use Rattle.oil_grammar.specs.declared.tree.Tree.{Tree}
use Rattle.oil_model.specs.declared.fault.ModelFault.{ModelFault}
use Rattle.oil_model.specs.declared.fault.ModelFault.TheVariants.{At, Memory}
use Rattle.oil_model.specs.declared.system.Task.{Task}
use Rattle.oil_model.specs.declared.system.System.{System}
use Rattle.oil_model.specs.Meaning.{IsSystemOf, model_fault_of}

abbrev pub AnswersModel : Tree → Result System ModelFault → Type 0
AnswersModel tree (Ok system) = IsSystemOf tree system
AnswersModel tree (Err (At object kind)) = model_fault_of tree ≡ Some (object, kind)
AnswersModel tree (Err Memory) = Unit {0}

abbrev pub task_in : List Task → List ℕ → Option ℕ
task_in tasks name = position (λ t. bytes_eq t.name name) tasks

-- the id of the task of this name
abbrev pub task_named : System → List ℕ → Option ℕ
task_named system name = task_in system.tasks name
