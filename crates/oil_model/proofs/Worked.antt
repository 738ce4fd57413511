-- Small trees, worked.
use Rattle.std.proofs.Common.{◌≡◌, ℕ, List, [], ◌∷◌, true, false, Some, None, refl}
use Rattle.std.specs.Prelude.{codes}
use Rattle.oil_grammar.specs.declared.tree.Attribute.{Attribute}
use Rattle.oil_grammar.specs.declared.tree.Object.{Object}
use Rattle.oil_grammar.specs.declared.tree.Tree.{Tree}
use Rattle.oil_grammar.specs.declared.tree.Value.{Value}
use Rattle.oil_grammar.specs.declared.tree.Value.TheVariants as value
use Rattle.oil_model.specs.declared.fault.ModelKind.TheVariants.{Missing, SamePriority}
use Rattle.oil_model.specs.Attributes.{block}
use Rattle.oil_model.specs.References.{internal_of}
use Rattle.oil_model.specs.Rules.{task_rules, resource_rules, attributes_fault, fault_of}
use Rattle.oil_model.specs.Meaning.{fault_from, model_fault_of, system_of, scheduler_resource}

abbrev attribute : ℕ → List ℕ → Value → Attribute
attribute level name v = record { level = level; name = name; value = v; braces = false }

abbrev mode : Object
mode = record { kind = codes "APPMODE"; name = codes "M"; attributes = [] }

abbrev resource : Object
resource = record { kind = codes "RESOURCE"; name = codes "R"; attributes = attribute 1 (codes "RESOURCEPROPERTY") (value.Name (codes "INTERNAL")) ∷ [] }

-- a task of the priority that is started in M and names R
abbrev task : List ℕ → ℕ → Object
task name priority = record {
  kind = codes "TASK";
  name = name;
  attributes =
      attribute 1 (codes "AUTOSTART") (value.Bool true)
      ∷ (attribute 2 (codes "APPMODE") (value.Name (codes "M"))
      ∷ (attribute 1 (codes "PRIORITY") (value.Number false priority)
      ∷ (attribute 1 (codes "RESOURCE") (value.Name (codes "R"))
      ∷ [])));
}

abbrev tree : List Object → Tree
tree objects = record { version = codes "2.5"; cpu = codes "C"; objects = objects }

-- the resource may stand behind the tasks that name it; its ceiling is that of the higher task
two_tasks : model_fault_of (tree (task (codes "A") 3 ∷ (task (codes "B") 5 ∷ (mode ∷ (resource ∷ []))))) ≡ None
unfolding fault_from fault_of attributes_fault task_rules resource_rules block internal_of
two_tasks = refl

two_tasks_system : system_of (tree (task (codes "A") 3 ∷ (task (codes "B") 5 ∷ (mode ∷ (resource ∷ []))))) ≡ record {
  tasks = record { name = codes "A"; priority = 3; resources = []; modes = 0 ∷ []; inner = Some 5 }
      ∷ (record { name = codes "B"; priority = 5; resources = []; modes = 0 ∷ []; inner = Some 5 }
      ∷ []);
  isrs = [];
  resources = record { name = codes "R"; ceiling = 5; internal = true } ∷ (scheduler_resource 5 ∷ []);
  alarms = [];
  counters = [];
  modes = codes "M" ∷ [];
}
unfolding block internal_of
two_tasks_system = refl

-- the second task has the first one's priority
same_priority : model_fault_of (tree (mode ∷ (resource ∷ (task (codes "A") 3 ∷ (task (codes "B") 3 ∷ []))))) ≡ Some (3, SamePriority)
unfolding fault_from fault_of attributes_fault task_rules resource_rules block internal_of
same_priority = refl

-- no task stands: the fault is behind the last object
no_task : model_fault_of (tree (mode ∷ (resource ∷ []))) ≡ Some (2, Missing)
unfolding fault_from fault_of attributes_fault task_rules resource_rules block internal_of
no_task = refl
