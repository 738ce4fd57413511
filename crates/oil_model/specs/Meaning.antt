-- The first fault of a tree, and the system that a tree without a fault stands for.
use Rattle.std.specs.Prelude.{◌≡◌, ℕ, ◌&&◌, false, List, [], ◌∷◌, ◌++◌, length, map, Option, Some, None, codes, if◌then◌else◌}
use Rattle.std.specs.List.{list_any}
use Rattle.oil_grammar.specs.declared.tree.Attribute.{Attribute}
use Rattle.oil_grammar.specs.declared.tree.Object.{Object}
use Rattle.oil_grammar.specs.declared.tree.Tree.{Tree}
use Rattle.oil_model.specs.declared.fault.ModelKind.{ModelKind}
use Rattle.oil_model.specs.declared.fault.ModelKind.TheVariants.{Missing}
use Rattle.oil_model.specs.declared.system.Task.{Task}
use Rattle.oil_model.specs.declared.system.Isr.{Isr}
use Rattle.oil_model.specs.declared.system.Resource.{Resource}
use Rattle.oil_model.specs.declared.system.Alarm.{Alarm}
use Rattle.oil_model.specs.declared.system.System.{System}
use Rattle.oil_model.specs.System.{scheduler}
use Rattle.oil_model.specs.Attributes.{first_value, block, is_true}
use Rattle.oil_model.specs.declared.reference.Target.TheVariants as target
use Rattle.oil_model.specs.declared.reference.Target.TheVariants.{Counter, Mode, Shared}
use Rattle.oil_model.specs.References.{is_kind, of_kind, number_or_zero, priority_of, top_priority, ceiling_of, is_internal, internal_of, is_non_preemptable, id_or_zero, ids_of}
use Rattle.oil_model.specs.Rules.{object_fault, greatest_time}

-- ---- the first fault

-- a mode and a task have to stand; where one doesn't, the fault is behind the last object
abbrev pub end_fault : List Object → Option (ℕ × ModelKind)
end_fault objects =
    if list_any (is_kind (codes "APPMODE")) objects && list_any (is_kind (codes "TASK")) objects then None
    else Some (length objects, Missing)

abbrev pub or_later : ℕ → Option ModelKind → Option (ℕ × ModelKind) → Option (ℕ × ModelKind)
or_later place (Some kind) later = Some (place, kind)
or_later place None later = later

-- the first fault from an object on, behind the earlier ones
unfoldable pub fault_from : List Object → List Object → List Object → Option (ℕ × ModelKind)
fault_from objects earlier [] = end_fault objects
fault_from objects earlier (o ∷ rest) = or_later (length earlier) (object_fault objects earlier o) (fault_from objects (earlier ++ o ∷ []) rest)

-- the first object that has a fault, and its least kind
abbrev pub model_fault_of : Tree → Option (ℕ × ModelKind)
model_fault_of tree = fault_from tree.objects [] tree.objects

-- ---- the system

abbrev pub inner_ceiling : List Object → Option (List ℕ) → Option ℕ
inner_ceiling objects None = None
inner_ceiling objects (Some name) = Some (ceiling_of objects name)

abbrev pub inner_of : List Object → List Attribute → Option ℕ
inner_of objects own =
    if is_non_preemptable own then Some (top_priority objects)
    else inner_ceiling objects (internal_of objects own)

-- the block of AUTOSTART = TRUE, which is empty where the object isn't started
abbrev pub start_block : List Attribute → List Attribute
start_block own = if is_true (first_value 1 (codes "AUTOSTART") own) then block (codes "AUTOSTART") own else []

abbrev pub start_modes : List Object → List Attribute → List ℕ
start_modes objects own = ids_of objects Mode 2 (codes "APPMODE") (start_block own)

abbrev pub task_of : List Object → Object → Task
task_of objects o = record {
  name = o.name;
  priority = priority_of o;
  resources = ids_of objects Shared 1 (codes "RESOURCE") o.attributes;
  modes = start_modes objects o.attributes;
  inner = inner_of objects o.attributes;
}

abbrev pub isr_of : List Object → Object → Isr
isr_of objects o = record { name = o.name }

abbrev pub resource_of : List Object → Object → Resource
resource_of objects o = record { name = o.name; ceiling = ceiling_of objects o.name; internal = is_internal o }

abbrev pub scheduler_resource : ℕ → Resource
scheduler_resource ceiling = record { name = scheduler; ceiling = ceiling; internal = false }

abbrev pub counter_of : List Object → List Attribute → ℕ
counter_of objects own = id_or_zero objects Counter (first_value 1 (codes "COUNTER") own)

-- the task of ACTIVATETASK
abbrev pub activated_of : List Object → List Attribute → ℕ
activated_of objects own = id_or_zero objects target.Task (first_value 2 (codes "TASK") (block (codes "ACTION") own))

abbrev pub cycle_of : List Attribute → ℕ
cycle_of started = number_or_zero greatest_time (first_value 2 (codes "CYCLETIME") started)

abbrev pub alarm_of : List Object → Object → Alarm
alarm_of objects o = record {
  name = o.name;
  counter = counter_of objects o.attributes;
  task = activated_of objects o.attributes;
  cycle = cycle_of (start_block o.attributes);
  modes = start_modes objects o.attributes;
}

abbrev pub name_of : List Object → Object → List ℕ
name_of objects o = o.name

-- what is made of each listed object of a kind; the names in it stand for the objects
abbrev pub made_of : {A : Type 0} → (List Object → Object → A) → List ℕ → List Object → List Object → List A
made_of make kind objects listed = map (make objects) (of_kind kind listed)

abbrev pub resources_of : List Object → List Resource
resources_of objects = made_of resource_of (codes "RESOURCE") objects objects ++ scheduler_resource (top_priority objects) ∷ []

abbrev pub objects_system : List Object → System
objects_system objects = record {
  tasks = made_of task_of (codes "TASK") objects objects;
  isrs = made_of isr_of (codes "ISR") objects objects;
  resources = resources_of objects;
  alarms = made_of alarm_of (codes "ALARM") objects objects;
  counters = made_of name_of (codes "COUNTER") objects objects;
  modes = made_of name_of (codes "APPMODE") objects objects;
}

abbrev pub system_of : Tree → System
system_of tree = objects_system tree.objects

-- the tree stands for the system
pub record IsSystemOf (tree : Tree) (system : System) : Type 0 where
  pub sound : model_fault_of tree ≡ None
  pub same : system ≡ system_of tree
