-- Which objects names stand for.
use Rattle.std.specs.Prelude.{ℕ, ◌&&◌, ◌==◌, not, Bool, false, List, [], ◌∷◌, ◌++◌, Option, Some, None, codes, bytes_eq, position, filter, filter_map, find, fold, map, count_by, max, unwrap_or, option_and_then, nat_le, nat_eq, ◌^◌, ◌-◌, ◌||◌, if◌then◌else◌}
use Rattle.std.specs.List.{list_any}
use Rattle.std.specs.Option.{option_or}
use Rattle.oil_grammar.specs.declared.tree.Attribute.{Attribute}
use Rattle.oil_grammar.specs.declared.tree.Object.{Object}
use Rattle.oil_grammar.specs.declared.tree.Value.{Value}
use Rattle.oil_grammar.specs.declared.tree.Value.TheVariants as value
use Rattle.oil_model.specs.declared.reference.Target.{Target}
use Rattle.oil_model.specs.declared.reference.Target.TheVariants.{Task, Counter, Mode, Resource, Shared}
use Rattle.oil_model.specs.System.{scheduler}
use Rattle.oil_model.specs.Attributes.{is_at, first_value, is_value, word_of}

abbrev pub is_kind : List ℕ → Object → Bool
is_kind kind o = bytes_eq o.kind kind

abbrev pub is_named : List ℕ → Object → Bool
is_named name o = bytes_eq o.name name

abbrev pub of_kind : List ℕ → List Object → List Object
of_kind kind objects = filter (is_kind kind) objects

-- Objects of a kind are numbered from 0 in the order of the file.
abbrev pub id_of : List ℕ → List Object → List ℕ → Option ℕ
id_of kind objects name = position (is_named name) (of_kind kind objects)

-- RES_SCHEDULER follows the declared resources
abbrev pub resource_id : List Object → List ℕ → Option ℕ
resource_id objects name =
    if bytes_eq name scheduler then Some (count_by (is_kind (codes "RESOURCE")) objects)
    else id_of (codes "RESOURCE") objects name

-- Numbers.

-- the size of a number from 0 to the most; `-0` is 0
abbrev pub size_in : ℕ → Bool → ℕ → Option ℕ
size_in most negative size = if (not negative || (size == 0)) && nat_le size most then Some size else None

abbrev pub number_in : ℕ → Value → Option ℕ
number_in most (value.Number negative size) = size_in most negative size
number_in most _ = None

abbrev pub number_or_zero : ℕ → Option Value → ℕ
number_or_zero most v = unwrap_or (option_and_then (number_in most) v) 0

abbrev pub greatest_priority : ℕ
greatest_priority = 2 ^ 32 - 1

-- the priority of a task; 0 where it has none, which is a fault
abbrev pub priority_of : Object → ℕ
priority_of o = number_or_zero greatest_priority (first_value 1 (codes "PRIORITY") o.attributes)

-- the greatest priority of these tasks, 0 where there is none
abbrev pub greatest : List Object → ℕ
greatest tasks = fold max 0 (map priority_of tasks)

-- the greatest priority of all tasks
abbrev pub top_priority : List Object → ℕ
top_priority objects = greatest (of_kind (codes "TASK") objects)

-- Resources.

-- whether the attribute names the resource
abbrev pub names_resource : List ℕ → Attribute → Bool
names_resource name a = is_at 1 (codes "RESOURCE") a && is_value name (Some a.value)

abbrev pub takes_resource : List ℕ → Object → Bool
takes_resource name o = is_kind (codes "TASK") o && list_any (names_resource name) o.attributes

-- the greatest priority of the tasks that name the resource
abbrev pub ceiling_of : List Object → List ℕ → ℕ
ceiling_of objects name = greatest (filter (takes_resource name) objects)

abbrev pub is_internal : Object → Bool
is_internal o = is_value (codes "INTERNAL") (first_value 1 (codes "RESOURCEPROPERTY") o.attributes)

abbrev pub is_resource : List ℕ → Object → Bool
is_resource name o = is_kind (codes "RESOURCE") o && is_named name o

abbrev pub is_internal_object : Option Object → Bool
is_internal_object None = false
is_internal_object (Some o) = is_internal o

-- whether an internal resource has the name
abbrev pub names_internal : List Object → List ℕ → Bool
names_internal objects name = not (bytes_eq name scheduler) && is_internal_object (find (is_resource name) objects)

abbrev pub internal_in : List Object → Option (List ℕ) → Option (List ℕ)
internal_in objects None = None
internal_in objects (Some name) = if names_internal objects name then Some name else None

-- the internal resource that an attribute of a task names
abbrev pub internal_at : List Object → Attribute → Option (List ℕ)
internal_at objects a = if is_at 1 (codes "RESOURCE") a then internal_in objects (word_of a.value) else None

-- the first one that a task names
unfoldable pub internal_of : List Object → List Attribute → Option (List ℕ)
internal_of objects [] = None
internal_of objects (a ∷ attributes) = option_or (internal_at objects a) (internal_of objects attributes)

abbrev pub is_other : List ℕ → Option (List ℕ) → Bool
is_other name None = false
is_other name (Some other) = not (bytes_eq other name)

abbrev pub has_other : List Object → List Attribute → Option (List ℕ) → Bool
has_other objects attributes None = false
has_other objects attributes (Some name) = list_any (λ a. is_other name (internal_at objects a)) attributes

-- whether a task names two different ones
abbrev pub has_two_internal : List Object → List Attribute → Bool
has_two_internal objects attributes = has_other objects attributes (internal_of objects attributes)

-- a task that can't be preempted
abbrev pub is_non_preemptable : List Attribute → Bool
is_non_preemptable attributes = is_value (codes "NON") (first_value 1 (codes "SCHEDULE") attributes)

-- Ids.

-- the id that a name stands for
abbrev pub target_id : List Object → Target → List ℕ → Option ℕ
target_id objects Task name = id_of (codes "TASK") objects name
target_id objects Counter name = id_of (codes "COUNTER") objects name
target_id objects Mode name = id_of (codes "APPMODE") objects name
target_id objects Resource name = resource_id objects name
target_id objects Shared name = if names_internal objects name then None else resource_id objects name

-- the id that a value names
abbrev pub value_id : List Object → Target → Value → Option ℕ
value_id objects target v = option_and_then (target_id objects target) (word_of v)

abbrev pub id_or_zero : List Object → Target → Option Value → ℕ
id_or_zero objects target v = unwrap_or (option_and_then (value_id objects target) v) 0

abbrev pub add_once : List ℕ → ℕ → List ℕ
add_once ids id = if list_any (nat_eq id) ids then ids else ids ++ id ∷ []

abbrev pub id_at : List Object → Target → ℕ → List ℕ → Attribute → Option ℕ
id_at objects target level name a = if is_at level name a then value_id objects target a.value else None

-- the ids that the attributes of this level and name have as their values, each once, in the order of the attributes
abbrev pub ids_of : List Object → Target → ℕ → List ℕ → List Attribute → List ℕ
ids_of objects target level name attributes = fold add_once [] (filter_map (id_at objects target level name) attributes)
