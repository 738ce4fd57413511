-- The rules of objects: one table of the attributes, a row each, and what a row means.
use Rattle.std.specs.Prelude.{ℕ, ◌-◌, ◌^◌, ◌==◌, ◌||◌, ◌&&◌, nat_le, nat_lt, not, Bool, false, List, [], ◌∷◌, map, Option, Some, None, is_some, codes, bytes_eq, count_by, if◌then◌else◌}
use Rattle.std.specs.List.{list_any}
use Rattle.oil_grammar.specs.declared.tree.Attribute.{Attribute}
use Rattle.oil_grammar.specs.declared.tree.Object.{Object}
use Rattle.oil_grammar.specs.declared.tree.Value.{Value}
use Rattle.oil_grammar.specs.declared.tree.Value.TheVariants as value
use Rattle.oil_model.specs.declared.fault.ModelKind.{ModelKind}
use Rattle.oil_model.specs.declared.fault.ModelKind.TheVariants.{Twice, Missing, UnknownName, BadValue, Unsupported, SamePriority, Limit}
use Rattle.oil_model.specs.declared.reference.Target.TheVariants as target
use Rattle.oil_model.specs.declared.rule.Site.{Site}
use Rattle.oil_model.specs.declared.rule.Site.TheVariants.{Own, Started, Activating}
use Rattle.oil_model.specs.declared.rule.Times.{Times}
use Rattle.oil_model.specs.declared.rule.Times.TheVariants.{Once, AtMostOnce, AtLeastOnce, AnyTimes}
use Rattle.oil_model.specs.declared.rule.Form.{Form}
use Rattle.oil_model.specs.declared.rule.Form.TheVariants.{UpTo, AnyNumber, One, Two, Truth, Schedule, Property, Action, Named, Untaken}
use Rattle.oil_model.specs.System.{scheduler}
use Rattle.oil_model.specs.Attributes.{is_at, values_of, first_value, block, is_true, is_value}
use Rattle.oil_model.specs.References.{is_kind, is_named, target_id, size_in, greatest_priority, priority_of, internal_of, has_two_internal, is_non_preemptable}

-- ---- the table

-- An attribute at a site stands so often, each time with a value of the form.
pub record Rule : Type 0 where
  pub site : Site
  pub attribute : List ℕ
  pub times : Times
  pub form : Form

abbrev pub row : Site → List ℕ → Times → Form → Rule
row site attribute times form = record { site = site; attribute = attribute; times = times; form = form }

abbrev pub greatest_time : ℕ
greatest_time = 2 ^ 31 - 1

unfoldable pub task_rules : List Rule
task_rules =
    row Own (codes "PRIORITY") Once (UpTo greatest_priority)
    ∷ row Own (codes "SCHEDULE") AtMostOnce Schedule
    ∷ row Own (codes "ACTIVATION") AtMostOnce One
    ∷ row Own (codes "AUTOSTART") AtMostOnce Truth
    ∷ row Started (codes "APPMODE") AtLeastOnce (Named target.Mode)
    ∷ row Own (codes "RESOURCE") AnyTimes (Named target.Resource)
    ∷ row Own (codes "EVENT") AnyTimes Untaken
    ∷ row Own (codes "MESSAGE") AnyTimes Untaken
    ∷ []

unfoldable pub isr_rules : List Rule
isr_rules =
    row Own (codes "CATEGORY") Once Two
    ∷ row Own (codes "RESOURCE") AnyTimes Untaken
    ∷ row Own (codes "EVENT") AnyTimes Untaken
    ∷ row Own (codes "MESSAGE") AnyTimes Untaken
    ∷ []

unfoldable pub resource_rules : List Rule
resource_rules = row Own (codes "RESOURCEPROPERTY") Once Property ∷ []

unfoldable pub alarm_rules : List Rule
alarm_rules =
    row Own (codes "COUNTER") Once (Named target.Counter)
    ∷ row Own (codes "ACTION") Once Action
    ∷ row Activating (codes "TASK") Once (Named target.Task)
    ∷ row Own (codes "AUTOSTART") AtMostOnce Truth
    ∷ row Started (codes "CYCLETIME") Once (UpTo greatest_time)
    ∷ row Started (codes "ALARMTIME") AtMostOnce (UpTo greatest_time)
    ∷ row Started (codes "APPMODE") AtLeastOnce (Named target.Mode)
    ∷ []

unfoldable pub counter_rules : List Rule
counter_rules =
    row Own (codes "MAXALLOWEDVALUE") AtMostOnce AnyNumber
    ∷ row Own (codes "TICKSPERBASE") AtMostOnce AnyNumber
    ∷ row Own (codes "MINCYCLE") AtMostOnce AnyNumber
    ∷ []

-- the rules of the objects of a kind; OS and APPMODE have none, and other kinds aren't taken
abbrev pub rules_of : List ℕ → Option (List Rule)
rules_of kind =
    if bytes_eq kind (codes "TASK") then Some task_rules
    else (if bytes_eq kind (codes "ISR") then Some isr_rules
    else (if bytes_eq kind (codes "RESOURCE") then Some resource_rules
    else (if bytes_eq kind (codes "ALARM") then Some alarm_rules
    else (if bytes_eq kind (codes "COUNTER") then Some counter_rules
    else (if bytes_eq kind (codes "OS") || bytes_eq kind (codes "APPMODE") then Some []
    else None)))))

-- ---- the least of the kinds of fault that hold

abbrev pub rank_of : ModelKind → ℕ
rank_of Twice = 1
rank_of Missing = 2
rank_of UnknownName = 3
rank_of BadValue = 4
rank_of Unsupported = 5
rank_of SamePriority = 6
rank_of Limit = 7

abbrev pub least : Option ModelKind → Option ModelKind → Option ModelKind
least None b = b
least (Some a) None = Some a
least (Some a) (Some b) = if nat_le (rank_of a) (rank_of b) then Some a else Some b

abbrev pub least_of : List (Option ModelKind) → Option ModelKind
least_of [] = None
least_of (fault ∷ faults) = least fault (least_of faults)

abbrev pub fault_if : Bool → ModelKind → Option ModelKind
fault_if broken kind = if broken then Some kind else None

-- ---- what a row means

-- a value that the form doesn't have
abbrev pub other_fault : Form → Option ModelKind
other_fault Untaken = Some Unsupported
other_fault _ = Some BadValue

-- a value that is taken, or one that OSEK has and that isn't taken here
abbrev pub choice_fault : Bool → Bool → Option ModelKind
choice_fault taken untaken = if taken then None else (if untaken then Some Unsupported else Some BadValue)

abbrev pub number_fault : Form → Bool → ℕ → Option ModelKind
number_fault (UpTo most) negative size = fault_if (not (is_some (size_in most negative size))) BadValue
number_fault AnyNumber negative size = None
number_fault One negative size = fault_if (negative || not (size == 1)) Unsupported
number_fault Two negative size = choice_fault (not negative && (size == 2)) (not negative && (size == 1))
number_fault form negative size = other_fault form

abbrev pub name_fault : List Object → Form → List ℕ → Option ModelKind
name_fault objects Schedule name = choice_fault (bytes_eq name (codes "FULL") || bytes_eq name (codes "NON")) false
name_fault objects Property name =
    choice_fault (bytes_eq name (codes "STANDARD") || bytes_eq name (codes "INTERNAL")) (bytes_eq name (codes "LINKED"))
name_fault objects Action name =
    choice_fault (bytes_eq name (codes "ACTIVATETASK")) (bytes_eq name (codes "SETEVENT") || bytes_eq name (codes "ALARMCALLBACK"))
name_fault objects (Named target) name = fault_if (not (is_some (target_id objects target name))) UnknownName
name_fault objects form name = other_fault form

abbrev pub truth_fault : Form → Option ModelKind
truth_fault Truth = None
truth_fault form = other_fault form

abbrev pub value_fault : List Object → Form → Value → Option ModelKind
value_fault objects form (value.Number negative size) = number_fault form negative size
value_fault objects form (value.Name name) = name_fault objects form name
value_fault objects form (value.Bool b) = truth_fault form
value_fault objects form (value.Text text) = other_fault form
value_fault objects form value.Auto = Some Unsupported

-- an attribute that stands so many times
abbrev pub times_fault : Times → ℕ → Option ModelKind
times_fault Once n = if n == 0 then Some Missing else fault_if (nat_lt 1 n) Twice
times_fault AtMostOnce n = fault_if (nat_lt 1 n) Twice
times_fault AtLeastOnce n = fault_if (n == 0) Missing
times_fault AnyTimes n = None

abbrev pub values_fault : List Object → Form → List Value → Option ModelKind
values_fault objects form values = least_of (map (value_fault objects form) values)

-- the attributes among which those of the site stand, where there are such: the object's own and all others, those
-- of the block of AUTOSTART = TRUE, and those of the block of ACTION = ACTIVATETASK
abbrev pub attributes_at : Site → List Attribute → Option (List Attribute)
attributes_at Own own = Some own
attributes_at Started own =
    if is_true (first_value 1 (codes "AUTOSTART") own) then Some (block (codes "AUTOSTART") own) else None
attributes_at Activating own =
    if is_value (codes "ACTIVATETASK") (first_value 1 (codes "ACTION") own) then Some (block (codes "ACTION") own) else None

-- 1 is the level of an object's own attributes, 2 that of the attributes of their blocks
abbrev pub level_of : Site → ℕ
level_of Own = 1
level_of Started = 2
level_of Activating = 2

abbrev pub attribute_fault : List Object → Rule → Option (List Attribute) → Option ModelKind
attribute_fault objects rule None = None
attribute_fault objects rule (Some attributes) = least
    (times_fault rule.times (count_by (is_at (level_of rule.site) rule.attribute) attributes))
    (values_fault objects rule.form (values_of (level_of rule.site) rule.attribute attributes))

-- what an object with these attributes breaks of the rule
abbrev pub rule_fault : List Object → List Attribute → Rule → Option ModelKind
rule_fault objects own rule = attribute_fault objects rule (attributes_at rule.site own)

abbrev pub rules_fault : List Object → List Attribute → List Rule → Option ModelKind
rules_fault objects own rules = least_of (map (rule_fault objects own) rules)

abbrev pub rules_or_untaken : List Object → List Attribute → Option (List Rule) → Option ModelKind
rules_or_untaken objects own None = Some Unsupported
rules_or_untaken objects own (Some rules) = rules_fault objects own rules

-- what the object's attributes break
unfoldable pub attributes_fault : List Object → Object → Option ModelKind
attributes_fault objects o = rules_or_untaken objects o.attributes (rules_of o.kind)

-- ---- the other rules of an object, among all objects and behind these earlier ones

-- a task has at most one internal resource, and none where it can't be preempted
abbrev pub is_raised_twice : List Object → List Attribute → Bool
is_raised_twice objects own = (is_non_preemptable own && is_some (internal_of objects own)) || has_two_internal objects own

abbrev pub inner_fault : List Object → Object → Option ModelKind
inner_fault objects o = fault_if (is_kind (codes "TASK") o && is_raised_twice objects o.attributes) BadValue

-- the set of names in which those of a kind are: TASK, ISR and ALARM share one, and each other kind has its own
abbrev pub name_set : List ℕ → List ℕ
name_set kind = if bytes_eq kind (codes "ISR") || bytes_eq kind (codes "ALARM") then codes "TASK" else kind

-- whether two objects can't both have their name
abbrev pub clashes : Object → Object → Bool
clashes o other = bytes_eq (name_set o.kind) (name_set other.kind) && bytes_eq o.name other.name

abbrev pub is_scheduler : Object → Bool
is_scheduler o = is_kind (codes "RESOURCE") o && is_named scheduler o

-- whether the name is taken
abbrev pub is_taken : List Object → Object → Bool
is_taken earlier o = list_any (clashes o) earlier

abbrev pub shares_priority : Object → Object → Bool
shares_priority o other = is_kind (codes "TASK") other && (priority_of other == priority_of o)

abbrev pub priority_fault : List Object → Object → Option ModelKind
priority_fault earlier o = fault_if (is_kind (codes "TASK") o && list_any (shares_priority o) earlier) SamePriority

-- whether the object is of the kind, of which so many stand before it
abbrev pub is_past : ℕ → List ℕ → List Object → Object → Bool
is_past limit kind earlier o = is_kind kind o && nat_le limit (count_by (is_kind kind) earlier)

abbrev pub limit_fault : List Object → Object → Option ModelKind
limit_fault earlier o = fault_if (
    is_past 16 (codes "TASK") earlier o
    || (is_past 8 (codes "ISR") earlier o
    || (is_past 16 (codes "ALARM") earlier o
    || (is_past 8 (codes "RESOURCE") earlier o
    || is_past 4 (codes "APPMODE") earlier o)))) Limit

-- the least kind of fault of an object, where its name is taken or isn't
unfoldable pub fault_of : List Object → List Object → Object → Bool → Option ModelKind
fault_of objects earlier o taken = least_of (
    fault_if (is_scheduler o || taken) Twice
    ∷ attributes_fault objects o
    ∷ inner_fault objects o
    ∷ priority_fault earlier o
    ∷ limit_fault earlier o
    ∷ [])

abbrev pub object_fault : List Object → List Object → Object → Option ModelKind
object_fault objects earlier o = fault_of objects earlier o (is_taken earlier o)
