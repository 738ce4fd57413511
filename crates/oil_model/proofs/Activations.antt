-- An alarm without a fault names a counter and a task.
use Rattle.std.proofs.Common.{◌≡◌, ℕ, ◌<◌, Bool, true, false, cond, List, [], ◌∷◌, length, Option, Some, None, refl, ap, subst}
use Rattle.std.specs.Prelude.{not, codes, bytes_eq, unwrap_or, is_some, ◌||◌, ◌==◌, nat_lt, filter, map, count_by}
use Rattle.std.proofs.lemmas.List.Sums.{length-filter}
use Rattle.oil_grammar.specs.declared.tree.Attribute.{Attribute}
use Rattle.oil_grammar.specs.declared.tree.Object.{Object}
use Rattle.oil_grammar.specs.declared.tree.Value.{Value}
use Rattle.oil_grammar.specs.declared.tree.Value.TheVariants as value
use Rattle.oil_model.specs.declared.fault.ModelKind.{ModelKind}
use Rattle.oil_model.specs.declared.fault.ModelKind.TheVariants.{Twice, Missing, UnknownName, BadValue, Unsupported}
use Rattle.oil_model.specs.declared.reference.Target.{Target}
use Rattle.oil_model.specs.declared.reference.Target.TheVariants.{Task, Counter}
use Rattle.oil_model.specs.declared.rule.Form.{Form}
use Rattle.oil_model.specs.declared.rule.Form.TheVariants.{Named, Action}
use Rattle.oil_model.specs.declared.rule.Site.{Site}
use Rattle.oil_model.specs.declared.rule.Site.TheVariants.{Own, Activating}
use Rattle.oil_model.specs.declared.rule.Times.TheVariants.{Once}
use Rattle.oil_model.specs.Attributes.{is_at, values_of, first_value, block, is_value}
use Rattle.oil_model.specs.References.{is_kind, of_kind, target_id, value_id, id_or_zero}
use Rattle.oil_model.specs.Rules.{row, least_of, fault_if, choice_fault, value_fault, values_fault, times_fault, level_of, attribute_fault, rule_fault, rules_of, rules_fault, rules_or_untaken, attributes_fault, alarm_rules}
use Rattle.oil_model.specs.Meaning.{counter_of, activated_of}
use Rattle.oil_model.proofs.Apart.{same_names}
use Rattle.oil_model.proofs.IdRanges.{id_of-below}
use Rattle.oil_model.proofs.Kept.{least_none}

some_none : {P : Type 0} (kind : ModelKind) → Some kind ≡ None → P
some_none kind is = absurd cc

-- ---- an attribute that stands once

-- it stands, and its first value keeps the rule
record Stands (rule : Value → Option ModelKind) (level : ℕ) (name : List ℕ) (attributes : List Attribute) : Type 0 where
  value : Value
  first : first_value level name attributes ≡ Some value
  sound : rule value ≡ None

stands : (rule : Value → Option ModelKind) (level : ℕ) (name : List ℕ) (attributes : List Attribute) → (length (filter (is_at level name) attributes) == 0) ≡ false
    → least_of (map rule (values_of level name attributes)) ≡ None → Stands rule level name attributes
stands rule level name [] some sound = absurd cc
stands rule level name (a ∷ attributes) some sound = at (is_at level name a) refl (stands rule level name attributes)
  where
    at : (test : Bool) → is_at level name a ≡ test
        → ((length (filter (is_at level name) attributes) == 0) ≡ false → least_of (map rule (values_of level name attributes)) ≡ None → Stands rule level name attributes)
        → Stands rule level name (a ∷ attributes)
    at true is later = record { value = a.value; first = rw is refl; sound = (least_none (rule a.value) _ (rw is at sound)).0 }
    at false is later =
        let stand = later (rw is at some) (rw is at sound) in
        record { value = stand.value; first = rw is stand.first; sound = stand.sound }

not_missing : (n : ℕ) → times_fault Once n ≡ None → (n == 0) ≡ false
not_missing n is = at (n == 0) is
  where
    at : (none : Bool) → cond none (Some Missing) (fault_if (nat_lt 1 n) Twice) ≡ None → none ≡ false
    at true is = some_none Missing is
    at false is = refl

once : (objects : List Object) (site : Site) (name : List ℕ) (form : Form) (attributes : List Attribute) → attribute_fault objects (row site name Once form) (Some attributes) ≡ None
    → Stands (value_fault objects form) (level_of site) name attributes
once objects site name form attributes is =
    let test = is_at (level_of site) name in
    let parts = least_none (times_fault Once (count_by test attributes)) (values_fault objects form (values_of (level_of site) name attributes)) is in
    stands (value_fault objects form) (level_of site) name attributes (rw (length-filter test attributes) (not_missing (count_by test attributes) parts.0)) parts.1

-- ---- values

found_below : (n : ℕ) (found : Option ℕ) → ((id : ℕ) → found ≡ Some id → id < n) → fault_if (not (is_some found)) UnknownName ≡ None → unwrap_or found 0 < n
found_below n None each is = some_none UnknownName is
found_below n (Some id) each is = each id refl

named_below : (objects : List Object) (target : Target) (n : ℕ) → ((name : List ℕ) (id : ℕ) → target_id objects target name ≡ Some id → id < n)
    → (v : Value) → value_fault objects (Named target) v ≡ None → unwrap_or (value_id objects target v) 0 < n
named_below objects target n below (value.Name name) is = found_below n (target_id objects target name) (below name) is
named_below objects target n below (value.Number negative size) is = some_none BadValue is
named_below objects target n below (value.Text text) is = some_none BadValue is
named_below objects target n below (value.Bool b) is = some_none BadValue is
named_below objects target n below value.Auto is = some_none Unsupported is

first_below : (objects : List Object) (target : Target) (n : ℕ) → ((name : List ℕ) (id : ℕ) → target_id objects target name ≡ Some id → id < n)
    → (level : ℕ) (name : List ℕ) (attributes : List Attribute) → Stands (value_fault objects (Named target)) level name attributes → id_or_zero objects target (first_value level name attributes) < n
first_below objects target n below level name attributes is = rw is.first (named_below objects target n below is.value is.sound)

taken_choice : (taken untaken : Bool) → choice_fault taken untaken ≡ None → taken ≡ true
taken_choice true untaken is = refl
taken_choice false true is = some_none Unsupported is
taken_choice false false is = some_none BadValue is

activates : (objects : List Object) (v : Value) → value_fault objects Action v ≡ None → is_value (codes "ACTIVATETASK") (Some v) ≡ true
activates objects (value.Name name) is =
    taken_choice (bytes_eq name (codes "ACTIVATETASK")) (bytes_eq name (codes "SETEVENT") || bytes_eq name (codes "ALARMCALLBACK")) is
activates objects (value.Number negative size) is = some_none BadValue is
activates objects (value.Text text) is = some_none BadValue is
activates objects (value.Bool b) is = some_none BadValue is
activates objects value.Auto is = some_none Unsupported is

-- ---- alarms

pub record NamesBoth (objects : List Object) (own : List Attribute) : Type 0 where
  pub counter : counter_of objects own < length (of_kind (codes "COUNTER") objects)
  pub task : activated_of objects own < length (of_kind (codes "TASK") objects)

activated : (objects : List Object) (own : List Attribute) → Stands (value_fault objects Action) 1 (codes "ACTION") own → rule_fault objects own (row Activating (codes "TASK") Once (Named Task)) ≡ None
    → activated_of objects own < length (of_kind (codes "TASK") objects)
activated objects own action task =
    let within = rw (action.first, activates objects action.value action.sound) at task in
    first_below objects Task (length (of_kind (codes "TASK") objects)) (id_of-below (codes "TASK") objects) 2 (codes "TASK") (block (codes "ACTION") own)
    (once objects Activating (codes "TASK") (Named Task) (block (codes "ACTION") own) within)

both_named : (objects : List Object) (own : List Attribute) → rules_fault objects own alarm_rules ≡ None → NamesBoth objects own
unfolding alarm_rules
both_named objects own sound =
    let counter = least_none (rule_fault objects own (row Own (codes "COUNTER") Once (Named Counter))) _ sound in
    let action = least_none (rule_fault objects own (row Own (codes "ACTION") Once Action)) _ counter.1 in
    let task = least_none (rule_fault objects own (row Activating (codes "TASK") Once (Named Task))) _ action.1 in
    record {
      counter = first_below objects Counter (length (of_kind (codes "COUNTER") objects)) (id_of-below (codes "COUNTER") objects) 1 (codes "COUNTER") own
          (once objects Own (codes "COUNTER") (Named Counter) own counter.0);
      task = activated objects own (once objects Own (codes "ACTION") Action own action.0) task.0;
    }

pub alarm_names : (objects : List Object) (o : Object) → is_kind (codes "ALARM") o ≡ true → attributes_fault objects o ≡ None → NamesBoth objects o.attributes
unfolding attributes_fault
alarm_names objects o is sound =
    both_named objects o.attributes
    (subst (λ rules. rules_or_untaken objects o.attributes rules ≡ None) (ap rules_of (same_names o.kind (codes "ALARM") is)) sound)
