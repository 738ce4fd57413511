-- What each object without a fault keeps true of the objects so far is true of a tree without a fault.
use Rattle.std.proofs.Common.{◌≡◌, ℕ, Bool, true, false, cond, List, [], ◌∷◌, ◌++◌, length, Option, Some, None, refl, append_assoc, append-nil}
use Rattle.std.specs.Prelude.{◌&&◌, ◌||◌, nat_le, codes}
use Rattle.std.specs.List.{list_any}
use Rattle.std.proofs.lemmas.Bool.{or_parts}
use Rattle.oil_grammar.specs.declared.tree.Object.{Object}
use Rattle.oil_model.specs.declared.fault.ModelKind.{ModelKind}
use Rattle.oil_model.specs.declared.fault.ModelKind.TheVariants.{Twice, SamePriority, Limit}
use Rattle.oil_model.specs.References.{is_kind}
use Rattle.oil_model.specs.Rules.{rank_of, least, fault_if, fault_of, object_fault, attributes_fault, inner_fault, priority_fault, limit_fault, is_scheduler, is_taken, shares_priority, is_past}
use Rattle.oil_model.specs.Meaning.{fault_from, or_later}

either_some : (test : Bool) (a b : ModelKind) → cond test (Some a) (Some b) ≡ None → ⊥
either_some true a b is = cc
either_some false a b is = cc

pub least_none : (a b : Option ModelKind) → least a b ≡ None → (a ≡ None) × (b ≡ None)
least_none None b is = (refl, is)
least_none (Some a) None is = absurd cc
least_none (Some a) (Some b) is = absurd (either_some (nat_le (rank_of a) (rank_of b)) a b is)

pub no_fault : (broken : Bool) (kind : ModelKind) → fault_if broken kind ≡ None → broken ≡ false
no_fault true kind is = absurd cc
no_fault false kind is = refl

-- an object that has no fault behind the earlier ones
pub record IsSound (objects earlier : List Object) (o : Object) : Type 0 where
  pub clash : is_taken earlier o ≡ false
  pub rule : attributes_fault objects o ≡ None
  pub priority : (is_kind (codes "TASK") o && list_any (shares_priority o) earlier) ≡ false
  pub tasks : is_past 16 (codes "TASK") earlier o ≡ false
  pub isrs : is_past 8 (codes "ISR") earlier o ≡ false
  pub alarms : is_past 16 (codes "ALARM") earlier o ≡ false
  pub resources : is_past 8 (codes "RESOURCE") earlier o ≡ false
  pub modes : is_past 4 (codes "APPMODE") earlier o ≡ false

sound : (objects earlier : List Object) (o : Object) → object_fault objects earlier o ≡ None → IsSound objects earlier o
unfolding fault_of
sound objects earlier o is =
    let named = least_none (fault_if (is_scheduler o || is_taken earlier o) Twice) _ is in
    let ruled = least_none (attributes_fault objects o) _ named.1 in
    let raised = least_none (inner_fault objects o) _ ruled.1 in
    let ranked = least_none (priority_fault earlier o) _ raised.1 in
    let limited = least_none (limit_fault earlier o) _ ranked.1 in
    let name = or_parts (is_scheduler o) (is_taken earlier o) (no_fault _ Twice named.0) in
    let tasks = or_parts (is_past 16 (codes "TASK") earlier o) _ (no_fault _ Limit limited.0) in
    let isrs = or_parts (is_past 8 (codes "ISR") earlier o) _ tasks.1 in
    let alarms = or_parts (is_past 16 (codes "ALARM") earlier o) _ isrs.1 in
    let resources = or_parts (is_past 8 (codes "RESOURCE") earlier o) (is_past 4 (codes "APPMODE") earlier o) alarms.1 in
    record {
      clash = name.1;
      rule = ruled.0;
      priority = no_fault _ SamePriority ranked.0;
      tasks = tasks.0;
      isrs = isrs.0;
      alarms = alarms.0;
      resources = resources.0;
      modes = resources.1;
    }

later_none : (place : ℕ) (fault : Option ModelKind) (later : Option (ℕ × ModelKind)) → or_later place fault later ≡ None → (fault ≡ None) × (later ≡ None)
later_none place None later is = (refl, is)
later_none place (Some kind) later is = absurd cc

pub kept : (objects : List Object) (P : List Object → Type 0) → ((earlier : List Object) (o : Object) → P earlier → IsSound objects earlier o → P (earlier ++ o ∷ [])) → (earlier rest : List Object) → P earlier → fault_from objects earlier rest ≡ None → P (earlier ++ rest)
unfolding fault_from
kept objects P step earlier [] before none = rw append-nil before
kept objects P step earlier (o ∷ rest) before none =
    let parts = later_none (length earlier) (object_fault objects earlier o) (fault_from objects (earlier ++ o ∷ []) rest) none in
    rw append_assoc at (kept objects P step (earlier ++ o ∷ []) rest (step earlier o before (sound objects earlier o parts.0)) parts.1)
