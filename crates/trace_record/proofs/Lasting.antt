-- Where no activation of a run lasts longer than a bound, none has lasted longer after fewer steps.
use Rattle.std.proofs.Common.{◌≡◌, ℕ, ◌+◌, ◌-◌, ◌<◌, ◌≤◌, Bool, true, false, cond, List, ◌∷◌, ◌++◌, Contains, length, reverse, inl, inr, option_map, option_to_list, Option, Some, None, refl, sym, ◌∙◌, ap, subst, arith}
use Rattle.std.specs.List.{range_with_len}
use Rattle.std.proofs.lemmas.List.Elements.{Contains-append_cases, Contains-append_left, Contains-append_right}
use Rattle.std.proofs.lemmas.Option.{none-some, same_Some}
use Rattle.osek_kernel.specs.declared.context.Context.{Context}
use Rattle.osek_kernel.specs.declared.context.Context.TheVariants as contexts
use Rattle.osek_machine.specs.Activations.{Activation, active_since, lasting, ended_now, ended_in, open_in}
use Rattle.osek_machine.specs.Events.{Event, duration, cycles_of, started_by, ended_by}
use Rattle.osek_machine.specs.Loops.{is_this}
use Rattle.osek_machine.specs.State.{MachineState}
use Rattle.osek_machine.specs.Steps.{Step}
use Rattle.wcet_atomic_blocks.specs.Plants.{PlantData}
use Rattle.shadow_runs.proofs.Members.{first_member, chosen_member, range_member}
use Rattle.activation_windows.proofs.Induction.{this_is}
use Rattle.trace_record.specs.Fitting.{LastWithin}
use Rattle.trace_record.proofs.Active.{Agrees, ends_first}
use Rattle.trace_record.proofs.Members.{chosen_from, reversed, reversed_back}

-- ---- One activation

-- what lasts from a known moment
lasts_from : (task : ℕ) (ended : Bool) (events : List Event) (known : Option ℕ) (activation : Activation)
    → option_map (lasting task ended events) known ≡ Some activation
    → (since : ℕ) × (known ≡ Some since) × (task ≡ activation.task) × (activation.cycles ≡ duration events - since)
lasts_from task ended events None activation e = absurd (none-some activation e)
lasts_from task ended events (Some since) activation e =
    let same = same_Some (lasting task ended events since) activation e in
    (since, refl, ap (λ (a : Activation). a.task) same, ap (λ (a : Activation). a.cycles) (sym same))

-- ---- An activation that hasn't ended, and one that the newest step ends

pub open_within : (plant : PlantData) (task bound mode : ℕ) (events : List Event) (since : ℕ) → task < length plant.system.tasks
    → LastWithin plant task bound mode events → active_since plant.system mode task events ≡ Some since → duration events - since ≤ bound
open_within plant task bound mode events since exists within known =
    within (lasting task false events since)
    (Contains-append_right (reverse (ended_in plant.system mode events)) (open_in plant.system mode events) (lasting task false events since)
    (chosen_member (λ t. option_map (lasting t false events) (active_since plant.system mode t events)) (range_with_len 0 (length plant.system.tasks)) task
    (lasting task false events since) (ap (option_map (lasting task false events)) known) (range_member (length plant.system.tasks) task exists))) refl

pub ended_within : (plant : PlantData) (task bound mode : ℕ) (event : Event) (earlier : List Event) (since : ℕ)
    → LastWithin plant task bound mode (event ∷ earlier) → active_since plant.system mode task earlier ≡ Some since
    → ended_by event ≡ Some (contexts.Task task) → duration (event ∷ earlier) - since ≤ bound
ended_within plant task bound mode event earlier since within known ends =
    let activation : Activation = lasting task true (event ∷ earlier) since in
    let now : ended_now plant.system mode (ended_by event) event earlier ≡ Some activation =
    ap (λ (who : Option Context). ended_now plant.system mode who event earlier) ends ∙ ap (option_map (lasting task true (event ∷ earlier))) known in
    let listed : Contains (ended_in plant.system mode (event ∷ earlier)) activation =
    subst (λ (o : Option Activation). Contains (option_to_list o ++ ended_in plant.system mode earlier) activation) (sym now)
    (first_member activation (ended_in plant.system mode earlier)) in
    within activation
    (Contains-append_left (reverse (ended_in plant.system mode (event ∷ earlier))) (open_in plant.system mode (event ∷ earlier)) activation
    (reversed (ended_in plant.system mode (event ∷ earlier)) activation listed)) refl

-- ---- One step less

-- An activation that hadn't ended before the newest step lasts to its end at least.
pub going_within : (plant : PlantData) (task bound mode : ℕ) (event : Event) (earlier : List Event) (before after : MachineState) (since : ℕ)
    → task < length plant.system.tasks → Step plant.image plant.system event before after → Agrees plant task mode earlier before
    → LastWithin plant task bound mode (event ∷ earlier) → active_since plant.system mode task earlier ≡ Some since
    → duration (event ∷ earlier) - since ≤ bound
going_within plant task bound mode event earlier before after since exists step agree within known =
    by (is_this (contexts.Task task) (started_by event)) (is_this (contexts.Task task) (ended_by event)) refl refl
  where
    by : (starts ends : Bool) → is_this (contexts.Task task) (started_by event) ≡ starts → is_this (contexts.Task task) (ended_by event) ≡ ends
        → duration (event ∷ earlier) - since ≤ bound
    by true ends s e = ended_within plant task bound mode event earlier since within known
        (ends_first plant task mode event earlier before after since step agree known (this_is (contexts.Task task) (started_by event) s))
    by false true s e = ended_within plant task bound mode event earlier since within known (this_is (contexts.Task task) (ended_by event) e)
    by false false s e = open_within plant task bound mode (event ∷ earlier) since exists within
        (ap (λ b. cond b (Some (duration earlier)) (cond (is_this (contexts.Task task) (ended_by event)) None (active_since plant.system mode task earlier))) s
        ∙ (ap (λ b. cond b None (active_since plant.system mode task earlier)) e ∙ known))

pub earlier_within : (plant : PlantData) (task bound mode : ℕ) (event : Event) (earlier : List Event) (before after : MachineState)
    → task < length plant.system.tasks → Step plant.image plant.system event before after → Agrees plant task mode earlier before
    → LastWithin plant task bound mode (event ∷ earlier) → LastWithin plant task bound mode earlier
earlier_within plant task bound mode event earlier before after exists step agree within activation has of_task =
    elim (Contains-append_cases (reverse (ended_in plant.system mode earlier)) (open_in plant.system mode earlier) activation has) [
      | inl ended ↦ within activation
          (Contains-append_left (reverse (ended_in plant.system mode (event ∷ earlier))) (open_in plant.system mode (event ∷ earlier)) activation
          (reversed (ended_in plant.system mode (event ∷ earlier)) activation
          (Contains-append_right (option_to_list (ended_now plant.system mode (ended_by event) event earlier)) (ended_in plant.system mode earlier) activation
          (reversed_back (ended_in plant.system mode earlier) activation ended)))) of_task
      | inr going ↦ going_on going
    ]
  where
    going_on : Contains (open_in plant.system mode earlier) activation → activation.cycles ≤ bound
    going_on going =
        let chosen = chosen_from (λ t. option_map (lasting t false earlier) (active_since plant.system mode t earlier))
        (range_with_len 0 (length plant.system.tasks)) activation going in
        let lasts = lasts_from chosen.0 false earlier (active_since plant.system mode chosen.0 earlier) activation chosen.1 in
        let known : active_since plant.system mode task earlier ≡ Some lasts.0 =
        subst (λ (t : ℕ). active_since plant.system mode t earlier ≡ Some lasts.0) (lasts.2 ∙ of_task) lasts.1 in
        let later = going_within plant task bound mode event earlier before after lasts.0 exists step agree within known in
        let cycles = lasts.3 in
        let more : duration (event ∷ earlier) ≡ duration earlier + cycles_of event = refl in
        omega arith
