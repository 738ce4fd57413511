-- A state that is read fits the system, and a certificate that is read is within its limits.
use Rattle.std.proofs.Common.{◌≡◌, ℕ, zero, suc, ◌^◌, ◌<◌, ◌≤◌, Bool, true, false, cond, List, [], ◌∷◌, length, Option, Some, None, Result, Ok, Err, refl, ap, ◌∙◌, subst, arith, eqb}
use Rattle.std.proofs.lemmas.Option.{same_Some}
use Rattle.std.specs.Prelude.{slice_get, bytes_eq, IfOk, IfSome, nat_eq, nat_lt, ok_or, ◌&&◌}
use Rattle.std.specs.List.{AllByRecursion}
use Rattle.std.proofs.lemmas.Bool.{ltb-true, eqb-true}
use Rattle.serde_json.specs.Data.{Data}
use Rattle.listed.specs.Faults.{told_as}
use Rattle.listed.specs.Lists.{all_of, each_from, differ, AllFrom}
use Rattle.listed.specs.Steps.Options as options
use Rattle.listed.proofs.Answered.{IfOk-step, IfOk-each_from, IfOk-each_from_length, IfOk-all_of}
use Rattle.json_fields.specs.Lists.{list_in}
use Rattle.json_fields.specs.Numbers.{digits_below}
use Rattle.json_fields.proofs.Laws.{IfOk-ok_or, IfOk-test, bind_some, passed, not_refused, whole_in-range, digits_in-lt, digits_below-lt}
use Rattle.osek_kernel.specs.declared.context.Context.{Context}
use Rattle.osek_kernel.specs.declared.context.Context.TheVariants.{Task, Isr}
use Rattle.abstract_sched.specs.declared.rules.StateRules.{StateRules}
use Rattle.abstract_sched.specs.declared.states.IsrAt.{IsrAt}
use Rattle.abstract_sched.specs.declared.states.TaskAt.{TaskAt}
use Rattle.abstract_sched.specs.Fits.{IsId, IsBlockOf, FitsTask, FitsIsr, FitsRules, AreLawful}
use Rattle.abstract_sched.specs.States.{same_state}
use Rattle.certificate.specs.declared.fault.CertKind.TheVariants as cert_kinds
use Rattle.certificate.specs.declared.fault.StatesKind.TheVariants as states_kinds
use Rattle.certificate.specs.declared.read.CertNumbers.{CertNumbers}
use Rattle.certificate.specs.Certificate.{multiplier_in, cert_numbers, cert_in}
use Rattle.certificate.specs.Form.{StateParts, CertParts, state_parts, state_list, cert_parts}
use Rattle.certificate.specs.Lawful.{IsLawful}
use Rattle.certificate.specs.Parts.{number_in, id_below, flag_in, depth_in, same_context, block_of, inner_of, isr_at}
use Rattle.certificate.specs.States.{held_id, held_of, task_at, task_of, tasks_of, state_of_parts, state_of, states_of, states_in}

number_in-id : (d : Data) (n : ℕ) → number_in d ≡ Some n → IsId n
number_in-id d n is = omega (arith, whole_in-range 0 4294967295 d n is)

id_below-lt : (count : ℕ) (d : Data) (n : ℕ) → id_below count d ≡ Some n → (n < count) × IsId n
id_below-lt count d n is =
    let read = bind_some (number_in d) (λ m. cond (nat_lt m count) (Some m) None) n is in
    let test = passed (nat_lt read.0 count) (Some read.0) n read.2 in
    let same = same_Some read.0 n test.1 in
    subst (λ (m : ℕ). (m < count) × IsId m) same (ltb-true read.0 count test.0, number_in-id d read.0 read.1)

same_context-true : (a b : Context) → same_context a b ≡ true → a ≡ b
same_context-true (Task a) (Task b) is = ap Task (eqb-true a b is)
same_context-true (Task a) (Isr b) is = absurd cc
same_context-true (Isr a) (Task b) is = absurd cc
same_context-true (Isr a) (Isr b) is = ap Isr (eqb-true a b is)

block_of-block : (rules : StateRules) (context : Context) (d : Data) (n : ℕ) → block_of rules context d ≡ Some n → IsBlockOf rules context n
unfolding block_of
block_of-block rules context d n is =
    let read = bind_some (number_in d) (λ block. options.◌>>=◌ (slice_get rules.owners block) (λ owner. cond (same_context owner context) (Some block) None)) n is in
    let owner = bind_some (slice_get rules.owners read.0) (λ owner. cond (same_context owner context) (Some read.0) None) n read.2 in
    let test = passed (same_context owner.0 context) (Some read.0) n owner.2 in
    let same = same_Some read.0 n test.1 in
    subst (IsBlockOf rules context) same (record { owner = owner.1 ∙ ap Some (same_context-true owner.0 context test.0); is_id = number_in-id d read.0 read.1 })

inner_of-allowed : (has_inner : Bool) (d : Data) (inner : Bool) → inner_of has_inner d ≡ Some inner → inner ≡ true → has_inner ≡ true
unfolding inner_of
inner_of-allowed true d inner is on = refl
inner_of-allowed false d inner is on =
    let read = bind_some (flag_in d) (λ flag. cond (flag && true) None (Some flag)) inner is in
    let test = not_refused (read.0 && true) (Some read.0) inner read.2 in
    let same = same_Some read.0 inner test.1 in
    absurd (is_on read.0 (same ∙ on) test.0)
  where
    is_on : (flag : Bool) → flag ≡ true → (flag && true) ≡ false → ⊥
    is_on true a b = cc
    is_on false a b = cc

held_of-held : (rules : StateRules) (ds : List Data) → IfOk (held_of rules ds) (λ ids. AllByRecursion (λ id. (id < rules.resources) × IsId id) ids × (differ nat_eq ids ≡ true))
unfolding held_of
held_of-held rules ds =
    IfOk-step (AllByRecursion (λ id. (id < rules.resources) × IsId id)) _ (all_of (held_id rules) ds) _
    (IfOk-all_of (held_id rules) (λ id. (id < rules.resources) × IsId id) (λ d. IfOk-ok_or _ _ _ (id_below-lt rules.resources d)) 0 ds)
    (λ ids below. IfOk-test _ (differ nat_eq ids) ids _ (λ once. (below, once)))

task_at-fits : (rules : StateRules) (task : ℕ) (has_inner : Bool) → slice_get rules.inner task ≡ Some has_inner → (ds : List Data) → IfOk (task_at rules task has_inner ds) (FitsTask rules task)
unfolding task_at
task_at-fits rules task has_inner flag [] = tt
task_at-fits rules task has_inner flag (only ∷ []) = tt
task_at-fits rules task has_inner flag (first ∷ second ∷ rest) =
    IfOk-step (IsBlockOf rules (Task task)) _ (ok_or (block_of rules (Task task) first) states_kinds.State) _ (IfOk-ok_or _ _ _ (block_of-block rules (Task task) first)) (λ block at.
    IfOk-step (λ inner. inner ≡ true → has_inner ≡ true) _ (ok_or (inner_of has_inner second) states_kinds.State) _ (IfOk-ok_or _ _ _ (inner_of-allowed has_inner second)) (λ inner allowed.
    IfOk-step (λ ids. AllByRecursion (λ id. (id < rules.resources) × IsId id) ids × (differ nat_eq ids ≡ true)) _ (held_of rules rest) _ (held_of-held rules rest) (λ held holds. record {
      at_block = at;
      has_inner = λ on. flag ∙ ap Some (allowed on);
      resources = holds.0;
      once = holds.1;
    })))

task_of-fits : (rules : StateRules) (task : ℕ) (d : Data) → IfOk (task_of rules task d) (FitsTask rules task)
task_of-fits rules task d =
    IfOk-step (λ has_inner. slice_get rules.inner task ≡ Some has_inner) _ (ok_or (slice_get rules.inner task) states_kinds.State) _ (IfOk-ok_or _ _ _ (λ _ is. is)) (λ has_inner flag.
    IfOk-step (λ _. Unit {0}) _ (ok_or (list_in d) states_kinds.State) _ (IfOk-ok_or _ _ _ (λ _ _. tt)) (λ ds _. task_at-fits rules task has_inner flag ds))

-- what holds by one fact and what holds by another hold together
both_hold : {A K : Type 0} (P Q : A → Type 0) (r : Result A K) → IfOk r P → IfOk r Q → IfOk r (λ x. P x × Q x)
both_hold P Q (Ok x) p q = (p, q)
both_hold P Q (Err e) p q = tt

abbrev FitTasks : StateRules → List TaskAt → Type 0
FitTasks rules tasks = AllFrom (FitsTask rules) 0 tasks × (length tasks ≡ length rules.inner)

tasks_of-fit : (rules : StateRules) (ds : List Data) → IfOk (tasks_of rules ds) (FitTasks rules)
tasks_of-fit rules ds = at (eqb (length ds) (length rules.inner)) (eqb-true _ _)
  where
    read : length ds ≡ length rules.inner → IfOk (each_from (task_of rules) 0 ds) (FitTasks rules)
    read many = subst (λ n. IfOk (each_from (task_of rules) 0 ds) (λ tasks. AllFrom (FitsTask rules) 0 tasks × (length tasks ≡ n))) many
        (both_hold (AllFrom (FitsTask rules) 0) (λ tasks. length tasks ≡ length ds) (each_from (task_of rules) 0 ds)
        (IfOk-each_from (task_of rules) (FitsTask rules) (task_of-fits rules) 0 ds) (IfOk-each_from_length (task_of rules) 0 ds))

    at : (test : Bool) → (test ≡ true → length ds ≡ length rules.inner) → IfOk (cond test (each_from (task_of rules) 0 ds) (Err states_kinds.State)) (FitTasks rules)
    at true many = read (many refl)
    at false many = tt

isr_at-fits : (rules : StateRules) (ds : List Data) (isr : Option IsrAt) → isr_at rules ds ≡ Some isr → IfSome isr (FitsIsr rules)
unfolding isr_at
isr_at-fits rules [] isr is = subst (λ (found : Option IsrAt). IfSome found (FitsIsr rules)) (same_Some None isr is) tt
isr_at-fits rules (only ∷ []) isr is = absurd cc
isr_at-fits rules (first ∷ second ∷ []) isr is =
    let id = bind_some (id_below rules.isrs first) (λ n. options.◌>>=◌ (block_of rules (Isr n) second) (λ block. Some (Some (record { isr = n; block = block })))) isr is in
    let block = bind_some (block_of rules (Isr id.0) second) (λ block. Some (Some (record { isr = id.0; block = block }))) isr id.2 in
    let below = id_below-lt rules.isrs first id.0 id.1 in
    let at : IsrAt = record { isr = id.0; block = block.0 } in
    let fits : FitsIsr rules at = record { exists = below.0; is_id = below.1; at_block = block_of-block rules (Isr id.0) second block.0 block.1 } in
    subst (λ (found : Option IsrAt). IfSome found (FitsIsr rules)) (same_Some (Some at) isr block.2) fits
isr_at-fits rules (first ∷ second ∷ third ∷ rest) isr is = absurd cc

state_of_parts-fits : (rules : StateRules) (parts : StateParts) → IfOk (state_of_parts rules parts) (FitsRules rules)
unfolding state_of_parts
state_of_parts-fits rules parts =
    IfOk-step (λ mode. (mode < rules.modes) × IsId mode) _ (ok_or (id_below rules.modes parts.mode) states_kinds.State) _ (IfOk-ok_or _ _ _ (id_below-lt rules.modes parts.mode)) (λ mode mode_fits.
    IfOk-step (λ _. Unit {0}) _ (ok_or (list_in parts.tasks) states_kinds.State) _ (IfOk-ok_or _ _ _ (λ _ _. tt)) (λ members _.
    IfOk-step (FitTasks rules) _ (tasks_of rules members) _ (tasks_of-fit rules members) (λ tasks tasks_fit.
    IfOk-step (λ _. Unit {0}) _ (ok_or (list_in parts.isr) states_kinds.State) _ (IfOk-ok_or _ _ _ (λ _ _. tt)) (λ pair _.
    IfOk-step (λ isr. IfSome isr (FitsIsr rules)) _ (ok_or (isr_at rules pair) states_kinds.State) _ (IfOk-ok_or _ _ _ (isr_at-fits rules pair)) (λ isr isr_fits.
    IfOk-step (λ _. Unit {0}) _ (ok_or (flag_in parts.disable) states_kinds.State) _ (IfOk-ok_or _ _ _ (λ _ _. tt)) (λ disabled _.
    IfOk-step (λ depth. (0 ≤ depth) × (depth ≤ 7)) _ (ok_or (depth_in parts.suspend) states_kinds.State) _ (IfOk-ok_or _ _ _ (whole_in-range 0 7 parts.suspend)) (λ suspended depth. record {
      mode = mode_fits;
      count = tasks_fit.1;
      tasks = tasks_fit.0;
      isr = isr_fits;
      suspended = depth.1;
    })))))))

state_of-fits : (rules : StateRules) (d : Data) → IfOk (state_of rules d) (FitsRules rules)
state_of-fits rules d =
    IfOk-step (λ _. Unit {0}) _ (ok_or (state_parts d) states_kinds.State) _ (IfOk-ok_or _ _ _ (λ _ _. tt)) (λ parts _. state_of_parts-fits rules parts)

pub states_of-lawful : (rules : StateRules) (ds : List Data) → IfOk (states_of rules ds) (AreLawful rules)
states_of-lawful rules ds =
    IfOk-step (AllByRecursion (FitsRules rules)) _ (all_of (state_of rules) ds) _ (IfOk-all_of (state_of rules) (FitsRules rules) (state_of-fits rules) 0 ds)
    (λ states fit. IfOk-test (AreLawful rules) (differ same_state states) states _ (λ once. record { fit = fit; once = once }))

pub states_in-lawful : (rules : StateRules) (d : Data) → IfOk (states_in rules d) (AreLawful rules)
states_in-lawful rules d =
    IfOk-step (λ _. Unit {0}) _ (ok_or (state_list d) states_kinds.Shape) _ (IfOk-ok_or _ _ _ (λ _ _. tt)) (λ ds _. states_of-lawful rules ds)

positive : (n : ℕ) → eqb n 0 ≡ false → 0 < n
positive zero is = absurd cc
positive (suc n) is = omega arith

abbrev InRange : CertNumbers → Type 0
InRange numbers = (numbers.bound < 2 ^ 120) × ((0 < numbers.denominator) × (numbers.denominator < 2 ^ 80)) × AllByRecursion (λ m. m < 2 ^ 80) numbers.multipliers

cert_numbers-range : (parts : CertParts) → IfOk (cert_numbers parts) InRange
unfolding cert_numbers
cert_numbers-range parts =
    IfOk-step (λ bound. bound < 2 ^ 120) InRange (ok_or (digits_below (2 ^ 120) parts.bound) cert_kinds.Range) _ (IfOk-ok_or _ _ _ (digits_below-lt (2 ^ 120) parts.bound)) (λ bound low.
    IfOk-step (λ denominator. denominator < 2 ^ 80) InRange (ok_or (digits_below (2 ^ 80) parts.denominator) cert_kinds.Range) _ (IfOk-ok_or _ _ _ (digits_below-lt (2 ^ 80) parts.denominator)) (λ denominator small.
    IfOk-step (AllByRecursion (λ m. m < 2 ^ 80)) InRange (all_of multiplier_in parts.multipliers) _ (IfOk-all_of multiplier_in (λ m. m < 2 ^ 80) (λ d. IfOk-ok_or _ _ _ (digits_in-lt (2 ^ 80) d)) 0 parts.multipliers) (λ multipliers each.
    at (eqb denominator 0) (record { bound = bound; denominator = denominator; multipliers = multipliers }) (λ not_zero. (low, (positive denominator not_zero, small), each)))))
  where
    at : (test : Bool) (numbers : CertNumbers) → (test ≡ false → InRange numbers) → IfOk (cond test (Err cert_kinds.Range) (Ok numbers)) InRange
    at true numbers in_range = tt
    at false numbers in_range = in_range refl

pub told_as_ok : {A K L : Type 0} (P : A → Type 0) (kind : L) (r : Result A K) → IfOk r P → IfOk (told_as kind r) P
told_as_ok P kind (Ok x) holds = holds
told_as_ok P kind (Err other) holds = tt

pub cert_in-lawful : (rules : StateRules) (task : ℕ) (name : List ℕ) (d : Data) → IfOk (cert_in rules task name d) (IsLawful rules task)
cert_in-lawful rules task name d =
    IfOk-step (λ _. Unit {0}) _ (ok_or (cert_parts d) cert_kinds.Shape) _ (IfOk-ok_or _ _ _ (λ _ _. tt)) (λ parts _.
    IfOk-step InRange _ (cert_numbers parts) _ (cert_numbers-range parts) (λ numbers range.
    IfOk-step (AreLawful rules) _ (told_as cert_kinds.State (states_of rules parts.states)) _ (told_as_ok _ _ (states_of rules parts.states) (states_of-lawful rules parts.states)) (λ states lawful.
    IfOk-test (IsLawful rules task) (bytes_eq parts.task name) _ _ (λ _. record {
      for_task = refl;
      bound = range.0;
      denominator = range.1;
      multipliers = range.2;
      states = lawful;
    }))))
