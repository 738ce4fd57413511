-- Exactly the active contexts stand somewhere: each change of the kernel keeps it.
use Rattle.std.proofs.Common.{◌≡◌, ℕ, ◌<◌, inl, inr, List, length, Option, Some, None, refl, sym, ◌∙◌, ap, subst, arith, ◌↔◌, IsSome}
use Rattle.std.specs.Prelude.{is_some, option_map, cond}
use Rattle.std.proofs.lemmas.Option.{same_Some, none-some}
use Rattle.oil_model.specs.declared.system.System.{System}
use Rattle.osek_kernel.specs.declared.context.Context.{Context}
use Rattle.osek_kernel.specs.declared.context.Context.TheVariants as contexts
use Rattle.osek_kernel.specs.declared.kernel.Kernel.{Kernel}
use Rattle.osek_kernel.specs.Contexts.{IsContext, place_of, context_count}
use Rattle.osek_kernel.specs.Kernel.{IsActive}
use Rattle.osek_kernel.specs.Running.{dispatched}
use Rattle.osek_kernel.specs.Served.{Served}
use Rattle.osek_kernel.specs.Taken.{Taken}
use Rattle.osek_kernel.specs.Positions.{position_of, ArePositions, placed, started, answered}
use Rattle.osek_kernel.specs.Laws.{ServesActive, TakesActive, begun}
use Rattle.osek_kernel.proofs.Theorems.{dispatch_keeps_active}
use Rattle.osek_machine.proofs.Placing.{contexts_apart, placed_here, placed_elsewhere, placed_count}

-- each context has an entry
pub record Enters {P : Type 0} (system : System) (entry : Context → Option P) : Type 0 where
  pub each : (c : Context) → IsContext system c → IsSome (entry c)

-- ---- Dispatching

pub dispatch_keeps : {P : Type 0} (system : System) (k : Kernel) (xs : List (Option P)) → ArePositions system k xs → ArePositions system (dispatched system k) xs
dispatch_keeps system k xs are =
    let d = dispatch_keeps_active system k in
    record {
      count = are.count;
      active = λ c is. (λ some. d.stays c ((are.active c is).0 some), λ active. (are.active c is).1 (d.only c active));
    }

-- ---- Executing

pub execute_keeps : {P : Type 0} (system : System) (k : Kernel) (context : Context) (next : P) (xs : List (Option P))
    → IsContext system context → IsActive k context → ArePositions system k xs → ArePositions system k (placed system context (Some next) xs)
execute_keeps {P} system k context next xs is runs are = record { count = placed_count system context (Some next) xs ∙ are.count; active = active }
  where
    active : (c : Context) → IsContext system c → IsSome (position_of system (placed system context (Some next) xs) c) ↔ IsActive k c
    active c there = elim (contexts_apart system c context there is) [
      | inl same ↦ (λ some. subst (IsActive k) (sym same) runs, λ act. ap (λ d. is_some (position_of system (placed system context (Some next) xs) d)) same ∙ ap is_some (placed_here system context (Some next) xs is are.count))
      | inr other ↦
          let stays : position_of system (placed system context (Some next) xs) c ≡ position_of system xs c = placed_elsewhere system context c (Some next) xs other in
          (λ some. (are.active c there).0 (sym (ap is_some stays) ∙ some), λ act. ap is_some stays ∙ (are.active c there).1 act)
    ]

-- ---- Taking

started_active : (k : Kernel) (after : Taken) (d : Context) → ((t : ℕ) → d ≡ contexts.Task t → t < length k.tasks)
    → TakesActive k after → after.started ≡ Some d → IsActive after.kernel d
started_active k after (contexts.Task t) within takes e = ap is_some (takes.begins t (within t refl) e)
started_active k after (contexts.Isr i) within takes e = takes.isr i e

task_within : (system : System) (k : Kernel) (d : Context) → length k.tasks ≡ length system.tasks → IsContext system d → (t : ℕ) → d ≡ contexts.Task t → t < length k.tasks
task_within system k d tasks is t e = let within : t < length system.tasks = subst (IsContext system) e is in omega arith

take_keeps_if : {P : Type 0} (system : System) (entry : Context → Option P) (k : Kernel) (after : Taken) (xs : List (Option P)) (who : Option Context)
    → Enters system entry → ((c : Context) → after.started ≡ Some c → IsContext system c) → length k.tasks ≡ length system.tasks
    → TakesActive k after → ArePositions system k xs → after.started ≡ who → ArePositions system after.kernel (started system entry who xs)
take_keeps_if system entry k after xs None enters exist tasks takes are e = record { count = are.count; active = active }
  where
    active : (c : Context) → IsContext system c → IsSome (position_of system xs c) ↔ IsActive after.kernel c
    active c there = (
      λ some. takes.stays c ((are.active c there).0 some),
      λ act. elim (takes.only c act) [ inl before ↦ (are.active c there).1 before | inr new ↦ absurd (none-some c (sym e ∙ new)) ],
    )
take_keeps_if system entry k after xs (Some d) enters exist tasks takes are e = record { count = placed_count system d (entry d) xs ∙ are.count; active = active }
  where
    active : (c : Context) → IsContext system c → IsSome (position_of system (placed system d (entry d) xs) c) ↔ IsActive after.kernel c
    active c there = elim (contexts_apart system c d there (exist d e)) [
      | inl same ↦ (
        λ some. subst (IsActive after.kernel) (sym same) (started_active k after d (task_within system k d tasks (exist d e)) takes e),
        λ act. ap (λ b. is_some (position_of system (placed system d (entry d) xs) b)) same ∙ (ap is_some (placed_here system d (entry d) xs (exist d e) are.count) ∙ enters.each d (exist d e)),
      )
      | inr other ↦
          let stays : position_of system (placed system d (entry d) xs) c ≡ position_of system xs c = placed_elsewhere system d c (entry d) xs other in (
            λ some. takes.stays c ((are.active c there).0 (sym (ap is_some stays) ∙ some)),
            λ act. elim (takes.only c act) [
              | inl before ↦ ap is_some stays ∙ (are.active c there).1 before
              | inr new ↦ absurd (other (ap (place_of system) (same_Some c d (sym new ∙ e))))
            ],
          )
    ]

pub take_keeps : {P : Type 0} (system : System) (entry : Context → Option P) (k : Kernel) (after : Taken) (xs : List (Option P))
    → Enters system entry → ((c : Context) → after.started ≡ Some c → IsContext system c) → length k.tasks ≡ length system.tasks
    → TakesActive k after → ArePositions system k xs → ArePositions system after.kernel (started system entry after.started xs)
take_keeps system entry k after xs enters exist tasks takes are = take_keeps_if system entry k after xs after.started enters exist tasks takes are refl

-- ---- Serving

-- where the caller stands after the service
abbrev caller_position : {P : Type 0} → Option P → Option Context → Option P
caller_position next ended = cond (is_some ended) None next

caller_keeps : {P : Type 0} (k : Kernel) (caller : Context) (after : Served) (next : P) (ended : Option Context)
    → ServesActive k caller after → IsActive k caller → after.reply.ended ≡ ended → (begun after.reply ≡ Some caller → ⊥)
    → IsSome (caller_position (Some next) ended) ↔ IsActive after.kernel caller
caller_keeps k caller after next None serves runs e apart = (λ some. serves.stays caller runs (λ h. none-some caller (sym e ∙ h)), λ act. refl)
caller_keeps k caller after next (Some d) serves runs e apart =
    let ends : after.reply.ended ≡ Some caller = e ∙ ap Some (serves.ended d e) in
    (λ some. cc, λ act. absurd (serves.gone caller ends apart act))

gone_keeps : {P : Type 0} (system : System) (k : Kernel) (caller : Context) (after : Served) (next : P) (xs : List (Option P))
    → ServesActive k caller after → IsContext system caller → IsActive k caller → ArePositions system k xs
    → (c : Context) → IsContext system c → (begun after.reply ≡ Some c → ⊥)
    → IsSome (position_of system (placed system caller (caller_position (Some next) after.reply.ended) xs) c) ↔ IsActive after.kernel c
gone_keeps system k caller after next xs serves is runs are c there apart =
    let p = caller_position (Some next) after.reply.ended in
    elim (contexts_apart system c caller there is) [
      | inl same ↦
          let here : position_of system (placed system caller p xs) c ≡ p = ap (position_of system (placed system caller p xs)) same ∙ placed_here system caller p xs is are.count in
          let keeps = caller_keeps k caller after next after.reply.ended serves runs refl (λ h. apart (h ∙ ap Some (sym same))) in (
            λ some. subst (IsActive after.kernel) (sym same) (keeps.0 (sym (ap is_some here) ∙ some)),
            λ act. ap is_some here ∙ keeps.1 (subst (IsActive after.kernel) same act),
          )
      | inr other ↦
          let stays : position_of system (placed system caller p xs) c ≡ position_of system xs c = placed_elsewhere system caller c p xs other in (
            λ some. serves.stays c ((are.active c there).0 (sym (ap is_some stays) ∙ some)) (λ h. other (ap (place_of system) (serves.ended c h))),
            λ act. elim (serves.only c act) [ inl before ↦ ap is_some stays ∙ (are.active c there).1 before | inr new ↦ absurd (apart new) ],
          )
    ]

serve_keeps_if : {P : Type 0} (system : System) (entry : Context → Option P) (k : Kernel) (caller : Context) (after : Served) (next : P) (xs : List (Option P)) (who : Option ℕ)
    → Enters system entry → ((t : ℕ) → after.reply.activated ≡ Some t → t < length system.tasks) → length k.tasks ≡ length system.tasks
    → ServesActive k caller after → IsContext system caller → IsActive k caller → ArePositions system k xs → after.reply.activated ≡ who
    → ArePositions system after.kernel (started system entry (option_map contexts.Task who) (placed system caller (caller_position (Some next) after.reply.ended) xs))
serve_keeps_if system entry k caller after next xs None enters exist tasks serves is runs are e = record {
  count = placed_count system caller (caller_position (Some next) after.reply.ended) xs ∙ are.count;
  active = λ c there. gone_keeps system k caller after next xs serves is runs are c there (λ h. none-some c (sym (ap (option_map contexts.Task) e) ∙ h));
}
serve_keeps_if {P} system entry k caller after next xs (Some t) enters exist tasks serves is runs are e =
    let gone : List (Option P) = placed system caller (caller_position (Some next) after.reply.ended) xs in
    record {
      count = placed_count system (contexts.Task t) (entry (contexts.Task t)) gone ∙ gone_count;
      active = active;
    }
  where
    gone_count : length (placed system caller (caller_position (Some next) after.reply.ended) xs) ≡ context_count system
    gone_count = placed_count system caller (caller_position (Some next) after.reply.ended) xs ∙ are.count

    active : (c : Context) → IsContext system c → IsSome (position_of system (placed system (contexts.Task t) (entry (contexts.Task t)) (placed system caller (caller_position (Some next) after.reply.ended) xs)) c) ↔ IsActive after.kernel c
    active c there =
        let is_task : IsContext system (contexts.Task t) = exist t e in
        elim (contexts_apart system c (contexts.Task t) there is_task) [
          | inl same ↦ (
            λ some. subst (IsActive after.kernel) (sym same) (ap is_some (serves.begins t (let w = exist t e in omega arith) e)),
            λ act. ap (λ b. is_some (position_of system (placed system (contexts.Task t) (entry (contexts.Task t)) (placed system caller (caller_position (Some next) after.reply.ended) xs)) b)) same ∙ (ap is_some (placed_here system (contexts.Task t) (entry (contexts.Task t)) (placed system caller (caller_position (Some next) after.reply.ended) xs) is_task gone_count) ∙ enters.each (contexts.Task t) is_task),
          )
          | inr other ↦
              let stays : position_of system (placed system (contexts.Task t) (entry (contexts.Task t)) (placed system caller (caller_position (Some next) after.reply.ended) xs)) c ≡ position_of system (placed system caller (caller_position (Some next) after.reply.ended) xs) c = placed_elsewhere system (contexts.Task t) c (entry (contexts.Task t)) (placed system caller (caller_position (Some next) after.reply.ended) xs) other in
              let keeps = gone_keeps system k caller after next xs serves is runs are c there (λ h. other (ap (place_of system) (same_Some c (contexts.Task t) (sym h ∙ ap (option_map contexts.Task) e)))) in
              (λ some. keeps.0 (sym (ap is_some stays) ∙ some), λ act. ap is_some stays ∙ keeps.1 act)
        ]

pub serve_keeps : {P : Type 0} (system : System) (entry : Context → Option P) (k : Kernel) (caller : Context) (after : Served) (next : P) (xs : List (Option P))
    → Enters system entry → ((t : ℕ) → after.reply.activated ≡ Some t → t < length system.tasks) → length k.tasks ≡ length system.tasks
    → ServesActive k caller after → IsContext system caller → IsActive k caller → ArePositions system k xs
    → ArePositions system after.kernel (answered system entry caller (Some next) after.reply xs)
serve_keeps system entry k caller after next xs enters exist tasks serves is runs are =
    serve_keeps_if system entry k caller after next xs after.reply.activated enters exist tasks serves is runs are refl
