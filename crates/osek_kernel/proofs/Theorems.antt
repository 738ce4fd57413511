-- The laws of the kernel.
use Rattle.std.proofs.Common.{◌≡◌, ℕ, true, false, length, Option, Some, None, refl, sym, ◌∙◌, ap, subst, inl, inr}
use Rattle.std.specs.Prelude.{option_map, is_some, IsSome, cond}
use Rattle.std.proofs.lemmas.Bool.{cases_eq, cases_Bool}
use Rattle.std.proofs.lemmas.Option.{same_Some, none-some}
use Rattle.std.proofs.lemmas.List.{length-set}
use Rattle.oil_model.specs.declared.system.System.{System}
use Rattle.osek_kernel.specs.declared.context.Context.{Context}
use Rattle.osek_kernel.specs.declared.context.Context.TheVariants as contexts
use Rattle.osek_kernel.specs.declared.kernel.Active.{Active}
use Rattle.osek_kernel.specs.declared.kernel.Kernel.{Kernel}
use Rattle.osek_kernel.specs.declared.running.Candidate.{Candidate}
use Rattle.osek_kernel.specs.Kernel.{task_state, with_task, change_task, with_inner, IsActive, held_in, held_by}
use Rattle.osek_kernel.specs.Running.{rank_of, goes_before, first_from, running_task, runs, raise, dispatched, inner_ceiling}
use Rattle.osek_kernel.specs.Laws
use Rattle.osek_kernel.proofs.First.{none_found}
use Rattle.osek_kernel.proofs.Runs

-- ---- who runs

runs_active : (system : System) (k : Kernel) (c : Context) → runs system k ≡ Some c → IsActive k c
runs_active system k (contexts.Isr i) e = Runs.runs_of_isr system k i e
runs_active system k (contexts.Task t) e =
    let r : Runs.IsRunning system k.tasks t = Runs.running system k.tasks t (sym (Runs.task_runs system k (Runs.runs_of_task system k t e)) ∙ e) in
    ap is_some (ap (task_state k) (sym r.task) ∙ r.first.state)

some_runs : (system : System) (k : Kernel) (t : ℕ) (a : Active) → task_state k t ≡ Some a → (d : Option Candidate) → first_from system None 0 k.tasks ≡ d → IsSome (option_map (λ c. contexts.Task c.task) d)
some_runs system k t a e None none = absurd (none_found system k.tasks t a none e)
some_runs system k t a e (Some c) found = refl

somebody : (system : System) (k : Kernel) (c : Context) → IsActive k c → IsSome (runs system k)
somebody system k c e = elim (Runs.option_cases k.isr) [
  | inr i ↦ ap is_some (Runs.isr_runs system k i.0 i.1)
  | inl none ↦ ap is_some (Runs.task_runs system k none) ∙ somebody_if system k c none e
]
  where
    somebody_if : (system : System) (k : Kernel) (c : Context) → k.isr ≡ None → IsActive k c → IsSome (running_task system k.tasks)
    somebody_if system k (contexts.Isr i) none e = absurd (none-some i (sym none ∙ e))
    somebody_if system k (contexts.Task t) none e =
        let a : (x : Active) × (task_state k t ≡ Some x) = Runs.some_of (task_state k t) e in
        some_runs system k t a.0 a.1 (first_from system None 0 k.tasks) refl

goes_first : (system : System) (k : Kernel) (t u : ℕ) (own other : Active) → runs system k ≡ Some (contexts.Task t) → task_state k t ≡ Some own → task_state k u ≡ Some other → goes_before (rank_of system u other) (rank_of system t own) ≡ false
goes_first system k t u own other e here there =
    let r : Runs.IsRunning system k.tasks t = Runs.running system k.tasks t (sym (Runs.task_runs system k (Runs.runs_of_task system k t e)) ∙ e) in
    let same : r.first.active ≡ own = same_Some r.first.active own (sym r.first.state ∙ (ap (task_state k) r.task ∙ here)) in
    let rank : r.candidate.rank ≡ rank_of system t own = r.first.rank ∙ (ap (λ v. rank_of system v r.first.active) r.task ∙ ap (rank_of system t) same) in
    ap (goes_before (rank_of system u other)) (sym rank) ∙ r.first.first u other there

pub the_first_runs : Laws.TheFirstRuns
the_first_runs system k = record { active = runs_active system k; somebody = somebody system k; first = goes_first system k }

-- ---- dispatching

unchanged : (system : System) (k : Kernel) → dispatched system k ≡ k → Laws.Dispatches system k
unchanged system k e = record {
  count = ap (λ x. length x.tasks) e;
  mode = ap (λ x. x.mode) e;
  isr = ap (λ x. x.isr) e;
  disabled = ap (λ x. x.disabled) e;
  suspended = ap (λ x. x.suspended) e;
  stays = λ c h. subst (λ x. IsActive x c) (sym e) h;
  only = λ c h. subst (λ x. IsActive x c) e h;
  held = λ c. ap (λ x. held_by x c) e;
  runs_on = ap (runs system) e;
}

held_in-inner : (o : Option Active) → held_in (option_map (with_inner true) o) ≡ held_in o
held_in-inner None = refl
held_in-inner (Some a) = refl

held_raised : (k : Kernel) (t : ℕ) (c : Context) → held_by (change_task (with_inner true) k t) c ≡ held_by k c
held_raised k t (contexts.Isr i) = refl
held_raised k t (contexts.Task u) = elim (cases_eq u t) [
  | inr ne ↦ ap held_in (Runs.state-other k t u (option_map (with_inner true) (task_state k t)) ne)
  | inl same ↦ ap (λ v. held_in (task_state (change_task (with_inner true) k t) v)) same ∙ (held_here k t (task_state k t) refl ∙ ap (λ v. held_in (task_state k v)) (sym same))
]
  where
    held_here : (k : Kernel) (t : ℕ) (o : Option Active) → task_state k t ≡ o → held_in (task_state (change_task (with_inner true) k t) t) ≡ held_in (task_state k t)
    held_here k t (Some a) e = ap held_in (Runs.state-changed (with_inner true) k t a e) ∙ ap held_in (sym e)
    held_here k t None e = ap held_in (ap (λ s. task_state (with_task k t (option_map (with_inner true) s)) t) e ∙ Runs.state-gone k t) ∙ ap held_in (sym e)

raised : (system : System) (k : Kernel) (t : ℕ) → runs system k ≡ Some (contexts.Task t) → dispatched system k ≡ change_task (with_inner true) k t → Laws.Dispatches system k
raised system k t r e =
    let none : k.isr ≡ None = Runs.runs_of_task system k t r in
    let task : running_task system k.tasks ≡ Some (contexts.Task t) = sym (Runs.task_runs system k none) ∙ r in
    let on : runs system (change_task (with_inner true) k t) ≡ Some (contexts.Task t) =
    Runs.task_runs system (change_task (with_inner true) k t) none ∙ Runs.raised_runs system (with_inner true) k t (Runs.inner_raises system t) task in
    record {
      count = ap (λ x. length x.tasks) e ∙ length-set k.tasks t (option_map (with_inner true) (task_state k t));
      mode = ap (λ x. x.mode) e;
      isr = ap (λ x. x.isr) e;
      disabled = ap (λ x. x.disabled) e;
      suspended = ap (λ x. x.suspended) e;
      stays = λ c h. subst (λ x. IsActive x c) (sym e) (Runs.changed_stays (with_inner true) k t c h);
      only = λ c h. Runs.changed_only (with_inner true) k t c (subst (λ x. IsActive x c) e h);
      held = λ c. ap (λ x. held_by x c) e ∙ held_raised k t c;
      runs_on = ap (runs system) e ∙ (on ∙ sym r);
    }

dispatches_if : (system : System) (k : Kernel) (c : Option Context) → runs system k ≡ c → Laws.Dispatches system k
dispatches_if system k None e = unchanged system k (ap (raise system k) e)
dispatches_if system k (Some (contexts.Isr i)) e = unchanged system k (ap (raise system k) e)
dispatches_if system k (Some (contexts.Task t)) e =
    elim (cases_Bool (is_some (inner_ceiling system t))) [
      | inl has ↦ raised system k t e (ap (raise system k) e ∙ ap (λ b. cond b (change_task (with_inner true) k t) k) has)
      | inr lacks ↦ unchanged system k (ap (raise system k) e ∙ ap (λ b. cond b (change_task (with_inner true) k t) k) lacks)
    ]

pub dispatch_keeps_active : Laws.DispatchKeepsActive
dispatch_keeps_active system k = dispatches_if system k (runs system k) refl
