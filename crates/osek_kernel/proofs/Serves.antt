-- Who is active and who runs after a service.
use Rattle.std.proofs.Common.{◌≡◌, ℕ, ◌<◌, length, get_or, Some, None, refl, sym, ◌∙◌, ap, subst, ◌⊎◌, inl, inr}
use Rattle.std.specs.Prelude.{option_map, is_some}
use Rattle.std.proofs.lemmas.Bool.{cases_eq, both_ways}
use Rattle.std.proofs.lemmas.Option.{same_Some, none-some}
use Rattle.std.proofs.lemmas.List.{length-set}
use Rattle.oil_model.specs.declared.system.System.{System}
use Rattle.osek_kernel.specs.declared.context.Context.{Context}
use Rattle.osek_kernel.specs.declared.context.Context.TheVariants as contexts
use Rattle.osek_kernel.specs.declared.kernel.Active.{Active}
use Rattle.osek_kernel.specs.declared.kernel.Kernel.{Kernel}
use Rattle.osek_kernel.specs.declared.service.Service.{Service}
use Rattle.osek_kernel.specs.Kernel.{task_state, IsActive, fresh, activate, suspend}
use Rattle.osek_kernel.specs.Running.{runs, running_task, running_beside}
use Rattle.osek_kernel.specs.Served
use Rattle.osek_kernel.specs.Laws.{ServesActive, ServesRunning, ServicesKeepActive, CallersRunOn}
use Rattle.osek_kernel.proofs.Runs.{some_of, state-other, state-same, state-gone, active_inside, changed_stays, changed_only, isr_runs, task_runs, runs_of_task, runs_of_isr, raised_runs, holding_raises}
use Rattle.osek_kernel.proofs.Outcomes.{Outcome, Keeps, Changes, keeps, holds, loosens, activates, ends, chains, outcome_of}

-- ---- where tasks and the ISR are the same

along : (k j : Kernel) → j.tasks ≡ k.tasks → j.isr ≡ k.isr → (c : Context) → IsActive k c → IsActive j c
along k j tasks isr (contexts.Task t) a = ap (λ states. is_some (get_or states t None)) tasks ∙ a
along k j tasks isr (contexts.Isr i) a = isr ∙ a

runs_along : (system : System) (k j : Kernel) → j.tasks ≡ k.tasks → j.isr ≡ k.isr → runs system j ≡ runs system k
runs_along system k j tasks isr = ap (λ states. running_beside j.isr (running_task system states)) tasks ∙ ap (λ i. running_beside i (running_task system k.tasks)) isr

-- ---- where the caller's state changes

caller_count : (change : Active → Active) (c : Context) (k : Kernel) → length (Served.change_caller change c k).tasks ≡ length k.tasks
caller_count change (contexts.Task t) k = length-set k.tasks t (option_map change (task_state k t))
caller_count change (contexts.Isr i) k = refl

caller_mode : (change : Active → Active) (c : Context) (k : Kernel) → (Served.change_caller change c k).mode ≡ k.mode
caller_mode change (contexts.Task t) k = refl
caller_mode change (contexts.Isr i) k = refl

caller_stays : (change : Active → Active) (d : Context) (k : Kernel) (c : Context) → IsActive k c → IsActive (Served.change_caller change d k) c
caller_stays change (contexts.Task t) k c a = changed_stays change k t c a
caller_stays change (contexts.Isr i) k c a = a

caller_only : (change : Active → Active) (d : Context) (k : Kernel) (c : Context) → IsActive (Served.change_caller change d k) c → IsActive k c
caller_only change (contexts.Task t) k c a = changed_only change k t c a
caller_only change (contexts.Isr i) k c a = a

-- ---- where a task is activated

activate_stays : (k : Kernel) (t : ℕ) (c : Context) → IsActive k c → IsActive (activate k t) c
activate_stays k t (contexts.Isr i) a = a
activate_stays k t (contexts.Task u) a = elim (cases_eq u t) [
  | inr ne ↦ ap is_some (state-other k t u (Some fresh) ne) ∙ a
  | inl same ↦ let s : (x : Active) × (task_state k u ≡ Some x) = some_of (task_state k u) a in
      ap is_some (ap (task_state (activate k t)) same ∙ state-same k t (Some fresh) (active_inside k t s.0 (ap (task_state k) (sym same) ∙ s.1)))
]

activate_only : (k : Kernel) (t : ℕ) (c : Context) → IsActive (activate k t) c → IsActive k c ⊎ (Some (contexts.Task t) ≡ Some c)
activate_only k t (contexts.Isr i) a = inl a
activate_only k t (contexts.Task u) a = elim (cases_eq u t) [
  | inl same ↦ inr (ap (λ v. Some (contexts.Task v)) (sym same))
  | inr ne ↦ inl (ap is_some (sym (state-other k t u (Some fresh) ne)) ∙ a)
]

-- ---- where a context is ended

suspend_count : (k : Kernel) (c : Context) → length (suspend k c).tasks ≡ length k.tasks
suspend_count k (contexts.Task t) = length-set k.tasks t None
suspend_count k (contexts.Isr i) = refl

suspend_mode : (k : Kernel) (c : Context) → (suspend k c).mode ≡ k.mode
suspend_mode k (contexts.Task t) = refl
suspend_mode k (contexts.Isr i) = refl

suspend_gone : (k : Kernel) (c : Context) → IsActive (suspend k c) c → ⊥
suspend_gone k (contexts.Task t) a = both_ways (is_some (task_state (suspend k (contexts.Task t)) t)) (ap is_some (state-gone k t)) a
suspend_gone k (contexts.Isr i) a = none-some i a

suspend_stays : (k : Kernel) (d c : Context) → IsActive k d → IsActive k c → (d ≡ c → ⊥) → IsActive (suspend k d) c
suspend_stays k (contexts.Task t) (contexts.Isr i) b a ne = a
suspend_stays k (contexts.Task t) (contexts.Task u) b a ne = ap is_some (state-other k t u None (λ same. ne (ap contexts.Task (sym same)))) ∙ a
suspend_stays k (contexts.Isr j) (contexts.Task u) b a ne = a
suspend_stays k (contexts.Isr j) (contexts.Isr i) b a ne = absurd (ne (ap contexts.Isr (same_Some j i (sym b ∙ a))))

suspend_only : (k : Kernel) (d c : Context) → IsActive (suspend k d) c → IsActive k c
suspend_only k (contexts.Task t) (contexts.Isr i) a = a
suspend_only k (contexts.Task t) (contexts.Task u) a = elim (cases_eq u t) [
  | inl same ↦ absurd (suspend_gone k (contexts.Task t) (ap (λ v. is_some (task_state (suspend k (contexts.Task t)) v)) (sym same) ∙ a))
  | inr ne ↦ ap is_some (sym (state-other k t u None ne)) ∙ a
]
suspend_only k (contexts.Isr j) (contexts.Task u) a = a
suspend_only k (contexts.Isr j) (contexts.Isr i) a = absurd (none-some i a)

-- ---- who is active

kept : (k : Kernel) (d : Context) (after : Served.Served) → Keeps k after → ServesActive k d after
kept k d after h = record {
  count = ap (λ states. length states) h.tasks;
  mode = h.mode;
  ended = λ c e. absurd (none-some c (sym h.ended ∙ e));
  gone = λ c e. absurd (none-some c (sym h.ended ∙ e));
  stays = λ c a n. along k after.kernel h.tasks h.isr c a;
  begins = λ t l e. absurd (none-some t (sym h.activated ∙ e));
  again = λ t e. absurd (none-some t (sym h.activated ∙ e));
  only = λ c a. inl (along after.kernel k (sym h.tasks) (sym h.isr) c a);
}

changed : (change : Active → Active) (k : Kernel) (d : Context) (after : Served.Served) → Changes change k d after → ServesActive k d after
changed change k d after h = record {
  count = ap (λ j. length j.tasks) h.changed ∙ caller_count change d k;
  mode = ap (λ j. j.mode) h.changed ∙ caller_mode change d k;
  ended = λ c e. absurd (none-some c (sym h.ended ∙ e));
  gone = λ c e. absurd (none-some c (sym h.ended ∙ e));
  stays = λ c a n. subst (λ j. IsActive j c) (sym h.changed) (caller_stays change d k c a);
  begins = λ t l e. absurd (none-some t (sym h.activated ∙ e));
  again = λ t e. absurd (none-some t (sym h.activated ∙ e));
  only = λ c a. inl (caller_only change d k c (subst (λ j. IsActive j c) h.changed a));
}

activated : (k : Kernel) (d : Context) (t : ℕ) → task_state k t ≡ None → ServesActive k d (Served.activates t k)
activated k d t none = record {
  count = length-set k.tasks t (Some fresh);
  mode = refl;
  ended = λ c e. absurd (none-some c e);
  gone = λ c e. absurd (none-some c e);
  stays = λ c a n. activate_stays k t c a;
  begins = λ u l e. let same : t ≡ u = same_Some t u e in
      ap (λ v. task_state (activate k v) u) same ∙ state-same k u (Some fresh) l;
  again = λ u e. inl (ap (task_state k) (sym (same_Some t u e)) ∙ none);
  only = λ c a. activate_only k t c a;
}

ended : (k : Kernel) (d : Context) → IsActive k d → ServesActive k d (Served.ends d k)
ended k d active = record {
  count = suspend_count k d;
  mode = suspend_mode k d;
  ended = λ c e. sym (same_Some d c e);
  gone = λ c e n a. suspend_gone k c (subst (λ b. IsActive (suspend k b) c) (same_Some d c e) a);
  stays = λ c a n. suspend_stays k d c active a (λ same. n (ap Some same));
  begins = λ t l e. absurd (none-some t e);
  again = λ t e. absurd (none-some t e);
  only = λ c a. inl (suspend_only k d c a);
}

chained : (k : Kernel) (d : Context) (t : ℕ) → IsActive k d → (task_state k t ≡ None) ⊎ (d ≡ contexts.Task t) → ServesActive k d (Served.chains d t k)
chained k d t active free = record {
  count = length-set (suspend k d).tasks t (Some fresh) ∙ suspend_count k d;
  mode = suspend_mode k d;
  ended = λ c e. sym (same_Some d c e);
  gone = λ c e n a. elim (activate_only (suspend k d) t c a) [
    | inl b ↦ suspend_gone k c (subst (λ x. IsActive (suspend k x) c) (same_Some d c e) b)
    | inr same ↦ n same
  ];
  stays = λ c a n. activate_stays (suspend k d) t c (suspend_stays k d c active a (λ same. n (ap Some same)));
  begins = λ u l e. let same : t ≡ u = same_Some t u e in
      ap (λ v. task_state (activate (suspend k d) v) u) same ∙ state-same (suspend k d) u (Some fresh) (subst (λ n. u < n) (sym (suspend_count k d)) l);
  again = λ u e. elim free [
    | inl none ↦ inl (ap (task_state k) (sym (same_Some t u e)) ∙ none)
    | inr own ↦ inr (ap Some (own ∙ ap contexts.Task (same_Some t u e)))
  ];
  only = λ c a. elim (activate_only (suspend k d) t c a) [
    | inl b ↦ inl (suspend_only k d c b)
    | inr same ↦ inr same
  ];
}

serves : (k : Kernel) (d : Context) (service : Service) (argument : ℕ) (after : Served.Served) → IsActive k d → Outcome k d service argument after → ServesActive k d after
serves k d service argument after active (keeps h) = kept k d after h
serves k d service argument after active (holds h) = changed (Served.holding argument) k d after h
serves k d service argument after active (loosens change which h) = changed change k d after h
serves k d service argument after active (activates none e) = subst (ServesActive k d) (sym e) (activated k d argument none)
serves k d service argument after active (ends e) = subst (ServesActive k d) (sym e) (ended k d active)
serves k d service argument after active (chains free e) = subst (ServesActive k d) (sym e) (chained k d argument active free)

pub services_keep_active : ServicesKeepActive
services_keep_active system k d service argument active = serves k d service argument (Served.served system k d service argument) active (outcome_of system k d service argument)

-- ---- who runs

isr_unchanged : (change : Active → Active) (d : Context) (k : Kernel) (i : ℕ) → d ≡ contexts.Isr i → Served.change_caller change d k ≡ k
isr_unchanged change d k i e = ap (λ c. Served.change_caller change c k) e

holder_runs : (system : System) (resource : ℕ) (d : Context) (k : Kernel) → runs system k ≡ Some d → runs system (Served.change_caller (Served.holding resource) d k) ≡ Some d
holder_runs system resource (contexts.Isr i) k r = r
holder_runs system resource (contexts.Task t) k r =
    let none : k.isr ≡ None = runs_of_task system k t r in
    task_runs system (Served.change_caller (Served.holding resource) (contexts.Task t) k) none
    ∙ raised_runs system (Served.holding resource) k t (holding_raises system resource t) (sym (task_runs system k none) ∙ r)

isr_of : (system : System) (k : Kernel) (d : Context) (i : ℕ) → runs system k ≡ Some d → d ≡ contexts.Isr i → k.isr ≡ Some i
isr_of system k d i r e = runs_of_isr system k i (r ∙ ap Some e)

runs_on : (system : System) (k : Kernel) (d : Context) (service : Service) (argument : ℕ) (after : Served.Served) → runs system k ≡ Some d → after.reply.ended ≡ None → Outcome k d service argument after → ServesRunning system d service after
runs_on system k d service argument after r n (keeps h) = record {
  isr = λ i e. runs_along system k after.kernel h.tasks h.isr ∙ r;
  task = λ a b c. runs_along system k after.kernel h.tasks h.isr ∙ r;
}
runs_on system k d service argument after r n (holds h) = record {
  isr = λ i e. ap (runs system) h.changed ∙ holder_runs system argument d k r;
  task = λ a b c. ap (runs system) h.changed ∙ holder_runs system argument d k r;
}
runs_on system k d service argument after r n (loosens change which h) = record {
  isr = λ i e. ap (runs system) (h.changed ∙ isr_unchanged change d k i e) ∙ r;
  task = λ a b c. absurd (elim which [ inl one ↦ b one | inr other ↦ c other ]);
}
runs_on system k d service argument after r n (activates none e) = record {
  isr = λ i own. isr_runs system after.kernel i (ap (λ s. s.kernel.isr) e ∙ isr_of system k d i r own) ∙ ap Some (sym own);
  task = λ a b c. absurd (none-some argument (sym a ∙ ap (λ s. s.reply.activated) e));
}
runs_on system k d service argument after r n (ends e) = absurd (none-some d (sym n ∙ ap (λ s. s.reply.ended) e))
runs_on system k d service argument after r n (chains free e) = absurd (none-some d (sym n ∙ ap (λ s. s.reply.ended) e))

pub callers_run_on : CallersRunOn
callers_run_on system k d service argument r n = runs_on system k d service argument (Served.served system k d service argument) r n (outcome_of system k d service argument)
