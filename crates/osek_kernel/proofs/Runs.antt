-- Which context runs, and who is active after a change of what a task has.
use Rattle.std.proofs.Common.{◌≡◌, ℕ, zero, suc, ◌<◌, ◌≤◌, Bool, true, false, List, [], ◌∷◌, ◌++◌, length, get_or, set, Option, Some, None, refl, sym, ◌∙◌, ap, subst, ◌⊎◌, inl, inr, arith}
use Rattle.std.specs.Prelude.{option_map, is_some, max, not, ◌||◌}
use Rattle.std.proofs.lemmas.Bool.{cases_eq, both_ways}
use Rattle.std.proofs.lemmas.Option.{same_Some, none-some}
use Rattle.std.proofs.lemmas.List.{get_or-set_same, get_or-set_other}
use Rattle.std.proofs.lemmas.Grind.{fold-append}
use Rattle.oil_model.specs.declared.system.System.{System}
use Rattle.osek_kernel.specs.declared.context.Context.{Context}
use Rattle.osek_kernel.specs.declared.context.Context.TheVariants as contexts
use Rattle.osek_kernel.specs.declared.kernel.Active.{Active}
use Rattle.osek_kernel.specs.declared.kernel.Kernel.{Kernel}
use Rattle.osek_kernel.specs.declared.running.Candidate.{Candidate}
use Rattle.osek_kernel.specs.Kernel.{task_state, with_task, change_task, with_inner, IsActive}
use Rattle.osek_kernel.specs.Running.{rank_of, first_from, running_task, running_beside, runs, raised_by, base_priority, ceiling_of, is_empty}
use Rattle.osek_kernel.specs.Served.{holding}
use Rattle.osek_kernel.proofs.Ranks.{IsRaised}
use Rattle.osek_kernel.proofs.First.{IsFirst, states_of, first_found, none_found, first_is, raised_first}

-- ---- small tools

pub option_cases : {A : Type 0} (o : Option A) → (o ≡ None) ⊎ ((x : A) × (o ≡ Some x))
option_cases None = inl refl
option_cases (Some x) = inr (x, refl)

pub some_of : {A : Type 0} (o : Option A) → is_some o ≡ true → (x : A) × (o ≡ Some x)
some_of None e = cc
some_of (Some x) e = (x, refl)

-- ---- the states of tasks

pub state-other : (k : Kernel) (t u : ℕ) (s : Option Active) → (u ≡ t → ⊥) → task_state (with_task k t s) u ≡ task_state k u
state-other k t u s ne = get_or-set_other k.tasks t u s None ne

pub state-same : (k : Kernel) (t : ℕ) (s : Option Active) → t < length k.tasks → task_state (with_task k t s) t ≡ s
state-same k t s l = get_or-set_same k.tasks t s None l

set_default : (states : List (Option Active)) (t : ℕ) → get_or (set states t None) t None ≡ None
set_default [] t = refl
set_default (x ∷ xs) zero = refl
set_default (x ∷ xs) (suc t) = set_default xs t

pub state-gone : (k : Kernel) (t : ℕ) → task_state (with_task k t None) t ≡ None
state-gone k t = set_default k.tasks t

inside : (states : List (Option Active)) (u : ℕ) (a : Active) → get_or states u None ≡ Some a → u < length states
inside [] u a e = absurd (none-some a e)
inside (x ∷ xs) zero a e = omega arith
inside (x ∷ xs) (suc u) a e = let l : u < length xs = inside xs u a e in omega arith

pub active_inside : (k : Kernel) (t : ℕ) (a : Active) → task_state k t ≡ Some a → t < length k.tasks
active_inside k t a e = inside k.tasks t a e

-- after a change of what a task has
pub state-changed : (change : Active → Active) (k : Kernel) (t : ℕ) (a : Active) → task_state k t ≡ Some a → task_state (change_task change k t) t ≡ Some (change a)
state-changed change k t a e = state-same k t (option_map change (task_state k t)) (active_inside k t a e) ∙ ap (option_map change) e

pub changed_stays : (change : Active → Active) (k : Kernel) (t : ℕ) (c : Context) → IsActive k c → IsActive (change_task change k t) c
changed_stays change k t (contexts.Isr i) e = e
changed_stays change k t (contexts.Task u) e = elim (cases_eq u t) [
  | inl same ↦ let a : (x : Active) × (task_state k u ≡ Some x) = some_of (task_state k u) e in
      ap is_some (ap (task_state (change_task change k t)) same ∙ state-changed change k t a.0 (ap (task_state k) (sym same) ∙ a.1))
  | inr ne ↦ ap is_some (state-other k t u (option_map change (task_state k t)) ne) ∙ e
]

pub changed_only : (change : Active → Active) (k : Kernel) (t : ℕ) (c : Context) → IsActive (change_task change k t) c → IsActive k c
changed_only change k t (contexts.Isr i) e = e
changed_only change k t (contexts.Task u) e = elim (cases_eq u t) [
  | inl same ↦ elim (option_cases (task_state k t)) [
    | inl gone ↦ absurd (let gone' : task_state (change_task change k t) u ≡ None =
        ap (task_state (change_task change k t)) same ∙ (ap (λ s. task_state (with_task k t s) t) (ap (option_map change) gone) ∙ state-gone k t) in
        both_ways (is_some (task_state (change_task change k t) u)) (ap is_some gone') e)
    | inr a ↦ ap is_some (ap (task_state k) same ∙ a.1)
  ]
  | inr ne ↦ ap is_some (sym (state-other k t u (option_map change (task_state k t)) ne)) ∙ e
]

-- ---- who runs

pub isr_runs : (system : System) (k : Kernel) (i : ℕ) → k.isr ≡ Some i → runs system k ≡ Some (contexts.Isr i)
isr_runs system k i e = ap (λ o. running_beside o (running_task system k.tasks)) e

pub task_runs : (system : System) (k : Kernel) → k.isr ≡ None → runs system k ≡ running_task system k.tasks
task_runs system k e = ap (λ o. running_beside o (running_task system k.tasks)) e

-- the running task is the first of all
pub record IsRunning (system : System) (states : List (Option Active)) (t : ℕ) : Type 0 where
  pub candidate : Candidate
  pub task : candidate.task ≡ t
  pub first : IsFirst system (states_of states) candidate

running_if : (system : System) (states : List (Option Active)) (t : ℕ) (d : Option Candidate) → first_from system None 0 states ≡ d → option_map (λ c. contexts.Task c.task) d ≡ Some (contexts.Task t) → IsRunning system states t
running_if system states t None e r = cc
running_if system states t (Some c) e r = record { candidate = c; task = cc; first = first_found system states c e }

pub running : (system : System) (states : List (Option Active)) (t : ℕ) → running_task system states ≡ Some (contexts.Task t) → IsRunning system states t
running system states t e = running_if system states t (first_from system None 0 states) refl e

runs_if : (system : System) (states : List (Option Active)) (c : Candidate) → IsFirst system (states_of states) c → (d : Option Candidate) → first_from system None 0 states ≡ d → option_map (λ x. contexts.Task x.task) d ≡ Some (contexts.Task c.task)
runs_if system states c b None e = absurd (none_found system states c.task b.active e b.state)
runs_if system states c b (Some d) e = ap (λ o. option_map contexts.Task o) (first_is system states c b (Some d) e)

first_runs : (system : System) (states : List (Option Active)) (c : Candidate) → IsFirst system (states_of states) c → running_task system states ≡ Some (contexts.Task c.task)
first_runs system states c b = runs_if system states c b (first_from system None 0 states) refl

-- no ISR runs as a task
no_isr : (system : System) (states : List (Option Active)) (i : ℕ) (d : Option Candidate) → option_map (λ c. contexts.Task c.task) d ≡ Some (contexts.Isr i) → ⊥
no_isr system states i None e = cc
no_isr system states i (Some c) e = cc

pub runs_of_task : (system : System) (k : Kernel) (t : ℕ) → runs system k ≡ Some (contexts.Task t) → k.isr ≡ None
runs_of_task system k t e = elim (option_cases k.isr) [
  | inl none ↦ none
  | inr i ↦ absurd (let f : contexts.Isr i.0 ≡ contexts.Task t = same_Some (contexts.Isr i.0) (contexts.Task t) (sym (isr_runs system k i.0 i.1) ∙ e) in cc)
]

pub runs_of_isr : (system : System) (k : Kernel) (i : ℕ) → runs system k ≡ Some (contexts.Isr i) → k.isr ≡ Some i
runs_of_isr system k i e = elim (option_cases k.isr) [
  | inl none ↦ absurd (no_isr system k.tasks i (first_from system None 0 k.tasks) (sym (task_runs system k none) ∙ e))
  | inr j ↦ j.1 ∙ (let f : contexts.Isr j.0 ≡ contexts.Isr i = same_Some (contexts.Isr j.0) (contexts.Isr i) (sym (isr_runs system k j.0 j.1) ∙ e) in cc)
]

-- a running task whose rank a change raises runs on
pub raised_runs : (system : System) (change : Active → Active) (k : Kernel) (t : ℕ) → ((a : Active) → IsRaised (rank_of system t a) (rank_of system t (change a))) → running_task system k.tasks ≡ Some (contexts.Task t) → running_task system (change_task change k t).tasks ≡ Some (contexts.Task t)
raised_runs system change k t up e =
    let r : IsRunning system k.tasks t = running system k.tasks t e in
    let c : Candidate = r.candidate in
    let a : Active = r.first.active in
    let state : task_state k t ≡ Some a = ap (task_state k) (sym r.task) ∙ r.first.state in
    let here : task_state (change_task change k t) c.task ≡ Some (change a) = ap (task_state (change_task change k t)) r.task ∙ state-changed change k t a state in
    let others : (u : ℕ) → (u ≡ c.task → ⊥) → task_state (change_task change k t) u ≡ task_state k u = λ u ne. state-other k t u (option_map change (task_state k t)) (λ same. ne (same ∙ sym r.task)) in
    let better : IsRaised c.rank (rank_of system c.task (change a)) = subst (λ x. IsRaised x (rank_of system c.task (change a))) (sym r.first.rank) (subst (λ u. IsRaised (rank_of system u a) (rank_of system u (change a))) (sym r.task) (up a)) in
    first_runs system (change_task change k t).tasks (record { task = c.task; rank = rank_of system c.task (change a) })
    (raised_first system (states_of k.tasks) (states_of (change_task change k t).tasks) c (change a) r.first here others better)
    ∙ ap (λ u. Some (contexts.Task u)) r.task

-- ---- what raises

raised_by-base : (system : System) (held : List ℕ) (a b : ℕ) → a ≤ b → raised_by system a held ≤ raised_by system b held
raised_by-base system [] a b l = l
raised_by-base system (r ∷ rs) a b l = raised_by-base system rs (max a (ceiling_of system r)) (max b (ceiling_of system r)) (omega arith)

base-inner : (system : System) (t : ℕ) (inner : Bool) → base_priority system t inner ≤ base_priority system t true
base-inner system t true = omega arith
base-inner system t false = omega arith

raised_if_inner : (inner other : Bool) → (inner || other) ≡ true → (true || other) ≡ true
raised_if_inner inner other e = refl

pub inner_raises : (system : System) (t : ℕ) (a : Active) → IsRaised (rank_of system t a) (rank_of system t (with_inner true a))
inner_raises system t a = record {
  current = raised_by-base system a.held (base_priority system t a.inner) (base_priority system t true) (base-inner system t a.inner);
  raised = λ e. refl;
  own = refl;
}

not_empty-append : (xs : List ℕ) (y : ℕ) → is_empty (xs ++ y ∷ []) ≡ false
not_empty-append [] y = refl
not_empty-append (x ∷ xs) y = refl

or_true : (b c : Bool) → c ≡ false → (b || not c) ≡ true
or_true true c e = refl
or_true false c e = ap not e

pub holding_raises : (system : System) (resource t : ℕ) (a : Active) → IsRaised (rank_of system t a) (rank_of system t (holding resource a))
holding_raises system resource t a = record {
  current = let e : raised_by system (base_priority system t a.inner) (a.held ++ resource ∷ []) ≡ max (raised_by system (base_priority system t a.inner) a.held) (ceiling_of system resource) = fold-append (λ top r. max top (ceiling_of system r)) (base_priority system t a.inner) a.held (resource ∷ []) in omega (arith, e);
  raised = λ e. or_true a.inner (is_empty (a.held ++ resource ∷ [])) (not_empty-append a.held resource);
  own = refl;
}
