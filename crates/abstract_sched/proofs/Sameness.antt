-- Sameness of scheduler states: what the code tests, what the definition says, and equality.
use Rattle.std.proofs.Common.{◌≡◌, ℕ, Bool, List, Option, Some, None, ap, refl}
use Rattle.std.specs.Prelude.{◌&&◌, nat_eq}
use Rattle.std.specs.Bool.{beq, Decides}
use Rattle.std.specs.Cmp.{booleans_Decides}
use Rattle.std.specs.Option.{option_eq}
use Rattle.std.specs.Cmp.Lexicographic.{pointwise}
use Rattle.abstract_sched.specs.States.{same_isr, same_task, same_state}
use Rattle.std.proofs.lemmas.Bool.Decides.{Decides-and, Decides-eqb, Decides-like}
use Rattle.std.proofs.lemmas.Slice.Eq.{bytes_eq-Decides, slice_eq-Decides}
use Rattle.abstract_sched.specs.declared.states.AbsState.{AbsState}
use Rattle.abstract_sched.specs.declared.states.IsrAt.{IsrAt}
use Rattle.abstract_sched.specs.declared.states.TaskAt.{TaskAt}
use Rattle.abstract_sched.specs.declared.states.TaskAt.TheVariants.{Suspended, At}
use Rattle.abstract_sched.specs.contracts.states.AbsStatePartialEq.TheImpl as state
use Rattle.abstract_sched.specs.contracts.states.TaskAtPartialEq.TheImpl as task

-- tests that agree everywhere are one
one_test : {A : Type 0} (test other : A → A → Bool) → ((a b : A) → test a b ≡ other a b) → test ≡ other
one_test test other agree = λ i a b. agree a b i

tasks : task.eq-value.it ≡ same_task
tasks = one_test task.eq-value.it same_task at
  where
    at : (a b : TaskAt) → task.eq-value.it a b ≡ same_task a b
    at Suspended Suspended = refl
    at Suspended (At block' inner' held') = refl
    at (At block inner held) Suspended = refl
    at (At block inner held) (At block' inner' held') = refl

-- the test of the code
pub states : state.eq-value.it ≡ same_state
states = one_test state.eq-value.it same_state (λ a b. ap (λ (test : TaskAt → TaskAt → Bool). nat_eq a.mode b.mode && (pointwise test a.tasks b.tasks && (option_eq same_isr a.isr b.isr && (beq a.disabled b.disabled && nat_eq a.suspended b.suspended)))) tasks)

isr_Decides : (a b : IsrAt) → Decides (same_isr a b) (a ≡ b)
isr_Decides a b =
    Decides-like _ (λ p. both a.isr b.isr a.block b.block p.0 p.1) (λ e. (ap (λ at. at.isr) e, ap (λ at. at.block) e)) (Decides-and _ _ (Decides-eqb a.isr b.isr) (Decides-eqb a.block b.block))
  where
    both : (i j m n : ℕ) → i ≡ j → m ≡ n → ◌≡◌ {A = IsrAt} (record { isr = i; block = m }) (record { isr = j; block = n })
    both i j m n e f = rw (e, f) refl

option_Decides : {A : Type 0} (test : A → A → Bool) → ((a b : A) → Decides (test a b) (a ≡ b)) → (a b : Option A) → Decides (option_eq test a b) (a ≡ b)
option_Decides test each None None = (λ _. refl, λ _. refl)
option_Decides test each None (Some b) = (λ is. absurd cc, λ is. absurd cc)
option_Decides test each (Some a) None = (λ is. absurd cc, λ is. absurd cc)
option_Decides test each (Some a) (Some b) = Decides-like _ (λ e. ap Some e) (λ e. cc) (each a b)

task_Decides : (a b : TaskAt) → Decides (same_task a b) (a ≡ b)
task_Decides Suspended Suspended = (λ _. refl, λ _. refl)
task_Decides Suspended (At block' inner' held') = (λ is. absurd cc, λ is. absurd cc)
task_Decides (At block inner held) Suspended = (λ is. absurd cc, λ is. absurd cc)
task_Decides (At block inner held) (At block' inner' held') =
    Decides-like _ (λ p. let e = p.0 in let f = p.1.0 in let h = p.1.1 in rw (e, f, h) refl) (λ e. (cc, (cc, cc)))
    (Decides-and _ _ (Decides-eqb block block') (Decides-and _ _ (booleans_Decides inner inner') (bytes_eq-Decides held held')))

pub state_Decides : (a b : AbsState) → Decides (same_state a b) (a ≡ b)
state_Decides a b =
    Decides-like _ (λ p. all a.mode b.mode a.tasks b.tasks a.isr b.isr a.disabled b.disabled a.suspended b.suspended p.0 p.1.0 p.1.1.0 p.1.1.1.0 p.1.1.1.1)
    (λ e. (ap (λ s. s.mode) e, (ap (λ s. s.tasks) e, (ap (λ s. s.isr) e, (ap (λ s. s.disabled) e, ap (λ s. s.suspended) e)))))
    (Decides-and _ _ (Decides-eqb a.mode b.mode) (Decides-and _ _ (slice_eq-Decides task_Decides a.tasks b.tasks _ refl) (Decides-and _ _ (option_Decides same_isr isr_Decides a.isr b.isr)
    (Decides-and _ _ (booleans_Decides a.disabled b.disabled) (Decides-eqb a.suspended b.suspended)))))
  where
    all : (m m' : ℕ) (ts ts' : List TaskAt) (i i' : Option IsrAt) (d d' : Bool) (n n' : ℕ) → m ≡ m' → ts ≡ ts' → i ≡ i' → d ≡ d' → n ≡ n'
        → ◌≡◌ {A = AbsState} (record { mode = m; tasks = ts; isr = i; disabled = d; suspended = n }) (record { mode = m'; tasks = ts'; isr = i'; disabled = d'; suspended = n' })
    all m m' ts ts' i i' d d' n n' em et ei ed en = rw (em, et, ei, ed, en) refl
