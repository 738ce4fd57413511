-- Changes of what a task has.
use Rattle.std.proofs.Common.{◌≡◌, ℕ, None, Some, Option, ◌∙◌, ap}
use Rattle.std.specs.Prelude.{option_map, Result, Ok, Err, OnOk, OnErr}
use Rattle.std.proofs.lemmas.List.{set-set, set-get_or}
use Rattle.osek_kernel.specs.declared.kernel.Active.{Active}
use Rattle.osek_kernel.specs.declared.kernel.Kernel.{Kernel}
use Rattle.osek_kernel.specs.Kernel.{task_state, with_task, change_task}

-- a task's last state stands
pub with_task-with_task : (k : Kernel) (t : ℕ) (a b : Option Active) → with_task (with_task k t a) t b ≡ with_task k t b
with_task-with_task k t a b = ap (λ states. record k { tasks = states }) (set-set k.tasks t a b)

pub with_task-same : (k : Kernel) (t : ℕ) → with_task k t (task_state k t) ≡ k
with_task-same k t = ap (λ states. record k { tasks = states }) (set-get_or k.tasks t None)

-- a task that is taken out and put back with a change is changed
pub put_back : (change : Active → Active) (k : Kernel) (t : ℕ) (a : Active) → Some a ≡ task_state k t → with_task (with_task k t None) t (Some (change a)) ≡ change_task change k t
put_back change k t a e = with_task-with_task k t None (Some (change a)) ∙ ap (λ state. with_task k t (option_map change state)) e

-- and put back as it was it stands as before
pub put_back-same : (k : Kernel) (t : ℕ) (a : Active) → Some a ≡ task_state k t → with_task (with_task k t None) t (Some a) ≡ k
put_back-same k t a e = with_task-with_task k t None (Some a) ∙ (ap (λ state. with_task k t state) e ∙ with_task-same k t)

-- the same, of the kernels after each step
pub put_changed : (change : Active → Active) (before out after : Kernel) (t : ℕ) (a b : Active) → Some a ≡ task_state before t → out ≡ with_task before t None → after ≡ with_task out t (Some b) → b ≡ change a → after ≡ change_task change before t
put_changed change before out after t a b state gone put same =
    put ∙ (ap (λ k. with_task k t (Some b)) gone ∙ (ap (λ c. with_task (with_task before t None) t (Some c)) same ∙ put_back change before t a state))

pub put_as_it_was : (before out after : Kernel) (t : ℕ) (a b : Active) → Some a ≡ task_state before t → out ≡ with_task before t None → after ≡ with_task out t (Some b) → b ≡ a → after ≡ before
put_as_it_was before out after t a b state gone put same =
    put ∙ (ap (λ k. with_task k t (Some b)) gone ∙ (ap (λ c. with_task (with_task before t None) t (Some c)) same ∙ put_back-same before t a state))

-- what follows from what holds at Ok, and at Err
pub on_ok : {X E P Q : Type 0} (r : Result X E) → (P → Q) → OnOk r P → OnOk r Q
on_ok (Ok x) f p = f p
on_ok (Err e) f p = tt

pub on_err : {X E P Q : Type 0} (r : Result X E) → (P → Q) → OnErr r P → OnErr r Q
on_err (Ok x) f p = tt
on_err (Err e) f p = f p
