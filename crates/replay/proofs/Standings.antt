-- A task stands somewhere exactly where it is active.
use Rattle.std.proofs.Common.{◌≡◌, ◌↔◌, ℕ, ◌<◌, Bool, true, false, cond, length, Option, Some, None, refl, sym, ◌∙◌, ap}
use Rattle.std.specs.Prelude.{is_some, not, option_map}
use Rattle.oil_model.specs.declared.system.System.{System}
use Rattle.elf_image.specs.Image.{ImageData}
use Rattle.rv32_machine.specs.ContextStep.{Standing}
use Rattle.osek_kernel.specs.declared.context.Context.TheVariants as contexts
use Rattle.osek_kernel.specs.declared.kernel.Active.{Active}
use Rattle.osek_kernel.specs.declared.kernel.Kernel.{Kernel}
use Rattle.osek_kernel.specs.Kernel.{task_state, activate}
use Rattle.osek_kernel.specs.Taken.{outcome, expired}
use Rattle.osek_machine.specs.declared.machine.Machine.{Machine}
use Rattle.osek_machine.specs.State.{standing_of}
use Rattle.osek_machine.specs.Machine.{Fits, state_of}

both_or_none : (a b : Bool) → (a ≡ true) ↔ (b ≡ true) → b ≡ a
both_or_none true b same = same.0 refl
both_or_none false true same = sym (same.1 refl)
both_or_none false false same = refl

placed : (standing : Option Standing) → is_some (option_map (λ (s : Standing). s.place) standing) ≡ is_some standing
placed None = refl
placed (Some s) = refl

-- whether the task is active, by where it stands
pub active_by : (image : ImageData) (system : System) (machine : Machine) (task : ℕ) (place : Option ℕ) → Fits image system machine → task < length system.tasks
    → place ≡ option_map (λ s. s.place) (standing_of system (state_of machine) (contexts.Task task))
    → is_some (task_state (state_of machine).kernel task) ≡ is_some place
active_by image system machine task place fits within is =
    both_or_none (is_some (standing_of system (state_of machine) (contexts.Task task))) (is_some (task_state (state_of machine).kernel task))
    (fits.room.positions.active (contexts.Task task) within)
    ∙ sym (ap is_some is ∙ placed (standing_of system (state_of machine) (contexts.Task task)))

-- whom an alarm starts that activates the task
pub expired_starts : (kernel : Kernel) (task : ℕ) (active : Bool) → is_some (task_state kernel task) ≡ active
    → cond active None (Some (contexts.Task task)) ≡ (expired kernel task).started
expired_starts kernel task true is =
    sym (ap (λ (b : Bool). (cond (not b) (outcome (activate kernel task) (Some (contexts.Task task))) (outcome kernel None)).started) is)
expired_starts kernel task false is =
    sym (ap (λ (b : Bool). (cond (not b) (outcome (activate kernel task) (Some (contexts.Task task))) (outcome kernel None)).started) is)

pub since_zero : (state : Option Active) (active : Bool) → is_some state ≡ active → cond {A = Option ℕ} active (Some 0) None ≡ option_map (λ (s : Active). 0) state
since_zero None true is = absurd cc
since_zero None false is = refl
since_zero (Some s) true is = refl
since_zero (Some s) false is = absurd cc
