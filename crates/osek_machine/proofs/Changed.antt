-- The state after a step, from what its parts are.
use Rattle.std.proofs.Common.{◌≡◌, ℕ, ◌+◌, Bool, false, List, Option, Some, refl, sym, ◌∙◌, ap}
use Rattle.std.specs.Prelude.{slice_set, option_map}
use Rattle.oil_model.specs.declared.system.System.{System}
use Rattle.elf_image.specs.Image.{ImageData}
use Rattle.rv32_machine.specs.ContextStep.{Standing}
use Rattle.rv32_machine.specs.Memory.{memory_of}
use Rattle.osek_kernel.specs.declared.context.Context.{Context}
use Rattle.osek_kernel.specs.declared.context.Context.TheVariants as contexts
use Rattle.osek_kernel.specs.declared.kernel.Kernel.{Kernel}
use Rattle.osek_kernel.specs.declared.kernel.Reply.{Reply}
use Rattle.osek_kernel.specs.declared.service.Service.{Service}
use Rattle.osek_kernel.specs.Running.{dispatched}
use Rattle.osek_kernel.specs.Served.{Served, served, answer}
use Rattle.osek_kernel.specs.Sources.{source_at}
use Rattle.osek_kernel.specs.Taken.{Taken, taken, outcome}
use Rattle.osek_kernel.specs.Positions.{placed, answered}
use Rattle.osek_machine.specs.declared.machine.Machine.{Machine}
use Rattle.osek_machine.specs.State.{MachineState, standing_of, at_entry}
use Rattle.osek_machine.specs.Steps.{after_take, after_service, later, argument_in, gone_on}
use Rattle.osek_machine.specs.Machine.{state_of, taking_of, call_of, registers_given}
use Rattle.osek_machine.specs.Working.Stances.{started_in, answered_in}

abbrev state : Kernel → List (Option Standing) → (ℕ → Option ℕ) → List Bool → ℕ → ℕ → MachineState
state kernel standings memory pending moment last_start = record {
  kernel = kernel;
  standings = standings;
  memory = memory;
  pending = pending;
  moment = moment;
  last_start = last_start;
}

same_state : {k k' : Kernel} {s s' : List (Option Standing)} {m m' : ℕ → Option ℕ} {p p' : List Bool} {n n' l l' : ℕ}
    → k ≡ k' → s ≡ s' → m ≡ m' → p ≡ p' → n ≡ n' → l ≡ l' → state k s m p n l ≡ state k' s' m' p' n' l'
same_state k s m p n l = cc

pub taken_state : (image : ImageData) (system : System) (source cycles : ℕ) (before after : Machine) (kernel : Kernel) (who : Option Context)
    → taken system before.kernel (source_at system source) ≡ outcome kernel who
    → after.kernel ≡ dispatched system kernel → after.stances.items ≡ started_in image system who before.stances.items
    → after.memory ≡ before.memory → after.pending.items ≡ slice_set before.pending.items source false
    → after.moment ≡ before.moment + cycles → after.last_start ≡ before.moment
    → state_of after ≡ after_take image system (taking_of image system source cycles (state_of before)) (state_of before)
taken_state image system source cycles before after kernel who e k s m p n l =
    same_state
    (k ∙ ap (dispatched system) (sym (ap (λ (d : Taken). d.kernel) e)))
    (s ∙ ap (λ w. started_in image system w before.stances.items) (sym (ap (λ (d : Taken). d.started) e)))
    (ap memory_of m) p n l

pub served_state : (image : ImageData) (system : System) (cycles : ℕ) (caller : Context) (standing : Standing) (service : Service) (before after : Machine)
    (kernel : Kernel) (reply : Reply) → standing_of system (state_of before) caller ≡ Some standing
    → served system before.kernel caller service (argument_in standing) ≡ answer kernel reply
    → after.kernel ≡ dispatched system kernel → after.stances.items ≡ answered_in image system caller reply before.stances.items
    → after.memory ≡ before.memory → after.pending ≡ before.pending → after.moment ≡ before.moment + cycles → after.last_start ≡ before.moment
    → state_of after ≡ after_service image system (call_of image system cycles caller standing service (state_of before)) (state_of before)
served_state image system cycles caller standing service before after kernel reply stands e k s m p n l =
    same_state
    (k ∙ ap (dispatched system) (sym (ap (λ (d : Served). d.kernel) e)))
    (s ∙ (ap (λ o. answered system (at_entry image system (registers_given image system (option_map contexts.Task reply.activated))) caller (option_map (gone_on reply.code) o) reply before.stances.items) stands
    ∙ ap (λ (r : Reply). answered system (at_entry image system (registers_given image system (option_map contexts.Task r.activated))) caller (Some (gone_on r.code standing)) r before.stances.items) (sym (ap (λ (d : Served). d.reply) e))))
    (ap memory_of m) (ap (λ v. v.items) p) n l

pub executed_state : (system : System) (cycles : ℕ) (context : Context) (next : Standing) (before after : Machine)
    → after.kernel ≡ before.kernel → after.stances.items ≡ placed system context (Some next) before.stances.items
    → after.pending ≡ before.pending → after.moment ≡ before.moment + cycles → after.last_start ≡ before.moment
    → state_of after ≡ later cycles (record (state_of before) { standings = placed system context (Some next) before.stances.items; memory = memory_of after.memory })
executed_state system cycles context next before after k s p n l =
    same_state
    k s refl (ap (λ v. v.items) p) n l
