-- Facts of a machine that fits, from the laws of states.
use Rattle.std.proofs.Common.{◌≡◌, ℕ, ◌<◌, true, length, Option, Some, None, refl, ◌∙◌, ap}
use Rattle.std.specs.Prelude.{IfSome}
use Rattle.oil_model.specs.declared.system.System.{System}
use Rattle.elf_image.specs.Image.{ImageData}
use Rattle.rv32_machine.specs.ContextStep.{Standing}
use Rattle.osek_kernel.specs.declared.context.Context.{Context}
use Rattle.osek_kernel.specs.Contexts.{IsContext}
use Rattle.osek_kernel.specs.Kernel.{IsActive}
use Rattle.osek_kernel.specs.Running.{runs}
use Rattle.osek_kernel.specs.declared.kernel.Kernel.{Kernel}
use Rattle.osek_kernel.specs.declared.kernel.Reply.{Reply}
use Rattle.osek_kernel.specs.declared.service.Service.{Service}
use Rattle.osek_kernel.specs.Services.{takes}
use Rattle.osek_kernel.specs.Served.{Served, served, answer}
use Rattle.osek_kernel.specs.Taken.{Taken, taken, outcome}
use Rattle.oil_model.specs.System.{IsLawful}
use Rattle.osek_kernel.specs.Sources.{source_at, source_count}
use Rattle.osek_kernel.proofs.Runs.{some_of}
use Rattle.osek_kernel.proofs.Theorems.{the_first_runs}
use Rattle.osek_machine.specs.declared.machine.Machine.{Machine}
use Rattle.osek_machine.specs.State.{standing_of}
use Rattle.osek_machine.specs.Events.{Event}
use Rattle.osek_machine.specs.Steps.{Step}
use Rattle.osek_machine.specs.Decoded.{looked_up}
use Rattle.osek_machine.specs.Machine.{Fits, state_of}
use Rattle.osek_machine.proofs.Kept.{running_exists, taken_exists, served_exists, step_keeps}

-- ---- Places of contexts and numbers of sources

-- ---- Machines that fit

-- the running context stands somewhere
pub running_stands : (image : ImageData) (system : System) (machine : Machine) (c : Context) → Fits image system machine
    → runs system machine.kernel ≡ Some c → (s : Standing) × (standing_of system (state_of machine) c ≡ Some s)
running_stands image system machine c fits e =
    let is : IsContext system c = running_exists system (state_of machine) c fits.room e in
    let active : IsActive machine.kernel c = (the_first_runs system machine.kernel).active c e in
    some_of (standing_of system (state_of machine) c) ((fits.room.positions.active c is).1 active)

-- a step leaves a machine that fits, if it knows who runs
pub step_fits : (image : ImageData) (system : System) (event : Event) (before after : Machine) → Fits image system before
    → Step image system event (state_of before) (state_of after) → after.running ≡ runs system after.kernel → after.code ≡ before.code → Fits image system after
step_fits image system event before after fits step running code = record {
  lawful = fits.lawful;
  entries = fits.entries;
  room = step_keeps image system event (state_of before) (state_of after) fits.lawful fits.entries step fits.room;
  running = running;
  code = ap (λ d. looked_up d.parts.items) code ∙ fits.code;
}

-- ---- Who starts exists

pub if_some : {A : Type 0} (o : Option A) (P : A → Type 0) → ((x : A) → o ≡ Some x → P x) → IfSome o P
if_some None P h = tt
if_some (Some x) P h = h x refl

pub started_exists : (system : System) (k after : Kernel) (who : Option Context) (n : ℕ) → IsLawful system → n < source_count system
    → taken system k (source_at system n) ≡ outcome after who → IfSome who (IsContext system)
started_exists system k after who n lawful within e =
    if_some who (IsContext system) (λ c some. taken_exists system k lawful n within c (ap (λ (d : Taken). d.started) e ∙ some))

pub activated_exists : (system : System) (k after : Kernel) (caller : Context) (service : Service) (argument : ℕ) (reply : Reply) → takes system service argument ≡ true
    → served system k caller service argument ≡ answer after reply → IfSome reply.activated (λ t. t < length system.tasks)
activated_exists system k after caller service argument reply has e =
    if_some reply.activated (λ t. t < length system.tasks)
    (λ t some. served_exists system k caller service argument has t (ap (λ (d : Served). d.reply.activated) e ∙ some))
