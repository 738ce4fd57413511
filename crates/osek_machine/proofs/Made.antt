-- What a step of a machine that fits made, from what its parts are.
use Rattle.std.proofs.Common.{◌≡◌, ℕ, ◌+◌, List, Option, Some, None, IsTrue, refl, sym, ◌∙◌, ap, subst, ◌↔◌}
use Rattle.std.specs.Prelude.{option_map, IfSome, slice_index_or, Err}
use Rattle.std.specs.Option.{option_map_or}
use Rattle.std.proofs.lemmas.Option.{same_Some}
use Rattle.listed.specs.declared.fault.Fault.TheVariants as faults
use Rattle.oil_model.specs.declared.system.System.{System}
use Rattle.elf_image.specs.Image.{ImageData}
use Rattle.rv32_decode.specs.declared.instruction.Insn.{Insn}
use Rattle.rv32_decode.specs.declared.instruction.Insn.TheVariants.{Ecall}
use Rattle.rv32_machine.specs.declared.next.Stepped.{Stepped}
use Rattle.rv32_machine.specs.declared.turns.ServiceAt.{ServiceAt}
use Rattle.rv32_machine.specs.Code.{insn_at}
use Rattle.rv32_machine.specs.Registers.{AreRegisters}
use Rattle.rv32_machine.specs.Memory.{memory_of}
use Rattle.rv32_machine.specs.Places.{pair_at, turn_of}
use Rattle.rv32_machine.specs.ContextStep.{Standing, IsPaired}
use Rattle.osek_kernel.specs.declared.context.Context.{Context}
use Rattle.osek_kernel.specs.declared.context.Context.TheVariants as contexts
use Rattle.osek_kernel.specs.declared.kernel.Kernel.{Kernel}
use Rattle.osek_kernel.specs.declared.kernel.Reply.{Reply}
use Rattle.osek_kernel.specs.declared.service.Service.{Service}
use Rattle.osek_kernel.specs.Contexts.{IsContext, place_of}
use Rattle.osek_kernel.specs.Services.{service_of, takes, code_number}
use Rattle.osek_kernel.specs.Running.{runs, dispatched}
use Rattle.osek_kernel.specs.Served.{Served, served, answer}
use Rattle.osek_machine.specs.declared.machine.Machine.{Machine}
use Rattle.osek_machine.specs.declared.labels.Label.TheVariants as labels
use Rattle.osek_machine.specs.Events.{Execution}
use Rattle.osek_machine.specs.Steps.{number_in, argument_in}
use Rattle.osek_machine.specs.Stuck.{is_stuck_at}
use Rattle.osek_machine.specs.Decoded.{looked_up}
use Rattle.osek_machine.specs.Machine.{Fits, MadeInsn, MadeCall, StepGives, state_of, registers_given}
use Rattle.osek_machine.specs.Working.Stances.{StandsAt, HasExecuted, AsksFor, address_at, request_of, request_at, answered_in}
use Rattle.osek_machine.proofs.Kept.{running_exists}
use Rattle.osek_machine.proofs.Placing.{placed_here}
use Rattle.osek_machine.proofs.Changed.{executed_state, served_state}
use Rattle.osek_machine.proofs.Machines.{running_stands}

-- where the running context stands
pub stands_at : (image : ImageData) (system : System) (machine : Machine) (context : Context) (at : ℕ) (insn : Insn) → Fits image system machine
    → runs system machine.kernel ≡ Some context → at ≡ address_at machine.stances.items (place_of system context)
    → Some insn ≡ looked_up machine.code.parts.items at → StandsAt (looked_up machine.code.parts.items) machine.stances.items (place_of system context) at insn
stands_at image system machine context at insn fits running address code =
    let stands = running_stands image system machine context fits running in
    record {
      standing = stands.0;
      stands = stands.1;
      at = address ∙ ap (λ (o : Option Standing). option_map_or (λ s. s.place) o 0) stands.1;
      fetched = sym code;
    }

-- no step where there is no instruction
pub stuck_here : (image : ImageData) (system : System) (device cycles : ℕ) (machine : Machine) (context : Context) (at : ℕ) → Fits image system machine
    → runs system machine.kernel ≡ Some context → at ≡ address_at machine.stances.items (place_of system context)
    → looked_up machine.code.parts.items at ≡ None
    → StepGives image system device cycles (state_of machine) (state_of machine) (Err (faults.Kind (record { context = context; at = at })))
stuck_here image system device cycles machine context at fits running address code =
    let stands = running_stands image system machine context fits running in
    let place : at ≡ stands.0.place = address ∙ ap (λ (o : Option Standing). option_map_or (λ s. s.place) o 0) stands.1 in
    let none : insn_at image stands.0.place ≡ None = ap (insn_at image) (sym place) ∙ (ap (λ (f : ℕ → Option Insn). f at) (sym fits.code) ∙ code) in (
      record { standing = stands.0; running = running; stands = stands.1; place = place; stuck = ap (is_stuck_at system stands.0) none },
      refl,
    )

-- the same step, of the same parts
pub executed_there : {code : ℕ → Option Insn} {device : ℕ} {m n n' : ℕ → Option ℕ} {xs xs' ys ys' : List (Option Standing)} {p p' : ℕ} {a : Stepped}
    → HasExecuted code device m n xs ys p a → n' ≡ n → xs ≡ xs' → ys' ≡ ys → p ≡ p' → HasExecuted code device m n' xs' ys' p' a
executed_there {code} {device} {m} {n} {n'} {xs} {xs'} {ys} {ys'} {p} {p'} {a} done memory before after place =
    subst (λ (q : ℕ). HasExecuted code device m n' xs' ys' q a) place
    (subst (λ (zs : List (Option Standing)). HasExecuted code device m n' xs' zs p a) (sym after)
    (subst (λ (zs : List (Option Standing)). HasExecuted code device m n' zs ys p a) before
    (subst (λ (k : ℕ → Option ℕ). HasExecuted code device m k xs ys p a) (sym memory) done)))

paired_there : (code : ℕ → Option Insn) (place next : ℕ) (calls : List ℕ) (insn : Insn) (paired : Type 0) → code place ≡ Some insn
    → paired ↔ IsPaired (turn_of (pair_at code place) place insn) calls next
    → paired ↔ IfSome (option_map (turn_of (pair_at code place) place) (code place)) (λ turn. IsPaired turn calls next)
paired_there code place next calls insn paired fetched is =
    subst (λ (o : Option Insn). paired ↔ IfSome (option_map (turn_of (pair_at code place) place) o) (λ turn. IsPaired turn calls next)) (sym fetched) is

pub made_insn : (image : ImageData) (system : System) (device cycles : ℕ) (before after : Machine) (context : Context) (at to : ℕ) (insn : Insn) (stepped : Stepped)
    → Fits image system before → runs system before.kernel ≡ Some context
    → StandsAt (looked_up before.code.parts.items) before.stances.items (place_of system context) at insn
    → HasExecuted (looked_up before.code.parts.items) device (memory_of before.memory) (memory_of after.memory) before.stances.items after.stances.items (place_of system context) stepped
    → after.kernel ≡ before.kernel → after.pending ≡ before.pending → after.moment ≡ before.moment + cycles → after.last_start ≡ before.moment
    → to ≡ address_at after.stances.items (place_of system context)
    → MadeInsn image system device cycles (state_of before) (state_of after) (labels.Insn context at to stepped.stored stepped.paired)
made_insn image system device cycles before after context at to insn stepped fits running here executed k p n l goes =
    let done : HasExecuted (insn_at image) device (memory_of before.memory) (memory_of after.memory) before.stances.items after.stances.items (place_of system context) stepped =
    subst (λ (code : ℕ → Option Insn). HasExecuted code device (memory_of before.memory) (memory_of after.memory) before.stances.items after.stances.items (place_of system context) stepped) fits.code executed in
    let execution : Execution = record { context = context; before = done.standing; after = done.next; stored = stepped.stored; device = device; cycles = cycles } in
    let same : here.standing ≡ done.standing = same_Some here.standing done.standing (sym here.stands ∙ done.stood) in
    let from : at ≡ done.standing.place = here.at ∙ ap (λ (s : Standing). s.place) same in
    let is : IsContext system context = running_exists system (state_of before) context fits.room running in
    let there : slice_index_or after.stances.items (place_of system context) None ≡ Some done.next =
    ap (λ (xs : List (Option Standing)). slice_index_or xs (place_of system context) None) done.becomes ∙ placed_here system context (Some done.next) before.stances.items is fits.room.positions.count in
    let next : to ≡ done.next.place = goes ∙ ap (λ (o : Option Standing). option_map_or (λ s. s.place) o 0) there in
    record {
      execution = execution;
      paired = stepped.paired;
      step = record {
        running = running;
        stands = done.stood;
        step = done.stepped.step;
        stored = done.stepped.stored_is;
        becomes = executed_state system cycles context done.next before after k done.becomes p n l;
      };
      given = refl;
      lasted = refl;
      told = ap (λ (a : ℕ). labels.Insn context a to stepped.stored stepped.paired) from ∙ ap (λ (a : ℕ). labels.Insn context done.standing.place a stepped.stored stepped.paired) next;
      returns = paired_there (insn_at image) done.standing.place done.next.place done.standing.calls done.stepped.step.insn (IsTrue stepped.paired) done.stepped.step.fetched done.stepped.paired_is;
    }

pub made_call : (image : ImageData) (system : System) (cycles : ℕ) (before after : Machine) (caller : Context) (at : ℕ) (service : Service) (request : ServiceAt)
    (kernel : Kernel) (reply : Reply) (code : ℕ) → Fits image system before → runs system before.kernel ≡ Some caller
    → StandsAt (looked_up before.code.parts.items) before.stances.items (place_of system caller) at Ecall
    → request ≡ request_at before.stances.items (place_of system caller) → AsksFor system request service
    → served system before.kernel caller service request.argument ≡ answer kernel reply
    → AreRegisters (registers_given image system (option_map contexts.Task reply.activated))
    → after.kernel ≡ dispatched system kernel → after.stances.items ≡ answered_in image system caller reply before.stances.items
    → after.memory ≡ before.memory → after.pending ≡ before.pending → after.moment ≡ before.moment + cycles → after.last_start ≡ before.moment
    → code ≡ code_number reply.code
    → MadeCall image system cycles (state_of before) (state_of after) (labels.Service caller at request.number request.argument code reply.misuse)
made_call image system cycles before after caller at service request kernel reply code fits running here asked asks e registers k s m p n l number =
    let standing : Standing = here.standing in
    let is : request ≡ request_of here.standing = asked ∙ ap (λ (o : Option Standing). option_map_or request_of o (record { number = 0; argument = 0 })) here.stands in
    let argument : request.argument ≡ argument_in here.standing = ap (λ (r : ServiceAt). r.argument) is in
    let named : request.number ≡ number_in here.standing = ap (λ (r : ServiceAt). r.number) is in
    let e' : served system before.kernel caller service (argument_in here.standing) ≡ answer kernel reply = ap (λ (a : ℕ). served system before.kernel caller service a) (sym argument) ∙ e in
    let replied : (served system before.kernel caller service (argument_in here.standing)).reply ≡ reply = ap (λ (d : Served). d.reply) e' in
    record {
      caller = caller;
      standing = here.standing;
      service = service;
      step = record {
        running = running;
        stands = here.stands;
        fetched = ap (insn_at image) (sym here.at) ∙ (ap (λ (f : ℕ → Option Insn). f at) (sym fits.code) ∙ here.fetched);
        service = ap service_of (sym named) ∙ asks.named;
        argument = ap (takes system service) (sym argument) ∙ asks.taken;
        registers = subst (λ (r : Reply). AreRegisters (registers_given image system (option_map contexts.Task r.activated))) (sym replied) registers;
        replied = refl;
        becomes = served_state image system cycles caller here.standing service before after kernel reply here.stands e' k s m p n l;
      };
      told = ap (λ (a : ℕ). labels.Service caller a request.number request.argument code reply.misuse) here.at
          ∙ (ap (λ (r : ServiceAt). labels.Service caller here.standing.place r.number r.argument code reply.misuse) is
          ∙ (ap (λ (d : ℕ). labels.Service caller here.standing.place (number_in here.standing) (argument_in here.standing) d reply.misuse) number
          ∙ ap (λ (r : Reply). labels.Service caller here.standing.place (number_in here.standing) (argument_in here.standing) (code_number r.code) r.misuse) (sym replied)));
    }
