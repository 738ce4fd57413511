-- How a machine stands at the start of a mode.
use Rattle.std.proofs.Common.{◌≡◌, ℕ, ◌+◌, ◌-◌, ◌<◌, ◌≤◌, Bool, true, false, List, [], ◌∷◌, ◌++◌, length, Option, Some, None, IsSome, refl, sym, ◌∙◌, ap, subst, arith, ◌↔◌, replicate}
use Rattle.std.specs.Prelude.{nat_lt, cond, is_some, option_map, slice_index_or}
use Rattle.std.proofs.lemmas.Bool.{lt-ltb, ltb-true, ltb-false, false≢true}
use Rattle.std.proofs.lemmas.List.{get_or_append_left}
use Rattle.std.proofs.Math.ListN.{length-append}
use Rattle.std.proofs.lemmas.Option.{same_Some, none-some}
use Rattle.std.proofs.Math.Nat.{add-sub_cancel_left}
use Rattle.std.proofs.Math.Seq.{get_or-append_seam}
use Rattle.oil_model.specs.declared.system.System.{System}
use Rattle.elf_image.specs.Image.{ImageData}
use Rattle.rv32_machine.specs.Registers.{AreRegisters}
use Rattle.rv32_machine.specs.ContextStep.{Standing}
use Rattle.osek_kernel.specs.declared.context.Context.{Context}
use Rattle.osek_kernel.specs.declared.context.Context.TheVariants as contexts
use Rattle.osek_kernel.specs.declared.kernel.Active.{Active}
use Rattle.osek_kernel.specs.declared.kernel.Kernel.{Kernel}
use Rattle.osek_kernel.specs.Contexts.{IsContext, place_of, context_at, context_count, entry_of}
use Rattle.osek_kernel.specs.Kernel.{IsActive, task_state, autostarted}
use Rattle.osek_kernel.specs.Running.{runs}
use Rattle.osek_kernel.specs.Sources.{source_count}
use Rattle.osek_kernel.specs.Taken.{initial}
use Rattle.osek_kernel.proofs.Theorems.{dispatch_keeps_active}
use Rattle.oil_model.specs.System.{IsLawful}
use Rattle.elf_image.specs.Image.{initial_byte}
use Rattle.rv32_machine.specs.Code.{insn_at}
use Rattle.rv32_machine.specs.Memory.{memory_of}
use Rattle.osek_kernel.specs.Positions.{position_of, ArePositions}
use Rattle.osek_machine.specs.State.{at_entry, standing_at, registers_at_start, StandsAtEntry}
use Rattle.osek_machine.specs.declared.machine.Machine.{Machine}
use Rattle.osek_machine.specs.Runs.{IsInitial}
use Rattle.osek_machine.specs.Decoded.{looked_up}
use Rattle.osek_machine.specs.Room.{HaveEntries}
use Rattle.osek_machine.specs.Machine.{Begins, Fits, state_of}
use Rattle.osek_machine.specs.Working.Stances.{standing_at_start, StandsAtStart, AreAtStart}
use Rattle.osek_machine.proofs.Placing.{place_within}
use Rattle.osek_machine.proofs.Times.{starts_with_room}

past : (n m : ℕ) (b : Bool) → nat_lt (n + m) n ≡ b → b ≡ false
past n m false e = refl
past n m true e = absurd (past_not n m e)
  where
    past_not : (n m : ℕ) → nat_lt (n + m) n ≡ true → ⊥
    past_not n m e = omega (arith, ltb-true (n + m) n e)

pub context_again : (system : System) (c : Context) → IsContext system c → context_at system (place_of system c) ≡ c
context_again system (contexts.Task t) is =
    ap (λ b. cond b (contexts.Task t) (contexts.Isr (t - length system.tasks))) (lt-ltb t (length system.tasks) is)
context_again system (contexts.Isr i) is =
    ap (λ b. cond b (contexts.Task (length system.tasks + i)) (contexts.Isr (length system.tasks + i - length system.tasks))) (past (length system.tasks) i (nat_lt (length system.tasks + i) (length system.tasks)) refl)
    ∙ ap contexts.Isr (add-sub_cancel_left (length system.tasks) i)

-- ---- Entries

-- the contexts before a place have entries
pub record EntriesBefore (image : ImageData) (system : System) (place : ℕ) : Type 0 where
  pub each : (c : Context) → IsContext system c → place_of system c < place → IsSome (entry_of image system c)

-- ---- Stances

-- how the contexts before a place stand
pub record StandBefore (image : ImageData) (system : System) (kernel : Kernel) (stances : List (Option Standing)) (place : ℕ) : Type 0 where
  pub count : length stances ≡ place
  pub each : (n : ℕ) → n < length stances → StandsAtStart image system kernel (context_at system n) (slice_index_or stances n None)

pub stands_more : (image : ImageData) (system : System) (kernel : Kernel) (stances : List (Option Standing)) (place : ℕ) (standing : Option Standing)
    → StandBefore image system kernel stances place → StandsAtStart image system kernel (context_at system place) standing
    → StandBefore image system kernel (stances ++ standing ∷ []) (place + 1)
stands_more image system kernel stances place standing before here = record { count = simp length-append (ap (λ n. n + 1) before.count); each = each }
  where
    each : (n : ℕ) → n < length (stances ++ standing ∷ []) → StandsAtStart image system kernel (context_at system n) (slice_index_or (stances ++ standing ∷ []) n None)
    each n below = elim (nat_lt n (length stances)) as (λ b. nat_lt n (length stances) ≡ b → StandsAtStart image system kernel (context_at system n) (slice_index_or (stances ++ standing ∷ []) n None)) [
      | true ↦ λ e. (
          let within : n < length stances = ltb-true n (length stances) e in
          subst (StandsAtStart image system kernel (context_at system n)) (sym (get_or_append_left stances (standing ∷ []) None n within)) (before.each n within))
      | false ↦ λ e. (
          let least : length stances ≤ n = ltb-false n (length stances) e in
          let more : length (stances ++ standing ∷ []) ≡ length stances + 1 = simp length-append in
          let same : n ≡ length stances = omega arith in
          let is_place : length stances ≡ place = before.count in
          subst (λ k. StandsAtStart image system kernel (context_at system k) (slice_index_or (stances ++ standing ∷ []) k None)) (sym same)
          (subst (StandsAtStart image system kernel (context_at system (length stances))) (sym (get_or-append_seam stances standing [] None))
          (subst (λ k. StandsAtStart image system kernel (context_at system k) standing) (sym is_place) here)))
    ] refl

-- ---- What follows of them

stands_in : (image : ImageData) (system : System) (kernel : Kernel) (stances : List (Option Standing)) → AreAtStart image system kernel stances
    → (c : Context) → IsContext system c → StandsAtStart image system kernel c (position_of system stances c)
stands_in image system kernel stances are c is =
    let within : place_of system c < length stances = (let w = place_within system c is in let k : length stances ≡ context_count system = are.count in omega arith) in
    subst (λ d. StandsAtStart image system kernel d (position_of system stances c)) (context_again system c is) (are.each (place_of system c) within)

entered : (registers : List ℕ) (o : Option ℕ) → IsSome o → IsSome (option_map (standing_at registers) o)
entered registers (Some place) some = refl
entered registers None some = cc

active_stands : (image : ImageData) (system : System) (kernel : Kernel) → HaveEntries image system → kernel.isr ≡ None
    → (c : Context) → IsContext system c → IsSome (standing_at_start image system kernel c) ↔ IsActive kernel c
active_stands image system kernel have none (contexts.Isr i) is =
    (λ some. absurd (false≢true some), λ active. absurd (none-some i (sym none ∙ active)))
active_stands image system kernel have none (contexts.Task t) is = task (task_state kernel t)
  where
    task : (state : Option Active)
        → IsSome (cond (is_some state) (at_entry image system (registers_at_start image system (contexts.Task t)) (contexts.Task t)) None) ↔ IsSome state
    task None = (λ some. absurd (false≢true some), λ some. absurd (false≢true some))
    task (Some active) = (
      λ some. refl,
      λ some. entered (registers_at_start image system (contexts.Task t)) (entry_of image system (contexts.Task t)) (have.each (contexts.Task t) is),
    )

pub start_positions : (image : ImageData) (system : System) (kernel : Kernel) (stances : List (Option Standing)) → HaveEntries image system → kernel.isr ≡ None
    → AreAtStart image system kernel stances → ArePositions system kernel stances
start_positions image system kernel stances have none are = record {
  count = are.count;
  active = λ c is. (
      let stands : position_of system stances c ≡ standing_at_start image system kernel c = (stands_in image system kernel stances are c is).is in
      let both = active_stands image system kernel have none c is in
      (λ some. both.0 (sym (ap is_some stands) ∙ some), λ active. ap is_some stands ∙ both.1 active));
}

-- a context that stands at the start stands at its entry, with its registers and no open call
pub record StandsAnew (image : ImageData) (system : System) (c : Context) (standing : Standing) : Type 0 where
  pub entry : StandsAtEntry image system c standing
  pub registers : standing.registers ≡ registers_at_start image system c

anew_at : (image : ImageData) (system : System) (c : Context) (standing : Standing) → AreRegisters (registers_at_start image system c) → (o : Option ℕ) → entry_of image system c ≡ o
    → option_map (standing_at (registers_at_start image system c)) o ≡ Some standing → StandsAnew image system c standing
anew_at image system c standing are None e h = absurd (none-some standing h)
anew_at image system c standing are (Some place) e h =
    let same : standing_at (registers_at_start image system c) place ≡ standing = same_Some (standing_at (registers_at_start image system c) place) standing h in
    record {
      entry = record { registers = subst (λ s. AreRegisters s.registers) same are; place = e ∙ ap Some (ap (λ s. s.place) same); calls = sym (ap (λ s. s.calls) same) };
      registers = sym (ap (λ s. s.registers) same);
    }

anew : (image : ImageData) (system : System) (kernel : Kernel) (c : Context) (standing : Standing) → AreRegisters (registers_at_start image system c) → standing_at_start image system kernel c ≡ Some standing
    → StandsAnew image system c standing
anew image system kernel (contexts.Isr i) standing are e = absurd (none-some standing e)
anew image system kernel (contexts.Task t) standing are e = task (is_some (task_state kernel t)) e
  where
    task : (b : Bool) → cond b (at_entry image system (registers_at_start image system (contexts.Task t)) (contexts.Task t)) None ≡ Some standing
        → StandsAnew image system (contexts.Task t) standing
    task true h = anew_at image system (contexts.Task t) standing are (entry_of image system (contexts.Task t)) refl h
    task false h = absurd (none-some standing h)

pub stands_anew : (image : ImageData) (system : System) (kernel : Kernel) (stances : List (Option Standing)) → AreAtStart image system kernel stances
    → (c : Context) (standing : Standing) → IsContext system c → position_of system stances c ≡ Some standing → StandsAnew image system c standing
stands_anew image system kernel stances are c standing is e =
    let at = stands_in image system kernel stances are c is in
    anew image system kernel c standing (at.registers (ap is_some e)) (sym at.is ∙ e)

-- ---- The machine

pub begins : (image : ImageData) (system : System) (mode : ℕ) (machine : Machine) → mode < length system.modes → IsLawful system → HaveEntries image system
    → machine.kernel ≡ initial system mode → AreAtStart image system machine.kernel machine.stances.items
    → memory_of machine.memory ≡ initial_byte image.memory → machine.pending.items ≡ replicate (source_count system) false
    → machine.moment ≡ 0 → machine.last_start ≡ 0 → machine.running ≡ runs system machine.kernel → looked_up machine.code.parts.items ≡ insn_at image
    → Begins image system mode (state_of machine) × Fits image system machine
begins image system mode machine exists lawful have kernel are memory pending moment last running code =
    let none : machine.kernel.isr ≡ None = ap (λ (k : Kernel). k.isr) kernel ∙ (dispatch_keeps_active system (autostarted system mode)).isr in
    let initial : IsInitial image system mode (state_of machine) = record {
      exists = exists;
      kernel = kernel;
      standings = start_positions image system machine.kernel machine.stances.items have none are;
      entries = λ c standing is e. (stands_anew image system machine.kernel machine.stances.items are c standing is e).entry;
      memory = memory;
      pending = pending;
      moment = moment;
      last_start = last;
    } in (
      record { initial = initial; registers = λ c standing is e. (stands_anew image system machine.kernel machine.stances.items are c standing is e).registers },
      record { lawful = lawful; entries = have; room = starts_with_room image system mode (state_of machine) initial; running = running; code = code },
    )
