-- Every source that is pending in a state of a run is live in the run's mode.
use Rattle.std.proofs.Common.{◌≡◌, ℕ, zero, suc, ◌⊎◌, inl, inr, Bool, true, false, List, [], ◌∷◌, replicate, refl, sym, ◌∙◌, ap, subst}
use Rattle.std.specs.Prelude.{slice_index_or, slice_set}
use Rattle.elf_image.specs.Image.{ImageData}
use Rattle.oil_model.specs.declared.system.System.{System}
use Rattle.osek_kernel.specs.Sources.{source_at, source_count, is_live}
use Rattle.osek_machine.specs.State.{MachineState, is_pending}
use Rattle.osek_machine.specs.Events.{Event, Arrive, Take, Execute, Serve, Idle}
use Rattle.osek_machine.specs.Steps.{Step}
use Rattle.osek_machine.specs.Runs.{IsRun}
use Rattle.osek_machine.proofs.Times.{runs_take_their_time}

abbrev pub PendingAreLive : System → ℕ → MachineState → Type 0
PendingAreLive system mode state = (source : ℕ) → is_pending state source ≡ true → is_live system mode (source_at system source) ≡ true

-- ---- Flags

-- what is set was set before, unless it is set now
set_before : (flags : List Bool) (i s : ℕ) → slice_index_or (slice_set flags i false) s false ≡ true → slice_index_or flags s false ≡ true
set_before [] i s e = e
set_before (flag ∷ flags) zero zero e = absurd cc
set_before (flag ∷ flags) zero (suc s) e = e
set_before (flag ∷ flags) (suc i) zero e = e
set_before (flag ∷ flags) (suc i) (suc s) e = set_before flags i s e

set_now : (flags : List Bool) (i s : ℕ) → slice_index_or (slice_set flags i true) s false ≡ true → (s ≡ i) ⊎ (slice_index_or flags s false ≡ true)
set_now [] i s e = inr e
set_now (flag ∷ flags) zero zero e = inl refl
set_now (flag ∷ flags) zero (suc s) e = inr e
set_now (flag ∷ flags) (suc i) zero e = inr e
set_now (flag ∷ flags) (suc i) (suc s) e = elim (set_now flags i s e) [ inl same ↦ inl (ap suc same) | inr before ↦ inr before ]

none_set : (count s : ℕ) → slice_index_or (replicate count false) s false ≡ false
none_set zero s = refl
none_set (suc more) zero = refl
none_set (suc more) (suc s) = none_set more s

-- ---- Steps and runs

step_keeps_live : (image : ImageData) (system : System) (mode : ℕ) (event : Event) (before after : MachineState) → before.kernel.mode ≡ mode
    → Step image system event before after → PendingAreLive system mode before → PendingAreLive system mode after
step_keeps_live image system mode (Arrive arrival) before after same step live = subst (PendingAreLive system mode) (sym step.becomes)
    (λ source e. elim (set_now before.pending arrival.source source e) [
      | inl here ↦ ap (λ n. is_live system mode (source_at system n)) here
          ∙ (ap (λ m. is_live system m (source_at system arrival.source)) (sym same) ∙ step.live)
      | inr pending ↦ live source pending
    ])
step_keeps_live image system mode (Take taking) before after same step live = subst (PendingAreLive system mode) (sym step.becomes)
    (λ source e. live source (set_before before.pending taking.source source e))
step_keeps_live image system mode (Execute execution) before after same step live = subst (PendingAreLive system mode) (sym step.becomes) live
step_keeps_live image system mode (Serve call) before after same step live = subst (PendingAreLive system mode) (sym step.becomes) live
step_keeps_live image system mode (Idle cycles) before after same step live = subst (PendingAreLive system mode) (sym step.becomes) live

pub pending_are_live : (image : ImageData) (system : System) (mode : ℕ) (events : List Event) (state : MachineState) → IsRun image system mode events state
    → PendingAreLive system mode state
pending_are_live image system mode [] state run =
    λ source e. absurd (let wrong : true ≡ false = sym e ∙ (ap (λ flags. slice_index_or flags source false) run.pending
    ∙ none_set (source_count system) source) in cc)
pending_are_live image system mode (event ∷ earlier) state run =
    step_keeps_live image system mode event run.0 state (runs_take_their_time image system mode earlier run.0 run.1).in_mode run.2
    (pending_are_live image system mode earlier run.0 run.1)
