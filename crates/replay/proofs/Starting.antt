-- A player at the start of a run stands there.
use Rattle.std.proofs.Common.{◌≡◌, ℕ, zero, suc, false, List, [], length, replicate, Option, None, refl, sym, ◌∙◌, ap, subst, arith}
use Rattle.std.specs.Prelude.{slice_index_or, option_map}
use Rattle.std.proofs.lemmas.List.{length-replicate}
use Rattle.osek_kernel.specs.declared.kernel.Kernel.{Kernel}
use Rattle.osek_kernel.specs.Kernel.{task_state}
use Rattle.osek_kernel.specs.Sources.{source_count}
use Rattle.osek_machine.specs.Machine.{Begins, Fits, state_of}
use Rattle.wcet_atomic_blocks.specs.Plants.{PlantData}
use Rattle.replay.specs.declared.player.Player.{Player}
use Rattle.replay.specs.declared.schedule.Schedule.{Schedule}
use Rattle.replay.specs.Turning.{Keeps, Stands}
use Rattle.replay.specs.Working.Follows.{AreActiveAtStart, KnowsArrivals, least_pending}
use Rattle.replay.specs.Working.Laps.{AreKept}
use Rattle.replay.proofs.Arriving.{knows_none}
use Rattle.replay.proofs.Pending.{none_pending}

none_in : (n k : ℕ) → ◌≡◌ {A = Option ℕ} (slice_index_or (replicate n None) k None) None
none_in zero k = refl
none_in (suc n) zero = refl
none_in (suc n) (suc k) = none_in n k

quiet : (n k : ℕ) → slice_index_or (replicate n false) k false ≡ false
quiet zero k = refl
quiet (suc n) zero = refl
quiet (suc n) (suc k) = quiet n k

pub starts : (plant : PlantData) (schedule : Schedule) (player : Player) → Begins plant.image plant.system schedule.mode (state_of player.machine)
    → Fits plant.image plant.system player.machine → player.newest.items ≡ replicate (source_count plant.system) None
    → AreActiveAtStart plant.system (state_of player.machine).kernel player.active.items → AreKept plant.image plant.system plant.timing [] player.laps
    → player.arrivals ≡ 0 → player.pending ≡ None → player.made ≡ 0 → player.fault ≡ None → Stands plant schedule [] player
starts plant schedule player begins fits newest active laps arrivals pending made fault = record {
  played = record { state = state_of player.machine; played = begins };
  declared = record { arrivals = tt; returns = tt; code = tt; loops = tt; costs = tt };
  clean = tt;
  made = made;
  keeps = subst (Keeps plant schedule [] player) (sym fault) (record {
    run = begins;
    fits = fits;
    declared = record { arrivals = tt; returns = tt; code = tt; loops = tt; costs = tt };
    clean = tt;
    made = made;
    few = record { steps = omega arith; most = omega arith };
    arrivals = subst (λ (n : ℕ). KnowsArrivals plant.system schedule [] n player.arrivals player.newest.items) (sym begins.initial.last_start)
        (subst (λ (n : ℕ). KnowsArrivals plant.system schedule [] 0 n player.newest.items) (sym arrivals)
        (knows_none plant.system schedule player.newest.items (ap length newest ∙ length-replicate (source_count plant.system) None)
        (λ source. ap (λ (xs : List (Option ℕ)). slice_index_or xs source None) newest ∙ none_in (source_count plant.system) source)));
    pending = pending ∙ sym (ap least_pending begins.initial.pending ∙ none_pending (replicate (source_count plant.system) false) (λ k below. quiet (source_count plant.system) k));
    active = (let count = active.count in record {
      count = active.count;
      each = λ task within. active.each task (omega arith) ∙ ap (λ (k : Kernel). option_map (λ state. 0) (task_state k task)) begins.initial.kernel;
    });
    laps = laps;
  });
}
