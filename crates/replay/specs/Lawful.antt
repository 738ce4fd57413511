-- What holds of every schedule that is read.
use Rattle.std.specs.Prelude.{◌≡◌, ℕ, ◌<◌, ◌≤◌, List, [], ◌∷◌, true, length}
use Rattle.std.specs.List.{AllByRecursion}
use Rattle.oil_model.specs.declared.system.System.{System}
use Rattle.osek_kernel.specs.Sources.{is_live}
use Rattle.replay.specs.declared.schedule.Arrival.{Arrival}
use Rattle.replay.specs.declared.schedule.Schedule.{Schedule}
use Rattle.replay.specs.Schedule.{last_moment}

-- none comes before this moment, nor before the one that is listed before it
abbrev pub AreFrom : ℕ → List Arrival → Type 0
AreFrom low [] = Unit {0}
AreFrom low (arrival ∷ arrivals) = (low ≤ arrival.at) × AreFrom arrival.at arrivals

abbrev pub ArrivesIn : System → ℕ → Arrival → Type 0
ArrivesIn system mode arrival = (arrival.at ≤ last_moment) × (is_live system mode arrival.source ≡ true)

pub record IsLawful (system : System) (schedule : Schedule) : Type 0 where
  pub mode : schedule.mode < length system.modes
  pub end : schedule.end ≤ last_moment
  pub few : length schedule.arrivals ≤ 65536
  pub arrivals : AllByRecursion (ArrivesIn system schedule.mode) schedule.arrivals
  pub order : AreFrom 0 schedule.arrivals
