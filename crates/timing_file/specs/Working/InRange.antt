-- Parts of a timing that are in their ranges.
use Rattle.std.specs.Prelude.{ℕ, ◌≤◌, List, All, length}
use Rattle.timing_file.specs.declared.tables.Costs.{Costs}
use Rattle.timing_file.specs.declared.timing.Timing.{Timing}
use Rattle.timing_file.specs.Lawful.{IsCost, AreCosts, AreNumbers, IsLoop, IsExtra}

pub record AreAllCosts (costs : Costs) : Type 0 where
  pub classes : AreCosts 8 costs.classes.costs
  pub taken : IsCost costs.taken
  pub services : AreCosts 13 costs.services.costs
  pub alarm : IsCost costs.alarm
  pub interrupt : IsCost costs.interrupt

pub record AreFew {A : Type 0} (P : A → Type 0) (xs : List A) : Type 0 where
  pub few : length xs ≤ 256
  pub each : All P xs

-- lawful, but for what stands twice
pub record IsInRange (timing : Timing) : Type 0 where
  pub classes : AreCosts 8 timing.classes.costs
  pub services : AreCosts 13 timing.services.costs
  pub alarm : IsCost timing.alarm
  pub interrupt : IsCost timing.interrupt
  pub taken : IsCost timing.taken
  pub ticks : AreNumbers timing.ticks
  pub distances : AreNumbers timing.distances
  pub loops : AreFew IsLoop timing.loops
  pub extra : AreFew IsExtra timing.extra
