-- Lists that grow, whose members stand for others.
use Rattle.std.specs.Prelude.{◌≡◌, ◌++◌, List, map, All}

-- what was added stands for these, and is sound if what was there is
pub record Adds {N P : Type 0} (plain_of : N → P) (IsSound : N → Type 0) (before after : List N) (plain : List P) : Type 0 where
  pub shows : map plain_of after ≡ map plain_of before ++ plain
  pub sound : All IsSound before → All IsSound after

-- these are all, and are sound
pub record Stand {N P : Type 0} (plain_of : N → P) (IsSound : N → Type 0) (numbered : List N) (plain : List P) : Type 0 where
  pub shows : map plain_of numbered ≡ plain
  pub sound : All IsSound numbered
