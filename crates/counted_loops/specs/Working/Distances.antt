-- Distances from a start to a limit, in whole numbers.
use Rattle.std.specs.Prelude.{◌≡◌, ◌⊎◌, ℕ, suc, ℤ, pos, ◌+ℤ◌, ◌≤ℤ◌, ◌<ℤ◌}

-- the step leads from the start towards the limit
abbrev pub Leads : ℤ → ℤ → ℤ → Type 0
Leads start step limit = ((pos 0 <ℤ step) × (start <ℤ limit)) ⊎ ((step <ℤ pos 0) × (limit <ℤ start))

-- the greatest distance from the start that is below the limit, or 0 where the start isn't
pub record StaysBelow (start limit : ℤ) (distance : ℕ) : Type 0 where
  pub below : (start <ℤ limit) → start +ℤ pos (suc distance) ≡ limit
  pub past : (limit ≤ℤ start) → distance ≡ 0
