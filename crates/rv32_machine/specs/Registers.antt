-- The values of the registers x0 to x31, as a list.
use Rattle.std.specs.Prelude.{◌≡◌, ℕ, zero, suc, ◌^◌, ◌<◌, List, length, slice_index, slice_set, replicate}

-- 32 numbers of 32 bits, of which the first is 0
pub record AreRegisters (registers : List ℕ) : Type 0 where
  pub count : length registers ≡ 32
  pub zero_first : slice_index registers 0 ≡ 0
  pub words : (number : ℕ) → slice_index registers number < 2 ^ 32

abbrev pub zeros : List ℕ
zeros = replicate 32 0

abbrev pub value_of : List ℕ → ℕ → ℕ
value_of registers number = slice_index registers number

-- the registers after a write: x0 stays 0
abbrev pub with_value : List ℕ → ℕ → ℕ → List ℕ
with_value registers zero value = registers
with_value registers (suc n) value = slice_set registers (suc n) value
