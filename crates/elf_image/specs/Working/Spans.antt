-- Segments in the order of their addresses.
use Rattle.std.specs.Prelude.{◌≡◌, ℕ, ◌+◌, ◌<◌, max, Bool, nat_lt, List, [], ◌∷◌, length, take, slice_index, filter, IsPermutation}
use Rattle.std.specs.List.Sorted.{IsNonDecreasingBy}
use Rattle.elf_image.specs.declared.headers.ProgramHeader.{ProgramHeader}

-- a segment that has addresses
abbrev pub is_filled : ProgramHeader → Bool
is_filled header = nat_lt 0 header.size

-- the spans are the loaded segments that have addresses, from the lowest address on
pub record IsInOrder (loaded spans : List ProgramHeader) : Type 0 where
  pub same : IsPermutation (filter is_filled loaded) spans
  pub rises : IsNonDecreasingBy (λ span. span.address) spans

-- the address behind a segment
abbrev pub end_of : ProgramHeader → ℕ
end_of header = header.address + header.size

-- the highest address behind any of the segments
abbrev pub reach_of : List ProgramHeader → ℕ
reach_of [] = 0
reach_of (span ∷ others) = max (end_of span) (reach_of others)

-- member k is the highest address behind the first k + 1 of the spans
pub record AreReaches (spans : List ProgramHeader) (reaches : List ℕ) : Type 0 where
  pub as_many : length reaches ≡ length spans
  pub each : (k : ℕ) → k < length spans → slice_index reaches k ≡ reach_of (take (k + 1) spans)
