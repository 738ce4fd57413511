-- The parts of a store: segments of which each byte is kept, in the order of their addresses.
use Rattle.std.specs.Prelude.{◌≡◌, ℕ, ◌+◌, ◌-◌, ◌^◌, ◌<◌, ◌≤◌, Bool, nat_lt, List, [], ◌∷◌, ◌++◌, take, replicate, All, length, true, false, slice_index, slice_index_or, slice_set, if◌then◌else◌}
use Rattle.elf_image.specs.Image.{covers}
use Rattle.elf_image.specs.declared.image.Segment.{Segment}

-- all bytes of the part are kept, and are bytes
pub record IsFull (part : Segment) : Type 0 where
  pub kept : length part.bytes ≡ part.size
  pub bytes : (k : ℕ) → slice_index part.bytes k < 2 ^ 8

-- a segment that loads an address
abbrev pub has_addresses : Segment → Bool
has_addresses segment = nat_lt 0 segment.size

-- the segment with every byte of it, zeros behind the given ones
abbrev pub filled : Segment → Segment
filled segment = record {
  address = segment.address;
  bytes = take segment.size segment.bytes ++ replicate (segment.size - length segment.bytes) 0;
  size = segment.size;
}

-- the part with another byte at an address that it covers
abbrev pub with_byte : Segment → ℕ → ℕ → Segment
with_byte part address value = record part { bytes = slice_set part.bytes (address - part.address) value }

-- place i has the first part that covers the address
pub record IsFirstCovering (parts : List Segment) (address i : ℕ) : Type 0 where
  pub within : i < length parts
  pub covered : (d : Segment) → covers (slice_index_or parts i d) address ≡ true
  pub earlier : (k : ℕ) → k < i → (d : Segment) → covers (slice_index_or parts k d) address ≡ false

-- no part covers the address
pub record CoversNone (parts : List Segment) (address : ℕ) : Type 0 where
  pub none : (k : ℕ) → k < length parts → (d : Segment) → covers (slice_index_or parts k d) address ≡ false

-- each part ends where a later one begins, or before
pub record AreApart (parts : List Segment) : Type 0 where
  pub ends : (i k : ℕ) (d : Segment) → i < k → k < length parts
      → (slice_index_or parts i d).address + (slice_index_or parts i d).size ≤ (slice_index_or parts k d).address

-- what a store keeps
pub record IsKept (parts : List Segment) : Type 0 where
  pub full : All IsFull parts
  pub apart : AreApart parts

-- the parts after a byte was stored into the first part that covers the address
abbrev pub stored_at : List Segment → ℕ → ℕ → List Segment
stored_at [] address value = []
stored_at (part ∷ others) address value =
    if covers part address then with_byte part address value ∷ others else part ∷ stored_at others address value
