-- Sets of nodes, as words of 64 bits.
use Rattle.std.specs.Prelude.{ℕ, ◌/◌, ◌%◌, Bool, ◌==◌, List, slice_index}
use Rattle.std.specs.Int.{bit_at}

-- the node's bit is set
abbrev pub holds : List ℕ → ℕ → Bool
holds set node = bit_at (slice_index set (node / 64)) (node % 64) == 1
