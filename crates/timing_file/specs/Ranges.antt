-- The ranges of addresses of a timing file.
use Rattle.std.specs.Prelude.{ℕ, ◌^◌, ◌%◌, ◌==◌, nat_le, List, codes, if◌then◌else◌, Option, Some, None}
use Rattle.serde_json.specs.Data.{Data}
use Rattle.serde_json.specs.Find.{get}
use Rattle.listed.specs.Steps.Options.{◌>>=◌}
use Rattle.json_fields.specs.Numbers.{whole_in, address_in}
use Rattle.timing_file.specs.declared.ranges.Ranged.{Ranged}

-- an address that is a multiple of 4
abbrev pub word_in : Data → Option ℕ
word_in d = address_in d >>= λ address. if address % 4 == 0 then Some address else None

abbrev pub word_at : List ℕ → Data → Option ℕ
word_at key d = get key d >>= word_in

-- 0 to 1,048,576
abbrev pub count_in : Data → Option ℕ
count_in d = whole_in 0 (2 ^ 20) d

abbrev pub count_at : List ℕ → Data → Option ℕ
count_at key d = get key d >>= count_in

abbrev pub ordered : Ranged → Option Ranged
ordered ranged = if nat_le ranged.from ranged.to then Some ranged else None

-- a range from one code word to another, and the number at the key
unfoldable pub ranged_at : List ℕ → Data → Option Ranged
ranged_at key d = do
  from ← word_at (codes "from") d
  to ← word_at (codes "to") d
  number ← count_at key d
  ordered (record { from = from; to = to; number = number })
