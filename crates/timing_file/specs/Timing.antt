-- Timing files, versions 1 and 2. Each kind of fault is judged over the whole value, and the first that
-- holds, in the order in which the kinds are listed, is the fault.
use Rattle.std.specs.Prelude.{ℕ, ◌-◌, ◌^◌, ◌%◌, List, [], ◌∷◌, map, ◌&&◌, Bool, ◌==◌, nat_le, codes, if◌then◌else◌, Option, Some, None, ok_or, Result, Ok, Err}
use Rattle.serde_json.specs.Data.{Data, Members, no_members, member}
use Rattle.serde_json.specs.Find.{get, as_object}
use Rattle.listed.specs.Lists.{each_from, differ}
use Rattle.listed.specs.Steps.{◌>>=◌}
use Rattle.json_fields.specs.Lists.{list_up_to}
use Rattle.json_fields.specs.Numbers.{whole_in}
use Rattle.timing_file.specs.declared.fault.TimingKind.{TimingKind}
use Rattle.timing_file.specs.declared.fault.TimingKind.TheVariants.{Shape, Key, Range, Twice}
use Rattle.timing_file.specs.declared.timing.Extra.{Extra}
use Rattle.timing_file.specs.declared.timing.Loop.{Loop}
use Rattle.timing_file.specs.declared.timing.NamedNumber.{NamedNumber}
use Rattle.timing_file.specs.declared.timing.Timing.{Timing}
use Rattle.timing_file.specs.declared.spans.Span.{Span}
use Rattle.timing_file.specs.Form.{has_form, has_known_keys}
use Rattle.timing_file.specs.Tables.{costs_of}
use Rattle.timing_file.specs.Ranges.{ranged_at}

-- ---- numbers by name

-- the greatest distance, and the greatest number of cycles a tick
abbrev pub greatest_distance : ℕ
greatest_distance = 2 ^ 31 - 1

abbrev pub named : List ℕ → ℕ → NamedNumber
named name number = record { name = name; number = number }

-- each from 1 to the greatest
abbrev pub numbers_of : ℕ → Members → Result (List NamedNumber) TimingKind
numbers_of greatest no_members = Ok []
numbers_of greatest (member name d ms) = do
  number ← ok_or (whole_in 1 greatest d) Range
  more ← numbers_of greatest ms
  Ok (named name number ∷ more)

abbrev pub numbers_in : ℕ → Data → Result (List NamedNumber) TimingKind
numbers_in greatest d = ok_or (as_object d) Range >>= numbers_of greatest

-- what is read at a key, or an empty list where there is no such key
abbrev pub or_empty : {A : Type 0} → (Data → Result (List A) TimingKind) → Option Data → Result (List A) TimingKind
or_empty reads None = Ok []
or_empty reads (Some d) = reads d

abbrev pub numbers_at : List ℕ → Data → Result (List NamedNumber) TimingKind
numbers_at key d = or_empty (numbers_in greatest_distance) (get key d)

-- ---- ranges of addresses

abbrev pub loop_of : Data → Result Loop TimingKind
loop_of d = ok_or (ranged_at (codes "bound") d) Range >>= λ r. Ok (record { from = r.from; to = r.to; bound = r.number })

abbrev pub extra_of : Data → Result Extra TimingKind
extra_of d = ok_or (ranged_at (codes "cycles") d) Range >>= λ r. Ok (record { from = r.from; to = r.to; cycles = r.number })

-- at most 256 in a list, each by what it gives at its place
abbrev pub list_with : {A : Type 0} → (ℕ → Data → Result A TimingKind) → Data → Result (List A) TimingKind
list_with gives d = ok_or (list_up_to 256 d) Range >>= each_from gives 0

abbrev pub list_at : {A : Type 0} → (ℕ → Data → Result A TimingKind) → List ℕ → Data → Result (List A) TimingKind
list_at gives key d = or_empty (list_with gives) (get key d)

abbrev pub loops_at : Data → Result (List Loop) TimingKind
loops_at d = list_at (λ place. loop_of) (codes "loops") d

abbrev pub extras_at : Data → Result (List Extra) TimingKind
extras_at d = list_at (λ place. extra_of) (codes "extra") d

-- ---- the whole

-- the timing, if each number, address and list is in its range
unfoldable pub timing_of : Data → Result Timing TimingKind
timing_of d = do
  costs ← ok_or (costs_of d) Range
  ticks ← numbers_at (codes "ticks") d
  distances ← numbers_at (codes "distances") d
  loops ← loops_at d
  extra ← extras_at d
  Ok (record { classes = costs.classes; services = costs.services; alarm = costs.alarm; interrupt = costs.interrupt; ticks = ticks; distances = distances; loops = loops; taken = costs.taken; extra = extra })

-- what stands once in a list: the addresses of a range
abbrev pub same_span : Span → Span → Bool
same_span a b = a.from == b.from && a.to == b.to

abbrev pub loop_span : Loop → Span
loop_span l = record { from = l.from; to = l.to }

abbrev pub extra_span : Extra → Span
extra_span extra = record { from = extra.from; to = extra.to }

-- no two loops and no two extras have the same addresses
abbrev pub each_once : Timing → Bool
each_once timing = differ same_span (map loop_span timing.loops) && differ same_span (map extra_span timing.extra)

abbrev pub if_once : Timing → Result Timing TimingKind
if_once timing = if each_once timing then Ok timing else Err Twice

abbrev pub timing_in : Data → Result Timing TimingKind
timing_in d = if has_form d then (if has_known_keys d then timing_of d >>= if_once else Err Key) else Err Shape
