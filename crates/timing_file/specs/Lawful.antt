-- Which timings are lawful: costs, numbers and addresses in their ranges, and nothing stands twice.
use Rattle.std.specs.Prelude.{◌≡◌, ℕ, ◌^◌, ◌%◌, ◌<◌, ◌≤◌, List, [], ◌∷◌, length, map, All, Bool, true, ◌&&◌, bytes_eq}
use Rattle.std.specs.List.{list_all}
use Rattle.std.specs.Cmp.Lexicographic.{slice_cmp}
use Rattle.std.specs.Ordering.{nat_cmp, is_lt}
use Rattle.listed.specs.Lists.{differ}
use Rattle.timing_file.specs.declared.timing.Extra.{Extra}
use Rattle.timing_file.specs.declared.timing.Loop.{Loop}
use Rattle.timing_file.specs.declared.timing.NamedNumber.{NamedNumber}
use Rattle.timing_file.specs.declared.timing.Timing.{Timing}
use Rattle.timing_file.specs.Timing.{same_span, loop_span, extra_span}

-- 1 to 1,048,576 cycles
abbrev pub IsCost : ℕ → Type 0
IsCost n = (1 ≤ n) × (n ≤ 2 ^ 20)

-- a table of so many costs
pub record AreCosts (n : ℕ) (costs : List ℕ) : Type 0 where
  pub count : length costs ≡ n
  pub each : All IsCost costs

-- a number by name is from 1 to 2^31 - 1
abbrev pub IsInRange : NamedNumber → Type 0
IsInRange named = (1 ≤ named.number) × (named.number < 2 ^ 31)

abbrev pub names_of : List NamedNumber → List (List ℕ)
names_of numbers = map (λ n. n.name) numbers

abbrev pub is_before : List ℕ → List ℕ → Bool
is_before a b = is_lt (slice_cmp nat_cmp a b)

-- each name is before the later ones, in byte order
abbrev pub ascend : List (List ℕ) → Bool
ascend [] = true
ascend (name ∷ names) = list_all (is_before name) names && ascend names

-- numbers from 1 to the greatest, whose names stand in byte order, each once
pub record AreUpTo (greatest : ℕ) (numbers : List NamedNumber) : Type 0 where
  pub range : All (λ named. (1 ≤ named.number) × (named.number ≤ greatest)) numbers
  pub order : ascend (names_of numbers) ≡ true
  pub once : differ bytes_eq (names_of numbers) ≡ true

-- the names stand in byte order, each once
pub record AreNumbers (numbers : List NamedNumber) : Type 0 where
  pub range : All IsInRange numbers
  pub order : ascend (names_of numbers) ≡ true
  pub once : differ bytes_eq (names_of numbers) ≡ true

-- a range of code words
pub record AreWords (from to : ℕ) : Type 0 where
  pub from_aligned : from % 4 ≡ 0
  pub to_aligned : to % 4 ≡ 0
  pub order : from ≤ to
  pub below : to < 2 ^ 32

abbrev pub IsLoop : Loop → Type 0
IsLoop l = AreWords l.from l.to × (l.bound ≤ 2 ^ 20)

pub record AreLoops (loops : List Loop) : Type 0 where
  pub few : length loops ≤ 256
  pub each : All IsLoop loops
  pub once : differ same_span (map loop_span loops) ≡ true

abbrev pub IsExtra : Extra → Type 0
IsExtra extra = AreWords extra.from extra.to × (extra.cycles ≤ 2 ^ 20)

pub record AreExtras (extras : List Extra) : Type 0 where
  pub few : length extras ≤ 256
  pub each : All IsExtra extras
  pub once : differ same_span (map extra_span extras) ≡ true

pub record IsLawful (timing : Timing) : Type 0 where
  pub classes : AreCosts 8 timing.classes.costs
  pub services : AreCosts 13 timing.services.costs
  pub alarm : IsCost timing.alarm
  pub interrupt : IsCost timing.interrupt
  pub taken : IsCost timing.taken
  pub ticks : AreNumbers timing.ticks
  pub distances : AreNumbers timing.distances
  pub loops : AreLoops timing.loops
  pub extra : AreExtras timing.extra
