-- Timings in which found bounds stand in place of declared ones, and what is left to be kept.
use Rattle.std.specs.Prelude.{◌≡◌, ℕ, ◌^◌, ◌≤◌, All, IfSome, List, [], ◌∷◌, Option, Some, None, refl}
use Rattle.elf_image.specs.Image.{ImageData}
use Rattle.oil_model.specs.declared.system.System.{System}
use Rattle.timing_file.specs.declared.timing.Loop.{Loop}
use Rattle.timing_file.specs.declared.timing.Timing.{Timing}
use Rattle.osek_machine.specs.Declarations.{KeepsArrivals, PairsReturns, LeavesCode, KeepsLoops, KeepsCosts}
use Rattle.osek_machine.specs.Events.{Event}

-- the loop with the found bound, if there is one
abbrev pub with_bound : Loop → Option ℕ → Loop
with_bound l None = l
with_bound l (Some bound) = record l { bound = bound }

abbrev pub with_bounds : List Loop → List (Option ℕ) → List Loop
with_bounds (l ∷ loops) (bound ∷ found) = with_bound l bound ∷ with_bounds loops found
with_bounds loops found = []

-- the timing with each found bound in place of the declared one
abbrev pub found_timing : Timing → List (Option ℕ) → Timing
found_timing timing found = record timing { loops = with_bounds timing.loops found }

-- a bound that a timing may have
abbrev pub AreBounds : List (Option ℕ) → Type 0
AreBounds found = All (λ bound. IfSome bound (λ n. n ≤ 2 ^ 20)) found

-- ---- What is left to be kept

-- the loops for which no bound was found
abbrev pub not_found : List Loop → List (Option ℕ) → List Loop
not_found (l ∷ loops) (None ∷ found) = l ∷ not_found loops found
not_found (l ∷ loops) (Some bound ∷ found) = not_found loops found
not_found loops found = []

-- A run keeps what is declared, of the loops for those alone for which no bound was found.
pub record IsDeclaredBut (image : ImageData) (system : System) (timing : Timing) (found : List (Option ℕ)) (events : List Event) : Type 0 where
  pub arrivals : KeepsArrivals system timing events
  pub returns : PairsReturns image events
  pub code : LeavesCode image events
  pub loops : KeepsLoops image (record timing { loops = not_found timing.loops found }) events
  pub costs : KeepsCosts image system timing events

-- ---- Worked cases

abbrev a_loop : ℕ → Loop
a_loop bound = record { from = 0x108; to = 0x10c; bound = bound }

with_case : with_bounds (a_loop 50 ∷ a_loop 9 ∷ []) (Some 3 ∷ None ∷ []) ≡ a_loop 3 ∷ a_loop 9 ∷ []
with_case = refl

without_case : not_found (a_loop 50 ∷ a_loop 9 ∷ []) (Some 3 ∷ None ∷ []) ≡ a_loop 9 ∷ []
without_case = refl
