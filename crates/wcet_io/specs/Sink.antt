-- What a sink tells of the outside, and what a write appends to what it holds.
use Rattle.std.specs.Prelude.{◌≡◌, ℕ, ◌≤◌, Bool, true, false, List, [], ◌∷◌, ◌++◌, length, take, Option, Some, None, Result, Ok, Err, refl}
use Rattle.std.proofs.Common.{lit≤}
use Rattle.wcet_io.specs.Causes.{HasCause, CountsOn}
use Rattle.wcet_io.specs.declared.fault.SinkFault.{SinkFault}
use Rattle.wcet_io.specs.declared.fault.SinkFault.TheVariants.{Failed, Memory}

-- What a sink tells of the outside: the bytes written so far, where it tells them, and how many writes failed.
pub record SinkOutside : Type 0 where
  pub written : Option (List ℕ)
  pub faults : ℕ

-- what is written after these bytes were appended, where the sink tells it
abbrev pub appended : Option (List ℕ) → List ℕ → Option (List ℕ)
appended (Some written) bytes = Some (written ++ bytes)
appended None bytes = None

-- The first bytes of the piece were appended, maybe none and maybe all.
abbrev pub AppendsPrefix : Option (List ℕ) → List ℕ → Option (List ℕ) → Type 0
AppendsPrefix before piece after = (n : ℕ) × (n ≤ length piece) × (after ≡ appended before (take n piece))

-- A write that went well appended the whole piece; a refused one appended a prefix of it.
abbrev pub Writes : {T : Type 0} → Result T SinkFault → Option (List ℕ) → List ℕ → Option (List ℕ) → Type 0
Writes (Ok done) before piece after = after ≡ appended before piece
Writes (Err refused) before piece after = AppendsPrefix before piece after

-- the write answered that it failed
abbrev pub is_failed : {T : Type 0} → Result T SinkFault → Bool
is_failed (Ok done) = false
is_failed (Err Failed) = true
is_failed (Err Memory) = false

-- One write of a piece gave this answer, and led from one outside to the other.
pub record IsWrite {T : Type 0} (before : SinkOutside) (piece : List ℕ) (answer : Result T SinkFault) (after : SinkOutside) : Type 0 where
  pub appends : Writes answer before.written piece after.written
  pub cause : HasCause (is_failed answer) before.faults after.faults
  pub goes_on : CountsOn before.faults after.faults

-- Worked cases: a sink that holds 1, 2 holds 1, 2, 3 after a piece of 3; a refused piece of 3, 4 may have left 3 behind.
whole_piece : appended (Some (1 ∷ 2 ∷ [])) (3 ∷ []) ≡ Some (1 ∷ 2 ∷ 3 ∷ [])
whole_piece = refl

half_a_piece : AppendsPrefix (Some (1 ∷ [])) (3 ∷ 4 ∷ []) (Some (1 ∷ 3 ∷ []))
half_a_piece = (1, lit≤ tt, refl)
