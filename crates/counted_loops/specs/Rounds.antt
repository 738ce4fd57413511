-- How often the body of a counted loop is gone through, by the numbers in its code alone.
use Rattle.std.specs.Prelude.{◌≡◌, ℕ, ◌≤◌, ℤ, pos, negsuc, ◌+ℤ◌, ◌*ℤ◌, ◌≤ℤ◌, ◌<ℤ◌, refl}
use Rattle.rv32_decode.specs.declared.instruction.BranchOp.{BranchOp}
use Rattle.rv32_decode.specs.declared.instruction.BranchOp.TheVariants.{Bne, Blt}

-- the counter after so many rounds
abbrev pub after_rounds : ℤ → ℤ → ℕ → ℤ
after_rounds start step rounds = start +ℤ pos rounds *ℤ step

-- the branch isn't taken: `bne` where the counter is the limit, and `blt` where it isn't below it
abbrev pub HasEnded : BranchOp → ℤ → ℤ → Type 0
HasEnded Bne limit counter = counter ≡ limit
HasEnded Blt limit counter = limit ≤ℤ counter
HasEnded op limit counter = ⊥

-- a counter that `blt` compares goes up
abbrev pub GoesUp : BranchOp → ℤ → Type 0
GoesUp Blt step = pos 0 <ℤ step
GoesUp op step = Unit {0}

-- the least number from 1 of which the fact holds
pub record IsLeastFromOne (P : ℕ → Type 0) (n : ℕ) : Type 0 where
  pub positive : 1 ≤ n
  pub holds : P n
  pub least : (i : ℕ) → 1 ≤ i → P i → n ≤ i

-- so many rounds after the start the branch isn't taken for the first time
pub record AreRounds (op : BranchOp) (start step limit : ℤ) (rounds : ℕ) : Type 0 where
  pub up : GoesUp op step
  pub first : IsLeastFromOne (λ n. HasEnded op limit (after_rounds start step n)) rounds

-- ---- Worked cases

-- from 3 down to 0, and from 0 up to 7 by 2
down_case : after_rounds (pos 3) (negsuc 0) 3 ≡ pos 0
down_case = refl

up_case : after_rounds (pos 0) (pos 2) 3 ≡ pos 6
up_case = refl
