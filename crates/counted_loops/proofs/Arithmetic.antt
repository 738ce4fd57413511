-- Words of signed numbers.
use Rattle.std.proofs.Common.{◌≡◌, ℕ, zero, suc, ◌+◌, ◌-◌, ◌*◌, ◌^◌, ◌<◌, ◌≤◌, ◌%◌, Bool, true, false, cond, ℤ, pos, negsuc, ◌+ℤ◌, ◌*ℤ◌, ◌≤ℤ◌, ◌<ℤ◌, refl, sym, ◌∙◌, ap, subst, arith}
use Rattle.std.specs.Prelude.{nat_lt, int_lt, not, ◌==◌}
use Rattle.std.specs.Int.{w32, cast_unsigned}
use Rattle.std.proofs.lemmas.Bool.{ltb-true, ltb-false}
use Rattle.std.proofs.lemmas.Bool.Decides.{nat_tests}
use Rattle.std.proofs.lemmas.Int.{ints, to_z-of_z, by_lt_z}
use mir.Val.{SFits}
use Rattle.rv32_decode.specs.declared.instruction.BranchOp.{BranchOp}
use Rattle.rv32_decode.specs.declared.instruction.BranchOp.TheVariants.{Beq, Bne, Blt, Bge, Bltu, Bgeu}
use Rattle.rv32_decode.specs.Formats.{IsSigned}
use Rattle.std.proofs.Math.IntN.{suc_ℤ-*ℤ, zero-*ℤ, +ℤ_idr, +ℤ_comm, +ℤ_assoc}
use Rattle.rv32_machine.specs.Execution.{word_of, signed_of, is_taken}
use Rattle.counted_loops.specs.Rounds.{after_rounds, AreRounds, HasEnded}

-- a word less another number
word_less : (m n : ℕ) (less : Bool) → nat_lt m (suc n) ≡ less
    → (m % 2 ^ 32 + (2 ^ 32 - 1 - n % 2 ^ 32)) % 2 ^ 32 ≡ word_of (cond less (negsuc (suc n - suc m)) (pos (m - suc n)))
word_less m n true is = let below : m < suc n = ltb-true m (suc n) is in omega arith
word_less m n false is = let above : suc n ≤ m = ltb-false m (suc n) is in omega arith

-- the word of a sum is the sum of the words, wrapping
pub word_sum : (a b : ℤ) → (word_of a + word_of b) % 2 ^ 32 ≡ word_of (a +ℤ b)
word_sum (pos m) (pos n) = omega arith
word_sum (pos m) (negsuc n) = word_less m n (nat_lt m (suc n)) refl
word_sum (negsuc m) (pos n) = ap (λ (sum : ℕ). sum % 2 ^ 32) (omega arith) ∙ word_less n m (nat_lt n (suc m)) refl
word_sum (negsuc m) (negsuc n) = omega arith

pub rounds_zero : (start step : ℤ) → after_rounds start step 0 ≡ start
rounds_zero start step = ap (λ (z : ℤ). start +ℤ z) (zero-*ℤ step) ∙ +ℤ_idr start

pub rounds_more : (start step : ℤ) (n : ℕ) → after_rounds start step (suc n) ≡ after_rounds start step n +ℤ step
rounds_more start step n = omega (arith, ints, suc_ℤ-*ℤ (pos n) step)

-- ---- What a branch compares

-- a word holds the signed number of which it is the word
signed_word : (z : ℤ) → IsSigned 32 z → signed_of (word_of z) ≡ z
signed_word z fits = ap signed_of (cast z fits) ∙ to_z-of_z w32 z (fits_of z fits)
  where
    fits_of : (n : ℤ) → IsSigned 32 n → SFits w32 n
    fits_of (pos n) small = record { sfits = omega (arith, ints) }
    fits_of (negsuc n) small = record { sfits = omega (arith, ints) }

    cast : (n : ℤ) → IsSigned 32 n → word_of n ≡ cast_unsigned w32 n
    cast (pos n) small = let below : n < 2 ^ 32 = omega (arith, ints) in omega arith
    cast (negsuc n) small = let below : n < 2 ^ 31 = omega (arith, ints) in omega arith

not_equal : (a b : ℕ) → a ≡ b → not (a == b) ≡ false
not_equal a b same = grind (arith, nat_tests)

not_below : (a b : ℤ) → b ≤ℤ a → int_lt a b ≡ false
not_below a b above = grind (arith, ints)

-- a branch of a counted loop isn't taken where it has ended
pub ended_not_taken : (op : BranchOp) (counter limit : ℤ) → HasEnded op limit counter → (op ≡ Blt → IsSigned 32 counter) → IsSigned 32 limit
    → is_taken op (word_of counter) (word_of limit) ≡ false
ended_not_taken Bne counter limit ended fits fits' = not_equal (word_of counter) (word_of limit) (ap word_of ended)
ended_not_taken Blt counter limit ended fits fits' =
    rw (signed_word counter (fits refl), signed_word limit fits') (not_below counter limit ended)
ended_not_taken Beq counter limit ended fits fits' = absurd ended
ended_not_taken Bge counter limit ended fits fits' = absurd ended
ended_not_taken Bltu counter limit ended fits fits' = absurd ended
ended_not_taken Bgeu counter limit ended fits fits' = absurd ended

-- The last value of a counter that `blt` compares is a signed word: it is less than a step above the limit, or one round
-- is all.
pub last_fits : (start step limit : ℤ) (bound : ℕ) → AreRounds Blt start step limit (suc bound)
    → IsSigned 12 start → IsSigned 12 step → IsSigned 12 limit → IsSigned 32 (after_rounds start step (suc bound))
last_fits start step limit zero are a b c =
    let first : after_rounds start step 1 ≡ start +ℤ step = rounds_more start step 0 ∙ ap (λ (z : ℤ). z +ℤ step) (rounds_zero start step) in
    let ended : limit ≤ℤ after_rounds start step 1 = are.first.holds in
    (omega (arith, ints, first, ended, a, b, c), omega (arith, ints, first, a, b, c))
last_fits start step limit (suc n) are a b c =
    let more : after_rounds start step (suc (suc n)) ≡ after_rounds start step (suc n) +ℤ step = rounds_more start step (suc n) in
    let ended : limit ≤ℤ after_rounds start step (suc (suc n)) = are.first.holds in
    let before : after_rounds start step (suc n) <ℤ limit = by_lt_z (after_rounds start step (suc n)) limit (λ lt. lt)
    (λ le. absurd (let early : suc (suc n) ≤ suc n = are.first.least (suc n) (omega arith) le in omega arith)) in
    (omega (arith, ints, more, ended, c), omega (arith, ints, more, before, b, c))
