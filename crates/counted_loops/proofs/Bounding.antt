-- That the numbers of a counted loop give its rounds by a division.
use Rattle.std.proofs.Common.{◌≡◌, ℕ, zero, suc, ◌+◌, ◌-◌, ◌*◌, ◌/◌, ◌<◌, ◌≤◌, ◌⊎◌, inl, inr, ℤ, pos, negsuc, ◌+ℤ◌, ◌-ℤ◌, ◌*ℤ◌, ◌≤ℤ◌, ◌<ℤ◌, neg_ℤ, unsigned_abs, refl, sym, ◌∙◌, ap, subst, arith}
use Rattle.std.proofs.lemmas.Int.{ints, by_lt_z}
use Rattle.std.proofs.Math.Nat.{le_of_mul-le-mul_right, div-mul-le_self, lt-div-mul-add, lt_of_mul-lt-mul_left, div-eq_of_lt}
use Rattle.rv32_decode.specs.declared.instruction.BranchOp.{BranchOp}
use Rattle.rv32_decode.specs.declared.instruction.BranchOp.TheVariants.{Beq, Bne, Blt, Bge, Bltu, Bgeu}
use Rattle.rv32_decode.specs.Formats.{IsSigned}
use Rattle.counted_loops.specs.Working.Distances.{Leads, StaysBelow}
use Rattle.counted_loops.specs.Rounds.{after_rounds, AreRounds}

-- ---- `bne`: the counter comes to the limit

-- after so many rounds the counter is the limit where so many steps make up the distance
pub record Meets (start step limit : ℤ) (n distance pace : ℕ) : Type 0 where
  pub there : n * pace ≡ distance → after_rounds start step n ≡ limit
  pub back : after_rounds start step n ≡ limit → n * pace ≡ distance

meets_by : (start step limit : ℤ) (n distance pace : ℕ) → Leads start step limit → distance ≡ unsigned_abs (limit -ℤ start) → pace ≡ unsigned_abs step
    → Meets start step limit n distance pace
meets_by start (pos p) limit n distance pace leads is paces =
    let same : n * pace ≡ n * p = ap (λ k. n * k) paces in
    elim leads [
      | inl up ↦ record { there = λ e. omega (arith, ints, up, same, e, is); back = λ e. omega (arith, ints, up, same, e, is) }
      | inr down ↦ absurd (omega (arith, ints, down))
    ]
meets_by start (negsuc p) limit n distance pace leads is paces =
    let same : n * pace ≡ n * suc p = ap (λ k. n * k) paces in
    elim leads [
      | inl up ↦ absurd (omega (arith, ints, up))
      | inr down ↦ record { there = λ e. omega (arith, ints, down, same, e, is); back = λ e. omega (arith, ints, down, same, e, is) }
    ]

moves : (start step limit : ℤ) (pace : ℕ) → Leads start step limit → pace ≡ unsigned_abs step → 1 ≤ pace
moves start (pos p) limit pace (inl up) paces = omega (arith, ints, up, paces)
moves start (pos p) limit pace (inr down) paces = absurd (omega (arith, ints, down))
moves start (negsuc p) limit pace leads paces = omega (arith, paces)

pub until_ends : (start step limit : ℤ) (bound distance pace : ℕ) → Leads start step limit → distance ≡ unsigned_abs (limit -ℤ start) → pace ≡ unsigned_abs step
    → suc bound * pace ≡ distance → AreRounds Bne start step limit (suc bound)
until_ends start step limit bound distance pace leads is paces exact = record {
  up = tt;
  first = record {
    positive = omega arith;
    holds = (meets_by start step limit (suc bound) distance pace leads is paces).there exact;
    least = λ i positive ended. le_of_mul-le-mul_right
        (let other : i * pace ≡ distance = (meets_by start step limit i distance pace leads is paces).back ended in omega (arith, other, exact))
        (moves start step limit pace leads paces);
  };
}

pub until_only : (start step limit : ℤ) (distance pace : ℕ) → Leads start step limit → distance ≡ unsigned_abs (limit -ℤ start) → pace ≡ unsigned_abs step
    → ((bound : ℕ) → suc bound * pace ≡ distance → ⊥) → (bound : ℕ) → AreRounds Bne start step limit (suc bound) → ⊥
until_only start step limit distance pace leads is paces none bound are =
    none bound ((meets_by start step limit (suc bound) distance pace leads is paces).back are.first.holds)

-- a step away from the limit never leads there
pub until_never : (start step limit : ℤ) → (step ≡ pos 0 → ⊥) → (Leads start step limit → ⊥) → (n : ℕ) → after_rounds start step (suc n) ≡ limit → ⊥
until_never start (pos zero) limit moves away n there = moves refl
until_never start (pos (suc p)) limit moves away n there = away (inl (omega (arith, ints), omega (arith, ints, there)))
until_never start (negsuc p) limit moves away n there = away (inr (omega (arith, ints), omega (arith, ints, there)))

-- ---- `blt`: the counter comes to the limit, or goes past it

-- the counter after so many rounds, where the step is above 0
up_by : (start step : ℤ) (n pace : ℕ) → pos 0 <ℤ step → pace ≡ unsigned_abs step → after_rounds start step n ≡ start +ℤ pos (n * pace)
up_by start (pos p) n pace up paces = ap (λ k. start +ℤ pos (n * k)) (sym paces)
up_by start (negsuc p) n pace up paces = absurd (omega (arith, ints, up))

abbrev IsPast : ℤ → ℤ → ℤ → ℕ → Type 0
IsPast start step limit n = limit ≤ℤ after_rounds start step n

far_ends : (start step limit : ℤ) (distance pace : ℕ) → pos 0 <ℤ step → pace ≡ unsigned_abs step → 0 < pace → start +ℤ pos (suc distance) ≡ limit
    → AreRounds Blt start step limit (suc (distance / pace))
far_ends start step limit distance pace up paces moves there = record {
  up = up;
  first = record {
    positive = omega arith;
    holds =
        let last : suc distance ≤ suc (distance / pace) * pace = omega (arith, lt-div-mul-add {a = distance} moves) in
        omega (arith, ints, up_by start step (suc (distance / pace)) pace up paces, there, last);
    least = λ i positive past.
        let at : after_rounds start step i ≡ start +ℤ pos (i * pace) = up_by start step i pace up paces in
        let far : suc distance ≤ i * pace = omega (arith, ints, at, there, past) in
        let before : distance / pace * pace ≤ distance = div-mul-le_self distance pace in
        let less : pace * (distance / pace) < pace * i = omega (arith, far, before) in
        lt_of_mul-lt-mul_left pace less;
  };
}

near_ends : (start step limit : ℤ) (pace : ℕ) → pos 0 <ℤ step → pace ≡ unsigned_abs step → 0 < pace → limit ≤ℤ start
    → AreRounds Blt start step limit 1
near_ends start step limit pace up paces moves past = record {
  up = up;
  first = record {
    positive = omega arith;
    holds = let at : after_rounds start step 1 ≡ start +ℤ pos (1 * pace) = up_by start step 1 pace up paces in omega (arith, ints, at, past);
    least = λ i positive ended. positive;
  };
}

pub past_ends : (start step limit : ℤ) (distance pace : ℕ) → pos 0 <ℤ step → pace ≡ unsigned_abs step → StaysBelow start limit distance
    → AreRounds Blt start step limit (suc (distance / pace))
past_ends start step limit distance pace up paces stays =
    let moving : 0 < pace = moves_up step pace up paces in
    by_lt_z start limit (λ lt. far_ends start step limit distance pace up paces moving (stays.below lt))
    (λ past. let none : distance / pace ≡ 0 = ap (λ d. d / pace) (stays.past past) ∙ div-eq_of_lt moving in
    subst (λ n. AreRounds Blt start step limit (suc n)) (sym none) (near_ends start step limit pace up paces moving past))
  where
    moves_up : (z : ℤ) (n : ℕ) → pos 0 <ℤ z → n ≡ unsigned_abs z → 0 < n
    moves_up (pos p) n above is = omega (arith, ints, above, is)
    moves_up (negsuc p) n above is = absurd (omega (arith, ints, above))

-- ---- Bounds are small

-- a counter that hasn't come to the limit has made fewer steps than lie between
steps_below : (start step limit : ℤ) (n : ℕ) → (step ≡ pos 0 → ⊥) → IsSigned 12 start → IsSigned 12 limit → after_rounds start step n ≡ limit → n ≤ 4095
steps_below start (pos zero) limit n moves a b there = absurd (moves refl)
steps_below start (pos (suc p)) limit n moves a b there = let far : n ≤ n * suc p = omega arith in omega (arith, ints, a, b, there, far)
steps_below start (negsuc p) limit n moves a b there = let far : n ≤ n * suc p = omega arith in omega (arith, ints, a, b, there, far)

steps_before : (start step limit : ℤ) (n : ℕ) → pos 0 <ℤ step → IsSigned 12 start → IsSigned 12 limit → after_rounds start step n <ℤ limit → n ≤ 4095
steps_before start (pos zero) limit n up a b there = absurd (omega (arith, ints, up))
steps_before start (pos (suc p)) limit n up a b there = let far : n ≤ n * suc p = omega arith in omega (arith, ints, a, b, there, far)
steps_before start (negsuc p) limit n up a b there = absurd (omega (arith, ints, up))

pub bound_small : (op : BranchOp) (start step limit : ℤ) (bound : ℕ) → (step ≡ pos 0 → ⊥) → IsSigned 12 start → IsSigned 12 limit
    → AreRounds op start step limit (suc bound) → bound ≤ 4095
bound_small Bne start step limit bound moves a b are = let few = steps_below start step limit (suc bound) moves a b are.first.holds in omega arith
bound_small Blt start step limit zero moves a b are = omega arith
bound_small Blt start step limit (suc n) moves a b are =
    steps_before start step limit (suc n) are.up a b (by_lt_z (after_rounds start step (suc n)) limit (λ lt. lt)
    (λ le. absurd (let early : suc (suc n) ≤ suc n = are.first.least (suc n) (omega arith) le in omega arith)))
bound_small Beq start step limit bound moves a b are = absurd are.first.holds
bound_small Bge start step limit bound moves a b are = absurd are.first.holds
bound_small Bltu start step limit bound moves a b are = absurd are.first.holds
bound_small Bgeu start step limit bound moves a b are = absurd are.first.holds
