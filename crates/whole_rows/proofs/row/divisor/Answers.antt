-- The divisor of the entries so far.
use Rattle.std.proofs.Common.{◌≡◌, ◌<◌, ◌+◌, List, ℕ, ℤ, pos, get_or, length, take, unsigned_abs, rules, arith}
use Rattle.std.proofs.lemmas.List.{take_all}
use Rattle.std.proofs.lemmas.Int.{to_z-of_z, ints}
use Rattle.std.specs.Int.{w128}
use mir.Val.{SFits, to_z, of_z}
use Rattle.whole_rows.specs.Row.{nat_gcd}
use Rattle.whole_rows.proofs.Divisors.{IsDivisorOf, IsDivisorOf_more, IsDivisorOf_zero, divisor_is_one, same-divisor_of, nat_gcd_is}
use Rattle.whole_rows.proofs.row.divisor.Goals as goal
use Rattle.whole_rows.proofs.row.divisor.Goals.{then-entry-ne0+else-divisor-eq1, else-entry-ne0}

-- the divisor with one more entry, as the code computes it
more : (row : List ℤ) (i : ℕ) (x : ℤ) (g size h : ℕ) → i < length row → x ≡ get_or row i (pos 0) → size ≡ unsigned_abs x → h ≡ nat_gcd size g → IsDivisorOf (take i row) g → IsDivisorOf (take (i + 1) row) h
more row i x g size h within at_x e f before =
    rw (f, e) (IsDivisorOf_more row i x g (nat_gcd (unsigned_abs x) g) within at_x before (nat_gcd_is (unsigned_abs x) g))

pub returns-then-divisor-eq1 : goal.returns-then-divisor-eq1
returns-then-divisor-eq1 c =
    let row = c.args.entries.now in
    let i = c.loop-entry.entry-index in
    let fits : SFits w128 (get_or row i (pos 0)) = search rules in
    let h : ℕ = c.common_divisor-divisor.result in
    let is : IsDivisorOf (take (i + 1) row) h =
    more row i (to_z w128 (of_z w128 (get_or row i (pos 0)))) c.loop-entry.divisor c.unsigned_abs.result h c.loop-entry-test.true (to_z-of_z w128 (get_or row i (pos 0)) fits) c.unsigned_abs.ensures.value c.common_divisor-divisor.ensures c.loop-entry.invariant in
    let one : h ≡ 1 = omega arith in
    divisor_is_one row (i + 1) (rw one at is)

pub loop-entry-preserved : goal.loop-entry-preserved
loop-entry-preserved c =
    elim c.if-entry-ne0.branch [
      | then-entry-ne0+else-divisor-eq1 w ↦
          (let row = c.args.entries.now in
          let i = c.loop-entry.entry-index in
          let fits : SFits w128 (get_or row i (pos 0)) = search rules in
          rw w.divisor-is (more row i (to_z w128 (of_z w128 (get_or row i (pos 0)))) c.loop-entry.divisor w.unsigned_abs.result w.common_divisor-divisor.result c.loop-entry-test.true (to_z-of_z w128 (get_or row i (pos 0)) fits) w.unsigned_abs.ensures.value w.common_divisor-divisor.ensures c.loop-entry.invariant))
      | else-entry-ne0 w ↦
          (let row = c.args.entries.now in
          let i = c.loop-entry.entry-index in
          let fits : SFits w128 (get_or row i (pos 0)) = search rules in
          let zero : unsigned_abs (to_z w128 (of_z w128 (get_or row i (pos 0)))) ≡ 0 = omega (arith, ints) in
          rw w.divisor-is (IsDivisorOf_zero row i (to_z w128 (of_z w128 (get_or row i (pos 0)))) c.loop-entry.divisor c.loop-entry-test.true (to_z-of_z w128 (get_or row i (pos 0)) fits) zero c.loop-entry.invariant))
    ]

pub returns : goal.returns
returns c =
    let all : take c.loop-entry.entry-index c.args.entries.now ≡ c.args.entries.now = take_all c.loop-entry.entry-index c.args.entries.now (omega arith) in
    same-divisor_of c.args.entries.now c.loop-entry.divisor (rw all at c.loop-entry.invariant)
