-- What the equations of table 0 say of a solution.
use Rattle.std.proofs.Common.{◌≡◌, ℕ, zero, suc, ◌+◌, ◌<◌, List, [], ◌∷◌, ◌++◌, map, length, replicate, ℤ, pos, neg_ℤ, ◌+ℤ◌, ◌-ℤ◌, ◌*ℤ◌, refl, ap, arith, length-append}
use Rattle.std.proofs.Math.ListN.{length-replicate}
use Rattle.std.proofs.Math.IntN.{zero-*ℤ}
use Rattle.std.proofs.lemmas.Int.{ints}
use Rattle.std.proofs.lemmas.List.{length-map}
use Rattle.whole_rows.specs.Rows.{RowsData}
use Rattle.whole_simplex.specs.Tables.{width, unit_row, first_line, first_objective}
use Rattle.whole_simplex.proofs.Dots.{dot, dot-append}
use Rattle.whole_simplex.proofs.First.{length-unit_row}
use Rattle.whole_simplex.proofs.Integers.{neg_mul}
use Rattle.whole_simplex.proofs.Primitive.{one_times}

dot-replicate : (start places : ℕ) (v : ℕ → ℤ) → dot start (replicate places (pos 0)) v ≡ pos 0
dot-replicate start zero v = refl
dot-replicate start (suc places) v = omega (arith, ints, zero-*ℤ (v start), dot-replicate (suc start) places v)

dot-unit_row : (start places place : ℕ) (v : ℕ → ℤ) → place < places → dot start (unit_row places place) v ≡ v (start + place)
dot-unit_row start zero place v h = absurd (omega arith)
dot-unit_row start (suc places) zero v h =
    let e : start + 0 ≡ start = omega arith in
    omega (arith, ints, one_times (v start), dot-replicate (suc start) places v, ap v e)
dot-unit_row start (suc places) (suc place) v h =
    let e : start + suc place ≡ suc start + place = omega arith in
    omega (arith, ints, zero-*ℤ (v start), dot-unit_row (suc start) places place v (omega arith), ap v e)

pub dot-negated : (start : ℕ) (row : List ℤ) (v : ℕ → ℤ) → dot start (map neg_ℤ row) v ≡ neg_ℤ (dot start row v)
dot-negated start [] v = refl
dot-negated start (x ∷ row) v = omega (arith, ints, neg_mul x (v start), dot-negated (suc start) row v)

-- a row of three parts, of which the last has two numbers
pub dot-parts : (n m : ℕ) (columns slacks : List ℤ) (a b : ℤ) (v : ℕ → ℤ) → length columns ≡ n → length slacks ≡ m → dot 0 (columns ++ slacks ++ a ∷ b ∷ []) v ≡ dot 0 columns v +ℤ dot n slacks v +ℤ (a *ℤ v (n + m) +ℤ b *ℤ v (n + m + 1))
dot-parts n m columns slacks a b v hc hs =
    let e : 0 + length columns ≡ n = omega arith in
    let f : 0 + length (columns ++ slacks) ≡ n + m = omega (arith, length-append columns slacks) in
    let g : suc (n + m) ≡ n + m + 1 = omega arith in
    let first : dot (0 + length columns) slacks v ≡ dot n slacks v = ap (λ k. dot k slacks v) e in
    let second : dot (0 + length (columns ++ slacks)) (a ∷ b ∷ []) v ≡ dot (n + m) (a ∷ b ∷ []) v = ap (λ k. dot k (a ∷ b ∷ []) v) f in
    let last : b *ℤ v (suc (n + m)) ≡ b *ℤ v (n + m + 1) = ap (λ k. b *ℤ v k) g in
    omega (arith, ints, dot-append 0 (columns ++ slacks) (a ∷ b ∷ []) v, dot-append 0 columns slacks v, first, second, last)

pub line_dot : (d : RowsData) (i : ℕ) (row : List ℤ) (right : ℤ) (v : ℕ → ℤ) → length row ≡ length d.costs → i < length d.rows → dot 0 (first_line d i row right).entries v ≡ dot 0 row v +ℤ v (length d.costs + i) +ℤ right *ℤ v (width d + 1)
line_dot d i row right v h below =
    omega (
      arith,
      ints,
      dot-parts (length d.costs) (length d.rows) row (unit_row (length d.rows) i) (pos 0) right v h (length-unit_row (length d.rows) i),
      dot-unit_row (length d.costs) (length d.rows) i v below,
      zero-*ℤ (v (width d)),
    )

pub objective_dot : (d : RowsData) (v : ℕ → ℤ) → dot 0 (first_objective d) v ≡ v (width d) -ℤ dot 0 d.costs v
objective_dot d v =
    omega (
      arith,
      ints,
      dot-parts (length d.costs) (length d.rows) (map neg_ℤ d.costs) (replicate (length d.rows) (pos 0)) (pos 1) (pos 0) v (length-map d.costs neg_ℤ) (length-replicate (length d.rows) (pos 0)),
      dot-replicate (length d.costs) (length d.rows) v,
      dot-negated 0 d.costs v,
      zero-*ℤ (v (width d + 1)),
      one_times (v (width d)),
    )
