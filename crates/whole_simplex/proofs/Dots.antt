-- Products of a row with a function of its places, summed up; such a function stands for a solution of the row's equation.
use Rattle.std.proofs.Common.{◌≡◌, ℕ, zero, suc, ◌+◌, ◌<◌, ◌≤◌, ◌==◌, cond, List, [], ◌∷◌, ◌++◌, map, length, ℤ, pos, ◌+ℤ◌, ◌-ℤ◌, ◌*ℤ◌, refl, sym, ap, ◌∙◌, arith}
use Rattle.std.proofs.Math.IntN.{*ℤ-zero, zero-*ℤ}
use Rattle.std.proofs.lemmas.Int.{ints}
use Rattle.std.proofs.lemmas.Bool.Decides.{nat_tests}
use Rattle.whole_simplex.specs.Tables.{entry, combined}
use Rattle.whole_simplex.proofs.Integers.{mul_add, sub_mul, mul_assoc, mul_swap}

-- the row's first entry stands at place `start`
abbrev pub dot : ℕ → List ℤ → (ℕ → ℤ) → ℤ
dot start [] v = pos 0
dot start (x ∷ row) v = x *ℤ v start +ℤ dot (suc start) row v

pub dot-append : (start : ℕ) (row other : List ℤ) (v : ℕ → ℤ) → dot start (row ++ other) v ≡ dot start row v +ℤ dot (start + length row) other v
dot-append start [] other v =
    let e : start + 0 ≡ start = omega arith in
    let f : dot (start + 0) other v ≡ dot start other v = ap (λ k. dot k other v) e in
    omega (arith, ints, f)
dot-append start (x ∷ row) other v =
    let e : start + suc (length row) ≡ suc start + length row = omega arith in
    let f : dot (start + suc (length row)) other v ≡ dot (suc start + length row) other v = ap (λ k. dot k other v) e in
    omega (arith, ints, dot-append (suc start) row other v, f)

pub dot-combined : (start : ℕ) (p a : ℤ) (row other : List ℤ) (v : ℕ → ℤ) → length row ≡ length other → dot start (combined p row a other) v ≡ p *ℤ dot start row v -ℤ a *ℤ dot start other v
dot-combined start p a [] [] v h = omega (arith, ints, *ℤ-zero p, *ℤ-zero a)
dot-combined start p a [] (y ∷ other) v h = absurd (omega arith)
dot-combined start p a (x ∷ row) [] v h = absurd (omega arith)
dot-combined start p a (x ∷ row) (y ∷ other) v h =
    let same : length row ≡ length other = omega arith in
    omega (
      arith,
      ints,
      dot-combined (suc start) p a row other v same,
      sub_mul (p *ℤ x) (a *ℤ y) (v start),
      mul_assoc p x (v start),
      mul_assoc a y (v start),
      mul_add p (x *ℤ v start) (dot (suc start) row v),
      mul_add a (y *ℤ v start) (dot (suc start) other v),
    )

pub dot-scaled : (start : ℕ) (c : ℤ) (row : List ℤ) (v : ℕ → ℤ) → dot start (map (λ x. c *ℤ x) row) v ≡ c *ℤ dot start row v
dot-scaled start c [] v = sym (*ℤ-zero c)
dot-scaled start c (x ∷ row) v =
    omega (arith, ints, dot-scaled (suc start) c row v, mul_assoc c x (v start), mul_add c (x *ℤ v start) (dot (suc start) row v))

-- ---- in the function

pub dot-sum : (start : ℕ) (row : List ℤ) (v w : ℕ → ℤ) → dot start row (λ k. v k +ℤ w k) ≡ dot start row v +ℤ dot start row w
dot-sum start [] v w = refl
dot-sum start (x ∷ row) v w = omega (arith, ints, dot-sum (suc start) row v w, mul_add x (v start) (w start))

pub dot-times : (start : ℕ) (row : List ℤ) (c : ℤ) (v : ℕ → ℤ) → dot start row (λ k. c *ℤ v k) ≡ c *ℤ dot start row v
dot-times start [] c v = sym (*ℤ-zero c)
dot-times start (x ∷ row) c v =
    omega (arith, ints, dot-times (suc start) row c v, mul_swap x c (v start), mul_add c (x *ℤ v start) (dot (suc start) row v))

pub dot-zero : (start : ℕ) (row : List ℤ) → dot start row (λ k. pos 0) ≡ pos 0
dot-zero start [] = refl
dot-zero start (x ∷ row) = omega (arith, ints, dot-zero (suc start) row, *ℤ-zero x)

-- functions that agree at the row's places
pub dot-same : (start : ℕ) (row : List ℤ) (v w : ℕ → ℤ) → ((k : ℕ) → start ≤ k → k < start + length row → v k ≡ w k) → dot start row v ≡ dot start row w
dot-same start [] v w h = refl
dot-same start (x ∷ row) v w h =
    let here : v start ≡ w start = h start (omega arith) (omega arith) in
    let rest : dot (suc start) row v ≡ dot (suc start) row w = dot-same (suc start) row v w (λ k low high. h k (omega arith) (omega arith)) in
    omega (arith, ints, rest, ap (λ y. x *ℤ y) here)

-- `c` at one place, and 0 at every other one
abbrev pub single : ℕ → ℤ → ℕ → ℤ
single place c k = cond (k == place) c (pos 0)

zeros_after : (start place : ℕ) (row : List ℤ) (c : ℤ) → place < start → dot start row (single place c) ≡ pos 0
zeros_after start place row c h =
    dot-same start row (single place c) (λ k. pos 0) (λ k low high. grind (arith, nat_tests)) ∙ dot-zero start row

single_here : (k : ℕ) (c : ℤ) → single k c k ≡ c
single_here k c = grind (arith, nat_tests)

single_other : (place k : ℕ) (c : ℤ) → k < place → single place c k ≡ pos 0
single_other place k c h = grind (arith, nat_tests)

-- what a single place reads
pub dot-single : (start i : ℕ) (row : List ℤ) (c : ℤ) → dot start row (single (start + i) c) ≡ entry row i *ℤ c
dot-single start i [] c = sym (zero-*ℤ c)
dot-single start zero (x ∷ row) c =
    let at : single (start + 0) c start ≡ c = grind (arith, nat_tests) in
    omega (arith, ints, zeros_after (suc start) (start + 0) row c (omega arith), ap (λ y. x *ℤ y) at)
dot-single start (suc i) (x ∷ row) c =
    let e : start + suc i ≡ suc start + i = omega arith in
    let at : single (start + suc i) c start ≡ pos 0 = single_other (start + suc i) start c (omega arith) in
    let rest : dot (suc start) row (single (start + suc i) c) ≡ entry row i *ℤ c =
    ap (λ k. dot (suc start) row (single k c)) e ∙ dot-single (suc start) i row c in
    omega (arith, ints, rest, ap (λ y. x *ℤ y) at, *ℤ-zero x)

pub dot-single_at : (place : ℕ) (row : List ℤ) (c : ℤ) → dot 0 row (single place c) ≡ entry row place *ℤ c
dot-single_at place row c =
    let e : 0 + place ≡ place = omega arith in
    ap (λ k. dot 0 row (single k c)) (sym e) ∙ dot-single 0 place row c
