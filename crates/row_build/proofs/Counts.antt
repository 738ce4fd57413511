-- Columns that count once or not at all.
use Rattle.std.proofs.Common.{◌≡◌, ℕ, Bool, true, false, refl, ap, ◌∙◌, ℤ, pos, ◌+ℤ◌, ◌-ℤ◌, ◌*ℤ◌, ◌*◌, arith}
use Rattle.std.proofs.lemmas.Int.{ints}
use Rattle.row_build.specs.Families.{counted}
use Rattle.row_build.specs.Working.Factors.{once}

pub plus_none : (b : Bool) → counted b +ℤ pos 0 ≡ counted b
plus_none true = refl
plus_none false = refl

pub none_plus : (b : Bool) → pos 0 +ℤ counted b ≡ counted b
none_plus true = refl
none_plus false = refl

pub none_plus_plus : (b : Bool) → pos 0 +ℤ (counted b +ℤ pos 0) ≡ counted b
none_plus_plus true = refl
none_plus_plus false = refl

pub none_plus_none : (b : Bool) → pos 0 +ℤ (pos 0 +ℤ counted b) ≡ counted b
none_plus_none true = refl
none_plus_none false = refl

pub less_none : (b : Bool) → counted b -ℤ pos 0 ≡ counted b
less_none true = refl
less_none false = refl

-- as often as the bound says
pub bounded : (a b : Bool) (n : ℕ) (x y : ℤ) → counted a ≡ x → counted b ≡ y → pos (once a) -ℤ pos (n * once b) ≡ x -ℤ pos n *ℤ y
bounded a b n x y e e' = rw (← e, ← e') (by_cases a b n)
  where
    product : (b : Bool) (n : ℕ) → pos (n * once b) ≡ pos n *ℤ counted b
    product true n = omega (arith, ints)
    product false n = omega (arith, ints)

    same : (a : Bool) → pos (once a) ≡ counted a
    same true = refl
    same false = refl

    by_cases : (a b : Bool) (n : ℕ) → pos (once a) -ℤ pos (n * once b) ≡ counted a -ℤ pos n *ℤ counted b
    by_cases a b n = ap (λ z. pos (once a) -ℤ z) (product b n) ∙ ap (λ z. z -ℤ pos n *ℤ counted b) (same a)

-- a distance for each time, less a cost
pub apart : (b : Bool) (n c : ℕ) (y : ℤ) → counted b ≡ y → pos (n * once b) -ℤ pos c ≡ pos n *ℤ y -ℤ pos c
apart b n c y e = rw (← e) (ap (λ z. z -ℤ pos c) (product b n))
  where
    product : (b : Bool) (n : ℕ) → pos (n * once b) ≡ pos n *ℤ counted b
    product true n = omega (arith, ints)
    product false n = omega (arith, ints)
