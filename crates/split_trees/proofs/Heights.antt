-- How deep cuts nest, tested part by part.
use Rattle.std.proofs.Common.{◌≡◌, ℕ, zero, suc, ◌+◌, ◌-◌, ◌<◌, ◌≤◌, Bool, true, false, max, refl, nat_le, ◌⊎◌, inl, inr, arith}
use Rattle.std.specs.Prelude.{◌&&◌}
use Rattle.std.proofs.lemmas.Bool.{cases_lt, le-leb, lt-leb}

pub nests_within : (a b most : ℕ) → 0 < most → nat_le (suc (max a b)) most ≡ (nat_le a (most - 1) && nat_le b (most - 1))
nests_within a b most some = at (cases_lt (most - 1) a) (cases_lt (most - 1) b)
  where
    at : (most - 1 < a) ⊎ (a ≤ most - 1) → (most - 1 < b) ⊎ (b ≤ most - 1)
        → nat_le (suc (max a b)) most ≡ (nat_le a (most - 1) && nat_le b (most - 1))
    at (inl high) other =
        let whole : most < suc (max a b) = omega arith in
        rw (lt-leb (suc (max a b)) most whole, lt-leb a (most - 1) high) refl
    at (inr low) (inl high) =
        let whole : most < suc (max a b) = omega arith in
        rw (lt-leb (suc (max a b)) most whole, le-leb a (most - 1) low, lt-leb b (most - 1) high) refl
    at (inr low) (inr lower) =
        let whole : suc (max a b) ≤ most = omega arith in
        rw (le-leb (suc (max a b)) most whole, le-leb a (most - 1) low, le-leb b (most - 1) lower) refl
