-- A test that each number below a count passes, which is computed.
use Rattle.std.proofs.Common.{◌≡◌, ℕ, zero, suc, ◌+◌, ◌<◌, Bool, true, subst, arith}
use Rattle.std.specs.List.{list_all, range_with_len}
use Rattle.std.proofs.lemmas.Bool.{and_parts}

passing_from : (test : ℕ → Bool) (from count d : ℕ) → list_all test (range_with_len from count) ≡ true → d < count → test (from + d) ≡ true
passing_from test from zero d all below = absurd (omega arith)
passing_from test from (suc count) zero all below = let same : from + 0 ≡ from = omega arith in rw same ((and_parts _ _ all).0)
passing_from test from (suc count) (suc d) all below =
    let same : from + suc d ≡ (from + 1) + d = omega arith in rw same (passing_from test (from + 1) count d (and_parts _ _ all).1 (omega arith))

pub passing : (test : ℕ → Bool) (count d : ℕ) → list_all test (range_with_len 0 count) ≡ true → d < count → test d ≡ true
passing test count d all below =
    let same : 0 + d ≡ d = omega arith in subst (λ n. test n ≡ true) same (passing_from test 0 count d all below)
