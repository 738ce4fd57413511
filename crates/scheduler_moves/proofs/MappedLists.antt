-- Lists of what members give, one member more.
use Rattle.std.proofs.Common.{◌≡◌, ℕ, zero, suc, ◌+◌, Bool, true, false, List, [], ◌∷◌, ◌++◌, map, take, sym, ap, ◌∙◌, add-one, append-nil}
use Rattle.std.specs.Prelude.{slice_get, IsSomeAnd, filter}
use Rattle.std.specs.List.{range_with_len}
use Rattle.std.proofs.lemmas.List.{map-append}
use Rattle.wcet_atomic_blocks.proofs.BeginLists.{filter_counts}

by_suc : {A B : Type 0} (number : A → ℕ) (f : ℕ → B) (xs : List A) (i n : ℕ) → IsSomeAnd (slice_get xs i) (λ x. number x ≡ n)
    → map (λ x. f (number x)) (take (suc i) xs) ≡ map (λ x. f (number x)) (take i xs) ++ f n ∷ []
by_suc number f [] i n some = absurd some
by_suc number f (x ∷ xs) zero n some = ap (λ m. f m ∷ []) some
by_suc number f (x ∷ xs) (suc i) n some = ap (λ ys. f (number x) ∷ ys) (by_suc number f xs i n some)

-- what the number of the next member gives
pub numbers_more : {A B : Type 0} (number : A → ℕ) (f : ℕ → B) (xs : List A) (i n : ℕ) → IsSomeAnd (slice_get xs i) (λ x. number x ≡ n)
    → map (λ x. f (number x)) (take (i + 1) xs) ≡ map (λ x. f (number x)) (take i xs) ++ f n ∷ []
numbers_more number f xs i n some = rw add-one (by_suc number f xs i n some)

passing_more : {B : Type 0} (f : ℕ → B) (test : ℕ → Bool) (n : ℕ) → test n ≡ true
    → map f (filter test (range_with_len 0 (n + 1))) ≡ map f (filter test (range_with_len 0 n)) ++ f n ∷ []
passing_more f test n passes =
    rw (filter_counts test n, passes) (map-append f (filter test (range_with_len 0 n)) (n ∷ []))

-- the next number passes the test, and what it gives is pushed
pub pushed_more : {B : Type 0} (f : ℕ → B) (test : ℕ → Bool) (n : ℕ) (now now' : List B) (y : B) → test n ≡ true
    → now ≡ map f (filter test (range_with_len 0 n)) → y ≡ f n → now' ≡ now ++ y ∷ [] → now' ≡ map f (filter test (range_with_len 0 (n + 1)))
pushed_more f test n now now' y passes was gives pushed =
    pushed ∙ ap (λ ys. ys ++ y ∷ []) was ∙ ap (λ z. map f (filter test (range_with_len 0 n)) ++ z ∷ []) gives ∙ sym (passing_more f test n passes)

-- the next number doesn't pass
pub kept_more : {B : Type 0} (f : ℕ → B) (test : ℕ → Bool) (n : ℕ) (now now' : List B) → test n ≡ false
    → now ≡ map f (filter test (range_with_len 0 n)) → now' ≡ now → now' ≡ map f (filter test (range_with_len 0 (n + 1)))
kept_more f test n now now' fails was kept =
    kept ∙ was ∙ sym (rw (filter_counts test n, fails) (ap (map f) (append-nil (filter test (range_with_len 0 n)))))
