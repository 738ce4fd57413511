-- The least pending source, as a search through all of them finds it.
use Rattle.std.proofs.Common.{◌≡◌, ℕ, zero, suc, ◌+◌, ◌<◌, Bool, true, false, List, [], ◌∷◌, length, Some, None, refl, ◌∙◌, ap, arith}
use Rattle.std.specs.Prelude.{slice_index_or}
use Rattle.std.specs.List.{position_from}
use Rattle.std.proofs.lemmas.Iterator.Adapters.{position_from-zero}
use Rattle.replay.specs.Working.Follows.{least_pending}

first_from : (i : ℕ) (xs : List Bool) (n : ℕ) → ((k : ℕ) → k < n → slice_index_or xs k false ≡ false) → slice_index_or xs n false ≡ true
    → position_from (λ pending. pending) i xs ≡ Some (i + n)
first_from i [] n none is = absurd cc
first_from i (true ∷ xs) zero none is = ap Some (omega arith)
first_from i (false ∷ xs) zero none is = absurd cc
first_from i (true ∷ xs) (suc n) none is = let first = none 0 (omega arith) in absurd cc
first_from i (false ∷ xs) (suc n) none is =
    first_from (i + 1) xs n (λ k below. none (suc k) (omega arith)) is ∙ ap Some (omega arith)

none_from : (i : ℕ) (xs : List Bool) → ((k : ℕ) → k < length xs → slice_index_or xs k false ≡ false) → position_from (λ pending. pending) i xs ≡ None
none_from i [] none = refl
none_from i (true ∷ xs) none = let first = none 0 (omega arith) in absurd cc
none_from i (false ∷ xs) none = none_from (i + 1) xs (λ k below. none (suc k) (omega arith))

pub first_pending : (xs : List Bool) (n : ℕ) → ((k : ℕ) → k < n → slice_index_or xs k false ≡ false) → slice_index_or xs n false ≡ true → least_pending xs ≡ Some n
first_pending xs n none is = position_from-zero (λ pending. pending) xs ∙ (first_from 0 xs n none is ∙ ap Some (omega arith))

pub none_pending : (xs : List Bool) → ((k : ℕ) → k < length xs → slice_index_or xs k false ≡ false) → least_pending xs ≡ None
none_pending xs none = position_from-zero (λ pending. pending) xs ∙ none_from 0 xs none
