-- One step more of the loops over columns.
use Rattle.std.proofs.Common.{◌≡◌, ◌≢◌, ℕ, zero, suc, ◌+◌, ◌<◌, List, [], ◌∷◌, ◌++◌, length, get_or, drop, refl, ap, arith}
use Rattle.std.proofs.lemmas.Bool.{eq-eqb, ne_eqb}
use Rattle.std.proofs.lemmas.List.{drop_more, drop_all}
use Rattle.std.specs.List.{range_with_len}
use Rattle.row_squeeze.specs.Chains.{place_of}

pub range_push : (a n : ℕ) → range_with_len a (n + 1) ≡ range_with_len a n ++ (a + n) ∷ []
range_push a zero = ap (λ m. m ∷ []) (omega arith)
range_push a (suc n) =
    let e : suc n + 1 ≡ suc (n + 1) = omega arith in
    let f : a + suc n ≡ a + 1 + n = omega arith in
    rw (e, f, range_push (a + 1) n) refl

-- ---- the place of a head, sought from the first one on

pub place_next : (head : ℕ) (heads : List ℕ) (i : ℕ) → i < length heads → get_or heads i 0 ≢ head → place_of head heads ≡ i + place_of head (drop i heads) → place_of head heads ≡ i + 1 + place_of head (drop (i + 1) heads)
place_next head heads i h n so_far =
    let here : place_of head (drop i heads) ≡ suc (place_of head (drop (i + 1) heads)) =
    rw (drop_more heads i 0 h, ne_eqb (get_or heads i 0) head n) refl in
    omega arith

pub place_here : (head : ℕ) (heads : List ℕ) (i : ℕ) → i < length heads → get_or heads i 0 ≡ head → place_of head heads ≡ i + place_of head (drop i heads) → i ≡ place_of head heads
place_here head heads i h e so_far =
    let here : place_of head (drop i heads) ≡ 0 = rw (drop_more heads i 0 h, eq-eqb (get_or heads i 0) head e) refl in
    omega arith

pub place_past : (head : ℕ) (heads : List ℕ) (i : ℕ) → i ≡ length heads → place_of head heads ≡ i + place_of head (drop i heads) → length heads ≡ place_of head heads
place_past head heads i e so_far =
    let here : place_of head (drop i heads) ≡ 0 = rw (drop_all i heads (omega arith)) refl in
    omega arith
