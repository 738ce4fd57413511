-- What stands at the rows without a link.
use Rattle.std.proofs.Common.{◌≡◌, ℕ, zero, suc, ◌+◌, ◌<◌, List, [], ◌∷◌, ◌++◌, map, length, get_or, take, ℤ, pos, ◌+ℤ◌, ◌*ℤ◌, unsigned_abs, Option, Some, None, refl, sym, ap, ◌∙◌, zero-add, arith}
use Rattle.std.proofs.lemmas.List.{take_more, length-take-le}
use Rattle.std.proofs.lemmas.List.FromFn.{length-range_with_len}
use Rattle.std.specs.List.{range_with_len}
use Rattle.std.proofs.lemmas.Int.{ints}
use Rattle.whole_rows.specs.Rows.{product_sum}
use Rattle.row_squeeze.specs.declared.Link.{Link}
use Rattle.row_squeeze.specs.Links.{HasLink}
use Rattle.row_squeeze.specs.Squeezed.{kept}
use Rattle.row_squeeze.specs.Lift.{unlifted}
use Rattle.row_squeeze.proofs.Products.{zero_times}
use Rattle.row_squeeze.proofs.Steps.{range_push}

pub kept-map : {A B : Type 0} (f : A → B) (links : List (Option Link)) (xs : List A) → kept links (map f xs) ≡ map f (kept links xs)
kept-map f [] xs = refl
kept-map f (link ∷ links) [] = refl
kept-map f (None ∷ links) (x ∷ xs) = ap (λ ys. f x ∷ ys) (kept-map f links xs)
kept-map f (Some link ∷ links) (x ∷ xs) = kept-map f links xs

pub kept-length : {A B : Type 0} (links : List (Option Link)) (xs : List A) (ys : List B) → length xs ≡ length ys → length (kept links xs) ≡ length (kept links ys)
kept-length [] xs ys e = refl
kept-length (link ∷ links) [] [] e = refl
kept-length (link ∷ links) [] (y ∷ ys) e = absurd (omega arith)
kept-length (link ∷ links) (x ∷ xs) [] e = absurd (omega arith)
kept-length (None ∷ links) (x ∷ xs) (y ∷ ys) e = ap suc (kept-length links xs ys (omega arith))
kept-length (Some link ∷ links) (x ∷ xs) (y ∷ ys) e = kept-length links xs ys (omega arith)

-- the full row that a kept one was
pub kept_row : List (Option Link) → ℕ → ℕ
kept_row [] i = 0
kept_row (None ∷ links) zero = 0
kept_row (None ∷ links) (suc i) = suc (kept_row links i)
kept_row (Some link ∷ links) i = suc (kept_row links i)

pub kept_row-within : {A : Type 0} (links : List (Option Link)) (xs : List A) (i : ℕ) → i < length (kept links xs) → kept_row links i < length xs
unfolding kept_row
kept_row-within [] xs i h = absurd (omega arith)
kept_row-within (link ∷ links) [] i h = absurd (omega arith)
kept_row-within (None ∷ links) (x ∷ xs) zero h = omega arith
kept_row-within (None ∷ links) (x ∷ xs) (suc i) h = let rest = kept_row-within links xs i (omega arith) in omega arith
kept_row-within (Some link ∷ links) (x ∷ xs) i h = let rest = kept_row-within links xs i h in omega arith

pub kept_row-none : {A : Type 0} (links : List (Option Link)) (xs : List A) (i : ℕ) → i < length (kept links xs) → get_or links (kept_row links i) None ≡ None
unfolding kept_row
kept_row-none [] xs i h = refl
kept_row-none (link ∷ links) [] i h = absurd (omega arith)
kept_row-none (None ∷ links) (x ∷ xs) zero h = refl
kept_row-none (None ∷ links) (x ∷ xs) (suc i) h = kept_row-none links xs i (omega arith)
kept_row-none (Some link ∷ links) (x ∷ xs) i h = kept_row-none links xs i h

pub kept_row-at : {A B : Type 0} (links : List (Option Link)) (xs : List A) (ys : List B) (i : ℕ) (d : B) → length xs ≡ length ys → i < length (kept links xs) → get_or (kept links ys) i d ≡ get_or ys (kept_row links i) d
unfolding kept_row
kept_row-at [] xs ys i d e h = absurd (omega arith)
kept_row-at (link ∷ links) [] ys i d e h = absurd (omega arith)
kept_row-at (link ∷ links) (x ∷ xs) [] i d e h = absurd (omega arith)
kept_row-at (None ∷ links) (x ∷ xs) (y ∷ ys) zero d e h = refl
kept_row-at (None ∷ links) (x ∷ xs) (y ∷ ys) (suc i) d e h = kept_row-at links xs ys i d (omega arith) (omega arith)
kept_row-at (Some link ∷ links) (x ∷ xs) (y ∷ ys) i d e h = kept_row-at links xs ys i d (omega arith) h

-- the kept row that a full one is
pub kept_place : List (Option Link) → ℕ → ℕ
kept_place [] row = 0
kept_place (link ∷ links) zero = 0
kept_place (None ∷ links) (suc row) = suc (kept_place links row)
kept_place (Some link ∷ links) (suc row) = kept_place links row

pub kept_place-within : {A : Type 0} (links : List (Option Link)) (xs : List A) (row : ℕ) → length links ≡ length xs → row < length links → get_or links row None ≡ None → kept_place links row < length (kept links xs)
unfolding kept_place
kept_place-within [] xs row e h none = absurd (omega arith)
kept_place-within (link ∷ links) [] row e h none = absurd (omega arith)
kept_place-within (None ∷ links) (x ∷ xs) zero e h none = omega arith
kept_place-within (Some link ∷ links) (x ∷ xs) zero e h none = cc
kept_place-within (None ∷ links) (x ∷ xs) (suc row) e h none = let rest = kept_place-within links xs row (omega arith) (omega arith) none in omega arith
kept_place-within (Some link ∷ links) (x ∷ xs) (suc row) e h none = kept_place-within links xs row (omega arith) (omega arith) none

pub kept_place-at : {A : Type 0} (links : List (Option Link)) (xs : List A) (row : ℕ) (d : A) → length links ≡ length xs → row < length links → get_or links row None ≡ None → get_or (kept links xs) (kept_place links row) d ≡ get_or xs row d
unfolding kept_place
kept_place-at [] xs row d e h none = absurd (omega arith)
kept_place-at (link ∷ links) [] row d e h none = absurd (omega arith)
kept_place-at (None ∷ links) (x ∷ xs) zero d e h none = refl
kept_place-at (Some link ∷ links) (x ∷ xs) zero d e h none = cc
kept_place-at (None ∷ links) (x ∷ xs) (suc row) d e h none = kept_place-at links xs row d (omega arith) (omega arith) none
kept_place-at (Some link ∷ links) (x ∷ xs) (suc row) d e h none = kept_place-at links xs row d (omega arith) (omega arith) none

-- where numbers are 0 at the rows of links, their sum by multipliers is that over the kept rows
pub kept_sum : (links : List (Option Link)) (xs multipliers : List ℤ) → length links ≡ length xs → length links ≡ length multipliers → ((row : ℕ) (link : Link) → HasLink links row link → get_or xs row (pos 0) ≡ pos 0) → product_sum xs (map unsigned_abs multipliers) ≡ product_sum (kept links xs) (map unsigned_abs (kept links multipliers))
kept_sum [] [] multipliers e f none = refl
kept_sum [] (x ∷ xs) multipliers e f none = absurd (omega arith)
kept_sum (link ∷ links) [] multipliers e f none = absurd (omega arith)
kept_sum (link ∷ links) (x ∷ xs) [] e f none = absurd (omega arith)
kept_sum (None ∷ links) (x ∷ xs) (m ∷ multipliers) e f none =
    ap (λ (rest : ℤ). x *ℤ pos (unsigned_abs m) +ℤ rest) (kept_sum links xs multipliers (omega arith) (omega arith) (λ row. none (suc row)))
kept_sum (Some link ∷ links) (x ∷ xs) (m ∷ multipliers) e f none =
    omega (arith, ints, zero_times x (unsigned_abs m) (none 0 link refl), kept_sum links xs multipliers (omega arith) (omega arith) (λ row. none (suc row)))

-- ---- one row more

pub kept-append : {A : Type 0} (links more : List (Option Link)) (xs ys : List A) → length links ≡ length xs → kept (links ++ more) (xs ++ ys) ≡ kept links xs ++ kept more ys
kept-append [] more [] ys e = refl
kept-append [] more (x ∷ xs) ys e = absurd (omega arith)
kept-append (link ∷ links) more [] ys e = absurd (omega arith)
kept-append (None ∷ links) more (x ∷ xs) ys e = ap (λ zs. x ∷ zs) (kept-append links more xs ys (omega arith))
kept-append (Some link ∷ links) more (x ∷ xs) ys e = kept-append links more xs ys (omega arith)

pub kept_more : {A : Type 0} (links : List (Option Link)) (xs : List A) (i : ℕ) (d : A) → length links ≡ length xs → i < length links → kept (take (i + 1) links) (take (i + 1) xs) ≡ kept (take i links) (take i xs) ++ kept (get_or links i None ∷ []) (get_or xs i d ∷ [])
kept_more links xs i d e h =
    let left : take (i + 1) links ≡ take i links ++ get_or links i None ∷ [] = take_more links i None h in
    let right : take (i + 1) xs ≡ take i xs ++ get_or xs i d ∷ [] = take_more xs i d (omega arith) in
    rw (left, right) (kept-append (take i links) (get_or links i None ∷ []) (take i xs) (get_or xs i d ∷ []) (length-take-le i links (omega arith) ∙ sym (length-take-le i xs (omega arith))))

pub kept_number : (links : List (Option Link)) (i : ℕ) → i < length links → kept (take (i + 1) links) (range_with_len 0 (i + 1)) ≡ kept (take i links) (range_with_len 0 i) ++ kept (get_or links i None ∷ []) (i ∷ [])
kept_number links i h =
    let left : take (i + 1) links ≡ take i links ++ get_or links i None ∷ [] = take_more links i None h in
    let right : range_with_len 0 (i + 1) ≡ range_with_len 0 i ++ i ∷ [] = range_push 0 i ∙ ap (λ (n : ℕ). range_with_len 0 i ++ n ∷ []) (zero-add i) in
    rw (left, right) (kept-append (take i links) (get_or links i None ∷ []) (range_with_len 0 i) (i ∷ []) (length-take-le i links (omega arith) ∙ sym (length-range_with_len 0 i)))

-- ---- multipliers that aren't lifted yet

pub unlifted-length : (links : List (Option Link)) (multipliers : List ℤ) → length (unlifted links multipliers) ≡ length links
unlifted-length [] multipliers = refl
unlifted-length (Some link ∷ links) multipliers = ap suc (unlifted-length links multipliers)
unlifted-length (None ∷ links) [] = ap suc (unlifted-length links [])
unlifted-length (None ∷ links) (m ∷ multipliers) = ap suc (unlifted-length links multipliers)

pub kept-unlifted : {A : Type 0} (links : List (Option Link)) (xs : List A) (multipliers : List ℤ) → length links ≡ length xs → length multipliers ≡ length (kept links xs) → kept links (unlifted links multipliers) ≡ multipliers
kept-unlifted [] xs [] e f = refl
kept-unlifted [] xs (m ∷ multipliers) e f = absurd (omega arith)
kept-unlifted (link ∷ links) [] multipliers e f = absurd (omega arith)
kept-unlifted (None ∷ links) (x ∷ xs) [] e f = absurd (omega arith)
kept-unlifted (None ∷ links) (x ∷ xs) (m ∷ multipliers) e f = ap (λ ms. m ∷ ms) (kept-unlifted links xs multipliers (omega arith) (omega arith))
kept-unlifted (Some link ∷ links) (x ∷ xs) multipliers e f = kept-unlifted links xs multipliers (omega arith) f
