-- Names among those of two lists.
use Rattle.std.proofs.Common.{◌≡◌, ℕ, suc, ◌+◌, Bool, true, false, cond, List, [], ◌∷◌, ◌++◌, length, map, Option, Some, None, refl, sym, ap, ◌∙◌, arith}
use Rattle.std.specs.Prelude.{position, option_map, nat_lt, not}
use Rattle.std.specs.List.{position_or_len}
use Rattle.std.proofs.lemmas.Bool.{lt-ltb, ltb-true, le-ltb, ltb-false}
use Rattle.std.proofs.lemmas.List.{length-map}
use Rattle.trace_check.specs.Working.Names.{place_in_both}

-- ---- the first place that passes, member by member

abbrev pub step : Bool → Option ℕ → Option ℕ
step here later = cond here (Some 0) (option_map suc later)

place_if : (n k : ℕ) (below : Bool) → cond below (Some (suc k)) None ≡ option_map suc (cond {A = Option ℕ} below (Some k) None)
place_if n k true = refl
place_if n k false = refl

next_below : (a b : ℕ) → nat_lt (suc a) (suc b) ≡ nat_lt a b
next_below a b = by (nat_lt a b) refl
  where
    by : (below : Bool) → nat_lt a b ≡ below → nat_lt (suc a) (suc b) ≡ below
    by true e = lt-ltb (suc a) (suc b) (omega (arith, ltb-true a b e))
    by false e = le-ltb (suc a) (suc b) (omega (arith, ltb-false a b e))

pub position_step : {A : Type 0} (p : A → Bool) (x : A) (xs : List A) → position p (x ∷ xs) ≡ step (p x) (position p xs)
position_step p x xs = by (p x)
  where
    by : (here : Bool)
        → (let n = cond (not here) (1 + position_or_len p xs) 0 in cond (nat_lt n (suc (length xs))) (Some n) None) ≡ step here (position p xs)
    by true = rw (lt-ltb 0 (suc (length xs)) (omega arith)) refl
    by false =
        let next : 1 + position_or_len p xs ≡ suc (position_or_len p xs) = omega arith in
        rw (next, next_below (position_or_len p xs) (length xs)) (place_if (length xs) (position_or_len p xs) (nat_lt (position_or_len p xs) (length xs)))

position_map : {A B : Type 0} (p : B → Bool) (f : A → B) (xs : List A) → position p (map f xs) ≡ position (λ x. p (f x)) xs
position_map p f [] = refl
position_map p f (x ∷ xs) =
    position_step p (f x) (map f xs) ∙ (ap (step (p (f x))) (position_map p f xs) ∙ sym (position_step (λ y. p (f y)) x xs))

pass : (n : ℕ) (here : Bool) (o second : Option ℕ)
    → step here (place_in_both n o second) ≡ place_in_both (suc n) (step here o) second
pass n true o second = refl
pass n false (Some place) second = refl
pass n false None (Some place) = let next : suc (n + place) ≡ suc n + place = omega arith in ap (λ (m : ℕ). Some m) next
pass n false None None = refl

position_append : {A : Type 0} (p : A → Bool) (xs ys : List A) → position p (xs ++ ys) ≡ place_in_both (length xs) (position p xs) (position p ys)
position_append p [] ys = same (position p ys)
  where
    same : (o : Option ℕ) → o ≡ option_map (λ place. 0 + place) o
    same None = refl
    same (Some place) = let all : place ≡ 0 + place = omega arith in ap (λ (m : ℕ). Some m) all
position_append p (x ∷ xs) ys =
    position_step p x (xs ++ ys)
    ∙ (ap (step (p x)) (position_append p xs ys)
    ∙ (pass (length xs) (p x) (position p xs) (position p ys)
    ∙ ap (λ o. place_in_both (suc (length xs)) o (position p ys)) (sym (position_step p x xs))))

pub in_both : {A B C : Type 0} (p : C → Bool) (f : A → C) (g : B → C) (xs : List A) (ys : List B)
    → position p (map f xs ++ map g ys) ≡ place_in_both (length xs) (position (λ x. p (f x)) xs) (position (λ y. p (g y)) ys)
in_both p f g xs ys = rw (position_append p (map f xs) (map g ys), position_map p f xs, position_map p g ys, length-map) refl

-- the same, once the first list has the place or hasn't
pub in_first : {A B C : Type 0} (p : C → Bool) (f : A → C) (g : B → C) (xs : List A) (ys : List B) (place : ℕ)
    → Some place ≡ position (λ x. p (f x)) xs → Some place ≡ position p (map f xs ++ map g ys)
in_first p f g xs ys place is = rw (in_both p f g xs ys, ← is) refl

pub in_second : {A B C : Type 0} (p : C → Bool) (f : A → C) (g : B → C) (xs : List A) (ys : List B)
    → None ≡ position (λ x. p (f x)) xs
    → option_map (λ place. length xs + place) (position (λ y. p (g y)) ys) ≡ position p (map f xs ++ map g ys)
in_second p f g xs ys is = rw (in_both p f g xs ys, ← is) refl
