-- Sums over lists, and how often a test is passed.
use Rattle.std.proofs.Common.{◌≡◌, ℕ, zero, suc, ◌+◌, ◌*◌, ◌<◌, ◌≤◌, Bool, true, false, cond, List, [], ◌∷◌, map, length, get_or, refl, sym, ap, ◌∙◌, Option, Some, None, arith}
use Rattle.std.specs.Prelude.{filter, filter_map, sum_by, ◌||◌}
use Rattle.std.specs.List.{cons_option, count_by, flat_map, list_any, range_with_len}
use Rattle.std.specs.Option.{option_map_or}
use Rattle.std.proofs.lemmas.Bool.{false_from_ne_true}
use Rattle.std.proofs.lemmas.List.Folds.{Any-from_list_any, fold-map}
use Rattle.std.proofs.lemmas.List.Sums.{sum_by-append, sum_by-cons, sum_by-le}

-- once where a test is passed
abbrev pub one : Bool → ℕ
one test = cond test 1 0

-- ---- Sums over lists that are made of others

pub sum-map : {A B : Type 0} (f : B → ℕ) (g : A → B) (xs : List A) → sum_by f (map g xs) ≡ sum_by (λ x. f (g x)) xs
sum-map f g xs = fold-map (λ a x. a + f x) g 0 xs

pub sum-flat : {A B : Type 0} (f : B → ℕ) (g : A → List B) (xs : List A) → sum_by f (flat_map g xs) ≡ sum_by (λ x. sum_by f (g x)) xs
sum-flat f g [] = refl
sum-flat f g (x ∷ xs) =
    sum_by-append f (g x) (flat_map g xs) ∙ ap (λ n. sum_by f (g x) + n) (sum-flat f g xs) ∙ sym (sum_by-cons (λ y. sum_by f (g y)) x xs)

pub sum-filter : {A : Type 0} (f : A → ℕ) (p : A → Bool) (xs : List A) → sum_by f (filter p xs) ≤ sum_by f xs
sum-filter f p [] = omega arith
sum-filter f p (x ∷ xs) =
    let rest = sum-filter f p xs in
    let whole = sum_by-cons f x xs in
    elim (p x) as (λ (b : Bool). sum_by f (cond b (x ∷ filter p xs) (filter p xs)) ≤ sum_by f (x ∷ xs)) [
      | true ↦ let kept = sum_by-cons f x (filter p xs) in omega arith
      | false ↦ omega arith
    ]

-- what is given of each member, and 0 where nothing is
pub sum-filter_map : {A B : Type 0} (f : B → ℕ) (h : A → Option B) (xs : List A) → sum_by f (filter_map h xs) ≡ sum_by (λ x. option_map_or f (h x) 0) xs
sum-filter_map f h [] = refl
sum-filter_map {A} {B} f h (x ∷ xs) = by (h x) (sum-filter_map f h xs) ∙ sym (sum_by-cons (λ y. option_map_or f (h y) 0) x xs)
  where
    by : (o : Option B) → sum_by f (filter_map h xs) ≡ sum_by (λ y. option_map_or f (h y) 0) xs
        → sum_by f (cons_option o (filter_map h xs)) ≡ option_map_or f o 0 + sum_by (λ y. option_map_or f (h y) 0) xs
    by None rest = omega (arith, rest)
    by (Some y) rest = sum_by-cons f y (filter_map h xs) ∙ ap (λ n. f y + n) rest

-- ---- Sums of small terms

-- of the members that pass a test
pub sum-kept : {A : Type 0} (f : A → ℕ) (p : A → Bool) (most : ℕ) (xs : List A) → ((x : A) → p x ≡ true → f x ≤ most)
    → sum_by f (filter p xs) ≤ length xs * most
sum-kept f p most [] small = omega arith
sum-kept f p most (x ∷ xs) small = by (p x) refl (sum-kept f p most xs small)
  where
    by : (b : Bool) → p x ≡ b → sum_by f (filter p xs) ≤ length xs * most → sum_by f (cond b (x ∷ filter p xs) (filter p xs)) ≤ suc (length xs) * most
    by true is rest = let first = small x is in let whole = sum_by-cons f x (filter p xs) in omega arith
    by false is rest = omega arith

pub sum-each : {A : Type 0} (f : A → ℕ) (most : ℕ) (xs : List A) → ((x : A) → f x ≤ most) → sum_by f xs ≤ length xs * most
sum-each f most xs small = sum_by-le f most xs (λ k d within. small (get_or xs k d))

pub sum-plus : {A : Type 0} (f g : A → ℕ) (xs : List A) → sum_by (λ x. f x + g x) xs ≡ sum_by f xs + sum_by g xs
sum-plus f g [] = refl
sum-plus f g (x ∷ xs) =
    let first = sum_by-cons f x xs in
    let second = sum_by-cons g x xs in
    let both = sum_by-cons (λ y. f y + g y) x xs in
    let rest = sum-plus f g xs in
    omega arith

pub sum-times : {A : Type 0} (f : A → ℕ) (n : ℕ) (xs : List A) → sum_by (λ x. f x * n) xs ≡ sum_by f xs * n
sum-times f n [] = omega arith
sum-times f n (x ∷ xs) =
    let first = sum_by-cons f x xs in
    let whole = sum_by-cons (λ y. f y * n) x xs in
    let rest = sum-times f n xs in
    rw (whole, first, rest) (omega arith)

sum-none : {A : Type 0} (xs : List A) → sum_by (λ (x : A). 0) xs ≡ 0
sum-none [] = refl
sum-none (x ∷ xs) = sum-none xs

-- a sum of sums, in the other order
pub sum-swap : {A B : Type 0} (f : A → B → ℕ) (xs : List A) (ys : List B)
    → sum_by (λ x. sum_by (f x) ys) xs ≡ sum_by (λ y. sum_by (λ x. f x y) xs) ys
sum-swap f xs [] = sum-none xs
sum-swap {A} {B} f xs (y ∷ ys) =
    at_each xs ∙ (sum-plus (λ x. f x y) (λ x. sum_by (f x) ys) xs
    ∙ (ap (λ n. sum_by (λ x. f x y) xs + n) (sum-swap f xs ys) ∙ sym (sum_by-cons (λ z. sum_by (λ x. f x z) xs) y ys)))
  where
    at_each : (zs : List A) → sum_by (λ x. sum_by (f x) (y ∷ ys)) zs ≡ sum_by (λ x. f x y + sum_by (f x) ys) zs
    at_each [] = refl
    at_each (z ∷ zs) =
        sum_by-cons (λ x. sum_by (f x) (y ∷ ys)) z zs
        ∙ (rw (sum_by-cons (f z) y ys, at_each zs) refl
        ∙ sym (sum_by-cons (λ x. f x y + sum_by (f x) ys) z zs))

-- ---- How often

-- a test that no two of these numbers pass
pub count-range : (p : ℕ → Bool) (a n : ℕ) → ((i j : ℕ) → i < j → p i ≡ true → p j ≡ true → ⊥) → count_by p (range_with_len a n) ≤ 1
count-range p a zero apart = omega arith
count-range p a (suc n) apart = by (p a) refl (count-range p (a + 1) n apart)
  where
    whole : count_by p (range_with_len a (suc n)) ≡ one (p a) + count_by p (range_with_len (a + 1) n)
    whole = sum_by-cons (λ k. one (p k)) a (range_with_len (a + 1) n)

    later : (b k : ℕ) → p a ≡ true → a < b → count_by p (range_with_len b k) ≡ 0
    later b zero first behind = refl
    later b (suc k) first behind =
        sum_by-cons (λ j. one (p j)) b (range_with_len (b + 1) k)
        ∙ rw (false_from_ne_true (p b) (apart a b behind first), later (b + 1) k first (omega arith)) refl

    by : (b : Bool) → p a ≡ b → count_by p (range_with_len (a + 1) n) ≤ 1 → count_by p (range_with_len a (suc n)) ≤ 1
    by true is rest = let none = later (a + 1) n is (omega arith) in let first = ap one is in omega (arith, whole)
    by false is rest = let first = ap one is in omega (arith, whole)

-- a test that some member passes is passed as often
pub one-any : {A : Type 0} (p : A → Bool) (xs : List A) → one (list_any p xs) ≤ count_by p xs
one-any p [] = omega arith
one-any p (x ∷ xs) =
    let rest = one-any p xs in
    let whole = sum_by-cons (λ y. one (p y)) x xs in
    elim (p x) as (λ (b : Bool). count_by p (x ∷ xs) ≡ one b + count_by p xs → one (b || list_any p xs) ≤ count_by p (x ∷ xs)) [
      | true ↦ λ is. omega arith
      | false ↦ λ is. omega arith
    ] whole

-- ---- Members that pass

pub any-passes : {A : Type 0} (p : A → Bool) (xs : List A) → list_any p xs ≡ true → (x : A) × (p x ≡ true)
any-passes p xs some = let found = Any-from_list_any p xs some in (found.1, found.4)

-- one of the kept members passes another test
pub kept-passes : {A : Type 0} (p test : A → Bool) (xs : List A) → list_any test (filter p xs) ≡ true → (x : A) × (p x ≡ true) × (test x ≡ true)
kept-passes p test [] some = absurd cc
kept-passes {A} p test (x ∷ xs) some = by (p x) refl some (kept-passes p test xs)
  where
    or_later : (b : Bool) → test x ≡ b → p x ≡ true → (b || list_any test (filter p xs)) ≡ true
        → (list_any test (filter p xs) ≡ true → (y : A) × (p y ≡ true) × (test y ≡ true)) → (y : A) × (p y ≡ true) × (test y ≡ true)
    or_later true is passes some later = (x, passes, is)
    or_later false is passes some later = later some

    by : (b : Bool) → p x ≡ b → list_any test (cond b (x ∷ filter p xs) (filter p xs)) ≡ true
        → (list_any test (filter p xs) ≡ true → (y : A) × (p y ≡ true) × (test y ≡ true)) → (y : A) × (p y ≡ true) × (test y ≡ true)
    by true passes some later = or_later (test x) refl passes some later
    by false passes some later = later some
