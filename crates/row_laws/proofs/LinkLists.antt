-- Lists in parts, and what is at a place of lists that are made of others.
use Rattle.std.proofs.Common.{◌≡◌, ℕ, suc, zero, ◌+◌, ◌<◌, Bool, true, false, cond, List, [], ◌∷◌, ◌++◌, map, filter, flat_map, length, get_or, slice_get, All, Contains, Some, refl, sym, ◌∙◌, ap, subst, arith}
use Rattle.std.specs.List.{list_any, range_with_len}
use Rattle.std.specs.Option.{option_map_or}
use Rattle.std.proofs.lemmas.Bool.{or_parts}
use Rattle.std.proofs.lemmas.List.Concat.{flat_map-cons}
use Rattle.std.proofs.lemmas.List.Elements.{All-nil, All-cons, All-append, All-map, Contains-append_left, Contains-append_right}
use Rattle.std.proofs.lemmas.List.FromFn.{length-range_with_len, get_or-range_with_len}
use Rattle.std.proofs.lemmas.Option.{none-some, slice_get-get_or}

-- ---- Members

-- the place of a member
pub place_of_member : {A : Type 0} (xs : List A) (x : A) → Contains xs x → (k : ℕ) × (slice_get xs k ≡ Some x)
place_of_member xs x has = (has.0, slice_get-get_or xs has.0 x has.1 ∙ ap Some has.2)

-- a member is the first one, or one of the others
member_cases : {A P : Type 0} (x y : A) (xs : List A) → Contains (y ∷ xs) x → (y ≡ x → P) → (Contains xs x → P) → P
member_cases x y xs (zero, inside, is) first other = first is
member_cases x y xs (suc k, inside, is) first other = other (k, omega arith, is)

pub first_member : {A : Type 0} (x : A) (xs : List A) → Contains (x ∷ xs) x
first_member x xs = (0, omega arith, refl)

pub later_member : {A : Type 0} (x y : A) (xs : List A) → Contains xs x → Contains (y ∷ xs) x
later_member x y xs has = (suc has.0, (let inside = has.1 in omega arith), has.2)

pub kept_member : {A : Type 0} (p : A → Bool) (xs : List A) (x : A) → p x ≡ true → Contains xs x → Contains (filter p xs) x
kept_member p [] x passes has = absurd (let inside = has.1 in omega arith)
kept_member {A} p (y ∷ ys) x passes has = kept (p y) refl (kept_member p ys x passes)
  where
    kept : (b : Bool) → p y ≡ b → (Contains ys x → Contains (filter p ys) x) → Contains (cond b (y ∷ filter p ys) (filter p ys)) x
    kept true e more = member_cases x y ys has (λ same. (0, omega arith, same)) (λ other. later_member x y (filter p ys) (more other))
    kept false e more = member_cases x y ys has (λ same. absurd (let wrong : true ≡ false = sym passes ∙ (ap p (sym same) ∙ e) in cc)) more

pub mapped_member : {A B : Type 0} (f : A → B) (xs : List A) (x : A) → Contains xs x → Contains (map f xs) (f x)
mapped_member f [] x has = absurd (let inside = has.1 in omega arith)
mapped_member f (y ∷ ys) x has = member_cases x y ys has (λ same. (0, omega arith, ap f same))
    (λ other. later_member (f x) (f y) (map f ys) (mapped_member f ys x other))

pub flat_member : {X A : Type 0} (f : X → List A) (xs : List X) (x : X) (a : A) → Contains xs x → Contains (f x) a → Contains (flat_map f xs) a
flat_member f [] x a has there = absurd (let inside = has.1 in omega arith)
flat_member f (y ∷ ys) x a has there = subst (λ l. Contains l a) (sym (flat_map-cons f y ys))
    (member_cases x y ys has
    (λ same. Contains-append_left (f y) (flat_map f ys) a (subst (λ z. Contains (f z) a) (sym same) there))
    (λ other. Contains-append_right (f y) (flat_map f ys) a (flat_member f ys x a other there)))

pub range_member : (count n : ℕ) → n < count → Contains (range_with_len 0 count) n
range_member count n below = (n, (let l = length-range_with_len 0 count in omega arith), get_or-range_with_len 0 count n n below ∙ omega arith)

-- ---- What is at a place

pub get_or-map : {A B : Type 0} (f : A → B) (xs : List A) (k : ℕ) (d : B) → get_or (map f xs) k d ≡ option_map_or f (slice_get xs k) d
get_or-map f [] k d = refl
get_or-map f (x ∷ xs) zero d = refl
get_or-map f (x ∷ xs) (suc k) d = get_or-map f xs k d

-- what is at a place of two lists, one after the other
pub append_cases : {A P : Type 0} (xs ys : List A) (k : ℕ) (x : A) → slice_get (xs ++ ys) k ≡ Some x → (slice_get xs k ≡ Some x → P)
    → ((j : ℕ) → k ≡ length xs + j → slice_get ys j ≡ Some x → P) → P
append_cases [] ys k x at first second = second k (omega arith) at
append_cases (y ∷ xs) ys zero x at first second = first at
append_cases (y ∷ xs) ys (suc k) x at first second = append_cases xs ys k x at first (λ j is. second j (omega arith))

pub at_append_left : {A : Type 0} (xs ys : List A) (k : ℕ) → k < length xs → slice_get (xs ++ ys) k ≡ slice_get xs k
at_append_left [] ys k within = absurd (omega arith)
at_append_left (x ∷ xs) ys zero within = refl
at_append_left (x ∷ xs) ys (suc k) within = at_append_left xs ys k (omega arith)

pub at_append_right : {A : Type 0} (xs ys : List A) (k j : ℕ) → k ≡ length xs + j → slice_get (xs ++ ys) k ≡ slice_get ys j
at_append_right [] ys k j is = ap (slice_get ys) (omega arith)
at_append_right (x ∷ xs) ys zero j is = absurd (omega arith)
at_append_right (x ∷ xs) ys (suc k) j is = at_append_right xs ys k j (omega arith)

pub at_range : {A : Type 0} (f : ℕ → A) (a n k j : ℕ) → k < n → a + k ≡ j → slice_get (map f (range_with_len a n)) k ≡ Some (f j)
at_range f a zero k j within is = absurd (omega arith)
at_range f a (suc n) zero j within is = let same : a ≡ j = omega arith in ap (λ i. Some (f i)) same
at_range f a (suc n) (suc k) j within is = at_range f (a + 1) n k j (omega arith) (omega arith)

pub range_place : {A : Type 0} (f : ℕ → A) (a n k : ℕ) (x : A) → slice_get (map f (range_with_len a n)) k ≡ Some x → (k < n) × (f (a + k) ≡ x)
range_place f a zero k x at = absurd (none-some x at)
range_place f a (suc n) zero x at = let same : a + 0 ≡ a = omega arith in (omega arith, ap f same ∙ cc)
range_place f a (suc n) (suc k) x at =
    let more = range_place f (a + 1) n k x at in
    let within = more.0 in
    let same : a + suc k ≡ a + 1 + k = omega arith in
    (omega arith, ap f same ∙ more.1)

-- ---- What holds of each

pub All-map_each : {A B : Type 0} (P : B → Type 0) (f : A → B) (xs : List A) → ((x : A) → P (f x)) → All P (map f xs)
All-map_each P f xs each = All-map P f xs (λ k d within. each (get_or xs k d))

pub All-two : {A : Type 0} (P : A → Type 0) (x y : A) → P x → P y → All P (x ∷ y ∷ [])
All-two P x y first second = All-cons P x (y ∷ []) first (All-cons P y [] second (All-nil P))

pub All-flat_map : {A B : Type 0} (P : B → Type 0) (f : A → List B) (xs : List A) → ((x : A) → All P (f x)) → All P (flat_map f xs)
All-flat_map P f [] each = All-nil P
All-flat_map P f (x ∷ xs) each = All-append P (f x) (flat_map f xs) (each x) (All-flat_map P f xs each)

pub none_passes : {A : Type 0} (p : A → Bool) (xs : List A) → list_any p xs ≡ false → All (λ x. p x ≡ false) xs
none_passes p [] none = All-nil (λ x. p x ≡ false)
none_passes p (x ∷ xs) none =
    let parts = or_parts (p x) (list_any p xs) none in
    All-cons (λ y. p y ≡ false) x xs parts.0 (none_passes p xs parts.1)
