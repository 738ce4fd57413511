-- Lists of edges, nodes and loop instances, one after another.
use Rattle.std.proofs.Common.{◌≡◌, ℕ, zero, suc, ◌+◌, ◌-◌, ◌<◌, ◌≤◌, Bool, true, false, cond, List, [], ◌∷◌, ◌++◌, map, arith, ap, ◌∙◌, sym, refl, append_assoc, append-nil, inl, inr, Option}
use Rattle.std.specs.Prelude.{◌||◌, ◌⊎◌, filter, filter_map}
use Rattle.std.specs.List.{range_with_len, flat_map, list_any}
use Rattle.std.specs.Option.{option_to_list}
use Rattle.std.proofs.lemmas.List.Elements.{filter-append}
use Rattle.std.proofs.lemmas.List.Folds.{list_any-append}
use Rattle.std.proofs.lemmas.List.FromFn.{filter_of_map_range_with_len_more}
use Rattle.wcet_atomic_blocks.proofs.BeginLists.{counting_more, filter_map_counts}

pub flat_map-append : {X A : Type 0} (f : X → List A) (xs ys : List X) → flat_map f (xs ++ ys) ≡ flat_map f xs ++ flat_map f ys
flat_map-append f [] ys = refl
flat_map-append f (x ∷ xs) ys = ap (λ zs. f x ++ zs) (flat_map-append f xs ys) ∙ sym (append_assoc (f x) (flat_map f xs) (flat_map f ys))

pub flat_map_counts : {A : Type 0} (f : ℕ → List A) (n : ℕ) → flat_map f (range_with_len 0 (n + 1)) ≡ flat_map f (range_with_len 0 n) ++ f n
flat_map_counts f n =
    ap (flat_map f) (counting_more n) ∙ flat_map-append f (range_with_len 0 n) (n ∷ []) ∙ ap (λ zs. flat_map f (range_with_len 0 n) ++ zs) (append-nil (f n))

pub filter_flat_counts : {A : Type 0} (p : A → Bool) (f : ℕ → List A) (n : ℕ)
    → filter p (flat_map f (range_with_len 0 (n + 1))) ≡ filter p (flat_map f (range_with_len 0 n)) ++ filter p (f n)
filter_flat_counts p f n = ap (filter p) (flat_map_counts f n) ∙ filter-append p (flat_map f (range_with_len 0 n)) (f n)

-- what the next number gives is pushed
pub gives_more : {Y : Type 0} (f : ℕ → Option Y) (n : ℕ) (old now now' : List Y) (o : Option Y) → f n ≡ o
    → now ≡ old ++ filter_map f (range_with_len 0 n) → now' ≡ now ++ option_to_list o → now' ≡ old ++ filter_map f (range_with_len 0 (n + 1))
gives_more f n old now now' o gives was pushed =
    pushed ∙ ap (λ ys. ys ++ option_to_list o) was ∙ append_assoc old (filter_map f (range_with_len 0 n)) (option_to_list o)
    ∙ ap (λ ys. old ++ ys) (ap (λ p. filter_map f (range_with_len 0 n) ++ option_to_list p) (sym gives) ∙ sym (filter_map_counts f n))

-- the next member is pushed, if it passes
pub kept_more : {A : Type 0} (p : A → Bool) (f : ℕ → A) (n : ℕ) (old now now' : List A) (b : Bool) → p (f n) ≡ b
    → now ≡ old ++ filter p (map f (range_with_len 0 n))
    → now' ≡ now ++ cond b (f n ∷ []) [] → now' ≡ old ++ filter p (map f (range_with_len 0 (n + 1)))
kept_more p f n old now now' b passes was pushed =
    pushed ∙ ap (λ ys. ys ++ cond b (f n ∷ []) []) was ∙ append_assoc old (filter p (map f (range_with_len 0 n))) (cond b (f n ∷ []) [])
    ∙ ap (λ ys. old ++ ys) (ap (λ c. filter p (map f (range_with_len 0 n)) ++ cond c (f n ∷ []) []) (sym passes)
    ∙ sym (filter_of_map_range_with_len_more p f 0 n n (omega arith)))

-- ---- Numbers of which none passes

-- none of the members that a number gives passes
abbrev pub NonePasses : {A : Type 0} → (A → Bool) → (ℕ → List A) → ℕ → Type 0
NonePasses p f k = filter p (f k) ≡ []

skips_more : {A : Type 0} (p : A → Bool) (f : ℕ → List A) (n m : ℕ) → ((k : ℕ) → n ≤ k → k < n + m → NonePasses p f k)
    → filter p (flat_map f (range_with_len 0 (n + m))) ≡ filter p (flat_map f (range_with_len 0 n))
skips_more p f n zero none = let same : n + 0 ≡ n = omega arith in ap (λ j. filter p (flat_map f (range_with_len 0 j))) same
skips_more p f n (suc m) none =
    let on : n + suc m ≡ (n + m) + 1 = omega arith in
    ap (λ j. filter p (flat_map f (range_with_len 0 j))) on ∙ filter_flat_counts p f (n + m)
    ∙ ap (λ xs. filter p (flat_map f (range_with_len 0 (n + m))) ++ xs) (none (n + m) (omega arith) (omega arith))
    ∙ append-nil (filter p (flat_map f (range_with_len 0 (n + m)))) ∙ skips_more p f n m (λ k from to. none k from (omega arith))

-- numbers are skipped
pub skips : {A : Type 0} (p : A → Bool) (f : ℕ → List A) (n count : ℕ) → n ≤ count → ((k : ℕ) → n ≤ k → k < count → NonePasses p f k)
    → filter p (flat_map f (range_with_len 0 count)) ≡ filter p (flat_map f (range_with_len 0 n))
skips p f n count within none =
    let whole : n + (count - n) ≡ count = omega arith in
    ap (λ j. filter p (flat_map f (range_with_len 0 j))) (sym whole) ∙ skips_more p f n (count - n) (λ k from to. none k from (omega arith))

pub none_of_map : {A B : Type 0} (p : A → Bool) (f : B → A) (xs : List B) → ((b : B) → p (f b) ≡ false) → filter p (map f xs) ≡ []
none_of_map p f [] none = refl
none_of_map p f (x ∷ xs) none = ap (λ b. cond b (f x ∷ filter p (map f xs)) (filter p (map f xs))) (none x) ∙ none_of_map p f xs none

or_nothing : (a b : Bool) → (a || (b || false)) ≡ (a || b)
or_nothing true b = refl
or_nothing false true = refl
or_nothing false false = refl

pub any_counts : (p : ℕ → Bool) (n : ℕ) → list_any p (range_with_len 0 (n + 1)) ≡ (list_any p (range_with_len 0 n) || p n)
any_counts p n =
    ap (list_any p) (counting_more n) ∙ list_any-append p (range_with_len 0 n) (n ∷ []) ∙ or_nothing (list_any p (range_with_len 0 n)) (p n)

neither : (a b : Bool) → (a || b) ≡ false → (a ≡ false) × (b ≡ false)
neither true b is = absurd cc
neither false b is = (refl, is)

any_parts : (p : ℕ → Bool) (n : ℕ) → list_any p (range_with_len 0 (suc n)) ≡ false → (list_any p (range_with_len 0 n) ≡ false) × (p n ≡ false)
any_parts p n none =
    let on : suc n ≡ n + 1 = omega arith in
    neither (list_any p (range_with_len 0 n)) (p n) (sym (any_counts p n) ∙ ap (λ j. list_any p (range_with_len 0 j)) (sym on) ∙ none)

at_last : (p : ℕ → Bool) (n k : ℕ) → (k < n → p k ≡ false) → p n ≡ false → (k < n) ⊎ (k ≡ n) → p k ≡ false
at_last p n k below last (inl within) = below within
at_last p n k below last (inr same) = ap p same ∙ last

-- none of the first so many numbers passes
pub none_below : (p : ℕ → Bool) (n : ℕ) → list_any p (range_with_len 0 n) ≡ false → (k : ℕ) → k < n → p k ≡ false
none_below p zero none k within = absurd (omega arith)
none_below p (suc n) none k within =
    let parts = any_parts p n none in
    at_last p n k (none_below p n parts.0 k) parts.1 (grind arith)

pub none_from_each : (p : ℕ → Bool) (n : ℕ) → ((k : ℕ) → k < n → p k ≡ false) → list_any p (range_with_len 0 n) ≡ false
none_from_each p zero none = refl
none_from_each p (suc n) none =
    let on : suc n ≡ n + 1 = omega arith in
    ap (λ j. list_any p (range_with_len 0 j)) on ∙ any_counts p n ∙ ap (λ b. b || p n) (none_from_each p n (λ k within. none k (omega arith)))
    ∙ none n (omega arith)
