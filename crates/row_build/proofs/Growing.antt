-- Lists that grow, whose members stand for others.
use Rattle.std.proofs.Common.{◌≡◌, ℕ, ◌+◌, ◌<◌, Bool, true, false, cond, List, [], ◌∷◌, ◌++◌, length, map, take, get_or, refl, sym, ap, ◌∙◌, append-nil, append_assoc, arith}
use Rattle.std.specs.Prelude.{filter, ◌||◌}
use Rattle.std.specs.List.{flat_map, list_any, range_with_len}
use Rattle.std.proofs.lemmas.List.{map-append, take_more, get_or-map, length-map, length-take-le}
use Rattle.std.proofs.lemmas.List.Folds.{list_any-append, list_any_at}
use Rattle.std.proofs.lemmas.List.FromFn.{get_or-range_with_len, length-range_with_len}
use Rattle.std.proofs.lemmas.List.Elements.{All-nil, All-append, All-cons, filter-append}
use Rattle.wcet_atomic_blocks.proofs.LoopLists.{flat_map-append, flat_map_counts, any_counts}
use Rattle.wcet_atomic_blocks.proofs.BeginLists.{counting_more, filter_counts}
use Rattle.row_build.specs.Working.Growing.{Adds, Stand}

pub adds_none : {N P : Type 0} (f : N → P) (S : N → Type 0) (xs : List N) → Adds f S xs xs []
adds_none f S xs = record { shows = sym (append-nil (map f xs)); sound = λ all. all }

-- one more is pushed
pub adds_one : {N P : Type 0} (f : N → P) (S : N → Type 0) (before now now' : List N) (plain : List P) (n : N) (p : P)
    → Adds f S before now plain → now' ≡ now ++ n ∷ [] → f n ≡ p → S n → Adds f S before now' (plain ++ p ∷ [])
adds_one f S before now now' plain n p added pushed is sound = record {
  shows = rw pushed (map-append f now (n ∷ []) ∙ ap (λ ps. ps ++ f n ∷ []) added.shows ∙ append_assoc (map f before) plain (f n ∷ []) ∙ ap (λ q. map f before ++ (plain ++ q ∷ [])) is);
  sound = λ all. rw pushed (All-append S now (n ∷ []) (added.sound all) (All-cons S n [] sound (All-nil S)));
}

-- what was added first, and then more
pub adds_both : {N P : Type 0} (f : N → P) (S : N → Type 0) (before now now' : List N) (plain plain' : List P)
    → Adds f S before now plain → Adds f S now now' plain' → Adds f S before now' (plain ++ plain')
adds_both f S before now now' plain plain' first second = record {
  shows = second.shows ∙ ap (λ ps. ps ++ plain') first.shows ∙ append_assoc (map f before) plain plain';
  sound = λ all. second.sound (first.sound all);
}

pub adds_like : {N P : Type 0} (f : N → P) (S : N → Type 0) (before now : List N) (plain plain' : List P)
    → plain ≡ plain' → Adds f S before now plain → Adds f S before now plain'
adds_like f S before now plain plain' same added = record { shows = added.shows ∙ ap (λ ps. map f before ++ ps) same; sound = added.sound }

pub stand_from : {N P : Type 0} (f : N → P) (S : N → Type 0) (empty now : List N) (plain : List P) → empty ≡ [] → Adds f S empty now plain → Stand f S now plain
stand_from f S empty now plain none added = record {
  shows = added.shows ∙ ap (λ xs. map f xs ++ plain) none;
  sound = added.sound (rw none (All-nil S));
}

-- ---- What is gone through

-- what each of the first members gives, one member more
pub flat_more : {A B : Type 0} (f : A → List B) (xs : List A) (i : ℕ) (d : A) → i < length xs
    → flat_map f (take (i + 1) xs) ≡ flat_map f (take i xs) ++ f (get_or xs i d)
flat_more f xs i d within =
    ap (flat_map f) (take_more xs i d within) ∙ flat_map-append f (take i xs) (get_or xs i d ∷ []) ∙ ap (λ ys. flat_map f (take i xs) ++ ys) (append-nil (f (get_or xs i d)))

pub map_more : {A B : Type 0} (f : A → B) (xs : List A) (i : ℕ) (d : A) → i < length xs
    → map f (take (i + 1) xs) ≡ map f (take i xs) ++ f (get_or xs i d) ∷ []
map_more f xs i d within = ap (map f) (take_more xs i d within) ∙ map-append f (take i xs) (get_or xs i d ∷ [])

-- those of the first members that pass a test, one member more
pub filter_more : {A B : Type 0} (f : A → B) (test : A → Bool) (xs : List A) (i : ℕ) (d : A) → i < length xs
    → map f (filter test (take (i + 1) xs)) ≡ map f (filter test (take i xs)) ++ map f (cond (test (get_or xs i d)) (get_or xs i d ∷ []) [])
filter_more f test xs i d within =
    ap (λ ys. map f (filter test ys)) (take_more xs i d within) ∙ ap (map f) (filter-append test (take i xs) (get_or xs i d ∷ []))
    ∙ map-append f (filter test (take i xs)) (cond (test (get_or xs i d)) (get_or xs i d ∷ []) [])

-- the same of what the members stand for
pub passing_more : {A B C : Type 0} (f : B → C) (test : B → Bool) (g : A → B) (xs : List A) (i : ℕ) (d : A) → i < length xs
    → map f (filter test (map g (take (i + 1) xs))) ≡ map f (filter test (map g (take i xs))) ++ map f (cond (test (g (get_or xs i d))) (g (get_or xs i d) ∷ []) [])
passing_more f test g xs i d within =
    ap (λ ys. map f (filter test ys)) (map_more g xs i d within) ∙ ap (map f) (filter-append test (map g (take i xs)) (g (get_or xs i d) ∷ []))
    ∙ map-append f (filter test (map g (take i xs))) (cond (test (g (get_or xs i d))) (g (get_or xs i d) ∷ []) [])

-- the same of numbers
pub numbers_more : {C : Type 0} (f : ℕ → C) (test : ℕ → Bool) (n : ℕ)
    → map f (filter test (range_with_len 0 (n + 1))) ≡ map f (filter test (range_with_len 0 n)) ++ map f (cond (test n) (n ∷ []) [])
numbers_more f test n = ap (map f) (filter_counts test n) ∙ map-append f (filter test (range_with_len 0 n)) (cond (test n) (n ∷ []) [])

pub flat_numbers_more : {C D : Type 0} (f : C → D) (gives : ℕ → List C) (n : ℕ)
    → map f (flat_map gives (range_with_len 0 (n + 1))) ≡ map f (flat_map gives (range_with_len 0 n)) ++ map f (gives n)
flat_numbers_more f gives n = ap (map f) (flat_map_counts gives n) ∙ map-append f (flat_map gives (range_with_len 0 n)) (gives n)

pub adds_same : {N P : Type 0} (f : N → P) (S : N → Type 0) (before now : List N) → now ≡ before → Adds f S before now []
adds_same f S before now e = rw e (adds_none f S before)

-- one is pushed where a test holds
pub adds_where : {N P : Type 0} (f : N → P) (S : N → Type 0) (before now : List N) (plain : List P) (test : Bool) (n : N) (p : P)
    → (test ≡ true → now ≡ before ++ n ∷ []) → (test ≡ false → now ≡ before) → (test ≡ true → f n ≡ p) → (test ≡ true → S n)
    → plain ≡ cond test (p ∷ []) [] → Adds f S before now plain
adds_where f S before now plain true n p pushed kept is sound e =
    adds_like f S before now (p ∷ []) plain (sym e) (adds_one f S before before now [] n p (adds_none f S before) (pushed refl) (is refl) (sound refl))
adds_where f S before now plain false n p pushed kept is sound e =
    adds_like f S before now [] plain (sym e) (adds_same f S before now (kept refl))

-- ---- Whether one passes a test

pub found_in_map : {A B : Type 0} (p : B → Bool) (f : A → B) (xs : List A) (i : ℕ) (d : A) → i < length xs → p (f (get_or xs i d)) ≡ true → true ≡ list_any p (map f xs)
found_in_map p f xs i d within is =
    sym (list_any_at p (map f xs) i (f d) (rw (length-map xs f) within) (ap p (get_or-map f xs i d (f d) within) ∙ is))

pub none_in_map : {A B : Type 0} (p : B → Bool) (f : A → B) (xs : List A) (i : ℕ) (d : A) → i < length xs → list_any p (map f (take i xs)) ≡ false → p (f (get_or xs i d)) ≡ false
    → list_any p (map f (take (i + 1) xs)) ≡ false
none_in_map p f xs i d within before is =
    ap (list_any p) (map_more f xs i d within) ∙ list_any-append p (map f (take i xs)) (f (get_or xs i d) ∷ []) ∙ neither (list_any p (map f (take i xs))) (p (f (get_or xs i d))) before is
  where
    neither : (a b : Bool) → a ≡ false → b ≡ false → (a || (b || false)) ≡ false
    neither a b e g = rw (e, g) refl

-- ---- What stands for others, with what it gives

pub map_map_more : {A B C : Type 0} (f : B → C) (g : A → B) (xs : List A) (i : ℕ) (d : A) → i < length xs
    → map f (map g (take (i + 1) xs)) ≡ map f (map g (take i xs)) ++ f (g (get_or xs i d)) ∷ []
map_map_more f g xs i d within = ap (map f) (map_more g xs i d within) ∙ map-append f (map g (take i xs)) (g (get_or xs i d) ∷ [])

pub map_map_count : {A B C : Type 0} (f : B → C) (g : A → B) (xs : List A) (i : ℕ) → i < length xs → length (map f (map g (take i xs))) ≡ i
map_map_count f g xs i within = length-map (map g (take i xs)) f ∙ length-map (take i xs) g ∙ length-take-le i xs (omega (arith, within))

-- ---- Numbers, one more

pub map_numbers_more : {C : Type 0} (f : ℕ → C) (n : ℕ) → map f (range_with_len 0 (n + 1)) ≡ map f (range_with_len 0 n) ++ f n ∷ []
map_numbers_more f n = ap (map f) (counting_more n) ∙ map-append f (range_with_len 0 n) (n ∷ [])

pub passing_numbers_more : {B C : Type 0} (f : B → C) (test : B → Bool) (g : ℕ → B) (n : ℕ)
    → map f (filter test (map g (range_with_len 0 (n + 1)))) ≡ map f (filter test (map g (range_with_len 0 n))) ++ map f (cond (test (g n)) (g n ∷ []) [])
passing_numbers_more f test g n =
    ap (λ ys. map f (filter test ys)) (map_numbers_more g n) ∙ ap (map f) (filter-append test (map g (range_with_len 0 n)) (g n ∷ []))
    ∙ map-append f (filter test (map g (range_with_len 0 n))) (cond (test (g n)) (g n ∷ []) [])

pub flat_filter_more : {C : Type 0} (gives : ℕ → List C) (test : ℕ → Bool) (n : ℕ)
    → flat_map gives (filter test (range_with_len 0 (n + 1))) ≡ flat_map gives (filter test (range_with_len 0 n)) ++ flat_map gives (cond (test n) (n ∷ []) [])
flat_filter_more gives test n = ap (flat_map gives) (filter_counts test n) ∙ flat_map-append gives (filter test (range_with_len 0 n)) (cond (test n) (n ∷ []) [])

pub found_number : (p : ℕ → Bool) (count n : ℕ) → n < count → p n ≡ true → true ≡ list_any p (range_with_len 0 count)
found_number p count n within is = sym (list_any_at p (range_with_len 0 count) n 0 (rw (length-range_with_len 0 count) within) (let e : 0 + n ≡ n = omega arith in ap p (get_or-range_with_len 0 count n 0 within ∙ e) ∙ is))

pub no_number : (p : ℕ → Bool) (n : ℕ) → list_any p (range_with_len 0 n) ≡ false → p n ≡ false → list_any p (range_with_len 0 (n + 1)) ≡ false
no_number p n none is = any_counts p n ∙ rw (none, is) refl

-- two are pushed
pub adds_two : {N P : Type 0} (f : N → P) (S : N → Type 0) (before now now' : List N) (m n : N) (p q : P)
    → now ≡ before ++ m ∷ [] → now' ≡ now ++ n ∷ [] → f m ≡ p → f n ≡ q → S m → S n → Adds f S before now' (p ∷ q ∷ [])
adds_two f S before now now' m n p q first second is is' sound sound' =
    adds_one f S before now now' (p ∷ []) n q (adds_one f S before before now [] m p (adds_none f S before) first is sound) second is' sound'
