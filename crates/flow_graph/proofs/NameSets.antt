-- Names that are looked up by order.
use Rattle.std.proofs.Common.{◌≡◌, ℕ, ◌+◌, ◌<◌, Bool, true, false, List, [], ◌∷◌, length, take, get_or, Ordering, Less, Equal, Greater, refl, sym, ap, ◌∙◌}
use Rattle.std.specs.Prelude.{◌||◌, bytes_eq}
use Rattle.std.specs.BTreeMap.{is_at}
use Rattle.std.specs.BTreeSet.{BTreeSet, contains_by, insert_key}
use Rattle.std.specs.Cmp.Lexicographic.{slice_cmp}
use Rattle.std.specs.List.{list_any, list_all}
use Rattle.std.specs.Ordering.{is_eq, nat_cmp}
use Rattle.std.proofs.lemmas.List.Folds.{list_any_more}
use Rattle.std.proofs.lemmas.Map.Lookups.{exact_bytes}
use Rattle.std.proofs.lemmas.Map.Text.{is_eq-slice_cmp}

-- a test that equal keys pass alike, once a key is inserted
pub any-insert : {K : Type 0} (cmp : K → K → Ordering) (test : K → Bool) → ((x y : K) → cmp x y ≡ Equal → test x ≡ test y) → (ks : List K) (k : K)
    → list_any test (insert_key cmp ks k) ≡ (list_any test ks || test k)
any-insert cmp test alike [] k = either (test k)
  where
    either : (b : Bool) → (b || false) ≡ (false || b)
    either true = refl
    either false = refl
any-insert {K} cmp test alike (x ∷ ks) k = at (cmp k x) refl (any-insert cmp test alike ks k)
  where
    first : (a b c : Bool) → (a || (b || c)) ≡ ((b || c) || a)
    first true true c = refl
    first true false true = refl
    first true false false = refl
    first false true c = refl
    first false false true = refl
    first false false false = refl

    tied : (a b c : Bool) → a ≡ b → (b || c) ≡ ((b || c) || a)
    tied true true c is = refl
    tied false false true is = refl
    tied false false false is = refl
    tied true false c is = absurd cc
    tied false true c is = absurd cc

    later : (a b c d : Bool) → d ≡ (c || a) → (b || d) ≡ ((b || c) || a)
    later a true c d is = refl
    later a false c d is = is

    at : (o : Ordering) → cmp k x ≡ o → list_any test (insert_key cmp ks k) ≡ (list_any test ks || test k)
        → list_any test (insert_key cmp (x ∷ ks) k) ≡ (list_any test (x ∷ ks) || test k)
    at Less is rest = rw is (first (test k) (test x) (list_any test ks))
    at Equal is rest = rw is (tied (test k) (test x) (list_any test ks) (alike k x is))
    at Greater is rest = rw is (later (test k) (test x) (list_any test ks) (list_any test (insert_key cmp ks k)) rest)

-- tests that agree everywhere
pub all_agree : {A : Type 0} (test other : A → Bool) → ((x : A) → test x ≡ other x) → (xs : List A) → list_all test xs ≡ list_all other xs
all_agree test other agree [] = refl
all_agree test other agree (x ∷ xs) = rw (agree x, all_agree test other agree xs) refl

-- a name is in the set once it is inserted
pub name_inserted : {K : Type 0} (read : K → List ℕ) (set after : BTreeSet K) (key : K) (name : List ℕ)
    → after.keys ≡ insert_key (λ x y. slice_cmp nat_cmp (read x) (read y)) set.keys key
    → contains_by (λ k. slice_cmp nat_cmp name (read k)) after ≡ (contains_by (λ k. slice_cmp nat_cmp name (read k)) set || bytes_eq name (read key))
name_inserted {K} read set after key name keys =
    ap (λ ks. list_any (is_at (λ k. slice_cmp nat_cmp name (read k))) ks) keys
    ∙ (any-insert (λ x y. slice_cmp nat_cmp (read x) (read y)) (is_at (λ k. slice_cmp nat_cmp name (read k)))
    (λ x y same. ap (λ other. is_eq (slice_cmp nat_cmp name other)) (exact_bytes _ _ same)) set.keys key
    ∙ ap (λ b. list_any (is_at (λ k. slice_cmp nat_cmp name (read k))) set.keys || b) (is_eq-slice_cmp name (read key)))

pub named_more : (names : List (List ℕ)) (i : ℕ) (item name : List ℕ) (found : Bool) → i < length names → item ≡ get_or names i item
    → found ≡ list_any (bytes_eq name) (take i names) → (found || bytes_eq name item) ≡ list_any (bytes_eq name) (take (i + 1) names)
named_more names i item name found lt at is =
    rw is (ap (λ x. list_any (bytes_eq name) (take i names) || bytes_eq name x) at ∙ sym (list_any_more (bytes_eq name) names i item lt))
