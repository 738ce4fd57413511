-- What each member of a list gives, as the list is gone through from the first on.
use Rattle.std.proofs.Common.{◌≡◌, ℕ, suc, ◌+◌, ◌<◌, List, [], ◌∷◌, ◌++◌, length, drop, get_or, add-one, Option, Some, None, Result, Ok, Err, refl, sym, ap, ◌∙◌, append_assoc}
use Rattle.std.specs.Prelude.{filter_map}
use Rattle.std.proofs.Math.Seq.{drop-cons}
use Rattle.listed.specs.declared.fault.Fault.{Fault}
use Rattle.listed.specs.declared.fault.Fault.TheVariants.{Kind, Memory}
use Rattle.listed.specs.Faults.{Gives}
use Rattle.listed.specs.Lists.{each_from, all_of}
use Rattle.listed.specs.Steps.{◌>>=◌}

-- what was given before, and then the rest
abbrev pub behind : {B K : Type 0} → List B → Result (List B) K → Result (List B) K
behind before (Ok rest) = Ok (before ++ rest)
behind before (Err kind) = Err kind

-- the place doesn't count
any_place : {A B K : Type 0} (gives : A → Result B K) (m n : ℕ) (xs : List A) → each_from (λ place. gives) m xs ≡ each_from (λ place. gives) n xs
any_place gives m n [] = refl
any_place gives m n (x ∷ xs) = rw (any_place gives (suc m) (suc n) xs) refl

pub behind_none : {B K : Type 0} (rest : Result (List B) K) → rest ≡ behind [] rest
behind_none (Ok rest) = refl
behind_none (Err kind) = refl

behind_more : {B K : Type 0} (before : List B) (y : B) (rest : Result (List B) K) → behind before (behind (y ∷ []) rest) ≡ behind (before ++ y ∷ []) rest
behind_more before y (Ok rest) = ap Ok (sym (append_assoc before (y ∷ []) rest))
behind_more before y (Err kind) = refl

as_behind : {B K : Type 0} (y : B) (rest : Result (List B) K) → (rest >>= λ ys. Ok (y ∷ ys)) ≡ behind (y ∷ []) rest
as_behind y (Ok rest) = refl
as_behind y (Err kind) = refl

gives_first : {A B K : Type 0} (gives : A → Result B K) (x : A) (xs : List A) (y : B) → gives x ≡ Ok y
    → all_of gives (x ∷ xs) ≡ behind (y ∷ []) (all_of gives xs)
gives_first gives x xs y is = rw (is, any_place gives 1 0 xs) (as_behind y (all_of gives xs))

gives_none : {A B K : Type 0} (gives : A → Result B K) (x : A) (xs : List A) (kind : K) → gives x ≡ Err kind → all_of gives (x ∷ xs) ≡ Err kind
gives_none gives x xs kind is = rw is refl

next_is : {X : Type 0} (xs : List X) (i : ℕ) (x : X) → i < length xs → x ≡ get_or xs i x → drop i xs ≡ x ∷ drop (i + 1) xs
next_is xs i x lt at = drop-cons xs i x lt ∙ rw (← at, add-one) refl

-- a member that stands for nothing
pub passes_over : {X A B K : Type 0} (gives : A → Result B K) (stands : X → Option A) (xs : List X) (i : ℕ) (x : X) (whole : Result (List B) K)
    (now now' : List B)
    → i < length xs → x ≡ get_or xs i x → stands x ≡ None → now' ≡ now
    → whole ≡ behind now (all_of gives (filter_map stands (drop i xs)))
    → whole ≡ behind now' (all_of gives (filter_map stands (drop (i + 1) xs)))
passes_over gives stands xs i x whole now now' lt at none same was = was ∙ rw (next_is xs i x lt at, none, same) refl

-- a member that stands for one that gives something
pub goes_on : {X A B K : Type 0} (gives : A → Result B K) (stands : X → Option A) (xs : List X) (i : ℕ) (x : X) (a : A) (y : B)
    (whole : Result (List B) K) (now now' : List B)
    → i < length xs → x ≡ get_or xs i x → stands x ≡ Some a → gives a ≡ Ok y → now' ≡ now ++ y ∷ []
    → whole ≡ behind now (all_of gives (filter_map stands (drop i xs)))
    → whole ≡ behind now' (all_of gives (filter_map stands (drop (i + 1) xs)))
goes_on gives stands xs i x a y whole now now' lt at stood is pushed was =
    was ∙ rw (next_is xs i x lt at, stood, pushed)
    (ap (behind now) (gives_first gives a (filter_map stands (drop (i + 1) xs)) y is)
    ∙ behind_more now y (all_of gives (filter_map stands (drop (i + 1) xs))))

-- a member that stands for one with a fault
pub stops : {X A B K : Type 0} (gives : A → Result B K) (stands : X → Option A) (xs : List X) (i : ℕ) (x : X) (a : A) (e : Fault K)
    (whole : Result (List B) K) (now : List B)
    → i < length xs → x ≡ get_or xs i x → stands x ≡ Some a → Gives {X = B} (Err e) (gives a)
    → whole ≡ behind now (all_of gives (filter_map stands (drop i xs)))
    → Gives {X = List B} (Err e) whole
stops gives stands xs i x a (Kind kind) whole now lt at stood is was =
    was ∙ rw (next_is xs i x lt at, stood) (ap (behind now) (gives_none gives a (filter_map stands (drop (i + 1) xs)) kind is))
stops gives stands xs i x a Memory whole now lt at stood is was = tt
