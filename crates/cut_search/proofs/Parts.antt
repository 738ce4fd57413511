-- What holds of each member of a list holds of each member of its parts.
use Rattle.std.proofs.Common.{ℕ, ◌+◌, inl, inr, List, ◌++◌, length, get_or, take, drop, All, sym, subst, arith}
use Rattle.std.proofs.lemmas.Bool.{cases_lt}
use Rattle.std.proofs.lemmas.List.{get_or-append-add, get_or_past, length-append, take-append-drop}
use Rattle.std.proofs.lemmas.List.Elements.{All-get_or}
use Rattle.std.proofs.Math.ListN.{get_or-append}

pub right_all : {X : Type 0} (P : X → Type 0) (xs ys : List X) → All P (xs ++ ys) → All P ys
right_all P xs ys all = λ k d h. subst P (get_or-append-add xs ys k d) (all (length xs + k) d (omega (arith, length-append xs ys)))

pub left_all : {X : Type 0} (P : X → Type 0) (xs ys : List X) → All P (xs ++ ys) → All P xs
left_all P xs ys all = λ k d h. subst P (get_or-append xs ys d k h) (all k d (omega (arith, length-append xs ys)))

pub take_all_of : {X : Type 0} (P : X → Type 0) (n : ℕ) (xs : List X) → All P xs → All P (take n xs)
take_all_of P n xs all = left_all P (take n xs) (drop n xs) (subst (All P) (sym (take-append-drop n xs)) all)

pub drop_all_of : {X : Type 0} (P : X → Type 0) (n : ℕ) (xs : List X) → All P xs → All P (drop n xs)
drop_all_of P n xs all = right_all P (take n xs) (drop n xs) (subst (All P) (sym (take-append-drop n xs)) all)

-- and of a read with a default of which it holds
pub read_of : {X : Type 0} (P : X → Type 0) (xs : List X) (i : ℕ) (d : X) → All P xs → P d → P (get_or xs i d)
read_of P xs i d all default =
    elim (cases_lt i (length xs)) [ inl within ↦ All-get_or P xs i d within all | inr past ↦ subst P (sym (get_or_past xs i d past)) default ]
