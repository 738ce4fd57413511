-- Where members of lists that are made of others come from.
use Rattle.std.proofs.Common.{◌≡◌, ℕ, suc, Bool, true, false, cond, List, [], ◌∷◌, Contains, map, reverse, filter_map, inl, inr, Option, Some, None, Result, Ok, refl, sym, ◌∙◌, ap, subst, arith}
use mathlib.Core.List.{reverse-cons}
use Rattle.std.specs.List.{find, cons_option}
use Rattle.std.proofs.lemmas.List.Elements.{Contains-append_left, Contains-append_right, Contains-push_cases}
use Rattle.listed.specs.Lists.{each_from, all_of}
use Rattle.listed.specs.Steps.{◌>>=◌}
use Rattle.shadow_runs.proofs.Members.{first_member, later_member, member_cases, stepped, same_ok}

-- ---- Reversed lists

pub reversed : {A : Type 0} (xs : List A) (x : A) → Contains xs x → Contains (reverse xs) x
reversed [] x has = has
reversed (y ∷ ys) x has = subst (λ l. Contains l x) (sym (reverse-cons y ys)) (member_cases x y ys has
    (λ same. Contains-append_right (reverse ys) (y ∷ []) x (0, omega arith, same))
    (λ there. Contains-append_left (reverse ys) (y ∷ []) x (reversed ys x there)))

pub reversed_back : {A : Type 0} (xs : List A) (x : A) → Contains (reverse xs) x → Contains xs x
reversed_back [] x has = has
reversed_back (y ∷ ys) x has =
    elim (Contains-push_cases (reverse ys) y x (subst (λ l. Contains l x) (reverse-cons y ys) has)) [
      | inl there ↦ later_member x y ys (reversed_back ys x there)
      | inr same ↦ (0, omega arith, same)
    ]

-- ---- What is chosen, and what is made of each

pub no_member : {A P : Type 0} (x : A) → Contains [] x → P
no_member x has = absurd (let inside = has.1 in omega arith)

pub chosen_from : {A B : Type 0} (h : A → Option B) (xs : List A) (z : B) → Contains (filter_map h xs) z → (x : A) × (h x ≡ Some z)
chosen_from h [] z has = no_member z has
chosen_from {A} {B} h (y ∷ ys) z has = from (λ there. chosen_from h ys z there) (h y) refl has
  where
    from : (Contains (filter_map h ys) z → (x : A) × (h x ≡ Some z)) → (o : Option B) → h y ≡ o
        → Contains (cons_option o (filter_map h ys)) z → (x : A) × (h x ≡ Some z)
    from more None e there = more there
    from more (Some w) e there = member_cases z w (filter_map h ys) there (λ same. (y, e ∙ ap Some same)) more

pub mapped_from : {A B : Type 0} (f : A → B) (xs : List A) (y : B) → Contains (map f xs) y → (x : A) × Contains xs x × (f x ≡ y)
mapped_from f [] y has = no_member y has
mapped_from f (z ∷ zs) y has = member_cases y (f z) (map f zs) has
    (λ same. (z, first_member z zs, same))
    (λ there. let more = mapped_from f zs y there in (more.0, later_member more.0 z zs more.1, more.2))

each_gave_from : {A B K : Type 0} (gives : A → Result B K) (place : ℕ) (xs : List A) (ys : List B) (y : B)
    → each_from (λ place. gives) place xs ≡ Ok ys → Contains ys y → (x : A) × Contains xs x × (gives x ≡ Ok y)
each_gave_from gives place [] ys y e has = no_member y (subst (λ l. Contains l y) (sym (same_ok [] ys e)) has)
each_gave_from {A} {B} gives place (z ∷ zs) ys y e has =
    let first = stepped (gives z) (λ w. each_from (λ place. gives) (suc place) zs >>= (λ others. Ok (w ∷ others))) ys e in
    let rest = stepped (each_from (λ place. gives) (suc place) zs) (λ others. Ok (first.middle ∷ others)) ys first.goes in
    let all : first.middle ∷ rest.middle ≡ ys = same_ok (first.middle ∷ rest.middle) ys rest.goes in
    member_cases y first.middle rest.middle (subst (λ l. Contains l y) (sym all) has)
    (λ same. (z, first_member z zs, first.gave ∙ ap Ok same))
    (λ there. let more = each_gave_from gives (suc place) zs rest.middle y rest.gave there in (more.0, later_member more.0 z zs more.1, more.2))

pub gave_from : {A B K : Type 0} (gives : A → Result B K) (xs : List A) (ys : List B) (y : B) → all_of gives xs ≡ Ok ys → Contains ys y
    → (x : A) × Contains xs x × (gives x ≡ Ok y)
gave_from gives xs ys y e has = each_gave_from gives 0 xs ys y e has

-- ---- The first that passes

-- it is the one that alone passes
pub found_first : {A : Type 0} (p : A → Bool) (xs : List A) (x : A) → Contains xs x → p x ≡ true
    → ((y : A) → Contains xs y → p y ≡ true → y ≡ x) → find p xs ≡ Some x
found_first p [] x has passes only = no_member x has
found_first {A} p (y ∷ ys) x has passes only =
    by (p y) refl (λ there. found_first p ys x there passes (λ z among z_passes. only z (later_member z y ys among) z_passes))
  where
    by : (b : Bool) → p y ≡ b → (Contains ys x → find p ys ≡ Some x) → cond b (Some y) (find p ys) ≡ Some x
    by true e more = ap Some (only y (first_member y ys) e)
    by false e more = more (member_cases x y ys has
        (λ same. absurd (let wrong : true ≡ false = sym passes ∙ (ap p (sym same) ∙ e) in cc)) (λ there. there))
