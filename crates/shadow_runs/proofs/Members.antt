-- Members of lists that are made of others.
use Rattle.std.proofs.Common.{◌≡◌, ℕ, zero, suc, subst, ◌+◌, ◌<◌, Bool, true, false, cond, List, [], ◌∷◌, map, filter, filter_map, Contains, Option, Some, None, Result, Ok, Err, refl, sym, ◌∙◌, ap, arith, position}
use Rattle.std.specs.Prelude.{slice_get}
use Rattle.std.specs.Bool.{Decides}
use Rattle.std.specs.List.{position_from, cons_option, range_with_len}
use Rattle.std.proofs.lemmas.Iterator.Adapters.{position_from-zero}
use Rattle.std.proofs.lemmas.List.FromFn.{length-range_with_len, get_or-range_with_len}
use Rattle.std.proofs.lemmas.Option.{none-some, same_Some}
use Rattle.listed.specs.Lists.{each_from, all_of}
use Rattle.listed.specs.Steps.{◌>>=◌}

-- ---- One more in front

pub first_member : {A : Type 0} (x : A) (xs : List A) → Contains (x ∷ xs) x
first_member x xs = (0, omega arith, refl)

pub later_member : {A : Type 0} (x y : A) (xs : List A) → Contains xs x → Contains (y ∷ xs) x
later_member x y xs has = (suc has.0, (let inside = has.1 in omega arith), has.2)

-- a member is the first one, or one of the others
pub member_cases : {A P : Type 0} (x y : A) (xs : List A) → Contains (y ∷ xs) x → (y ≡ x → P) → (Contains xs x → P) → P
member_cases x y xs (zero, inside, is) first other = first is
member_cases x y xs (suc k, inside, is) first other = other (k, omega arith, is)

-- ---- What is kept, and what is made of each

pub kept_member : {A : Type 0} (p : A → Bool) (xs : List A) (x : A) → p x ≡ true → Contains xs x → Contains (filter p xs) x
kept_member p [] x passes has = absurd (let inside = has.1 in omega arith)
kept_member {A} p (y ∷ ys) x passes has = kept (p y) refl (kept_member p ys x passes)
  where
    kept : (b : Bool) → p y ≡ b → (Contains ys x → Contains (filter p ys) x) → Contains (cond b (y ∷ filter p ys) (filter p ys)) x
    kept true e more = member_cases x y ys has (λ same. (0, omega arith, same)) (λ other. later_member x y (filter p ys) (more other))
    kept false e more = member_cases x y ys has (λ same. absurd (let wrong : true ≡ false = sym passes ∙ (ap p (sym same) ∙ e) in cc)) more

pub mapped_member : {A B : Type 0} (f : A → B) (xs : List A) (x : A) → Contains xs x → Contains (map f xs) (f x)
mapped_member f [] x has = absurd (let inside = has.1 in omega arith)
mapped_member f (y ∷ ys) x has = member_cases x y ys has (λ same. (0, omega arith, ap f same))
    (λ other. later_member (f x) (f y) (map f ys) (mapped_member f ys x other))

pub chosen_member : {A B : Type 0} (h : A → Option B) (xs : List A) (x : A) (z : B) → h x ≡ Some z → Contains xs x → Contains (filter_map h xs) z
chosen_member h [] x z is has = absurd (let inside = has.1 in omega arith)
chosen_member {A} {B} h (y ∷ ys) x z is has = chosen (h y) refl (chosen_member h ys x z is)
  where
    chosen : (o : Option B) → h y ≡ o → (Contains ys x → Contains (filter_map h ys) z) → Contains (cons_option o (filter_map h ys)) z
    chosen None e more = member_cases x y ys has (λ same. absurd (none-some z (sym e ∙ (ap h same ∙ is)))) more
    chosen (Some w) e more = member_cases x y ys has (λ same. (0, omega arith, same_Some w z (sym e ∙ (ap h same ∙ is))))
        (λ other. later_member z w (filter_map h ys) (more other))

pub range_member : (count n : ℕ) → n < count → Contains (range_with_len 0 count) n
range_member count n below = (n, (let l = length-range_with_len 0 count in omega arith), get_or-range_with_len 0 count n n below ∙ omega arith)

-- ---- Steps that gave something

pub record Stepped {A B K : Type 0} (result : Result A K) (next : A → Result B K) (end : B) : Type 0 where
  pub middle : A
  pub gave : result ≡ Ok middle
  pub goes : next middle ≡ Ok end

pub stepped : {A B K : Type 0} (result : Result A K) (next : A → Result B K) (end : B) → result >>= next ≡ Ok end → Stepped result next end
stepped (Ok x) next end e = record { middle = x; gave = refl; goes = e }
stepped (Err kind) next end e = absurd cc

pub same_ok : {A K : Type 0} (a b : A) → ◌≡◌ {A = Result A K} (Ok a) (Ok b) → a ≡ b
same_ok a b e = cc

-- what a member gave, among what all gave
pub record Gave {A B K : Type 0} (gives : A → Result B K) (x : A) (ys : List B) : Type 0 where
  pub item : B
  pub gave : gives x ≡ Ok item
  pub listed : Contains ys item

each_gave : {A B K : Type 0} (gives : A → Result B K) (place : ℕ) (xs : List A) (ys : List B) (x : A) → each_from (λ place. gives) place xs ≡ Ok ys
    → Contains xs x → Gave gives x ys
each_gave gives place [] ys x e has = absurd (let inside = has.1 in omega arith)
each_gave {A} {B} gives place (z ∷ zs) ys x e has =
    let first = stepped (gives z) (λ y. each_from (λ place. gives) (suc place) zs >>= (λ others. Ok (y ∷ others))) ys e in
    let rest = stepped (each_from (λ place. gives) (suc place) zs) (λ others. Ok (first.middle ∷ others)) ys first.goes in
    let all : first.middle ∷ rest.middle ≡ ys = same_ok (first.middle ∷ rest.middle) ys rest.goes in
    member_cases x z zs has (λ same. record {
      item = first.middle;
      gave = ap gives (sym same)
          ∙ first.gave;
      listed = subst (λ l. Contains l first.middle) all (first_member first.middle rest.middle);
    })
    (λ other. let more = each_gave gives (suc place) zs rest.middle x rest.gave other in
    record { item = more.item; gave = more.gave; listed = subst (λ l. Contains l more.item) all (later_member more.item first.middle rest.middle more.listed) })

pub all_gave : {A B K : Type 0} (gives : A → Result B K) (xs : List A) (ys : List B) (x : A) → all_of gives xs ≡ Ok ys → Contains xs x → Gave gives x ys
all_gave gives xs ys x e has = each_gave gives 0 xs ys x e has

-- ---- The place of a member that a test tells from all others

pub record StandsFirst {A : Type 0} (p : A → Bool) (xs : List A) (x : A) : Type 0 where
  pub number : ℕ
  pub found : position p xs ≡ Some number
  pub stands : slice_get xs number ≡ Some x

first_from : {A : Type 0} (p : A → Bool) (x : A) → ((y : A) → Decides (p y) (y ≡ x)) → (xs : List A) (i : ℕ) → Contains xs x
    → (n : ℕ) × (position_from p i xs ≡ Some (i + n)) × (slice_get xs n ≡ Some x)
first_from p x tells [] i has = absurd (let inside = has.1 in omega arith)
first_from {A} p x tells (y ∷ ys) i has = at (p y) refl (first_from p x tells ys (i + 1))
  where
    at : (b : Bool) → p y ≡ b → (Contains ys x → (n : ℕ) × (position_from p (i + 1) ys ≡ Some (i + 1 + n)) × (slice_get ys n ≡ Some x))
        → (n : ℕ) × (cond b (Some i) (position_from p (i + 1) ys) ≡ Some (i + n)) × (slice_get (y ∷ ys) n ≡ Some x)
    at true e later = (0, ap Some (omega arith), ap Some ((tells y).0 e))
    at false e later =
        let more = later (member_cases x y ys has (λ same. absurd (let wrong : true ≡ false = sym ((tells y).1 same) ∙ e in cc)) (λ other. other)) in
        (suc more.0, more.1 ∙ ap Some (omega arith), more.2)

pub stands_first : {A : Type 0} (p : A → Bool) (xs : List A) (x : A) → ((y : A) → Decides (p y) (y ≡ x)) → Contains xs x → StandsFirst p xs x
stands_first p xs x tells has =
    let first = first_from p x tells xs 0 has in
    record { number = first.0; found = position_from-zero p xs ∙ (first.1 ∙ ap Some (omega arith)); stands = first.2 }
