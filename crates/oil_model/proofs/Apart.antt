-- In a tree without a fault nothing stands twice that may stand once.
use Rattle.std.proofs.Common.{◌≡◌, ℕ, Bool, true, false, List, [], ◌∷◌, ◌++◌, map, refl, sym, ap, ◌∙◌, append-nil}
use Rattle.std.specs.Prelude.{◌||◌, not, bytes_eq}
use Rattle.std.specs.List.{list_any}
use Rattle.std.proofs.lemmas.Bool.{or_parts, or_from, and_parts, and_from, not-true, not_from_false, false_from_ne_true, both_ways}
use Rattle.std.proofs.lemmas.List.Folds.{list_any-append}
use Rattle.std.proofs.lemmas.Slice.Eq.{bytes_eq-Decides}
use Rattle.oil_grammar.specs.declared.tree.Object.{Object}
use Rattle.listed.specs.Lists.{differ}
use Rattle.oil_model.specs.References.{is_kind, of_kind}
use Rattle.oil_model.specs.Rules.{name_set, clashes}

-- ---- lists whose members differ

-- a member that is the same as none before and none behind it may stand there
pub differ-insert : {A : Type 0} (same : A → A → Bool) (x : A) (front back : List A) → differ same (front ++ back) ≡ true → list_any (λ y. same y x) front ≡ false → list_any (same x) back ≡ false → differ same (front ++ x ∷ back) ≡ true
differ-insert same x [] back apart before behind = and_from (not (list_any (same x) back)) (differ same back) (not_from_false (list_any (same x) back) behind) apart
differ-insert same x (y ∷ front) back apart before behind =
    let first = or_parts (same y x) (list_any (λ z. same z x) front) before in
    let parts = and_parts (not (list_any (same y) (front ++ back))) (differ same (front ++ back)) apart in
    let away = or_parts (list_any (same y) front) (list_any (same y) back) (sym (list_any-append (same y) front back) ∙ not-true (list_any (same y) (front ++ back)) parts.0) in
    let alone : list_any (same y) (front ++ x ∷ back) ≡ false =
    list_any-append (same y) front (x ∷ back) ∙ or_from (list_any (same y) front) (same y x || list_any (same y) back) away.0 (or_from (same y x) (list_any (same y) back) first.0 away.1) in
    and_from (not (list_any (same y) (front ++ x ∷ back))) (differ same (front ++ x ∷ back)) (not_from_false (list_any (same y) (front ++ x ∷ back)) alone) (differ-insert same x front back parts.1 first.1 behind)

pub differ-push : {A : Type 0} (same : A → A → Bool) (x : A) (front : List A) → differ same front ≡ true → list_any (λ y. same y x) front ≡ false → differ same (front ++ x ∷ []) ≡ true
differ-push same x front apart before = differ-insert same x front [] (rw append-nil apart) before refl

list_any-map : {A B : Type 0} (p : B → Bool) (f : A → B) (xs : List A) → list_any p (map f xs) ≡ list_any (λ x. p (f x)) xs
list_any-map p f [] = refl
list_any-map p f (x ∷ xs) = ap (λ b. p (f x) || b) (list_any-map p f xs)

pub differ-map : {A B : Type 0} (same : B → B → Bool) (f : A → B) (xs : List A) → differ same (map f xs) ≡ differ (λ x y. same (f x) (f y)) xs
differ-map same f [] = refl
differ-map same f (x ∷ xs) = rw (list_any-map (same (f x)) f xs, differ-map same f xs) refl

-- ---- names

pub same_names : (xs ys : List ℕ) → bytes_eq xs ys ≡ true → xs ≡ ys
same_names xs ys is = (bytes_eq-Decides xs ys).0 is

itself : (xs ys : List ℕ) → xs ≡ ys → bytes_eq xs ys ≡ true
itself xs ys is = (bytes_eq-Decides xs ys).1 is

pub other_way : (xs ys : List ℕ) → bytes_eq xs ys ≡ false → bytes_eq ys xs ≡ false
other_way xs ys free = false_from_ne_true (bytes_eq ys xs) (λ yes. both_ways (bytes_eq xs ys) free (itself xs ys (sym (same_names ys xs yes))))

pub all_other_way : (x : List ℕ) (ys : List (List ℕ)) → list_any (λ y. bytes_eq y x) ys ≡ false → list_any (bytes_eq x) ys ≡ false
all_other_way x [] none = refl
all_other_way x (y ∷ ys) none =
    let parts = or_parts (bytes_eq y x) (list_any (λ z. bytes_eq z x) ys) none in
    or_from (bytes_eq x y) (list_any (bytes_eq x) ys) (other_way y x parts.0) (all_other_way x ys parts.1)

abbrev pub names_of : List ℕ → List Object → List (List ℕ)
names_of kind objects = map (λ o. o.name) (of_kind kind objects)

-- the names of the kind are in the object's set, and it has none of them
unnamed_one : (kind : List ℕ) (o e : Object) → name_set o.kind ≡ name_set kind → clashes o e ≡ false → (earlier : List Object) → list_any (λ n. bytes_eq n o.name) (names_of kind earlier) ≡ false → (test : Bool) → is_kind kind e ≡ test → list_any (λ n. bytes_eq n o.name) (names_of kind (e ∷ earlier)) ≡ false
unnamed_one kind o e set free earlier none false is = rw is none
unnamed_one kind o e set free earlier none true is =
    let in_set = itself (name_set o.kind) (name_set e.kind) (set ∙ ap name_set (sym (same_names e.kind kind is))) in
    let away : bytes_eq e.name o.name ≡ false =
    false_from_ne_true (bytes_eq e.name o.name)
    (λ yes. both_ways (clashes o e) free (and_from (bytes_eq (name_set o.kind) (name_set e.kind)) (bytes_eq o.name e.name) in_set (itself o.name e.name (sym (same_names e.name o.name yes))))) in
    rw is (or_from (bytes_eq e.name o.name) (list_any (λ n. bytes_eq n o.name) (names_of kind earlier)) away none)

pub unnamed : (kind : List ℕ) (o : Object) → name_set o.kind ≡ name_set kind → (earlier : List Object) → list_any (clashes o) earlier ≡ false → list_any (λ n. bytes_eq n o.name) (names_of kind earlier) ≡ false
unnamed kind o set [] none = refl
unnamed kind o set (e ∷ earlier) none =
    let parts = or_parts (clashes o e) (list_any (clashes o) earlier) none in
    unnamed_one kind o e set parts.0 earlier (unnamed kind o set earlier parts.1) (is_kind kind e) refl
