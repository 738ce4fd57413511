-- The lines of a layout, written one after the other.
use Rattle.std.proofs.Common.{◌≡◌, ℕ, suc, ◌+◌, ◌-◌, ◌<◌, ◌≤◌, List, [], ◌∷◌, ◌++◌, length, drop, get_or, refl, sym, ap, ◌∙◌, append_assoc, arith, add-one, drop-cons}
use Rattle.std.proofs.lemmas.List.{append-nil, drop_all}
use Rattle.oil_grammar.specs.Layout.{closing_line, closing_lines, attribute_line, level_within, attribute_lines, object_lines, objects_lines}
use Rattle.oil_grammar.specs.declared.tree.Attribute.{Attribute}
use Rattle.oil_grammar.specs.declared.tree.Object.{Object}

-- one more piece is written of what is left
wrote : (old new piece rest left whole : List ℕ) → new ≡ old ++ piece → left ≡ piece ++ rest → old ++ left ≡ whole → new ++ rest ≡ whole
wrote old new piece rest left whole is cut all = rw is (append_assoc old piece rest ∙ (ap (λ l. old ++ l) (sym cut) ∙ all))

wrote_all : (out left whole : List ℕ) → left ≡ [] → out ++ left ≡ whole → out ≡ whole
wrote_all out left whole none all = sym (append-nil out) ∙ (ap (λ l. out ++ l) (sym none) ∙ all)

-- the item at an index, and those after it
cut_item : {X : Type 0} (xs : List X) (i : ℕ) (x : X) → i < length xs → x ≡ get_or xs i x → drop i xs ≡ x ∷ drop (i + 1) xs
cut_item xs i x lt is = rw add-one (drop-cons xs i x lt ∙ ap (λ y. y ∷ drop (suc i) xs) (sym is))

-- The ends of blocks.

pub no_closings : (count level : ℕ) → count ≡ 0 → closing_lines count level ≡ []
unfolding closing_lines
no_closings count level none = rw none refl

pub closing_more : (count left level next : ℕ) → count ≡ suc left → level - 1 ≡ next → closing_lines count level ≡ closing_line level ++ closing_lines left next
unfolding closing_lines
closing_more count left level next is falls = rw is (ap (λ l. closing_line level ++ closing_lines left l) falls)

pub closings_step : (out new whole : List ℕ) (ended count level : ℕ) → ended < count → new ≡ out ++ closing_line (level - ended) → out ++ closing_lines (count - ended) (level - ended) ≡ whole → new ++ closing_lines (count - (ended + 1)) (level - (ended + 1)) ≡ whole
closings_step out new whole ended count level lt is all =
    wrote out new (closing_line (level - ended)) (closing_lines (count - (ended + 1)) (level - (ended + 1))) (closing_lines (count - ended) (level - ended)) whole is
    (closing_more (count - ended) (count - (ended + 1)) (level - ended) (level - (ended + 1)) (omega arith) (omega arith)) all

pub closings_done : (out whole : List ℕ) (ended count level : ℕ) → count ≤ ended → out ++ closing_lines (count - ended) (level - ended) ≡ whole → out ≡ whole
closings_done out whole ended count level le all = wrote_all out (closing_lines (count - ended) (level - ended)) whole (no_closings (count - ended) (level - ended) (omega arith)) all

-- Attributes.

attributes_more : (level i : ℕ) (xs : List Attribute) (a : Attribute) → i < length xs → a ≡ get_or xs i a → attribute_lines level (drop i xs) ≡ (closing_lines (level - a.level) level ++ attribute_line a) ++ attribute_lines (level_within a) (drop (i + 1) xs)
unfolding attribute_lines
attributes_more level i xs a lt is = rw (cut_item xs i a lt is) (sym (append_assoc (closing_lines (level - a.level) level) (attribute_line a) (attribute_lines (level_within a) (drop (i + 1) xs))))

pub attributes_step : (out mid new whole : List ℕ) (level i : ℕ) (xs : List Attribute) (a : Attribute) → i < length xs → a ≡ get_or xs i a → mid ≡ out ++ closing_lines (level - a.level) level → new ≡ mid ++ attribute_line a → out ++ attribute_lines level (drop i xs) ≡ whole → new ++ attribute_lines (level_within a) (drop (i + 1) xs) ≡ whole
attributes_step out mid new whole level i xs a lt is closed wrote_line all =
    let both : new ≡ out ++ (closing_lines (level - a.level) level ++ attribute_line a) = wrote_line ∙ (ap (λ m. m ++ attribute_line a) closed ∙ append_assoc out (closing_lines (level - a.level) level) (attribute_line a)) in
    wrote out new (closing_lines (level - a.level) level ++ attribute_line a) (attribute_lines (level_within a) (drop (i + 1) xs)) (attribute_lines level (drop i xs)) whole both (attributes_more level i xs a lt is) all

pub attributes_done : (out new whole : List ℕ) (level i : ℕ) (xs : List Attribute) → length xs ≤ i → new ≡ out ++ closing_lines level level → out ++ attribute_lines level (drop i xs) ≡ whole → new ≡ whole
unfolding attribute_lines
attributes_done out new whole level i xs le is all = is ∙ (ap (λ ys. out ++ attribute_lines level ys) (sym (drop_all i xs le)) ∙ all)

-- Objects.

objects_more : (i : ℕ) (xs : List Object) (o : Object) → i < length xs → o ≡ get_or xs i o → objects_lines (drop i xs) ≡ object_lines o ++ objects_lines (drop (i + 1) xs)
unfolding objects_lines
objects_more i xs o lt is = rw (cut_item xs i o lt is) refl

pub objects_step : (out new whole : List ℕ) (i : ℕ) (xs : List Object) (o : Object) → i < length xs → o ≡ get_or xs i o → new ≡ out ++ object_lines o → out ++ objects_lines (drop i xs) ≡ whole → new ++ objects_lines (drop (i + 1) xs) ≡ whole
objects_step out new whole i xs o lt is wrote_lines all =
    wrote out new (object_lines o) (objects_lines (drop (i + 1) xs)) (objects_lines (drop i xs)) whole wrote_lines (objects_more i xs o lt is) all

pub objects_done : (out whole : List ℕ) (i : ℕ) (xs : List Object) → length xs ≤ i → out ++ objects_lines (drop i xs) ≡ whole → out ≡ whole
unfolding objects_lines
objects_done out whole i xs le all = wrote_all out (objects_lines (drop i xs)) whole (ap (λ ys. objects_lines ys) (drop_all i xs le)) all
