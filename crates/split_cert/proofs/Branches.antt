-- Lists of values, against the forms that they may have.
use Rattle.std.proofs.Common.{◌≡◌, List, [], ◌∷◌, length, get_or, map, Some, None, refl, sym, ap, ◌∙◌, arith}
use Rattle.std.specs.List.{list_all}
use Rattle.std.proofs.lemmas.List.Folds.{list_all-map}
use Rattle.std.proofs.lemmas.Option.{none-some, same_Some}
use Rattle.serde_json.specs.Data.{Data, null, boolean, number, string, array, object, Items, no_items, item}
use Rattle.serde_json.specs.View.{view, items_of, items_view}
use Rattle.serde_json.specs.declared.value.Value.{Value}
use Rattle.json_fields.specs.Forms.{is_text}
use Rattle.json_fields.specs.Lists.{list_in, members_of}
use Rattle.split_cert.specs.Certificate.{tree_in, branch_in}
use Rattle.split_cert.specs.Form.{are_texts}
use Rattle.split_cert.specs.Working.Branches.{HasNoForm, IsThree, IsFive}

items_of-members_of : (items : Items) → items_of (members_of items) ≡ items
items_of-members_of no_items = refl
items_of-members_of (item d items) = ap (item d) (items_of-members_of items)

-- a list is that of its members
pub array_of : (d : Data) (ds : List Data) → Some ds ≡ list_in d → d ≡ array (items_of ds)
array_of null ds is = absurd (none-some ds (sym is))
array_of (boolean b) ds is = absurd (none-some ds (sym is))
array_of (number n) ds is = absurd (none-some ds (sym is))
array_of (string s) ds is = absurd (none-some ds (sym is))
array_of (array items) ds is = ap array (sym (ap items_of (same_Some ds (members_of items) is) ∙ items_of-members_of items))
array_of (object fields) ds is = absurd (none-some ds (sym is))

pub no_list : (d : Data) → None ≡ list_in d → HasNoForm d
unfolding tree_in
no_list null is = record { form = refl; reads = refl }
no_list (boolean b) is = record { form = refl; reads = refl }
no_list (number n) is = record { form = refl; reads = refl }
no_list (string s) is = record { form = refl; reads = refl }
no_list (array items) is = absurd (none-some (members_of items) is)
no_list (object fields) is = record { form = refl; reads = refl }

pub other_length : (vs : List Value) → (length vs ≡ 3 → ⊥) → (length vs ≡ 5 → ⊥) → HasNoForm (array (items_view vs))
unfolding tree_in branch_in
other_length [] three five = record { form = refl; reads = refl }
other_length (a ∷ []) three five = record { form = refl; reads = refl }
other_length (a ∷ b ∷ []) three five = record { form = refl; reads = refl }
other_length (a ∷ b ∷ c ∷ []) three five = absurd (three refl)
other_length (a ∷ b ∷ c ∷ d ∷ []) three five = record { form = refl; reads = refl }
other_length (a ∷ b ∷ c ∷ d ∷ e ∷ []) three five = absurd (five refl)
other_length (a ∷ b ∷ c ∷ d ∷ e ∷ f ∷ vs) three five = record { form = refl; reads = refl }

is_three : (a b c : Data) → IsThree (array (item a (item b (item c no_items)))) a b c
unfolding tree_in branch_in
is_three a b c = record { form = refl; reads = refl }

is_five : (a b c d e : Data) → IsFive (array (item a (item b (item c (item d (item e no_items)))))) a b c d e
unfolding tree_in branch_in
is_five a b c d e = record { form = refl; reads = refl; low_depth = omega arith; high_depth = omega arith }

pub three_items : (vs : List Value) (a b c : Value) → length vs ≡ 3 → a ≡ get_or vs 0 a → b ≡ get_or vs 1 b → c ≡ get_or vs 2 c
    → IsThree (array (items_view vs)) (view a) (view b) (view c)
three_items [] a b c count at_0 at_1 at_2 = absurd (omega arith)
three_items (x ∷ []) a b c count at_0 at_1 at_2 = absurd (omega arith)
three_items (x ∷ y ∷ []) a b c count at_0 at_1 at_2 = absurd (omega arith)
three_items (x ∷ y ∷ z ∷ []) a b c count at_0 at_1 at_2 = rw (at_0, at_1, at_2) (is_three (view x) (view y) (view z))
three_items (x ∷ y ∷ z ∷ u ∷ vs) a b c count at_0 at_1 at_2 = absurd (omega arith)

pub five_items : (vs : List Value) (a b c d e : Value) → length vs ≡ 5 → a ≡ get_or vs 0 a → b ≡ get_or vs 1 b → c ≡ get_or vs 2 c → d ≡ get_or vs 3 d → e ≡ get_or vs 4 e
    → IsFive (array (items_view vs)) (view a) (view b) (view c) (view d) (view e)
five_items [] a b c d e count at_0 at_1 at_2 at_3 at_4 = absurd (omega arith)
five_items (x ∷ []) a b c d e count at_0 at_1 at_2 at_3 at_4 = absurd (omega arith)
five_items (x ∷ y ∷ []) a b c d e count at_0 at_1 at_2 at_3 at_4 = absurd (omega arith)
five_items (x ∷ y ∷ z ∷ []) a b c d e count at_0 at_1 at_2 at_3 at_4 = absurd (omega arith)
five_items (x ∷ y ∷ z ∷ u ∷ []) a b c d e count at_0 at_1 at_2 at_3 at_4 = absurd (omega arith)
five_items (x ∷ y ∷ z ∷ u ∷ v ∷ []) a b c d e count at_0 at_1 at_2 at_3 at_4 =
    rw (at_0, at_1, at_2, at_3, at_4) (is_five (view x) (view y) (view z) (view u) (view v))
five_items (x ∷ y ∷ z ∷ u ∷ v ∷ w ∷ vs) a b c d e count at_0 at_1 at_2 at_3 at_4 = absurd (omega arith)

pub are_texts_view : (d : Data) (vs : List Value) → Some (map view vs) ≡ list_in d → are_texts d ≡ list_all (λ v. is_text (view v)) vs
are_texts_view d vs is = rw (← is, list_all-map is_text view vs) refl
