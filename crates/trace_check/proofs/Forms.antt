-- Lists of values that the code tests one by one, against the lists that a form is stated of.
use Rattle.std.proofs.Common.{◌≡◌, List, [], ◌∷◌, length, map, None, refl, arith}
use Rattle.std.specs.Prelude.{slice_index_or}
use Rattle.std.specs.List.{list_all}
use Rattle.std.proofs.lemmas.List.Folds.{list_all-map}
use Rattle.serde_json.specs.View.{view}
use Rattle.serde_json.specs.declared.value.Value.{Value}
use Rattle.json_fields.specs.Forms.{is_number}
use Rattle.trace_check.specs.Form as words

pub are_numbers_view : (vs : List Value) → list_all is_number (map view vs) ≡ list_all (λ v. is_number (view v)) vs
are_numbers_view vs = list_all-map is_number view vs

pub are_events_view : (vs : List Value) → list_all words.is_event (map view vs) ≡ list_all (λ v. words.is_event (view v)) vs
are_events_view vs = list_all-map words.is_event view vs

-- ---- events, by the number of their members

pub three_members : (vs : List Value) (word at source : Value) → length vs ≡ 3
    → word ≡ slice_index_or vs 0 word → at ≡ slice_index_or vs 1 at → source ≡ slice_index_or vs 2 source
    → words.arrive_parts (view word) (view at) (view source) ≡ words.parts_of (map view vs)
unfolding words.parts_of
three_members [] word at source many w a s = absurd (omega arith)
three_members (_ ∷ []) word at source many w a s = absurd (omega arith)
three_members (_ ∷ _ ∷ []) word at source many w a s = absurd (omega arith)
three_members (x ∷ y ∷ z ∷ []) word at source many w a s = rw (w, a, s) refl
three_members (_ ∷ _ ∷ _ ∷ _ ∷ vs) word at source many w a s = absurd (omega arith)

pub four_members : (vs : List Value) (word start end source : Value) → length vs ≡ 4
    → word ≡ slice_index_or vs 0 word → start ≡ slice_index_or vs 1 start → end ≡ slice_index_or vs 2 end → source ≡ slice_index_or vs 3 source
    → words.take_parts (view word) (view start) (view end) (view source) ≡ words.parts_of (map view vs)
unfolding words.parts_of
four_members [] word start end source many w b e s = absurd (omega arith)
four_members (_ ∷ []) word start end source many w b e s = absurd (omega arith)
four_members (_ ∷ _ ∷ []) word start end source many w b e s = absurd (omega arith)
four_members (_ ∷ _ ∷ _ ∷ []) word start end source many w b e s = absurd (omega arith)
four_members (x ∷ y ∷ z ∷ u ∷ []) word start end source many w b e s = rw (w, b, e, s) refl
four_members (_ ∷ _ ∷ _ ∷ _ ∷ _ ∷ vs) word start end source many w b e s = absurd (omega arith)

pub six_members : (vs : List Value) (word start end context sites address : Value) → length vs ≡ 6
    → word ≡ slice_index_or vs 0 word → start ≡ slice_index_or vs 1 start → end ≡ slice_index_or vs 2 end
    → context ≡ slice_index_or vs 3 context → sites ≡ slice_index_or vs 4 sites → address ≡ slice_index_or vs 5 address
    → words.service_parts (view word) (view start) (view end) (view context) (view sites) (view address) ≡ words.parts_of (map view vs)
unfolding words.parts_of
six_members [] word start end context sites address many w b e c s a = absurd (omega arith)
six_members (_ ∷ []) word start end context sites address many w b e c s a = absurd (omega arith)
six_members (_ ∷ _ ∷ []) word start end context sites address many w b e c s a = absurd (omega arith)
six_members (_ ∷ _ ∷ _ ∷ []) word start end context sites address many w b e c s a = absurd (omega arith)
six_members (_ ∷ _ ∷ _ ∷ _ ∷ []) word start end context sites address many w b e c s a = absurd (omega arith)
six_members (_ ∷ _ ∷ _ ∷ _ ∷ _ ∷ []) word start end context sites address many w b e c s a = absurd (omega arith)
six_members (x ∷ y ∷ z ∷ u ∷ v ∷ t ∷ []) word start end context sites address many w b e c s a = rw (w, b, e, c, s, a) refl
six_members (_ ∷ _ ∷ _ ∷ _ ∷ _ ∷ _ ∷ _ ∷ vs) word start end context sites address many w b e c s a = absurd (omega arith)

pub other_members : (vs : List Value) → (length vs ≡ 3 → ⊥) → (length vs ≡ 4 → ⊥) → (length vs ≡ 6 → ⊥) → words.parts_of (map view vs) ≡ None
unfolding words.parts_of
other_members [] not3 not4 not6 = refl
other_members (_ ∷ []) not3 not4 not6 = refl
other_members (_ ∷ _ ∷ []) not3 not4 not6 = refl
other_members (_ ∷ _ ∷ _ ∷ []) not3 not4 not6 = absurd (not3 refl)
other_members (_ ∷ _ ∷ _ ∷ _ ∷ []) not3 not4 not6 = absurd (not4 refl)
other_members (_ ∷ _ ∷ _ ∷ _ ∷ _ ∷ []) not3 not4 not6 = refl
other_members (_ ∷ _ ∷ _ ∷ _ ∷ _ ∷ _ ∷ []) not3 not4 not6 = absurd (not6 refl)
other_members (_ ∷ _ ∷ _ ∷ _ ∷ _ ∷ _ ∷ _ ∷ vs) not3 not4 not6 = refl
