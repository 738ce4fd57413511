-- Lists that the code tests one by one, against the lists that a form is stated of.
use Rattle.std.proofs.Common.{◌≡◌, ℕ, List, [], ◌∷◌, map, String, Global, Some, refl, ap}
use Rattle.std.specs.Prelude.{◌&&◌}
use Rattle.std.specs.List.{list_all}
use Rattle.std.proofs.lemmas.List.Folds.{list_all-map}
use Rattle.serde_json.specs.Data.{Data}
use Rattle.serde_json.specs.View.{view, members_view}
use Rattle.serde_json.specs.declared.value.Value.{Value}
use Rattle.json_fields.specs.Forms.{is_number}
use Rattle.json_fields.specs.Lists.{list_in}
use Rattle.timing_file.specs.Form.{are_numbers, is_range, is_range_list, is_keyed, has_range_keys}

pub is_range_list-view : (key : List ℕ) (d : Data) (vs : List Value) → Some (map view vs) ≡ list_in d → is_range_list key d ≡ list_all (λ v. is_range key (view v)) vs
is_range_list-view key d vs is = rw (← is, list_all-map (is_range key) view vs) refl

pub are_numbers-view : (es : List (String Global × Value)) → are_numbers (members_view es) ≡ list_all (λ v. is_number (view v)) (map (λ e. e.1) es)
are_numbers-view [] = refl
are_numbers-view (e ∷ es) = ap (λ b. is_number (view e.1) && b) (are_numbers-view es)

pub has_range_keys-view : (key : List ℕ) (d : Data) (vs : List Value) → Some (map view vs) ≡ list_in d → has_range_keys key d ≡ list_all (λ v. is_keyed key (view v)) vs
has_range_keys-view key d vs is = rw (← is, list_all-map (is_keyed key) view vs) refl
