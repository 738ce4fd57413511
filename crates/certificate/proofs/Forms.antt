-- Lists of values that the code tests one by one, against the lists that a form is stated of.
use Rattle.std.proofs.Common.{◌≡◌, ℕ, Bool, List, length, map, Some, refl}
use Rattle.std.specs.Prelude.{◌&&◌}
use Rattle.std.specs.List.{list_all}
use Rattle.std.proofs.lemmas.List.{length-map}
use Rattle.std.proofs.lemmas.List.Folds.{list_all-map}
use Rattle.serde_json.specs.Data.{Data}
use Rattle.serde_json.specs.View.{view}
use Rattle.serde_json.specs.declared.value.Value.{Value}
use Rattle.json_fields.specs.Lists.{list_in}
use Rattle.certificate.specs.Form.{is_list_with}

pub is_list_with-view : (fits : ℕ → Bool) (test : Data → Bool) (d : Data) (vs : List Value) → Some (map view vs) ≡ list_in d
    → is_list_with fits test d ≡ (fits (length vs) && list_all (λ v. test (view v)) vs)
is_list_with-view fits test d vs is = rw (← is, length-map, list_all-map test view vs) refl
