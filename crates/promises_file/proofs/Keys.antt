-- A test of each key of an object.
use Rattle.std.proofs.Common.{◌≡◌, Bool, ℕ, List, [], ◌∷◌, String, Global, string_bytes, refl, ap}
use Rattle.std.specs.Prelude.{◌&&◌}
use Rattle.std.specs.List.{list_all}
use Rattle.std.specs.Map.{keys_of}
use Rattle.serde_json.specs.View.{members_view}
use Rattle.serde_json.specs.declared.value.Value.{Value}
use Rattle.json_fields.specs.Objects.{keys_pass}

pub each_passes : (test : List ℕ → Bool) (es : List (String Global × Value))
    → list_all (λ key. test (string_bytes key)) (keys_of es) ≡ keys_pass test (members_view es)
each_passes test [] = refl
each_passes test (e ∷ es) = ap (λ b. test (string_bytes e.0) && b) (each_passes test es)
