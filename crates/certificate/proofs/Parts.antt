-- The members of a value that has the form of a certificate, or of a list of states.
use Rattle.std.proofs.Common.{◌≡◌, ℕ, Bool, true, cond, List, map, Some, None, refl}
use Rattle.std.specs.Prelude.{◌&&◌, codes}
use Rattle.std.specs.List.{list_all}
use Rattle.std.proofs.lemmas.List.Folds.{list_all-map}
use Rattle.serde_json.specs.Data.{Data}
use Rattle.serde_json.specs.View.{view}
use Rattle.serde_json.specs.declared.value.Value.{Value}
use Rattle.json_fields.specs.Lists.{list_in}
use Rattle.json_fields.specs.Objects.{has_exactly, text_at, list_at}
use Rattle.json_fields.specs.Forms.{is_text}
use Rattle.certificate.specs.Form.{is_state, state_list, keys, cert_parts}

pub state_list-view : (d : Data) (vs : List Value) (formed : Bool) → Some (map view vs) ≡ list_in d
    → formed ≡ list_all (λ v. is_state (view v)) vs
    → state_list d ≡ cond formed (Some (map view vs)) None
state_list-view d vs formed is tested = rw (← is, list_all-map is_state view vs, ← tested) refl

pub cert_parts-view : (d : Data) (bound denominator : List ℕ) (multipliers states : List Value) (task : List ℕ) (formed : Bool)
    → true ≡ has_exactly keys d
    → Some bound ≡ text_at (codes "bound") d
    → Some denominator ≡ text_at (codes "denominator") d
    → Some (map view multipliers) ≡ list_at (codes "multipliers") d
    → Some (map view states) ≡ list_at (codes "states") d
    → Some task ≡ text_at (codes "task") d
    → formed ≡ (list_all (λ v. is_text (view v)) multipliers && list_all (λ v. is_state (view v)) states)
    → cert_parts d ≡ cond formed (Some (record { bound = bound; denominator = denominator; multipliers = map view multipliers; states = map view states; task = task })) None
unfolding cert_parts
cert_parts-view d bound denominator multipliers states task formed exact b e m s t tested =
    rw (← exact, ← b, ← e, ← m, ← s, ← t, list_all-map is_text view multipliers, list_all-map is_state view states, ← tested) refl
