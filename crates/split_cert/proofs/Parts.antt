-- The members of a value that has the form of a split certificate.
use Rattle.std.proofs.Common.{◌≡◌, ℕ, Bool, true, cond, List, map, Some, None, refl}
use Rattle.std.specs.Prelude.{◌&&◌, codes}
use Rattle.std.specs.List.{list_all}
use Rattle.std.proofs.lemmas.List.Folds.{list_all-map}
use Rattle.serde_json.specs.Data.{Data}
use Rattle.serde_json.specs.Find.{get}
use Rattle.serde_json.specs.View.{view}
use Rattle.serde_json.specs.declared.value.Value.{Value}
use Rattle.json_fields.specs.Objects.{has_exactly, text_at, list_at}
use Rattle.certificate.specs.Form.{is_state}
use Rattle.split_cert.specs.Form.{is_tree, keys, split_parts}

pub split_parts-view : (d : Data) (bound : List ℕ) (states : List Value) (task : List ℕ) (tree : Data) (formed : Bool)
    → true ≡ has_exactly keys d
    → Some bound ≡ text_at (codes "bound") d
    → Some (map view states) ≡ list_at (codes "states") d
    → Some task ≡ text_at (codes "task") d
    → Some tree ≡ get (codes "tree") d
    → formed ≡ (list_all (λ v. is_state (view v)) states && is_tree tree)
    → split_parts d ≡ cond formed (Some (record { bound = bound; states = map view states; task = task; tree = tree })) None
unfolding split_parts
split_parts-view d bound states task tree formed exact b s t at_tree tested =
    rw (← exact, ← b, ← s, ← t, ← at_tree, list_all-map is_state view states, ← tested) refl
