-- Laws of the words on JSON values.
use Rattle.std.proofs.Common.{◌≡◌, ℕ, Bool, List, [], ◌∷◌, map, String, Global, string_bytes, bytes_eq, Bor, refl, ap}
use Rattle.std.specs.Prelude.{◌||◌}
use Rattle.std.specs.List.{list_any, list_all}
use Rattle.serde_json.specs.Data.{Data}
use Rattle.serde_json.specs.View.{items_of, view, items_view, members_view}
use Rattle.serde_json.specs.declared.value.Value.{Value}
use Rattle.json_fields.specs.Lists.{members_of}
use Rattle.json_fields.specs.Objects.{keys_pass, texts, is_among}

pub list_any-map : {X Y : Type 0} (test : X → Bool) (h : Y → X) (ys : List Y) → list_any test (map h ys) ≡ list_any (λ y. test (h y)) ys
list_any-map test h [] = refl
list_any-map test h (y ∷ ys) = ap (λ b. test (h y) || b) (list_any-map test h ys)

pub members_of-items_of : (ds : List Data) → members_of (items_of ds) ≡ ds
members_of-items_of [] = refl
members_of-items_of (d ∷ ds) = ap (λ more. d ∷ more) (members_of-items_of ds)

pub members_of-items_view : (vs : List Value) → members_of (items_view vs) ≡ map view vs
members_of-items_view vs = members_of-items_of (map view vs)

is_known : (required optional : List (Bor (List ℕ))) (key : List ℕ)
    → (list_any (λ k. bytes_eq k.now key) required || list_any (λ k. bytes_eq k.now key) optional)
    ≡ (is_among (texts required) key || is_among (texts optional) key)
is_known required optional key =
    rw (list_any-map (λ known. bytes_eq known key) (λ k. k.now) required, list_any-map (λ known. bytes_eq known key) (λ k. k.now) optional) refl

pub each_known : (required optional : List (Bor (List ℕ))) (es : List (String Global × Value))
    → list_all (λ key. list_any (λ k. bytes_eq k.now (string_bytes key)) required || list_any (λ k. bytes_eq k.now (string_bytes key)) optional) (map (λ e. e.0) es)
    ≡ keys_pass (λ key. is_among (texts required) key || is_among (texts optional) key) (members_view es)
each_known required optional [] = refl
each_known required optional (e ∷ es) = rw (is_known required optional (string_bytes e.0), each_known required optional es) refl
