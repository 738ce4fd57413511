-- What a format gives for bytes is determined.
use Rattle.std.proofs.Common.{◌≡◌, ℕ, List, Some, Result, Ok, Err, inl, inr, refl, sym, ap, ◌∙◌}
use Rattle.std.proofs.lemmas.Option.{same_Some}
use Rattle.serde_json.specs.Data.{Data}
use Rattle.json_fields.specs.Files.{IsGiven}

pub given_once : {X K : Type 0} (no_value : K) (format : Data → Result X K) (bytes : List ℕ) (a b : Result X K) → IsGiven no_value format bytes a → IsGiven no_value format bytes b
    → a ≡ b
given_once no_value format bytes a b (inl x) (inl y) =
    let same : x.0 ≡ y.0 = same_Some x.0 y.0 (sym x.1.1 ∙ y.1.1) in
    sym x.2 ∙ (ap format same ∙ y.2)
given_once no_value format bytes a b (inl x) (inr y) = absurd (y.0 x.0 x.1)
given_once no_value format bytes a b (inr x) (inl y) = absurd (x.0 y.0 y.1)
given_once no_value format bytes a b (inr x) (inr y) = x.1 ∙ sym y.1

pub same_ok : {X K : Type 0} (x y : X) → ◌≡◌ {A = Result X K} (Ok x) (Ok y) → x ≡ y
same_ok x y is = cc
