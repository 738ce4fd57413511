-- The member `bound` of a split certificate that is written is the text of its bound.
use Rattle.std.proofs.Common.{◌≡◌, ℕ, ◌^◌, List, Some, Result, Ok, Err, inl, inr, ap, ◌∙◌, subst}
use Rattle.std.specs.Prelude.{IfOk, bytes_eq, codes, ok_or, option_and_then}
use Rattle.std.proofs.lemmas.Option.{same_Some}
use Rattle.serde_json.specs.Data.{Data}
use Rattle.serde_json.specs.Find.{get}
use Rattle.listed.specs.Faults.{told_as}
use Rattle.listed.proofs.Answered.{IfOk-step}
use Rattle.json_fields.specs.Files.{IsGiven}
use Rattle.json_fields.specs.Numbers.{digits_below}
use Rattle.json_fields.specs.Objects.{text_at, list_at, has_exactly}
use Rattle.json_fields.proofs.Laws.{IfOk-ok_or, IfOk-test, bind_some, passed}
use Rattle.abstract_sched.specs.declared.rules.StateRules.{StateRules}
use Rattle.certificate.specs.declared.fault.CertKind.TheVariants as cert_kinds
use Rattle.certificate.specs.States.{states_of}
use Rattle.bound_commands.specs.Bounded.{HasBound}
use Rattle.split_cert.specs.declared.cert.SplitCert.{SplitCert}
use Rattle.split_cert.specs.Certificate.{shallow_tree_in, split_in}
use Rattle.split_cert.specs.Form.{SplitParts, split_parts, keys, have_form}

parts_bound : (d : Data) (parts : SplitParts) → split_parts d ≡ Some parts → text_at (codes "bound") d ≡ Some parts.bound
unfolding split_parts
parts_bound d parts is =
    let whole = passed (has_exactly keys d) _ parts is in
    let bound = bind_some (text_at (codes "bound") d) _ parts whole.1 in
    let states = bind_some (list_at (codes "states") d) _ parts bound.2 in
    let task = bind_some (text_at (codes "task") d) _ parts states.2 in
    let tree = bind_some (get (codes "tree") d) _ parts task.2 in
    let made : SplitParts = record { bound = bound.0; states = states.0; task = task.0; tree = tree.0 } in
    let formed = passed (have_form made) (Some made) parts tree.2 in
    bound.1 ∙ ap Some (ap (λ (p : SplitParts). p.bound) (same_Some made parts formed.1))

always : {A K : Type 0} (r : Result A K) → IfOk r (λ _. Unit {0})
always (Ok x) = tt
always (Err kind) = tt

read_bound : (rules : StateRules) (task : ℕ) (name : List ℕ) (d : Data)
    → IfOk (split_in rules task name d) (λ cert. option_and_then (digits_below (2 ^ 120)) (text_at (codes "bound") d) ≡ Some cert.bound)
unfolding split_in
read_bound rules task name d =
    let Q : SplitCert → Type 0 = λ cert. option_and_then (digits_below (2 ^ 120)) (text_at (codes "bound") d) ≡ Some cert.bound in
    IfOk-step (λ parts. text_at (codes "bound") d ≡ Some parts.bound) Q (ok_or (split_parts d) cert_kinds.Shape) _
    (IfOk-ok_or _ _ _ (parts_bound d)) (λ parts there.
    IfOk-step (λ bound. digits_below (2 ^ 120) parts.bound ≡ Some bound) Q (ok_or (digits_below (2 ^ 120) parts.bound) cert_kinds.Range) _
    (IfOk-ok_or _ _ _ (λ _ is. is)) (λ bound is.
    IfOk-step (λ _. Unit {0}) Q (shallow_tree_in parts.tree) _ (always _) (λ tree _.
    IfOk-step (λ _. Unit {0}) Q (told_as cert_kinds.State (states_of rules parts.states)) _ (always _) (λ states _.
    IfOk-test Q (bytes_eq parts.task name) _ _ (λ _. ap (option_and_then (digits_below (2 ^ 120))) there ∙ is)))))

pub given_bound : (rules : StateRules) (task : ℕ) (name text : List ℕ) (cert : SplitCert)
    → IsGiven cert_kinds.Json (split_in rules task name) text (Ok cert) → HasBound text cert.bound
given_bound rules task name text cert (inl given) = record {
  value = given.0;
  is_value = given.1;
  member = subst
      (λ (r : Result SplitCert _). IfOk r (λ c. option_and_then (digits_below (2 ^ 120)) (text_at (codes "bound") given.0) ≡ Some c.bound))
      given.2 (read_bound rules task name given.0);
}
given_bound rules task name text cert (inr none) = absurd (cc (none.1))
