-- A tree without a fault keeps the limits.
use Rattle.std.proofs.Common.{◌≡◌, ℕ, ◌+◌, ◌≤◌, Bool, true, false, cond, List, [], ◌∷◌, ◌++◌, length, arith, length-append}
use Rattle.std.specs.Prelude.{nat_le, ◌&&◌}
use Rattle.std.proofs.lemmas.Bool.Decides.{nat_tests}
use Rattle.std.proofs.lemmas.List.Elements.{filter-append}
use Rattle.std.proofs.lemmas.List.Sums.{length-filter}
use Rattle.oil_grammar.specs.declared.tree.Object.{Object}
use Rattle.oil_model.specs.References.{is_kind, of_kind}
use Rattle.oil_model.specs.Rules.{is_past}

at_limit : (test : Bool) (n limit : ℕ) (o : Object) → n ≤ limit → (test && nat_le limit n) ≡ false → n + length (cond test (o ∷ []) []) ≤ limit
at_limit true n limit o le past = grind (arith, nat_tests)
at_limit false n limit o le past = omega arith

pub few_more : (limit : ℕ) (kind : List ℕ) (earlier : List Object) (o : Object) → length (of_kind kind earlier) ≤ limit → is_past limit kind earlier o ≡ false → length (of_kind kind (earlier ++ o ∷ [])) ≤ limit
few_more limit kind earlier o le past =
    rw (filter-append (is_kind kind) earlier (o ∷ []), length-append (of_kind kind earlier) (cond (is_kind kind o) (o ∷ []) []))
    (at_limit (is_kind kind o) (length (of_kind kind earlier)) limit o le (rw length-filter past))
