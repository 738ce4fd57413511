-- The least of kinds of fault.
use Rattle.std.proofs.Common.{◌≡◌, ℕ, Bool, true, false, cond, Option, Some, None, refl, sym, ◌∙◌, arith}
use Rattle.std.specs.Prelude.{nat_le}
use Rattle.std.proofs.lemmas.Bool.Decides.{nat_tests}
use Rattle.oil_model.specs.declared.fault.ModelKind.{ModelKind}
use Rattle.oil_model.specs.Rules.{rank_of, least}

pub least-none : (a : Option ModelKind) → least a None ≡ a
least-none None = refl
least-none (Some a) = refl

-- of three with these ranks
of_three : (a b c : Option ModelKind) (l m n : ℕ) → cond (nat_le l m) (cond (nat_le l n) a c) (cond (nat_le m n) b c) ≡ cond (nat_le m n) (cond (nat_le l m) a b) (cond (nat_le l n) a c)
of_three a b c l m n = grind (arith, nat_tests)

of_either : (test : Bool) (a b c : ModelKind) → least (cond test (Some a) (Some b)) (Some c) ≡ cond test (least (Some a) (Some c)) (least (Some b) (Some c))
of_either true a b c = refl
of_either false a b c = refl

with_either : (test : Bool) (a b c : ModelKind) → least (Some a) (cond test (Some b) (Some c)) ≡ cond test (least (Some a) (Some b)) (least (Some a) (Some c))
with_either true a b c = refl
with_either false a b c = refl

pub least_assoc : (a b c : Option ModelKind) → least (least a b) c ≡ least a (least b c)
least_assoc None b c = refl
least_assoc (Some a) None c = refl
least_assoc (Some a) (Some b) None = least-none (least (Some a) (Some b))
least_assoc (Some a) (Some b) (Some c) =
    of_either (nat_le (rank_of a) (rank_of b)) a b c
    ∙ (of_three (Some a) (Some b) (Some c) (rank_of a) (rank_of b) (rank_of c)
    ∙ sym (with_either (nat_le (rank_of b) (rank_of c)) a b c))
