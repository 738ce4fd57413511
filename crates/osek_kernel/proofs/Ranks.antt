-- The order of ranks: total up to ties, and better with each part.
use Rattle.std.proofs.Common.{◌≡◌, ℕ, ◌≤◌, Bool, true, false, refl, sym, ◌∙◌, ap, arith}
use Rattle.std.proofs.lemmas.Bool.{both_ways}
use Rattle.std.proofs.lemmas.Bool.Decides.{nat_tests}
use Rattle.osek_kernel.specs.declared.running.Rank.{Rank}
use Rattle.osek_kernel.specs.Running.{goes_before}

abbrev rank : ℕ → Bool → ℕ → Rank
rank c r o = record { current = c; raised = r; own = o }

irreflexive-of : (c : ℕ) (r : Bool) (o : ℕ) → goes_before (rank c r o) (rank c r o) ≡ false
irreflexive-of c true o = grind (arith, nat_tests)
irreflexive-of c false o = grind (arith, nat_tests)

pub irreflexive : (a : Rank) → goes_before a a ≡ false
irreflexive a = irreflexive-of a.current a.raised a.own

-- what goes before one that another doesn't goes before that other one
passes-of : (ca : ℕ) (ra : Bool) (oa cb : ℕ) (rb : Bool) (ob cc : ℕ) (rc : Bool) (oc : ℕ) → goes_before (rank ca ra oa) (rank cb rb ob) ≡ true → goes_before (rank cc rc oc) (rank cb rb ob) ≡ false → goes_before (rank ca ra oa) (rank cc rc oc) ≡ true
passes-of ca true oa cb true ob cc true oc h k = grind (arith, nat_tests)
passes-of ca true oa cb true ob cc false oc h k = grind (arith, nat_tests)
passes-of ca true oa cb false ob cc true oc h k = grind (arith, nat_tests)
passes-of ca true oa cb false ob cc false oc h k = grind (arith, nat_tests)
passes-of ca false oa cb true ob cc true oc h k = grind (arith, nat_tests)
passes-of ca false oa cb true ob cc false oc h k = grind (arith, nat_tests)
passes-of ca false oa cb false ob cc true oc h k = grind (arith, nat_tests)
passes-of ca false oa cb false ob cc false oc h k = grind (arith, nat_tests)

pub passes : (a b c : Rank) → goes_before a b ≡ true → goes_before c b ≡ false → goes_before a c ≡ true
passes a b c = passes-of a.current a.raised a.own b.current b.raised b.own c.current c.raised c.own

asymmetric-of : (ca : ℕ) (ra : Bool) (oa cb : ℕ) (rb : Bool) (ob : ℕ) → goes_before (rank ca ra oa) (rank cb rb ob) ≡ true → goes_before (rank cb rb ob) (rank ca ra oa) ≡ false
asymmetric-of ca true oa cb true ob h = grind (arith, nat_tests)
asymmetric-of ca true oa cb false ob h = grind (arith, nat_tests)
asymmetric-of ca false oa cb true ob h = grind (arith, nat_tests)
asymmetric-of ca false oa cb false ob h = grind (arith, nat_tests)

pub asymmetric : (a b : Rank) → goes_before a b ≡ true → goes_before b a ≡ false
asymmetric a b = asymmetric-of a.current a.raised a.own b.current b.raised b.own

holds_unless : (t : Bool) → (t ≡ false → ⊥) → t ≡ true
holds_unless true f = refl
holds_unless false f = absurd (f refl)

-- a rank that is better in some parts, and in no part worse
pub record IsRaised (a b : Rank) : Type 0 where
  pub current : a.current ≤ b.current
  pub raised : a.raised ≡ true → b.raised ≡ true
  pub own : a.own ≡ b.own

better-of : (ca : ℕ) (ra : Bool) (o cb : ℕ) (rb : Bool) (cx : ℕ) (rx : Bool) (ox : ℕ) → ca ≤ cb → (ra ≡ true → rb ≡ true) → goes_before (rank cx rx ox) (rank ca ra o) ≡ false → goes_before (rank cx rx ox) (rank cb rb o) ≡ false
better-of ca true o cb true cx true ox l m h = grind (arith, nat_tests)
better-of ca true o cb true cx false ox l m h = grind (arith, nat_tests)
better-of ca true o cb false cx rx ox l m h = cc (m refl)
better-of ca false o cb true cx true ox l m h = grind (arith, nat_tests)
better-of ca false o cb true cx false ox l m h = grind (arith, nat_tests)
better-of ca false o cb false cx true ox l m h = grind (arith, nat_tests)
better-of ca false o cb false cx false ox l m h = grind (arith, nat_tests)

-- what doesn't go before the one doesn't go before the better one
pub better : (a b x : Rank) → IsRaised a b → goes_before x a ≡ false → goes_before x b ≡ false
better a b x up h =
    let along : goes_before x (rank b.current b.raised a.own) ≡ false = better-of a.current a.raised a.own b.current b.raised x.current x.raised x.own up.current up.raised h in
    ap (λ o. goes_before x (rank b.current b.raised o)) (sym up.own) ∙ along

-- and what the one goes before the better one goes before too
pub passes_on : (a b x : Rank) → IsRaised a b → goes_before a x ≡ true → goes_before b x ≡ true
passes_on a b x up h = holds_unless (goes_before b x) (λ e. both_ways (goes_before a b) (better a b a up (irreflexive a)) (passes a x b h e))
