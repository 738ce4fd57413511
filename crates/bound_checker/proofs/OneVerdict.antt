-- A list of states has one first thing that fails, or none, and so a certificate has one verdict.
use Rattle.std.proofs.Common.{◌≡◌, ℕ, ◌<◌, ◌≤◌, List, Contains, Ok, Err, Some, refl, sym, ap, ◌∙◌, subst, inl, inr, ◌⊎◌, arith}
use Rattle.std.specs.Prelude.{slice_get}
use Rattle.std.proofs.lemmas.Bool.{cases_lt}
use Rattle.std.proofs.lemmas.List.Elements.{All-contains}
use Rattle.std.proofs.lemmas.Option.{same_Some, slice_get_within, get_or_from_slice_get}
use Rattle.whole_rows.specs.Duals.{IsFirstFailing}
use Rattle.whole_rows.specs.declared.DualVerdict.{DualVerdict}
use Rattle.whole_rows.specs.declared.DualVerdict.TheVariants as duals
use Rattle.whole_rows.proofs.Verdicts.{first_failing_is}
use Rattle.wcet_atomic_blocks.specs.Plants.{PlantData}
use Rattle.abstract_sched.specs.declared.states.AbsState.{AbsState}
use Rattle.scheduler_moves.specs.Closed.{AreListed, MovesStay, HoldsBefore, IsClosed, LacksInitial, HasMisuse, LacksMove, IsClosure}
use Rattle.scheduler_moves.specs.Moves.{successors}
use Rattle.scheduler_moves.specs.declared.closure.Closure.{Closure}
use Rattle.scheduler_moves.specs.declared.closure.Closure.TheVariants as closures
use Rattle.scheduler_moves.specs.declared.moves.Misuse.{Misuse}
use Rattle.scheduler_moves.specs.declared.moves.Move.{Move}
use Rattle.row_build.specs.Rows.{rows_of}
use Rattle.certificate.specs.declared.cert.Cert.{Cert}
use Rattle.certificate.specs.declared.verdict.Verdict.{Verdict}
use Rattle.certificate.specs.declared.verdict.Verdict.TheVariants.{Yes, No}
use Rattle.certificate.specs.declared.verdict.Why.TheVariants.{MissingInitial, Missing, Misuse as MisuseAt, Count, Column, Bound}
use Rattle.bound_checker.specs.Good.{IsVerdict}
use Rattle.bound_checker.specs.Working.Verdicts.{verdict_of}

contains-at : {A : Type 0} (xs : List A) (i : ℕ) (x : A) → slice_get xs i ≡ Some x → Contains xs x
contains-at xs i x there = (i, slice_get_within xs i x there, get_or_from_slice_get xs i x x there)

-- two places, neither of which comes before the other
one_place : (a b : ℕ) → (a < b → ⊥) → (b < a → ⊥) → a ≡ b
one_place a b not_before not_after = by_order (cases_lt a b) (cases_lt b a)
  where
    by_order : (a < b) ⊎ (b ≤ a) → (b < a) ⊎ (a ≤ b) → a ≡ b
    by_order (inl before) other = absurd (not_before before)
    by_order (inr least) (inl after) = absurd (not_after after)
    by_order (inr least) (inr most) = omega arith

-- ---- the state at which something fails

record FailsAt (plant : PlantData) (states : List AbsState) (number : ℕ) : Type 0 where
  state : AbsState
  there : slice_get states number ≡ Some state
  strays : MovesStay plant states state → ⊥
  before : HoldsBefore plant states number

misused_at : (plant : PlantData) (states : List AbsState) (number code : ℕ) → HasMisuse plant states number code → FailsAt plant states number
misused_at plant states number code has = record {
  state = has.state;
  there = has.there;
  strays = λ stay. subst (AreListed states) has.misused stay;
  before = has.before;
}

lacking_at : (plant : PlantData) (states : List AbsState) (number transition : ℕ)
    → LacksMove plant states number transition → FailsAt plant states number
lacking_at plant states number transition has = record {
  state = has.state;
  there = has.there;
  strays = λ stay. has.lacks (All-contains (λ move. Contains states move.to) has.moves has.move (subst (AreListed states) has.moved stay)
      (contains-at has.moves transition has.move has.at));
  before = has.before;
}

never_closed : (plant : PlantData) (states : List AbsState) (number : ℕ) → IsClosed plant states → FailsAt plant states number → ⊥
never_closed plant states number closed fails =
    fails.strays (closed.stays fails.state (contains-at states number fails.state fails.there))

one_number : (plant : PlantData) (states : List AbsState) (a b : ℕ) → FailsAt plant states a → FailsAt plant states b → a ≡ b
one_number plant states a b at_a at_b =
    one_place a b (λ before. at_a.strays (at_b.before.stays a at_a.state before at_a.there)) (λ after. at_b.strays (at_a.before.stays b at_b.state after at_b.there))

one_state : (states : List AbsState) (a b : ℕ) (x y : AbsState) → a ≡ b → slice_get states a ≡ Some x → slice_get states b ≡ Some y → x ≡ y
one_state states a b x y same at_a at_b = same_Some x y (sym at_a ∙ ap (slice_get states) same ∙ at_b)

-- ---- each two

one_mode : (plant : PlantData) (states : List AbsState) (a b : ℕ) → LacksInitial plant states a → LacksInitial plant states b → a ≡ b
one_mode plant states a b at_a at_b =
    one_place a b (λ before. at_a.lacks (at_b.before a before)) (λ after. at_b.lacks (at_a.before b after))

one_code : (plant : PlantData) (states : List AbsState) (a b code other : ℕ) → a ≡ b → HasMisuse plant states a code
    → HasMisuse plant states b other → code ≡ other
one_code plant states a b code other same at_a at_b =
    let state = one_state states a b at_a.state at_b.state same at_a.there at_b.there in
    let twice : Err at_a.misuse ≡ Err at_b.misuse = sym at_a.misused ∙ ap (successors plant) state ∙ at_b.misused in
    let misuse : at_a.misuse ≡ at_b.misuse = cc in
    sym at_a.code_is ∙ ap (λ (m : Misuse). m.code) misuse ∙ at_b.code_is

no_moves : (plant : PlantData) (states : List AbsState) (a b code transition : ℕ) → a ≡ b
    → HasMisuse plant states a code → LacksMove plant states b transition → ⊥
no_moves plant states a b code transition same at_a at_b =
    let state = one_state states a b at_a.state at_b.state same at_a.there at_b.there in
    let both : Err at_a.misuse ≡ Ok at_b.moves = sym at_a.misused ∙ ap (successors plant) state ∙ at_b.moved in
    cc

one_transition : (plant : PlantData) (states : List AbsState) (a b transition other : ℕ) → a ≡ b
    → LacksMove plant states a transition → LacksMove plant states b other → transition ≡ other
one_transition plant states a b transition other same at_a at_b =
    let state = one_state states a b at_a.state at_b.state same at_a.there at_b.there in
    let twice : Ok at_a.moves ≡ Ok at_b.moves = sym at_a.moved ∙ ap (successors plant) state ∙ at_b.moved in
    let moves : at_a.moves ≡ at_b.moves = cc in
    let from_a = subst (λ (ms : List Move). slice_get ms transition ≡ Some at_a.move) moves at_a.at in
    let from_b = subst (λ (ms : List Move). slice_get ms other ≡ Some at_b.move) (sym moves) at_b.at in
    one_place transition other (λ before. at_a.lacks (at_b.first transition at_a.move before from_a))
    (λ after. at_b.lacks (at_a.first other at_b.move after from_b))

-- ---- one closure

one_closure : (plant : PlantData) (states : List AbsState) (a b : Closure) → IsClosure plant states a → IsClosure plant states b → a ≡ b
one_closure plant states closures.Yes closures.Yes h k = refl
one_closure plant states closures.Yes (closures.MissingInitial mode) h k = absurd (k.lacks (h.starts mode k.exists))
one_closure plant states closures.Yes (closures.Misuse number code) h k =
    absurd (never_closed plant states number h (misused_at plant states number code k))
one_closure plant states closures.Yes (closures.Missing number transition) h k =
    absurd (never_closed plant states number h (lacking_at plant states number transition k))
one_closure plant states (closures.MissingInitial mode) closures.Yes h k = absurd (h.lacks (k.starts mode h.exists))
one_closure plant states (closures.MissingInitial mode) (closures.MissingInitial other) h k =
    ap (λ (m : ℕ). closures.MissingInitial m) (one_mode plant states mode other h k)
one_closure plant states (closures.MissingInitial mode) (closures.Misuse number code) h k = absurd (h.lacks (k.before.starts mode h.exists))
one_closure plant states (closures.MissingInitial mode) (closures.Missing number transition) h k = absurd (h.lacks (k.before.starts mode h.exists))
one_closure plant states (closures.Misuse number code) closures.Yes h k =
    absurd (never_closed plant states number k (misused_at plant states number code h))
one_closure plant states (closures.Misuse number code) (closures.MissingInitial mode) h k = absurd (k.lacks (h.before.starts mode k.exists))
one_closure plant states (closures.Misuse number code) (closures.Misuse again other) h k =
    let same = one_number plant states number again (misused_at plant states number code h) (misused_at plant states again other k) in
    let codes = one_code plant states number again code other same h k in
    cc
one_closure plant states (closures.Misuse number code) (closures.Missing again transition) h k =
    let same = one_number plant states number again (misused_at plant states number code h) (lacking_at plant states again transition k) in
    absurd (no_moves plant states number again code transition same h k)
one_closure plant states (closures.Missing number transition) closures.Yes h k =
    absurd (never_closed plant states number k (lacking_at plant states number transition h))
one_closure plant states (closures.Missing number transition) (closures.MissingInitial mode) h k = absurd (k.lacks (h.before.starts mode k.exists))
one_closure plant states (closures.Missing number transition) (closures.Misuse again code) h k =
    let same = one_number plant states again number (misused_at plant states again code k) (lacking_at plant states number transition h) in
    absurd (no_moves plant states again number code transition same k h)
one_closure plant states (closures.Missing number transition) (closures.Missing again other) h k =
    let same = one_number plant states number again (lacking_at plant states number transition h) (lacking_at plant states again other k) in
    let transitions = one_transition plant states number again transition other same h k in
    cc

-- ---- one verdict: by its closure, and by what fails of the multipliers where that is Yes

abbrev closure_in : Verdict → Closure
closure_in Yes = closures.Yes
closure_in (No (MissingInitial mode)) = closures.MissingInitial mode
closure_in (No (Missing state transition)) = closures.Missing state transition
closure_in (No (MisuseAt state code)) = closures.Misuse state code
closure_in (No (Count given wanted)) = closures.Yes
closure_in (No (Column column)) = closures.Yes
closure_in (No Bound) = closures.Yes

abbrev answer_in : Verdict → DualVerdict
answer_in (No (Count given wanted)) = duals.Count given wanted
answer_in (No (Column column)) = duals.Column column
answer_in (No Bound) = duals.Bound
answer_in verdict = duals.Yes

abbrev verdict_by_parts : Closure → DualVerdict → Verdict
verdict_by_parts closures.Yes answer = verdict_of answer
verdict_by_parts (closures.MissingInitial mode) answer = No (MissingInitial mode)
verdict_by_parts (closures.Missing state transition) answer = No (Missing state transition)
verdict_by_parts (closures.Misuse state code) answer = No (MisuseAt state code)

by_parts : (verdict : Verdict) → verdict_by_parts (closure_in verdict) (answer_in verdict) ≡ verdict
by_parts Yes = refl
by_parts (No (MissingInitial mode)) = refl
by_parts (No (Missing state transition)) = refl
by_parts (No (MisuseAt state code)) = refl
by_parts (No (Count given wanted)) = refl
by_parts (No (Column column)) = refl
by_parts (No Bound) = refl

is_closure : (plant : PlantData) (task : ℕ) (cert : Cert) (verdict : Verdict) → IsVerdict plant task cert verdict
    → IsClosure plant cert.states (closure_in verdict)
is_closure plant task cert Yes is = is.closed
is_closure plant task cert (No (MissingInitial mode)) is = is
is_closure plant task cert (No (Missing state transition)) is = is
is_closure plant task cert (No (MisuseAt state code)) is = is
is_closure plant task cert (No (Count given wanted)) is = is.closed
is_closure plant task cert (No (Column column)) is = is.closed
is_closure plant task cert (No Bound) is = is.closed

is_answer : (plant : PlantData) (task : ℕ) (cert : Cert) (verdict : Verdict) → closure_in verdict ≡ closures.Yes
    → IsVerdict plant task cert verdict
    → IsFirstFailing (rows_of plant cert.states task) cert.multipliers cert.denominator cert.bound (answer_in verdict)
is_answer plant task cert Yes is_yes is = is.good
is_answer plant task cert (No (MissingInitial mode)) is_yes is = absurd cc
is_answer plant task cert (No (Missing state transition)) is_yes is = absurd cc
is_answer plant task cert (No (MisuseAt state code)) is_yes is = absurd cc
is_answer plant task cert (No (Count given wanted)) is_yes is = is.fails
is_answer plant task cert (No (Column column)) is_yes is = is.fails
is_answer plant task cert (No Bound) is_yes is = is.fails

same_parts : (closure : Closure) (a b : DualVerdict) → (closure ≡ closures.Yes → a ≡ b) → verdict_by_parts closure a ≡ verdict_by_parts closure b
same_parts closures.Yes a b same = ap verdict_of (same refl)
same_parts (closures.MissingInitial mode) a b same = refl
same_parts (closures.Missing state transition) a b same = refl
same_parts (closures.Misuse state code) a b same = refl

pub one_verdict : (plant : PlantData) (task : ℕ) (cert : Cert) (one other : Verdict) → IsVerdict plant task cert one
    → IsVerdict plant task cert other → one ≡ other
one_verdict plant task cert one other is also =
    let rows = rows_of plant cert.states task in
    let closure = one_closure plant cert.states (closure_in one) (closure_in other) (is_closure plant task cert one is) (is_closure plant task cert other also) in
    let answers : closure_in one ≡ closures.Yes → answer_in one ≡ answer_in other = λ is_yes.
    sym (first_failing_is rows cert.multipliers cert.denominator cert.bound (answer_in one) (is_answer plant task cert one is_yes is))
    ∙ first_failing_is rows cert.multipliers cert.denominator cert.bound (answer_in other) (is_answer plant task cert other (sym closure ∙ is_yes) also) in
    sym (by_parts one) ∙ same_parts (closure_in one) (answer_in one) (answer_in other) answers
    ∙ ap (λ (c : Closure). verdict_by_parts c (answer_in other)) closure ∙ by_parts other
