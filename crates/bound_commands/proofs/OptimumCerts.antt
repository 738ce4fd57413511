-- Certificates of optima: they are lawful and good, and where they are written their member `bound` is the text of their bound.
use Rattle.std.proofs.Common.{◌≡◌, ℕ, ◌+◌, ◌*◌, ◌^◌, ◌<◌, Bool, true, false, cond, List, map, ℤ, pos, negsuc, ◌+ℤ◌, ◌*ℤ◌, ◌≤ℤ◌, ◌<ℤ◌, unsigned_abs, Some, Result, Ok, Err, inl, inr, refl, ap, ◌∙◌, subst, arith, eqb}
use Rattle.std.proofs.lemmas.Int.{ints}
use Rattle.std.specs.Prelude.{IfOk, IsUtf8, bytes_eq, codes, ok_or, option_and_then}
use Rattle.std.proofs.lemmas.List.{length-map}
use Rattle.std.proofs.lemmas.List.Elements.{recursion_from_All, All-map, All-weaker}
use Rattle.std.proofs.lemmas.Option.{same_Some}
use Rattle.serde_json.specs.Data.{Data}
use Rattle.listed.specs.Faults.{told_as}
use Rattle.listed.specs.Lists.{all_of}
use Rattle.listed.proofs.Answered.{IfOk-step}
use Rattle.json_fields.specs.Files.{IsGiven}
use Rattle.json_fields.specs.Numbers.{digits_below}
use Rattle.json_fields.specs.Objects.{text_at, list_at, has_exactly}
use Rattle.json_fields.proofs.Laws.{IfOk-ok_or, IfOk-test, bind_some, passed}
use Rattle.whole_rows.specs.Rows.{RowsData, right_sum}
use Rattle.whole_simplex.specs.Answers.{IsSmall, IsOptimum}
use Rattle.wcet_atomic_blocks.specs.Plants.{PlantData}
use Rattle.abstract_sched.specs.declared.rules.StateRules.{StateRules}
use Rattle.abstract_sched.specs.declared.states.AbsState.{AbsState}
use Rattle.abstract_sched.specs.Fits.{AreLawful}
use Rattle.scheduler_moves.specs.Closed.{IsClosed}
use Rattle.row_build.specs.Rows.{rows_of}
use Rattle.certificate.specs.declared.cert.Cert.{Cert}
use Rattle.certificate.specs.declared.fault.CertKind.TheVariants as cert_kinds
use Rattle.certificate.specs.Certificate.{multiplier_in, cert_numbers, cert_in}
use Rattle.certificate.specs.Form.{CertParts, cert_parts, keys, have_form}
use Rattle.certificate.specs.Lawful.{IsLawful}
use Rattle.certificate.specs.States.{states_of}
use Rattle.certificate.specs.Writing.{cert_text}
use Rattle.bound_commands.proofs.CertTexts.{cert_again}
use Rattle.bound_checker.specs.Good.{IsGood}
use Rattle.bound_solver.specs.Bounds.{IsWithinLimits}
use Rattle.bound_commands.specs.Bounded.{HasBound}
use Rattle.bound_commands.specs.Solving.{optimum_cert}

-- ---- the bound of a certificate that is read

parts_bound : (d : Data) (parts : CertParts) → cert_parts d ≡ Some parts → text_at (codes "bound") d ≡ Some parts.bound
unfolding cert_parts
parts_bound d parts is =
    let whole = passed (has_exactly keys d) _ parts is in
    let bound = bind_some (text_at (codes "bound") d) _ parts whole.1 in
    let denominator = bind_some (text_at (codes "denominator") d) _ parts bound.2 in
    let multipliers = bind_some (list_at (codes "multipliers") d) _ parts denominator.2 in
    let states = bind_some (list_at (codes "states") d) _ parts multipliers.2 in
    let task = bind_some (text_at (codes "task") d) _ parts states.2 in
    let made : CertParts = record { bound = bound.0; denominator = denominator.0; multipliers = multipliers.0; states = states.0; task = task.0 } in
    let formed = passed (have_form made) (Some made) parts task.2 in
    bound.1 ∙ ap Some (ap (λ (p : CertParts). p.bound) (same_Some made parts formed.1))

always : {A K : Type 0} (r : Result A K) → IfOk r (λ x. Unit {0})
always (Ok x) = tt
always (Err kind) = tt

-- the same where a test lets it pass
let_pass : {A K : Type 0} (P : A → Type 0) (test : Bool) (x : A) (kind : K) → P x → IfOk (cond test (Err kind) (Ok x)) P
let_pass P true x kind holds = tt
let_pass P false x kind holds = holds

numbers_bound : (parts : CertParts) → IfOk (cert_numbers parts) (λ numbers. digits_below (2 ^ 120) parts.bound ≡ Some numbers.bound)
unfolding cert_numbers
numbers_bound parts =
    IfOk-step (λ bound. digits_below (2 ^ 120) parts.bound ≡ Some bound) _ (ok_or (digits_below (2 ^ 120) parts.bound) cert_kinds.Range) _
    (IfOk-ok_or _ _ _ (λ _ is. is)) (λ bound is.
    IfOk-step (λ _. Unit {0}) _ (ok_or (digits_below (2 ^ 80) parts.denominator) cert_kinds.Range) _ (always _) (λ denominator _.
    IfOk-step (λ _. Unit {0}) _ (all_of multiplier_in parts.multipliers) _ (always _) (λ multipliers _.
    let_pass _ (eqb denominator 0) _ _ is)))

cert_bound : (rules : StateRules) (task : ℕ) (name : List ℕ) (d : Data)
    → IfOk (cert_in rules task name d) (λ cert. option_and_then (digits_below (2 ^ 120)) (text_at (codes "bound") d) ≡ Some cert.bound)
cert_bound rules task name d =
    let Q : Cert → Type 0 = λ cert. option_and_then (digits_below (2 ^ 120)) (text_at (codes "bound") d) ≡ Some cert.bound in
    IfOk-step (λ parts. text_at (codes "bound") d ≡ Some parts.bound) Q (ok_or (cert_parts d) cert_kinds.Shape) _
    (IfOk-ok_or _ _ _ (parts_bound d)) (λ parts there.
    IfOk-step (λ numbers. digits_below (2 ^ 120) parts.bound ≡ Some numbers.bound) Q (cert_numbers parts) _ (numbers_bound parts) (λ numbers is.
    IfOk-step (λ _. Unit {0}) Q (told_as cert_kinds.State (states_of rules parts.states)) _ (always _) (λ states _.
    IfOk-test Q (bytes_eq parts.task name) _ _ (λ _. ap (option_and_then (digits_below (2 ^ 120))) there ∙ is))))

-- ---- a certificate that is written

pub has_bound : (rules : StateRules) (task : ℕ) (name : List ℕ) (cert : Cert) → IsUtf8 name → IsLawful rules task cert
    → HasBound (cert_text name cert) cert.bound
has_bound rules task name cert text lawful = given_bound (cert_again rules task name cert text lawful)
  where
    given_bound : IsGiven cert_kinds.Json (cert_in rules task name) (cert_text name cert) (Ok cert) → HasBound (cert_text name cert) cert.bound
    given_bound (inl given) = record {
      value = given.0;
      is_value = given.1;
      member = subst
          (λ (r : Result Cert _). IfOk r (λ c. option_and_then (digits_below (2 ^ 120)) (text_at (codes "bound") given.0) ≡ Some c.bound))
          given.2 (cert_bound rules task name given.0);
    }
    given_bound (inr none) = absurd (cc (none.1))

-- ---- the certificate of an optimum

small_bound : (bound : ℤ) → IsWithinLimits bound → unsigned_abs bound < 2 ^ 120
small_bound (pos n) within = let below = within.1 in omega (arith, ints)
small_bound (negsuc n) within = let above = within.0 in absurd (omega (arith, ints))

small_size : (n : ℤ) → IsSmall n → unsigned_abs n < 2 ^ 80
small_size (pos n) small = let below = small.1 in omega (arith, ints)
small_size (negsuc n) small = let above = small.0 in absurd (omega (arith, ints))

above_nothing : (n : ℤ) → pos 0 <ℤ n → 0 < unsigned_abs n
above_nothing (pos n) above = omega (arith, ints)
above_nothing (negsuc n) above = absurd (omega (arith, ints))

pub optimum_lawful : (rules : StateRules) (task : ℕ) (states : List AbsState) (d : RowsData) (multipliers : List ℤ) (denominator bound : ℤ)
    → AreLawful rules states → IsOptimum d multipliers denominator bound → IsWithinLimits bound
    → IsLawful rules task (optimum_cert task states multipliers denominator bound)
optimum_lawful rules task states d multipliers denominator bound lawful optimum within = record {
  for_task = refl;
  bound = small_bound bound within;
  denominator = (above_nothing denominator optimum.denominator_above, small_size denominator optimum.denominator_small);
  multipliers = recursion_from_All (λ m. m < 2 ^ 80) (map unsigned_abs multipliers)
      (All-map (λ m. m < 2 ^ 80) unsigned_abs multipliers
      (All-weaker IsSmall (λ m. unsigned_abs m < 2 ^ 80) small_size multipliers optimum.multipliers_small));
  states = lawful;
}

-- what stays below the next multiple of a denominator above 0 does so in natural numbers too
stays_below : (sum denominator bound : ℤ) → pos 0 <ℤ denominator → pos 0 ≤ℤ bound → sum <ℤ (denominator *ℤ (bound +ℤ pos 1))
    → sum <ℤ pos (unsigned_abs denominator * (unsigned_abs bound + 1))
stays_below sum (pos d) (pos b) above not_negative below = below
stays_below sum (pos d) (negsuc b) above not_negative below = absurd (omega (arith, ints, not_negative))
stays_below sum (negsuc d) bound above not_negative below = absurd (omega (arith, ints, above))

pub optimum_good : (plant : PlantData) (states : List AbsState) (task : ℕ) (multipliers : List ℤ) (denominator bound : ℤ) → IsClosed plant states
    → IsOptimum (rows_of plant states task) multipliers denominator bound → pos 0 ≤ℤ bound
    → IsGood plant task (optimum_cert task states multipliers denominator bound)
optimum_good plant states task multipliers denominator bound closed optimum not_negative = record {
  closed = closed;
  good = record {
    counted = length-map multipliers unsigned_abs ∙ optimum.counted;
    covers = optimum.covers;
    below = stays_below (right_sum (rows_of plant states task) (map unsigned_abs multipliers)) denominator bound optimum.denominator_above not_negative
        optimum.below;
  };
}
