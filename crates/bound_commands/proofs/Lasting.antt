-- From what is answered of rows and of certificates to how long activations last.
use Rattle.std.proofs.Common.{◌≡◌, ℕ, ◌<◌, true, List, length, map, ℤ, pos, ◌≤ℤ◌, unsigned_abs, Ok, sym, subst, arith}
use Rattle.std.proofs.lemmas.Int.{ints}
use Rattle.listed.specs.Lists.{differ}
use Rattle.whole_rows.specs.Rows.{RowsData}
use Rattle.whole_rows.specs.Greatest.{IsGreatest}
use Rattle.whole_simplex.specs.Answers.{IsOptimum}
use Rattle.whole_simplex.specs.Outcome.{Outcome, TooLarge, Greatest, LargeMultiplier, Direction, Limit, TooWide}
use Rattle.wcet_atomic_blocks.specs.Plants.{PlantData, IsPlant}
use Rattle.abstract_sched.specs.declared.states.AbsState.{AbsState}
use Rattle.abstract_sched.specs.States.{same_state}
use Rattle.row_build.specs.Rows.{rows_of}
use Rattle.activation_windows.specs.Bounds.{BoundsActivations, AreFor}
use Rattle.activation_windows.proofs.Bounding.{good_multipliers_bound_activations, greatest_value_bounds_activations}
use Rattle.certificate.specs.declared.cert.Cert.{Cert}
use Rattle.bound_checker.specs.Good.{IsGood}
use Rattle.inputs.proofs.Analysing.{AreClosed}
use Rattle.bound_commands.specs.Solving.{Saying, AnswersOutcome}

-- ---- closed lists of states

pub closed_for : (plant : PlantData) (states : List AbsState) (task : ℕ) → IsPlant plant → task < length plant.system.tasks
    → AreClosed plant states → AreFor plant states task
closed_for plant states task belongs exists are =
    record { belongs = belongs; closed = are.closed; once = are.lawful.once; exists = exists }

-- ---- what optima and certificates bound

pub whole : (n : ℤ) → pos 0 ≤ℤ n → pos (unsigned_abs n) ≡ n
whole n above = omega (arith, ints)

pub good_bounds : (plant : PlantData) (task : ℕ) (cert : Cert) → IsPlant plant → differ same_state cert.states ≡ true
    → task < length plant.system.tasks → IsGood plant task cert → BoundsActivations plant task cert.bound
good_bounds plant task cert belongs once exists good =
    good_multipliers_bound_activations plant cert.states task cert.multipliers cert.denominator cert.bound
    (record { belongs = belongs; closed = good.closed; once = once; exists = exists }) good.good

pub optimum_bounds : (plant : PlantData) (states : List AbsState) (task : ℕ) (multipliers : List ℤ) (denominator bound : ℤ)
    → AreFor plant states task → IsOptimum (rows_of plant states task) multipliers denominator bound → pos 0 ≤ℤ bound
    → BoundsActivations plant task (unsigned_abs bound)
optimum_bounds plant states task multipliers denominator bound are optimum above =
    let same : bound ≡ pos (unsigned_abs bound) = sym (whole bound above) in
    greatest_value_bounds_activations plant states task (unsigned_abs bound) are
    (subst (λ (b : ℤ). IsGreatest (rows_of plant states task) b) same optimum.greatest)

-- ---- what is said of an outcome that is an optimum

pub record SaysOptimum (say : Saying) (full : RowsData) (text : List ℕ) : Type 0 where
  pub multipliers : List ℤ
  pub denominator : ℤ
  pub bound : ℤ
  pub optimum : IsOptimum full multipliers denominator bound
  pub told : text ≡ say (map unsigned_abs multipliers) (unsigned_abs denominator) (unsigned_abs bound)

pub optimum_said : (say : Saying) (full solved : RowsData) (limit : ℕ) (outcome : Outcome) (text : List ℕ)
    → AnswersOutcome say full solved limit outcome (Ok text) → SaysOptimum say full text
optimum_said say full solved limit (Greatest number multipliers denominator bound) text is =
    record { multipliers = multipliers; denominator = denominator; bound = bound; optimum = is.0; told = cc (is.1) }
optimum_said say full solved limit (Direction ray) text is = absurd (cc (is.1))
optimum_said say full solved limit Limit text is = absurd cc
optimum_said say full solved limit TooLarge text is = absurd cc
optimum_said say full solved limit (TooWide number pairs) text is = absurd (cc (is.3))
optimum_said say full solved limit (LargeMultiplier values) text is = absurd (cc (is.3))
