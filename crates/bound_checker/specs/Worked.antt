-- A certificate for the task that an alarm's task preempts: its bound is the least that these multipliers are good for.
use Rattle.std.specs.Prelude.{ℕ, List, [], ◌∷◌, take}
use Rattle.abstract_sched.specs.declared.states.AbsState.{AbsState}
use Rattle.certificate.specs.declared.cert.Cert.{Cert}
use Rattle.certificate.specs.declared.verdict.Verdict.TheVariants.{Yes, No}
use Rattle.certificate.specs.declared.verdict.Why.TheVariants.{Missing, Bound}
use Rattle.activation_windows.specs.Samples.Preempted.{plant, states}
use Rattle.bound_checker.specs.Good.{IsVerdict}

abbrev pub multipliers : List ℕ
multipliers = 5750 ∷ 5000 ∷ 10000 ∷ 750 ∷ 500 ∷ 250 ∷ 0 ∷ 500 ∷ 250 ∷ 0 ∷ 750 ∷ 0 ∷ 0 ∷ 500 ∷ 0 ∷ 13 ∷ []

-- with this bound, over these states
abbrev pub sample : ℕ → List AbsState → Cert
sample bound listed = record { task = 0; bound = bound; denominator = 237; states = listed; multipliers = multipliers }

-- The bound is 133 cycles. A bound of one cycle less isn't shown, and the last state can't be left out: the alarm leads
-- from the third one to it.
pub record SampleIsJudged : Type 0 where
  pub good : IsVerdict plant 0 (sample 133 states) Yes
  pub one_cycle_less : IsVerdict plant 0 (sample 132 states) (No Bound)
  pub one_state_less : IsVerdict plant 0 (sample 133 (take 3 states)) (No (Missing 2 0))
