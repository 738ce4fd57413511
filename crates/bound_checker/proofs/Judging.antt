-- What the parts of the check put together.
use Rattle.std.proofs.Common.{◌≡◌, ℕ, ◌<◌, true, List, length, sym, subst}
use Rattle.listed.specs.Lists.{differ}
use Rattle.whole_rows.specs.Duals.{IsFirstFailing, first_failing_of}
use Rattle.whole_rows.specs.Rows.{RowsData}
use Rattle.whole_rows.specs.declared.DualVerdict.{DualVerdict}
use Rattle.whole_rows.specs.declared.DualVerdict.TheVariants as duals
use Rattle.whole_rows.proofs.Verdicts.{first_failing_holds}
use Rattle.wcet_atomic_blocks.specs.Plants.{PlantData, IsPlant}
use Rattle.abstract_sched.specs.declared.states.AbsState.{AbsState}
use Rattle.abstract_sched.specs.States.{same_state}
use Rattle.scheduler_moves.specs.Closed.{IsClosed}
use Rattle.row_build.specs.Rows.{rows_of}
use Rattle.activation_windows.specs.Bounds.{BoundsActivations, GoodMultipliersBound}
use Rattle.certificate.specs.declared.cert.Cert.{Cert}
use Rattle.certificate.specs.declared.verdict.Verdict.{Verdict}
use Rattle.bound_checker.specs.Good.{IsGood, IsVerdict}
use Rattle.bound_checker.specs.Working.Verdicts.{verdict_of, verdict_by}

-- ---- the verdict where the states are closed

by_answer : (plant : PlantData) (task : ℕ) (cert : Cert) (answer : DualVerdict) → IsClosed plant cert.states
    → IsFirstFailing (rows_of plant cert.states task) cert.multipliers cert.denominator cert.bound answer
    → IsVerdict plant task cert (verdict_of answer)
by_answer plant task cert duals.Yes closed holds = record { closed = closed; good = holds }
by_answer plant task cert (duals.Count given wanted) closed holds = record { closed = closed; fails = holds }
by_answer plant task cert (duals.Column column) closed holds = record { closed = closed; fails = holds }
by_answer plant task cert duals.Bound closed holds = record { closed = closed; fails = holds }

pub verdict_is : (plant : PlantData) (task : ℕ) (cert : Cert) (states : List AbsState) (rows : RowsData) (verdict : Verdict)
    → IsClosed plant cert.states → states ≡ cert.states → rows ≡ rows_of plant states task
    → verdict ≡ verdict_by rows cert → IsVerdict plant task cert verdict
verdict_is plant task cert states rows verdict closed states_are rows_are is =
    let own : rows ≡ rows_of plant cert.states task = subst (λ (ss : List AbsState). rows ≡ rows_of plant ss task) states_are rows_are in
    let by : verdict ≡ verdict_by (rows_of plant cert.states task) cert = subst (λ (d : RowsData). verdict ≡ verdict_by d cert) own is in
    subst (IsVerdict plant task cert) (sym by)
    (by_answer plant task cert (first_failing_of (rows_of plant cert.states task) cert.multipliers cert.denominator cert.bound) closed
    (first_failing_holds (rows_of plant cert.states task) cert.multipliers cert.denominator cert.bound))

-- ---- good certificates

pub good_bounds : GoodMultipliersBound → (plant : PlantData) (task : ℕ) (cert : Cert) → IsPlant plant
    → differ same_state cert.states ≡ true → task < length plant.system.tasks → IsGood plant task cert
    → BoundsActivations plant task cert.bound
good_bounds law plant task cert belongs once exists good =
    law plant cert.states task cert.multipliers cert.denominator cert.bound
    (record { belongs = belongs; closed = good.closed; once = once; exists = exists }) good.good
