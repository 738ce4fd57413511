-- What is said of the optimum of a task's rows: its bound bounds the task.
use Rattle.std.proofs.Common.{◌≡◌, ℕ, List, unsigned_abs, sym, subst}
use Rattle.std.specs.Prelude.{IsUtf8}
use Rattle.wcet_atomic_blocks.specs.Plants.{PlantData}
use Rattle.abstract_sched.specs.declared.states.AbsState.{AbsState}
use Rattle.scheduler_moves.specs.Moves.{rules_of}
use Rattle.row_build.specs.Rows.{rows_of}
use Rattle.row_laws.proofs.SmallRows.{rows_are_small}
use Rattle.activation_windows.specs.Bounds.{BoundsActivations, AreFor}
use Rattle.certificate.specs.declared.cert.Cert.{Cert}
use Rattle.certificate.specs.Lawful.{IsLawful}
use Rattle.bound_solver.specs.Bounds.{IsWithinLimits}
use Rattle.bound_solver.proofs.TaskBounds.{bound_within}
use Rattle.reports.specs.Solved.{bound_text}
use Rattle.bound_commands.specs.Bounded.{HasBound}
use Rattle.bound_commands.specs.Solving.{telling, bound_saying, optimum_cert, cert_saying}
use Rattle.inputs.proofs.Analysing.{AreClosed}
use Rattle.bound_commands.proofs.OptimumCerts.{optimum_lawful, has_bound}
use Rattle.bound_commands.proofs.Lasting.{SaysOptimum, optimum_bounds}

-- where only the bound is told
pub told_bounds : (plant : PlantData) (states : List AbsState) (task : ℕ) (tell : ℕ → List ℕ) (text : List ℕ) → AreFor plant states task
    → SaysOptimum (telling tell) (rows_of plant states task) text
    → (bound : ℕ) × (text ≡ tell bound) × BoundsActivations plant task bound
told_bounds plant states task tell text are says =
    let within = bound_within rows_are_small plant states task says.multipliers says.denominator says.bound are.belongs are.once says.optimum in (
      unsigned_abs says.bound,
      says.told,
      optimum_bounds plant states task says.multipliers says.denominator says.bound are says.optimum within.0,
    )

-- as `TASK N`
pub said_bounds : (plant : PlantData) (states : List AbsState) (task : ℕ) (name text : List ℕ) → AreFor plant states task
    → SaysOptimum (bound_saying name) (rows_of plant states task) text
    → (bound : ℕ) × (text ≡ bound_text name bound) × BoundsActivations plant task bound
said_bounds plant states task name text are says = told_bounds plant states task (bound_text name) text are says

-- as a certificate
pub said_certified : (plant : PlantData) (states : List AbsState) (task : ℕ) (name text : List ℕ) → IsUtf8 name → AreClosed plant states
    → AreFor plant states task → SaysOptimum (cert_saying name task states) (rows_of plant states task) text
    → (bound : ℕ) × HasBound text bound × BoundsActivations plant task bound
said_certified plant states task name text is_text closed are says =
    let within : IsWithinLimits says.bound =
    bound_within rows_are_small plant states task says.multipliers says.denominator says.bound are.belongs are.once says.optimum in
    let cert : Cert = optimum_cert task states says.multipliers says.denominator says.bound in
    let lawful : IsLawful (rules_of plant) task cert =
    optimum_lawful (rules_of plant) task states (rows_of plant states task) says.multipliers says.denominator says.bound closed.lawful says.optimum within in (
      unsigned_abs says.bound,
      subst (λ (t : List ℕ). HasBound t (unsigned_abs says.bound)) (sym says.told) (has_bound (rules_of plant) task name cert is_text lawful),
      optimum_bounds plant states task says.multipliers says.denominator says.bound are says.optimum within.0,
    )
