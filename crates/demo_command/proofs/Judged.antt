-- The certificate of an optimum of a task's rows over lawful, closed states: it is lawful and good.
use Rattle.std.proofs.Common.{ℕ, List, ℤ}
use Rattle.whole_simplex.specs.Answers.{IsOptimum}
use Rattle.wcet_atomic_blocks.specs.Plants.{PlantData, IsPlant}
use Rattle.abstract_sched.specs.declared.states.AbsState.{AbsState}
use Rattle.scheduler_moves.specs.Moves.{rules_of}
use Rattle.row_build.specs.Rows.{rows_of}
use Rattle.row_laws.proofs.SmallRows.{rows_are_small}
use Rattle.certificate.specs.Lawful.{IsLawful}
use Rattle.bound_checker.specs.Good.{IsGood}
use Rattle.bound_solver.specs.Bounds.{IsWithinLimits}
use Rattle.bound_solver.proofs.TaskBounds.{bound_within}
use Rattle.bound_commands.specs.Solving.{optimum_cert}
use Rattle.bound_commands.proofs.OptimumCerts.{optimum_lawful, optimum_good}
use Rattle.demo_command.specs.Working.Ready.{IsReady}

within_limits : (plant : PlantData) (states : List AbsState) (task : ℕ) (multipliers : List ℤ) (denominator bound : ℤ) → IsPlant plant
    → IsReady plant states → IsOptimum (rows_of plant states task) multipliers denominator bound → IsWithinLimits bound
within_limits plant states task multipliers denominator bound belongs ready optimum =
    bound_within rows_are_small plant states task multipliers denominator bound belongs ready.lawful.once optimum

pub cert_lawful : (plant : PlantData) (states : List AbsState) (task : ℕ) (multipliers : List ℤ) (denominator bound : ℤ) → IsPlant plant
    → IsReady plant states → IsOptimum (rows_of plant states task) multipliers denominator bound
    → IsLawful (rules_of plant) task (optimum_cert task states multipliers denominator bound)
cert_lawful plant states task multipliers denominator bound belongs ready optimum =
    optimum_lawful (rules_of plant) task states (rows_of plant states task) multipliers denominator bound ready.lawful optimum
    (within_limits plant states task multipliers denominator bound belongs ready optimum)

pub cert_good : (plant : PlantData) (states : List AbsState) (task : ℕ) (multipliers : List ℤ) (denominator bound : ℤ) → IsPlant plant
    → IsReady plant states → IsOptimum (rows_of plant states task) multipliers denominator bound
    → IsGood plant task (optimum_cert task states multipliers denominator bound)
cert_good plant states task multipliers denominator bound belongs ready optimum =
    optimum_good plant states task multipliers denominator bound ready.closed optimum
    (within_limits plant states task multipliers denominator bound belongs ready optimum).0
