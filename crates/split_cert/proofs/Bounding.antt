-- What a good tree over the rows of a task bounds.
use Rattle.std.proofs.Common.{◌≡◌, ℕ, ◌-◌, ◌<◌, ◌≤◌, true, length, ℤ, pos, ◌≤ℤ◌, sym, subst, arith}
use Rattle.std.proofs.lemmas.Int.{ints}
use Rattle.listed.specs.Lists.{differ}
use Rattle.whole_rows.specs.Rows.{cost_of}
use Rattle.osek_machine.specs.Events.{duration}
use Rattle.wcet_atomic_blocks.specs.Plants.{PlantData, IsPlant}
use Rattle.abstract_sched.specs.States.{same_state}
use Rattle.row_build.specs.Rows.{rows_of}
use Rattle.activation_windows.specs.Bounds.{AreFor, BoundsActivations, UsesArePoints}
use Rattle.activation_windows.proofs.Bounding.{has_window}
use Rattle.activation_windows.proofs.Points.{rows_are_shaped, counts_fit}
use Rattle.split_trees.specs.Laws.{GoodTreesBound}
use Rattle.split_cert.specs.declared.cert.SplitCert.{SplitCert}
use Rattle.split_cert.specs.Good.{IsGoodSplit}

at_most_of : (m n : ℕ) (cost : ℤ) → pos m ≤ℤ cost → cost ≤ℤ pos n → m ≤ n
at_most_of m n cost below above = omega (arith, ints)

pub good_splits_bound : UsesArePoints → GoodTreesBound → (plant : PlantData) (task : ℕ) (cert : SplitCert) → IsPlant plant
    → differ same_state cert.states ≡ true → task < length plant.system.tasks → IsGoodSplit plant task cert
    → BoundsActivations plant task cert.bound
good_splits_bound points trees plant task cert belongs once exists good mode events state activation run declared has of_task =
    let are : AreFor plant cert.states task = record { belongs = belongs; closed = good.closed; once = once; exists = exists } in
    let window = has_window plant cert.states task mode events state activation are (run, declared) of_task has in
    let point = points plant cert.states task mode window.events window.state window.uses window.since window.case window.used in
    let cost = trees (rows_of plant cert.states task) cert.bound cert.tree (rows_are_shaped plant cert.states task) good.good point.counts
    (counts_fit plant cert.states task window.uses point.counts point.are) point.meets in
    subst (λ (n : ℕ). n ≤ cert.bound) (sym window.cycles)
    (at_most_of (duration window.events - window.since) cert.bound (cost_of (rows_of plant cert.states task) point.counts) point.covers cost)
