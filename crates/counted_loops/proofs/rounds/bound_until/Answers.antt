-- The last round is the one in which the steps make up the distance.
use Rattle.std.proofs.Common.{◌≡◌, ◌*◌, ◌-◌, ℕ, suc, pos, ℤ, ◌-ℤ◌, unsigned_abs, Option, Some, None, MatchOption}
use Rattle.std.proofs.lemmas.Int.{to_z-of_z}
use Rattle.rv32_decode.specs.declared.instruction.BranchOp.TheVariants.{Bne}
use Rattle.counted_loops.specs.Working.Distances.{Leads}
use Rattle.counted_loops.specs.Rounds.{AreRounds}
use Rattle.counted_loops.proofs.Bounding.{until_ends, until_only}
use Rattle.counted_loops.proofs.rounds.bound_until.Goals as goal

found : (start step limit : ℤ) (distance pace : ℕ) (result : Option ℕ) → Leads start step limit → distance ≡ unsigned_abs (limit -ℤ start)
    → pace ≡ unsigned_abs step → MatchOption result ((bound : ℕ) → suc bound * pace ≡ distance → ⊥) (λ bound. suc bound * pace ≡ distance)
    → MatchOption result ((bound : ℕ) → AreRounds Bne start step limit (suc bound) → ⊥) (λ bound. AreRounds Bne start step limit (suc bound))
found start step limit distance pace None leads is paces exact = until_only start step limit distance pace leads is paces exact
found start step limit distance pace (Some bound) leads is paces exact = until_ends start step limit bound distance pace leads is paces exact

pub returns-then-leads : goal.returns-then-leads
returns-then-leads c =
    let start = c.ranges.start in let step = c.ranges.step in let limit = c.ranges.limit in
    let leads = c.leads.ensures.0 c.if-leads.true in
    found c.args.start c.args.step c.args.limit c.abs_diff.result c.unsigned_abs.result c.exact.result (simp to_z-of_z at leads)
    (simp to_z-of_z at c.abs_diff.ensures) (simp to_z-of_z at c.unsigned_abs.ensures.value) c.exact.ensures
