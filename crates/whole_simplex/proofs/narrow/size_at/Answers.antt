-- The divisor of a row divides each entry.
use Rattle.std.proofs.Common.{◌≡◌, ℕ, pos, get_or, sym, subst, rules}
use Rattle.std.specs.Prelude.{unsigned_abs}
use Rattle.std.specs.Int.{w64, ◌∣◌}
use Rattle.std.proofs.lemmas.Int.{to_z-of_z}
use mir.Val.{SFits}
use Rattle.whole_rows.specs.Row.{divisor_of}
use Rattle.whole_simplex.proofs.Reducing.{divides_at}
use Rattle.whole_simplex.proofs.narrow.size_at.Goals as goal

pub returns-then-place-row : goal.returns-then-place-row
returns-then-place-row c =
    let fits : SFits w64 (get_or c.args.row.now c.args.place (pos 0)) = search rules in
    let size : c.unsigned_abs.result ≡ unsigned_abs (get_or c.args.row.now c.args.place (pos 0)) = simp to_z-of_z at c.unsigned_abs.ensures.value in
    subst (λ (s : ℕ). divisor_of c.args.row.now ∣ s) (sym size) (divides_at c.args.row.now c.args.place c.if-place-row.true)
