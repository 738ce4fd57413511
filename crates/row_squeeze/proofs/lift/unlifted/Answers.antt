-- One row more.
use Rattle.std.proofs.Common.{◌≡◌, ◌≢◌, ◌≤◌, ◌+◌, ◌++◌, List, ℤ, pos, Bool, true, false, not, length, get_or, drop, Option, Some, None, refl, inl, inr, ◌⊎◌, ℕ, arith}
use Rattle.std.proofs.lemmas.Int.{to_z-of_z}
use Rattle.std.proofs.lemmas.Option.{get_or_from_slice_get}
use Rattle.std.specs.Int.{w128}
use Rattle.std.specs.Option.{is_some}
use mir.Val.{SFits}
use Rattle.whole_rows.proofs.Combinations.{fits_from_range}
use Rattle.row_squeeze.specs.declared.Link.{Link}
use Rattle.row_squeeze.specs.Lift.{unlifted}
use Rattle.row_squeeze.proofs.Walking.{unlifted_next, unlifted_zero}
use Rattle.row_squeeze.proofs.lift.unlifted.Goals as goal
use Rattle.row_squeeze.proofs.lift.unlifted.Goals.{then-is_none+then-next-len+in_ok-push, else-is_none+in_ok-push-2, else-is_none-via-then-is_none+else-next-len, else-is_none-via-else-is_none}

none_of : (link : Option Link) (b : Bool) → is_some link ≡ not b → b ≡ true → link ≡ None
none_of None b e f = refl
none_of (Some link) b e f = cc

some_of : (link : Option Link) (b : Bool) → is_some link ≡ not b → b ≡ false → link ≢ None
some_of None b e f q = cc
some_of (Some link) b e f q = cc

-- the multipliers so far, once one more was pushed
abbrev Goes : List (Option Link) → List ℤ → List ℤ → ℕ → ℕ → Type 0
Goes links multipliers all row next = all ++ unlifted (drop row links) (drop next multipliers) ≡ unlifted links multipliers

pub loop-row-preserved : goal.loop-row-preserved
loop-row-preserved c = elim c.if-is_none.branch [
  | then-is_none+then-next-len+in_ok-push w ↦
      (let at = get_or_from_slice_get c.args.multipliers.now c.loop-row.next w.get.result (pos 0) w.get.ensures.value in
      let fits : SFits w128 w.get.result = fits_from_range w.get.result w.get.ensures.in_range in
      let items = simp to_z-of_z at w.in_ok-push.ensures.items in
      let none = none_of (get_or c.args.links.now c.loop-row.row None) c.is_none.result c.is_none.ensures w.if-is_none.true in
      let step = unlifted_next c.args.links.now c.args.multipliers.now c.loop-row.all.items c.loop-row.row c.loop-row.next c.loop-row-test.true none (omega (arith, w.len.ensures)) c.loop-row.invariant in
      let pushed : Goes c.args.links.now c.args.multipliers.now w.push.new.self.items (c.loop-row.row + 1) (c.loop-row.next + 1) = rw (items, ← at) step in
      rw (w.all-is, w.next-is) pushed)
  | else-is_none+in_ok-push-2 w ↦
      (let items = w.in_ok-push-2.ensures.items in
      let other : (get_or c.args.links.now c.loop-row.row None ≢ None) ⊎ (length c.args.multipliers.now ≤ c.loop-row.next) = elim w.else-is_none.branch [
        | else-is_none-via-then-is_none+else-next-len w' ↦ inr (omega (arith, w'.len.ensures))
        | else-is_none-via-else-is_none w' ↦ inl (some_of (get_or c.args.links.now c.loop-row.row None) c.is_none.result c.is_none.ensures w'.if-is_none.false)
      ] in
      let step = unlifted_zero c.args.links.now c.args.multipliers.now c.loop-row.all.items c.loop-row.row c.loop-row.next c.loop-row-test.true other c.loop-row.invariant in
      let pushed : Goes c.args.links.now c.args.multipliers.now w.push-else-is_none.new.self.items (c.loop-row.row + 1) c.loop-row.next = rw items step in
      rw (w.all-is, w.next-is) pushed)
]
