-- One column more.
use Rattle.std.proofs.Common.{◌≡◌, ◌<◌, ◌+ℤ◌, pos, List, ℤ, length, get_or, set, take, ◌∙◌, ap, rules, arith}
use Rattle.std.proofs.lemmas.Int.{to_z-of_z}
use Rattle.std.proofs.lemmas.List.{take_all}
use Rattle.std.proofs.lemmas.List.Elements.{All-get_or}
use Rattle.std.specs.Int.{w128}
use mir.Val.{SFits}
use Rattle.whole_rows.specs.Row.{IsInRange}
use Rattle.whole_rows.proofs.Combinations.{fits_from_range}
use Rattle.row_squeeze.proofs.Merging.{merged_more, merged_none, merged-in_range, next-in_range}
use Rattle.row_squeeze.proofs.merge.add_all.Goals as goal

pub loop-column-init : goal.loop-column-init
loop-column-init c = c.requires.zero ∙ merged_none (length c.args.sums.now) c.args.places.now c.args.entries.now

pub overflow_add-sums : goal.overflow_add-sums
overflow_add-sums c =
    let places = c.args.places.now in
    let i = c.loop-column.column in
    let fits_sum : SFits w128 (get_or c.loop-column.sums (get_or c.args.places.now c.loop-column.column 0) (pos 0)) = search rules in
    let fits_entry : SFits w128 (get_or c.args.entries.now c.loop-column.column (pos 0)) = search rules in
    let within = All-get_or (λ place. place < length c.args.sums.now) places i 0 (omega arith) c.requires.within in
    let next = next-in_range (length c.args.sums.now) places c.args.entries.now i c.requires.counted c.loop-column-test.true within c.requires.short (omega arith) in
    let here : IsInRange (get_or c.loop-column.sums (get_or c.args.places.now c.loop-column.column 0) (pos 0) +ℤ get_or c.args.entries.now c.loop-column.column (pos 0)) = rw c.loop-column.invariant next in
    let fits = fits_from_range (get_or c.loop-column.sums (get_or c.args.places.now c.loop-column.column 0) (pos 0) +ℤ get_or c.args.entries.now c.loop-column.column (pos 0)) here in
    simp to_z-of_z fits

pub loop-column-preserved : goal.loop-column-preserved
loop-column-preserved c =
    let places = c.args.places.now in
    let i = c.loop-column.column in
    let fits_sum : SFits w128 (get_or c.loop-column.sums (get_or c.args.places.now c.loop-column.column 0) (pos 0)) = search rules in
    let fits_entry : SFits w128 (get_or c.args.entries.now c.loop-column.column (pos 0)) = search rules in
    let within = All-get_or (λ place. place < length c.args.sums.now) places i 0 (omega arith) c.requires.within in
    let next = next-in_range (length c.args.sums.now) places c.args.entries.now i c.requires.counted c.loop-column-test.true within c.requires.short (omega arith) in
    let here : IsInRange (get_or c.loop-column.sums (get_or c.args.places.now c.loop-column.column 0) (pos 0) +ℤ get_or c.args.entries.now c.loop-column.column (pos 0)) = rw c.loop-column.invariant next in
    let fits : SFits w128 (get_or c.loop-column.sums (get_or c.args.places.now c.loop-column.column 0) (pos 0) +ℤ get_or c.args.entries.now c.loop-column.column (pos 0)) = fits_from_range (get_or c.loop-column.sums (get_or c.args.places.now c.loop-column.column 0) (pos 0) +ℤ get_or c.args.entries.now c.loop-column.column (pos 0)) here in
    let more = merged_more (length c.args.sums.now) places c.args.entries.now i c.requires.counted c.loop-column-test.true within in
    let set_is = ap (λ (sums : List ℤ). set sums (get_or c.args.places.now c.loop-column.column 0) (get_or sums (get_or c.args.places.now c.loop-column.column 0) (pos 0) +ℤ get_or c.args.entries.now c.loop-column.column (pos 0))) c.loop-column.invariant in
    simp to_z-of_z (set_is ∙ more)

pub returns-clause-in_range : goal.returns-clause-in_range
returns-clause-in_range c =
    let whole : take c.loop-column.column c.args.entries.now ≡ c.args.entries.now = take_all c.loop-column.column c.args.entries.now (omega arith) in
    rw (c.loop-column.invariant, whole) (merged-in_range (length c.args.sums.now) (take c.loop-column.column c.args.places.now) c.args.entries.now c.requires.short (omega arith))
