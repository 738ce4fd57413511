-- One place more at each turn.
use Rattle.std.proofs.Common.{◌≡◌, ◌<◌, ◌^◌, ◌++◌, ◌*ℤ◌, List, [], ℤ, pos, length, get_or, map, drop, take, sym, ap, ◌∙◌, subst, rules, arith}
use Rattle.std.specs.Prelude.{unsigned_abs}
use Rattle.std.specs.Int.{w64}
use Rattle.std.proofs.lemmas.Int.{to_z-of_z, fits_signed_from_abs}
use Rattle.std.proofs.lemmas.List.{append-nil, get_or_default, take_all, drop_all}
use Rattle.std.proofs.lemmas.List.Edits.{map_over_more}
use mir.Val.{SFits, to_z}
use Rattle.whole_simplex.proofs.Scaled.{entry_untouched, one_row}
use Rattle.whole_simplex.proofs.narrow.scale.Goals as goal

pub returns-then-p-eq1 : goal.returns-then-p-eq1
returns-then-p-eq1 c =
    let one : c.args.p ≡ pos 1 = sym (to_z-of_z w64 c.args.p c.ranges.p) ∙ ap (to_z w64) c.if-p-eq1.true in
    sym (ap (λ (q : ℤ). map (λ (x : ℤ). q *ℤ x) c.args.row.now) one ∙ one_row c.args.row.now)

pub overflow_mul-row : goal.overflow_mul-row
overflow_mul-row c =
    let old = c.args.row.now in
    let i = c.loop-i.i in
    let fits_p : SFits w64 c.args.p = c.ranges.p in
    let fits : SFits w64 (get_or c.loop-i.row i (pos 0)) = search rules in
    let so_far : c.loop-i.row ≡ map (λ x. c.args.p *ℤ x) (take c.loop-i.i old) ++ drop c.loop-i.i old = simp to_z-of_z at c.loop-i.invariant in
    let same : get_or c.loop-i.row i (pos 0) ≡ get_or old i (pos 0) = entry_untouched (λ x. c.args.p *ℤ x) old c.loop-i.row i (pos 0) c.loop-i-test.true so_far in
    let small : unsigned_abs (c.args.p *ℤ get_or c.loop-i.row i (pos 0)) < 2 ^ 63 = subst (λ (x : ℤ). unsigned_abs (c.args.p *ℤ x) < 2 ^ 63) (sym same) (c.requires i (pos 0) c.loop-i-test.true) in
    simp to_z-of_z (fits_signed_from_abs w64 (c.args.p *ℤ get_or c.loop-i.row i (pos 0)) small)

pub loop-i-preserved : goal.loop-i-preserved
loop-i-preserved c =
    let old = c.args.row.now in
    let now = c.loop-i.row in
    let i = c.loop-i.i in
    let fits_p : SFits w64 c.args.p = c.ranges.p in
    let fits : SFits w64 (get_or c.loop-i.row c.loop-i.i (pos 0)) = search rules in
    let so_far : c.loop-i.row ≡ map (λ x. c.args.p *ℤ x) (take c.loop-i.i old) ++ drop c.loop-i.i old = simp to_z-of_z at c.loop-i.invariant in
    let within_now : i < length now = omega arith in
    let same : get_or c.loop-i.row i (pos 0) ≡ get_or old i (pos 0) = entry_untouched (λ x. c.args.p *ℤ x) old c.loop-i.row i (pos 0) c.loop-i-test.true so_far in
    let small : unsigned_abs (c.args.p *ℤ get_or c.loop-i.row i (pos 0)) < 2 ^ 63 = subst (λ (x : ℤ). unsigned_abs (c.args.p *ℤ x) < 2 ^ 63) (sym same) (c.requires i (pos 0) c.loop-i-test.true) in
    let product : SFits w64 (c.args.p *ℤ get_or c.loop-i.row c.loop-i.i (pos 0)) = fits_signed_from_abs w64 (c.args.p *ℤ get_or c.loop-i.row i (pos 0)) small in
    simp to_z-of_z (map_over_more (λ (x : ℤ). c.args.p *ℤ x) old now i (get_or now i (pos 0)) c.loop-i-test.true so_far (get_or_default now i (pos 0) (get_or now i (pos 0)) within_now))

pub returns : goal.returns
returns c =
    let old = c.args.row.now in
    let fits_p : SFits w64 c.args.p = c.ranges.p in
    let so_far : c.loop-i.row ≡ map (λ x. c.args.p *ℤ x) (take c.loop-i.i old) ++ drop c.loop-i.i old = simp to_z-of_z at c.loop-i.invariant in
    let all : take c.loop-i.i old ≡ old = take_all c.loop-i.i old (omega arith) in
    let none : drop c.loop-i.i old ≡ [] = drop_all c.loop-i.i old (omega arith) in
    so_far ∙ ap (λ (l : List ℤ). map (λ (x : ℤ). c.args.p *ℤ x) l ++ drop c.loop-i.i old) all ∙ ap (λ (l : List ℤ). map (λ (x : ℤ). c.args.p *ℤ x) old ++ l) none ∙ append-nil (map (λ (x : ℤ). c.args.p *ℤ x) old)
