-- The answer is that of the optimal table.
use Rattle.std.proofs.Common.{◌≡◌, ◌+◌, ◌++◌, ◌∷◌, [], ℤ, List, length, take, drop, true, false, ap, ◌∙◌, sym, refl, arith, rules}
use Rattle.std.specs.Prelude.{int_div}
use Rattle.std.specs.List.{list_any}
use Rattle.std.proofs.lemmas.Int.{to_z-of_z}
use Rattle.std.specs.Int.{w128}
use mir.Val.{SFits, to_z, of_z}
use Rattle.whole_rows.proofs.Combinations.{fits_from_range}
use Rattle.whole_simplex.specs.Outcome.{is_large}
use Rattle.whole_simplex.specs.Tables.{entry, width}
use Rattle.whole_simplex.proofs.Reading.{says_large, says_greatest, fault_says, contains_denominator, none_large, large_is}
use Rattle.whole_simplex.proofs.optimal.optimum.Goals as goal

pub returns-in-Err : goal.returns-in-Err
returns-in-Err c = λ limit. fault_says c.args.rows.now limit c.args.pivots c.args.objective.now c.in-Err.fault c.in-Err.ensures

pub returns-then-is_large : goal.returns-then-is_large
returns-then-is_large c =
    let d = c.args.rows.now in
    let objective : List ℤ = c.args.objective.now in
    let x = c.entry-denominator.result in
    let fits : SFits w128 c.entry-denominator.result = fits_from_range x c.entry-denominator.ensures.in_range in
    let w : c.column_count.result + c.row_count.result ≡ width d = omega (arith, c.column_count.ensures, c.row_count.ensures.value) in
    let is : x ≡ entry objective (width d) = c.entry-denominator.ensures.value ∙ ap (λ k. entry objective k) w in
    let large : is_large x ≡ true = ap is_large (sym (to_z-of_z w128 x fits)) ∙ sym c.is_large.ensures ∙ c.if-is_large.true in
    let ms : List ℤ = take (length d.rows) (drop (length d.costs) objective) in
    λ limit. simp to_z-of_z (says_large d limit c.args.pivots (ms ++ entry objective (width d) ∷ []) ms (entry objective (width d)) (int_div (entry objective (width d + 1)) (entry objective (width d))) x
    (contains_denominator ms (entry objective (width d)) x is) (large_is x large))

pub returns : goal.returns
returns c =
    let d = c.args.rows.now in
    let objective : List ℤ = c.args.objective.now in
    let x = c.entry-denominator.result in
    let fits : SFits w128 c.entry-denominator.result = fits_from_range x c.entry-denominator.ensures.in_range in
    let value_fits : SFits w128 c.entry.result = fits_from_range c.entry.result c.entry.ensures.in_range in
    let bound_fits : SFits w128 c.quotient-bound.result = search rules in
    let w : c.column_count.result + c.row_count.result ≡ width d = omega (arith, c.column_count.ensures, c.row_count.ensures.value) in
    let w' : c.column_count.result + c.row_count.result + 1 ≡ width d + 1 = omega (arith, c.column_count.ensures, c.row_count.ensures.value) in
    let is : x ≡ entry objective (width d) = c.entry-denominator.ensures.value ∙ ap (λ k. entry objective k) w in
    let value : c.entry.result ≡ entry objective (width d + 1) = c.entry.ensures.value ∙ ap (λ k. entry objective k) w' in
    let bound : c.quotient-bound.result ≡ int_div c.entry.result x = simp to_z-of_z at c.quotient-bound.ensures in
    let small : is_large x ≡ false = ap is_large (sym (to_z-of_z w128 x fits)) ∙ sym c.is_large.ensures ∙ c.if-is_large.false in
    let ms : List ℤ = take (length d.rows) (drop (length d.costs) objective) in
    let few : list_any is_large ms ≡ false = ap (λ l. list_any is_large l) (sym c.in-Ok.ensures.0) ∙ c.in-Ok.ensures.1 in
    let none : list_any is_large (ms ++ entry objective (width d) ∷ []) ≡ false =
    none_large ms (ms ++ entry objective (width d) ∷ []) (entry objective (width d)) refl few (ap is_large (sym is) ∙ small) in
    λ limit. says_greatest d limit c.args.pivots (ms ++ entry objective (width d) ∷ []) ms (entry objective (width d)) (int_div (entry objective (width d + 1)) (entry objective (width d)))
    (record { multipliers = c.in-Ok.multipliers; denominator = to_z w128 (of_z w128 x); bound = to_z w128 (of_z w128 c.quotient-bound.result); pivots = c.args.pivots })
    none refl c.in-Ok.ensures.0 (to_z-of_z w128 x fits ∙ is)
    (to_z-of_z w128 c.quotient-bound.result bound_fits ∙ bound ∙ ap (λ v. int_div v x) value ∙ ap (λ v. int_div (entry objective (width d + 1)) v) is)
