use Rattle.std.proofs.Common.{◌++◌, ◌∷◌, [], ◌+◌, List, length, get_or, take, sym, ◌∙◌, ap, arith}
use Rattle.whole_rows.specs.Rows.{RowsData}
use Rattle.cut_search.specs.Nodes.{LimitRow, limit_rows, with_limit_rows}
use Rattle.cut_search.specs.Search.{no_limits}
use Rattle.cut_search.proofs.NodeRows.{further_more, limit_rows_more, with_limit_rows-append, further_count-take}
use Rattle.cut_search.proofs.nodes.push_limits.Goals as goal

pub push_of-requires-clause-width : goal.push_of-requires-clause-width
push_of-requires-clause-width c =
    let limits = c.args.limits.now in
    let i = c.loop-place.place in
    let more = further_more limits i c.loop-place-test.true in
    let most = further_count-take limits (i + 1) in
    let costs = ap (λ (d : RowsData). length d.costs) c.loop-place.invariant.rows in
    let next = c.loop-place.invariant.next in
    omega (arith, c.requires.width)

pub loop-place-preserved : goal.loop-place-preserved
loop-place-preserved c =
    let limits = c.args.limits.now in
    let i = c.loop-place.place in
    let here = limit_rows c.loop-place.next (get_or limits i no_limits ∷ []) in
    let more = further_more limits i c.loop-place-test.true in
    let next = c.in_ok-next.ensures.next in
    let before = c.loop-place.invariant.next in
    record {
      rows = c.in_ok-next.ensures.rows ∙ ap (λ (d : RowsData). with_limit_rows d (limit_rows c.loop-place.next (get_or c.args.limits.now c.loop-place.place no_limits ∷ []))) c.loop-place.invariant.rows ∙ with_limit_rows-append c.args.rows.now (limit_rows c.args.further (take i limits)) here ∙ ap (λ (n : _). with_limit_rows c.args.rows.now (limit_rows c.args.further (take i limits) ++ limit_rows n (get_or limits i no_limits ∷ []))) before ∙ ap (λ (rows : List LimitRow). with_limit_rows c.args.rows.now rows) (sym (limit_rows_more c.args.further limits i c.loop-place-test.true));
      next = omega arith;
    }
