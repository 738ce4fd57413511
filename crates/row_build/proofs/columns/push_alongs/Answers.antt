use Rattle.std.proofs.Common.{◌++◌, ◌∷◌, [], map, take, get_or, sym, refl, None}
use Rattle.flow_graph.specs.declared.edge.EdgeKind.TheVariants as kinds
use Rattle.flow_graph.specs.declared.edge.Edge.{Edge}
use Rattle.std.proofs.Common.{ℕ}
use Rattle.row_build.specs.declared.numbered.NumberedColumn.TheVariants as numbered
use Rattle.row_build.specs.Columns as words
use Rattle.row_build.specs.Working.Numbered.{IsColumn, column_of}
use Rattle.row_build.proofs.Growing.{adds_like, adds_one}
use Rattle.row_build.proofs.ColumnLists.{alongs_more}
use Rattle.row_build.proofs.columns.push_alongs.Goals as goal

pub loop-place-preserved : goal.loop-place-preserved
loop-place-preserved c =
    let plant = c.args.plant.now in let states = c.args.states.now in let i = c.loop-place.place in let edges = c.args.edges.now in let node = c.args.node in
    let d : Edge ℕ = record { to = None; kind = kinds.Straight } in
    adds_like (column_of states) (IsColumn plant states) c.args.found.now c.push.new.self
    (map words.Goes (words.alongs_at node 0 (take i edges)) ++ words.Goes (record { node = node; place = i; edge = get_or edges i d }) ∷ []) _
    (sym (alongs_more node i edges d c.loop-place-test.true))
    (adds_one (column_of states) (IsColumn plant states) c.args.found.now c.loop-place.found c.push.new.self (map words.Goes (words.alongs_at node 0 (take i edges)))
    (numbered.Goes (record { node = node; place = i; edge = get_or edges i d })) (words.Goes (record { node = node; place = i; edge = get_or edges i d }))
    c.loop-place.invariant c.in_ok-push.ensures.ok refl tt)
