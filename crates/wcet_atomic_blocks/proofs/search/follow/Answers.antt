use Rattle.std.proofs.Common.{◌*◌, ◌<◌, length, arith, ◌∙◌}
use Rattle.wcet_atomic_blocks.proofs.Searching.{leads_at, visits_count, visiting_passes, visiting_visits}
use Rattle.wcet_atomic_blocks.proofs.search.follow.Goals as goal
use Rattle.wcet_atomic_blocks.proofs.search.follow.Goals.{in-Some+in_ok-visit, in_default}

pub visit-requires : goal.visit-requires
visit-requires c =
    let below : c.in-Some.next < 64 * length c.args.set.now =
    c.requires c.loop-edge.edge-index c.in-Some.next (leads_at c.args.edges.now c.loop-edge.edge-index _ c.in-Some.next c.loop-edge-test.true c.in-Some.is) in
    omega (arith, below, c.loop-edge.invariant.room)

pub loop-edge-preserved : goal.loop-edge-preserved
loop-edge-preserved c = elim c.match-edge.branch [
  | in-Some+in_ok-visit w ↦
      let edges = c.args.edges.now in let i = c.loop-edge.edge-index in let next = w.in-Some.next in
      let below : next < 64 * length c.args.set.now = c.requires i next (leads_at edges i _ next c.loop-edge-test.true w.in-Some.is) in
      let visits = w.in_ok-visit.ensures.visits in
      rw (w.set-is, w.pending-is) (record {
        room = w.in_ok-visit.ensures.room ∙ c.loop-edge.invariant.room;
        visiting = visiting_visits edges i _ next _ _ _ _ _ _ c.loop-edge-test.true w.in-Some.is visits c.loop-edge.invariant.visiting;
        less = visits_count next (64 * length c.args.set.now) _ _ _ _ visits below ∙ c.loop-edge.invariant.less;
      })
  | in_default w ↦
      rw (w.set-is, w.pending-is) (record {
        room = c.loop-edge.invariant.room;
        visiting = visiting_passes c.args.edges.now c.loop-edge.edge-index _ _ _ _ _ c.loop-edge-test.true w.in_default.not-Some c.loop-edge.invariant.visiting;
        less = c.loop-edge.invariant.less;
      })
]
