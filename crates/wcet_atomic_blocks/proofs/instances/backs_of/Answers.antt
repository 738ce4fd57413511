use Rattle.std.proofs.Common.{◌≡◌, ◌<◌, ◌≤◌, ◌++◌, false, length, arith, rules, ap, ◌∙◌, sym}
use Rattle.std.specs.Prelude.{filter}
use Rattle.std.specs.List.{range_with_len, flat_map}
use Rattle.std.proofs.lemmas.Option.{slice_get_within}
use Rattle.wcet_atomic_blocks.specs.Loops.{node_passes, same_string, id_passes, is_back, edges_from}
use Rattle.wcet_atomic_blocks.proofs.LoopLists.{filter_flat_counts}
use Rattle.wcet_atomic_blocks.proofs.StringNodes.{no_backs_before, no_backs_behind}
use Rattle.wcet_atomic_blocks.proofs.instances.backs_of.Goals as goal

pub loop-place-init : goal.loop-place-init
loop-place-init c = c.new-ids.ensures ∙ sym (no_backs_before c.args.flow.now c.args.head.now c.args.range.now c.args.number c.requires.first)

pub loop-place-preserved : goal.loop-place-preserved
loop-place-preserved c =
    let flow = c.args.flow.now in let place = c.loop-place.place in
    let backs = id_passes flow (is_back c.args.head.now c.args.range.now) in
    c.in_ok-push_edges.ensures ∙ ap (λ ids. ids ++ filter backs (edges_from flow place)) c.loop-place.invariant
    ∙ sym (filter_flat_counts backs (edges_from flow) place)

pub returns-then-not-same_string : goal.returns-then-not-same_string
returns-then-not-same_string c =
    let flow = c.args.flow.now in let head = c.args.head.now in let place = c.loop-place.place in
    let from : c.args.number ≤ place = search rules in
    let within : place < length flow.nodes = search rules in
    let other : node_passes flow (same_string head) place ≡ false = search rules in
    c.loop-place.invariant ∙ sym (no_backs_behind flow head c.args.range.now c.args.number place c.requires.order c.requires.stands from within other)

pub returns : goal.returns
returns c =
    let flow = c.args.flow.now in
    let exists = slice_get_within flow.nodes c.args.number c.args.head.now c.requires.stands in
    let all : c.loop-place.place ≡ length flow.nodes = omega (arith, exists) in
    c.loop-place.invariant
    ∙ ap (λ n. filter (id_passes flow (is_back c.args.head.now c.args.range.now)) (flat_map (edges_from flow) (range_with_len 0 n))) all
