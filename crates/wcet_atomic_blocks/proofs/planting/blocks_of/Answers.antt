use Rattle.std.proofs.Common.{◌∙◌, rules}
use Rattle.flow_graph.specs.Graph.{entries_of}
use Rattle.wcet_atomic_blocks.specs.Plants.{AreEntries}
use Rattle.wcet_atomic_blocks.proofs.Rooting.{are_entered, is_whole}
use Rattle.wcet_atomic_blocks.proofs.planting.blocks_of.Goals as goal
use Rattle.wcet_atomic_blocks.proofs.planting.blocks_of.Goals.{After-as_slice-2}

entered : (c : After-as_slice-2) → AreEntries (entries_of c.args.image.now c.args.system.now) c.args.flow.now c.as_slice-2.result.now
entered c = are_entered (entries_of c.args.image.now c.args.system.now) c.as_slice.result.now c.args.flow.now c.in_ok-entries.entries.items
    c.as_slice-2.result.now
    (c.as_slice.ensures ∙ c.in_ok-addresses.ensures) (search rules) c.requires c.in_ok-entries.ensures

pub cut-requires : goal.cut-requires
cut-requires c = is_whole (entries_of c.args.image.now c.args.system.now) c.args.flow.now c.as_slice-2.result.now c.requires
    (entered (goal.at.cut-requires c).After-as_slice-2)

pub returns-in-Ok : goal.returns-in-Ok
returns-in-Ok c = record {
  entries = c.as_slice-2.result.now;
  entered = entered (goal.at.returns-in-Ok c).After-as_slice-2;
  cut = c.in-Ok.ensures.0;
  few = c.in-Ok.ensures.1;
}

pub returns : goal.returns
returns c =
    let is = rw c.in-Err-Limit.field-0-is at c.in-Err-Limit.ensures in
    record { entries = c.as_slice-2.result.now; entered = entered (goal.at.returns c).After-as_slice-2; count_is = is.0; many = is.1 }
