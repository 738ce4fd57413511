-- A merged row has an entry for each chain.
use Rattle.std.proofs.Common.{length, ap, sym, ◌∙◌}
use Rattle.whole_rows.specs.Rows.{row_at}
use Rattle.row_squeeze.proofs.Merging.{merged-length}
use Rattle.row_squeeze.proofs.merge.push_merged.Goals as goal

pub push_entries-requires-clause-width : goal.push_entries-requires-clause-width
push_entries-requires-clause-width c =
    ap length (c.deref.ensures.value ∙ c.in_ok-sums.ensures.value) ∙ merged-length c.args.chains.now.count c.args.chains.now.places.items (row_at c.args.rows.now c.args.row) ∙ sym c.requires.width
