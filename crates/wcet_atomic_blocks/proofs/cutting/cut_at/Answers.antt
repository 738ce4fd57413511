use Rattle.std.proofs.Common.{◌<◌, List, length, ◌∙◌, sym, subst}
use Rattle.std.specs.Prelude.{All, IfSome}
use Rattle.wcet_atomic_blocks.specs.declared.block.Beginning.{Beginning}
use Rattle.wcet_atomic_blocks.proofs.BeginFacts.{firsts_exist, owners_exist, afters_exist, entries_named, afters_named}
use Rattle.wcet_atomic_blocks.proofs.cutting.cut_at.Goals as goal

pub blocks_at-requires-clause-exist : goal.blocks_at-requires-clause-exist
blocks_at-requires-clause-exist c =
    subst (λ (bs : List Beginning). All (λ b. b.first < length c.args.flow.now.nodes) bs) (sym c.requires.begins)
    (firsts_exist c.args.flow.now c.args.entries.now c.requires.whole)

pub entry_table-requires : goal.entry_table-requires
entry_table-requires c =
    subst (λ (bs : List Beginning). All (λ b. b.owner < length c.args.entries.now) bs) (sym c.requires.begins) (owners_exist c.args.flow.now c.args.entries.now)

pub after_table-requires : goal.after_table-requires
after_table-requires c =
    rw c.nodes.ensures (subst (λ (bs : List Beginning). All (λ b. IfSome b.after (λ node. node < length c.args.flow.now.nodes)) bs) (sym c.requires.begins)
    (afters_exist c.args.flow.now c.args.entries.now))

pub returns : goal.returns
returns c =
    let flow = c.args.flow.now in let entries = c.args.entries.now in
    let tables = c.in_ok-entries.ensures in let afters = c.in_ok-afters.ensures in
    record {
      begin = c.in_ok-blocks.ensures.begins ∙ c.requires.begins;
      each = c.in_ok-blocks.ensures.blocks;
      entry_count = tables.long;
      entry = entries_named flow entries c.in_ok-blocks.blocks c.args.begins.now c.in_ok-entries.entries c.in_ok-blocks.ensures.begins c.requires.begins tables;
      after_count = afters.long ∙ c.nodes.ensures;
      after = afters_named flow entries c.in_ok-blocks.blocks c.args.begins.now c.in_ok-afters.afters c.requires.whole c.in_ok-blocks.ensures.begins
          c.requires.begins (rw (sym c.nodes.ensures) afters);
    }
