use Rattle.std.proofs.Common.{rules, ap, ◌∙◌, sym, [], ◌∷◌, ◌++◌, take}
use Rattle.std.proofs.lemmas.List.{map_push, take_more}
use Rattle.std.proofs.lemmas.List.Elements.{All-push}
use Rattle.wcet_atomic_blocks.specs.Blocks.{IsBlock}
use Rattle.wcet_atomic_blocks.proofs.BeginFacts.{services_below}
use Rattle.wcet_atomic_blocks.proofs.cutting.blocks_at.Goals as goal

pub block_at-requires-clause-few : goal.block_at-requires-clause-few
block_at-requires-clause-few c = services_below c.args.flow.now c.as_slice.result.now (search rules)

pub loop-begin-preserved : goal.loop-begin-preserved
loop-begin-preserved c =
    let i = c.loop-begin.begin-index in let begins = c.args.begins.now in let blocks = c.loop-begin.blocks in let block = c.in_ok-block_at.field-0 in
    rw c.in_ok-push.ensures.ok (record {
      begins = map_push (λ b. b.begin) blocks block ∙ ap (λ bs. bs ++ block.begin ∷ []) c.loop-begin.invariant.begins
          ∙ ap (λ b. take i begins ++ b ∷ []) c.in_ok-block_at.ensures.begin ∙ sym (take_more begins i _ c.loop-begin-test.true);
      blocks = All-push (IsBlock c.args.flow.now) blocks block c.loop-begin.invariant.blocks c.in_ok-block_at.ensures.block;
    })
