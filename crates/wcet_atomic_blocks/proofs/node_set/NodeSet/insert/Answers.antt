use Rattle.std.proofs.Common.{rules, ◌≡◌, ℕ, ◌/◌, ◌<◌, List, length, get_or, ap, sym, ◌∙◌}
use Rattle.std.proofs.lemmas.List.{get_or_read}
use Rattle.wcet_atomic_blocks.specs.NodeSets.{holds}
use Rattle.wcet_atomic_blocks.proofs.NodeBits.{there, others}
use Rattle.wcet_atomic_blocks.proofs.node_set.NodeSet.insert.Goals as goal

pub returns-clause-there : goal.returns-clause-there
returns-clause-there c =
    let inside : c.args.node / 64 < length c.self.inside.words.items = search rules in
    there c.self.inside.words.items c.args.node c.index-word.result.now inside

pub returns-clause-others : goal.returns-clause-others
returns-clause-others c =
    let words = c.self.inside.words.items in
    let inside : c.args.node / 64 < length words = search rules in
    let word : get_or words (c.args.node / 64) 0 ≡ c.index-word.result.now =
    sym (get_or_read words (c.args.node / 64) c.index-word.result.now inside c.index-word.ensures 0) in
    λ other differ. others words c.args.node c.index-word.result.now inside word other differ
    ∙ ap (λ (set : List ℕ). holds set other) c.self.view_is
