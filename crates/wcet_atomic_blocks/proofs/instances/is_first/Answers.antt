use Rattle.std.proofs.Common.{◌≡◌, ◌+◌, false, arith, ap, ◌∙◌, sym}
use Rattle.std.specs.Prelude.{not, slice_get}
use Rattle.std.specs.Option.{option_map_or}
use Rattle.wcet_atomic_blocks.specs.Loops.{same_string, is_first}
use Rattle.wcet_atomic_blocks.proofs.StringNodes.{first_behind}
use Rattle.wcet_atomic_blocks.proofs.instances.is_first.Goals as goal

pub returns-in-Some : goal.returns-in-Some
returns-in-Some c =
    let flow = c.args.flow.now in let node = c.args.node.now in let before = c.in-Some.before in
    let on : c.args.number ≡ before + 1 = omega arith in
    ap not (c.same_string.ensures ∙ sym (ap (λ o. option_map_or (same_string node) o false) c.get.ensures))
    ∙ sym (ap (λ n. is_first flow n node) on ∙ first_behind flow before node c.requires.order (ap (slice_get flow.nodes) (sym on) ∙ c.requires.stands))
