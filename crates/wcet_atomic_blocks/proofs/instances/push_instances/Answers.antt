use Rattle.std.proofs.Common.{◌≡◌, ℕ, ◌++◌, ap, ◌∙◌, sym, append-nil, Option}
use Rattle.std.specs.Prelude.{slice_get, option_and_then}
use Rattle.std.specs.Option.{option_to_list}
use Rattle.std.proofs.lemmas.Option.{slice_get-get_or}
use Rattle.timing_file.specs.declared.timing.Loop.{Loop}
use Rattle.wcet_atomic_blocks.specs.declared.loops.LoopInstance.{LoopInstance}
use Rattle.wcet_atomic_blocks.specs.Loops.{instance_at}
use Rattle.wcet_atomic_blocks.proofs.LoopLists.{gives_more}
use Rattle.wcet_atomic_blocks.proofs.instances.push_instances.Goals as goal
use Rattle.wcet_atomic_blocks.proofs.instances.push_instances.Goals.{in-Some+in_ok-push, in_default}

pub loop-declared-preserved : goal.loop-declared-preserved
loop-declared-preserved c =
    let loops = c.args.loops.now in let declared = c.loop-declared.declared in let found = c.loop-declared.found in
    let none : Loop = record { from = 0; to = 0; bound = 0 } in
    let at : ℕ → Loop → Option LoopInstance = instance_at c.args.flow.now c.args.blocks.now c.args.head.now in
    let gives : option_and_then (at declared) (slice_get loops declared) ≡ c.in_ok-instance.field-0 =
    ap (option_and_then (at declared)) (slice_get-get_or loops declared none c.loop-declared-test.true) ∙ sym c.in_ok-instance.ensures in
    gives_more (λ d. option_and_then (at d) (slice_get loops d)) declared c.args.found.now found c.match-branch-2.found c.in_ok-instance.field-0 gives
    c.loop-declared.invariant
    (elim c.match-branch-2.branch [
      | in-Some+in_ok-push w ↦ w.found-is ∙ w.in_ok-push.ensures.ok ∙ ap (λ o. found ++ option_to_list o) (sym w.in-Some.is)
      | in_default w ↦ w.found-is ∙ sym (append-nil found) ∙ ap (λ o. found ++ option_to_list o) (sym w.in_default.is)
    ])
