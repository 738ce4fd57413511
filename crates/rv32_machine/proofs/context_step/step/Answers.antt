-- The step is that of the instruction's effect, and of the turn that it takes.
use Rattle.std.proofs.Common.{◌≡◌, ◌∙◌, ap, subst, Option, Some, None, IsTrue, refl}
use Rattle.std.specs.Prelude.{IsSomeAnd, ◌↔◌}
use Rattle.rv32_machine.specs.Memory.{memory_of}
use Rattle.rv32_machine.specs.ContextStep.{ContextStep, IsPaired, calls_after, return_place}
use Rattle.rv32_machine.proofs.context_step.step.Goals as goal

some_and : {X : Type 0} (o : Option X) (P : X → Type 0) → IsSomeAnd o P → (x : X) × (o ≡ Some x) × P x
some_and None P h = absurd h
some_and (Some x) P h = (x, refl, h)

pub returns-clause-ok : goal.returns-clause-ok
returns-clause-ok g c =
    let done = some_and _ _ c.exec-next.ensures in
    let turn = c.turn_of-turn.ensures in
    let step : ContextStep (g.C.Code.code_of c.args.code.now) c.args.device (memory_of c.args.memory.now) (memory_of c.exec-next.new.memory)
    (record { registers = c.args.regs.now; place = c.args.place.now; calls = c.args.calls.now.items })
    (record { registers = c.exec-next.new.regs; place = c.exec-next.result.address; calls = c.follow.new.calls.items }) =
    record {
      insn = c.args.insn.now;
      effect = done.0;
      fetched = c.requires.fetched;
      does = done.1;
      registers_are = done.2.registers_are;
      place_is = done.2.address_is;
      calls_are = c.in_ok-follow.ensures.ok ∙ ap (λ t. calls_after t c.args.place.now c.args.calls.now.items) turn;
      memory_is = done.2.memory_is;
    } in
    record {
      step = step;
      stored_is = done.2.stored_is;
      paired_is =
          subst (λ t. IsTrue c.is_paired.result ↔ IsPaired t c.args.calls.now.items c.exec-next.result.address) turn
          (c.is_paired.ensures c.args.calls.now.items (c.return_place-back.ensures ∙ ap return_place c.as_slice.ensures.value));
    }
