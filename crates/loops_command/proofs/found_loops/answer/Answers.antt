-- The lines stand before that of the task; a refusal stands alone.
use Rattle.loops_command.proofs.Answering.{refused, said}
use Rattle.loops_command.proofs.found_loops.answer.Goals as goal

pub returns-in_ok-behind-in-Ok : goal.returns-in_ok-behind-in-Ok
returns-in_ok-behind-in-Ok c =
    said c.as_bytes.result.now c.args.name.now c.args.loops.now c.args.states.now c.in-Ok.line c.as_slice.result.now c.as_slice-in-Ok.result.now
    c.in_ok-behind-in-Ok.field-0 c.as_bytes.ensures.value c.in-Ok.ensures c.in_ok-behind-in-Ok.ensures c.as_slice.ensures c.as_slice-in-Ok.ensures

pub returns-in-Err : goal.returns-in-Err
returns-in-Err c =
    refused c.as_bytes.result.now c.args.name.now c.args.loops.now c.args.states.now c.in-Err.halt c.as_bytes.ensures.value c.in-Err.ensures
