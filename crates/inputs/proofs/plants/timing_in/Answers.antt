use Rattle.std.proofs.Common.{ℕ, List, Err, subst}
use Rattle.listed.specs.declared.fault.Fault.{Fault}
use Rattle.json_fields.specs.Files.{Answers}
use Rattle.timing_file.specs.declared.fault.TimingKind.{TimingKind}
use Rattle.timing_file.specs.declared.fault.TimingKind.TheVariants.{Json}
use Rattle.timing_file.specs.Timing.{timing_in}
use Rattle.inputs.proofs.plants.timing_in.Goals as goal

pub returns-in_ok-timing_refusal-in-Err-Kind-clause-answer : goal.returns-in_ok-timing_refusal-in-Err-Kind-clause-answer
returns-in_ok-timing_refusal-in-Err-Kind-clause-answer c =
    let read = subst (λ (bytes : List ℕ). Answers Json timing_in bytes (Err c.in-Err-Kind.field-0)) c.as_slice.ensures c.in-Err-Kind.ensures.answer in
    (c.in-Err-Kind.kind, subst (λ (fault : Fault TimingKind). Answers Json timing_in c.args.bytes.now (Err fault)) c.in-Err-Kind.field-0-is read, c.in_ok-timing_refusal-in-Err-Kind.ensures)
