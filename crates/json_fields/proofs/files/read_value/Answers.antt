use Rattle.json_fields.proofs.files.read_value.Goals as goal

pub returns-in-Err-clause-no_value : goal.returns-in-Err-clause-no_value
returns-in-Err-clause-no_value g c = λ kind same.
    let cause = c.cause_of.ensures kind (cc) in (
      λ d has.
          let none = c.in-Err.ensures.err (λ memory. cause.0 (c.classify.ensures.memory.1 memory)) has.0 in
          absurd (cc (none, has.1)),
      cause.1,
    )
