use Rattle.trace_check.proofs.judging.follow.Goals as goal

pub returns-in-Take-clause-goes : goal.returns-in-Take-clause-goes
returns-in-Take-clause-goes c = λ f follows. rw (c.in-Take.is) (c.take.ensures.goes f follows)
