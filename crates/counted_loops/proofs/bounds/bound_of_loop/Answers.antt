-- A counted loop has its numbers.
use Rattle.counted_loops.proofs.Uniqueness.{numbers_of, counting_is}
use Rattle.counted_loops.proofs.bounds.bound_of_loop.Goals as goal

pub returns-in-None : goal.returns-in-None
returns-in-None g c = λ bound is. c.in-None.ensures
    (numbers_of (g.C.Code.code_of c.args.code.now) c.args.entries.now c.args.flow.now c.args.l bound is)
    (counting_is (g.C.Code.code_of c.args.code.now) c.args.entries.now c.args.flow.now c.args.l bound is)
