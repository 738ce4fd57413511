use Rattle.std.proofs.Common.{sym, subst, arith}
use Rattle.oil_grammar.specs.Working.Advancing.{Follows}
use Rattle.oil_grammar.specs.Faults.{IsRefusalOf}
use Rattle.oil_grammar.proofs.Reached.{start_reached, next_reached, next_depth, done_text, blocked_fault}
use Rattle.oil_grammar.proofs.reading.read_oil.Goals as goal

pub tokens-init : goal.tokens-init
tokens-init c = record { depth = omega arith; reached = start_reached c.args.bytes.now }

pub tokens-preserved : goal.tokens-preserved
tokens-preserved c =
    let follows : Follows c.tokens.state c.tokens.rest.now c.in-More.next c.in-More.after.now = (rw c.in-More.is at c.in_ok-next.ensures) in
    record {
      depth = next_depth c.args.bytes.now c.tokens.rest.now c.tokens.state c.in-More.next c.in-More.after.now c.tokens.invariant.depth follows;
      reached = next_reached c.args.bytes.now c.tokens.rest.now c.tokens.state c.in-More.next c.in-More.after.now c.tokens.invariant.reached follows;
    }

pub returns-in-Done-clause-ok : goal.returns-in-Done-clause-ok
returns-in-Done-clause-ok c = done_text c.args.bytes.now c.tokens.rest.now c.tokens.state c.in-Done.tree c.tokens.invariant.reached (rw c.in-Done.is at c.in_ok-next.ensures)

pub returns-in-Blocked-clause-fault : goal.returns-in-Blocked-clause-fault
returns-in-Blocked-clause-fault c =
    subst (λ f. IsRefusalOf c.args.bytes.now f) (sym c.fault.ensures)
    (blocked_fault c.args.bytes.now c.tokens.rest.now c.tokens.state c.in-Blocked.bad.kind c.in-Blocked.bad.place.now c.tokens.invariant.reached (rw c.in-Blocked.is at c.in_ok-next.ensures))
