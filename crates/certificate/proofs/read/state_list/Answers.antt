use Rattle.std.proofs.Common.{true, false, sym}
use Rattle.serde_json.specs.View.{view}
use Rattle.certificate.proofs.Parts.{state_list-view}
use Rattle.certificate.proofs.read.state_list.Goals as goal

pub returns-then-are_states : goal.returns-then-are_states
returns-then-are_states c = sym (state_list-view (view c.args.value.now) c.in_ok-values.values.now true c.in_ok-values.ensures c.if-are_states.ensures)

pub returns-else-are_states : goal.returns-else-are_states
returns-else-are_states c = sym (state_list-view (view c.args.value.now) c.in_ok-values.values.now false c.in_ok-values.ensures c.if-are_states.ensures)
