use Rattle.std.proofs.Common.{◌≡◌, ◌∷◌, [], ◌++◌, ◌∙◌}
use Rattle.serde_json.specs.View.{view}
use Rattle.trace_check.proofs.Written.{text_of, read_again}
use Rattle.trace_check.proofs.writing.write_trace.Goals as goal

pub returns-clause-text : goal.returns-clause-text
returns-clause-text c =
    let pushed : c.from_vec.result ≡ c.in_ok-bytes.bytes.items ++ 10 ∷ [] = c.from_vec.ensures ∙ c.in_ok-push.ensures.items in
    pushed
    ∙ text_of c.args.system.now c.args.trace.now (view c.in_ok-value.value) c.in_ok-bytes.bytes.items c.in_ok-value.ensures c.in_ok-bytes.ensures.text

pub returns-clause-again : goal.returns-clause-again
returns-clause-again c =
    let pushed : c.from_vec.result ≡ c.in_ok-bytes.bytes.items ++ 10 ∷ [] = c.from_vec.ensures ∙ c.in_ok-push.ensures.items in
    rw pushed
    (read_again c.args.system.now c.requires.system c.args.trace.now c.requires.lawful (view c.in_ok-value.value) c.in_ok-bytes.bytes.items
    c.in_ok-value.ensures c.in_ok-bytes.ensures.utf8 c.in_ok-bytes.ensures.reads_back)
