use Rattle.std.proofs.Common.{◌≡◌, ◌∷◌, [], ◌++◌, ◌∙◌}
use Rattle.serde_json.specs.View.{view}
use Rattle.demo_gen.proofs.Ranges.{all_have_room}
use Rattle.demo_gen.proofs.TimingText.{text_of, read_again}
use Rattle.demo_gen.proofs.writing.timing_text.Goals as goal

pub timing_value-requires : goal.timing_value-requires
timing_value-requires c = all_have_room c.args.tasks.now c.requires

pub returns-clause-text : goal.returns-clause-text
returns-clause-text c =
    let pushed : c.from_vec.result ≡ c.in_ok-text.text.items ++ 10 ∷ [] = c.from_vec.ensures ∙ c.in_ok-push.ensures.items in
    pushed ∙ text_of c.args.tasks.now (view c.in_ok-value.value) c.in_ok-text.text.items c.in_ok-value.ensures c.in_ok-text.ensures.text

pub returns-clause-again : goal.returns-clause-again
returns-clause-again c =
    let pushed : c.from_vec.result ≡ c.in_ok-text.text.items ++ 10 ∷ [] = c.from_vec.ensures ∙ c.in_ok-push.ensures.items in
    rw pushed
    (read_again c.args.tasks.now (view c.in_ok-value.value) c.in_ok-text.text.items c.requires c.in_ok-value.ensures c.in_ok-text.ensures.utf8
    c.in_ok-text.ensures.reads_back)
