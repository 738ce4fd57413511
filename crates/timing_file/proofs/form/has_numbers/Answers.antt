use Rattle.std.proofs.lemmas.List.Folds.{list_all-map}
use Rattle.serde_json.specs.View.{view}
use Rattle.timing_file.specs.Form.{has_number}
use Rattle.timing_file.proofs.form.has_numbers.Goals as goal

pub returns : goal.returns
returns c = rw (list_all-map (has_number (view c.args.value.now)) (λ k. k.now) c.args.keys.now) c.all_numbers_at.ensures
