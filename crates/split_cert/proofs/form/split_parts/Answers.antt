use Rattle.std.proofs.Common.{true, false, sym}
use Rattle.serde_json.specs.View.{view}
use Rattle.split_cert.proofs.Parts.{split_parts-view}
use Rattle.split_cert.proofs.form.split_parts.Goals as goal

pub returns-then-have_form : goal.returns-then-have_form
returns-then-have_form c =
    sym (split_parts-view (view c.args.value.now) c.in_ok-text_at.field-0.now c.in_ok-list_at.field-0.now c.in_ok-text_at-2.field-0.now (view c.in_ok-get.field-0.now) true
    c.if-not-has_exactly.ensures c.in_ok-text_at.ensures c.in_ok-list_at.ensures c.in_ok-text_at-2.ensures c.in_ok-get.ensures c.if-have_form.ensures)

pub returns-else-have_form : goal.returns-else-have_form
returns-else-have_form c =
    sym (split_parts-view (view c.args.value.now) c.in_ok-text_at.field-0.now c.in_ok-list_at.field-0.now c.in_ok-text_at-2.field-0.now (view c.in_ok-get.field-0.now) false
    c.if-not-has_exactly.ensures c.in_ok-text_at.ensures c.in_ok-list_at.ensures c.in_ok-text_at-2.ensures c.in_ok-get.ensures c.if-have_form.ensures)
