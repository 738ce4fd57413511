use Rattle.std.proofs.Common.{◌∙◌, arith, sym, length-drop}
use Rattle.oil_grammar.proofs.GapSteps.{piece_line, piece_comment, piece_text, piece_passed, piece_none, piece_end}
use Rattle.oil_grammar.proofs.gap.after_piece.Goals as goal

pub returns-in_default : goal.returns-in_default
returns-in_default c = piece_end _ _ c.in_default.ensures.cases

pub returns-then-is_slash_and : goal.returns-then-is_slash_and
returns-then-is_slash_and c = (
  omega (arith, c.in-Some.ensures.cases.1, c.after_line.ensures.shorter),
  piece_line c.args.skips _ _ _ c.in-Some.ensures.cases.0 (sym c.if-is_slash_and.ensures) ∙ c.after_line.ensures.passes c.args.skips,
)

pub returns-in_default-after_comment : goal.returns-in_default-after_comment
returns-in_default-after_comment c =
    piece_comment c.args.skips _ _ _ c.in-Some.ensures.cases.0 (sym c.if-is_slash_and.ensures) (sym c.if-is_slash_and-2.ensures)
    ∙ (rw c.behind_first.ensures at (c.in_default-after_comment.ensures c.args.skips c.args.bytes.now))

pub returns-then-is_slash_and-2 : goal.returns-then-is_slash_and-2
returns-then-is_slash_and-2 c = (
  omega (arith, c.in-Some.ensures.cases.1, c.in-Some-after_comment.ensures.0, rw c.behind_first.ensures at c.in-Some-after_comment.ensures.0, length-drop 1 c.in-Some.tail.now),
  piece_comment c.args.skips _ _ _ c.in-Some.ensures.cases.0 (sym c.if-is_slash_and.ensures) (sym c.if-is_slash_and-2.ensures)
      ∙ (rw c.behind_first.ensures at (c.in-Some-after_comment.ensures.1 c.args.skips c.args.bytes.now)),
)

pub returns-in_default-after_quote : goal.returns-in_default-after_quote
returns-in_default-after_quote c =
    piece_text c.args.skips _ _ _ c.in-Some.ensures.cases.0 (sym c.if-is_slash_and.ensures) (sym c.if-is_slash_and-2.ensures) (sym c.if-begins_text.ensures)
    ∙ c.in_default-after_quote.ensures c.args.skips c.args.bytes.now

pub returns-then-begins_text : goal.returns-then-begins_text
returns-then-begins_text c = (
  omega (arith, c.in-Some.ensures.cases.1, c.in-Some-after_quote.ensures.0),
  piece_text c.args.skips _ _ _ c.in-Some.ensures.cases.0 (sym c.if-is_slash_and.ensures) (sym c.if-is_slash_and-2.ensures) (sym c.if-begins_text.ensures)
      ∙ c.in-Some-after_quote.ensures.1 c.args.skips c.args.bytes.now,
)

pub returns-then-is_passed : goal.returns-then-is_passed
returns-then-is_passed c = (
  omega (arith, c.in-Some.ensures.cases.1),
  piece_passed c.args.skips _ _ _ c.in-Some.ensures.cases.0 (sym c.if-is_slash_and.ensures) (sym c.if-is_slash_and-2.ensures) (sym c.if-begins_text.ensures) (sym c.if-is_passed.ensures),
)

pub returns : goal.returns
returns c =
    piece_none c.args.skips _ _ _ c.in-Some.ensures.cases.0 (sym c.if-is_slash_and.ensures) (sym c.if-is_slash_and-2.ensures) (sym c.if-begins_text.ensures) (sym c.if-is_passed.ensures)
