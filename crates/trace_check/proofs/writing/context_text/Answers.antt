use Rattle.std.proofs.Common.{sym, subst}
use Rattle.std.specs.Prelude.{IsUtf8}
use Rattle.trace_check.proofs.NameTexts.{context_is_text}
use Rattle.trace_check.proofs.writing.context_text.Goals as goal

pub text_of-requires : goal.text_of-requires
text_of-requires c = subst IsUtf8 (sym c.context_name.ensures) (context_is_text c.args.system.now c.requires.system c.args.context)
