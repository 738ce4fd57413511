use Rattle.std.proofs.Common.{sym, subst}
use Rattle.std.specs.Prelude.{IsUtf8}
use Rattle.trace_check.proofs.NameTexts.{source_is_text}
use Rattle.trace_check.proofs.writing.source_text.Goals as goal

pub text_of-requires : goal.text_of-requires
text_of-requires c = subst IsUtf8 (sym c.source_name.ensures) (source_is_text c.args.system.now c.requires.system c.args.source)
