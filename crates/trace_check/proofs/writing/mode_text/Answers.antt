use Rattle.std.proofs.Common.{sym, subst}
use Rattle.std.specs.Prelude.{IsUtf8}
use Rattle.trace_check.proofs.NameTexts.{mode_is_text}
use Rattle.trace_check.proofs.writing.mode_text.Goals as goal

pub text_of-requires : goal.text_of-requires
text_of-requires c = subst IsUtf8 (sym c.mode_name.ensures) (mode_is_text c.args.system.now c.requires.system c.args.mode)
