-- The refusals of OIL files.
use Rattle.std.specs.Prelude.{ℕ, List, ◌++◌, codes}
use Rattle.std.specs.Fmt.{decimal}
use Rattle.oil_grammar.specs.declared.fault.OilKind.{OilKind}
use Rattle.oil_grammar.specs.Kinds.{oil_word}
use Rattle.oil_model.specs.declared.fault.ModelKind.{ModelKind}
use Rattle.oil_model.specs.Kinds.{model_word}
use Rattle.command_steps.specs.declared.status.Reason.TheVariants.{Input}
use Rattle.command_steps.specs.declared.halt.Refusal.{Refusal}
use Rattle.command_steps.specs.Refusals.{refusal, newline}

-- the text has no tree: the first place at which no text can go on stands on that line
abbrev pub oil_refusal : ℕ → OilKind → Refusal
oil_refusal line kind = refusal Input (codes "oil line " ++ (decimal line ++ (codes " " ++ (oil_word kind ++ newline))))

-- the tree has no system: that object is the first one that breaks a rule
abbrev pub model_refusal : ℕ → ModelKind → Refusal
model_refusal object kind = refusal Input (codes "model object " ++ (decimal object ++ (codes " " ++ (model_word kind ++ newline))))
