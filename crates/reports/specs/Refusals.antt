-- The refusals of words and of names.
use Rattle.std.specs.Prelude.{◌++◌, codes}
use Rattle.command_steps.specs.declared.status.Reason.TheVariants.{Words, Input}
use Rattle.command_steps.specs.declared.halt.Refusal.{Refusal}
use Rattle.command_steps.specs.Refusals.{refusal, newline}

-- the command words have no shape
abbrev pub words_refusal : Refusal
words_refusal = refusal Words (codes "words" ++ newline)

-- no task of the system has the name
abbrev pub task_refusal : Refusal
task_refusal = refusal Input (codes "task" ++ newline)
