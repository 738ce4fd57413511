-- What is said of split certificates that aren't good.
use Rattle.std.specs.Prelude.{ℕ, List, ◌++◌, codes}
use Rattle.std.specs.Fmt.{decimal}
use Rattle.wcet_atomic_blocks.specs.Plants.{PlantData}
use Rattle.certificate.specs.declared.verdict.Why.{Why}
use Rattle.certificate.specs.declared.verdict.Why.TheVariants.{MissingInitial, Missing, Misuse, Count, Column, Bound}
use Rattle.command_steps.specs.declared.status.Reason.TheVariants.{No, Budget}
use Rattle.command_steps.specs.declared.halt.Refusal.{Refusal}
use Rattle.command_steps.specs.Refusals.{refusal, newline}
use Rattle.inputs.specs.States.{why_refusal}
use Rattle.split_cert.specs.declared.verdict.SplitWhy.{SplitWhy}
use Rattle.split_cert.specs.declared.verdict.SplitWhy.TheVariants as whys

-- a column that is cut isn't there
abbrev pub cut_refusal : ℕ → Refusal
cut_refusal column = refusal No (codes "no cut " ++ (decimal column ++ newline))

-- what fails of the multipliers of a leaf; nothing that fails of states is a leaf's
abbrev pub leaf_text : ℕ → Why → List ℕ
leaf_text leaf (Count given wanted) =
    codes "no leaf " ++ (decimal leaf ++ (codes " count " ++ (decimal given ++ (codes " " ++ (decimal wanted ++ newline)))))
leaf_text leaf (Column column) = codes "no leaf " ++ (decimal leaf ++ (codes " column " ++ (decimal column ++ newline)))
leaf_text leaf Bound = codes "no leaf " ++ (decimal leaf ++ codes " bound\n")
leaf_text leaf (MissingInitial mode) = codes "no leaf " ++ (decimal leaf ++ newline)
leaf_text leaf (Missing state transition) = codes "no leaf " ++ (decimal leaf ++ newline)
leaf_text leaf (Misuse state code) = codes "no leaf " ++ (decimal leaf ++ newline)

abbrev pub leaf_refusal : ℕ → Why → Refusal
leaf_refusal leaf why = refusal No (leaf_text leaf why)

abbrev pub split_refusal : PlantData → SplitWhy → Refusal
split_refusal plant (whys.States why) = why_refusal plant why
split_refusal plant (whys.Cut column) = cut_refusal column
split_refusal plant (whys.Leaf leaf why) = leaf_refusal leaf why

-- ---- where no tree of cuts is found

abbrev pub no_tree_refusal : Refusal
no_tree_refusal = refusal No (codes "no tree\n")

-- so many cuts are too few
abbrev pub cuts_refusal : ℕ → Refusal
cuts_refusal cuts = refusal Budget (codes "budget cuts " ++ (decimal cuts ++ newline))
