-- The words of the kinds of fault.
use Rattle.std.specs.Prelude.{ℕ, List, codes}
use Rattle.flow_graph.specs.declared.fault.CodeKind.{CodeKind}
use Rattle.flow_graph.specs.declared.fault.CodeKind.TheVariants.{NoEntry, BadWord, Indirect, Leaves, IntoService, BadService, Recursion, UncoveredBack, Depth, Limit, Name}

abbrev pub code_word : CodeKind → List ℕ
code_word NoEntry = codes "NoEntry"
code_word BadWord = codes "BadWord"
code_word Indirect = codes "Indirect"
code_word Leaves = codes "Leaves"
code_word IntoService = codes "IntoService"
code_word BadService = codes "BadService"
code_word Recursion = codes "Recursion"
code_word UncoveredBack = codes "UncoveredBack"
code_word Depth = codes "Depth"
code_word Limit = codes "Limit"
code_word Name = codes "Name"
