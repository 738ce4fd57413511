-- The words of the kinds of fault.
use Rattle.std.specs.Prelude.{ℕ, List, codes}
use Rattle.oil_grammar.specs.declared.fault.OilKind.{OilKind}
use Rattle.oil_grammar.specs.declared.fault.OilKind.TheVariants.{Byte, Comment, Text, Number, Expected, Include, Depth}

abbrev pub oil_word : OilKind → List ℕ
oil_word Byte = codes "Byte"
oil_word Comment = codes "Comment"
oil_word Text = codes "Text"
oil_word Number = codes "Number"
oil_word Expected = codes "Expected"
oil_word Include = codes "Include"
oil_word Depth = codes "Depth"
