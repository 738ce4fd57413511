-- The words of the kinds of fault.
use Rattle.std.specs.Prelude.{ℕ, List, codes}
use Rattle.promises_file.specs.declared.fault.PromisesKind.{PromisesKind}
use Rattle.promises_file.specs.declared.fault.PromisesKind.TheVariants.{Json, Shape, Name, Range, Twice}

abbrev pub promises_word : PromisesKind → List ℕ
promises_word Json = codes "Json"
promises_word Shape = codes "Shape"
promises_word Name = codes "Name"
promises_word Range = codes "Range"
promises_word Twice = codes "Twice"
