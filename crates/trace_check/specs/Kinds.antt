-- The words of the kinds of fault.
use Rattle.std.specs.Prelude.{ℕ, List, codes}
use Rattle.trace_check.specs.declared.fault.TraceKind.{TraceKind}
use Rattle.trace_check.specs.declared.fault.TraceKind.TheVariants.{Json, Shape, Range, Name}

abbrev pub trace_word : TraceKind → List ℕ
trace_word Json = codes "Json"
trace_word Shape = codes "Shape"
trace_word Range = codes "Range"
trace_word Name = codes "Name"
