use Rattle.std.proofs.Common.{◌≡◌, ◌++◌, drop}
use Rattle.oil_grammar.specs.Layout.{objects_lines}
use Rattle.oil_grammar.proofs.writing.put_objects.Given as goal

-- what is written, with the lines of the objects that are left, is all of them
abbrev pub invariant-loop-object : goal.invariant-loop-object
invariant-loop-object l = l.out.items ++ objects_lines (drop l.object-index l.objects) ≡ l.initial.out.items ++ objects_lines l.objects
