use Rattle.std.proofs.Common.{◌≡◌, ◌++◌, drop}
use Rattle.oil_grammar.specs.Layout.{attribute_lines}
use Rattle.oil_grammar.proofs.writing.put_attributes.Given as goal

-- what is written, with the lines of the attributes that are left, is all of them
abbrev pub invariant-loop-attribute : goal.invariant-loop-attribute
invariant-loop-attribute l = l.out.items ++ attribute_lines l.level (drop l.attribute-index l.attributes) ≡ l.initial.out.items ++ attribute_lines 1 l.attributes
