-- Worked cases of the definitions, which the checker computes.
use Rattle.std.proofs.Common.{◌≡◌, true, false, [], ◌∷◌, ◌++◌, refl, None}
use Rattle.std.specs.Prelude.{codes}
use Rattle.oil_grammar.specs.declared.fault.OilKind.TheVariants.{Number, Include}
use Rattle.oil_grammar.specs.declared.token.Token.TheVariants as token
use Rattle.oil_grammar.specs.declared.tree.Value.TheVariants as value
use Rattle.oil_grammar.specs.Tokens.{after_gap, token_at, value_after, first_in, found, bad}
use Rattle.oil_grammar.specs.Grammar.{empty, plain, braced, attributes_of}
use Rattle.oil_grammar.specs.Faults.{line_of}
use Rattle.oil_grammar.specs.Layout.{value_layout, closing_lines, attribute_lines, objects_lines, layout_of}
use Rattle.std.specs.Fmt.{digits}

-- white space and a comment are passed over
first_name : first_in false (codes " /* a */ b;") ≡ found (token.Name (codes "b")) (codes "b;") (codes ";")
unfolding after_gap token_at
first_name = refl

-- in the skipped part so is all else up to the next brace
skipped_brace : first_in true (codes "x = \"}\"; } ;") ≡ found token.SkippedClose (codes "} ;") (codes " ;")
unfolding after_gap token_at
skipped_brace = refl

hexadecimal : first_in false (codes "-0x1F;") ≡ found (token.Number true 31) (codes "-0x1F;") (codes ";")
unfolding after_gap token_at value_after
hexadecimal = refl

-- a number may not be followed by a dot
dotted : first_in false (codes "1.5;") ≡ bad Number (codes "1.5;")
unfolding after_gap token_at value_after
dotted = refl

including : first_in false (codes "#include \"a\"") ≡ bad Include (codes "#include \"a\"")
unfolding after_gap token_at
including = refl

-- the place of two bytes that are left behind one newline
second_line : line_of (codes "a" ++ (10 ∷ codes "b;")) 2 ≡ 2
second_line = refl

-- AUTOSTART = TRUE { APPMODE = M; }; as attributes
levels : attributes_of 1 (braced (codes "A") (value.Bool true) (plain (codes "B") (value.Name (codes "M")) None empty) None empty) ≡ record { level = 1; name = codes "A"; value = value.Bool true; braces = true } ∷ (record { level = 2; name = codes "B"; value = value.Name (codes "M"); braces = false } ∷ [])
unfolding attributes_of
levels = refl

-- a block that ends where its object ends
nested_layout : attribute_lines 1 (record { level = 1; name = codes "A"; value = value.Bool true; braces = true } ∷ (record { level = 2; name = codes "B"; value = value.Name (codes "M"); braces = false } ∷ [])) ≡ codes "    A = TRUE {\n      B = M;\n    };\n  };\n"
unfolding attribute_lines closing_lines
nested_layout = refl

-- an object that has no braces is written with them
object_layout : layout_of (record { version = codes "2"; cpu = codes "C"; objects = record { kind = codes "COUNTER"; name = codes "K"; attributes = [] } ∷ [] }) ≡ codes "OIL_VERSION = \"2\";\nCPU C {\n  COUNTER K {\n  };\n};\n"
unfolding objects_lines attribute_lines closing_lines
object_layout = refl

signed_layout : value_layout (value.Number true 0) ≡ codes "-0"
unfolding digits
signed_layout = refl
