-- The layout that `write_oil` gives a tree: two spaces for each level, an attribute on each line, braces round
-- every object, and decimal numbers.
use Rattle.std.specs.Prelude.{ℕ, zero, suc, ◌+◌, ◌-◌, ◌*◌, Bool, true, false, List, [], ◌∷◌, ◌++◌, if◌then◌else◌, replicate, codes, decimal}
use Rattle.oil_grammar.specs.declared.tree.Value.{Value}
use Rattle.oil_grammar.specs.declared.tree.Value.TheVariants as value
use Rattle.oil_grammar.specs.declared.tree.Attribute.{Attribute}
use Rattle.oil_grammar.specs.declared.tree.Object.{Object}
use Rattle.oil_grammar.specs.declared.tree.Tree.{Tree}

-- the spaces before what stands so many levels deep
abbrev pub margin : ℕ → List ℕ
margin level = replicate (2 * level) 32

abbrev pub quoted_layout : List ℕ → List ℕ
quoted_layout text = 34 ∷ (text ++ (34 ∷ []))

-- `-` before a number that has a sign
abbrev pub sign_layout : Bool → List ℕ
sign_layout negative = if negative then codes "-" else []

abbrev pub bool_layout : Bool → List ℕ
bool_layout b = if b then codes "TRUE" else codes "FALSE"

abbrev pub value_layout : Value → List ℕ
value_layout (value.Name name) = name
value_layout (value.Number negative size) = sign_layout negative ++ decimal size
value_layout (value.Text text) = quoted_layout text
value_layout (value.Bool b) = bool_layout b
value_layout value.Auto = codes "AUTO"

-- ` {` or `;`, and the end of the line
abbrev pub line_end : Bool → List ℕ
line_end opens = if opens then codes " {\n" else codes ";\n"

-- the line of an attribute; the processor's own level stands outside of that of its objects
abbrev pub attribute_line : Attribute → List ℕ
attribute_line a = margin (a.level + 1) ++ (a.name ++ (codes " = " ++ (value_layout a.value ++ line_end a.braces)))

-- the line that ends a block so many levels deep
abbrev pub closing_line : ℕ → List ℕ
closing_line level = margin level ++ codes "};\n"

-- the ends of so many blocks, the innermost of which is so many levels deep
unfoldable pub closing_lines : ℕ → ℕ → List ℕ
closing_lines zero level = []
closing_lines (suc count) level = closing_line level ++ closing_lines count (level - 1)

-- the level of the attributes after this one, where it isn't the last one of its block
abbrev pub level_within : Attribute → ℕ
level_within a = if a.braces then a.level + 1 else a.level

-- attributes within so many open blocks, with the ends of the blocks between them and after them
unfoldable pub attribute_lines : ℕ → List Attribute → List ℕ
attribute_lines level [] = closing_lines level level
attribute_lines level (a ∷ others) = closing_lines (level - a.level) level ++ (attribute_line a ++ attribute_lines (level_within a) others)

abbrev pub object_lines : Object → List ℕ
object_lines object = margin 1 ++ (object.kind ++ (codes " " ++ (object.name ++ (line_end true ++ attribute_lines 1 object.attributes))))

unfoldable pub objects_lines : List Object → List ℕ
objects_lines [] = []
objects_lines (object ∷ others) = object_lines object ++ objects_lines others

abbrev pub version_line : Tree → List ℕ
version_line tree = codes "OIL_VERSION = " ++ (quoted_layout tree.version ++ line_end false)

abbrev pub cpu_line : Tree → List ℕ
cpu_line tree = codes "CPU " ++ (tree.cpu ++ line_end true)

abbrev pub layout_of : Tree → List ℕ
layout_of tree = version_line tree ++ (cpu_line tree ++ (objects_lines tree.objects ++ closing_line 0))
