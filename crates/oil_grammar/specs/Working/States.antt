-- Reading as a fold: the state after a token, if a text can go on with it. The crate's clauses speak of the
-- grammar; that these states read it is proved in proofs/.
use Rattle.std.specs.Prelude.{◌≤◌, ⊤, ℕ, zero, suc, Bool, true, false, List, [], ◌∷◌, ◌++◌, Option, Some, None, if◌then◌else◌, nat_lt, codes, option_and_then}
use Rattle.std.specs.Str.{bytes_eq}
use Rattle.oil_grammar.specs.declared.fault.OilKind.{OilKind}
use Rattle.oil_grammar.specs.declared.fault.OilKind.TheVariants.{Expected, Depth}
use Rattle.oil_grammar.specs.declared.token.Token.{Token}
use Rattle.oil_grammar.specs.declared.token.Token.TheVariants as token
use Rattle.oil_grammar.specs.declared.tree.Value.{Value}
use Rattle.oil_grammar.specs.declared.tree.Value.TheVariants as value
use Rattle.oil_grammar.specs.declared.tree.Object.{Object}
use Rattle.oil_grammar.specs.declared.tree.Tree.{Tree}
use Rattle.oil_grammar.specs.declared.state.Around.{Around}
use Rattle.oil_grammar.specs.declared.state.Part.{Part}
use Rattle.oil_grammar.specs.declared.state.Part.TheVariants as part
use Rattle.oil_grammar.specs.declared.state.State.{State}
use Rattle.oil_grammar.specs.declared.state.State.TheVariants.{Start, VersionEquals, VersionText, Ending, Describing, Described, Head, ImplementationName, ImplementationBlock, Skipping, CpuWord, CpuName, CpuBlock, Objects, ObjectName, ObjectBlock, Attributes, AttributeEquals, AttributeValue, AttributeBlock, Finished}

abbrev pub when : Bool → State → Option State
when true state = Some state
when false state = None

abbrev pub with_object : Tree → Object → Tree
with_object tree object = record { version = tree.version; cpu = tree.cpu; objects = tree.objects ++ (object ∷ []) }

abbrev pub around : Tree → Object → ℕ → Around
around tree object level = record { tree = tree; object = object; level = level }

abbrev pub object_with : Object → ℕ → List ℕ → Value → Bool → Object
object_with object level name value braces =
    record { kind = object.kind; name = object.name; attributes = object.attributes ++ (record { level = level; name = name; value = value; braces = braces } ∷ []) }

-- the same with one more attribute of the object
abbrev pub with_attribute : Around → List ℕ → Value → Bool → Around
with_attribute a name value braces = around a.tree (object_with a.object a.level name value braces) a.level

-- the same, one block further in
abbrev pub within : Around → Around
within a = around a.tree a.object (suc a.level)

-- after the `;` of a part
abbrev pub after_part : Part → State
after_part (part.Version version) = Head version
after_part (part.Implementation version) = CpuWord version
after_part (part.Attribute a) = Attributes a
after_part (part.Object tree object) = Objects (with_object tree object)
after_part (part.Cpu tree) = Finished tree

-- after a `}` of the skipped part, within so many braces
abbrev pub after_skipped : List ℕ → ℕ → State
after_skipped version zero = Ending (part.Implementation version)
after_skipped version (suc depth) = Skipping version depth

-- after the `}` of a block of this level
abbrev pub block_end : Tree → Object → ℕ → State
block_end tree object zero = Ending (part.Object tree object)
block_end tree object (suc zero) = Ending (part.Object tree object)
block_end tree object (suc (suc level)) = Ending (part.Attribute (around tree object (suc level)))

abbrev pub after_block : Around → State
after_block a = block_end a.tree a.object a.level

-- the value that a name stands for
abbrev pub word_value : List ℕ → Value
word_value name =
    if bytes_eq name (codes "TRUE") then value.Bool true
    else (if bytes_eq name (codes "FALSE") then value.Bool false
    else (if bytes_eq name (codes "AUTO") then value.Auto
    else value.Name name))

-- after a value without a block
abbrev pub plainly : Around → List ℕ → Value → State
plainly a name value = Ending (part.Attribute (with_attribute a name value false))

-- after a value: a block may follow a name or a boolean
abbrev pub after_value : Around → List ℕ → Value → State
after_value a name (value.Name word) = AttributeBlock a name (value.Name word)
after_value a name (value.Number negative size) = plainly a name (value.Number negative size)
after_value a name (value.Text text) = plainly a name (value.Text text)
after_value a name (value.Bool b) = AttributeBlock a name (value.Bool b)
after_value a name value.Auto = plainly a name value.Auto

abbrev pub after_head : List ℕ → List ℕ → Option State
after_head version name =
    if bytes_eq name (codes "IMPLEMENTATION") then Some (ImplementationName version)
    else when (bytes_eq name (codes "CPU")) (CpuName version)

-- The state after a token, where blocks may nest so deep; None where no text goes on so.
unfoldable pub next : ℕ → State → Token → Option State
next limit Start (token.Name name) = when (bytes_eq name (codes "OIL_VERSION")) VersionEquals
next limit VersionEquals token.Equals = Some VersionText
next limit VersionText (token.Text version) = Some (Ending (part.Version version))
next limit (Ending part) token.Colon = Some (Describing part)
next limit (Ending part) token.Semicolon = Some (after_part part)
next limit (Describing part) (token.Text description) = Some (Described part)
next limit (Described part) token.Semicolon = Some (after_part part)
next limit (Head version) (token.Name name) = after_head version name
next limit (ImplementationName version) (token.Name name) = Some (ImplementationBlock version)
next limit (ImplementationBlock version) token.Open = Some (Skipping version 0)
next limit (Skipping version depth) token.SkippedOpen = Some (Skipping version (suc depth))
next limit (Skipping version depth) token.SkippedClose = Some (after_skipped version depth)
next limit (CpuWord version) (token.Name name) = when (bytes_eq name (codes "CPU")) (CpuName version)
next limit (CpuName version) (token.Name name) = Some (CpuBlock (record { version = version; cpu = name; objects = [] }))
next limit (CpuBlock tree) token.Open = Some (Objects tree)
next limit (Objects tree) token.Close = Some (Ending (part.Cpu tree))
next limit (Objects tree) (token.Name kind) = Some (ObjectName tree kind)
next limit (ObjectName tree kind) (token.Name name) = Some (ObjectBlock tree (record { kind = kind; name = name; attributes = [] }))
next limit (ObjectBlock tree object) token.Open = Some (Attributes (around tree object 1))
next limit (ObjectBlock tree object) token.Colon = Some (Describing (part.Object tree object))
next limit (ObjectBlock tree object) token.Semicolon = Some (Objects (with_object tree object))
next limit (Attributes a) token.Close = Some (after_block a)
next limit (Attributes a) (token.Name name) = Some (AttributeEquals a name)
next limit (AttributeEquals a name) token.Equals = Some (AttributeValue a name)
next limit (AttributeValue a name) (token.Name word) = Some (after_value a name (word_value word))
next limit (AttributeValue a name) (token.Number negative size) = Some (plainly a name (value.Number negative size))
next limit (AttributeValue a name) (token.Text text) = Some (plainly a name (value.Text text))
next limit (AttributeBlock a name value) token.Open = when (nat_lt a.level limit) (Attributes (within (with_attribute a name value true)))
next limit (AttributeBlock a name value) token.Colon = Some (Describing (part.Attribute (with_attribute a name value false)))
next limit (AttributeBlock a name value) token.Semicolon = Some (Attributes (with_attribute a name value false))
next limit _ _ = None

-- the state after all these tokens
unfoldable pub run : ℕ → State → List Token → Option State
run limit state [] = Some state
run limit state (t ∷ tokens) = option_and_then (λ after. run limit after tokens) (next limit state t)

-- whether the bytes after the state are read as those of the skipped part
abbrev pub is_skipping : State → Bool
is_skipping (Skipping version depth) = true
is_skipping _ = false

-- what is wrong with a token that no text goes on with: only a brace after a value may be one too deep
abbrev pub fault_at : State → Token → OilKind
fault_at (AttributeBlock a name value) token.Open = Depth
fault_at _ _ = Expected

-- no more blocks are open than may be
abbrev pub PartFits : ℕ → Part → Type 0
PartFits limit (part.Version version) = ⊤
PartFits limit (part.Implementation version) = ⊤
PartFits limit (part.Attribute a) = a.level ≤ limit
PartFits limit (part.Object tree object) = ⊤
PartFits limit (part.Cpu tree) = ⊤

abbrev pub StateFits : ℕ → State → Type 0
StateFits limit (Ending part) = PartFits limit part
StateFits limit (Describing part) = PartFits limit part
StateFits limit (Described part) = PartFits limit part
StateFits limit (Attributes a) = a.level ≤ limit
StateFits limit (AttributeEquals a name) = a.level ≤ limit
StateFits limit (AttributeValue a name) = a.level ≤ limit
StateFits limit (AttributeBlock a name value) = a.level ≤ limit
StateFits limit _ = ⊤

-- the tree of a state behind a whole file
abbrev pub tree_at : State → Option Tree
tree_at (Finished tree) = Some tree
tree_at _ = None
