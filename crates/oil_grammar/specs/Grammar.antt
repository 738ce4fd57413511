-- The grammar of OIL texts: a file as it is written, with its descriptions and its IMPLEMENTATION part; its
-- tokens; and its tree, in which these leave no trace. A function from a part to its tokens takes the tokens
-- that follow the part.
--
--   file      = "OIL_VERSION" "=" text descr ";" [implementation] cpu
--   implementation = "IMPLEMENTATION" name "{" skipped "}" descr ";"
--   cpu       = "CPU" name "{" object* "}" descr ";"
--   object    = name name ["{" attribute* "}"] descr ";"
--   attribute = name "=" value descr ";"
--   value     = number | text | AUTO | (name | boolean) ["{" attribute* "}"]
--   descr     = [":" text]
use Rattle.std.specs.Prelude.{◌≡◌, ◌≢◌, ℕ, suc, ◌<◌, true, false, List, [], ◌∷◌, ◌++◌, Option, Some, None, codes, ⊤}
use Rattle.oil_grammar.specs.Tokens.{AreTokensOf}
use Rattle.oil_grammar.specs.declared.token.Token.{Token}
use Rattle.oil_grammar.specs.declared.token.Token.TheVariants as token
use Rattle.oil_grammar.specs.declared.tree.Value.{Value}
use Rattle.oil_grammar.specs.declared.tree.Value.TheVariants as value
use Rattle.oil_grammar.specs.declared.tree.Attribute.{Attribute}
use Rattle.oil_grammar.specs.declared.tree.Object.{Object}
use Rattle.oil_grammar.specs.declared.tree.Tree.{Tree}

-- the attributes of a block, as they are written
pub data Block : Type 0 where
  empty : Block
  -- name = value descr ;
  plain : List ℕ → Value → Option (List ℕ) → Block → Block
  -- name = value { attributes } descr ;
  braced : List ℕ → Value → Block → Option (List ℕ) → Block → Block

-- an object: its kind, its name, its braces if it has them, and its description
pub record WrittenObject : Type 0 where
  pub kind : List ℕ
  pub name : List ℕ
  pub block : Option Block
  pub description : Option (List ℕ)

-- the braces within the braces of the skipped part
pub data Braces : Type 0 where
  none : Braces
  -- { within } and those after
  some : Braces → Braces → Braces

pub record Implementation : Type 0 where
  pub name : List ℕ
  pub skipped : Braces
  pub description : Option (List ℕ)

pub record File : Type 0 where
  pub version : List ℕ
  pub version_description : Option (List ℕ)
  pub implementation : Option Implementation
  pub cpu : List ℕ
  pub objects : List WrittenObject
  pub description : Option (List ℕ)

-- The tokens.

-- descr ;
abbrev pub ending : Option (List ℕ) → List Token → List Token
ending None follow = token.Semicolon ∷ follow
ending (Some description) follow = token.Colon ∷ (token.Text description ∷ (token.Semicolon ∷ follow))

abbrev pub value_token : Value → Token
value_token (value.Name name) = token.Name name
value_token (value.Number negative size) = token.Number negative size
value_token (value.Text text) = token.Text text
value_token (value.Bool true) = token.Name (codes "TRUE")
value_token (value.Bool false) = token.Name (codes "FALSE")
value_token value.Auto = token.Name (codes "AUTO")

unfoldable pub block_tokens : Block → List Token → List Token
block_tokens empty follow = follow
block_tokens (plain name value description others) follow =
    token.Name name ∷ (token.Equals ∷ (value_token value ∷ ending description (block_tokens others follow)))
block_tokens (braced name value inner description others) follow =
    token.Name name ∷ (token.Equals ∷ (value_token value ∷ (token.Open ∷ block_tokens inner (token.Close ∷ ending description (block_tokens others follow)))))

-- the braces of an object, where it has them
abbrev pub braces_tokens : Option Block → List Token → List Token
braces_tokens None follow = follow
braces_tokens (Some block) follow = token.Open ∷ block_tokens block (token.Close ∷ follow)

unfoldable pub objects_tokens : List WrittenObject → List Token → List Token
objects_tokens [] follow = follow
objects_tokens (object ∷ others) follow =
    token.Name object.kind ∷ (token.Name object.name ∷ braces_tokens object.block (ending object.description (objects_tokens others follow)))

unfoldable pub skipped_tokens : Braces → List Token → List Token
skipped_tokens none follow = follow
skipped_tokens (some within others) follow = token.SkippedOpen ∷ skipped_tokens within (token.SkippedClose ∷ skipped_tokens others follow)

abbrev pub implementation_tokens : Option Implementation → List Token → List Token
implementation_tokens None follow = follow
implementation_tokens (Some part) follow =
    token.Name (codes "IMPLEMENTATION") ∷ (token.Name part.name ∷ (token.Open ∷ skipped_tokens part.skipped (token.SkippedClose ∷ ending part.description follow)))

abbrev pub cpu_tokens : List ℕ → List WrittenObject → Option (List ℕ) → List Token
cpu_tokens name objects description =
    token.Name (codes "CPU") ∷ (token.Name name ∷ (token.Open ∷ objects_tokens objects (token.Close ∷ ending description [])))

abbrev pub file_tokens : File → List Token
file_tokens file =
    token.Name (codes "OIL_VERSION") ∷ (token.Equals ∷ (token.Text file.version ∷ ending file.version_description
    (implementation_tokens file.implementation (cpu_tokens file.cpu file.objects file.description))))

-- What is written so.

-- `TRUE`, `FALSE` and `AUTO` are no names where they are values
pub record IsNoWord (name : List ℕ) : Type 0 where
  pub not_true : name ≢ codes "TRUE"
  pub not_false : name ≢ codes "FALSE"
  pub not_auto : name ≢ codes "AUTO"

abbrev pub IsValue : Value → Type 0
IsValue (value.Name name) = IsNoWord name
IsValue (value.Number negative size) = ⊤
IsValue (value.Text text) = ⊤
IsValue (value.Bool b) = ⊤
IsValue value.Auto = ⊤

-- a value that a block may follow
abbrev pub IsBracedValue : Value → Type 0
IsBracedValue (value.Name name) = IsNoWord name
IsBracedValue (value.Number negative size) = ⊥
IsBracedValue (value.Text text) = ⊥
IsBracedValue (value.Bool b) = ⊤
IsBracedValue value.Auto = ⊥

-- A block that so many braces are open in, itself among them, has values and blocks as it may, and no more than
-- limit braces are ever open.
unfoldable pub IsBlock : ℕ → ℕ → Block → Type 0
IsBlock limit level empty = ⊤
IsBlock limit level (plain name value description others) = IsValue value × IsBlock limit level others
IsBlock limit level (braced name value inner description others) =
    IsBracedValue value × (level < limit) × IsBlock limit (suc level) inner × IsBlock limit level others

abbrev pub IsObjectBlock : ℕ → Option Block → Type 0
IsObjectBlock limit None = ⊤
IsObjectBlock limit (Some block) = IsBlock limit 1 block

unfoldable pub AreObjects : ℕ → List WrittenObject → Type 0
AreObjects limit [] = ⊤
AreObjects limit (object ∷ others) = IsObjectBlock limit object.block × AreObjects limit others

abbrev pub IsFile : ℕ → File → Type 0
IsFile limit file = AreObjects limit file.objects

-- The tree.

unfoldable pub attributes_of : ℕ → Block → List Attribute
attributes_of level empty = []
attributes_of level (plain name value description others) =
    record { level = level; name = name; value = value; braces = false } ∷ attributes_of level others
attributes_of level (braced name value inner description others) =
    record { level = level; name = name; value = value; braces = true } ∷ (attributes_of (suc level) inner ++ attributes_of level others)

abbrev pub braces_attributes : Option Block → List Attribute
braces_attributes None = []
braces_attributes (Some block) = attributes_of 1 block

unfoldable pub objects_of : List WrittenObject → List Object
objects_of [] = []
objects_of (object ∷ others) =
    record { kind = object.kind; name = object.name; attributes = braces_attributes object.block } ∷ objects_of others

abbrev pub tree_of : File → Tree
tree_of file = record { version = file.version; cpu = file.cpu; objects = objects_of file.objects }

-- blocks nest at most so deep, the block of an object being the first
abbrev pub depth_limit : ℕ
depth_limit = 16

-- The whole text has the tree.
pub record IsTextOf (tree : Tree) (bytes : List ℕ) : Type 0 where
  pub file : File
  pub is_file : IsFile depth_limit file
  pub tokens : AreTokensOf (file_tokens file) bytes
  pub same : tree_of file ≡ tree

-- A tree is well formed where some text has it.
abbrev pub IsWellFormed : Tree → Type 0
IsWellFormed tree = (bytes : List ℕ) × IsTextOf tree bytes
