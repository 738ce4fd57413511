-- The fault of a text that has no tree: the first place at which no text can go on.
use Rattle.std.specs.Prelude.{◌≡◌, ℕ, ◌+◌, ◌-◌, ◌==◌, Bool, true, false, List, [], ◌∷◌, ◌++◌, length, take, count_by, ⊤}
use Rattle.oil_grammar.specs.Tokens.{First, ended, bad, found, first_in, is_skipped, BeginWith}
use Rattle.oil_grammar.specs.Grammar.{File, IsFile, file_tokens, depth_limit, IsTextOf}
use Rattle.oil_grammar.specs.declared.fault.OilKind.{OilKind}
use Rattle.oil_grammar.specs.declared.fault.OilFault.{OilFault}
use Rattle.oil_grammar.specs.declared.fault.OilFault.TheVariants as fault
use Rattle.oil_grammar.specs.declared.tree.Tree.{Tree}
use Rattle.oil_grammar.specs.declared.fault.OilKind.TheVariants.{Expected, Depth}
use Rattle.oil_grammar.specs.declared.token.Token.{Token}

-- tokens with which a file begins, if blocks may nest so deep
pub record CanGoOn (limit : ℕ) (tokens : List Token) : Type 0 where
  pub file : File
  pub is_file : IsFile limit file
  pub more : List Token
  pub same : file_tokens file ≡ tokens ++ more

-- the tokens of a whole file
pub record IsComplete (tokens : List Token) : Type 0 where
  pub file : File
  pub is_file : IsFile depth_limit file
  pub same : file_tokens file ≡ tokens

-- A file that begins with these tokens goes on in the skipped part, or it doesn't: what the next token may be
-- says how the bytes before it are read. (After a whole file no token follows, and the text outside is read.)
abbrev pub GoesOnWithin : Bool → List Token → Type 0
GoesOnWithin true tokens = (next : Token) × (is_skipped next ≡ true) × CanGoOn depth_limit (tokens ++ next ∷ [])
GoesOnWithin false tokens = (next : Token) → is_skipped next ≡ true → CanGoOn depth_limit (tokens ++ next ∷ []) → ⊥

-- what is wrong with a token that can't stand there: it opens one block too many, and could stand there but for
-- the limit; or it couldn't stand there at all
abbrev pub IsKindOf : OilKind → List Token → Type 0
IsKindOf kind tokens =
    (CanGoOn (depth_limit + 1) tokens → kind ≡ Depth) × ((CanGoOn (depth_limit + 1) tokens → ⊥) → kind ≡ Expected)

-- What the bytes begin with can't follow these tokens: the kind, and what is left from the place on.
abbrev pub FailsWith : List Token → First → OilKind → List ℕ → Type 0
FailsWith tokens ended kind place = (IsComplete tokens → ⊥) × (kind ≡ Expected) × (place ≡ [])
FailsWith tokens (bad why from) kind place = (kind ≡ why) × (place ≡ from)
FailsWith tokens (found next from after) kind place =
    (CanGoOn depth_limit (tokens ++ next ∷ []) → ⊥) × IsKindOf kind (tokens ++ next ∷ []) × (place ≡ from)

-- the line of the place at which so many bytes are left: 1 plus the number of newlines before it
abbrev pub line_of : List ℕ → ℕ → ℕ
line_of bytes left = 1 + count_by (λ b. b == 10) (take (length bytes - left) bytes)

-- The fault of a text.
pub record IsFaultOf (bytes : List ℕ) (line : ℕ) (kind : OilKind) : Type 0 where
  pub tokens : List Token
  pub left : List ℕ
  -- the text begins with these tokens, and some text goes on after them
  pub begin : BeginWith tokens bytes left
  pub can_go_on : CanGoOn depth_limit tokens
  -- and what follows is in its way
  pub skips : Bool
  pub within : GoesOnWithin skips tokens
  pub place : List ℕ
  pub fails : FailsWith tokens (first_in skips left) kind place
  pub on_line : line ≡ line_of bytes (length place)

-- the text has at most one fault
abbrev pub HasOneFault : List ℕ → Type 0
HasOneFault bytes =
    (line other_line : ℕ) (kind other_kind : OilKind)
    → IsFaultOf bytes line kind → IsFaultOf bytes other_line other_kind → (line ≡ other_line) × (kind ≡ other_kind)

-- some tree has the text
abbrev pub HasTree : List ℕ → Type 0
HasTree bytes = (tree : Tree) × IsTextOf tree bytes

abbrev pub HasFault : List ℕ → Type 0
HasFault bytes = (line : ℕ) × (kind : OilKind) × IsFaultOf bytes line kind

-- no tree has the text
abbrev pub HasNoTree : List ℕ → Type 0
HasNoTree bytes = (tree : Tree) → IsTextOf tree bytes → ⊥

-- what a refusal of `read_oil` says; nothing, where memory ran out
abbrev pub IsRefusalOf : List ℕ → OilFault → Type 0
IsRefusalOf bytes (fault.At line kind) = HasNoTree bytes × IsFaultOf bytes line kind
IsRefusalOf bytes fault.Memory = ⊤
