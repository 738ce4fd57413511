-- The layout of a well-formed tree has the tree.
use Rattle.std.proofs.Common.{◌≡◌, ℕ, zero, suc, ◌+◌, ◌*◌, Bool, true, false, List, [], ◌∷◌, ◌++◌, refl, sym, ap, ◌∙◌, subst, append_assoc, rules}
use Rattle.std.proofs.lemmas.List.{append-nil}
use Rattle.std.specs.Prelude.{codes, replicate}
use Rattle.oil_grammar.specs.Bytes.{is_name_byte, is_numeral_byte}
use Rattle.oil_grammar.specs.Tokens.{found, first_in, is_skipped, after_gap, BeginWith, AreTokensOf}
use Rattle.oil_grammar.specs.Grammar.{Block, empty, plain, braced, WrittenObject, File, value_token, block_tokens, objects_tokens, file_tokens, objects_of, braces_attributes, tree_of, IsTextOf, depth_limit}
use Rattle.oil_grammar.specs.Layout.{margin, quoted_layout, value_layout, line_end, closing_line, attribute_lines, objects_lines, layout_of}
use Rattle.oil_grammar.specs.declared.token.Token.{Token}
use Rattle.oil_grammar.specs.declared.token.Token.TheVariants as token
use Rattle.oil_grammar.specs.declared.tree.Value.{Value}
use Rattle.oil_grammar.specs.declared.tree.Tree.{Tree}
use Rattle.oil_grammar.proofs.Proper.{Every, is_text_byte, IsName, IsProper, text_tokens_proper}
use Rattle.oil_grammar.proofs.Spelled.{first_name, first_equals, first_semicolon, first_open, first_close, first_text, first_value, first_behind_space, first_behind_newline}
use Rattle.oil_grammar.proofs.Bare.{bare, own_block, bare_objects, bare_file, bare_is_file, own_attributes, bare_tree, ProperBlock, ProperObjects, ProperFile, file_proper}
use Rattle.oil_grammar.proofs.BlockLines.{line_of, block_lines, own_lines}

-- One more token, or one more byte of white space.

token_before : (t : Token) (tokens : List Token) (bytes from after : List ℕ) → first_in (is_skipped t) bytes ≡ found t from after → AreTokensOf tokens after → AreTokensOf (t ∷ tokens) bytes
unfolding BeginWith
token_before t tokens bytes from after is are = record { left = are.left; begin = (from, after, is, are.begin); end = are.end }

gap_before : (tokens : List Token) (bytes rest : List ℕ) → ((skips : Bool) → first_in skips bytes ≡ first_in skips rest) → AreTokensOf tokens rest → AreTokensOf tokens bytes
unfolding BeginWith
gap_before [] bytes rest same are = record { left = bytes; begin = refl; end = same false ∙ (ap (λ b. first_in false b) (sym are.begin) ∙ are.end) }
gap_before (t ∷ tokens) bytes rest same are =
    record { left = are.left; begin = (are.begin.0, are.begin.1, same (is_skipped t) ∙ are.begin.2, are.begin.3); end = are.end }

space : (tokens : List Token) (rest : List ℕ) → AreTokensOf tokens rest → AreTokensOf tokens (32 ∷ rest)
space tokens rest are = gap_before tokens (32 ∷ rest) rest (λ skips. first_behind_space skips rest) are

newline : (tokens : List Token) (rest : List ℕ) → AreTokensOf tokens rest → AreTokensOf tokens (10 ∷ rest)
newline tokens rest are = gap_before tokens (10 ∷ rest) rest (λ skips. first_behind_newline skips rest) are

spaces : (count : ℕ) (tokens : List Token) (rest : List ℕ) → AreTokensOf tokens rest → AreTokensOf tokens (replicate count 32 ++ rest)
spaces zero tokens rest are = are
spaces (suc count) tokens rest are = space tokens (replicate count 32 ++ rest) (spaces count tokens rest are)

equals : (tokens : List Token) (rest : List ℕ) → AreTokensOf tokens rest → AreTokensOf (token.Equals ∷ tokens) (61 ∷ rest)
equals tokens rest are = token_before token.Equals tokens (61 ∷ rest) (61 ∷ rest) rest (first_equals rest) are

-- the ends of lines
semicolon : (tokens : List Token) (rest : List ℕ) → AreTokensOf tokens rest → AreTokensOf (token.Semicolon ∷ tokens) (59 ∷ (10 ∷ rest))
semicolon tokens rest are = token_before token.Semicolon tokens (59 ∷ (10 ∷ rest)) (59 ∷ (10 ∷ rest)) (10 ∷ rest) (first_semicolon (10 ∷ rest)) (newline tokens rest are)

open_brace : (tokens : List Token) (rest : List ℕ) → AreTokensOf tokens rest → AreTokensOf (token.Open ∷ tokens) (32 ∷ (123 ∷ (10 ∷ rest)))
open_brace tokens rest are =
    space (token.Open ∷ tokens) (123 ∷ (10 ∷ rest))
    (token_before token.Open tokens (123 ∷ (10 ∷ rest)) (123 ∷ (10 ∷ rest)) (10 ∷ rest) (first_open (10 ∷ rest)) (newline tokens rest are))

name : (n : List ℕ) (c : ℕ) (tokens : List Token) (rest : List ℕ) → IsName n → is_name_byte c ≡ false → AreTokensOf tokens (c ∷ rest) → AreTokensOf (token.Name n ∷ tokens) (n ++ c ∷ rest)
name n c tokens rest is stops are = token_before (token.Name n) tokens (n ++ c ∷ rest) (n ++ c ∷ rest) (c ∷ rest) (first_name n c rest is stops) are

-- Lines.

closing : (level : ℕ) (tokens : List Token) (rest : List ℕ) → AreTokensOf tokens rest → AreTokensOf (token.Close ∷ (token.Semicolon ∷ tokens)) (closing_line level ++ rest)
closing level tokens rest are =
    subst (λ bytes. AreTokensOf (token.Close ∷ (token.Semicolon ∷ tokens)) bytes) (sym (append_assoc (margin level) (codes "};\n") rest))
    (spaces (2 * level) (token.Close ∷ (token.Semicolon ∷ tokens)) (125 ∷ (59 ∷ (10 ∷ rest)))
    (token_before token.Close (token.Semicolon ∷ tokens) (125 ∷ (59 ∷ (10 ∷ rest))) (125 ∷ (59 ∷ (10 ∷ rest))) (59 ∷ (10 ∷ rest)) (first_close (59 ∷ (10 ∷ rest))) (semicolon tokens rest are)))

-- name = value, and a byte that belongs to neither
assignment : (level : ℕ) (n : List ℕ) (v : Value) (c : ℕ) (tokens : List Token) (rest : List ℕ) → IsName n → IsProper (value_token v) → is_skipped (value_token v) ≡ false → is_numeral_byte c ≡ false → is_name_byte c ≡ false → AreTokensOf tokens (c ∷ rest) → AreTokensOf (token.Name n ∷ (token.Equals ∷ (value_token v ∷ tokens))) (margin (level + 1) ++ (n ++ (32 ∷ (61 ∷ (32 ∷ (value_layout v ++ c ∷ rest))))))
assignment level n v c tokens rest is proper outside number_ends name_ends are =
    let spelled = value_layout v ++ c ∷ rest in
    let with_value : AreTokensOf (value_token v ∷ tokens) spelled = token_before (value_token v) tokens spelled spelled (c ∷ rest) (ap (λ m. first_in m spelled) outside ∙ first_value v c rest proper number_ends name_ends) are in
    spaces (2 * (level + 1)) (token.Name n ∷ (token.Equals ∷ (value_token v ∷ tokens))) (n ++ (32 ∷ (61 ∷ (32 ∷ spelled))))
    (name n 32 (token.Equals ∷ (value_token v ∷ tokens)) (61 ∷ (32 ∷ spelled)) is refl
    (space (token.Equals ∷ (value_token v ∷ tokens)) (61 ∷ (32 ∷ spelled))
    (equals (value_token v ∷ tokens) (32 ∷ spelled) (space (value_token v ∷ tokens) spelled with_value))))

value_outside : (v : Value) → is_skipped (value_token v) ≡ false
value_outside v = search rules

plain_line : (level : ℕ) (n : List ℕ) (v : Value) (tokens : List Token) (rest : List ℕ) → IsName n → IsProper (value_token v) → AreTokensOf tokens rest → AreTokensOf (token.Name n ∷ (token.Equals ∷ (value_token v ∷ (token.Semicolon ∷ tokens)))) (line_of level n v false ++ rest)
plain_line level n v tokens rest is proper are =
    let same : line_of level n v false ++ rest ≡ margin (level + 1) ++ (n ++ (32 ∷ (61 ∷ (32 ∷ (value_layout v ++ 59 ∷ (10 ∷ rest)))))) = simp append_assoc in
    subst (λ bytes. AreTokensOf (token.Name n ∷ (token.Equals ∷ (value_token v ∷ (token.Semicolon ∷ tokens)))) bytes) (sym same)
    (assignment level n v 59 (token.Semicolon ∷ tokens) (10 ∷ rest) is proper (value_outside v) refl refl (semicolon tokens rest are))

braced_line : (level : ℕ) (n : List ℕ) (v : Value) (tokens : List Token) (rest : List ℕ) → IsName n → IsProper (value_token v) → AreTokensOf tokens rest → AreTokensOf (token.Name n ∷ (token.Equals ∷ (value_token v ∷ (token.Open ∷ tokens)))) (line_of level n v true ++ rest)
braced_line level n v tokens rest is proper are =
    let same : line_of level n v true ++ rest ≡ margin (level + 1) ++ (n ++ (32 ∷ (61 ∷ (32 ∷ (value_layout v ++ 32 ∷ (123 ∷ (10 ∷ rest))))))) = simp append_assoc in
    subst (λ bytes. AreTokensOf (token.Name n ∷ (token.Equals ∷ (value_token v ∷ (token.Open ∷ tokens)))) bytes) (sym same)
    (assignment level n v 32 (token.Open ∷ tokens) (123 ∷ (10 ∷ rest)) is proper (value_outside v) refl refl (open_brace tokens rest are))

block_again : (level : ℕ) (block : Block) (tokens : List Token) (rest : List ℕ) → ProperBlock block → AreTokensOf tokens rest → AreTokensOf (block_tokens (bare block) tokens) (block_lines level block ++ rest)
unfolding block_tokens
block_again level empty tokens rest proper are = are
block_again level (plain n v description others) tokens rest proper are =
    subst (λ bytes. AreTokensOf (token.Name n ∷ (token.Equals ∷ (value_token v ∷ (token.Semicolon ∷ block_tokens (bare others) tokens)))) bytes)
    (sym (append_assoc (line_of level n v false) (block_lines level others) rest))
    (plain_line level n v (block_tokens (bare others) tokens) (block_lines level others ++ rest) proper.0 proper.1 (block_again level others tokens rest proper.2 are))
block_again level (braced n v inner description others) tokens rest proper are =
    let more = token.Close ∷ (token.Semicolon ∷ block_tokens (bare others) tokens) in
    let same : block_lines level (braced n v inner description others) ++ rest ≡ line_of level n v true ++ (block_lines (suc level) inner ++ (closing_line (suc level) ++ (block_lines level others ++ rest))) = simp append_assoc in
    subst (λ bytes. AreTokensOf (token.Name n ∷ (token.Equals ∷ (value_token v ∷ (token.Open ∷ block_tokens (bare inner) more)))) bytes) (sym same)
    (braced_line level n v (block_tokens (bare inner) more) (block_lines (suc level) inner ++ (closing_line (suc level) ++ (block_lines level others ++ rest))) proper.0 proper.1
    (block_again (suc level) inner more (closing_line (suc level) ++ (block_lines level others ++ rest)) proper.2
    (closing (suc level) (block_tokens (bare others) tokens) (block_lines level others ++ rest) (block_again level others tokens rest proper.3 are))))

-- Objects.

-- kind name {
object_line : (kind n : List ℕ) (tokens : List Token) (rest : List ℕ) → IsName kind → IsName n → AreTokensOf tokens rest → AreTokensOf (token.Name kind ∷ (token.Name n ∷ (token.Open ∷ tokens))) (margin 1 ++ (kind ++ (32 ∷ (n ++ (32 ∷ (123 ∷ (10 ∷ rest)))))))
object_line kind n tokens rest is_kind is_name are =
    spaces 2 (token.Name kind ∷ (token.Name n ∷ (token.Open ∷ tokens))) (kind ++ (32 ∷ (n ++ (32 ∷ (123 ∷ (10 ∷ rest))))))
    (name kind 32 (token.Name n ∷ (token.Open ∷ tokens)) (n ++ (32 ∷ (123 ∷ (10 ∷ rest)))) is_kind refl
    (space (token.Name n ∷ (token.Open ∷ tokens)) (n ++ (32 ∷ (123 ∷ (10 ∷ rest))))
    (name n 32 (token.Open ∷ tokens) (123 ∷ (10 ∷ rest)) is_name refl (open_brace tokens rest are))))

objects_again : (objects : List WrittenObject) (tokens : List Token) (rest : List ℕ) → ProperObjects objects → AreTokensOf tokens rest → AreTokensOf (objects_tokens (bare_objects objects) tokens) (objects_lines (objects_of objects) ++ rest)
unfolding objects_tokens objects_lines objects_of
objects_again [] tokens rest proper are = are
objects_again (object ∷ others) tokens rest proper are =
    let more = objects_tokens (bare_objects others) tokens in
    let after = objects_lines (objects_of others) ++ rest in
    let block = own_block object.block in
    let lines : attribute_lines 1 (braces_attributes object.block) ≡ block_lines 1 block ++ closing_line 1 = ap (λ xs. attribute_lines 1 xs) (sym (own_attributes object.block)) ∙ own_lines block in
    let same : (margin 1 ++ (object.kind ++ (codes " " ++ (object.name ++ (line_end true ++ (block_lines 1 block ++ closing_line 1)))))) ++ objects_lines (objects_of others) ++ rest ≡ margin 1 ++ (object.kind ++ (32 ∷ (object.name ++ (32 ∷ (123 ∷ (10 ∷ (block_lines 1 block ++ (closing_line 1 ++ after)))))))) = simp append_assoc in
    subst (λ bytes. AreTokensOf (token.Name object.kind ∷ (token.Name object.name ∷ (token.Open ∷ block_tokens (bare block) (token.Close ∷ (token.Semicolon ∷ more))))) bytes)
    (sym (ap (λ ls. ((margin 1 ++ (object.kind ++ (codes " " ++ (object.name ++ (line_end true ++ ls))))) ++ objects_lines (objects_of others)) ++ rest) lines ∙ same))
    (object_line object.kind object.name (block_tokens (bare block) (token.Close ∷ (token.Semicolon ∷ more))) (block_lines 1 block ++ (closing_line 1 ++ after)) proper.0 proper.1
    (block_again 1 block (token.Close ∷ (token.Semicolon ∷ more)) (closing_line 1 ++ after) proper.2
    (closing 1 more after (objects_again others tokens rest proper.3 are))))

-- The file.

nothing_left : AreTokensOf [] []
unfolding BeginWith after_gap
nothing_left = record { left = []; begin = refl; end = refl }

version_word : IsName (codes "OIL_VERSION")
version_word = record { first = 79; others = codes "IL_VERSION"; same = refl; letter = refl; name_bytes = (refl, (refl, (refl, (refl, (refl, (refl, (refl, (refl, (refl, (refl, tt)))))))))) }

cpu_word : IsName (codes "CPU")
cpu_word = record { first = 67; others = codes "PU"; same = refl; letter = refl; name_bytes = (refl, (refl, tt)) }

version_again : (version : List ℕ) (tokens : List Token) (rest : List ℕ) → Every is_text_byte version → AreTokensOf tokens rest → AreTokensOf (token.Name (codes "OIL_VERSION") ∷ (token.Equals ∷ (token.Text version ∷ (token.Semicolon ∷ tokens)))) (codes "OIL_VERSION = " ++ (quoted_layout version ++ (59 ∷ (10 ∷ rest))))
version_again version tokens rest proper are =
    let text = quoted_layout version ++ (59 ∷ (10 ∷ rest)) in
    let more = token.Text version ∷ (token.Semicolon ∷ tokens) in
    name (codes "OIL_VERSION") 32 (token.Equals ∷ more) (61 ∷ (32 ∷ text)) version_word refl
    (space (token.Equals ∷ more) (61 ∷ (32 ∷ text)) (equals more (32 ∷ text) (space more text
    (token_before (token.Text version) (token.Semicolon ∷ tokens) text text (59 ∷ (10 ∷ rest)) (first_text version (59 ∷ (10 ∷ rest)) proper) (semicolon tokens rest are)))))

cpu_again : (n : List ℕ) (tokens : List Token) (rest : List ℕ) → IsName n → AreTokensOf tokens rest → AreTokensOf (token.Name (codes "CPU") ∷ (token.Name n ∷ (token.Open ∷ tokens))) (codes "CPU " ++ (n ++ (32 ∷ (123 ∷ (10 ∷ rest)))))
cpu_again n tokens rest is are =
    name (codes "CPU") 32 (token.Name n ∷ (token.Open ∷ tokens)) (n ++ (32 ∷ (123 ∷ (10 ∷ rest)))) cpu_word refl
    (space (token.Name n ∷ (token.Open ∷ tokens)) (n ++ (32 ∷ (123 ∷ (10 ∷ rest))))
    (name n 32 (token.Open ∷ tokens) (123 ∷ (10 ∷ rest)) is refl (open_brace tokens rest are)))

file_again : (file : File) → ProperFile file → AreTokensOf (file_tokens (bare_file file)) (layout_of (tree_of file))
file_again file proper =
    let end = token.Close ∷ (token.Semicolon ∷ []) in
    let objects = objects_tokens (bare_objects file.objects) end in
    let lines = objects_lines (objects_of file.objects) ++ closing_line 0 in
    let closed : AreTokensOf end (closing_line 0) = subst (λ bytes. AreTokensOf end bytes) (append-nil (closing_line 0)) (closing 0 [] [] nothing_left) in
    let all : AreTokensOf objects lines = objects_again file.objects end (closing_line 0) proper.objects closed in
    let same : layout_of (tree_of file) ≡ codes "OIL_VERSION = " ++ (quoted_layout file.version ++ (59 ∷ (10 ∷ (codes "CPU " ++ (file.cpu ++ (32 ∷ (123 ∷ (10 ∷ lines)))))))) = simp append_assoc in
    subst (λ bytes. AreTokensOf (file_tokens (bare_file file)) bytes) (sym same)
    (version_again file.version (token.Name (codes "CPU") ∷ (token.Name file.cpu ∷ (token.Open ∷ objects))) (codes "CPU " ++ (file.cpu ++ (32 ∷ (123 ∷ (10 ∷ lines))))) proper.version
    (cpu_again file.cpu objects lines proper.cpu all))

-- The layout of the tree of a text has the tree.
pub text_again : (tree : Tree) (bytes : List ℕ) → IsTextOf tree bytes → IsTextOf tree (layout_of tree)
text_again tree bytes text =
    let proper : ProperFile text.file = file_proper text.file (text_tokens_proper (file_tokens text.file) bytes text.tokens) in
    record {
      file = bare_file text.file;
      is_file = bare_is_file depth_limit text.file text.is_file;
      tokens = subst (λ t. AreTokensOf (file_tokens (bare_file text.file)) (layout_of t)) text.same (file_again text.file proper);
      same = bare_tree text.file ∙ text.same;
    }
