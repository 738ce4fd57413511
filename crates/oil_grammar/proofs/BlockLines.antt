-- The lines of attributes, which stand in a list with their levels, are those of their blocks.
use Rattle.std.proofs.Common.{◌≡◌, ℕ, suc, ◌+◌, ◌-◌, ◌≤◌, Bool, true, false, List, [], ◌∷◌, ◌++◌, refl, sym, ap, ◌∙◌, append_assoc, arith}
use Rattle.std.specs.Prelude.{⊤}
use Rattle.std.proofs.lemmas.List.{append-nil}
use Rattle.oil_grammar.specs.Grammar.{Block, empty, plain, braced, attributes_of}
use Rattle.oil_grammar.specs.Layout.{closing_line, closing_lines, attribute_line, level_within, attribute_lines}
use Rattle.oil_grammar.specs.declared.tree.Attribute.{Attribute}
use Rattle.oil_grammar.specs.declared.tree.Value.{Value}
use Rattle.oil_grammar.proofs.Lines.{no_closings, closing_more}

abbrev pub line_of : ℕ → List ℕ → Value → Bool → List ℕ
line_of level name v braces = attribute_line (record { level = level; name = name; value = v; braces = braces })

-- the lines of a block, with the end of each block in it
abbrev pub block_lines : ℕ → Block → List ℕ
block_lines level empty = []
block_lines level (plain name v description others) = line_of level name v false ++ block_lines level others
block_lines level (braced name v inner description others) =
    line_of level name v true ++ (block_lines (suc level) inner ++ (closing_line (suc level) ++ block_lines level others))

-- the first attribute isn't within further blocks
StaysWithin : ℕ → List Attribute → Type 0
StaysWithin level [] = ⊤
StaysWithin level (a ∷ others) = a.level ≤ level

-- the end of the innermost block
closes_one : (level : ℕ) (rest : List Attribute) → StaysWithin level rest → attribute_lines (suc level) rest ≡ closing_line (suc level) ++ attribute_lines level rest
unfolding attribute_lines StaysWithin
closes_one level [] stays = closing_more (suc level) level (suc level) level refl (omega arith)
closes_one level (a ∷ others) stays =
    let tail = attribute_line a ++ attribute_lines (level_within a) others in
    ap (λ ls. ls ++ tail) (closing_more (suc level - a.level) (level - a.level) (suc level) level (omega arith) (omega arith))
    ∙ append_assoc (closing_line (suc level)) (closing_lines (level - a.level) level) tail

block_stays : (level : ℕ) (block : Block) (rest : List Attribute) → StaysWithin level rest → StaysWithin level (attributes_of level block ++ rest)
unfolding StaysWithin attributes_of
block_stays level empty rest stays = stays
block_stays level (plain name v description others) rest stays = omega arith
block_stays level (braced name v inner description others) rest stays = omega arith

stays_deeper : (level : ℕ) (rest : List Attribute) → StaysWithin level rest → StaysWithin (suc level) rest
unfolding StaysWithin
stays_deeper level [] stays = tt
stays_deeper level (a ∷ others) stays = omega arith

-- an attribute within just the open blocks
here : (level : ℕ) (name : List ℕ) (v : Value) (braces : Bool) (others : List Attribute) → attribute_lines level (record { level = level; name = name; value = v; braces = braces } ∷ others) ≡ line_of level name v braces ++ attribute_lines (level_within (record { level = level; name = name; value = v; braces = braces })) others
unfolding attribute_lines
here level name v braces others =
    ap (λ ls. ls ++ (line_of level name v braces ++ attribute_lines (level_within (record { level = level; name = name; value = v; braces = braces })) others)) (no_closings (level - level) level (omega arith))

lines_of_block : (level : ℕ) (block : Block) (rest : List Attribute) → StaysWithin level rest → attribute_lines level (attributes_of level block ++ rest) ≡ block_lines level block ++ attribute_lines level rest
unfolding attributes_of
lines_of_block level empty rest stays = refl
lines_of_block level (plain name v description others) rest stays =
    here level name v false (attributes_of level others ++ rest)
    ∙ (ap (λ ls. line_of level name v false ++ ls) (lines_of_block level others rest stays)
    ∙ sym (append_assoc (line_of level name v false) (block_lines level others) (attribute_lines level rest)))
lines_of_block level (braced name v inner description others) rest stays =
    let line = line_of level name v true in
    let more = attributes_of level others ++ rest in
    let more_stays : StaysWithin level more = block_stays level others rest stays in
    let next : level + 1 ≡ suc level = omega arith in
    here level name v true ((attributes_of (suc level) inner ++ attributes_of level others) ++ rest)
    ∙ (ap (λ n. line ++ attribute_lines n ((attributes_of (suc level) inner ++ attributes_of level others) ++ rest)) next
    ∙ (ap (λ xs. line ++ attribute_lines (suc level) xs) (append_assoc (attributes_of (suc level) inner) (attributes_of level others) rest)
    ∙ (ap (λ ls. line ++ ls) (lines_of_block (suc level) inner more (stays_deeper level more more_stays))
    ∙ (ap (λ ls. line ++ (block_lines (suc level) inner ++ ls)) (closes_one level more more_stays)
    ∙ (ap (λ ls. line ++ (block_lines (suc level) inner ++ (closing_line (suc level) ++ ls))) (lines_of_block level others rest stays)
    ∙ sym (simp append_assoc))))))

-- the lines of an object's block, with its end
pub own_lines : (block : Block) → attribute_lines 1 (attributes_of 1 block) ≡ block_lines 1 block ++ closing_line 1
unfolding attribute_lines StaysWithin closing_lines
own_lines block =
    ap (λ xs. attribute_lines 1 xs) (sym (append-nil (attributes_of 1 block)))
    ∙ (lines_of_block 1 block [] tt ∙ ap (λ ls. block_lines 1 block ++ ls) (append-nil (closing_line 1)))
