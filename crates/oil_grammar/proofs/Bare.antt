-- The file that a layout is: without descriptions and IMPLEMENTATION, and with braces round each object.
use Rattle.std.proofs.Common.{◌≡◌, ℕ, suc, true, false, List, [], ◌∷◌, ◌++◌, refl, ap, ◌∙◌, Some, None, Option}
use Rattle.std.specs.Prelude.{⊤}
use Rattle.oil_grammar.specs.Grammar.{Block, empty, plain, braced, WrittenObject, Braces, none, some, Implementation, File, ending, value_token, block_tokens, braces_tokens, objects_tokens, skipped_tokens, implementation_tokens, cpu_tokens, file_tokens, IsBlock, IsObjectBlock, AreObjects, IsFile, attributes_of, braces_attributes, objects_of, tree_of}
use Rattle.oil_grammar.specs.declared.token.Token.{Token}
use Rattle.oil_grammar.specs.declared.token.Token.TheVariants as token
use Rattle.oil_grammar.proofs.Proper.{Every, is_text_byte, IsName, IsProper, AreProper}

abbrev pub bare : Block → Block
bare empty = empty
bare (plain name v description others) = plain name v None (bare others)
bare (braced name v inner description others) = braced name v (bare inner) None (bare others)

-- the block of an object, which is empty where it has no braces
abbrev pub own_block : Option Block → Block
own_block None = empty
own_block (Some block) = block

abbrev pub bare_objects : List WrittenObject → List WrittenObject
bare_objects [] = []
bare_objects (object ∷ others) =
    record { kind = object.kind; name = object.name; block = Some (bare (own_block object.block)); description = None } ∷ bare_objects others

abbrev pub bare_file : File → File
bare_file file =
    record { version = file.version; version_description = None; implementation = None; cpu = file.cpu; objects = bare_objects file.objects; description = None }

-- It is a file with the same tree.

bare_block : (limit level : ℕ) (block : Block) → IsBlock limit level block → IsBlock limit level (bare block)
unfolding IsBlock
bare_block limit level empty is = tt
bare_block limit level (plain name v description others) is = (is.0, bare_block limit level others is.1)
bare_block limit level (braced name v inner description others) is = (is.0, is.1, bare_block limit (suc level) inner is.2, bare_block limit level others is.3)

own_is_block : (limit : ℕ) (block : Option Block) → IsObjectBlock limit block → IsBlock limit 1 (own_block block)
unfolding IsBlock
own_is_block limit None is = tt
own_is_block limit (Some block) is = is

bare_are_objects : (limit : ℕ) (objects : List WrittenObject) → AreObjects limit objects → AreObjects limit (bare_objects objects)
unfolding AreObjects
bare_are_objects limit [] are = tt
bare_are_objects limit (object ∷ others) are = (bare_block limit 1 (own_block object.block) (own_is_block limit object.block are.0), bare_are_objects limit others are.1)

pub bare_is_file : (limit : ℕ) (file : File) → IsFile limit file → IsFile limit (bare_file file)
bare_is_file limit file is = bare_are_objects limit file.objects is

bare_attributes : (level : ℕ) (block : Block) → attributes_of level (bare block) ≡ attributes_of level block
unfolding attributes_of
bare_attributes level empty = refl
bare_attributes level (plain name v description others) = ap (λ xs. record { level = level; name = name; value = v; braces = false } ∷ xs) (bare_attributes level others)
bare_attributes level (braced name v inner description others) =
    ap (λ xs. record { level = level; name = name; value = v; braces = true } ∷ (xs ++ attributes_of level (bare others))) (bare_attributes (suc level) inner)
    ∙ ap (λ xs. record { level = level; name = name; value = v; braces = true } ∷ (attributes_of (suc level) inner ++ xs)) (bare_attributes level others)

pub own_attributes : (block : Option Block) → attributes_of 1 (own_block block) ≡ braces_attributes block
unfolding attributes_of
own_attributes None = refl
own_attributes (Some block) = refl

bare_objects_of : (objects : List WrittenObject) → objects_of (bare_objects objects) ≡ objects_of objects
unfolding objects_of
bare_objects_of [] = refl
bare_objects_of (object ∷ others) =
    ap (λ xs. record { kind = object.kind; name = object.name; attributes = xs } ∷ objects_of (bare_objects others)) (bare_attributes 1 (own_block object.block) ∙ own_attributes object.block)
    ∙ ap (λ xs. record { kind = object.kind; name = object.name; attributes = braces_attributes object.block } ∷ xs) (bare_objects_of others)

pub bare_tree : (file : File) → tree_of (bare_file file) ≡ tree_of file
bare_tree file = ap (λ xs. record { version = file.version; cpu = file.cpu; objects = xs }) (bare_objects_of file.objects)

-- The names, texts and numbers of a file are proper where its tokens are.

abbrev pub ProperBlock : Block → Type 0
ProperBlock empty = ⊤
ProperBlock (plain name v description others) = IsName name × IsProper (value_token v) × ProperBlock others
ProperBlock (braced name v inner description others) = IsName name × IsProper (value_token v) × ProperBlock inner × ProperBlock others

abbrev pub ProperObjects : List WrittenObject → Type 0
ProperObjects [] = ⊤
ProperObjects (object ∷ others) = IsName object.kind × IsName object.name × ProperBlock (own_block object.block) × ProperObjects others

pub record ProperFile (file : File) : Type 0 where
  pub version : Every is_text_byte file.version
  pub cpu : IsName file.cpu
  pub objects : ProperObjects file.objects

behind_ending : (description : Option (List ℕ)) (follow : List Token) → AreProper (ending description follow) → AreProper follow
behind_ending None follow are = are.1
behind_ending (Some text) follow are = are.1.1.1

block_proper : (block : Block) (follow : List Token) → AreProper (block_tokens block follow) → ProperBlock block × AreProper follow
unfolding block_tokens
block_proper empty follow are = (tt, are)
block_proper (plain name v description others) follow are =
    let rest = block_proper others follow (behind_ending description (block_tokens others follow) are.1.1.1) in
    ((are.0, are.1.1.0, rest.0), rest.1)
block_proper (braced name v inner description others) follow are =
    let within = block_proper inner (token.Close ∷ ending description (block_tokens others follow)) are.1.1.1.1 in
    let rest = block_proper others follow (behind_ending description (block_tokens others follow) within.1.1) in
    ((are.0, are.1.1.0, within.0, rest.0), rest.1)

braces_proper : (block : Option Block) (follow : List Token) → AreProper (braces_tokens block follow) → ProperBlock (own_block block) × AreProper follow
braces_proper None follow are = (tt, are)
braces_proper (Some block) follow are = let within = block_proper block (token.Close ∷ follow) are.1 in (within.0, within.1.1)

objects_proper : (objects : List WrittenObject) (follow : List Token) → AreProper (objects_tokens objects follow) → ProperObjects objects
unfolding objects_tokens
objects_proper [] follow are = tt
objects_proper (object ∷ others) follow are =
    let within = braces_proper object.block (ending object.description (objects_tokens others follow)) are.1.1 in
    (are.0, are.1.0, within.0, objects_proper others follow (behind_ending object.description (objects_tokens others follow) within.1))

behind_skipped : (braces : Braces) (follow : List Token) → AreProper (skipped_tokens braces follow) → AreProper follow
unfolding skipped_tokens
behind_skipped none follow are = are
behind_skipped (some within others) follow are =
    let rest = behind_skipped within (token.SkippedClose ∷ skipped_tokens others follow) are.1 in
    behind_skipped others follow rest.1

behind_implementation : (part : Option Implementation) (follow : List Token) → AreProper (implementation_tokens part follow) → AreProper follow
behind_implementation None follow are = are
behind_implementation (Some part) follow are =
    let rest = behind_skipped part.skipped (token.SkippedClose ∷ ending part.description follow) are.1.1.1 in
    behind_ending part.description follow rest.1

pub file_proper : (file : File) → AreProper (file_tokens file) → ProperFile file
file_proper file are =
    let cpu = cpu_tokens file.cpu file.objects file.description in
    let head : AreProper (implementation_tokens file.implementation cpu) = behind_ending file.version_description (implementation_tokens file.implementation cpu) are.1.1.1 in
    let rest : AreProper cpu = behind_implementation file.implementation cpu head in
    record {
      version = are.1.1.0;
      cpu = rest.1.0;
      objects = objects_proper file.objects (token.Close ∷ ending file.description []) rest.1.1.1;
    }
