-- The states accept the tokens of every file, and end with its tree.
use Rattle.std.proofs.Common.{◌≡◌, ◌≢◌, ℕ, suc, ◌<◌, true, false, List, [], ◌∷◌, ◌++◌, refl, sym, ap, ◌∙◌, Some, None, Option, arith, append_assoc}
use Rattle.std.specs.Prelude.{codes, nat_lt}
use Rattle.std.specs.Str.{bytes_eq}
use Rattle.std.proofs.lemmas.Bool.Decides.{nat_tests}
use Rattle.std.proofs.lemmas.Bool.{false_from_ne_true}
use Rattle.std.proofs.lemmas.List.{append-nil}
use Rattle.std.proofs.lemmas.Slice.Eq.{bytes_eq-Decides}
use Rattle.oil_grammar.specs.Grammar.{Block, empty, plain, braced, WrittenObject, Braces, none, some, Implementation, File, ending, value_token, block_tokens, braces_tokens, objects_tokens, skipped_tokens, implementation_tokens, cpu_tokens, file_tokens, IsNoWord, IsValue, IsBracedValue, IsBlock, IsObjectBlock, AreObjects, IsFile, attributes_of, braces_attributes, objects_of, tree_of}
use Rattle.oil_grammar.specs.Working.States.{around, with_object, object_with, after_part, word_value, after_value, next, run}
use Rattle.oil_grammar.specs.declared.token.Token.{Token}
use Rattle.oil_grammar.specs.declared.token.Token.TheVariants as token
use Rattle.oil_grammar.specs.declared.tree.Value.{Value}
use Rattle.oil_grammar.specs.declared.tree.Value.TheVariants as value
use Rattle.oil_grammar.specs.declared.tree.Attribute.{Attribute}
use Rattle.oil_grammar.specs.declared.tree.Object.{Object}
use Rattle.oil_grammar.specs.declared.tree.Tree.{Tree}
use Rattle.oil_grammar.specs.declared.state.Part.{Part}
use Rattle.oil_grammar.specs.declared.state.Part.TheVariants as part
use Rattle.oil_grammar.specs.declared.state.State.TheVariants.{Start, Ending, Head, Skipping, CpuWord, Objects, ObjectBlock, Attributes, AttributeValue, AttributeBlock, Finished}

-- the object with more attributes
abbrev pub adding : Object → List Attribute → Object
adding object attributes = record { kind = object.kind; name = object.name; attributes = object.attributes ++ attributes }

pub adding-nil : (object : Object) → adding object [] ≡ object
adding-nil object = ap (λ xs. record { kind = object.kind; name = object.name; attributes = xs }) (append-nil object.attributes)

pub adding-twice : (object : Object) (xs ys : List Attribute) → adding (adding object xs) ys ≡ adding object (xs ++ ys)
adding-twice object xs ys = ap (λ zs. record { kind = object.kind; name = object.name; attributes = zs }) (append_assoc object.attributes xs ys)

-- Words.

other_bytes : (xs ys : List ℕ) → xs ≢ ys → bytes_eq xs ys ≡ false
other_bytes xs ys ne = false_from_ne_true (bytes_eq xs ys) (λ is. ne ((bytes_eq-Decides xs ys).0 is))

pub word_value-name : (name : List ℕ) → IsNoWord name → word_value name ≡ value.Name name
word_value-name name plain_name =
    rw (other_bytes name (codes "TRUE") plain_name.not_true, other_bytes name (codes "FALSE") plain_name.not_false, other_bytes name (codes "AUTO") plain_name.not_auto) refl

-- Parts.

pub run_ending : (limit : ℕ) (p : Part) (d : Option (List ℕ)) (follow : List Token) → run limit (Ending p) (ending d follow) ≡ run limit (after_part p) follow
unfolding next run
run_ending limit p None follow = refl
run_ending limit p (Some d) follow = refl

-- after a value that may have a block, and has none
run_block_ending : (limit : ℕ) (tree : Tree) (object : Object) (level : ℕ) (name : List ℕ) (v : Value) (d : Option (List ℕ)) (follow : List Token) → run limit (AttributeBlock (around tree object level) name v) (ending d follow) ≡ run limit (Attributes (around tree (object_with object level name v false) level)) follow
unfolding next run
run_block_ending limit tree object level name v None follow = refl
run_block_ending limit tree object level name v (Some d) follow = refl

run_word : (limit : ℕ) (tree : Tree) (object : Object) (level : ℕ) (name word : List ℕ) (v : Value) (follow : List Token) → word_value word ≡ v → run limit (AttributeValue (around tree object level) name) (token.Name word ∷ follow) ≡ run limit (after_value (around tree object level) name v) follow
unfolding next run
run_word limit tree object level name word v follow is = ap (λ u. run limit (after_value (around tree object level) name u) follow) is

run_plain : (limit : ℕ) (tree : Tree) (object : Object) (level : ℕ) (name : List ℕ) (v : Value) (d : Option (List ℕ)) (follow : List Token) → IsValue v → run limit (AttributeValue (around tree object level) name) (value_token v ∷ ending d follow) ≡ run limit (Attributes (around tree (object_with object level name v false) level)) follow
unfolding next run
run_plain limit tree object level name (value.Name word) d follow is =
    run_word limit tree object level name word (value.Name word) (ending d follow) (word_value-name word is)
    ∙ run_block_ending limit tree object level name (value.Name word) d follow
run_plain limit tree object level name (value.Number negative size) d follow is = run_ending limit (part.Attribute (around tree (object_with object level name (value.Number negative size) false) level)) d follow
run_plain limit tree object level name (value.Text text) d follow is = run_ending limit (part.Attribute (around tree (object_with object level name (value.Text text) false) level)) d follow
run_plain limit tree object level name (value.Bool true) d follow is = run_block_ending limit tree object level name (value.Bool true) d follow
run_plain limit tree object level name (value.Bool false) d follow is = run_block_ending limit tree object level name (value.Bool false) d follow
run_plain limit tree object level name value.Auto d follow is = run_ending limit (part.Attribute (around tree (object_with object level name value.Auto false) level)) d follow

run_open : (limit : ℕ) (tree : Tree) (object : Object) (level : ℕ) (name : List ℕ) (v : Value) (follow : List Token) → level < limit → run limit (AttributeBlock (around tree object level) name v) (token.Open ∷ follow) ≡ run limit (Attributes (around tree (object_with object level name v true) (suc level))) follow
unfolding next run
run_open limit tree object level name v follow below = let yes : nat_lt level limit ≡ true = grind (arith, nat_tests) in rw yes refl

run_braced : (limit : ℕ) (tree : Tree) (object : Object) (level : ℕ) (name : List ℕ) (v : Value) (follow : List Token) → IsBracedValue v → level < limit → run limit (AttributeValue (around tree object level) name) (value_token v ∷ (token.Open ∷ follow)) ≡ run limit (Attributes (around tree (object_with object level name v true) (suc level))) follow
unfolding next run
run_braced limit tree object level name (value.Name word) follow is below =
    run_word limit tree object level name word (value.Name word) (token.Open ∷ follow) (word_value-name word is)
    ∙ run_open limit tree object level name (value.Name word) follow below
run_braced limit tree object level name (value.Number negative size) follow is below = absurd is
run_braced limit tree object level name (value.Text text) follow is below = absurd is
run_braced limit tree object level name (value.Bool true) follow is below = run_open limit tree object level name (value.Bool true) follow below
run_braced limit tree object level name (value.Bool false) follow is below = run_open limit tree object level name (value.Bool false) follow below
run_braced limit tree object level name value.Auto follow is below = absurd is

run_close : (limit : ℕ) (tree : Tree) (object : Object) (level : ℕ) (d : Option (List ℕ)) (follow : List Token) → run limit (Attributes (around tree object (suc (suc level)))) (token.Close ∷ ending d follow) ≡ run limit (Attributes (around tree object (suc level))) follow
unfolding next run
run_close limit tree object level d follow = run_ending limit (part.Attribute (around tree object (suc level))) d follow

run_name : (limit : ℕ) (tree : Tree) (object : Object) (level : ℕ) (name : List ℕ) (follow : List Token) → run limit (Attributes (around tree object level)) (token.Name name ∷ (token.Equals ∷ follow)) ≡ run limit (AttributeValue (around tree object level) name) follow
unfolding next run
run_name limit tree object level name follow = refl

-- with the attributes that a block has, one after the other
run_block : (limit : ℕ) (tree : Tree) (object : Object) (level : ℕ) (block : Block) (follow : List Token) → IsBlock limit (suc level) block → run limit (Attributes (around tree object (suc level))) (block_tokens block follow) ≡ run limit (Attributes (around tree (adding object (attributes_of (suc level) block)) (suc level))) follow
unfolding block_tokens attributes_of IsBlock
run_block limit tree object level empty follow is = ap (λ o. run limit (Attributes (around tree o (suc level))) follow) (sym (adding-nil object))
run_block limit tree object level (plain name v d others) follow is =
    run_name limit tree object (suc level) name _
    ∙ (run_plain limit tree object (suc level) name v d (block_tokens others follow) is.0
    ∙ (run_block limit tree (object_with object (suc level) name v false) level others follow is.1
    ∙ ap (λ o. run limit (Attributes (around tree o (suc level))) follow) (adding-twice object _ (attributes_of (suc level) others))))
run_block limit tree object level (braced name v inner d others) follow is =
    run_name limit tree object (suc level) name _
    ∙ (run_braced limit tree object (suc level) name v _ is.0 is.1
    ∙ (run_block limit tree (object_with object (suc level) name v true) (suc level) inner _ is.2
    ∙ (run_close limit tree _ level d _
    ∙ (run_block limit tree _ level others follow is.3
    ∙ ap (λ o. run limit (Attributes (around tree o (suc level))) follow)
    (adding-twice _ (attributes_of (suc (suc level)) inner) (attributes_of (suc level) others)
    ∙ adding-twice object _ (attributes_of (suc (suc level)) inner ++ attributes_of (suc level) others))))))

-- Objects.

run_object_ending : (limit : ℕ) (tree : Tree) (object : Object) (d : Option (List ℕ)) (follow : List Token) → run limit (ObjectBlock tree object) (ending d follow) ≡ run limit (Objects (with_object tree object)) follow
unfolding next run
run_object_ending limit tree object None follow = refl
run_object_ending limit tree object (Some d) follow = refl

run_object_open : (limit : ℕ) (tree : Tree) (object : Object) (follow : List Token) → run limit (ObjectBlock tree object) (token.Open ∷ follow) ≡ run limit (Attributes (around tree object 1)) follow
unfolding next run
run_object_open limit tree object follow = refl

run_object_close : (limit : ℕ) (tree : Tree) (object : Object) (d : Option (List ℕ)) (follow : List Token) → run limit (Attributes (around tree object 1)) (token.Close ∷ ending d follow) ≡ run limit (Objects (with_object tree object)) follow
unfolding next run
run_object_close limit tree object d follow = run_ending limit (part.Object tree object) d follow

run_braces : (limit : ℕ) (tree : Tree) (kind name : List ℕ) (block : Option Block) (d : Option (List ℕ)) (follow : List Token) → IsObjectBlock limit block → run limit (ObjectBlock tree (record { kind = kind; name = name; attributes = [] })) (braces_tokens block (ending d follow)) ≡ run limit (Objects (with_object tree (record { kind = kind; name = name; attributes = braces_attributes block }))) follow
run_braces limit tree kind name None d follow is = run_object_ending limit tree (record { kind = kind; name = name; attributes = [] }) d follow
run_braces limit tree kind name (Some block) d follow is =
    run_object_open limit tree (record { kind = kind; name = name; attributes = [] }) _
    ∙ (run_block limit tree (record { kind = kind; name = name; attributes = [] }) 0 block _ is
    ∙ run_object_close limit tree (record { kind = kind; name = name; attributes = attributes_of 1 block }) d follow)

-- the tree with more objects
abbrev pub with_objects : Tree → List Object → Tree
with_objects tree objects = record { version = tree.version; cpu = tree.cpu; objects = tree.objects ++ objects }

pub with_objects-nil : (tree : Tree) → with_objects tree [] ≡ tree
with_objects-nil tree = ap (λ xs. record { version = tree.version; cpu = tree.cpu; objects = xs }) (append-nil tree.objects)

pub with_objects-twice : (tree : Tree) (xs ys : List Object) → with_objects (with_objects tree xs) ys ≡ with_objects tree (xs ++ ys)
with_objects-twice tree xs ys = ap (λ zs. record { version = tree.version; cpu = tree.cpu; objects = zs }) (append_assoc tree.objects xs ys)

run_object_head : (limit : ℕ) (tree : Tree) (kind name : List ℕ) (follow : List Token) → run limit (Objects tree) (token.Name kind ∷ (token.Name name ∷ follow)) ≡ run limit (ObjectBlock tree (record { kind = kind; name = name; attributes = [] })) follow
unfolding next run
run_object_head limit tree kind name follow = refl

pub run_objects : (limit : ℕ) (tree : Tree) (objects : List WrittenObject) (follow : List Token) → AreObjects limit objects → run limit (Objects tree) (objects_tokens objects follow) ≡ run limit (Objects (with_objects tree (objects_of objects))) follow
unfolding objects_tokens objects_of AreObjects
run_objects limit tree [] follow is = ap (λ t. run limit (Objects t) follow) (sym (with_objects-nil tree))
run_objects limit tree (object ∷ others) follow is =
    run_object_head limit tree object.kind object.name _
    ∙ (run_braces limit tree object.kind object.name object.block object.description _ is.0
    ∙ (run_objects limit (with_object tree (record { kind = object.kind; name = object.name; attributes = braces_attributes object.block })) others follow is.1
    ∙ ap (λ t. run limit (Objects t) follow) (with_objects-twice tree _ (objects_of others))))

-- The skipped part.

pub run_skipped : (limit : ℕ) (version : List ℕ) (depth : ℕ) (braces : Braces) (follow : List Token) → run limit (Skipping version depth) (skipped_tokens braces follow) ≡ run limit (Skipping version depth) follow
unfolding skipped_tokens next run
run_skipped limit version depth none follow = refl
run_skipped limit version depth (some within others) follow =
    run_skipped limit version (suc depth) within (token.SkippedClose ∷ skipped_tokens others follow)
    ∙ run_skipped limit version depth others follow

-- The file.

run_cpu_word : (limit : ℕ) (version name : List ℕ) (follow : List Token) → run limit (CpuWord version) (token.Name (codes "CPU") ∷ (token.Name name ∷ (token.Open ∷ follow))) ≡ run limit (Objects (record { version = version; cpu = name; objects = [] })) follow
unfolding next run
run_cpu_word limit version name follow = refl

run_head_cpu : (limit : ℕ) (version name : List ℕ) (follow : List Token) → run limit (Head version) (token.Name (codes "CPU") ∷ (token.Name name ∷ (token.Open ∷ follow))) ≡ run limit (Objects (record { version = version; cpu = name; objects = [] })) follow
unfolding next run
run_head_cpu limit version name follow = refl

run_cpu_close : (limit : ℕ) (tree : Tree) (d : Option (List ℕ)) (follow : List Token) → run limit (Objects tree) (token.Close ∷ ending d follow) ≡ run limit (Finished tree) follow
unfolding next run
run_cpu_close limit tree d follow = run_ending limit (part.Cpu tree) d follow

run_version : (limit : ℕ) (version : List ℕ) (d : Option (List ℕ)) (follow : List Token) → run limit Start (token.Name (codes "OIL_VERSION") ∷ (token.Equals ∷ (token.Text version ∷ ending d follow))) ≡ run limit (Head version) follow
unfolding next run
run_version limit version d follow = run_ending limit (part.Version version) d follow

run_implementation : (limit : ℕ) (version name : List ℕ) (follow : List Token) → run limit (Head version) (token.Name (codes "IMPLEMENTATION") ∷ (token.Name name ∷ (token.Open ∷ follow))) ≡ run limit (Skipping version 0) follow
unfolding next run
run_implementation limit version name follow = refl

run_implementation_close : (limit : ℕ) (version : List ℕ) (d : Option (List ℕ)) (follow : List Token) → run limit (Skipping version 0) (token.SkippedClose ∷ ending d follow) ≡ run limit (CpuWord version) follow
unfolding next run
run_implementation_close limit version d follow = run_ending limit (part.Implementation version) d follow

run_to_objects : (limit : ℕ) (version name : List ℕ) (implementation : Option Implementation) (objects : List WrittenObject) (d : Option (List ℕ)) → run limit (Head version) (implementation_tokens implementation (cpu_tokens name objects d)) ≡ run limit (Objects (record { version = version; cpu = name; objects = [] })) (objects_tokens objects (token.Close ∷ ending d []))
run_to_objects limit version name None objects d = run_head_cpu limit version name _
run_to_objects limit version name (Some part) objects d =
    run_implementation limit version part.name _
    ∙ (run_skipped limit version 0 part.skipped _
    ∙ (run_implementation_close limit version part.description _
    ∙ run_cpu_word limit version name _))

pub run_file : (limit : ℕ) (file : File) → IsFile limit file → run limit Start (file_tokens file) ≡ Some (Finished (tree_of file))
unfolding run
run_file limit file is =
    run_version limit file.version file.version_description _
    ∙ (run_to_objects limit file.version file.cpu file.implementation file.objects file.description
    ∙ (run_objects limit (record { version = file.version; cpu = file.cpu; objects = [] }) file.objects _ is
    ∙ run_cpu_close limit (tree_of file) file.description []))
