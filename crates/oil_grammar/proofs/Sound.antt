-- What the states accept and end on is the tokens of a file with the tree that they end with.
use Rattle.std.proofs.Common.{inl, inr, ◌⊎◌, ◌≡◌, ◌≢◌, ℕ, zero, suc, ◌≤◌, ◌<◌, Bool, true, false, cond, List, [], ◌∷◌, ◌++◌, length, refl, sym, ap, ◌∙◌, subst, Some, None, Option, arith}
use Rattle.std.specs.Prelude.{codes, nat_lt}
use Rattle.std.specs.Str.{bytes_eq}
use Rattle.std.proofs.lemmas.Slice.Eq.{bytes_eq-Decides}
use Rattle.oil_grammar.specs.Grammar.{Block, empty, plain, braced, WrittenObject, Braces, none, some, Implementation, File, ending, value_token, block_tokens, braces_tokens, objects_tokens, skipped_tokens, implementation_tokens, cpu_tokens, file_tokens, IsNoWord, IsValue, IsBracedValue, IsBlock, IsObjectBlock, AreObjects, IsFile, attributes_of, braces_attributes, objects_of, tree_of}
use Rattle.oil_grammar.specs.Working.States.{around, when, with_object, object_with, after_part, after_skipped, block_end, word_value, plainly, after_value, next, run}
use Rattle.oil_grammar.specs.declared.token.Token.{Token}
use Rattle.oil_grammar.specs.declared.token.Token.TheVariants as token
use Rattle.oil_grammar.specs.declared.tree.Value.{Value}
use Rattle.oil_grammar.specs.declared.tree.Value.TheVariants as value
use Rattle.oil_grammar.specs.declared.tree.Object.{Object}
use Rattle.oil_grammar.specs.declared.tree.Tree.{Tree}
use Rattle.oil_grammar.specs.declared.state.Part.{Part}
use Rattle.oil_grammar.specs.declared.state.Part.TheVariants as part
use Rattle.oil_grammar.specs.declared.state.State.{State}
use Rattle.oil_grammar.specs.declared.state.State.TheVariants.{Start, VersionEquals, VersionText, Ending, Describing, Described, Head, ImplementationName, ImplementationBlock, Skipping, CpuWord, CpuName, CpuBlock, Objects, ObjectName, ObjectBlock, Attributes, AttributeEquals, AttributeValue, AttributeBlock, Finished}
use Rattle.std.specs.Prelude.{option_and_then}
use borrow.Author.Tests.{ltb-true}
use Rattle.oil_grammar.proofs.Accepts.{adding, adding-nil, adding-twice, with_objects, with_objects-nil, with_objects-twice}

-- the state goes over all of these tokens to the end of a file with this tree
abbrev pub Ends : ℕ → State → List Token → Tree → Type 0
Ends limit state tokens tree = run limit state tokens ≡ Some (Finished tree)

when_back : (b : Bool) (state : State) (go_on : State → Option State) (end : State) → option_and_then go_on (when b state) ≡ Some end → (b ≡ true) × (go_on state ≡ Some end)
when_back true state go_on end is = (refl, is)
when_back false state go_on end is = absurd (cc)

same_from_test : (xs ys : List ℕ) → bytes_eq xs ys ≡ true → xs ≡ ys
same_from_test xs ys is = (bytes_eq-Decides xs ys).0 is

-- Single tokens.

back_start : (limit : ℕ) (tree : Tree) (tokens : List Token) → Ends limit Start tokens tree → (rest : List Token) × (tokens ≡ token.Name (codes "OIL_VERSION") ∷ rest) × Ends limit VersionEquals rest tree
unfolding next run
back_start limit tree [] is = absurd (cc)
back_start limit tree (token.Name name ∷ rest) is =
    let parts = when_back (bytes_eq name (codes "OIL_VERSION")) VersionEquals (λ s. run limit s rest) (Finished tree) is in
    (rest, ap (λ n. token.Name n ∷ rest) (same_from_test name (codes "OIL_VERSION") parts.0), parts.1)
back_start limit tree (_ ∷ rest) is = absurd (cc)

back_version_equals : (limit : ℕ) (tree : Tree) (tokens : List Token) → Ends limit VersionEquals tokens tree → (rest : List Token) × (tokens ≡ token.Equals ∷ rest) × Ends limit VersionText rest tree
unfolding next run
back_version_equals limit tree [] is = absurd (cc)
back_version_equals limit tree (token.Equals ∷ rest) is = (rest, refl, is)
back_version_equals limit tree (_ ∷ rest) is = absurd (cc)

back_version_text : (limit : ℕ) (tree : Tree) (tokens : List Token) → Ends limit VersionText tokens tree → (version : List ℕ) × (rest : List Token) × (tokens ≡ token.Text version ∷ rest) × Ends limit (Ending (part.Version version)) rest tree
unfolding next run
back_version_text limit tree [] is = absurd (cc)
back_version_text limit tree (token.Text version ∷ rest) is = (version, rest, refl, is)
back_version_text limit tree (_ ∷ rest) is = absurd (cc)

back_described : (limit : ℕ) (p : Part) (tree : Tree) (tokens : List Token) → Ends limit (Described p) tokens tree → (rest : List Token) × (tokens ≡ token.Semicolon ∷ rest) × Ends limit (after_part p) rest tree
unfolding next run
back_described limit p tree [] is = absurd (cc)
back_described limit p tree (token.Semicolon ∷ rest) is = (rest, refl, is)
back_described limit p tree (_ ∷ rest) is = absurd (cc)

back_describing : (limit : ℕ) (p : Part) (tree : Tree) (tokens : List Token) → Ends limit (Describing p) tokens tree → (d : List ℕ) × (rest : List Token) × (tokens ≡ token.Text d ∷ (token.Semicolon ∷ rest)) × Ends limit (after_part p) rest tree
unfolding next run
back_describing limit p tree [] is = absurd (cc)
back_describing limit p tree (token.Text d ∷ rest) is =
    let more = back_described limit p tree rest is in (d, more.0, ap (λ ts. token.Text d ∷ ts) more.1, more.2)
back_describing limit p tree (_ ∷ rest) is = absurd (cc)

-- a description and the `;`
pub back_ending : (limit : ℕ) (p : Part) (tree : Tree) (tokens : List Token) → Ends limit (Ending p) tokens tree → (d : Option (List ℕ)) × (rest : List Token) × (tokens ≡ ending d rest) × Ends limit (after_part p) rest tree
unfolding next run
back_ending limit p tree [] is = absurd (cc)
back_ending limit p tree (token.Semicolon ∷ rest) is = (None, rest, refl, is)
back_ending limit p tree (token.Colon ∷ rest) is =
    let more = back_describing limit p tree rest is in (Some more.0, more.1, ap (λ ts. token.Colon ∷ ts) more.2, more.3)
back_ending limit p tree (_ ∷ rest) is = absurd (cc)

back_cpu_name : (limit : ℕ) (version : List ℕ) (tree : Tree) (tokens : List Token) → Ends limit (CpuName version) tokens tree → (name : List ℕ) × (rest : List Token) × (tokens ≡ token.Name name ∷ rest) × Ends limit (CpuBlock (record { version = version; cpu = name; objects = [] })) rest tree
unfolding next run
back_cpu_name limit version tree [] is = absurd (cc)
back_cpu_name limit version tree (token.Name name ∷ rest) is = (name, rest, refl, is)
back_cpu_name limit version tree (_ ∷ rest) is = absurd (cc)

back_cpu_block : (limit : ℕ) (cpu tree : Tree) (tokens : List Token) → Ends limit (CpuBlock cpu) tokens tree → (rest : List Token) × (tokens ≡ token.Open ∷ rest) × Ends limit (Objects cpu) rest tree
unfolding next run
back_cpu_block limit cpu tree [] is = absurd (cc)
back_cpu_block limit cpu tree (token.Open ∷ rest) is = (rest, refl, is)
back_cpu_block limit cpu tree (_ ∷ rest) is = absurd (cc)

back_cpu_word : (limit : ℕ) (version : List ℕ) (tree : Tree) (tokens : List Token) → Ends limit (CpuWord version) tokens tree → (rest : List Token) × (tokens ≡ token.Name (codes "CPU") ∷ rest) × Ends limit (CpuName version) rest tree
unfolding next run
back_cpu_word limit version tree [] is = absurd (cc)
back_cpu_word limit version tree (token.Name name ∷ rest) is =
    let parts = when_back (bytes_eq name (codes "CPU")) (CpuName version) (λ s. run limit s rest) (Finished tree) is in
    (rest, ap (λ n. token.Name n ∷ rest) (same_from_test name (codes "CPU") parts.0), parts.1)
back_cpu_word limit version tree (_ ∷ rest) is = absurd (cc)

back_implementation_name : (limit : ℕ) (version : List ℕ) (tree : Tree) (tokens : List Token) → Ends limit (ImplementationName version) tokens tree → (name : List ℕ) × (rest : List Token) × (tokens ≡ token.Name name ∷ rest) × Ends limit (ImplementationBlock version) rest tree
unfolding next run
back_implementation_name limit version tree [] is = absurd (cc)
back_implementation_name limit version tree (token.Name name ∷ rest) is = (name, rest, refl, is)
back_implementation_name limit version tree (_ ∷ rest) is = absurd (cc)

back_implementation_block : (limit : ℕ) (version : List ℕ) (tree : Tree) (tokens : List Token) → Ends limit (ImplementationBlock version) tokens tree → (rest : List Token) × (tokens ≡ token.Open ∷ rest) × Ends limit (Skipping version 0) rest tree
unfolding next run
back_implementation_block limit version tree [] is = absurd (cc)
back_implementation_block limit version tree (token.Open ∷ rest) is = (rest, refl, is)
back_implementation_block limit version tree (_ ∷ rest) is = absurd (cc)

head_back : (b c : Bool) (version : List ℕ) (go_on : State → Option State) (end : State) → option_and_then go_on (cond b (Some (ImplementationName version)) (when c (CpuName version))) ≡ Some end → ((b ≡ true) × (go_on (ImplementationName version) ≡ Some end)) ⊎ ((c ≡ true) × (go_on (CpuName version) ≡ Some end))
head_back true c version go_on end is = inl (refl, is)
head_back false true version go_on end is = inr (refl, is)
head_back false false version go_on end is = absurd (cc)

back_head : (limit : ℕ) (version : List ℕ) (tree : Tree) (tokens : List Token) → Ends limit (Head version) tokens tree → ((rest : List Token) × (tokens ≡ token.Name (codes "IMPLEMENTATION") ∷ rest) × Ends limit (ImplementationName version) rest tree) ⊎ ((rest : List Token) × (tokens ≡ token.Name (codes "CPU") ∷ rest) × Ends limit (CpuName version) rest tree)
unfolding next run
back_head limit version tree [] is = absurd (cc)
back_head limit version tree (token.Name name ∷ rest) is =
    elim (head_back (bytes_eq name (codes "IMPLEMENTATION")) (bytes_eq name (codes "CPU")) version (λ s. run limit s rest) (Finished tree) is) [
      | inl p ↦ inl (rest, ap (λ n. token.Name n ∷ rest) (same_from_test name (codes "IMPLEMENTATION") p.0), p.1)
      | inr p ↦ inr (rest, ap (λ n. token.Name n ∷ rest) (same_from_test name (codes "CPU") p.0), p.1)
    ]
back_head limit version tree (_ ∷ rest) is = absurd (cc)

-- The skipped part.

record SkippedBack (limit : ℕ) (version : List ℕ) (depth : ℕ) (tree : Tree) (tokens : List Token) : Type 0 where
  braces : Braces
  rest : List Token
  same : tokens ≡ skipped_tokens braces (token.SkippedClose ∷ rest)
  goes : Ends limit (after_skipped version depth) rest tree
  shorter : length rest < length tokens

skipped_back : (fuel limit : ℕ) (version : List ℕ) (depth : ℕ) (tree : Tree) (tokens : List Token) → length tokens ≤ fuel → Ends limit (Skipping version depth) tokens tree → SkippedBack limit version depth tree tokens
unfolding next run skipped_tokens
skipped_back fuel limit version depth tree [] le is = absurd (cc)
skipped_back zero limit version depth tree (t ∷ rest) le is = absurd (omega arith)
skipped_back (suc fuel) limit version depth tree (token.SkippedClose ∷ rest) le is =
    record { braces = none; rest = rest; same = refl; goes = is; shorter = omega arith }
skipped_back (suc fuel) limit version depth tree (token.SkippedOpen ∷ rest) le is =
    let inner = skipped_back fuel limit version (suc depth) tree rest (omega arith) is in
    let others = skipped_back fuel limit version depth tree inner.rest (omega (arith, inner.shorter)) inner.goes in
    record {
      braces = some inner.braces others.braces;
      rest = others.rest;
      same = ap (λ ts. token.SkippedOpen ∷ ts) (inner.same ∙ ap (λ ts. skipped_tokens inner.braces (token.SkippedClose ∷ ts)) others.same);
      goes = others.goes;
      shorter = omega (arith, inner.shorter, others.shorter);
    }
skipped_back (suc fuel) limit version depth tree (_ ∷ rest) le is = absurd (cc)

-- Attributes.

back_equals : (limit : ℕ) (tree : Tree) (object : Object) (level : ℕ) (name : List ℕ) (end : Tree) (tokens : List Token) → Ends limit (AttributeEquals (around tree object level) name) tokens end → (rest : List Token) × (tokens ≡ token.Equals ∷ rest) × Ends limit (AttributeValue (around tree object level) name) rest end
unfolding next run
back_equals limit tree object level name end [] is = absurd (cc)
back_equals limit tree object level name end (token.Equals ∷ rest) is = (rest, refl, is)
back_equals limit tree object level name end (_ ∷ rest) is = absurd (cc)

-- what follows a value: the end of its attribute, or a block
record PlainBack (limit : ℕ) (tree : Tree) (object : Object) (level : ℕ) (name : List ℕ) (value : Value) (end : Tree) (tokens : List Token) : Type 0 where
  description : Option (List ℕ)
  rest : List Token
  same : tokens ≡ ending description rest
  goes : Ends limit (Attributes (around tree (object_with object level name value false) level)) rest end

record BracedBack (limit : ℕ) (tree : Tree) (object : Object) (level : ℕ) (name : List ℕ) (value : Value) (end : Tree) (tokens : List Token) : Type 0 where
  room : level < limit
  rest : List Token
  same : tokens ≡ token.Open ∷ rest
  goes : Ends limit (Attributes (around tree (object_with object level name value true) (suc level))) rest end

back_plainly : (limit : ℕ) (tree : Tree) (object : Object) (level : ℕ) (name : List ℕ) (value : Value) (end : Tree) (tokens : List Token) → Ends limit (plainly (around tree object level) name value) tokens end → PlainBack limit tree object level name value end tokens
back_plainly limit tree object level name value end tokens is =
    let back = back_ending limit (part.Attribute (around tree (object_with object level name value false) level)) end tokens is in
    record { description = back.0; rest = back.1; same = back.2; goes = back.3 }

back_block : (limit : ℕ) (tree : Tree) (object : Object) (level : ℕ) (name : List ℕ) (value : Value) (end : Tree) (tokens : List Token) → Ends limit (AttributeBlock (around tree object level) name value) tokens end → PlainBack limit tree object level name value end tokens ⊎ BracedBack limit tree object level name value end tokens
unfolding next run
back_block limit tree object level name value end [] is = absurd (cc)
back_block limit tree object level name value end (token.Semicolon ∷ rest) is = inl (record { description = None; rest = rest; same = refl; goes = is })
back_block limit tree object level name value end (token.Colon ∷ rest) is =
    let back = back_describing limit (part.Attribute (around tree (object_with object level name value false) level)) end rest is in
    inl (record { description = Some back.0; rest = back.1; same = ap (λ ts. token.Colon ∷ ts) back.2; goes = back.3 })
back_block limit tree object level name value end (token.Open ∷ rest) is =
    let parts = when_back (nat_lt level limit) (Attributes (around tree (object_with object level name value true) (suc level))) (λ s. run limit s rest) (Finished end) is in
    inr (record { room = ltb-true level limit parts.0; rest = rest; same = refl; goes = parts.1 })
back_block limit tree object level name value end (_ ∷ rest) is = absurd (cc)

-- a name in the place of a value
data WordCases (word : List ℕ) : Type 0 where
  is_true : word ≡ codes "TRUE" → word_value word ≡ value.Bool true → WordCases word
  is_false : word ≡ codes "FALSE" → word_value word ≡ value.Bool false → WordCases word
  is_auto : word ≡ codes "AUTO" → word_value word ≡ value.Auto → WordCases word
  is_name : IsNoWord word → word_value word ≡ value.Name word → WordCases word

no_word : (xs ys : List ℕ) → bytes_eq xs ys ≡ false → xs ≢ ys
no_word xs ys is same = absurd (cc ((bytes_eq-Decides xs ys).1 same))

word_chosen : (word : List ℕ) (t f a : Bool) → bytes_eq word (codes "TRUE") ≡ t → bytes_eq word (codes "FALSE") ≡ f → bytes_eq word (codes "AUTO") ≡ a → WordCases word
word_chosen word true f a ht hf ha = is_true (same_from_test word (codes "TRUE") ht) (rw ht refl)
word_chosen word false true a ht hf ha = is_false (same_from_test word (codes "FALSE") hf) (rw (ht, hf) refl)
word_chosen word false false true ht hf ha = is_auto (same_from_test word (codes "AUTO") ha) (rw (ht, hf, ha) refl)
word_chosen word false false false ht hf ha =
    is_name (record { not_true = no_word word (codes "TRUE") ht; not_false = no_word word (codes "FALSE") hf; not_auto = no_word word (codes "AUTO") ha }) (rw (ht, hf, ha) refl)

word_cases : (word : List ℕ) → WordCases word
word_cases word = word_chosen word _ _ _ refl refl refl

-- a value, and the end of its attribute or the beginning of its block
record PlainValueBack (limit : ℕ) (tree : Tree) (object : Object) (level : ℕ) (name : List ℕ) (end : Tree) (tokens : List Token) : Type 0 where
  value : Value
  is_value : IsValue value
  description : Option (List ℕ)
  rest : List Token
  same : tokens ≡ value_token value ∷ ending description rest
  goes : Ends limit (Attributes (around tree (object_with object level name value false) level)) rest end

record BracedValueBack (limit : ℕ) (tree : Tree) (object : Object) (level : ℕ) (name : List ℕ) (end : Tree) (tokens : List Token) : Type 0 where
  value : Value
  is_value : IsBracedValue value
  room : level < limit
  rest : List Token
  same : tokens ≡ value_token value ∷ (token.Open ∷ rest)
  goes : Ends limit (Attributes (around tree (object_with object level name value true) (suc level))) rest end

plain_value : (limit : ℕ) (tree : Tree) (object : Object) (level : ℕ) (name : List ℕ) (v : Value) (end : Tree) (t : Token) (tokens : List Token) → IsValue v → t ≡ value_token v → PlainBack limit tree object level name v end tokens → PlainValueBack limit tree object level name end (t ∷ tokens)
plain_value limit tree object level name v end t tokens is same back =
    record { value = v; is_value = is; description = back.description; rest = back.rest; same = ap (λ u. u ∷ tokens) same ∙ ap (λ ts. value_token v ∷ ts) back.same; goes = back.goes }

braced_value : (limit : ℕ) (tree : Tree) (object : Object) (level : ℕ) (name : List ℕ) (v : Value) (end : Tree) (t : Token) (tokens : List Token) → IsBracedValue v → t ≡ value_token v → BracedBack limit tree object level name v end tokens → BracedValueBack limit tree object level name end (t ∷ tokens)
braced_value limit tree object level name v end t tokens is same back =
    record { value = v; is_value = is; room = back.room; rest = back.rest; same = ap (λ u. u ∷ tokens) same ∙ ap (λ ts. value_token v ∷ ts) back.same; goes = back.goes }

either_value : (limit : ℕ) (tree : Tree) (object : Object) (level : ℕ) (name : List ℕ) (v : Value) (end : Tree) (t : Token) (tokens : List Token) → IsValue v → IsBracedValue v → t ≡ value_token v → PlainBack limit tree object level name v end tokens ⊎ BracedBack limit tree object level name v end tokens → PlainValueBack limit tree object level name end (t ∷ tokens) ⊎ BracedValueBack limit tree object level name end (t ∷ tokens)
either_value limit tree object level name v end t tokens plainly_is braced_is same (inl back) = inl (plain_value limit tree object level name v end t tokens plainly_is same back)
either_value limit tree object level name v end t tokens plainly_is braced_is same (inr back) = inr (braced_value limit tree object level name v end t tokens braced_is same back)

word_back : (limit : ℕ) (tree : Tree) (object : Object) (level : ℕ) (name word : List ℕ) (end : Tree) (tokens : List Token) → WordCases word → Ends limit (after_value (around tree object level) name (word_value word)) tokens end → PlainValueBack limit tree object level name end (token.Name word ∷ tokens) ⊎ BracedValueBack limit tree object level name end (token.Name word ∷ tokens)
word_back limit tree object level name word end tokens (is_true same gives) is =
    either_value limit tree object level name (value.Bool true) end (token.Name word) tokens tt tt (ap token.Name same)
    (back_block limit tree object level name (value.Bool true) end tokens (subst (λ v. Ends limit (after_value (around tree object level) name v) tokens end) gives is))
word_back limit tree object level name word end tokens (is_false same gives) is =
    either_value limit tree object level name (value.Bool false) end (token.Name word) tokens tt tt (ap token.Name same)
    (back_block limit tree object level name (value.Bool false) end tokens (subst (λ v. Ends limit (after_value (around tree object level) name v) tokens end) gives is))
word_back limit tree object level name word end tokens (is_auto same gives) is =
    inl (plain_value limit tree object level name value.Auto end (token.Name word) tokens tt (ap token.Name same)
    (back_plainly limit tree object level name value.Auto end tokens (subst (λ v. Ends limit (after_value (around tree object level) name v) tokens end) gives is)))
word_back limit tree object level name word end tokens (is_name plain_name gives) is =
    either_value limit tree object level name (value.Name word) end (token.Name word) tokens plain_name plain_name refl
    (back_block limit tree object level name (value.Name word) end tokens (subst (λ v. Ends limit (after_value (around tree object level) name v) tokens end) gives is))

back_value : (limit : ℕ) (tree : Tree) (object : Object) (level : ℕ) (name : List ℕ) (end : Tree) (tokens : List Token) → Ends limit (AttributeValue (around tree object level) name) tokens end → PlainValueBack limit tree object level name end tokens ⊎ BracedValueBack limit tree object level name end tokens
unfolding next run
back_value limit tree object level name end [] is = absurd (cc)
back_value limit tree object level name end (token.Name word ∷ rest) is = word_back limit tree object level name word end rest (word_cases word) is
back_value limit tree object level name end (token.Number negative size ∷ rest) is =
    inl (plain_value limit tree object level name (value.Number negative size) end (token.Number negative size) rest tt refl
    (back_plainly limit tree object level name (value.Number negative size) end rest is))
back_value limit tree object level name end (token.Text text ∷ rest) is =
    inl (plain_value limit tree object level name (value.Text text) end (token.Text text) rest tt refl
    (back_plainly limit tree object level name (value.Text text) end rest is))
back_value limit tree object level name end (_ ∷ rest) is = absurd (cc)

-- Blocks.

record BlockBack (limit : ℕ) (tree : Tree) (object : Object) (level : ℕ) (end : Tree) (tokens : List Token) : Type 0 where
  block : Block
  is_block : IsBlock limit (suc level) block
  rest : List Token
  same : tokens ≡ block_tokens block (token.Close ∷ rest)
  goes : Ends limit (block_end tree (adding object (attributes_of (suc level) block)) (suc level)) rest end
  shorter : length rest < length tokens

empty_back : (limit : ℕ) (tree : Tree) (object : Object) (level : ℕ) (end : Tree) (rest : List Token) → Ends limit (block_end tree object (suc level)) rest end → BlockBack limit tree object level end (token.Close ∷ rest)
unfolding block_tokens attributes_of IsBlock
empty_back limit tree object level end rest is = record {
  block = empty;
  is_block = tt;
  rest = rest;
  same = refl;
  goes = subst (λ o. Ends limit (block_end tree o (suc level)) rest end) (sym (adding-nil object)) is;
  shorter = omega arith;
}

plain_back : (limit : ℕ) (tree : Tree) (object : Object) (level : ℕ) (end : Tree) (name : List ℕ) (rest : List Token) (back : PlainValueBack limit tree object (suc level) name end rest) → BlockBack limit tree (object_with object (suc level) name back.value false) level end back.rest → length back.rest < length rest → BlockBack limit tree object level end (token.Name name ∷ (token.Equals ∷ rest))
unfolding block_tokens attributes_of IsBlock
plain_back limit tree object level end name rest back others less = record {
  block = plain name back.value back.description others.block;
  is_block = (back.is_value, others.is_block);
  rest = others.rest;
  same = ap (λ ts. token.Name name ∷ (token.Equals ∷ ts)) (back.same ∙ ap (λ ts. value_token back.value ∷ ending back.description ts) others.same);
  goes = subst (λ o. Ends limit (block_end tree o (suc level)) others.rest end) (adding-twice object _ (attributes_of (suc level) others.block)) others.goes;
  shorter = omega (arith, others.shorter);
}

braced_back : (limit : ℕ) (tree : Tree) (object : Object) (level : ℕ) (end : Tree) (name : List ℕ) (rest : List Token) (back : BracedValueBack limit tree object (suc level) name end rest) (inner : BlockBack limit tree (object_with object (suc level) name back.value true) (suc level) end back.rest) (d : Option (List ℕ)) (follow : List Token) → inner.rest ≡ ending d follow → BlockBack limit tree (adding (object_with object (suc level) name back.value true) (attributes_of (suc (suc level)) inner.block)) level end follow → length follow < length rest → BlockBack limit tree object level end (token.Name name ∷ (token.Equals ∷ rest))
unfolding block_tokens attributes_of IsBlock
braced_back limit tree object level end name rest back inner d follow ends others less = record {
  block = braced name back.value inner.block d others.block;
  is_block = (back.is_value, back.room, inner.is_block, others.is_block);
  rest = others.rest;
  same = ap (λ ts. token.Name name ∷ (token.Equals ∷ ts)) (back.same ∙ ap (λ ts. value_token back.value ∷ (token.Open ∷ ts))
      (inner.same ∙ ap (λ ts. block_tokens inner.block (token.Close ∷ ts)) (ends ∙ ap (λ ts. ending d ts) others.same)));
  goes = subst (λ o. Ends limit (block_end tree o (suc level)) others.rest end)
      (adding-twice _ (attributes_of (suc (suc level)) inner.block) (attributes_of (suc level) others.block)
      ∙ adding-twice object _ (attributes_of (suc (suc level)) inner.block ++ attributes_of (suc level) others.block)) others.goes;
  shorter = omega (arith, others.shorter);
}

ending_longer : (d : Option (List ℕ)) (rest tokens : List Token) → tokens ≡ ending d rest → length rest < length tokens
ending_longer None rest tokens same = rw same (omega arith)
ending_longer (Some d) rest tokens same = rw same (omega arith)

plain_shorter : (v : Value) (d : Option (List ℕ)) (rest tokens : List Token) → tokens ≡ value_token v ∷ ending d rest → length rest < length tokens
plain_shorter v d rest tokens same = rw same (omega (arith, ending_longer d rest (ending d rest) refl))

braced_shorter : (v : Value) (rest tokens : List Token) → tokens ≡ value_token v ∷ (token.Open ∷ rest) → length rest < length tokens
braced_shorter v rest tokens same = rw same (omega arith)

first_shorter : (t : Token) (rest tokens : List Token) → tokens ≡ t ∷ rest → length rest < length tokens
first_shorter t rest tokens same = rw same (omega arith)

-- Where blocks of up to so many tokens are read back, so is an attribute with the attributes after it.
module _ (fuel limit : ℕ) (tree end : Tree)
    (recur : (object : Object) (level : ℕ) (tokens : List Token) → length tokens ≤ fuel → Ends limit (Attributes (around tree object (suc level))) tokens end → BlockBack limit tree object level end tokens) where
  value_back : (object : Object) (level : ℕ) (name : List ℕ) (rest : List Token) → length rest ≤ fuel → PlainValueBack limit tree object (suc level) name end rest ⊎ BracedValueBack limit tree object (suc level) name end rest → BlockBack limit tree object level end (token.Name name ∷ (token.Equals ∷ rest))
  value_back object level name rest le (inl back) =
      let less : length back.rest < length rest = plain_shorter back.value back.description back.rest rest back.same in
      plain_back limit tree object level end name rest back (recur (object_with object (suc level) name back.value false) level back.rest (omega arith) back.goes) less
  value_back object level name rest le (inr back) =
      let less : length back.rest < length rest = braced_shorter back.value back.rest rest back.same in
      let inner : BlockBack limit tree (object_with object (suc level) name back.value true) (suc level) end back.rest = recur (object_with object (suc level) name back.value true) (suc level) back.rest (omega arith) back.goes in
      let after : Object = adding (object_with object (suc level) name back.value true) (attributes_of (suc (suc level)) inner.block) in
      let closed = back_ending limit (part.Attribute (around tree after (suc level))) end inner.rest inner.goes in
      let shorter : length closed.1 < length inner.rest = ending_longer closed.0 closed.1 inner.rest closed.2 in
      let inner_shorter : length inner.rest < length back.rest = inner.shorter in
      braced_back limit tree object level end name rest back inner closed.0 closed.1 closed.2 (recur after level closed.1 (omega arith) closed.3) (omega arith)

  name_back : (object : Object) (level : ℕ) (name : List ℕ) (rest : List Token) → length rest ≤ fuel → Ends limit (AttributeEquals (around tree object (suc level)) name) rest end → BlockBack limit tree object level end (token.Name name ∷ rest)
  name_back object level name rest le is =
      let back = back_equals limit tree object (suc level) name end rest is in
      let less : length back.0 < length rest = first_shorter token.Equals back.0 rest back.1 in
      subst (λ ts. BlockBack limit tree object level end (token.Name name ∷ ts)) (sym back.1)
      (value_back object level name back.0 (omega arith) (back_value limit tree object (suc level) name end back.0 back.2))

block_back : (fuel limit : ℕ) (tree end : Tree) (object : Object) (level : ℕ) (tokens : List Token) → length tokens ≤ fuel → Ends limit (Attributes (around tree object (suc level))) tokens end → BlockBack limit tree object level end tokens
unfolding next run
block_back fuel limit tree end object level [] le is = absurd (cc)
block_back zero limit tree end object level (t ∷ rest) le is = absurd (omega arith)
block_back (suc fuel) limit tree end object level (token.Close ∷ rest) le is = empty_back limit tree object level end rest is
block_back (suc fuel) limit tree end object level (token.Name name ∷ rest) le is =
    name_back fuel limit tree end (λ o l ts h e. block_back fuel limit tree end o l ts h e) object level name rest (omega arith) is
block_back (suc fuel) limit tree end object level (_ ∷ rest) le is = absurd (cc)

-- Objects.

-- the object of a kind and a name, without attributes
bare : List ℕ → List ℕ → Object
bare kind name = record { kind = kind; name = name; attributes = [] }

record BracesBack (limit : ℕ) (tree : Tree) (kind name : List ℕ) (end : Tree) (tokens : List Token) : Type 0 where
  block : Option Block
  is_block : IsObjectBlock limit block
  description : Option (List ℕ)
  rest : List Token
  same : tokens ≡ braces_tokens block (ending description rest)
  goes : Ends limit (Objects (with_object tree (record { kind = kind; name = name; attributes = braces_attributes block }))) rest end
  shorter : length rest < length tokens

opened_back : (limit : ℕ) (tree : Tree) (kind name : List ℕ) (end : Tree) (rest : List Token) → BlockBack limit tree (bare kind name) 0 end rest → BracesBack limit tree kind name end (token.Open ∷ rest)
unfolding bare
opened_back limit tree kind name end rest back =
    let object : Object = record { kind = kind; name = name; attributes = attributes_of 1 back.block } in
    let closed = back_ending limit (part.Object tree object) end back.rest back.goes in
    let shorter : length closed.1 < length back.rest = ending_longer closed.0 closed.1 back.rest closed.2 in
    let block_shorter : length back.rest < length rest = back.shorter in
    record {
      block = Some back.block;
      is_block = back.is_block;
      description = closed.0;
      rest = closed.1;
      same = ap (λ ts. token.Open ∷ ts) (back.same ∙ ap (λ ts. block_tokens back.block (token.Close ∷ ts)) closed.2);
      goes = closed.3;
      shorter = omega arith;
    }

braces_back : (limit : ℕ) (tree : Tree) (kind name : List ℕ) (end : Tree) (tokens : List Token) → Ends limit (ObjectBlock tree (bare kind name)) tokens end → BracesBack limit tree kind name end tokens
unfolding next run bare
braces_back limit tree kind name end [] is = absurd (cc)
braces_back limit tree kind name end (token.Semicolon ∷ rest) is =
    record { block = None; is_block = tt; description = None; rest = rest; same = refl; goes = is; shorter = omega arith }
braces_back limit tree kind name end (token.Colon ∷ rest) is =
    let back = back_describing limit (part.Object tree (record { kind = kind; name = name; attributes = [] })) end rest is in
    record {
      block = None;
      is_block = tt;
      description = Some back.0;
      rest = back.1;
      same = ap (λ ts. token.Colon ∷ ts) back.2;
      goes = back.3;
      shorter = ending_longer (Some back.0) back.1 (token.Colon ∷ rest) (ap (λ ts. token.Colon ∷ ts) back.2);
    }
braces_back limit tree kind name end (token.Open ∷ rest) is =
    opened_back limit tree kind name end rest (block_back (length rest) limit tree end (bare kind name) 0 rest (omega arith) is)
braces_back limit tree kind name end (_ ∷ rest) is = absurd (cc)

back_object_name : (limit : ℕ) (tree : Tree) (kind : List ℕ) (end : Tree) (tokens : List Token) → Ends limit (ObjectName tree kind) tokens end → (name : List ℕ) × (rest : List Token) × (tokens ≡ token.Name name ∷ rest) × Ends limit (ObjectBlock tree (bare kind name)) rest end
unfolding next run bare
back_object_name limit tree kind end [] is = absurd (cc)
back_object_name limit tree kind end (token.Name name ∷ rest) is = (name, rest, refl, is)
back_object_name limit tree kind end (_ ∷ rest) is = absurd (cc)

record ObjectsBack (limit : ℕ) (tree end : Tree) (tokens : List Token) : Type 0 where
  objects : List WrittenObject
  are : AreObjects limit objects
  rest : List Token
  same : tokens ≡ objects_tokens objects (token.Close ∷ rest)
  goes : Ends limit (Ending (part.Cpu (with_objects tree (objects_of objects)))) rest end

no_objects_back : (limit : ℕ) (tree end : Tree) (rest : List Token) → Ends limit (Ending (part.Cpu tree)) rest end → ObjectsBack limit tree end (token.Close ∷ rest)
unfolding objects_tokens objects_of AreObjects
no_objects_back limit tree end rest is = record {
  objects = [];
  are = tt;
  rest = rest;
  same = refl;
  goes = subst (λ t. Ends limit (Ending (part.Cpu t)) rest end) (sym (with_objects-nil tree)) is;
}

more_objects_back : (limit : ℕ) (tree end : Tree) (kind name : List ℕ) (rest : List Token) (back : BracesBack limit tree kind name end rest) → ObjectsBack limit (with_object tree (record { kind = kind; name = name; attributes = braces_attributes back.block })) end back.rest → ObjectsBack limit tree end (token.Name kind ∷ (token.Name name ∷ rest))
unfolding objects_tokens objects_of AreObjects
more_objects_back limit tree end kind name rest back others = record {
  objects = record { kind = kind; name = name; block = back.block; description = back.description } ∷ others.objects;
  are = (back.is_block, others.are);
  rest = others.rest;
  same = ap (λ ts. token.Name kind ∷ (token.Name name ∷ ts)) (back.same ∙ ap (λ ts. braces_tokens back.block (ending back.description ts)) others.same);
  goes = subst (λ t. Ends limit (Ending (part.Cpu t)) others.rest end) (with_objects-twice tree _ (objects_of others.objects)) others.goes;
}

objects_back : (fuel limit : ℕ) (tree end : Tree) (tokens : List Token) → length tokens ≤ fuel → Ends limit (Objects tree) tokens end → ObjectsBack limit tree end tokens
unfolding next run
objects_back fuel limit tree end [] le is = absurd (cc)
objects_back zero limit tree end (t ∷ rest) le is = absurd (omega arith)
objects_back (suc fuel) limit tree end (token.Close ∷ rest) le is = no_objects_back limit tree end rest is
objects_back (suc fuel) limit tree end (token.Name kind ∷ rest) le is =
    let named = back_object_name limit tree kind end rest is in
    let less : length named.1 < length rest = first_shorter (token.Name named.0) named.1 rest named.2 in
    let back : BracesBack limit tree kind named.0 end named.1 = braces_back limit tree kind named.0 end named.1 named.3 in
    let shorter : length back.rest < length named.1 = back.shorter in
    subst (λ ts. ObjectsBack limit tree end (token.Name kind ∷ ts)) (sym named.2)
    (more_objects_back limit tree end kind named.0 named.1 back
    (objects_back fuel limit (with_object tree (record { kind = kind; name = named.0; attributes = braces_attributes back.block })) end back.rest (omega arith) back.goes))
objects_back (suc fuel) limit tree end (_ ∷ rest) le is = absurd (cc)

-- The file.

back_finished : (limit : ℕ) (tree end : Tree) (tokens : List Token) → Ends limit (Finished tree) tokens end → (tokens ≡ []) × (tree ≡ end)
unfolding next run
back_finished limit tree end [] is = (refl, cc)
back_finished limit tree end (_ ∷ rest) is = absurd (cc)

-- the processor behind its word
record CpuBack (limit : ℕ) (version : List ℕ) (end : Tree) (tokens : List Token) : Type 0 where
  cpu : List ℕ
  objects : List WrittenObject
  are : AreObjects limit objects
  description : Option (List ℕ)
  same : tokens ≡ token.Name cpu ∷ (token.Open ∷ objects_tokens objects (token.Close ∷ ending description []))
  is_tree : record { version = version; cpu = cpu; objects = objects_of objects } ≡ end

cpu_back : (limit : ℕ) (version : List ℕ) (end : Tree) (tokens : List Token) → Ends limit (CpuName version) tokens end → CpuBack limit version end tokens
cpu_back limit version end tokens is =
    let named = back_cpu_name limit version end tokens is in
    let opened = back_cpu_block limit (record { version = version; cpu = named.0; objects = [] }) end named.1 named.3 in
    let back : ObjectsBack limit (record { version = version; cpu = named.0; objects = [] }) end opened.0 = objects_back (length opened.0) limit (record { version = version; cpu = named.0; objects = [] }) end opened.0 (omega arith) opened.2 in
    let closed = back_ending limit (part.Cpu (record { version = version; cpu = named.0; objects = objects_of back.objects })) end back.rest back.goes in
    let done = back_finished limit (record { version = version; cpu = named.0; objects = objects_of back.objects }) end closed.1 closed.3 in
    record {
      cpu = named.0;
      objects = back.objects;
      are = back.are;
      description = closed.0;
      same = named.2 ∙ ap (λ ts. token.Name named.0 ∷ ts) (opened.1 ∙ ap (λ ts. token.Open ∷ ts)
          (back.same ∙ ap (λ ts. objects_tokens back.objects (token.Close ∷ ts)) (closed.2 ∙ ap (λ ts. ending closed.0 ts) done.0)));
      is_tree = done.1;
    }

-- IMPLEMENTATION, where it stands, and the processor
record HeadBack (limit : ℕ) (version : List ℕ) (end : Tree) (tokens : List Token) : Type 0 where
  implementation : Option Implementation
  cpu : List ℕ
  objects : List WrittenObject
  are : AreObjects limit objects
  description : Option (List ℕ)
  same : tokens ≡ implementation_tokens implementation (cpu_tokens cpu objects description)
  is_tree : record { version = version; cpu = cpu; objects = objects_of objects } ≡ end

head_back_cpu : (limit : ℕ) (version : List ℕ) (end : Tree) (rest : List Token) → CpuBack limit version end rest → HeadBack limit version end (token.Name (codes "CPU") ∷ rest)
head_back_cpu limit version end rest back = record {
  implementation = None;
  cpu = back.cpu;
  objects = back.objects;
  are = back.are;
  description = back.description;
  same = ap (λ ts. token.Name (codes "CPU") ∷ ts) back.same;
  is_tree = back.is_tree;
}

head_back_implementation : (limit : ℕ) (version : List ℕ) (end : Tree) (rest : List Token) → Ends limit (ImplementationName version) rest end → HeadBack limit version end (token.Name (codes "IMPLEMENTATION") ∷ rest)
head_back_implementation limit version end rest is =
    let named = back_implementation_name limit version end rest is in
    let opened = back_implementation_block limit version end named.1 named.3 in
    let skipped : SkippedBack limit version 0 end opened.0 = skipped_back (length opened.0) limit version 0 end opened.0 (omega arith) opened.2 in
    let closed = back_ending limit (part.Implementation version) end skipped.rest skipped.goes in
    let word = back_cpu_word limit version end closed.1 closed.3 in
    let back : CpuBack limit version end word.0 = cpu_back limit version end word.0 word.2 in
    record {
      implementation = Some (record { name = named.0; skipped = skipped.braces; description = closed.0 });
      cpu = back.cpu;
      objects = back.objects;
      are = back.are;
      description = back.description;
      same = ap (λ ts. token.Name (codes "IMPLEMENTATION") ∷ ts) (named.2 ∙ ap (λ ts. token.Name named.0 ∷ ts) (opened.1 ∙ ap (λ ts. token.Open ∷ ts)
          (skipped.same ∙ ap (λ ts. skipped_tokens skipped.braces (token.SkippedClose ∷ ts)) (closed.2 ∙ ap (λ ts. ending closed.0 ts)
          (word.1 ∙ ap (λ ts. token.Name (codes "CPU") ∷ ts) back.same)))));
      is_tree = back.is_tree;
    }

head_back_any : (limit : ℕ) (version : List ℕ) (end : Tree) (tokens : List Token) → Ends limit (Head version) tokens end → HeadBack limit version end tokens
head_back_any limit version end tokens is =
    elim (back_head limit version end tokens is) [
      | inl p ↦ subst (λ ts. HeadBack limit version end ts) (sym p.1) (head_back_implementation limit version end p.0 p.2)
      | inr p ↦ subst (λ ts. HeadBack limit version end ts) (sym p.1) (head_back_cpu limit version end p.0 (cpu_back limit version end p.0 p.2))
    ]

-- the file whose tokens lead from the start to the end
pub record FileBack (limit : ℕ) (tokens : List Token) (end : Tree) : Type 0 where
  pub file : File
  pub is_file : IsFile limit file
  pub same : file_tokens file ≡ tokens
  pub is_tree : tree_of file ≡ end

pub file_back : (limit : ℕ) (tokens : List Token) (end : Tree) → Ends limit Start tokens end → FileBack limit tokens end
file_back limit tokens end is =
    let started = back_start limit end tokens is in
    let equals = back_version_equals limit end started.0 started.2 in
    let version = back_version_text limit end equals.0 equals.2 in
    let closed = back_ending limit (part.Version version.0) end version.1 version.3 in
    let back : HeadBack limit version.0 end closed.1 = head_back_any limit version.0 end closed.1 closed.3 in
    record {
      file = record { version = version.0; version_description = closed.0; implementation = back.implementation; cpu = back.cpu; objects = back.objects; description = back.description };
      is_file = back.are;
      same = sym (started.1 ∙ ap (λ ts. token.Name (codes "OIL_VERSION") ∷ ts) (equals.1 ∙ ap (λ ts. token.Equals ∷ ts) (version.2 ∙ ap (λ ts. token.Text version.0 ∷ ts)
          (closed.2 ∙ ap (λ ts. ending closed.0 ts) back.same))));
      is_tree = back.is_tree;
    }
