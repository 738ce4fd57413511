-- Every state can be completed, so tokens begin a file just where the states accept them.
use Rattle.std.proofs.Common.{◌≡◌, ℕ, zero, suc, false, List, [], ◌∷◌, ◌++◌, refl, sym, ap, ◌∙◌, subst, Some, None, Option}
use Rattle.std.specs.Prelude.{codes}
use Rattle.oil_grammar.specs.Grammar.{tree_of}
use Rattle.oil_grammar.specs.Working.States.{around, with_object, object_with, after_part, next, run}
use Rattle.oil_grammar.specs.declared.token.Token.{Token}
use Rattle.oil_grammar.specs.declared.token.Token.TheVariants as token
use Rattle.oil_grammar.specs.declared.tree.Value.TheVariants as value
use Rattle.oil_grammar.specs.declared.tree.Object.{Object}
use Rattle.oil_grammar.specs.declared.tree.Tree.{Tree}
use Rattle.oil_grammar.specs.declared.state.Part.{Part}
use Rattle.oil_grammar.specs.declared.state.Part.TheVariants as part
use Rattle.oil_grammar.specs.declared.state.State.{State}
use Rattle.oil_grammar.specs.declared.state.State.TheVariants.{Start, VersionEquals, VersionText, Ending, Describing, Described, Head, ImplementationName, ImplementationBlock, Skipping, CpuWord, CpuName, CpuBlock, Objects, ObjectName, ObjectBlock, Attributes, AttributeEquals, AttributeValue, AttributeBlock, Finished}
use Rattle.std.specs.Prelude.{option_and_then}
use Rattle.oil_grammar.specs.Grammar.{depth_limit}
use Rattle.oil_grammar.specs.Faults.{CanGoOn, IsComplete}
use Rattle.oil_grammar.proofs.Accepts.{run_file}
use Rattle.oil_grammar.proofs.Sound.{Ends, FileBack, file_back}

-- Runs over two lists.

and_then_twice : (o : Option State) (f g : State → Option State) → option_and_then g (option_and_then f o) ≡ option_and_then (λ s. option_and_then g (f s)) o
and_then_twice None f g = refl
and_then_twice (Some s) f g = refl

pub run-append : (limit : ℕ) (state : State) (xs ys : List Token) → run limit state (xs ++ ys) ≡ option_and_then (λ s. run limit s ys) (run limit state xs)
unfolding run
run-append limit state [] ys = refl
run-append limit state (t ∷ xs) ys =
    ap_and_then (next limit state t) (λ s. run limit s (xs ++ ys)) (λ s. option_and_then (λ r. run limit r ys) (run limit s xs)) (λ s. run-append limit s xs ys)
    ∙ sym (and_then_twice (next limit state t) (λ s. run limit s xs) (λ r. run limit r ys))
  where
    ap_and_then : (o : Option State) (f g : State → Option State) → ((s : State) → f s ≡ g s) → option_and_then f o ≡ option_and_then g o
    ap_and_then None f g same = refl
    ap_and_then (Some s) f g same = same s

pub run_on : (limit : ℕ) (state after : State) (xs ys : List Token) → run limit state xs ≡ Some after → run limit state (xs ++ ys) ≡ run limit after ys
run_on limit state after xs ys is = run-append limit state xs ys ∙ ap (λ o. option_and_then (λ s. run limit s ys) o) is

some_before : (o : Option State) (f : State → Option State) (end : State) → option_and_then f o ≡ Some end → (s : State) × (o ≡ Some s)
some_before None f end is = absurd (cc)
some_before (Some s) f end is = (s, refl)

pub one_more : (limit : ℕ) (state after : State) (xs : List Token) (t : Token) → run limit state xs ≡ Some after → run limit state (xs ++ t ∷ []) ≡ next limit after t
unfolding run
one_more limit state after xs t is = run_on limit state after xs (t ∷ []) is ∙ single (next limit after t)
  where
    single : (o : Option State) → option_and_then (λ s. Some s) o ≡ o
    single None = refl
    single (Some s) = refl

-- Completions.

record Completed (limit : ℕ) (state : State) : Type 0 where
  more : List Token
  end : Tree
  goes : Ends limit state more end

-- one more token before those of a completion
before : (limit : ℕ) (state after : State) (t : Token) → next limit state t ≡ Some after → Completed limit after → Completed limit state
unfolding run
before limit state after t leads done = record { more = t ∷ done.more; end = done.end; goes = ap (λ o. option_and_then (λ s. run limit s done.more) o) leads ∙ done.goes }

module _ (limit : ℕ) where
  finished : (tree : Tree) → Completed limit (Finished tree)
  unfolding run
  finished tree = record { more = []; end = tree; goes = refl }

  objects : (tree : Tree) → Completed limit (Objects tree)
  unfolding next
  objects tree = before limit _ (Ending (part.Cpu tree)) token.Close refl (before limit _ (Finished tree) token.Semicolon refl (finished tree))

  cpu_name : (version : List ℕ) → Completed limit (CpuName version)
  unfolding next
  cpu_name version = before limit _ _ (token.Name (codes "C")) refl (before limit _ _ token.Open refl (objects (record { version = version; cpu = codes "C"; objects = [] })))

  cpu_word : (version : List ℕ) → Completed limit (CpuWord version)
  unfolding next
  cpu_word version = before limit _ (CpuName version) (token.Name (codes "CPU")) refl (cpu_name version)

  head : (version : List ℕ) → Completed limit (Head version)
  unfolding next
  head version = before limit _ (CpuName version) (token.Name (codes "CPU")) refl (cpu_name version)

  attributes : (level : ℕ) (tree : Tree) (object : Object) → Completed limit (Attributes (around tree object level))
  unfolding next
  attributes zero tree object = before limit _ _ token.Close refl (before limit _ _ token.Semicolon refl (objects (with_object tree object)))
  attributes (suc zero) tree object = before limit _ _ token.Close refl (before limit _ _ token.Semicolon refl (objects (with_object tree object)))
  attributes (suc (suc level)) tree object = before limit _ _ token.Close refl (before limit _ _ token.Semicolon refl (attributes (suc level) tree object))

  after : (p : Part) → Completed limit (after_part p)
  after (part.Version version) = head version
  after (part.Implementation version) = cpu_word version
  after (part.Attribute a) = attributes a.level a.tree a.object
  after (part.Object tree object) = objects (with_object tree object)
  after (part.Cpu tree) = finished tree

  ended : (p : Part) → Completed limit (Ending p)
  unfolding next
  ended p = before limit _ (after_part p) token.Semicolon refl (after p)

  described : (p : Part) → Completed limit (Described p)
  unfolding next
  described p = before limit _ (after_part p) token.Semicolon refl (after p)

  skipping : (version : List ℕ) (depth : ℕ) → Completed limit (Skipping version depth)
  unfolding next
  skipping version zero = before limit _ _ token.SkippedClose refl (ended (part.Implementation version))
  skipping version (suc depth) = before limit _ _ token.SkippedClose refl (skipping version depth)

  implementation_block : (version : List ℕ) → Completed limit (ImplementationBlock version)
  unfolding next
  implementation_block version = before limit _ _ token.Open refl (skipping version 0)

  value_place : (tree : Tree) (object : Object) (level : ℕ) (name : List ℕ) → Completed limit (AttributeValue (around tree object level) name)
  unfolding next
  value_place tree object level name = before limit _ _ (token.Text []) refl (ended (part.Attribute (around tree (object_with object level name (value.Text []) false) level)))

  version_text : Completed limit VersionText
  unfolding next
  version_text = before limit _ _ (token.Text []) refl (ended (part.Version []))

  version_equals : Completed limit VersionEquals
  unfolding next
  version_equals = before limit _ _ token.Equals refl version_text

  completed : (state : State) → Completed limit state
  unfolding next
  completed Start = before limit _ VersionEquals (token.Name (codes "OIL_VERSION")) refl version_equals
  completed VersionEquals = version_equals
  completed VersionText = version_text
  completed (Ending p) = ended p
  completed (Describing p) = before limit _ _ (token.Text []) refl (described p)
  completed (Described p) = described p
  completed (Head version) = head version
  completed (ImplementationName version) = before limit _ _ (token.Name (codes "I")) refl (implementation_block version)
  completed (ImplementationBlock version) = implementation_block version
  completed (Skipping version depth) = skipping version depth
  completed (CpuWord version) = cpu_word version
  completed (CpuName version) = cpu_name version
  completed (CpuBlock tree) = before limit _ _ token.Open refl (objects tree)
  completed (Objects tree) = objects tree
  completed (ObjectName tree kind) = before limit _ _ (token.Name (codes "O")) refl (before limit _ _ token.Semicolon refl (objects (with_object tree (record { kind = kind; name = codes "O"; attributes = [] }))))
  completed (ObjectBlock tree object) = before limit _ _ token.Semicolon refl (objects (with_object tree object))
  completed (Attributes a) = attributes a.level a.tree a.object
  completed (AttributeEquals a name) = before limit _ _ token.Equals refl (value_place a.tree a.object a.level name)
  completed (AttributeValue a name) = value_place a.tree a.object a.level name
  completed (AttributeBlock a name v) = before limit _ _ token.Semicolon refl (attributes a.level a.tree (object_with a.object a.level name v false))
  completed (Finished tree) = finished tree

-- Tokens begin a file just where the states accept them.

pub can_go_on : (limit : ℕ) (state : State) (tokens : List Token) → run limit Start tokens ≡ Some state → CanGoOn limit tokens
can_go_on limit state tokens is =
    let done : Completed limit state = completed limit state in
    let back : FileBack limit (tokens ++ done.more) done.end = file_back limit (tokens ++ done.more) done.end (run_on limit Start state tokens done.more is ∙ done.goes) in
    record { file = back.file; is_file = back.is_file; more = done.more; same = back.same }

pub accepted : (limit : ℕ) (tokens : List Token) → CanGoOn limit tokens → (state : State) × (run limit Start tokens ≡ Some state)
accepted limit tokens goes =
    let all : run limit Start (tokens ++ goes.more) ≡ Some (Finished (tree_of goes.file)) = subst (λ ts. run limit Start ts ≡ Some (Finished (tree_of goes.file))) goes.same (run_file limit goes.file goes.is_file) in
    some_before (run limit Start tokens) (λ s. run limit s goes.more) (Finished (tree_of goes.file)) (sym (run-append limit Start tokens goes.more) ∙ all)

pub refused : (limit : ℕ) (tokens : List Token) → run limit Start tokens ≡ None → CanGoOn limit tokens → ⊥
refused limit tokens is goes = let yes = accepted limit tokens goes in absurd (cc (sym is ∙ yes.1))

pub not_complete : (state : State) (tokens : List Token) → run depth_limit Start tokens ≡ Some state → ((tree : Tree) → state ≡ Finished tree → ⊥) → IsComplete tokens → ⊥
not_complete state tokens is other whole =
    let ends : run depth_limit Start tokens ≡ Some (Finished (tree_of whole.file)) = subst (λ ts. run depth_limit Start ts ≡ Some (Finished (tree_of whole.file))) whole.same (run_file depth_limit whole.file whole.is_file) in
    other (tree_of whole.file) (cc (sym is ∙ ends))
