-- What the states say of the place after the tokens that they were reached by.
use Rattle.std.proofs.Common.{◌≡◌, ℕ, zero, suc, ◌+◌, ◌≤◌, ◌<◌, Bool, true, false, cond, List, [], ◌∷◌, ◌++◌, refl, sym, ap, ◌∙◌, subst, Some, None, Option, arith, lt-ltb}
use Rattle.std.specs.Prelude.{codes, nat_lt}
use Rattle.std.specs.Str.{bytes_eq}
use Rattle.oil_grammar.specs.Working.States.{around, when, object_with, after_part, after_skipped, block_end, word_value, after_value, next, run, is_skipping}
use Rattle.oil_grammar.specs.declared.token.Token.{Token}
use Rattle.oil_grammar.specs.declared.token.Token.TheVariants as token
use Rattle.oil_grammar.specs.declared.tree.Value.{Value}
use Rattle.oil_grammar.specs.declared.tree.Value.TheVariants as value
use Rattle.oil_grammar.specs.declared.tree.Object.{Object}
use Rattle.oil_grammar.specs.declared.tree.Tree.{Tree}
use Rattle.oil_grammar.specs.declared.state.Part.{Part}
use Rattle.oil_grammar.specs.declared.state.Part.TheVariants as part
use Rattle.oil_grammar.specs.declared.state.State.{State}
use Rattle.oil_grammar.specs.declared.state.State.TheVariants.{Start, VersionEquals, Ending, Describing, Described, Head, ImplementationName, Skipping, CpuWord, CpuName, ObjectBlock, Attributes, AttributeEquals, AttributeValue, AttributeBlock}
use Rattle.std.specs.Prelude.{option_and_then}
use borrow.Author.Tests.{ltb-true}
use Rattle.std.specs.Prelude.{IfSome}
use Rattle.oil_grammar.specs.Grammar.{depth_limit}
use Rattle.oil_grammar.specs.Faults.{CanGoOn, GoesOnWithin, IsKindOf}
use Rattle.oil_grammar.specs.Tokens.{is_skipped}
use Rattle.oil_grammar.specs.Working.States.{around, fault_at, PartFits, StateFits}
use Rattle.oil_grammar.specs.declared.fault.OilKind.TheVariants.{Expected, Depth}
use Rattle.oil_grammar.proofs.Viable.{one_more, can_go_on, accepted, refused}

-- The skipped part.

-- a token is of the skipped part just where the state before it is
pub same_mode : (limit : ℕ) (state after : State) (t : Token) → next limit state t ≡ Some after → is_skipped t ≡ is_skipping state
unfolding next
same_mode limit (Skipping version depth) after token.SkippedOpen is = refl
same_mode limit (Skipping version depth) after token.SkippedClose is = refl
same_mode limit (Skipping version depth) after _ is = absurd (cc)
same_mode limit _ after token.SkippedOpen is = absurd (cc)
same_mode limit _ after token.SkippedClose is = absurd (cc)
same_mode limit _ after _ is = refl

skipping_goes : (state : State) (tokens : List Token) → run depth_limit Start tokens ≡ Some state → is_skipping state ≡ true → (next_token : Token) × (is_skipped next_token ≡ true) × CanGoOn depth_limit (tokens ++ next_token ∷ [])
unfolding next
skipping_goes (Skipping version depth) tokens is mode =
    (token.SkippedOpen, refl, can_go_on depth_limit (Skipping version (suc depth)) (tokens ++ token.SkippedOpen ∷ []) (one_more depth_limit Start (Skipping version depth) tokens token.SkippedOpen is))
skipping_goes _ tokens is mode = absurd (cc)

goes_within : (state : State) (tokens : List Token) → run depth_limit Start tokens ≡ Some state → (skips : Bool) → is_skipping state ≡ skips → GoesOnWithin skips tokens
goes_within state tokens is true mode = skipping_goes state tokens is mode
goes_within state tokens is false mode = λ t skipped goes.
    let yes = accepted depth_limit (tokens ++ t ∷ []) goes in
    let same : is_skipped t ≡ is_skipping state = same_mode depth_limit state yes.0 t (sym (one_more depth_limit Start state tokens t is) ∙ yes.1) in
    absurd (cc (sym skipped ∙ (same ∙ mode)))

pub goes_on_within : (state : State) (tokens : List Token) → run depth_limit Start tokens ≡ Some state → GoesOnWithin (is_skipping state) tokens
goes_on_within state tokens is = goes_within state tokens is (is_skipping state) refl

-- Levels.

part_fits : (limit : ℕ) (p : Part) → PartFits limit p → StateFits limit (after_part p)
part_fits limit (part.Version version) fits = tt
part_fits limit (part.Implementation version) fits = tt
part_fits limit (part.Attribute a) fits = fits
part_fits limit (part.Object tree object) fits = tt
part_fits limit (part.Cpu tree) fits = tt

when_fits : (limit : ℕ) (b : Bool) (state : State) → (b ≡ true → StateFits limit state) → IfSome (when b state) (StateFits limit)
when_fits limit true state fits = fits refl
when_fits limit false state fits = tt

head_fits : (limit : ℕ) (b c : Bool) (version : List ℕ) → IfSome (cond b (Some (ImplementationName version)) (when c (CpuName version))) (StateFits limit)
head_fits limit true c version = tt
head_fits limit false true version = tt
head_fits limit false false version = tt

skipped_fits : (limit : ℕ) (version : List ℕ) (depth : ℕ) → StateFits limit (after_skipped version depth)
skipped_fits limit version zero = tt
skipped_fits limit version (suc depth) = tt

block_fits : (limit : ℕ) (tree : Tree) (object : Object) (level : ℕ) → level ≤ limit → StateFits limit (block_end tree object level)
block_fits limit tree object zero fits = tt
block_fits limit tree object (suc zero) fits = tt
block_fits limit tree object (suc (suc level)) fits = omega arith

value_fits : (limit : ℕ) (tree : Tree) (object : Object) (level : ℕ) (name : List ℕ) (v : Value) → level ≤ limit → StateFits limit (after_value (around tree object level) name v)
value_fits limit tree object level name (value.Name word) fits = fits
value_fits limit tree object level name (value.Number negative size) fits = fits
value_fits limit tree object level name (value.Text text) fits = fits
value_fits limit tree object level name (value.Bool b) fits = fits
value_fits limit tree object level name value.Auto fits = fits

fits_next : (limit : ℕ) (state : State) (t : Token) → 1 ≤ limit → StateFits limit state → IfSome (next limit state t) (StateFits limit)
unfolding next
fits_next limit Start (token.Name name) one fits = when_fits limit (bytes_eq name (codes "OIL_VERSION")) VersionEquals (λ _. tt)
fits_next limit (Ending p) token.Colon one fits = fits
fits_next limit (Ending p) token.Semicolon one fits = part_fits limit p fits
fits_next limit (Describing p) (token.Text d) one fits = fits
fits_next limit (Described p) token.Semicolon one fits = part_fits limit p fits
fits_next limit (Head version) (token.Name name) one fits = head_fits limit (bytes_eq name (codes "IMPLEMENTATION")) (bytes_eq name (codes "CPU")) version
fits_next limit (Skipping version depth) token.SkippedOpen one fits = tt
fits_next limit (Skipping version depth) token.SkippedClose one fits = skipped_fits limit version depth
fits_next limit (CpuWord version) (token.Name name) one fits = when_fits limit (bytes_eq name (codes "CPU")) (CpuName version) (λ _. tt)
fits_next limit (ObjectBlock tree object) token.Open one fits = one
fits_next limit (Attributes a) token.Close one fits = block_fits limit a.tree a.object a.level fits
fits_next limit (Attributes a) (token.Name name) one fits = fits
fits_next limit (AttributeEquals a name) token.Equals one fits = fits
fits_next limit (AttributeValue a name) (token.Name word) one fits = value_fits limit a.tree a.object a.level name (word_value word) fits
fits_next limit (AttributeValue a name) (token.Number negative size) one fits = fits
fits_next limit (AttributeValue a name) (token.Text text) one fits = fits
fits_next limit (AttributeBlock a name v) token.Open one fits = when_fits limit (nat_lt a.level limit) _ (λ is. let less : a.level < limit = ltb-true a.level limit is in omega arith)
fits_next limit (AttributeBlock a name v) token.Colon one fits = fits
fits_next limit (AttributeBlock a name v) token.Semicolon one fits = fits
fits_next limit _ (token.Name name) one fits = tt
fits_next limit _ (token.Number negative size) one fits = tt
fits_next limit _ (token.Text text) one fits = tt
fits_next limit _ token.Open one fits = tt
fits_next limit _ token.Close one fits = tt
fits_next limit _ token.Equals one fits = tt
fits_next limit _ token.Semicolon one fits = tt
fits_next limit _ token.Colon one fits = tt
fits_next limit _ token.SkippedOpen one fits = tt
fits_next limit _ token.SkippedClose one fits = tt

fits_after : (limit : ℕ) (after : State) (tokens : List Token) (o : Option State) → ((s : State) → StateFits limit s → run limit s tokens ≡ Some after → StateFits limit after) → option_and_then (λ s. run limit s tokens) o ≡ Some after → IfSome o (StateFits limit) → StateFits limit after
fits_after limit after tokens None recur is fits = absurd (cc)
fits_after limit after tokens (Some s) recur is fits = recur s fits is

pub run_fits : (limit : ℕ) (state after : State) (tokens : List Token) → 1 ≤ limit → StateFits limit state → run limit state tokens ≡ Some after → StateFits limit after
unfolding run
run_fits limit state after [] one fits is = let same : state ≡ after = cc in subst (λ r. StateFits limit r) same fits
run_fits limit state after (t ∷ tokens) one fits is =
    fits_after limit after tokens (next limit state t) (λ s h e. run_fits limit s after tokens one h e) is (fits_next limit state t one fits)

-- The limit.

test_of : (b : Bool) (state after : State) → when b state ≡ Some after → (b ≡ true) × (state ≡ after)
test_of true state after is = (refl, cc)
test_of false state after is = absurd (cc)

-- a higher limit takes as much
higher_when : (limit level : ℕ) (state after : State) → when (nat_lt level limit) state ≡ Some after → when (nat_lt level (suc limit)) state ≡ Some after
higher_when limit level state after is =
    let parts = test_of (nat_lt level limit) state after is in
    let less : level < limit = ltb-true level limit parts.0 in
    let yes : nat_lt level (suc limit) ≡ true = lt-ltb level (suc limit) (omega arith) in
    rw yes (ap Some parts.1)

higher : (limit : ℕ) (state after : State) (t : Token) → next limit state t ≡ Some after → next (suc limit) state t ≡ Some after
unfolding next
higher limit (AttributeBlock a name v) after token.Open is = higher_when limit a.level (Attributes (around a.tree (object_with a.object a.level name v true) (suc a.level))) after is
higher limit _ after _ is = is

higher_after : (limit : ℕ) (after : State) (tokens : List Token) (o p : Option State) → ((s : State) → o ≡ Some s → p ≡ Some s) → ((s : State) → run limit s tokens ≡ Some after → run (suc limit) s tokens ≡ Some after) → option_and_then (λ s. run limit s tokens) o ≡ Some after → option_and_then (λ s. run (suc limit) s tokens) p ≡ Some after
higher_after limit after tokens None p up recur is = absurd (cc)
higher_after limit after tokens (Some s) p up recur is = ap (λ q. option_and_then (λ r. run (suc limit) r tokens) q) (up s refl) ∙ recur s is

pub run_higher : (limit : ℕ) (state after : State) (tokens : List Token) → run limit state tokens ≡ Some after → run (suc limit) state tokens ≡ Some after
unfolding run
run_higher limit state after [] is = is
run_higher limit state after (t ∷ tokens) is =
    higher_after limit after tokens (next limit state t) (next (suc limit) state t) (λ s. higher limit state s t) (λ s. run_higher limit s after tokens) is

-- What is wrong.

-- the limit matters for no other token than a brace after a value
same_none : (limit : ℕ) (state : State) (t : Token) → fault_at state t ≡ Expected → next limit state t ≡ None → next (suc limit) state t ≡ None
unfolding next
same_none limit (AttributeBlock a name v) token.Open kind is = absurd (cc)
same_none limit _ _ kind is = is

data FaultCases (state : State) (t : Token) : Type 0 where
  too_deep : (tree : Tree) (object : Object) (level : ℕ) (name : List ℕ) (v : Value) → state ≡ AttributeBlock (around tree object level) name v → t ≡ token.Open → fault_at state t ≡ Depth → FaultCases state t
  out_of_place : fault_at state t ≡ Expected → FaultCases state t

fault_cases : (state : State) (t : Token) → FaultCases state t
fault_cases (AttributeBlock a name v) token.Open = too_deep a.tree a.object a.level name v refl refl refl
fault_cases _ _ = out_of_place refl

deeper : (limit : ℕ) (tree : Tree) (object : Object) (level : ℕ) (name : List ℕ) (v : Value) → level ≤ limit → next (suc limit) (AttributeBlock (around tree object level) name v) token.Open ≡ Some (Attributes (around tree (object_with object level name v true) (suc level)))
unfolding next
deeper limit tree object level name v le = let yes : nat_lt level (suc limit) ≡ true = lt-ltb level (suc limit) (omega arith) in rw yes refl

-- tokens that one more level would let go on
too_deep_goes : (tree : Tree) (object : Object) (level : ℕ) (name : List ℕ) (v : Value) (tokens : List Token) → run depth_limit Start tokens ≡ Some (AttributeBlock (around tree object level) name v) → CanGoOn (depth_limit + 1) (tokens ++ token.Open ∷ [])
too_deep_goes tree object level name v tokens is =
    let le : level ≤ depth_limit = run_fits depth_limit Start (AttributeBlock (around tree object level) name v) tokens (omega arith) tt is in
    can_go_on (suc depth_limit) (Attributes (around tree (object_with object level name v true) (suc level))) (tokens ++ token.Open ∷ [])
    (one_more (suc depth_limit) Start (AttributeBlock (around tree object level) name v) tokens token.Open (run_higher depth_limit Start (AttributeBlock (around tree object level) name v) tokens is)
    ∙ deeper depth_limit tree object level name v le)

pub is_kind : (state : State) (tokens : List Token) (t : Token) → run depth_limit Start tokens ≡ Some state → next depth_limit state t ≡ None → IsKindOf (fault_at state t) (tokens ++ t ∷ [])
is_kind state tokens t is no_next = kind_by (fault_cases state t)
  where
    kind_by : FaultCases state t → IsKindOf (fault_at state t) (tokens ++ t ∷ [])
    kind_by (too_deep tree object level name v is_state is_open kind) =
        let goes : CanGoOn (depth_limit + 1) (tokens ++ t ∷ []) = subst (λ u. CanGoOn (depth_limit + 1) (tokens ++ u ∷ [])) (sym is_open) (too_deep_goes tree object level name v tokens (is ∙ ap Some is_state)) in
        (λ _. kind, λ never. absurd (never goes))
    kind_by (out_of_place kind) =
        let none_deeper : next (suc depth_limit) state t ≡ None = same_none depth_limit state t kind no_next in
        let never : CanGoOn (suc depth_limit) (tokens ++ t ∷ []) → ⊥ = refused (suc depth_limit) (tokens ++ t ∷ []) (one_more (suc depth_limit) Start state tokens t (run_higher depth_limit Start state tokens is) ∙ none_deeper) in
        (λ goes. absurd (never goes), λ _. kind)
