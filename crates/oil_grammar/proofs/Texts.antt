-- A text has at most one tree, and none where something is in the way of its states.
use Rattle.std.proofs.Common.{◌≡◌, ℕ, false, List, [], ◌∷◌, ◌++◌, length, refl, sym, ap, ◌∙◌, subst, Some, None, Option, rules}
use Rattle.oil_grammar.specs.Grammar.{file_tokens, tree_of}
use Rattle.oil_grammar.specs.Working.States.{next, run, is_skipping}
use Rattle.oil_grammar.specs.declared.token.Token.{Token}
use Rattle.oil_grammar.specs.declared.tree.Tree.{Tree}
use Rattle.oil_grammar.specs.declared.state.State.{State}
use Rattle.oil_grammar.specs.declared.state.State.TheVariants.{Start, Finished}
use Rattle.std.specs.Prelude.{option_and_then}
use Rattle.oil_grammar.specs.Grammar.{depth_limit}
use Rattle.oil_grammar.specs.Faults.{IsKindOf}
use Rattle.oil_grammar.specs.declared.fault.OilKind.{OilKind}
use Rattle.oil_grammar.proofs.Accepts.{run_file}
use Rattle.oil_grammar.proofs.Sound.{FileBack, file_back}
use Rattle.oil_grammar.proofs.Viable.{run_on, one_more, can_go_on, refused, not_complete}
use Rattle.oil_grammar.specs.Tokens.{is_skipped, BeginWith, AreTokensOf, First, ended, bad, found, first_in}
use Rattle.oil_grammar.specs.Grammar.{IsTextOf}
use Rattle.oil_grammar.specs.Faults.{IsFaultOf, FailsWith, line_of, HasNoTree}
use Rattle.oil_grammar.specs.Working.Reading.{Blocks}
use Rattle.oil_grammar.proofs.Places.{same_mode, goes_on_within, is_kind}

-- One way to read.

pub token_inj : {a b : Token} {f g x y : List ℕ} → found a f x ≡ found b g y → (a ≡ b) × (x ≡ y)
token_inj same = (cc, cc)

pub next_finished : (limit : ℕ) (tree : Tree) (t : Token) → next limit (Finished tree) t ≡ None
unfolding next
next_finished limit tree t = search rules

record Longer (xs ys : List Token) (left end : List ℕ) : Type 0 where
  more : List Token
  same : ys ≡ xs ++ more
  begin : BeginWith more left end

pub cons_run : (limit : ℕ) (state end : State) (t : Token) (tokens : List Token) → run limit state (t ∷ tokens) ≡ Some end → (after : State) × (next limit state t ≡ Some after) × (run limit after tokens ≡ Some end)
unfolding run
cons_run limit state end t tokens is = parts (next limit state t) is
  where
    parts : (o : Option State) → option_and_then (λ s. run limit s tokens) o ≡ Some end → (after : State) × (o ≡ Some after) × (run limit after tokens ≡ Some end)
    parts None e = absurd (cc)
    parts (Some s) e = (s, refl, e)

pub nil_run : (limit : ℕ) (state end : State) → run limit state [] ≡ Some end → state ≡ end
unfolding run
nil_run limit state end is = cc

pub some_same : {a b : State} → Some a ≡ Some b → a ≡ b
some_same same = cc

-- tokens that some states go over begin all the tokens of a file in the same bytes
longer : (limit : ℕ) (state after : State) (tree : Tree) (xs ys : List Token) (bytes left end : List ℕ) → BeginWith xs bytes left → run limit state xs ≡ Some after → BeginWith ys bytes end → run limit state ys ≡ Some (Finished tree) → Longer xs ys left end
unfolding BeginWith
longer limit state after tree [] ys bytes left end begin is all ends = record { more = ys; same = refl; begin = subst (λ b. BeginWith ys b end) (sym begin) all }
longer limit state after tree (x ∷ xs) [] bytes left end begin is all ends =
    let stepped = cons_run limit state after x xs is in
    let done : state ≡ Finished tree = nil_run limit state (Finished tree) ends in
    let nothing : next limit state x ≡ None = subst (λ s. next limit s x ≡ None) (sym done) (next_finished limit tree x) in
    absurd (cc (sym nothing ∙ stepped.1))
longer limit state after tree (x ∷ xs) (y ∷ ys) bytes left end begin is all ends =
    let first = cons_run limit state after x xs is in
    let other = cons_run limit state (Finished tree) y ys ends in
    let modes : is_skipped x ≡ is_skipped y = same_mode limit state first.0 x first.1 ∙ sym (same_mode limit state other.0 y other.1) in
    let reads : found x begin.0 begin.1 ≡ found y all.0 all.1 = sym begin.2 ∙ (ap (λ m. first_in m bytes) modes ∙ all.2) in
    let same = token_inj reads in
    let afters : first.0 ≡ other.0 = some_same (sym first.1 ∙ (ap (λ t. next limit state t) same.0 ∙ other.1)) in
    let rest : Longer xs ys left end = longer limit first.0 after tree xs ys begin.1 left end begin.3 first.2
    (subst (λ b. BeginWith ys b end) (sym same.1) all.3) (subst (λ s. run limit s ys ≡ Some (Finished tree)) (sym afters) other.2) in
    record { more = rest.more; same = ap (λ t. t ∷ ys) (sym same.0) ∙ ap (λ ts. x ∷ ts) rest.same; begin = rest.begin }

-- What blocks a state can be neither the end nor a token that leads on.

pub blocks_end : (state : State) (tree : Tree) (first : First) (kind : OilKind) (place : List ℕ) → Blocks state first kind place → first ≡ ended → state ≡ Finished tree → ⊥
blocks_end state tree ended kind place blocks is done = blocks.0 tree done
blocks_end state tree (bad why from) kind place blocks is done = absurd (cc)
blocks_end state tree (found t from after) kind place blocks is done = absurd (cc)

pub blocks_token : (state next_state : State) (t : Token) (from after : List ℕ) (first : First) (kind : OilKind) (place : List ℕ) → Blocks state first kind place → first ≡ found t from after → next depth_limit state t ≡ Some next_state → ⊥
blocks_token state next_state t from after ended kind place blocks is leads = absurd (cc)
blocks_token state next_state t from after (bad why start) kind place blocks is leads = absurd (cc)
blocks_token state next_state t from after (found u start rest) kind place blocks is leads =
    let same = token_inj is in
    let nothing : next depth_limit state t ≡ None = subst (λ v. next depth_limit state v ≡ None) same.0 blocks.0 in
    absurd (cc (sym nothing ∙ leads))

-- a file that goes on after the tokens so far
file_blocked : (state : State) (tree : Tree) (more : List Token) (left end : List ℕ) (kind : OilKind) (place : List ℕ) → Blocks state (first_in (is_skipping state) left) kind place → BeginWith more left end → first_in false end ≡ ended → run depth_limit state more ≡ Some (Finished tree) → ⊥
unfolding BeginWith
file_blocked state tree [] left end kind place blocks begin is ends =
    let done : state ≡ Finished tree = nil_run depth_limit state (Finished tree) ends in
    let mode : is_skipping state ≡ false = ap (λ s. is_skipping s) done in
    blocks_end state tree (first_in (is_skipping state) left) kind place blocks
    (ap (λ m. first_in m left) mode ∙ (ap (λ b. first_in false b) (sym begin) ∙ is)) done
file_blocked state tree (t ∷ more) left end kind place blocks begin is ends =
    let stepped = cons_run depth_limit state (Finished tree) t more ends in
    let mode : is_skipped t ≡ is_skipping state = same_mode depth_limit state stepped.0 t stepped.1 in
    blocks_token state stepped.0 t begin.0 begin.1 (first_in (is_skipping state) left) kind place blocks
    (ap (λ m. first_in m left) (sym mode) ∙ begin.2) stepped.1

pub no_tree : (bytes left : List ℕ) (tokens : List Token) (state : State) (kind : OilKind) (place : List ℕ) → BeginWith tokens bytes left → run depth_limit Start tokens ≡ Some state → Blocks state (first_in (is_skipping state) left) kind place → HasNoTree bytes
no_tree bytes left tokens state kind place begin is blocks = λ tree text.
    let ends : run depth_limit Start (file_tokens text.file) ≡ Some (Finished (tree_of text.file)) = run_file depth_limit text.file text.is_file in
    let rest : Longer tokens (file_tokens text.file) left text.tokens.left = longer depth_limit Start state (tree_of text.file) tokens (file_tokens text.file) bytes left text.tokens.left begin is text.tokens.begin ends in
    let goes : run depth_limit state rest.more ≡ Some (Finished (tree_of text.file)) = sym (run_on depth_limit Start state tokens rest.more is) ∙ (ap (λ ts. run depth_limit Start ts) (sym rest.same) ∙ ends) in
    file_blocked state (tree_of text.file) rest.more left text.tokens.left kind place blocks rest.begin text.tokens.end goes

fails_with : (state : State) (tokens : List Token) (first : First) (kind : OilKind) (place : List ℕ) → run depth_limit Start tokens ≡ Some state → Blocks state first kind place → FailsWith tokens first kind place
fails_with state tokens ended kind place is blocks = (not_complete state tokens is blocks.0, blocks.1, blocks.2)
fails_with state tokens (bad why from) kind place is blocks = blocks
fails_with state tokens (found t from after) kind place is blocks = (
  refused depth_limit (tokens ++ t ∷ []) (one_more depth_limit Start state tokens t is ∙ blocks.0),
  subst (λ k. IsKindOf k (tokens ++ t ∷ [])) (sym blocks.1) (is_kind state tokens t is blocks.0),
  blocks.2,
)

pub fault_here : (bytes left : List ℕ) (tokens : List Token) (state : State) (kind : OilKind) (place : List ℕ) → BeginWith tokens bytes left → run depth_limit Start tokens ≡ Some state → Blocks state (first_in (is_skipping state) left) kind place → IsFaultOf bytes (line_of bytes (length place)) kind
fault_here bytes left tokens state kind place begin is blocks = record {
  tokens = tokens;
  left = left;
  begin = begin;
  can_go_on = can_go_on depth_limit state tokens is;
  skips = is_skipping state;
  within = goes_on_within state tokens is;
  place = place;
  fails = fails_with state tokens (first_in (is_skipping state) left) kind place is blocks;
  on_line = refl;
}

-- The end of the tokens of a file.

pub text_here : (bytes left : List ℕ) (tokens : List Token) (tree : Tree) → BeginWith tokens bytes left → run depth_limit Start tokens ≡ Some (Finished tree) → first_in false left ≡ ended → IsTextOf tree bytes
text_here bytes left tokens tree begin is end =
    let back : FileBack depth_limit tokens tree = file_back depth_limit tokens tree is in
    record {
      file = back.file;
      is_file = back.is_file;
      tokens = subst (λ ts. AreTokensOf ts bytes) (sym back.same) (record { left = left; begin = begin; end = end });
      same = back.is_tree;
    }

-- One more token.

pub begin_more : (tokens : List Token) (bytes left from after : List ℕ) (t : Token) → BeginWith tokens bytes left → first_in (is_skipped t) left ≡ found t from after → BeginWith (tokens ++ t ∷ []) bytes after
unfolding BeginWith
begin_more [] bytes left from after t begin is = (from, after, ap (λ b. first_in (is_skipped t) b) (sym begin) ∙ is, refl)
begin_more (u ∷ tokens) bytes left from after t begin is = (begin.0, begin.1, begin.2, begin_more tokens begin.1 left from after t begin.3 is)

-- A text has one tree.

finished_same : {a b : Tree} → Some (Finished a) ≡ Some (Finished b) → a ≡ b
finished_same same = cc

pub one_tree : (a b : Tree) (bytes : List ℕ) → IsTextOf a bytes → IsTextOf b bytes → a ≡ b
unfolding BeginWith
one_tree a b bytes first second =
    let ends : run depth_limit Start (file_tokens first.file) ≡ Some (Finished (tree_of first.file)) = run_file depth_limit first.file first.is_file in
    let also : run depth_limit Start (file_tokens second.file) ≡ Some (Finished (tree_of second.file)) = run_file depth_limit second.file second.is_file in
    let rest : Longer (file_tokens first.file) (file_tokens second.file) first.tokens.left second.tokens.left = longer depth_limit Start (Finished (tree_of first.file)) (tree_of second.file) (file_tokens first.file) (file_tokens second.file) bytes first.tokens.left second.tokens.left first.tokens.begin ends second.tokens.begin also in
    let goes : run depth_limit (Finished (tree_of first.file)) rest.more ≡ Some (Finished (tree_of second.file)) = sym (run_on depth_limit Start (Finished (tree_of first.file)) (file_tokens first.file) rest.more ends) ∙ (ap (λ ts. run depth_limit Start ts) (sym rest.same) ∙ also) in
    sym first.same ∙ (finished_end (tree_of first.file) (tree_of second.file) rest.more goes ∙ second.same)
  where
    finished_end : (x y : Tree) (more : List Token) → run depth_limit (Finished x) more ≡ Some (Finished y) → x ≡ y
    finished_end x y [] is = finished_same (ap (λ s. Some s) (nil_run depth_limit (Finished x) (Finished y) is))
    finished_end x y (t ∷ more) is = let stepped = cons_run depth_limit (Finished x) (Finished y) t more is in absurd (cc (sym (next_finished depth_limit x t) ∙ stepped.1))
