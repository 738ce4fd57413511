-- Reading on by one token, from a state that the tokens so far lead to.
use Rattle.std.proofs.Common.{◌≡◌, ℕ, ◌+◌, ◌≤◌, ◌<◌, false, List, [], ◌∷◌, ◌++◌, length, refl, sym, ap, ◌∙◌, subst, Some, None, arith}
use Rattle.oil_grammar.specs.declared.token.Token.{Token}
use Rattle.oil_grammar.specs.declared.fault.OilKind.{OilKind}
use Rattle.oil_grammar.specs.declared.tree.Tree.{Tree}
use Rattle.oil_grammar.specs.declared.state.State.{State}
use Rattle.oil_grammar.specs.declared.state.State.TheVariants.{Start, Finished}
use Rattle.oil_grammar.specs.declared.reading.Advance.{Advance}
use Rattle.oil_grammar.specs.declared.reading.Advance.TheVariants as advance
use Rattle.oil_grammar.specs.Tokens.{ended, bad, found, first_in, is_skipped, BeginWith}
use Rattle.oil_grammar.specs.Grammar.{IsTextOf, depth_limit}
use Rattle.oil_grammar.specs.Faults.{IsFaultOf, line_of, HasNoTree}
use Rattle.oil_grammar.specs.Working.States.{run, is_skipping, tree_at}
use Rattle.oil_grammar.specs.Working.Reading.{Blocks, depth_of}
use Rattle.oil_grammar.specs.Working.Advancing.{Advances, EndsAs, Passes, Follows, Reached}
use Rattle.oil_grammar.proofs.Shorter.{found_shorter}
use Rattle.oil_grammar.proofs.Depths.{depth_after}
use Rattle.oil_grammar.proofs.Places.{same_mode}
use Rattle.oil_grammar.proofs.Viable.{one_more}
use Rattle.oil_grammar.proofs.Texts.{begin_more, no_tree, fault_here, text_here}

pub tree_some : (state : State) (tree : Tree) → tree_at state ≡ Some tree → state ≡ Finished tree
tree_some (Finished done) tree is = let same : done ≡ tree = cc in ap Finished same
tree_some _ tree is = absurd (cc)

pub tree_none : (state : State) → tree_at state ≡ None → (tree : Tree) → state ≡ Finished tree → ⊥
tree_none state none tree is = let some : tree_at state ≡ Some tree = ap (λ s. tree_at s) is in absurd (cc (sym none ∙ some))

pub ended_advances : (state : State) (rest : List ℕ) (a : Advance) → first_in (is_skipping state) rest ≡ ended → EndsAs state a → Advances state rest a
ended_advances state rest (advance.More after_state after) is ends = absurd ends
ended_advances state rest (advance.Done tree) is ends = (is, tree_some state tree ends)
ended_advances state rest (advance.Blocked why) is ends =
    subst (λ f. Blocks state f why.kind why.place.now) (sym is) (tree_none state ends.0, ends.1, ends.2)

pub bad_blocks : (state : State) (rest : List ℕ) (kind : OilKind) (place : List ℕ) → first_in (is_skipping state) rest ≡ bad kind place → Blocks state (first_in (is_skipping state) rest) kind place
bad_blocks state rest kind place is = subst (λ f. Blocks state f kind place) (sym is) (refl, refl)

pub passes_advances : (state : State) (rest : List ℕ) (t : Token) (from after : List ℕ) (a : Advance) → first_in (is_skipping state) rest ≡ found t from after → Passes state t from after a → Advances state rest a
passes_advances state rest t from after (advance.More after_state left) is passes =
    let reads : first_in (is_skipping state) rest ≡ found t from left.now = is ∙ ap (λ l. found t from l) (sym passes.1) in
    record { token = t; from = from; reads = reads; leads = passes.0; shorter = found_shorter (is_skipping state) rest t from left.now reads }
passes_advances state rest t from after (advance.Done tree) is passes = absurd passes
passes_advances state rest t from after (advance.Blocked why) is passes =
    subst (λ f. Blocks state f why.kind why.place.now) (sym is) passes

-- Reached states.

pub start_reached : (bytes : List ℕ) → Reached bytes Start bytes
unfolding BeginWith run
start_reached bytes = record { tokens = []; begin = refl; leads = refl }

pub next_reached : (bytes rest : List ℕ) (state after_state : State) (after : List ℕ) → Reached bytes state rest → Follows state rest after_state after → Reached bytes after_state after
next_reached bytes rest state after_state after reached follows =
    let mode : is_skipped follows.token ≡ is_skipping state = same_mode depth_limit state after_state follows.token follows.leads in
    record {
      tokens = reached.tokens ++ follows.token ∷ [];
      begin = begin_more reached.tokens bytes rest follows.from after follows.token reached.begin (ap (λ m. first_in m rest) mode ∙ follows.reads);
      leads = one_more depth_limit Start state reached.tokens follows.token reached.leads ∙ follows.leads;
    }

pub next_depth : (bytes rest : List ℕ) (state after_state : State) (after : List ℕ) → depth_of state + length rest ≤ length bytes → Follows state rest after_state after → depth_of after_state + length after ≤ length bytes
next_depth bytes rest state after_state after fits follows =
    let one : depth_of after_state ≤ depth_of state + 1 = depth_after depth_limit state after_state follows.token follows.leads in
    let less : length after < length rest = follows.shorter in
    omega arith

pub done_text : (bytes rest : List ℕ) (state : State) (tree : Tree) → Reached bytes state rest → (first_in (is_skipping state) rest ≡ ended) × (state ≡ Finished tree) → IsTextOf tree bytes
done_text bytes rest state tree reached done =
    let mode : is_skipping state ≡ false = ap (λ s. is_skipping s) done.1 in
    text_here bytes rest reached.tokens tree reached.begin (reached.leads ∙ ap Some done.1) (ap (λ m. first_in m rest) (sym mode) ∙ done.0)

pub blocked_fault : (bytes rest : List ℕ) (state : State) (kind : OilKind) (place : List ℕ) → Reached bytes state rest → Blocks state (first_in (is_skipping state) rest) kind place → HasNoTree bytes × IsFaultOf bytes (line_of bytes (length place)) kind
blocked_fault bytes rest state kind place reached blocks = (
  no_tree bytes rest reached.tokens state kind place reached.begin reached.leads blocks,
  fault_here bytes rest reached.tokens state kind place reached.begin reached.leads blocks,
)
