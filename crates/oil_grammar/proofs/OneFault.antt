-- A text has a tree or a fault, not both, and one fault at most.
use Rattle.std.proofs.Common.{inl, inr, ◌⊎◌, ◌≡◌, ℕ, zero, suc, ◌+◌, ◌<◌, Bool, true, false, List, [], ◌∷◌, ◌++◌, length, refl, sym, ap, ◌∙◌, subst, Some, None, Option, arith}
use Rattle.oil_grammar.specs.Tokens.{First, ended, bad, found, first_in, is_skipped, BeginWith}
use Rattle.oil_grammar.specs.Grammar.{depth_limit}
use Rattle.oil_grammar.specs.Faults.{CanGoOn, IsComplete, GoesOnWithin, IsKindOf, FailsWith, line_of, IsFaultOf, HasTree, HasFault}
use Rattle.oil_grammar.specs.declared.fault.OilKind.TheVariants.{Expected}
use Rattle.oil_grammar.specs.Working.States.{next, run, is_skipping, fault_at, tree_at}
use Rattle.oil_grammar.specs.Working.Reading.{Blocks}
use Rattle.oil_grammar.specs.Working.Advancing.{Reached}
use Rattle.oil_grammar.specs.declared.fault.OilKind.{OilKind}
use Rattle.oil_grammar.specs.declared.token.Token.{Token}
use Rattle.oil_grammar.specs.declared.tree.Tree.{Tree}
use Rattle.oil_grammar.specs.declared.state.State.{State}
use Rattle.oil_grammar.specs.declared.state.State.TheVariants.{Start, Finished}
use Rattle.oil_grammar.proofs.Sound.{FileBack, file_back}
use Rattle.oil_grammar.proofs.Viable.{one_more, can_go_on, accepted, refused}
use Rattle.oil_grammar.proofs.Places.{same_mode, goes_on_within, is_kind}
use Rattle.oil_grammar.proofs.Shorter.{found_shorter}
use Rattle.oil_grammar.proofs.Reached.{tree_some, tree_none, start_reached, next_reached, done_text, blocked_fault, bad_blocks}
use Rattle.oil_grammar.proofs.Texts.{token_inj, cons_run, nil_run, some_same, blocks_token, no_tree}

-- What a fault says is determined.

one_mode : (a b : Bool) (tokens : List Token) → GoesOnWithin a tokens → GoesOnWithin b tokens → a ≡ b
one_mode true true tokens one other = refl
one_mode false false tokens one other = refl
one_mode true false tokens one other = absurd (other one.0 one.1 one.2)
one_mode false true tokens one other = absurd (one other.0 other.1 other.2)

one_kind : (a b : OilKind) (tokens : List Token) → IsKindOf a tokens → IsKindOf b tokens → a ≡ b
one_kind a b tokens one other = by_run (run (depth_limit + 1) Start tokens) refl
  where
    by_run : (o : Option State) → run (depth_limit + 1) Start tokens ≡ o → a ≡ b
    by_run None is = let never : CanGoOn (depth_limit + 1) tokens → ⊥ = refused (depth_limit + 1) tokens is in one.1 never ∙ sym (other.1 never)
    by_run (Some state) is = let goes : CanGoOn (depth_limit + 1) tokens = can_go_on (depth_limit + 1) state tokens is in one.0 goes ∙ sym (other.0 goes)

-- A fault, by the state that its tokens lead to.

not_finished : (state : State) (tokens : List Token) → run depth_limit Start tokens ≡ Some state → (IsComplete tokens → ⊥) → (tree : Tree) → state ≡ Finished tree → ⊥
not_finished state tokens is never tree done =
    let back : FileBack depth_limit tokens tree = file_back depth_limit tokens tree (is ∙ ap Some done) in
    never (record { file = back.file; is_file = back.is_file; same = back.same })

leads_nowhere : (state : State) (tokens : List Token) (t : Token) → run depth_limit Start tokens ≡ Some state → (CanGoOn depth_limit (tokens ++ t ∷ []) → ⊥) → next depth_limit state t ≡ None
leads_nowhere state tokens t is never = by_next (next depth_limit state t) refl
  where
    by_next : (o : Option State) → next depth_limit state t ≡ o → next depth_limit state t ≡ None
    by_next None leads = leads
    by_next (Some after) leads = absurd (never (can_go_on depth_limit after (tokens ++ t ∷ []) (one_more depth_limit Start state tokens t is ∙ leads)))

fails_blocks : (state : State) (tokens : List Token) (first : First) (kind : OilKind) (place : List ℕ) → run depth_limit Start tokens ≡ Some state → FailsWith tokens first kind place → Blocks state first kind place
fails_blocks state tokens ended kind place is fails = (not_finished state tokens is fails.0, fails.1, fails.2)
fails_blocks state tokens (bad why from) kind place is fails = fails
fails_blocks state tokens (found t from after) kind place is fails =
    let nowhere : next depth_limit state t ≡ None = leads_nowhere state tokens t is fails.0 in
    (nowhere, one_kind kind (fault_at state t) (tokens ++ t ∷ []) fails.1 (is_kind state tokens t is nowhere), fails.2)

record Blocked (bytes : List ℕ) (kind : OilKind) (place : List ℕ) : Type 0 where
  tokens : List Token
  left : List ℕ
  state : State
  begin : BeginWith tokens bytes left
  leads : run depth_limit Start tokens ≡ Some state
  blocks : Blocks state (first_in (is_skipping state) left) kind place

blocked : (bytes : List ℕ) (line : ℕ) (kind : OilKind) (fault : IsFaultOf bytes line kind) → Blocked bytes kind fault.place
blocked bytes line kind fault =
    let state = accepted depth_limit fault.tokens fault.can_go_on in
    let mode : fault.skips ≡ is_skipping state.0 = one_mode fault.skips (is_skipping state.0) fault.tokens fault.within (goes_on_within state.0 fault.tokens state.1) in
    record {
      tokens = fault.tokens;
      left = fault.left;
      state = state.0;
      begin = fault.begin;
      leads = state.1;
      blocks = fails_blocks state.0 fault.tokens (first_in (is_skipping state.0) fault.left) kind fault.place state.1
          (subst (λ skips. FailsWith fault.tokens (first_in skips fault.left) kind fault.place) mode fault.fails);
    }

-- Two faults are one.

record Same (kind other_kind : OilKind) (place other_place : List ℕ) : Type 0 where
  kinds : kind ≡ other_kind
  places : place ≡ other_place

blocks_same : (state : State) (first : First) (kind other_kind : OilKind) (place other_place : List ℕ) → Blocks state first kind place → Blocks state first other_kind other_place → Same kind other_kind place other_place
blocks_same state ended kind other_kind place other_place one other = record { kinds = one.1 ∙ sym other.1; places = one.2 ∙ sym other.2 }
blocks_same state (bad why from) kind other_kind place other_place one other = record { kinds = one.0 ∙ sym other.0; places = one.1 ∙ sym other.1 }
blocks_same state (found t from after) kind other_kind place other_place one other = record { kinds = one.1 ∙ sym other.1; places = one.2 ∙ sym other.2 }

-- no tokens lead from the state before what blocks it
blocked_at : (state end : State) (kind : OilKind) (place bytes left : List ℕ) → left ≡ bytes → state ≡ end → Blocks end (first_in (is_skipping end) left) kind place → Blocks state (first_in (is_skipping state) bytes) kind place
blocked_at state end kind place bytes left rest same blocks =
    subst (λ b. Blocks state (first_in (is_skipping state) b) kind place) rest
    (subst (λ s. Blocks s (first_in (is_skipping s) left) kind place) (sym same) blocks)

no_token : (state after : State) (kind : OilKind) (place bytes from rest : List ℕ) (t : Token) → Blocks state (first_in (is_skipping state) bytes) kind place → first_in (is_skipped t) bytes ≡ found t from rest → next depth_limit state t ≡ Some after → ⊥
no_token state after kind place bytes from rest t blocks is leads =
    let mode : is_skipping state ≡ is_skipped t = sym (same_mode depth_limit state after t leads) in
    blocks_token state after t from rest (first_in (is_skipping state) bytes) kind place blocks (ap (λ m. first_in m bytes) mode ∙ is) leads

one_place : (state end other_end : State) (xs ys : List Token) (bytes left other_left : List ℕ) (kind other_kind : OilKind) (place other_place : List ℕ) → BeginWith xs bytes left → run depth_limit state xs ≡ Some end → Blocks end (first_in (is_skipping end) left) kind place → BeginWith ys bytes other_left → run depth_limit state ys ≡ Some other_end → Blocks other_end (first_in (is_skipping other_end) other_left) other_kind other_place → Same kind other_kind place other_place
unfolding BeginWith
one_place state end other_end [] [] bytes left other_left kind other_kind place other_place begin leads blocks other_begin other_leads other_blocks =
    blocks_same state (first_in (is_skipping state) bytes) kind other_kind place other_place
    (blocked_at state end kind place bytes left begin (nil_run depth_limit state end leads) blocks)
    (blocked_at state other_end other_kind other_place bytes other_left other_begin (nil_run depth_limit state other_end other_leads) other_blocks)
one_place state end other_end [] (y ∷ ys) bytes left other_left kind other_kind place other_place begin leads blocks other_begin other_leads other_blocks =
    let step = cons_run depth_limit state other_end y ys other_leads in
    absurd (no_token state step.0 kind place bytes other_begin.0 other_begin.1 y (blocked_at state end kind place bytes left begin (nil_run depth_limit state end leads) blocks) other_begin.2 step.1)
one_place state end other_end (x ∷ xs) [] bytes left other_left kind other_kind place other_place begin leads blocks other_begin other_leads other_blocks =
    let step = cons_run depth_limit state end x xs leads in
    absurd (no_token state step.0 other_kind other_place bytes begin.0 begin.1 x (blocked_at state other_end other_kind other_place bytes other_left other_begin (nil_run depth_limit state other_end other_leads) other_blocks) begin.2 step.1)
one_place state end other_end (x ∷ xs) (y ∷ ys) bytes left other_left kind other_kind place other_place begin leads blocks other_begin other_leads other_blocks =
    let step = cons_run depth_limit state end x xs leads in
    let other_step = cons_run depth_limit state other_end y ys other_leads in
    let modes : is_skipped x ≡ is_skipped y = same_mode depth_limit state step.0 x step.1 ∙ sym (same_mode depth_limit state other_step.0 y other_step.1) in
    let reads : found x begin.0 begin.1 ≡ found y other_begin.0 other_begin.1 = sym begin.2 ∙ (ap (λ m. first_in m bytes) modes ∙ other_begin.2) in
    let same = token_inj reads in
    let afters : step.0 ≡ other_step.0 = some_same (sym step.1 ∙ (ap (λ t. next depth_limit state t) same.0 ∙ other_step.1)) in
    one_place step.0 end other_end xs ys begin.1 left other_left kind other_kind place other_place begin.3 step.2 blocks
    (subst (λ b. BeginWith ys b other_left) (sym same.1) other_begin.3) (subst (λ s. run depth_limit s ys ≡ Some other_end) (sym afters) other_step.2) other_blocks

pub one_fault : (bytes : List ℕ) (line other_line : ℕ) (kind other_kind : OilKind) → IsFaultOf bytes line kind → IsFaultOf bytes other_line other_kind → (line ≡ other_line) × (kind ≡ other_kind)
one_fault bytes line other_line kind other_kind fault other =
    let one = blocked bytes line kind fault in
    let two = blocked bytes other_line other_kind other in
    let same : Same kind other_kind fault.place other.place = one_place Start one.state two.state one.tokens two.tokens bytes one.left two.left kind other_kind fault.place other.place one.begin one.leads one.blocks two.begin two.leads two.blocks in
    (fault.on_line ∙ (ap (λ place. line_of bytes (length place)) same.places ∙ sym other.on_line), same.kinds)

-- A tree or a fault.

pub not_both : (bytes : List ℕ) → HasTree bytes → HasFault bytes → ⊥
not_both bytes text fault =
    let one = blocked bytes fault.0 fault.1 fault.2 in
    no_tree bytes one.left one.tokens one.state fault.1 fault.2.place one.begin one.leads one.blocks text.0 text.1

stopped : (bytes rest : List ℕ) (state : State) (kind : OilKind) (place : List ℕ) → Reached bytes state rest → Blocks state (first_in (is_skipping state) rest) kind place → HasTree bytes ⊎ HasFault bytes
stopped bytes rest state kind place reached blocks = inr (line_of bytes (length place), kind, (blocked_fault bytes rest state kind place reached blocks).1)

at_end : (bytes rest : List ℕ) (state : State) (o : Option Tree) → Reached bytes state rest → first_in (is_skipping state) rest ≡ ended → tree_at state ≡ o → HasTree bytes ⊎ HasFault bytes
at_end bytes rest state (Some tree) reached is whole = inl (tree, done_text bytes rest state tree reached (is, tree_some state tree whole))
at_end bytes rest state None reached is part =
    stopped bytes rest state Expected [] reached (subst (λ f. Blocks state f Expected []) (sym is) (tree_none state part, refl, refl))

at_token : (bytes rest : List ℕ) (state : State) (t : Token) (from after : List ℕ) (o : Option State) → Reached bytes state rest → first_in (is_skipping state) rest ≡ found t from after → next depth_limit state t ≡ o → ((next_state : State) → length after < length rest → Reached bytes next_state after → HasTree bytes ⊎ HasFault bytes) → HasTree bytes ⊎ HasFault bytes
at_token bytes rest state t from after None reached is leads go_on =
    stopped bytes rest state (fault_at state t) from reached (subst (λ f. Blocks state f (fault_at state t) from) (sym is) (leads, refl, refl))
at_token bytes rest state t from after (Some next_state) reached is leads go_on =
    let shorter : length after < length rest = found_shorter (is_skipping state) rest t from after is in
    go_on next_state shorter (next_reached bytes rest state next_state after reached (record { token = t; from = from; reads = is; leads = leads; shorter = shorter }))

at_first : (bytes rest : List ℕ) (state : State) (first : First) → Reached bytes state rest → first_in (is_skipping state) rest ≡ first → ((next_state : State) (after : List ℕ) → length after < length rest → Reached bytes next_state after → HasTree bytes ⊎ HasFault bytes) → HasTree bytes ⊎ HasFault bytes
at_first bytes rest state ended reached is go_on = at_end bytes rest state (tree_at state) reached is refl
at_first bytes rest state (bad why from) reached is go_on = stopped bytes rest state why from reached (bad_blocks state rest why from is)
at_first bytes rest state (found t from after) reached is go_on = at_token bytes rest state t from after (next depth_limit state t) reached is refl (λ next_state. go_on next_state after)

-- read on from a state, with more steps than bytes are left
either_from : (steps : ℕ) (bytes rest : List ℕ) (state : State) → length rest < steps → Reached bytes state rest → HasTree bytes ⊎ HasFault bytes
either_from zero bytes rest state enough reached = absurd (omega arith)
either_from (suc steps) bytes rest state enough reached =
    at_first bytes rest state (first_in (is_skipping state) rest) reached refl
    (λ next_state after shorter. either_from steps bytes after next_state (omega arith))

pub either : (bytes : List ℕ) → HasTree bytes ⊎ HasFault bytes
either bytes = either_from (suc (length bytes)) bytes bytes Start (omega arith) (start_reached bytes)
