-- What the code gives where it reads on by one token. Only the crate's private clauses cite it.
use Rattle.std.specs.Prelude.{◌≡◌, ◌<◌, ℕ, List, [], length, Some, None}
use Rattle.oil_grammar.specs.declared.fault.OilKind.TheVariants.{Expected}
use Rattle.oil_grammar.specs.declared.token.Token.{Token}
use Rattle.oil_grammar.specs.declared.state.State.{State}
use Rattle.oil_grammar.specs.declared.state.State.TheVariants.{Start, Finished}
use Rattle.oil_grammar.specs.declared.reading.Advance.{Advance}
use Rattle.oil_grammar.specs.declared.reading.Advance.TheVariants as advance
use Rattle.oil_grammar.specs.Tokens.{ended, found, first_in, BeginWith}
use Rattle.oil_grammar.specs.Grammar.{depth_limit}
use Rattle.oil_grammar.specs.Working.States.{next, run, is_skipping, fault_at, tree_at}
use Rattle.oil_grammar.specs.Working.Reading.{Blocks}

-- the bytes that are left begin with a token, and this state follows it
pub record Follows (state : State) (rest : List ℕ) (after_state : State) (after : List ℕ) : Type 0 where
  pub token : Token
  pub from : List ℕ
  pub reads : first_in (is_skipping state) rest ≡ found token from after
  pub leads : next depth_limit state token ≡ Some after_state
  pub shorter : length after < length rest

abbrev pub Advances : State → List ℕ → Advance → Type 0
Advances state rest (advance.More after_state after) = Follows state rest after_state after.now
Advances state rest (advance.Done tree) = (first_in (is_skipping state) rest ≡ ended) × (state ≡ Finished tree)
Advances state rest (advance.Blocked why) = Blocks state (first_in (is_skipping state) rest) why.kind why.place.now

-- at the end of the text
abbrev pub EndsAs : State → Advance → Type 0
EndsAs state (advance.More after_state after) = ⊥
EndsAs state (advance.Done tree) = tree_at state ≡ Some tree
EndsAs state (advance.Blocked why) = (tree_at state ≡ None) × (why.kind ≡ Expected) × (why.place.now ≡ [])

-- at a token
abbrev pub Passes : State → Token → List ℕ → List ℕ → Advance → Type 0
Passes state token from after (advance.More after_state rest) = (next depth_limit state token ≡ Some after_state) × (rest.now ≡ after)
Passes state token from after (advance.Done tree) = ⊥
Passes state token from after (advance.Blocked why) = (next depth_limit state token ≡ None) × (why.kind ≡ fault_at state token) × (why.place.now ≡ from)

-- the text begins with tokens that lead from the start to the state, and this is left of it
pub record Reached (bytes : List ℕ) (state : State) (rest : List ℕ) : Type 0 where
  pub tokens : List Token
  pub begin : BeginWith tokens bytes rest
  pub leads : run depth_limit Start tokens ≡ Some state
