-- What the code gives where the definitions give a token. Only the crate's private clauses cite it.
use Rattle.std.specs.Prelude.{◌≡◌, ◌<◌, ◌+◌, ◌^◌, ℕ, Bool, List, [], ◌∷◌, Option, Some, None, Result, Ok, Err, ⊤}
use Rattle.oil_grammar.specs.declared.fault.OilKind.{OilKind}
use Rattle.oil_grammar.specs.declared.fault.Stop.{Stop}
use Rattle.oil_grammar.specs.declared.fault.Stop.TheVariants as stop
use Rattle.oil_grammar.specs.declared.token.Token.{Token}
use Rattle.oil_grammar.specs.declared.token.Read.{Read}
use Rattle.oil_grammar.specs.declared.fault.OilKind.TheVariants.{Expected}
use Rattle.oil_grammar.specs.declared.tree.Tree.{Tree}
use Rattle.oil_grammar.specs.declared.state.State.{State}
use Rattle.oil_grammar.specs.declared.state.State.TheVariants.{Skipping, Finished}
use Rattle.oil_grammar.specs.Tokens.{First, ended, bad, found, value_after, with_room}
use Rattle.oil_grammar.specs.Grammar.{depth_limit}
use Rattle.oil_grammar.specs.Working.States.{next, fault_at}

-- the fault is that of the definition, unless memory ran out
abbrev pub StopsAs : {X : Type 0} → Stop → Result X OilKind → Type 0
StopsAs (stop.Fault kind) given = given ≡ Err kind
StopsAs stop.Memory given = ⊤

-- a token and the bytes after it, or the fault
abbrev pub GivesToken : Result Read Stop → Result (Token × List ℕ) OilKind → Type 0
GivesToken (Ok read) given = given ≡ Ok (read.token, read.after.now)
GivesToken (Err why) given = StopsAs why given

-- the state after a token, or what is wrong with the token
abbrev pub GivesState : Result State Stop → State → Token → Type 0
GivesState (Ok after) state t = next depth_limit state t ≡ Some after
GivesState (Err (stop.Fault kind)) state t = (next depth_limit state t ≡ None) × (kind ≡ fault_at state t)
GivesState (Err stop.Memory) state t = ⊤

-- what bytes begin with is in the way of the state: the kind of fault, and what is left from its place on
abbrev pub Blocks : State → First → OilKind → List ℕ → Type 0
Blocks state ended kind place = ((tree : Tree) → state ≡ Finished tree → ⊥) × (kind ≡ Expected) × (place ≡ [])
Blocks state (bad why from) kind place = (kind ≡ why) × (place ≡ from)
Blocks state (found t from after) kind place = (next depth_limit state t ≡ None) × (kind ≡ fault_at state t) × (place ≡ from)

-- this value, unless memory ran out
abbrev pub Makes : {X : Type 0} → Result X Stop → X → Type 0
Makes (Ok made) wanted = made ≡ wanted
Makes (Err (stop.Fault kind)) wanted = ⊥
Makes (Err stop.Memory) wanted = ⊤

-- so many braces are open within the skipped part
abbrev pub depth_of : State → ℕ
depth_of (Skipping version depth) = depth
depth_of _ = 0

-- one more brace can be counted
abbrev pub RoomFor : State → Type 0
RoomFor state = depth_of state + 1 < 2 ^ 64

-- one more digit of a number that has room in 64 bits; or the byte is none, or the number has no more room
abbrev pub ReadsDigit : Bool → ℕ → ℕ → Option ℕ → Type 0
ReadsDigit hexadecimal number b None = (tail : List ℕ) → with_room (value_after hexadecimal number (b ∷ tail)) ≡ None
ReadsDigit hexadecimal number b (Some read) =
    (read < 2 ^ 64)
    × ((tail : List ℕ) → with_room (value_after hexadecimal number (b ∷ tail)) ≡ with_room (value_after hexadecimal read tail))
