-- What the code gives where the definitions say what bytes begin with. Only the crate's private clauses cite it.
use Rattle.std.specs.Prelude.{◌≡◌, ℕ, List, Result, Ok, Err, ⊤}
use Rattle.oil_grammar.specs.declared.fault.Stop.{Stop}
use Rattle.oil_grammar.specs.declared.fault.Stop.TheVariants as stop
use Rattle.oil_grammar.specs.declared.first.First.{First as CodeFirst}
use Rattle.oil_grammar.specs.declared.first.First.TheVariants as first
use Rattle.listed.specs.declared.memory.Memory.{Memory}
use Rattle.oil_grammar.specs.Tokens.{First, ended, bad, found}

abbrev pub IsFirst : CodeFirst → First → Type 0
IsFirst first.Ended given = given ≡ ended
IsFirst (first.Bad why) given = given ≡ bad why.kind why.place.now
IsFirst (first.Found token from after) given = given ≡ found token from.now after.now

abbrev pub StopsAt : Stop → List ℕ → Result CodeFirst Memory → Type 0
StopsAt (stop.Fault kind) place (Ok (first.Bad why)) = (why.kind ≡ kind) × (why.place.now ≡ place)
StopsAt (stop.Fault kind) place _ = ⊥
StopsAt stop.Memory place (Ok given) = ⊥
StopsAt stop.Memory place (Err memory) = ⊤
