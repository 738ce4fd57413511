-- How the code passes over what stands between tokens. Only the crate's private clauses cite it.
use Rattle.std.specs.Prelude.{◌≡◌, ℕ, ◌<◌, ◌≤◌, Bool, List, length, Option, Some, None, Result, Ok, Err}
use Rattle.std.specs.Borrow.{Bor}
use Rattle.oil_grammar.specs.Tokens.{Bad, Within, after_gap, between}
use Rattle.oil_grammar.specs.declared.gap.Bad.{Bad as BadBytes}
use Rattle.oil_grammar.specs.declared.fault.OilKind.{OilKind}

abbrev pub bad_at : OilKind → List ℕ → Result (List ℕ) Bad
bad_at kind place = Err (record { kind = kind; place = place })

-- one piece was passed over, or none is there, or one has no end
abbrev pub PassesPiece : Bool → List ℕ → Result (Option (Bor (List ℕ))) BadBytes → Type 0
PassesPiece skips bytes (Ok None) = after_gap skips between bytes ≡ Ok bytes
PassesPiece skips bytes (Ok (Some rest)) = (length rest.now < length bytes) × (after_gap skips between bytes ≡ after_gap skips between rest.now)
PassesPiece skips bytes (Err bad) = after_gap skips between bytes ≡ bad_at bad.kind bad.place.now

-- a comment or a text is passed over, or it has no end
abbrev pub PassesFrom : (List ℕ → Within) → OilKind → List ℕ → Option (Bor (List ℕ)) → Type 0
PassesFrom inside kind bytes None = (skips : Bool) (from : List ℕ) → after_gap skips (inside from) bytes ≡ bad_at kind from
PassesFrom inside kind bytes (Some rest) =
    (length rest.now ≤ length bytes)
    × ((skips : Bool) (from : List ℕ) → after_gap skips (inside from) bytes ≡ after_gap skips between rest.now)

-- all is passed over up to a token
abbrev pub PassesGap : Bool → List ℕ → Result (Bor (List ℕ)) BadBytes → Type 0
PassesGap skips bytes (Ok rest) = after_gap skips between bytes ≡ Ok rest.now
PassesGap skips bytes (Err bad) = after_gap skips between bytes ≡ bad_at bad.kind bad.place.now
