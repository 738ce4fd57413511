-- The JSON value of a file's bytes, and what a format makes of it.
use Rattle.std.specs.Prelude.{◌≡◌, ℕ, List, Some, Result, Ok, Err, ◌⊎◌, IsUtf8}
use Rattle.listed.specs.declared.fault.Fault.{Fault}
use Rattle.listed.specs.declared.fault.Fault.TheVariants.{Kind, Memory}
use Rattle.serde_json.specs.Data.{Data}
use Rattle.serde_json.specs.Read.{read}

-- the bytes are UTF-8, and the text that they are is JSON for this value
abbrev pub HasValue : List ℕ → Data → Type 0
HasValue bytes d = IsUtf8 bytes × (read bytes ≡ Some d)

-- the bytes are JSON for no value
abbrev pub HasNoValue : List ℕ → Type 0
HasNoValue bytes = (d : Data) → HasValue bytes d → ⊥

-- A format gives a record or the kind of a fault for each value. For a file's bytes it gives what it
-- gives for their value, and where they have none the kind that is named first.
abbrev pub IsGiven : {X K : Type 0} → K → (Data → Result X K) → List ℕ → Result X K → Type 0
IsGiven no_value format bytes given = ((d : Data) × HasValue bytes d × (format d ≡ given)) ⊎ (HasNoValue bytes × (given ≡ Err no_value))

-- the answer to the bytes is what the format gives for them, unless memory was wanted
abbrev pub Answers : {X K : Type 0} → K → (Data → Result X K) → List ℕ → Result X (Fault K) → Type 0
Answers no_value format bytes (Ok x) = IsGiven no_value format bytes (Ok x)
Answers no_value format bytes (Err (Kind kind)) = IsGiven no_value format bytes (Err kind)
Answers no_value format bytes (Err Memory) = Unit {0}
