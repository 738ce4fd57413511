-- What a call answered, against what its answer is by definition.
use Rattle.std.specs.Prelude.{◌≡◌, Result, Ok, Err}
use Rattle.listed.specs.declared.fault.Fault.{Fault}
use Rattle.listed.specs.declared.fault.Fault.TheVariants.{Kind, Memory}

-- the answer is what is given, unless memory was wanted
abbrev pub Gives : {X K : Type 0} → Result X (Fault K) → Result X K → Type 0
Gives (Ok x) given = given ≡ Ok x
Gives (Err (Kind kind)) given = given ≡ Err kind
Gives (Err Memory) given = Unit {0}

-- what is given, with each fault told as one of this kind
abbrev pub told_as : {X K L : Type 0} → L → Result X K → Result X L
told_as kind (Ok x) = Ok x
told_as kind (Err other) = Err kind
