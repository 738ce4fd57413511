-- What joined steps gave.
use Rattle.std.proofs.Common.{ℕ, List, Result, Ok, inl, inr}
use Rattle.command_steps.specs.declared.halt.Refusal.{Refusal}
use Rattle.command_steps.specs.Steps.{Calls, Step, Then, File}

-- where joined steps give a value, each of them gave one
pub then_ok : {F X Y : Type 0} (first : Step F X) (next : X → Step F Y) (before : F) (y : Y) (after : F) → Then first next before (Ok y) after
    → (x : X) × (between : F) × first before (Ok x) between × next x between (Ok y) after
then_ok first next before y after (inl is) = is
then_ok first next before y after (inr is) = absurd cc

-- a file that has a value was read whole
pub record WasRead {F X : Type 0} (calls : Calls F) (name : List ℕ) (limit : ℕ) (Fact : List ℕ → Result X Refusal → Type 0) (before : F)
    (x : X) : Type 0 where
  pub bytes : List ℕ
  pub after : F
  pub read : calls before name limit (Ok bytes) after
  pub fact : Fact bytes (Ok x)

pub file_ok : {F X : Type 0} (calls : Calls F) (name : List ℕ) (limit : ℕ) (Fact : List ℕ → Result X Refusal → Type 0) (before : F) (x : X)
    (after : F)
    → File calls name limit Fact before (Ok x) after → WasRead calls name limit Fact before x
file_ok calls name limit Fact before x after (inl is) = record { bytes = is.0; after = is.1; read = is.2; fact = is.3.1 }
file_ok calls name limit Fact before x after (inr is) = absurd cc
