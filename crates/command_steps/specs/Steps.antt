-- Steps of a command: what a step does is a fact on the object that reads files before it, on what it gives, and on that
-- object after it. A step gives a value, or says why the command ends before its answer.
use Rattle.std.specs.Prelude.{◌≡◌, ◌⊎◌, ℕ, ◌+◌, List, Result, Ok, Err}
use Rattle.wcet_io.specs.declared.fault.FileFault.{FileFault}
use Rattle.wcet_io.specs.declared.fault.FileFault.TheVariants as file
use Rattle.wcet_io.specs.Files.{FilesOutside, IsRead}
use Rattle.command_steps.specs.declared.halt.Refusal.{Refusal}
use Rattle.command_steps.specs.declared.halt.Halt.{Halt}
use Rattle.command_steps.specs.declared.halt.Halt.TheVariants.{Refused, Failed, Memory}
use Rattle.command_steps.specs.Refusals.{long_refusal}

-- the calls of `read`: the object before, the name, the limit, what the call gave, and the object after
abbrev pub Calls : Type 0 → Type 1
Calls F = F → List ℕ → ℕ → Result (List ℕ) FileFault → F → Type 0

abbrev pub Step : Type 0 → Type 0 → Type 1
Step F X = F → Result X Halt → F → Type 0

-- `read` was called, and what the object tells of the outside follows the call.
pub record IsCall {F : Type 0} (outside : F → FilesOutside) (reads : Calls F) (before : F) (name : List ℕ) (limit : ℕ)
    (given : Result (List ℕ) FileFault) (after : F) : Type 0 where
  pub called : reads before name limit given after
  pub tells : IsRead (outside before) name limit given (outside after)

-- The step is one call of `read`. Where it ends for want of memory the call may have given anything.
abbrev pub Reading : {F : Type 0} → Calls F → List ℕ → ℕ → F → Result (List ℕ) Halt → F → Type 0
Reading calls name limit before (Ok bytes) after = calls before name limit (Ok bytes) after
Reading calls name limit before (Err (Refused refusal)) after =
    (taken : ℕ) × calls before name limit (Err (file.Long taken)) after × (refusal ≡ long_refusal name (limit + 1))
Reading calls name limit before (Err (Failed failed)) after = calls before name limit (Err file.Failed) after × (failed ≡ name)
Reading {F} calls name limit before (Err Memory) after = (given : Result (List ℕ) FileFault) × calls before name limit given after

-- What the step gives has the fact, and no read failed. Want of memory says nothing.
abbrev pub Says : {X : Type 0} → (Result X Refusal → Type 0) → Result X Halt → Type 0
Says Fact (Ok x) = Fact (Ok x)
Says Fact (Err (Refused refusal)) = Fact (Err refusal)
Says Fact (Err (Failed name)) = ⊥
Says Fact (Err Memory) = Unit {0}

-- The step reads nothing, and what it gives has the fact.
abbrev pub Judged : {F X : Type 0} → (Result X Refusal → Type 0) → F → Result X Halt → F → Type 0
Judged Fact before given after = (after ≡ before) × Says Fact given

-- The first step gave a value, and the next step goes on with it; or the first one ended the command.
abbrev pub Then : {F X Y : Type 0} → Step F X → (X → Step F Y) → F → Result Y Halt → F → Type 0
Then {F} {X} {Y} first next before given after =
    ((x : X) × (between : F) × first before (Ok x) between × next x between given after)
    ⊎ ((halt : Halt) × first before (Err halt) after × (given ≡ Err halt))

-- A file is read, and what its bytes hold has the fact.
abbrev pub File : {F X : Type 0} → Calls F → List ℕ → ℕ → (List ℕ → Result X Refusal → Type 0) → F → Result X Halt → F → Type 0
File calls name limit Fact = Then (Reading calls name limit) (λ bytes. Judged (Fact bytes))
