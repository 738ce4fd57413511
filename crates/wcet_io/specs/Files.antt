-- What files tell of the outside, what a read of a file gives, and what it leaves in the object that reads.
use Rattle.std.specs.Prelude.{◌≡◌, ℕ, ◌+◌, ◌<◌, ◌≤◌, Bool, true, false, List, [], ◌∷◌, length, Option, Some, Result, Ok, Err, ⊤, refl}
use Rattle.std.proofs.Common.{subst, lit<, lit≤}
use Rattle.std.proofs.lemmas.Option.{same_Some}
use Rattle.wcet_io.specs.Causes.{RoseBy, HasCause, CountsOn}
use Rattle.wcet_io.specs.declared.fault.FileFault.{FileFault}
use Rattle.wcet_io.specs.declared.fault.FileFault.TheVariants.{Failed, Long, Memory}

-- What the object that reads files tells of the outside: the bytes that each name holds, where it tells them; how many
-- reads failed, and the name of the last of these; and how many bytes were taken from files.
pub record FilesOutside : Type 0 where
  pub told : List ℕ → Option (List ℕ)
  pub faults : ℕ
  pub failed : Option (List ℕ)
  pub taken : ℕ

-- The object tells that a name holds these bytes.
abbrev pub Told : Option (List ℕ) → List ℕ → Type 0
Told told content = told ≡ Some content

-- These bytes are the whole file, which is no longer than the limit.
pub record IsWhole (told : Option (List ℕ)) (limit : ℕ) (bytes : List ℕ) : Type 0 where
  pub within : length bytes ≤ limit
  pub whole : (content : List ℕ) → Told told content → bytes ≡ content

-- The file is longer than the limit, and one byte more than the limit was taken of it.
pub record IsLonger (told : Option (List ℕ)) (limit taken : ℕ) : Type 0 where
  pub taken_to : taken ≡ limit + 1
  pub longer : (content : List ℕ) → Told told content → limit < length content

-- An answer says what the file is: its bytes, or that it is longer than the limit.
-- A failed read and want of memory say nothing.
abbrev pub SaysFile : Option (List ℕ) → ℕ → Result (List ℕ) FileFault → Type 0
SaysFile told limit (Ok bytes) = IsWhole told limit bytes
SaysFile told limit (Err (Long taken)) = IsLonger told limit taken
SaysFile told limit (Err Failed) = ⊤
SaysFile told limit (Err Memory) = ⊤

-- the read answered that it failed
abbrev pub is_failed : Result (List ℕ) FileFault → Bool
is_failed (Ok bytes) = false
is_failed (Err (Long taken)) = false
is_failed (Err Failed) = true
is_failed (Err Memory) = false

-- the name of the last read that failed, after this one
abbrev pub last_failed : Result (List ℕ) FileFault → List ℕ → Option (List ℕ) → Option (List ℕ)
last_failed (Ok bytes) name before = before
last_failed (Err (Long taken)) name before = before
last_failed (Err Failed) name before = Some name
last_failed (Err Memory) name before = before

-- The count of bytes taken rose by what the answer took. After a failed read or want of memory it is any that goes on.
abbrev pub CountsTaken : Result (List ℕ) FileFault → ℕ → ℕ → Type 0
CountsTaken (Ok bytes) before after = RoseBy (length bytes) before after
CountsTaken (Err (Long taken)) before after = RoseBy taken before after
CountsTaken (Err Failed) before after = ⊤
CountsTaken (Err Memory) before after = ⊤

-- What the names hold doesn't change, and the counts don't fall.
pub record FilesGoOn (before after : FilesOutside) : Type 0 where
  pub kept : after.told ≡ before.told
  pub faults_go_on : CountsOn before.faults after.faults
  pub taken_goes_on : CountsOn before.taken after.taken

-- One read of a name with a limit gave this answer, and led from one outside to the other.
pub record IsRead (before : FilesOutside) (name : List ℕ) (limit : ℕ) (answer : Result (List ℕ) FileFault) (after : FilesOutside) : Type 0 where
  pub content : SaysFile (before.told name) limit answer
  pub cause : HasCause (is_failed answer) before.faults after.faults
  pub last : after.failed ≡ last_failed answer name before.failed
  pub count : CountsTaken answer before.taken after.taken
  pub goes_on : FilesGoOn before after

-- Worked cases, with a file of the bytes 7, 8: a limit of 2 gives them, and a limit of 1 takes 2 bytes of a longer file.
at_the_limit : SaysFile (Some (7 ∷ 8 ∷ [])) 2 (Ok (7 ∷ 8 ∷ []))
at_the_limit = record { within = lit≤ tt; whole = λ content told. same_Some (7 ∷ 8 ∷ []) content told }

past_the_limit : SaysFile (Some (7 ∷ 8 ∷ [])) 1 (Err (Long 2))
past_the_limit = record { taken_to = refl; longer = λ content told. subst (λ bytes. 1 < length bytes) (same_Some (7 ∷ 8 ∷ []) content told) (lit< tt) }
