-- Files that stand in memory under their names, each name once.
use Rattle.std.specs.Prelude.{◌≡◌, ℕ, zero, suc, ◌+◌, min, true, false, List, [], ◌∷◌, length, Option, Some, None, Result, Ok, Err, ⊤, nat_le, bytes_eq, if◌then◌else◌, refl}
use Rattle.wcet_io.specs.Causes.{greatest_count}
use Rattle.wcet_io.specs.declared.fault.FileFault.{FileFault}
use Rattle.wcet_io.specs.declared.fault.FileFault.TheVariants.{Failed, Long, Memory}
use Rattle.wcet_io.specs.declared.named_files.NamedFile.{NamedFile}

-- the content of the file with this name
abbrev pub content_of : List NamedFile → List ℕ → Option (List ℕ)
content_of [] asked = None
content_of (file ∷ files) asked = if bytes_eq file.name asked then Some file.content else content_of files asked

-- the files after this one is put among them: the content of its name is replaced, or it is the last one
abbrev pub with_file : NamedFile → List NamedFile → List NamedFile
with_file put [] = put ∷ []
with_file put (file ∷ files) = if bytes_eq file.name put.name then put ∷ files else file ∷ with_file put files

-- The first file with this name stands at this place.
abbrev pub IsPlaceOf : List NamedFile → List ℕ → ℕ → Type 0
IsPlaceOf [] asked place = ⊥
IsPlaceOf (file ∷ files) asked zero = bytes_eq file.name asked ≡ true
IsPlaceOf (file ∷ files) asked (suc place) = (bytes_eq file.name asked ≡ false) × IsPlaceOf files asked place

-- the answer to a read of a file with this content
abbrev pub limited : List ℕ → ℕ → Result (List ℕ) FileFault
limited content limit = if nat_le (length content) limit then Ok content else Err (Long (limit + 1))

-- The answer is this one, or want of memory.
abbrev pub GivesOrMemory : Result (List ℕ) FileFault → Result (List ℕ) FileFault → Type 0
GivesOrMemory (Ok bytes) answer = answer ≡ Ok bytes
GivesOrMemory (Err (Long taken)) answer = answer ≡ Err (Long taken)
GivesOrMemory (Err Failed) answer = answer ≡ Err Failed
GivesOrMemory (Err Memory) answer = ⊤

-- the count of bytes taken, after this answer
abbrev pub taken_after : Result (List ℕ) FileFault → ℕ → ℕ
taken_after (Ok bytes) before = min (before + length bytes) greatest_count
taken_after (Err (Long taken)) before = min (before + taken) greatest_count
taken_after (Err Failed) before = before
taken_after (Err Memory) before = before

-- Worked cases, with the names 1 and 2: a second file joins, a second content of a name replaces the first,
-- and a name that isn't there has none.
abbrev one : List ℕ → NamedFile
one bytes = record { name = 1 ∷ []; content = bytes }

abbrev two : List ℕ → NamedFile
two bytes = record { name = 2 ∷ []; content = bytes }

joined : with_file (two (9 ∷ [])) (one (7 ∷ []) ∷ []) ≡ one (7 ∷ []) ∷ two (9 ∷ []) ∷ []
joined = refl

replaced : content_of (with_file (one (8 ∷ [])) (one (7 ∷ []) ∷ two (9 ∷ []) ∷ [])) (1 ∷ []) ≡ Some (8 ∷ [])
replaced = refl

missing : content_of (one (7 ∷ []) ∷ []) (2 ∷ []) ≡ None
missing = refl
