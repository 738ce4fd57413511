-- Files in memory whose reads can be made to fail.
use Rattle.std.specs.Prelude.{◌≡◌, ℕ, ◌+◌, List, [], ◌∷◌, Option, Some, None, Result, Err, min, ◌==◌, if◌then◌else◌, refl}
use Rattle.std.specs.List.{list_any}
use Rattle.wcet_io.specs.declared.fault.FileFault.{FileFault}
use Rattle.wcet_io.specs.declared.fault.FileFault.TheVariants.{Failed}
use Rattle.wcet_io.specs.declared.named_files.NamedFile.{NamedFile}
use Rattle.wcet_io.specs.Causes.{greatest_count}
use Rattle.wcet_io.specs.Files.{FilesOutside, is_failed, last_failed}
use Rattle.wcet_io.specs.NamedFiles.{content_of, limited, taken_after}

-- What such an object is: its files, the numbers of the reads that are to fail, the number of the next read,
-- how many reads failed, the name of the last of these, and how many bytes were taken.
pub record FilesInMemory : Type 0 where
  pub files : List NamedFile
  pub failing : List ℕ
  pub calls : ℕ
  pub faults : ℕ
  pub failed : Option (List ℕ)
  pub taken : ℕ

-- what it tells of the outside
abbrev pub outside_of : FilesInMemory → FilesOutside
outside_of object = record { told = content_of object.files; faults = object.faults; failed = object.failed; taken = object.taken }

-- the answer to a read of what a name holds
abbrev pub found : Option (List ℕ) → ℕ → Result (List ℕ) FileFault
found None limit = Err Failed
found (Some content) limit = limited content limit

-- the answer to the next read: it fails where its number is listed, or where the name isn't held
abbrev pub read_answer : FilesInMemory → List ℕ → ℕ → Result (List ℕ) FileFault
read_answer object name limit =
    if list_any (λ call. call == object.calls) object.failing then Err Failed else found (content_of object.files name) limit

-- the object after a read that gave this answer: the read has had its number, a failed one is counted and its name kept,
-- and what was taken is counted
abbrev pub after_read : FilesInMemory → List ℕ → Result (List ℕ) FileFault → FilesInMemory
after_read object name answer = record object {
  calls = min (object.calls + 1) greatest_count;
  faults = if is_failed answer then min (object.faults + 1) greatest_count else object.faults;
  failed = last_failed answer name object.failed;
  taken = taken_after answer object.taken;
}

-- Worked cases, with an object that holds no file and is to fail read 0: that read fails, and so does read 1, of a name that isn't held.
abbrev nothing_held : ℕ → FilesInMemory
nothing_held calls = record { files = []; failing = 0 ∷ []; calls = calls; faults = 0; failed = None; taken = 0 }

listed : read_answer (nothing_held 0) (5 ∷ []) 9 ≡ Err Failed
listed = refl

not_held : read_answer (nothing_held 1) (5 ∷ []) 9 ≡ Err Failed
not_held = refl

counted : (after_read (nothing_held 1) (5 ∷ []) (Err Failed)).failed ≡ Some (5 ∷ [])
counted = refl
