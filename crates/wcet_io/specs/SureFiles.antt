-- Files in memory whose reads never fail.
use Rattle.std.specs.Prelude.{ℕ, List, [], Some, None, unwrap_or}
use Rattle.wcet_io.specs.declared.named_files.NamedFile.{NamedFile}
use Rattle.wcet_io.specs.Files.{FilesOutside}
use Rattle.wcet_io.specs.NamedFiles.{content_of}

-- What such an object is: its files, and the count of bytes taken.
pub record SureFilesInMemory : Type 0 where
  pub files : List NamedFile
  pub taken : ℕ

-- what a name holds: a name that isn't there holds no bytes
abbrev pub content_or_empty : List NamedFile → List ℕ → List ℕ
content_or_empty files name = unwrap_or (content_of files name) []

-- what it tells of the outside: no read fails
abbrev pub outside_of : SureFilesInMemory → FilesOutside
outside_of object = record { told = λ name. Some (content_or_empty object.files name); faults = 0; failed = None; taken = object.taken }
