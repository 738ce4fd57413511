-- Of files in memory: where the first with a name stands, and what putting one there makes.
use Rattle.std.proofs.Common.{◌≡◌, ◌<◌, ℕ, zero, suc, Bool, true, false, List, [], ◌∷◌, ◌++◌, length, Option, Some, None, refl, ap, arith, set}
use Rattle.std.specs.Prelude.{slice_get, option_map, bytes_eq, if◌then◌else◌}
use Rattle.std.proofs.lemmas.Option.{same_Some}
use Rattle.wcet_io.specs.declared.named_files.NamedFile.{NamedFile}
use Rattle.wcet_io.specs.NamedFiles.{content_of, with_file, IsPlaceOf}

-- The first so many files don't have this name.
abbrev pub HavePassed : ℕ → List NamedFile → List ℕ → Type 0
HavePassed zero files asked = Unit {0}
HavePassed (suc passed) [] asked = Unit {0}
HavePassed (suc passed) (file ∷ files) asked = (bytes_eq file.name asked ≡ false) × HavePassed passed files asked

-- one more
pub passed_more : (passed : ℕ) (files : List NamedFile) (asked : List ℕ) (file : NamedFile) → HavePassed passed files asked → slice_get files passed ≡ Some file → bytes_eq file.name asked ≡ false → HavePassed (suc passed) files asked
passed_more zero [] asked file so_far here other = tt
passed_more zero (first ∷ files) asked file so_far here other = (rw (same_Some first file here) other, tt)
passed_more (suc passed) [] asked file so_far here other = tt
passed_more (suc passed) (first ∷ files) asked file so_far here other = (so_far.0, passed_more passed files asked file so_far.1 here other)

-- the next one has the name
pub place_after_passed : (passed : ℕ) (files : List NamedFile) (asked : List ℕ) (file : NamedFile) → HavePassed passed files asked → slice_get files passed ≡ Some file → bytes_eq file.name asked ≡ true → IsPlaceOf files asked passed
place_after_passed zero [] asked file so_far here same = cc
place_after_passed zero (first ∷ files) asked file so_far here same = rw (same_Some first file here) same
place_after_passed (suc passed) [] asked file so_far here same = cc
place_after_passed (suc passed) (first ∷ files) asked file so_far here same = (so_far.0, place_after_passed passed files asked file so_far.1 here same)

-- none is left
pub none_after_all_passed : (files : List NamedFile) (asked : List ℕ) → HavePassed (length files) files asked → content_of files asked ≡ None
none_after_all_passed [] asked so_far = refl
none_after_all_passed (file ∷ files) asked so_far = rw so_far.0 (none_after_all_passed files asked so_far.1)

-- the place is one of the list
pub place_within : (files : List NamedFile) (asked : List ℕ) (place : ℕ) → IsPlaceOf files asked place → place < length files
place_within [] asked place is = absurd is
place_within (file ∷ files) asked zero is = omega arith
place_within (file ∷ files) asked (suc place) is = let later : place < length files = place_within files asked place is.1 in omega arith

-- what stands at the place
pub content_at_place : (files : List NamedFile) (asked : List ℕ) (place : ℕ) → IsPlaceOf files asked place → content_of files asked ≡ option_map (λ file. file.content) (slice_get files place)
content_at_place [] asked place is = absurd is
content_at_place (file ∷ files) asked zero is = rw is
content_at_place (file ∷ files) asked (suc place) is = rw is.0 (content_at_place files asked place is.1)

-- a file that is put replaces the first of its name
pub with_file_at_place : (put : NamedFile) (files : List NamedFile) (place : ℕ) → IsPlaceOf files put.name place → with_file put files ≡ set files place put
with_file_at_place put [] place is = absurd is
with_file_at_place put (file ∷ files) zero is = rw is
with_file_at_place put (file ∷ files) (suc place) is = rw is.0 (ap (λ later. file ∷ later) (with_file_at_place put files place is.1))

none_of_both : (b : Bool) (content : List ℕ) (later : Option (List ℕ)) → (if b then Some content else later) ≡ None → (b ≡ false) × (later ≡ None)
none_of_both true content later none = cc
none_of_both false content later none = (refl, none)

-- a file that is put where none has its name is the last one
pub with_file_at_none : (put : NamedFile) (files : List NamedFile) → content_of files put.name ≡ None → with_file put files ≡ files ++ put ∷ []
with_file_at_none put [] none = refl
with_file_at_none put (file ∷ files) none =
    let other = none_of_both (bytes_eq file.name put.name) file.content (content_of files put.name) none in
    rw other.0 (ap (λ later. file ∷ later) (with_file_at_none put files other.1))
