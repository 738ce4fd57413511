-- The code words of a plain image.
use Rattle.std.proofs.Common.{◌≡◌, ℕ, zero, suc, ◌+◌, ◌-◌, ◌*◌, ◌/◌, ◌%◌, ◌^◌, ◌<◌, ◌≤◌, Bool, true, List, [], ◌∷◌, ◌++◌, length, Option, Some, None, refl, sym, ap, ◌∙◌, subst, arith}
use Rattle.std.specs.Prelude.{slice_get, slice_index, nat_le, nat_lt}
use Rattle.std.proofs.lemmas.Bool.{le-leb, lt-ltb, eq-eqb}
use Rattle.std.proofs.lemmas.Option.{same_Some, slice_get_within}
use Rattle.byteorder.specs.Endian.{little_bytes, little_number}
use Rattle.elf_image.specs.declared.image.Segment.{Segment}
use Rattle.elf_image.specs.declared.symbol.Symbol.{Symbol}
use Rattle.elf_image.specs.Image.{ImageData, initial_byte, has_word, word_in, word_at}
use Rattle.elf_image.specs.Plain.{words_bytes, plain_image}
use Rattle.elf_image.proofs.Fields.{number4}

-- the four bytes of a word stand at a place
record StandsAt (bytes : List ℕ) (place word : ℕ) : Type 0 where
  first : slice_index bytes (place + 0) ≡ slice_index (little_bytes 4 word) 0
  second : slice_index bytes (place + 1) ≡ slice_index (little_bytes 4 word) 1
  third : slice_index bytes (place + 2) ≡ slice_index (little_bytes 4 word) 2
  fourth : slice_index bytes (place + 3) ≡ slice_index (little_bytes 4 word) 3

one_on : (word : ℕ) (rest : List ℕ) (k i : ℕ) → slice_index (little_bytes 4 word ++ rest) (4 * suc k + i) ≡ slice_index rest (4 * k + i)
one_on word rest k i = let next : 4 * suc k + i ≡ suc (suc (suc (suc (4 * k + i)))) = omega arith in rw next refl

stands : (words : List ℕ) (k word : ℕ) → slice_get words k ≡ Some word → StandsAt (words_bytes words) (4 * k) word
stands [] k word at = absurd cc
stands (x ∷ words) zero word at =
    let is : x ≡ word = cc in
    subst (λ w. StandsAt (words_bytes (x ∷ words)) (4 * 0) w) is (record { first = refl; second = refl; third = refl; fourth = refl })
stands (x ∷ words) (suc k) word at =
    let later = stands words k word at in
    record {
      first = one_on x (words_bytes words) k 0 ∙ later.first;
      second = one_on x (words_bytes words) k 1 ∙ later.second;
      third = one_on x (words_bytes words) k 2 ∙ later.third;
      fourth = one_on x (words_bytes words) k 3 ∙ later.fourth;
    }

abbrev segment_of : ℕ → List ℕ → Segment
segment_of start words = record { address = start; bytes = words_bytes words; size = 4 * length words }

byte_here : (start : ℕ) (words : List ℕ) (k i : ℕ) → k < length words → i < 4
    → initial_byte (segment_of start words ∷ []) (start + 4 * k + i) ≡ Some (slice_index (words_bytes words) (4 * k + i))
byte_here start words k i below small =
    let from : start ≤ start + 4 * k + i = omega arith in
    let to : start + 4 * k + i < start + 4 * length words = omega arith in
    let place : start + 4 * k + i - start ≡ 4 * k + i = omega arith in
    rw (le-leb start (start + 4 * k + i) from, lt-ltb (start + 4 * k + i) (start + 4 * length words) to, place) refl

pub has_word_here : (start : ℕ) (words : List ℕ) (symbols : List Symbol) (k : ℕ) → start % 4 ≡ 0 → k < length words
    → has_word (plain_image start words symbols).code (start + 4 * k) ≡ true
has_word_here start words symbols k aligned below =
    let whole : (start + 4 * k) % 4 ≡ 0 = omega (arith, aligned) in
    let from : start ≤ start + 4 * k = omega arith in
    let to : start + 4 * k + 4 ≤ start + 4 * length words = omega arith in
    rw (eq-eqb _ _ whole, le-leb start (start + 4 * k) from, le-leb (start + 4 * k + 4) (start + 4 * length words) to) refl

pub word_here : (start : ℕ) (words : List ℕ) (symbols : List Symbol) (k word : ℕ) → start % 4 ≡ 0 → slice_get words k ≡ Some word → word < 2 ^ 32
    → word_at (plain_image start words symbols) (start + 4 * k) ≡ Some word
word_here start words symbols k word aligned at fits =
    let below = slice_get_within words k word at in
    let bytes = stands words k word at in
    let zeroth : start + 4 * k + 0 ≡ start + 4 * k = omega arith in
    let first = subst (λ a. initial_byte (segment_of start words ∷ []) a ≡ Some (slice_index (words_bytes words) (4 * k + 0))) zeroth (byte_here start words k 0 below (omega arith)) in
    rw (
      has_word_here start words symbols k aligned below,
      first,
      byte_here start words k 1 below (omega arith),
      byte_here start words k 2 below (omega arith),
      byte_here start words k 3 below (omega arith),
      bytes.first,
      bytes.second,
      bytes.third,
      bytes.fourth,
    )
    (ap Some (number4 word [] fits))
