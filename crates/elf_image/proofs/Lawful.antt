-- What a reader builds is lawful.
use Rattle.std.proofs.Common.{◌≡◌, ℕ, zero, suc, ◌+◌, ◌<◌, ◌≤◌, ◌^◌, true, false, ◌&&◌, ◌||◌, cond, List, [], ◌∷◌, length, take, drop, get_or, map, None, arith, refl, ◌∙◌, ap, inl, inr}
use Rattle.std.specs.Prelude.{count_by}
use Rattle.std.specs.List.{list_all, list_any}
use Rattle.std.proofs.lemmas.List.{get_or-drop}
use Rattle.std.proofs.lemmas.List.Sums.{sum_by-cons, AllPass-from_list_all}
use Rattle.std.proofs.lemmas.List.Elements.{All-map}
use Rattle.std.proofs.lemmas.Bool.{cases_Bool, or_parts, and_parts}
use Rattle.std.proofs.lemmas.Bool.Decides.{nat_tests}
use Rattle.elf_image.specs.Image.{IsSegment, IsLawful, covers, lies_in}
use Rattle.elf_image.specs.Elf.{segment_fits, segment_of, section_of, overlaps, shares, code_fits, is_within, parts_fit, loaded_of, code_of, late_fault_of, tables_fit}
use Rattle.elf_image.specs.declared.symbol.Symbol.{Symbol}
use Rattle.elf_image.specs.declared.headers.ProgramHeader.{ProgramHeader}
use Rattle.elf_image.specs.declared.headers.SectionHeader.{SectionHeader}
use Rattle.elf_image.proofs.Verdict.{late_overlap}

-- ---- A part of bytes holds bytes

take_below : (n : ℕ) (bytes : List ℕ) → ((k : ℕ) → get_or bytes k 0 < 2 ^ 8) → (k : ℕ) → get_or (take n bytes) k 0 < 2 ^ 8
take_below zero bytes fits k = omega arith
take_below (suc n) [] fits k = omega arith
take_below (suc n) (byte ∷ bytes) fits zero = fits 0
take_below (suc n) (byte ∷ bytes) fits (suc k) = take_below n bytes (λ i. fits (suc i)) k

pub part_below : (bytes : List ℕ) (offset n : ℕ) → ((k : ℕ) → get_or bytes k 0 < 2 ^ 8) → (k : ℕ) → get_or (take n (drop offset bytes)) k 0 < 2 ^ 8
part_below bytes offset n fits = take_below n (drop offset bytes) (λ k. rw get_or-drop (fits (offset + k)))

take_few : (n : ℕ) (bytes : List ℕ) → length (take n bytes) ≤ n
take_few zero bytes = omega arith
take_few (suc n) [] = omega arith
take_few (suc n) (byte ∷ bytes) = let few = take_few n bytes in omega arith

pub segment_lawful : (bytes : List ℕ) (header : ProgramHeader) → ((k : ℕ) → get_or bytes k 0 < 2 ^ 8) → segment_fits bytes header ≡ true
    → IsSegment (segment_of bytes header)
segment_lawful bytes header fits h = record {
  bytes = part_below bytes header.offset header.filled fits;
  few = (let few = take_few header.filled (drop header.offset bytes) in let filled : header.filled ≤ header.size = grind (arith, nat_tests) in omega arith);
  ends = grind (arith, nat_tests);
}

-- ---- Segments are apart

-- a segment that shares no address with the header has none that the header has
apart_from : (bytes : List ℕ) (one : ProgramHeader) (address : ℕ) → covers (segment_of bytes one) address ≡ true → (others : List ProgramHeader)
    → list_any (shares one) others ≡ false → count_by (λ segment. covers segment address) (map (segment_of bytes) others) ≡ 0
apart_from bytes one address here [] out = refl
apart_from bytes one address here (other ∷ others) out =
    let parted = or_parts (shares one other) (list_any (shares one) others) out in
    let rest = apart_from bytes one address here others parted.1 in
    let out_of : covers (segment_of bytes other) address ≡ false = not_both bytes one other address here parted.0 in
    sum_by-cons (λ segment. cond (covers segment address) 1 0) (segment_of bytes other) (map (segment_of bytes) others)
    ∙ ap (λ b. cond b 1 0 + count_by (λ segment. covers segment address) (map (segment_of bytes) others)) out_of ∙ omega (arith, rest)
  where
    not_both : (bytes : List ℕ) (one other : ProgramHeader) (address : ℕ) → covers (segment_of bytes one) address ≡ true → shares one other ≡ false
        → covers (segment_of bytes other) address ≡ false
    not_both bytes one other address here parted = grind (arith, nat_tests)

pub segments_apart : (bytes : List ℕ) (loaded : List ProgramHeader) → overlaps loaded ≡ false → (address : ℕ)
    → count_by (λ segment. covers segment address) (map (segment_of bytes) loaded) ≤ 1
segments_apart bytes [] h address = omega arith
segments_apart bytes (one ∷ others) h address =
    let parted = or_parts (list_any (shares one) others) (overlaps others) h in
    let rest = segments_apart bytes others parted.1 address in
    let first = sum_by-cons (λ segment. cond (covers segment address) 1 0) (segment_of bytes one) (map (segment_of bytes) others) in
    elim (cases_Bool (covers (segment_of bytes one) address)) [
      | inl here ↦
          let none = apart_from bytes one address here others parted.0 in
          let e : cond (covers (segment_of bytes one) address) 1 0 ≡ 1 = ap {B = ℕ} (λ b. cond b 1 0) here in
          omega (arith, first, none, e)
      | inr away ↦ let e : cond (covers (segment_of bytes one) address) 1 0 ≡ 0 = ap {B = ℕ} (λ b. cond b 1 0) away in omega (arith, first, rest, e)
    ]

-- ---- Sections lie in segments

lies-in_one : (bytes : List ℕ) (section : SectionHeader) (loaded : List ProgramHeader)
    → list_any (lies_in (section_of section)) (map (segment_of bytes) loaded) ≡ list_any (is_within section) loaded
lies-in_one bytes section [] = refl
lies-in_one bytes section (one ∷ others) = ap (λ b. is_within section one || b) (lies-in_one bytes section others)

-- ---- An image of parts that fit

pub image_lawful : (bytes : List ℕ) (loaded : List ProgramHeader) (code : List SectionHeader) (symbols : List Symbol)
    → ((k : ℕ) → get_or bytes k 0 < 2 ^ 8) → list_all (segment_fits bytes) loaded ≡ true → overlaps loaded ≡ false
    → list_all (code_fits loaded) code ≡ true
    → IsLawful (record { code = map section_of code; memory = map (segment_of bytes) loaded; symbols = symbols })
image_lawful bytes loaded code symbols below fit apart within = record {
  segments =
      All-map IsSegment (segment_of bytes) loaded
      (λ k d inside. segment_lawful bytes (get_or loaded k d) below (AllPass-from_list_all (segment_fits bytes) loaded fit k d inside));
  apart = segments_apart bytes loaded apart;
  code =
      All-map (λ section. list_any (lies_in section) (map (segment_of bytes) loaded) ≡ true) section_of code
      (λ k d inside. lies-in_one bytes (get_or code k d) loaded ∙ AllPass-from_list_all (code_fits loaded) code within k d inside);
}

-- where no late fault is found, no segments overlap
pub apart_of_late : (loaded : List ProgramHeader) (code : List SectionHeader) → late_fault_of loaded code ≡ None → overlaps loaded ≡ false
apart_of_late loaded code none = elim (cases_Bool (overlaps loaded)) [
  | inl shared ↦ let found = late_overlap loaded code shared in absurd cc
  | inr none_shared ↦ none_shared
]

pub code_of_parts : (bytes : List ℕ) (loaded : List ProgramHeader) (code : List SectionHeader) → loaded ≡ loaded_of bytes → code ≡ code_of bytes
    → parts_fit bytes ≡ true → list_all (code_fits loaded) code ≡ true
unfolding parts_fit
code_of_parts bytes loaded code are_loaded are_code h =
    ap (λ l. list_all (code_fits l) code) are_loaded ∙ ap (list_all (code_fits (loaded_of bytes))) are_code
    ∙ (and_parts (tables_fit bytes && list_all (segment_fits bytes) (loaded_of bytes)) (list_all (code_fits (loaded_of bytes)) (code_of bytes)) h).1
