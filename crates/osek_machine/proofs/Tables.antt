-- What is looked up in decoded code is the image's instruction.
use Rattle.std.proofs.Common.{◌≡◌, ℕ, ◌+◌, ◌-◌, ◌*◌, ◌/◌, ◌%◌, ◌<◌, ◌≤◌, Bool, true, false, cond, List, [], ◌∷◌, ◌++◌, length, Some, None, refl, sym, ◌∙◌, ap, subst, arith, take, get_or, add-one, All, ◌^◌}
use Rattle.std.proofs.lemmas.List.{take_all}
use Rattle.std.proofs.Math.Seq.{take-suc}
use Rattle.std.specs.Prelude.{nat_le, nat_lt, nat_eq, ◌&&◌, ◌||◌, slice_index_or, option_and_then}
use Rattle.std.specs.List.{list_any}
use Rattle.std.proofs.lemmas.Bool.{ltb-true, lt-ltb, leb-true, leb-false, le-leb, eqb-true, false≢true}
use Rattle.std.proofs.lemmas.List.Elements.{All-get_or, All-from_get_or}
use Rattle.std.proofs.lemmas.List.Folds.{list_any_none}
use std.Path.{fun_ext}
use Rattle.elf_image.specs.declared.image.Segment.{Segment}
use Rattle.elf_image.specs.Image.{ImageData, IsLawful, IsSegment, lies_in, holds_word, word_in}
use Rattle.elf_image.specs.declared.image.Section.{Section}
use Rattle.rv32_decode.specs.Instructions.{insn_of_word}
use Rattle.rv32_machine.specs.Code.{insn_at}
use Rattle.osek_machine.specs.declared.decoded.Part.{Part}
use Rattle.osek_machine.specs.Decoded.{has_here, in_parts, looked_up}
use Rattle.osek_machine.specs.Working.Tables.{IsPartOf, ArePartsOf}

same_bool : (a b : Bool) → (a ≡ true → b ≡ true) → (b ≡ true → a ≡ true) → a ≡ b
same_bool true true f g = refl
same_bool true false f g = sym (f refl)
same_bool false true f g = g refl
same_bool false false f g = refl

and_both : (a b : Bool) → (a && b) ≡ true → (a ≡ true) × (b ≡ true)
and_both true true e = (refl, refl)
and_both true false e = cc
and_both false b e = cc

both_and : (a b : Bool) → a ≡ true → b ≡ true → (a && b) ≡ true
both_and true true e h = refl
both_and true false e h = cc
both_and false b e h = cc

words_there : (address size w first count : ℕ) → first ≡ (address + 3) / 4 → count ≡ (address + size) / 4 - (address + 3) / 4
    → address ≤ 4 * w → 4 * w + 4 ≤ address + size → (first ≤ w) × (w - first < count)
words_there address size w first count f c from to = (omega arith, omega arith)

words_back : (address size w first count : ℕ) → first ≡ (address + 3) / 4 → count ≡ (address + size) / 4 - (address + 3) / 4
    → first ≤ w → w - first < count → (address ≤ 4 * w) × (4 * w + 4 ≤ address + size)
words_back address size w first count f c from to = (omega arith, omega arith)

-- the section holds the word exactly where the part has it
here_same : (image : ImageData) (section : Section) (part : Part) → IsPartOf image section part → (w : ℕ) → holds_word (4 * w) section ≡ has_here part w
here_same image section part is w = same_bool (holds_word (4 * w) section) (has_here part w) there back
  where
    there : holds_word (4 * w) section ≡ true → has_here part w ≡ true
    there e =
        let both = and_both (nat_le section.address (4 * w)) (nat_le (4 * w + 4) (section.address + section.size)) e in
        let words = words_there section.address section.size w part.first (length part.insns.items) is.first is.count (leb-true section.address (4 * w) both.0) (leb-true (4 * w + 4) (section.address + section.size) both.1) in
        both_and (nat_le part.first w) (nat_lt (w - part.first) (length part.insns.items)) (le-leb part.first w words.0) (lt-ltb (w - part.first) (length part.insns.items) words.1)

    back : has_here part w ≡ true → holds_word (4 * w) section ≡ true
    back e =
        let both = and_both (nat_le part.first w) (nat_lt (w - part.first) (length part.insns.items)) e in
        let words = words_back section.address section.size w part.first (length part.insns.items) is.first is.count (leb-true part.first w both.0) (ltb-true (w - part.first) (length part.insns.items) both.1) in
        both_and (nat_le section.address (4 * w)) (nat_le (4 * w + 4) (section.address + section.size)) (le-leb section.address (4 * w) words.0) (le-leb (4 * w + 4) (section.address + section.size) words.1)

-- what a part has at a word is the instruction there
word_here : (image : ImageData) (section : Section) (part : Part) → IsPartOf image section part → (w : ℕ) → has_here part w ≡ true
    → slice_index_or part.insns.items (w - part.first) None ≡ insn_at image (4 * w)
word_here image section part is w e =
    let both = and_both (nat_le part.first w) (nat_lt (w - part.first) (length part.insns.items)) e in
    let from : part.first ≤ w = leb-true part.first w both.0 in
    let same : part.first + (w - part.first) ≡ w = omega arith in
    is.words.each (w - part.first) (ltb-true (w - part.first) (length part.insns.items) both.1) ∙ ap (λ v. insn_at image (4 * v)) same

in_parts_are : (image : ImageData) (sections : List Section) (parts : List Part) → ArePartsOf image sections parts → (w : ℕ)
    → in_parts parts w ≡ cond (list_any (holds_word (4 * w)) sections) (insn_at image (4 * w)) None
in_parts_are image [] [] are w = refl
in_parts_are image (s ∷ ss) [] are w = absurd are
in_parts_are image [] (p ∷ ps) are w = absurd are
in_parts_are image (s ∷ ss) (p ∷ ps) are w = choose (has_here p w) (holds_word (4 * w) s) (here_same image s p are.0 w) refl (in_parts_are image ss ps are.1 w)
  where
    choose : (b c : Bool) → c ≡ b → has_here p w ≡ b → in_parts ps w ≡ cond (list_any (holds_word (4 * w)) ss) (insn_at image (4 * w)) None
        → cond b (slice_index_or p.insns.items (w - p.first) None) (in_parts ps w) ≡ cond (c || list_any (holds_word (4 * w)) ss) (insn_at image (4 * w)) None
    choose true true e h rest = word_here image s p are.0 w h
    choose false false e h rest = rest
    choose true false e h rest = cc
    choose false true e h rest = cc

looked_up-at : (image : ImageData) (parts : List Part) → ArePartsOf image image.code parts → (address : ℕ) → looked_up parts address ≡ insn_at image address
unfolding insn_at
looked_up-at image parts are address = aligned (nat_eq (address % 4) 0) refl
  where
    aligned : (b : Bool) → nat_eq (address % 4) 0 ≡ b
        → cond b (in_parts parts (address / 4)) None ≡ option_and_then insn_of_word (cond (b && list_any (holds_word address) image.code) (Some (word_in image.memory address)) None)
    aligned false e = refl
    aligned true e =
        let rest : address % 4 ≡ 0 = eqb-true (address % 4) 0 e in
        let again : 4 * (address / 4) ≡ address = omega arith in
        in_parts_are image image.code parts are (address / 4)
        ∙ (ap (λ a. cond (list_any (holds_word a) image.code) (insn_at image a) None) again ∙ held (list_any (holds_word address) image.code) e refl)
      where
        held : (h : Bool) → nat_eq (address % 4) 0 ≡ true → list_any (holds_word address) image.code ≡ h
            → cond h (insn_at image address) None ≡ option_and_then insn_of_word (cond h (Some (word_in image.memory address)) None)
        held false e h = refl
        held true e h = ap (option_and_then insn_of_word) (ap (λ b. cond b (Some (word_in image.memory address)) None) (both_and (nat_eq (address % 4) 0) (list_any (holds_word address) image.code) e h))

pub looked_up-insn_at : (image : ImageData) (parts : List Part) → ArePartsOf image image.code parts → looked_up parts ≡ insn_at image
looked_up-insn_at image parts are = fun_ext (looked_up-at image parts are)

-- ---- Building

-- ---- Sections

push_part : (image : ImageData) (sections : List Section) (section : Section) (parts : List Part) (part : Part)
    → ArePartsOf image sections parts → IsPartOf image section part → ArePartsOf image (sections ++ section ∷ []) (parts ++ part ∷ [])
push_part image [] section [] part are is = (is, tt)
push_part image (s ∷ ss) section (p ∷ ps) part are is = (are.0, push_part image ss section ps part are.1 is)
push_part image [] section (p ∷ ps) part are is = absurd are
push_part image (s ∷ ss) section [] part are is = absurd are

-- the parts of the sections before a place
pub record ArePartsBefore (image : ImageData) (parts : List Part) (place : ℕ) : Type 0 where
  pub parts_of : ArePartsOf image (take place image.code) parts

pub parts_more : (image : ImageData) (sections : List Section) (parts : List Part) (place : ℕ) (d : Section) (part : Part) → sections ≡ image.code
    → ArePartsBefore image parts place → place < length sections → IsPartOf image (get_or sections place d) part → ArePartsBefore image (parts ++ part ∷ []) (place + 1)
parts_more image sections parts place d part same are within is = record {
  parts_of = subst (λ (ss : List Section). ArePartsOf image (take (place + 1) ss) (parts ++ part ∷ [])) same
      (rw (add-one, take-suc sections place d within)
      (push_part image (take place sections) (get_or sections place d) parts part (subst (λ (ss : List Section). ArePartsOf image (take place ss) parts) (sym same) are.parts_of) is));
}

pub all_parts : (image : ImageData) (sections : List Section) (parts : List Part) (place : ℕ) → sections ≡ image.code
    → ArePartsBefore image parts place → length sections ≤ place → looked_up parts ≡ insn_at image
all_parts image sections parts place same are past =
    looked_up-insn_at image parts (subst (λ (ss : List Section). ArePartsOf image ss parts) (take_all place image.code (subst (λ (ss : List Section). length ss ≤ place) same past)) are.parts_of)

and_false : (a b : Bool) → b ≡ false → (a && b) ≡ false
and_false true b e = e
and_false false b e = refl

not_le : (a b : ℕ) → b < a → nat_le a b ≡ false
not_le a b below = elim (nat_le a b) as (λ t. nat_le a b ≡ t → nat_le a b ≡ false) [
  | true ↦ λ e. (let within : a ≤ b = leb-true a b e in absurd (omega arith))
  | false ↦ λ e. e
] refl

nothing : Segment
nothing = record { address = 0; bytes = []; size = 0 }

-- a section that lies in a segment ends by the end of the address range
section_ends : (memory : List Segment) (section : Section) → All IsSegment memory → list_any (lies_in section) memory ≡ true → section.address + section.size ≤ 2 ^ 32
section_ends memory section segments any = elim (nat_le (section.address + section.size) (2 ^ 32)) as (λ b. nat_le (section.address + section.size) (2 ^ 32) ≡ b → section.address + section.size ≤ 2 ^ 32) [
  | true ↦ λ e. leb-true (section.address + section.size) (2 ^ 32) e
  | false ↦ λ e. (
      let past : 2 ^ 32 < section.address + section.size = leb-false (section.address + section.size) (2 ^ 32) e in
      absurd (false≢true (sym (list_any_none (lies_in section) memory (All-from_get_or (λ s. lies_in section s ≡ false) memory nothing (λ i within. outside past (get_or memory i nothing) (All-get_or IsSegment memory i nothing within segments)))) ∙ any)))
] refl
  where
    outside : 2 ^ 32 < section.address + section.size → (segment : Segment) → IsSegment segment → lies_in section segment ≡ false
    outside past segment is =
        let ends : segment.address + segment.size ≤ 2 ^ 32 = is.ends in
        and_false (nat_le segment.address section.address) (nat_le (section.address + section.size) (segment.address + segment.size))
        (not_le (section.address + section.size) (segment.address + segment.size) (omega arith))

pub sections_end : (image : ImageData) (sections : List Section) (place : ℕ) (d : Section) → IsLawful image → sections ≡ image.code → place < length sections
    → (get_or sections place d).address + (get_or sections place d).size ≤ 2 ^ 32
sections_end image sections place d lawful same within =
    section_ends image.memory (get_or sections place d) lawful.segments
    (All-get_or (λ s. list_any (lies_in s) image.memory ≡ true) sections place d within
    (subst (λ (ss : List Section). All (λ s. list_any (lies_in s) image.memory ≡ true) ss) (sym same) lawful.code))
