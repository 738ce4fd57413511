-- Segments of an image in the order of their addresses, each with every byte of it, are the same memory.
use Rattle.std.proofs.Common.{◌≡◌, ℕ, zero, suc, ◌+◌, ◌-◌, ◌<◌, ◌≤◌, ◌^◌, Bool, true, false, cond, List, [], ◌∷◌, ◌++◌, length, take, get_or, map, filter, replicate, All, Option, Some, None, arith, refl, sym, ◌∙◌, ap, inl, inr, subst}
use Rattle.std.specs.Prelude.{count_by, sum_by, IsPermutation}
use Rattle.std.specs.List.Sorted.{IsNonDecreasingBy}
use Rattle.std.proofs.lemmas.List.Sums.{sum_by-cons}
use Rattle.std.proofs.lemmas.List.Sorted.{sum_by-IsPermutation, All-permutation}
use Rattle.std.proofs.lemmas.List.Elements.{All-map, All-filter, filter_passes}
use Rattle.std.proofs.lemmas.Bool.{cases_Bool, cond-true, cond-false, ltb-true, cases_lt}
use Rattle.std.proofs.lemmas.Bool.Decides.{nat_tests}
use Rattle.std.proofs.lemmas.List.{length-replicate}
use std.Path.{fun_ext}
use Rattle.elf_image.specs.Image.{ImageData, IsSegment, IsLawful, covers, byte_in, initial_byte}
use Rattle.elf_image.specs.declared.image.Segment.{Segment}
use Rattle.rv32_machine.specs.Memory.{memory_of}
use Rattle.rv32_machine.specs.Working.Parts.{IsFull, IsKept, AreApart, filled, has_addresses}

-- ---- A segment with every byte of it

all_zero : (n number : ℕ) → get_or {A = ℕ} (replicate n 0) number 0 ≡ 0
all_zero zero number = refl
all_zero (suc n) zero = refl
all_zero (suc n) (suc number) = all_zero n number

-- zeros behind a list, and the cut of a list that is short enough, change no member
padded : (bytes : List ℕ) (n m k : ℕ) → length bytes ≤ n → get_or (take n bytes ++ replicate m 0) k 0 ≡ get_or bytes k 0
padded [] zero m k few = all_zero m k
padded [] (suc n) m k few = all_zero m k
padded (byte ∷ bytes) zero m k few = absurd (omega arith)
padded (byte ∷ bytes) (suc n) m zero few = refl
padded (byte ∷ bytes) (suc n) m (suc k) few = padded bytes n m k (omega arith)

padded_length : (bytes : List ℕ) (n : ℕ) → length (take n bytes ++ replicate (n - length bytes) 0) ≡ n
padded_length [] zero = refl
padded_length [] (suc n) = let all : suc n - length {A = ℕ} [] ≡ suc n = omega arith in ap (λ m. length {A = ℕ} (replicate m 0)) all ∙ length-replicate (suc n) 0
padded_length (byte ∷ bytes) zero = let none : zero - length (byte ∷ bytes) ≡ 0 = omega arith in ap (λ m. length {A = ℕ} (replicate m 0)) none
padded_length (byte ∷ bytes) (suc n) =
    let fewer : suc n - length (byte ∷ bytes) ≡ n - length bytes = omega arith in
    ap (λ m. suc (length (take n bytes ++ replicate m 0))) fewer ∙ ap (λ m. suc m) (padded_length bytes n)

pub filled_length : (segment : Segment) → length (filled segment).bytes ≡ segment.size
filled_length segment = padded_length segment.bytes segment.size

filled_full : (segment : Segment) → IsSegment segment → IsFull (filled segment)
filled_full segment lawful = record {
  kept = filled_length segment;
  bytes = λ k. subst (λ (n : ℕ). n < 2 ^ 8) (sym (padded segment.bytes segment.size (segment.size - length segment.bytes) k lawful.few)) (lawful.bytes k);
}

-- ---- Sums over the parts are those over the segments

sum_filled : (f : Segment → ℕ) → ((segment : Segment) → length segment.bytes ≤ segment.size → f (filled segment) ≡ f segment)
    → ((segment : Segment) → has_addresses segment ≡ false → f segment ≡ 0) → (segments : List Segment) → All IsSegment segments
    → sum_by f (map filled (filter has_addresses segments)) ≡ sum_by f segments
sum_filled f same none [] lawful = refl
sum_filled f same none (one ∷ others) lawful =
    let rest = sum_filled f same none others (λ k d inside. lawful (suc k) d (omega arith)) in
    let first = sum_by-cons f one others in
    elim (cases_Bool (has_addresses one)) [
      | inl some ↦
          ap (λ kept. sum_by f (map filled kept)) (cond-true (has_addresses one) (one ∷ filter has_addresses others) (filter has_addresses others) some)
          ∙ sum_by-cons f (filled one) (map filled (filter has_addresses others))
          ∙ (let here = same one (lawful 0 one (omega arith)).few in omega (arith, here, rest, first))
      | inr empty ↦
          ap (λ kept. sum_by f (map filled kept)) (cond-false (has_addresses one) (one ∷ filter has_addresses others) (filter has_addresses others) empty)
          ∙ (let here = none one empty in omega (arith, here, rest, first))
    ]

covers_none : (segment : Segment) (address : ℕ) → has_addresses segment ≡ false → covers segment address ≡ false
covers_none segment address empty = grind (arith, nat_tests)

abbrev one_if : Bool → ℕ
one_if b = cond b 1 0

count_parts : (segments parts : List Segment) (address : ℕ) → All IsSegment segments → IsPermutation (map filled (filter has_addresses segments)) parts
    → count_by (λ segment. covers segment address) parts ≡ count_by (λ segment. covers segment address) segments
count_parts segments parts address lawful moved =
    sum_by-IsPermutation (λ segment. one_if (covers segment address)) (map filled (filter has_addresses segments)) parts moved
    ∙ sum_filled (λ segment. one_if (covers segment address)) (λ segment few. refl)
    (λ segment empty. ap one_if (covers_none segment address empty)) segments lawful

-- ---- Where at most one covers an address, memory is a sum

abbrev weight : ℕ → Segment → ℕ
weight address segment = cond (covers segment address) (suc (byte_in segment address)) 0

abbrev told : ℕ → Option ℕ
told zero = None
told (suc n) = Some n

weigh_none : (segments : List Segment) (address : ℕ) → count_by (λ segment. covers segment address) segments ≡ 0 → sum_by (weight address) segments ≡ 0
weigh_none [] address none = refl
weigh_none (one ∷ others) address none =
    let count = sum_by-cons (λ segment. one_if (covers segment address)) one others in
    let sum = sum_by-cons (weight address) one others in
    elim (cases_Bool (covers one address)) [
      | inl here ↦ let e : one_if (covers one address) ≡ 1 = ap one_if here in absurd (omega (arith, count, none, e))
      | inr away ↦
          let e : one_if (covers one address) ≡ 0 = ap one_if away in
          let w : weight address one ≡ 0 = cond-false (covers one address) (suc (byte_in one address)) 0 away in
          let rest = weigh_none others address (omega (arith, count, none, e)) in
          omega (arith, sum, w, rest)
    ]

by_sum : (segments : List Segment) (address : ℕ) → count_by (λ segment. covers segment address) segments ≤ 1
    → initial_byte segments address ≡ told (sum_by (weight address) segments)
by_sum [] address few = refl
by_sum (one ∷ others) address few =
    let count = sum_by-cons (λ segment. one_if (covers segment address)) one others in
    let sum = sum_by-cons (weight address) one others in
    elim (cases_Bool (covers one address)) [
      | inl here ↦
          let e : one_if (covers one address) ≡ 1 = ap one_if here in
          let w : weight address one ≡ suc (byte_in one address) = cond-true (covers one address) (suc (byte_in one address)) 0 here in
          let rest = weigh_none others address (omega (arith, count, few, e)) in
          let all : suc (byte_in one address) ≡ sum_by (weight address) (one ∷ others) = omega (arith, sum, w, rest) in
          cond-true (covers one address) (Some (byte_in one address)) (initial_byte others address) here ∙ ap told all
      | inr away ↦
          let e : one_if (covers one address) ≡ 0 = ap one_if away in
          let w : weight address one ≡ 0 = cond-false (covers one address) (suc (byte_in one address)) 0 away in
          let all : sum_by (weight address) others ≡ sum_by (weight address) (one ∷ others) = omega (arith, sum, w) in
          cond-false (covers one address) (Some (byte_in one address)) (initial_byte others address) away
          ∙ by_sum others address (omega (arith, count, few, e)) ∙ ap told all
    ]

weight_filled : (address : ℕ) (segment : Segment) → length segment.bytes ≤ segment.size → weight address (filled segment) ≡ weight address segment
weight_filled address segment few =
    ap (λ n. cond (covers segment address) (suc n) 0)
    (padded segment.bytes segment.size (segment.size - length segment.bytes) (address - segment.address) few)

-- the parts in their order are the memory of the image
pub same_memory : (image : ImageData) (parts : List Segment) → IsLawful image → IsPermutation (map filled (filter has_addresses image.memory)) parts
    → memory_of parts ≡ initial_byte image.memory
same_memory image parts lawful moved = fun_ext (λ address.
    let count = count_parts image.memory parts address lawful.segments moved in
    let one = lawful.apart address in
    by_sum parts address (omega (arith, count, one))
    ∙ ap told
    (sum_by-IsPermutation (weight address) (map filled (filter has_addresses image.memory)) parts moved
    ∙ sum_filled (weight address) (weight_filled address)
    (λ segment empty. cond-false (covers segment address) (suc (byte_in segment address)) 0 (covers_none segment address empty)) image.memory lawful.segments)
    ∙ sym (by_sum image.memory address one))

-- ---- Parts in the order of their addresses are apart

covered_once : (parts : List Segment) (address k : ℕ) (d : Segment) → k < length parts → covers (get_or parts k d) address ≡ true
    → 1 ≤ count_by (λ part. covers part address) parts
covered_once [] address k d below here = absurd (omega arith)
covered_once (one ∷ others) address zero d below here =
    let e : one_if (covers one address) ≡ 1 = ap one_if here in
    omega (arith, sum_by-cons (λ part. one_if (covers part address)) one others, e)
covered_once (one ∷ others) address (suc k) d below here =
    omega (arith, sum_by-cons (λ part. one_if (covers part address)) one others, covered_once others address k d (omega arith) here)

covered_twice : (parts : List Segment) (address i k : ℕ) (d : Segment) → i < k → k < length parts → covers (get_or parts i d) address ≡ true
    → covers (get_or parts k d) address ≡ true → 2 ≤ count_by (λ part. covers part address) parts
covered_twice [] address i k d before below first second = absurd (omega arith)
covered_twice (one ∷ others) address i zero d before below first second = absurd (omega arith)
covered_twice (one ∷ others) address zero (suc k) d before below first second =
    let e : one_if (covers one address) ≡ 1 = ap one_if first in
    omega (arith, sum_by-cons (λ part. one_if (covers part address)) one others, e, covered_once others address k d (omega arith) second)
covered_twice (one ∷ others) address (suc i) (suc k) d before below first second =
    omega
    (arith, sum_by-cons (λ part. one_if (covers part address)) one others, covered_twice others address i k d (omega arith) (omega arith) first second)

covers_at : (part : Segment) (address : ℕ) → part.address ≤ address → address < part.address + part.size → covers part address ≡ true
covers_at part address low high = grind (arith, nat_tests)

in_order_apart : (parts : List Segment) → ((address : ℕ) → count_by (λ part. covers part address) parts ≤ 1)
    → All (λ part. 0 < part.size) parts → IsNonDecreasingBy (λ part. part.address) parts → AreApart parts
in_order_apart parts once some rises = record {
  ends = λ i k d before below.
      let first = get_or parts i d in
      let second = get_or parts k d in
      let order : first.address ≤ second.address = rises i k d (omega arith) below in
      let size : 0 < second.size = some k d below in
      elim (cases_lt second.address (first.address + first.size)) [
        | inl shared ↦
            let twice = covered_twice parts second.address i k d before below (covers_at first second.address order shared)
            (covers_at second second.address (omega arith) (omega arith)) in
            let most = once second.address in
            absurd (omega (arith, twice, most))
        | inr past ↦ past
      ];
}

pub loaded_kept : (image : ImageData) (parts : List Segment) → IsLawful image → IsPermutation (map filled (filter has_addresses image.memory)) parts
    → IsNonDecreasingBy (λ part. part.address) parts → IsKept parts
loaded_kept image parts lawful moved rises =
    let made = map filled (filter has_addresses image.memory) in
    let members = All-filter has_addresses IsSegment image.memory lawful.segments in
    record {
      full = All-permutation IsFull made parts moved (All-map IsFull filled (filter has_addresses image.memory) (λ k d inside. filled_full _ (members k d inside)));
      apart =
          in_order_apart parts
          (λ address. let count = count_parts image.memory parts address lawful.segments moved in let one = lawful.apart address in omega (arith, count, one))
          (All-permutation (λ part. 0 < part.size) made parts moved
          (All-map (λ part. 0 < part.size) filled (filter has_addresses image.memory)
          (λ k d inside. ltb-true 0 _ (filter_passes has_addresses image.memory k d inside))))
          rises;
    }
