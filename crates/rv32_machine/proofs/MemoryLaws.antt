-- Parts of memory, and the first one that covers an address.
use Rattle.std.proofs.Common.{◌≡◌, ℕ, zero, suc, ◌+◌, ◌-◌, ◌<◌, ◌≤◌, ◌^◌, All, subst, Bool, true, false, cond, List, [], ◌∷◌, length, set, get_or, Option, Some, None, arith, refl, sym, ap, ◌∙◌, inl, inr}
use Rattle.std.specs.Prelude.{◌==◌}
use Rattle.std.proofs.lemmas.Bool.Decides.{nat_tests, eqb_tells}
use Rattle.std.proofs.lemmas.List.{get_or-set_same, get_or-set_other, length-set}
use std.Path.{fun_ext}
use Rattle.std.specs.List.Sorted.{IsNonDecreasingBy}
use Rattle.std.proofs.Math.Nat.{eq-or-lt_of_le}
use Rattle.std.proofs.lemmas.Option.{same_Some, none-some}
use Rattle.std.specs.Option.{option_map}
use Rattle.std.proofs.lemmas.Bool.{cond-true, cond-false, cases_Bool, cases_lt, eqb-true, both_ways, false_from_ne_true}
use Rattle.elf_image.specs.Image.{covers, byte_in}
use Rattle.elf_image.specs.declared.image.Segment.{Segment}
use Rattle.rv32_machine.specs.Memory.{memory_of, BytesFit, StoresFit, after_store, after_stores}
use Rattle.rv32_machine.specs.Working.Parts.{IsFull, IsFirstCovering, CoversNone, AreApart, IsKept, with_byte, stored_at}

-- what holds of each member holds of each but the first
tail_of : {X : Type 0} (P : X → Type 0) (x : X) (xs : List X) → All P (x ∷ xs) → All P xs
tail_of P x xs h = λ i d below. h (suc i) d (omega arith)

pub memory_at : (parts : List Segment) (address i : ℕ) → IsFirstCovering parts address i → (d : Segment)
    → memory_of parts address ≡ Some (byte_in (get_or parts i d) address)
memory_at [] address i first d = absurd (omega (arith, first.within))
memory_at (part ∷ others) address zero first d = cond-true (covers part address) (Some (byte_in part address)) (memory_of others address) (first.covered d)
memory_at (part ∷ others) address (suc i) first d =
    cond-false (covers part address) (Some (byte_in part address)) (memory_of others address) (first.earlier 0 (omega arith) d)
    ∙ memory_at others address i (record { within = omega (arith, first.within); covered = first.covered; earlier = λ k h. first.earlier (suc k) (omega (arith, h)) }) d

pub memory_none : (parts : List Segment) (address : ℕ) → CoversNone parts address → memory_of parts address ≡ None
memory_none [] address h = refl
memory_none (part ∷ others) address h =
    cond-false (covers part address) (Some (byte_in part address)) (memory_of others address) (h.none 0 (omega arith) part)
    ∙ memory_none others address (record { none = λ k below. h.none (suc k) (omega (arith, below)) })

pub stored_first : (parts : List Segment) (address value i : ℕ) → IsFirstCovering parts address i → (d : Segment)
    → stored_at parts address value ≡ set parts i (with_byte (get_or parts i d) address value)
stored_first [] address value i first d = absurd (omega (arith, first.within))
stored_first (part ∷ others) address value zero first d =
    cond-true (covers part address) (with_byte part address value ∷ others) (part ∷ stored_at others address value) (first.covered d)
stored_first (part ∷ others) address value (suc i) first d =
    cond-false (covers part address) (with_byte part address value ∷ others) (part ∷ stored_at others address value) (first.earlier 0 (omega arith) d)
    ∙ ap (λ rest. part ∷ rest) (stored_first others address value i (record { within = omega (arith, first.within); covered = first.covered; earlier = λ k h. first.earlier (suc k) (omega (arith, h)) }) d)

pub stored_none : (parts : List Segment) (address value : ℕ) → CoversNone parts address → stored_at parts address value ≡ parts
stored_none [] address value h = refl
stored_none (part ∷ others) address value h =
    cond-false (covers part address) (with_byte part address value ∷ others) (part ∷ stored_at others address value) (h.none 0 (omega arith) part)
    ∙ ap (λ rest. part ∷ rest) (stored_none others address value (record { none = λ k below. h.none (suc k) (omega (arith, below)) }))

-- ---- What a store leaves

-- what a test of covering says
covers_says : (part : Segment) (address : ℕ) → covers part address ≡ true → (part.address ≤ address) × (address < part.address + part.size)
covers_says part address h = (grind (arith, nat_tests), grind (arith, nat_tests))

-- two addresses of which one is covered and the other isn't differ
apart : (part : Segment) (a b : ℕ) → covers part a ≡ true → covers part b ≡ false → (b == a) ≡ false
apart part a b p q = false_from_ne_true (b == a) (λ e. both_ways (covers part b) q (ap (covers part) (eqb-true b a e) ∙ p))

apart_turned : (part : Segment) (a b : ℕ) → covers part a ≡ false → covers part b ≡ true → (b == a) ≡ false
apart_turned part a b p q = false_from_ne_true (b == a) (λ e. both_ways (covers part a) p (ap (covers part) (sym (eqb-true b a e)) ∙ q))

byte-with_byte : (part : Segment) (a value b : ℕ) → IsFull part → covers part a ≡ true → covers part b ≡ true
    → Some (byte_in (with_byte part a value) b) ≡ cond (b == a) (Some value) (Some (byte_in part b))
byte-with_byte part a value b full p q =
    let in_a = covers_says part a p in
    let in_b = covers_says part b q in
    let kept : length part.bytes ≡ part.size = full.kept in
    elim (eqb_tells b a) as (λ _. Some (byte_in (with_byte part a value) b) ≡ cond (b == a) (Some value) (Some (byte_in part b))) [
      | inl same ↦
          ap (λ n. Some (byte_in (with_byte part a value) n)) same.1
          ∙ ap (λ n. Some n) (get_or-set_same part.bytes (a - part.address) value 0 (omega arith))
          ∙ sym (cond-true (b == a) (Some value) (Some (byte_in part b)) same.0)
      | inr other ↦
          ap (λ n. Some n) (get_or-set_other part.bytes (a - part.address) (b - part.address) value 0 (λ e. other.1 (omega (arith, e, in_a.0, in_b.0))))
          ∙ sym (cond-false (b == a) (Some value) (Some (byte_in part b)) other.0)
    ]

either_none : (b : Bool) (v : ℕ) → cond b (option_map (λ (_ : ℕ). v) None) None ≡ None
either_none true v = refl
either_none false v = refl

-- what a store makes of the byte at an address, by whether the address is the store's
changed : Bool → ℕ → Option ℕ → Option ℕ
changed here value found = cond here (option_map (λ _. value) found) found

pub memory-stored : (parts : List Segment) (a value b : ℕ) → All IsFull parts → memory_of (stored_at parts a value) b ≡ after_store (memory_of parts) (a, value) b
unfolding changed
memory-stored [] a value b full = sym (either_none (b == a) value)
memory-stored (part ∷ others) a value b full =
    let now = stored_at (part ∷ others) a value in
    let found : covers part b ≡ true → memory_of (part ∷ others) b ≡ Some (byte_in part b) =
    λ q. cond-true (covers part b) (Some (byte_in part b)) (memory_of others b) q in
    let passed : covers part b ≡ false → memory_of (part ∷ others) b ≡ memory_of others b =
    λ q. cond-false (covers part b) (Some (byte_in part b)) (memory_of others b) q in
    elim (cases_Bool (covers part a)) as (λ _. memory_of now b ≡ after_store (memory_of (part ∷ others)) (a, value) b) [
      | inl p ↦
          let first : memory_of now b ≡ memory_of (with_byte part a value ∷ others) b =
          ap (λ ps. memory_of ps b) (cond-true (covers part a) (with_byte part a value ∷ others) (part ∷ stored_at others a value) p) in
          elim (cases_Bool (covers part b)) as (λ _. memory_of now b ≡ after_store (memory_of (part ∷ others)) (a, value) b) [
            | inl q ↦
                first
                ∙ cond-true (covers (with_byte part a value) b) (Some (byte_in (with_byte part a value) b)) (memory_of others b) q
                ∙ byte-with_byte part a value b (full 0 part (omega arith)) p q
                ∙ ap (changed (b == a) value) (sym (found q))
            | inr q ↦
                first
                ∙ cond-false (covers (with_byte part a value) b) (Some (byte_in (with_byte part a value) b)) (memory_of others b) q
                ∙ sym (passed q)
                ∙ sym (cond-false (b == a) (option_map (λ _. value) (memory_of (part ∷ others) b)) (memory_of (part ∷ others) b) (apart part a b p q))
          ]
      | inr p ↦
          let first : memory_of now b ≡ memory_of (part ∷ stored_at others a value) b =
          ap (λ ps. memory_of ps b) (cond-false (covers part a) (with_byte part a value ∷ others) (part ∷ stored_at others a value) p) in
          elim (cases_Bool (covers part b)) as (λ _. memory_of now b ≡ after_store (memory_of (part ∷ others)) (a, value) b) [
            | inl q ↦
                first
                ∙ cond-true (covers part b) (Some (byte_in part b)) (memory_of (stored_at others a value) b) q
                ∙ sym (found q)
                ∙ sym (cond-false (b == a) (option_map (λ _. value) (memory_of (part ∷ others) b)) (memory_of (part ∷ others) b) (apart_turned part a b p q))
            | inr q ↦
                first
                ∙ cond-false (covers part b) (Some (byte_in part b)) (memory_of (stored_at others a value) b) q
                ∙ memory-stored others a value b (tail_of IsFull part others full)
                ∙ ap (changed (b == a) value) (sym (passed q))
          ]
    ]

-- the same of the whole memory
pub memory_of-stored_at : (parts : List Segment) (a value : ℕ) → All IsFull parts → memory_of (stored_at parts a value) ≡ after_store (memory_of parts) (a, value)
memory_of-stored_at parts a value full = fun_ext (λ b. memory-stored parts a value b full)

pub two_stores : (m : ℕ → Option ℕ) (m1 m2 : ℕ → Option ℕ) (s1 s2 : ℕ × ℕ) → m1 ≡ after_store m s1 → m2 ≡ after_store m1 s2
    → m2 ≡ after_stores m (s1 ∷ s2 ∷ [])
two_stores m m1 m2 s1 s2 p q = q ∙ ap (λ (n : ℕ → Option ℕ). after_store n s2) p

pub four_stores : (m : ℕ → Option ℕ) (m1 m2 m3 m4 : ℕ → Option ℕ) (s1 s2 s3 s4 : ℕ × ℕ) → m1 ≡ after_store m s1 → m2 ≡ after_store m1 s2
    → m3 ≡ after_store m2 s3 → m4 ≡ after_store m3 s4 → m4 ≡ after_stores m (s1 ∷ s2 ∷ s3 ∷ s4 ∷ [])
four_stores m m1 m2 m3 m4 s1 s2 s3 s4 p q r t =
    two_stores m2 m3 m4 s3 s4 r t ∙ ap (λ (n : ℕ → Option ℕ). after_stores n (s3 ∷ s4 ∷ [])) (two_stores m m1 m2 s1 s2 p q)

-- ---- The part that covers an address, where the parts are apart

covers_not : (part : Segment) (address : ℕ) → part.address + part.size ≤ address → covers part address ≡ false
covers_not part address h = grind (arith, nat_tests)

covers_before : (part : Segment) (address : ℕ) → address < part.address → covers part address ≡ false
covers_before part address h = grind (arith, nat_tests)

-- a part that begins by the address hides none before it
ends_before : (parts : List Segment) (address i k : ℕ) (d : Segment) → AreApart parts → i < length parts → (get_or parts i d).address ≤ address → k < i
    → covers (get_or parts k d) address ≡ false
ends_before parts address i k d apart within begun below =
    let ends = apart.ends k i d below within in covers_not (get_or parts k d) address (omega arith)

pub first_found : (parts : List Segment) (address i : ℕ) → AreApart parts → i < length parts
    → ((d : Segment) → covers (get_or parts i d) address ≡ true) → IsFirstCovering parts address i
first_found parts address i apart within covered = record {
  within = within;
  covered = covered;
  earlier = λ k below d. ends_before parts address i k d apart within (covers_says (get_or parts i d) address (covered d)).0 below;
}

pub none_before : (parts : List Segment) (address : ℕ) → ((i : ℕ) (d : Segment) → i < length parts → address < (get_or parts i d).address) → CoversNone parts address
none_before parts address later = record { none = λ k below d. covers_before (get_or parts k d) address (later k d below) }

pub none_found : (parts : List Segment) (address count : ℕ) → AreApart parts → 0 < count → count ≤ length parts
    → ((d : Segment) → covers (get_or parts (count - 1) d) address ≡ false)
    → ((d : Segment) → (get_or parts (count - 1) d).address ≤ address)
    → ((i : ℕ) (d : Segment) → count ≤ i → i < length parts → address < (get_or parts i d).address) → CoversNone parts address
none_found parts address count apart some within out begun later = record {
  none = λ k below d. elim (cases_lt k (count - 1)) [
    | inl before ↦ ends_before parts address (count - 1) k d apart (omega arith) (begun d) before
    | inr after ↦ elim (cases_lt (count - 1) k) [
      | inl past ↦ covers_before (get_or parts k d) address (later k d (omega arith) below)
      | inr here ↦ let e : count - 1 ≡ k = omega arith in subst (λ (n : ℕ). covers (get_or parts n d) address ≡ false) e (out d)
    ]
  ];
}

-- ---- A store keeps what a store of parts keeps

set_below : (bytes : List ℕ) (n value : ℕ) → ((k : ℕ) → get_or bytes k 0 < 2 ^ 8) → value < 2 ^ 8 → (k : ℕ) → get_or (set bytes n value) k 0 < 2 ^ 8
set_below [] n value fits small k = fits k
set_below (byte ∷ bytes) zero value fits small zero = small
set_below (byte ∷ bytes) zero value fits small (suc k) = fits (suc k)
set_below (byte ∷ bytes) (suc n) value fits small zero = fits 0
set_below (byte ∷ bytes) (suc n) value fits small (suc k) = set_below bytes n value (λ i. fits (suc i)) small k

full-with_byte : (part : Segment) (address value : ℕ) → IsFull part → value < 2 ^ 8 → IsFull (with_byte part address value)
full-with_byte part address value full small = record {
  kept = length-set part.bytes (address - part.address) value ∙ full.kept;
  bytes = set_below part.bytes (address - part.address) value full.bytes small;
}

-- the same place and size
pub record IsSameSpan (one other : Segment) : Type 0 where
  pub address : one.address ≡ other.address
  pub size : one.size ≡ other.size

same_span : (part : Segment) → IsSameSpan part part
same_span part = record { address = refl; size = refl }

-- what is said of one or the other part holds of what a test chooses
chosen : (b : Bool) (one other : List Segment) (P : List Segment → Type 0) → P one → P other → P (cond b one other)
chosen true one other P p q = p
chosen false one other P p q = q

length-stored_at : (parts : List Segment) (address value : ℕ) → length (stored_at parts address value) ≡ length parts
length-stored_at [] address value = refl
length-stored_at (part ∷ others) address value =
    chosen (covers part address) (with_byte part address value ∷ others) (part ∷ stored_at others address value) (λ ps. length ps ≡ length (part ∷ others))
    refl (ap (λ n. suc n) (length-stored_at others address value))

span-stored_at : (parts : List Segment) (address value i : ℕ) (d : Segment) → IsSameSpan (get_or (stored_at parts address value) i d) (get_or parts i d)
span-stored_at [] address value i d = same_span d
span-stored_at (part ∷ others) address value zero d =
    chosen (covers part address) (with_byte part address value ∷ others) (part ∷ stored_at others address value) (λ ps. IsSameSpan (get_or ps 0 d) part)
    (record { address = refl; size = refl }) (same_span part)
span-stored_at (part ∷ others) address value (suc i) d =
    chosen (covers part address) (with_byte part address value ∷ others) (part ∷ stored_at others address value)
    (λ ps. IsSameSpan (get_or ps (suc i) d) (get_or others i d)) (same_span (get_or others i d)) (span-stored_at others address value i d)

full-stored_at : (parts : List Segment) (address value i : ℕ) (d : Segment) → All IsFull parts → value < 2 ^ 8 → i < length parts
    → IsFull (get_or (stored_at parts address value) i d)
full-stored_at [] address value i d full small below = absurd (omega arith)
full-stored_at (part ∷ others) address value zero d full small below =
    chosen (covers part address) (with_byte part address value ∷ others) (part ∷ stored_at others address value) (λ ps. IsFull (get_or ps 0 d))
    (full-with_byte part address value (full 0 part (omega arith)) small) (full 0 part (omega arith))
full-stored_at (part ∷ others) address value (suc i) d full small below =
    chosen (covers part address) (with_byte part address value ∷ others) (part ∷ stored_at others address value) (λ ps. IsFull (get_or ps (suc i) d))
    (full (suc i) d below) (full-stored_at others address value i d (tail_of IsFull part others full) small (omega arith))

pub kept-stored_at : (parts : List Segment) (address value : ℕ) → IsKept parts → value < 2 ^ 8 → IsKept (stored_at parts address value)
kept-stored_at parts address value kept small =
    let same : length (stored_at parts address value) ≡ length parts = length-stored_at parts address value in
    record {
      full = λ i d below. full-stored_at parts address value i d kept.full small (omega arith);
      apart = record {
        ends = λ i k d before below.
            let ends = kept.apart.ends i k d before (omega arith) in
            let first = span-stored_at parts address value i d in
            let second = span-stored_at parts address value k d in
            omega arith;
      };
    }

-- ---- Memory holds bytes

byte_of_full : (parts : List Segment) → All IsFull parts → (address byte : ℕ) → memory_of parts address ≡ Some byte → byte < 2 ^ 8
byte_of_full [] full address byte found = absurd (none-some byte found)
byte_of_full (part ∷ others) full address byte found =
    elim (cases_Bool (covers part address)) as (λ _. byte < 2 ^ 8) [
      | inl p ↦
          let here : byte_in part address ≡ byte =
          same_Some (byte_in part address) byte (sym (cond-true (covers part address) (Some (byte_in part address)) (memory_of others address) p) ∙ found) in
          subst (λ (n : ℕ). n < 2 ^ 8) here ((full 0 part (omega arith)).bytes (address - part.address))
      | inr p ↦
          byte_of_full others (tail_of IsFull part others full) address byte
          (sym (cond-false (covers part address) (Some (byte_in part address)) (memory_of others address) p) ∙ found)
    ]

pub bytes_fit : (parts : List Segment) → IsKept parts → BytesFit (memory_of parts)
bytes_fit parts kept = record { fits = byte_of_full parts kept.full }

changed_below : (here : Bool) (value : ℕ) (found : Option ℕ) (byte : ℕ) → value < 2 ^ 8 → ((b : ℕ) → found ≡ Some b → b < 2 ^ 8)
    → cond here (option_map (λ _. value) found) found ≡ Some byte → byte < 2 ^ 8
changed_below true value None byte small fits e = absurd (none-some byte e)
changed_below true value (Some x) byte small fits e = subst (λ (n : ℕ). n < 2 ^ 8) (same_Some value byte e) small
changed_below false value found byte small fits e = fits byte e

store_fits : (memory : ℕ → Option ℕ) (stored : ℕ × ℕ) → BytesFit memory → stored.1 < 2 ^ 8 → BytesFit (after_store memory stored)
store_fits memory stored fits small = record {
  fits = λ address byte e. changed_below (address == stored.0) stored.1 (memory address) byte small (fits.fits address) e;
}

-- memory after bytes are stored holds bytes
pub stores_fit : (memory : ℕ → Option ℕ) (stored : List (ℕ × ℕ)) → BytesFit memory → StoresFit stored → BytesFit (after_stores memory stored)
stores_fit memory [] fits small = fits
stores_fit memory (one ∷ others) fits small =
    stores_fit (after_store memory one) others (store_fits memory one fits (small 0 one (omega arith))) (tail_of (λ one. one.1 < 2 ^ 8) one others small)

-- parts that are apart are in the order of their addresses
pub apart_rise : (parts : List Segment) → AreApart parts → IsNonDecreasingBy (λ (part : Segment). part.address) parts
apart_rise parts apart = λ i k d order below. elim (eq-or-lt_of_le order) [
  | inl same ↦ let e : i ≡ k = same in subst (λ (n : ℕ). (get_or parts i d).address ≤ (get_or parts n d).address) e (omega arith)
  | inr before ↦ let ends = apart.ends i k d before below in omega arith
]
