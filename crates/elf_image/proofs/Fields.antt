-- Fields of a file that is put together from parts.
use Rattle.std.proofs.Common.{◌≡◌, ℕ, zero, suc, ◌+◌, ◌*◌, ◌^◌, ◌<◌, List, ◌∷◌, ◌++◌, length, take, drop, map, refl, ◌∙◌, ap, add_assoc, arith}
use Rattle.std.specs.List.{range_with_len}
use Rattle.std.proofs.Math.Seq.{drop-append-add, drop-append_seam, take-append_seam}
use Rattle.byteorder.specs.Endian.{little_number, little_bytes}
use Rattle.elf_image.specs.Elf.{field2, field4, section_header, symbol_header, headers_from}

-- a number of four bytes reads back, and so does one of two
pub number4 : (x : ℕ) (rest : List ℕ) → x < 2 ^ 32 → little_number 4 (little_bytes 4 x ++ rest) ≡ x
number4 x rest fits = omega arith

pub field4-after : (a b : List ℕ) (k : ℕ) → field4 (a ++ b) (length a + k) ≡ field4 b k
unfolding field4
field4-after a b k = ap (little_number 4) (drop-append-add a b k)

pub field2-after : (a b : List ℕ) (k : ℕ) → field2 (a ++ b) (length a + k) ≡ field2 b k
unfolding field2
field2-after a b k = ap (little_number 2) (drop-append-add a b k)

field4-later : (a b : List ℕ) (k j : ℕ) → field4 (a ++ b) (length a + k + j) ≡ field4 b (k + j)
field4-later a b k j = ap (field4 (a ++ b)) (add_assoc (length a) k j) ∙ field4-after a b (k + j)

pub section_header-after : (a b : List ℕ) (k : ℕ) → section_header (a ++ b) (length a + k) ≡ section_header b k
unfolding section_header
section_header-after a b k =
    rw (field4-later a b k 4, field4-later a b k 8, field4-later a b k 12, field4-later a b k 16, field4-later a b k 20, field4-later a b k 24, field4-later a b k 36) refl

pub symbol_header-after : (a b : List ℕ) → symbol_header (a ++ b) (length a) ≡ symbol_header b 0
unfolding symbol_header
symbol_header-after a b =
    let e : length a ≡ length a + 0 = omega arith in
    rw (ap (field4 (a ++ b)) e ∙ field4-after a b 0, field4-after a b 4, field2-after a b 14) refl

-- a part in the middle
pub part-after : (a b c : List ℕ) → take (length b) (drop (length a) (a ++ (b ++ c))) ≡ b
part-after a b c = ap (take (length b)) (drop-append_seam a (b ++ c)) ∙ take-append_seam b c

-- ---- a table of headers, from its first one on

map-range-suc : {X : Type 0} (f : ℕ → X) (a n : ℕ) → map f (range_with_len (a + 1) n) ≡ map (λ i. f (i + 1)) (range_with_len a n)
map-range-suc f a zero = refl
map-range-suc f a (suc n) = ap (λ xs. f (a + 1) ∷ xs) (map-range-suc f (a + 1) n)

map-range-same : {X : Type 0} (f g : ℕ → X) → ((i : ℕ) → f i ≡ g i) → (a n : ℕ) → map f (range_with_len a n) ≡ map g (range_with_len a n)
map-range-same f g same a zero = refl
map-range-same f g same a (suc n) = ap (λ x. x ∷ map f (range_with_len (a + 1) n)) (same a) ∙ ap (λ xs. g a ∷ xs) (map-range-same f g same (a + 1) n)

pub headers_from-cons : {H : Type 0} (header : ℕ → H) (place size n : ℕ) → headers_from header place size (suc n) ≡ header place ∷ headers_from header (place + size) size n
unfolding headers_from
headers_from-cons header place size n =
    let first : place + size * 0 ≡ place = omega arith in
    ap (λ p. header p ∷ map (λ i. header (place + size * i)) (range_with_len 1 n)) first
    ∙ ap (λ xs. header place ∷ xs)
    (map-range-suc (λ i. header (place + size * i)) 0 n
    ∙ map-range-same (λ i. header (place + size * (i + 1))) (λ i. header (place + size + size * i)) (λ i. ap header (next i)) 0 n)
  where
    next : (i : ℕ) → place + size * (i + 1) ≡ place + size + size * i
    next i = omega arith
