-- Rows of whole numbers: the range of an entry, the combination of two rows, and the greatest common divisor of a row.
use Rattle.std.specs.Prelude.{◌≡◌, ℕ, zero, suc, ◌-◌, ◌%◌, ◌^◌, ◌<◌, ◌==◌, Bool, cond, List, [], ◌∷◌, map, ℤ, pos, negsuc, ◌-ℤ◌, ◌*ℤ◌, unsigned_abs, int_lt, int_div, nat_lt, All, Result, Ok, Err, Option, Some, position, refl}
use Rattle.whole_rows.specs.declared.row.RowFault.{RowFault}
use Rattle.whole_rows.specs.declared.row.RowFault.TheVariants.{Wide, Memory}

-- an entry of a row lies between -(2^127 - 1) and 2^127 - 1
abbrev pub IsInRange : ℤ → Type 0
IsInRange z = unsigned_abs z < 2 ^ 127

abbrev pub is_in_range : ℤ → Bool
is_in_range z = nat_lt (unsigned_abs z) (2 ^ 127)

abbrev pub AreInRange : List ℤ → Type 0
AreInRange row = All IsInRange row

-- an entry of a narrow row
abbrev pub IsNarrow : ℤ → Type 0
IsNarrow z = unsigned_abs z < 2 ^ 31

-- ---- the combination of two rows

-- `p * x - a * y`; or, where a product or the difference leaves the range, the factors of the first such product,
-- else the two products
abbrev pub combined_entry : ℤ → ℤ → ℤ → ℤ → Result ℤ (ℤ × ℤ)
combined_entry p x a y =
    cond (is_in_range (p *ℤ x))
    (cond (is_in_range (a *ℤ y))
    (cond (is_in_range (p *ℤ x -ℤ a *ℤ y)) (Ok (p *ℤ x -ℤ a *ℤ y)) (Err (p *ℤ x, a *ℤ y)))
    (Err (a, y)))
    (Err (p, x))

-- the answer of a call that forms one entry
abbrev pub IsCombinedEntry : Result ℤ (ℤ × ℤ) → Result ℤ RowFault → Type 0
IsCombinedEntry expected (Ok entry) = expected ≡ Ok entry
IsCombinedEntry expected (Err (Wide a b)) = expected ≡ Err (a, b)
IsCombinedEntry expected (Err Memory) = ⊥

-- an entry before the entries that follow it; of two pairs the first one stands
abbrev pub cons_entry : Result ℤ (ℤ × ℤ) → Result (List ℤ) (ℤ × ℤ) → Result (List ℤ) (ℤ × ℤ)
cons_entry (Err wide) rest = Err wide
cons_entry (Ok entry) (Err wide) = Err wide
cons_entry (Ok entry) (Ok entries) = Ok (entry ∷ entries)

-- at each place `p` times the row's entry less `a` times the other row's, or the pair of the first place that has one
abbrev pub combination : List ℤ → ℤ → List ℤ → ℤ → Result (List ℤ) (ℤ × ℤ)
combination [] p other a = Ok []
combination (x ∷ row) p [] a = Ok []
combination (x ∷ row) p (y ∷ other) a = cons_entry (combined_entry p x a y) (combination row p other a)

-- the answer of a call that forms a combination: the row, or the pair, or want of memory at any time
abbrev pub IsCombination : Result (List ℤ) (ℤ × ℤ) → Result (List ℤ) RowFault → Type 0
IsCombination expected (Ok row) = expected ≡ Ok row
IsCombination expected (Err (Wide a b)) = expected ≡ Err (a, b)
IsCombination expected (Err Memory) = Unit {0}

-- ---- the greatest common divisor

-- Euclid's algorithm in at most `steps` steps
unfoldable pub gcd_within : ℕ → ℕ → ℕ → ℕ
gcd_within zero x y = x
gcd_within (suc steps) x zero = x
gcd_within (suc steps) x (suc y) = gcd_within steps (suc y) (x % suc y)

-- the greatest common divisor of two natural numbers, 0 for two zeros; each remainder is less than the number before it
abbrev pub nat_gcd : ℕ → ℕ → ℕ
nat_gcd x y = gcd_within (suc y) x y

-- of two whole numbers: that of their sizes
abbrev pub gcd_of : ℤ → ℤ → ℕ
gcd_of a b = nat_gcd (unsigned_abs a) (unsigned_abs b)

-- of all entries of a row, 0 for a row of zeros
abbrev pub divisor_of : List ℤ → ℕ
divisor_of [] = 0
divisor_of (x ∷ row) = nat_gcd (unsigned_abs x) (divisor_of row)

-- the entries divided by a number; 0 divides nothing, and the row stays
abbrev pub divided_by : ℕ → List ℤ → List ℤ
divided_by zero row = row
divided_by (suc n) row = map (λ x. int_div x (pos (suc n))) row

-- the entries divided by their greatest common divisor; a row of zeros stays
abbrev pub primitive_of : List ℤ → List ℤ
primitive_of row = divided_by (divisor_of row) row

-- ---- the first negative entry

abbrev pub is_zero : ℤ → Bool
is_zero x = unsigned_abs x == 0

abbrev pub first_negative_of : List ℤ → Option ℕ
first_negative_of row = position (λ x. int_lt x (pos 0)) row

-- ---- worked cases

combined_case : combination (pos 2 ∷ pos 4 ∷ []) (pos 3) (pos 1 ∷ pos 1 ∷ []) (pos 2) ≡ Ok (pos 4 ∷ pos 10 ∷ [])
combined_case = refl

-- the product of the first place leaves the range: its factors
wide_case : combination (negsuc (2 ^ 100 - 1) ∷ pos 0 ∷ []) (pos (2 ^ 100)) (pos (2 ^ 100) ∷ pos 1 ∷ []) (negsuc (2 ^ 100 - 1)) ≡ Err (pos (2 ^ 100), negsuc (2 ^ 100 - 1))
wide_case = refl

-- both products are in range and their difference isn't: the products
wide_difference_case : combination (pos (2 ^ 126) ∷ []) (pos 1) (negsuc (2 ^ 126 - 1) ∷ []) (pos 1) ≡ Err (pos (2 ^ 126), negsuc (2 ^ 126 - 1))
wide_difference_case = refl

gcd_case : gcd_of (negsuc 11) (pos 18) ≡ 6
unfolding gcd_within
gcd_case = refl

primitive_case : primitive_of (pos 4 ∷ pos 10 ∷ negsuc 5 ∷ []) ≡ pos 2 ∷ pos 5 ∷ negsuc 2 ∷ []
unfolding gcd_within
primitive_case = refl

zeros_case : primitive_of (pos 0 ∷ pos 0 ∷ []) ≡ pos 0 ∷ pos 0 ∷ []
unfolding gcd_within
zeros_case = refl

negative_case : first_negative_of (pos 2 ∷ pos 5 ∷ negsuc 0 ∷ []) ≡ Some 2
negative_case = refl
