-- Totals that the test of multipliers forms: each step, and that none leaves 128 bits.
use Rattle.std.proofs.Common.{◌≡◌, ℕ, zero, suc, ◌+◌, ◌-◌, ◌*◌, ◌/◌, ◌^◌, ◌<◌, ◌≤◌, List, [], ◌∷◌, ◌++◌, length, get_or, take, ℤ, pos, negsuc, neg_ℤ, ◌+ℤ◌, ◌-ℤ◌, ◌*ℤ◌, ◌≤ℤ◌, ◌<ℤ◌, unsigned_abs, leb, true, refl, arith}
use Rattle.std.proofs.lemmas.Bool.{leb-true, le-leb}
use Rattle.std.proofs.lemmas.Int.{ints}
use Rattle.std.proofs.lemmas.List.{take_more}
use Rattle.std.proofs.lemmas.List.Sums.{sum_by_more, sum_by-take-le}
use Rattle.std.proofs.Math.Nat.{mul-le-mul_left}
use Rattle.std.specs.List.{sum_by}
use Rattle.whole_rows.specs.Rows.{product_sum}
use Rattle.whole_rows.specs.Columns.{terms_sum}
use Rattle.whole_rows.specs.declared.RowTerm.{RowTerm}

-- ---- one term more

terms_sum_push : (terms : List RowTerm) (term : RowTerm) (multipliers : List ℕ) → terms_sum (terms ++ term ∷ []) multipliers ≡ terms_sum terms multipliers +ℤ term.entry *ℤ pos (get_or multipliers (term.row) 0)
terms_sum_push [] term multipliers = omega (arith, ints)
terms_sum_push (first ∷ terms) term multipliers = omega (arith, ints, terms_sum_push terms term multipliers)

pub terms_sum_more : (terms : List RowTerm) (i : ℕ) (d : RowTerm) (multipliers : List ℕ) → i < length terms → terms_sum (take (i + 1) terms) multipliers ≡ terms_sum (take i terms) multipliers +ℤ (get_or terms i d).entry *ℤ pos (get_or multipliers ((get_or terms i d).row) 0)
terms_sum_more terms i d multipliers h = rw (take_more terms i d h) (terms_sum_push (take i terms) (get_or terms i d) multipliers)

pub product_sum_more : (xs : List ℤ) (ns : List ℕ) (i : ℕ) → i < length xs → product_sum (take (i + 1) xs) ns ≡ product_sum (take i xs) ns +ℤ get_or xs i (pos 0) *ℤ pos (get_or ns i 0)
product_sum_more [] ns i h = absurd (omega arith)
product_sum_more (x ∷ xs) [] zero h = omega (arith, ints)
product_sum_more (x ∷ xs) [] (suc i) h = let e : suc i + 1 ≡ suc (i + 1) = omega arith in rw e (omega (arith, ints))
product_sum_more (x ∷ xs) (n ∷ ns) zero h = omega (arith, ints)
product_sum_more (x ∷ xs) (n ∷ ns) (suc i) h =
    let e : suc i + 1 ≡ suc (i + 1) = omega arith in
    let rest = product_sum_more xs ns i (omega arith) in
    rw e (omega (arith, ints))

-- ---- the product of a number with its sign apart

pub product_negative : (x : ℤ) (n : ℕ) → x <ℤ pos 0 → x *ℤ pos n ≡ neg_ℤ (pos (unsigned_abs x * n))
product_negative (pos a) n h = absurd (omega (arith, ints))
product_negative (negsuc a) n h = refl

pub product_positive : (x : ℤ) (n : ℕ) → pos 0 ≤ℤ x → x *ℤ pos n ≡ pos (unsigned_abs x * n)
product_positive (pos a) n h = refl
product_positive (negsuc a) n h = absurd (omega (arith, ints))

-- ---- sizes

-- a size times a multiplier, beside what the sizes so far allow
pub total_more : (so_far total size multiplier : ℕ) → total ≤ so_far * (2 ^ 80 - 1) → multiplier < 2 ^ 80 → total + size * multiplier ≤ (so_far + size) * (2 ^ 80 - 1)
total_more so_far total size multiplier h k =
    let most : multiplier ≤ 2 ^ 80 - 1 = omega arith in
    omega (arith, mul-le-mul_left size most)

pub total_small : (sizes total : ℕ) → total ≤ sizes * (2 ^ 80 - 1) → sizes < 2 ^ 40 → total < 2 ^ 120
total_small sizes total h k = omega arith

-- ---- the quotient against the bound

pub quotient_below : (total denominator bound : ℕ) → 0 < denominator → total / denominator ≤ bound → total < denominator * (bound + 1)
quotient_below total denominator bound above h = omega (arith, mul-le-mul_left denominator h)

pub quotient_above : (total denominator bound : ℕ) → 0 < denominator → bound < total / denominator → denominator * (bound + 1) ≤ total
quotient_above total denominator bound above h =
    let more : bound + 1 ≤ total / denominator = omega arith in omega (arith, mul-le-mul_left denominator more)

-- ---- the two sides of a column's sum

-- the sides after the first i terms
abbrev pub AreSides : List RowTerm → List ℕ → ℕ → ℕ → ℕ → Type 0
AreSides terms multipliers i more less =
    (terms_sum (take i terms) multipliers ≡ pos more -ℤ pos less) × (more + less ≤ sum_by (λ (t : RowTerm). unsigned_abs t.entry) (take i terms) * (2 ^ 80 - 1))

pub sides_less : (terms : List RowTerm) (i : ℕ) (d : RowTerm) (multipliers : List ℕ) (more less size m : ℕ) → i < length terms → size ≡ unsigned_abs (get_or terms i d).entry → m ≡ get_or multipliers ((get_or terms i d).row) 0 → m < 2 ^ 80 → (get_or terms i d).entry <ℤ pos 0 → AreSides terms multipliers i more less → AreSides terms multipliers (i + 1) more (less + size * m)
sides_less terms i d multipliers more less size m h is_size is_m small negative so_far =
    let product = product_negative (get_or terms i d).entry (get_or multipliers ((get_or terms i d).row) 0) negative in
    let sum = so_far.0 in
    let sizes = total_more (sum_by (λ (t : RowTerm). unsigned_abs t.entry) (take i terms)) (more + less) size m so_far.1 small in
    (rw (terms_sum_more terms i d multipliers h, product, ← is_size, ← is_m) (omega (arith, ints)), rw (sum_by_more (λ (t : RowTerm). unsigned_abs t.entry) terms i d h, ← is_size) (omega arith))

pub sides_more : (terms : List RowTerm) (i : ℕ) (d : RowTerm) (multipliers : List ℕ) (more less size m : ℕ) → i < length terms → size ≡ unsigned_abs (get_or terms i d).entry → m ≡ get_or multipliers ((get_or terms i d).row) 0 → m < 2 ^ 80 → pos 0 ≤ℤ (get_or terms i d).entry → AreSides terms multipliers i more less → AreSides terms multipliers (i + 1) (more + size * m) less
sides_more terms i d multipliers more less size m h is_size is_m small positive so_far =
    let product = product_positive (get_or terms i d).entry (get_or multipliers ((get_or terms i d).row) 0) positive in
    let sum = so_far.0 in
    let sizes = total_more (sum_by (λ (t : RowTerm). unsigned_abs t.entry) (take i terms)) (more + less) size m so_far.1 small in
    (rw (terms_sum_more terms i d multipliers h, product, ← is_size, ← is_m) (omega (arith, ints)), rw (sum_by_more (λ (t : RowTerm). unsigned_abs t.entry) terms i d h, ← is_size) (omega arith))

-- and both stay small
pub sides_small : (terms : List RowTerm) (i : ℕ) (multipliers : List ℕ) (more less : ℕ) → sum_by (λ (t : RowTerm). unsigned_abs t.entry) terms < 2 ^ 40 → AreSides terms multipliers i more less → more + less < 2 ^ 120
sides_small terms i multipliers more less h sides =
    total_small (sum_by (λ (t : RowTerm). unsigned_abs t.entry) (take i terms)) (more + less) sides.1 (omega (arith, sum_by-take-le (λ (t : RowTerm). unsigned_abs t.entry) terms i))

-- ---- the total over right sides

-- the total over the first i right sides
abbrev pub IsTotal : List ℤ → List ℕ → ℕ → ℕ → Type 0
IsTotal rights multipliers i total =
    (product_sum (take i rights) multipliers ≡ pos total) × (total ≤ sum_by unsigned_abs (take i rights) * (2 ^ 80 - 1))

pub one_more : (rights : List ℤ) (i : ℕ) (multipliers : List ℕ) (total size m : ℕ) → i < length rights → size ≡ unsigned_abs (get_or rights i (pos 0)) → m ≡ get_or multipliers i 0 → m < 2 ^ 80 → pos 0 ≤ℤ get_or rights i (pos 0) → IsTotal rights multipliers i total → IsTotal rights multipliers (i + 1) (total + size * m)
one_more rights i multipliers total size m h is_size is_m small positive so_far =
    let product = product_positive (get_or rights i (pos 0)) (get_or multipliers i 0) positive in
    let sizes = total_more (sum_by unsigned_abs (take i rights)) total size m so_far.1 small in
    (rw (product_sum_more rights multipliers i h, product, ← is_size, ← is_m, so_far.0) refl, rw (sum_by_more unsigned_abs rights i (pos 0) h, ← is_size) sizes)

pub total_fits : (rights : List ℤ) (i : ℕ) (multipliers : List ℕ) (total : ℕ) → sum_by unsigned_abs rights < 2 ^ 40 → IsTotal rights multipliers i total → total < 2 ^ 120
total_fits rights i multipliers total h is =
    total_small (sum_by unsigned_abs (take i rights)) total is.1 (omega (arith, sum_by-take-le unsigned_abs rights i))

-- ---- the tests

pub nat_product : (n : ℕ) (x : ℤ) → pos 0 ≤ℤ x → pos n *ℤ x ≡ pos (n * unsigned_abs x)
nat_product n (pos a) h = refl
nat_product n (negsuc a) h = absurd (omega (arith, ints))

-- a test of naturals is the test of the whole numbers that they stand for
pub covered_iff : (needed less more : ℕ) (left sum : ℤ) → left ≡ pos needed → sum ≡ pos more -ℤ pos less → (leb (needed + less) more ≡ true → left ≤ℤ sum) × (left ≤ℤ sum → leb (needed + less) more ≡ true)
covered_iff needed less more left sum e f =
    (λ t. let l = leb-true (needed + less) more t in omega (arith, ints), λ h. le-leb (needed + less) more (omega (arith, ints)))
