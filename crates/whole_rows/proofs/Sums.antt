-- Sums of products, by rows and by columns.
use Rattle.std.proofs.Common.{◌≡◌, ℕ, suc, ◌+◌, ◌<◌, List, [], ◌∷◌, map, length, get_or, ℤ, pos, ◌+ℤ◌, ◌*ℤ◌, ◌≤ℤ◌, refl, ap, ◌∙◌, add-zero, zero-add, arith}
use Rattle.std.proofs.lemmas.Int.{ints}
use Rattle.whole_rows.specs.Rows.{product_sum}
use Rattle.whole_rows.proofs.Whole.{mul-add, add-mul, mul_assoc, add-le-add, mul-le-mul_nat}

-- the entries from `column` on times the numbers
sum_from : ℕ → List ℤ → List ℕ → ℤ
sum_from column row [] = pos 0
sum_from column row (n ∷ u) = get_or row column (pos 0) *ℤ pos n +ℤ sum_from (suc column) row u

sum_from-none : (column : ℕ) (u : List ℕ) → sum_from column [] u ≡ pos 0
unfolding sum_from
sum_from-none column [] = refl
sum_from-none column (n ∷ u) = omega (arith, ints, sum_from-none (suc column) u)

sum_from-cons : (column : ℕ) (x : ℤ) (row : List ℤ) (u : List ℕ) → sum_from (suc column) (x ∷ row) u ≡ sum_from column row u
unfolding sum_from
sum_from-cons column x row [] = refl
sum_from-cons column x row (n ∷ u) = ap (λ (rest : ℤ). get_or row column (pos 0) *ℤ pos n +ℤ rest) (sum_from-cons (suc column) x row u)

sum_from-zero : (row : List ℤ) (u : List ℕ) → sum_from 0 row u ≡ product_sum row u
unfolding sum_from
sum_from-zero [] u = sum_from-none 0 u
sum_from-zero (x ∷ row) [] = refl
sum_from-zero (x ∷ row) (n ∷ u) = ap (λ (rest : ℤ). x *ℤ pos n +ℤ rest) (sum_from-cons 0 x row u ∙ sum_from-zero row u)

-- the sum of multiplier times entry over a column of rows
abbrev column_part : List (List ℤ) → List ℕ → ℕ → ℤ
column_part rows multipliers column = product_sum (map (λ row. get_or row column (pos 0)) rows) multipliers

-- the columns' sums from `column` on times the numbers
columns_from : List (List ℤ) → List ℕ → ℕ → List ℕ → ℤ
columns_from rows multipliers column [] = pos 0
columns_from rows multipliers column (n ∷ u) = column_part rows multipliers column *ℤ pos n +ℤ columns_from rows multipliers (suc column) u

columns_from-no_rows : (multipliers : List ℕ) (column : ℕ) (u : List ℕ) → columns_from [] multipliers column u ≡ pos 0
unfolding columns_from
columns_from-no_rows multipliers column [] = refl
columns_from-no_rows multipliers column (n ∷ u) = omega (arith, ints, columns_from-no_rows multipliers (suc column) u)

columns_from-no_multipliers : (rows : List (List ℤ)) (column : ℕ) (u : List ℕ) → columns_from rows [] column u ≡ pos 0
unfolding columns_from
columns_from-no_multipliers [] column u = columns_from-no_rows [] column u
columns_from-no_multipliers (row ∷ rows) column [] = refl
columns_from-no_multipliers (row ∷ rows) column (n ∷ u) = omega (arith, ints, columns_from-no_multipliers (row ∷ rows) (suc column) u)

-- one more row
regroup : (x c r s : ℤ) (m n : ℕ) → (x *ℤ pos m +ℤ c) *ℤ pos n +ℤ (r *ℤ pos m +ℤ s) ≡ (x *ℤ pos n +ℤ r) *ℤ pos m +ℤ (c *ℤ pos n +ℤ s)
regroup x c r s m n =
    omega (arith, ints, add-mul (x *ℤ pos m) c (pos n), add-mul (x *ℤ pos n) r (pos m), mul_assoc x (pos m) (pos n), mul_assoc x (pos n) (pos m))

columns_from-cons : (row : List ℤ) (rows : List (List ℤ)) (m : ℕ) (multipliers : List ℕ) (column : ℕ) (u : List ℕ) → columns_from (row ∷ rows) (m ∷ multipliers) column u ≡ sum_from column row u *ℤ pos m +ℤ columns_from rows multipliers column u
unfolding columns_from sum_from
columns_from-cons row rows m multipliers column [] = omega (arith, ints)
columns_from-cons row rows m multipliers column (n ∷ u) =
    ap (λ (rest : ℤ). (get_or row column (pos 0) *ℤ pos m +ℤ column_part rows multipliers column) *ℤ pos n +ℤ rest) (columns_from-cons row rows m multipliers (suc column) u)
    ∙ regroup (get_or row column (pos 0)) (column_part rows multipliers column) (sum_from (suc column) row u) (columns_from rows multipliers (suc column) u) m n

-- the sum by columns is the sum by rows
columns-rows : (rows : List (List ℤ)) (multipliers : List ℕ) (u : List ℕ) → columns_from rows multipliers 0 u ≡ product_sum (map (λ row. product_sum row u) rows) multipliers
columns-rows [] multipliers u = columns_from-no_rows multipliers 0 u
columns-rows (row ∷ rows) [] u = columns_from-no_multipliers (row ∷ rows) 0 u
columns-rows (row ∷ rows) (m ∷ multipliers) u =
    columns_from-cons row rows m multipliers 0 u
    ∙ ap (λ (left : ℤ). left *ℤ pos m +ℤ columns_from rows multipliers 0 u) (sum_from-zero row u)
    ∙ ap (λ (rest : ℤ). product_sum row u *ℤ pos m +ℤ rest) (columns-rows rows multipliers u)

-- where each column's sum is at least the denominator times its cost, so is the sum over all columns
columns_cover : (rows : List (List ℤ)) (multipliers : List ℕ) (denominator column : ℕ) (costs : List ℤ) (u : List ℕ) → length u ≡ length costs → ((j : ℕ) → j < length costs → (pos denominator *ℤ get_or costs j (pos 0)) ≤ℤ column_part rows multipliers (column + j)) → (pos denominator *ℤ product_sum costs u) ≤ℤ columns_from rows multipliers column u
unfolding columns_from
columns_cover rows multipliers denominator column [] [] e covers = omega (arith, ints)
columns_cover rows multipliers denominator column [] (n ∷ u) e covers = absurd (omega arith)
columns_cover rows multipliers denominator column (c ∷ costs) [] e covers = absurd (omega arith)
columns_cover rows multipliers denominator column (c ∷ costs) (n ∷ u) e covers =
    let here : (pos denominator *ℤ c) ≤ℤ column_part rows multipliers column =
    rw add-zero at (covers 0 (omega arith)) in
    let rest : (pos denominator *ℤ product_sum costs u) ≤ℤ columns_from rows multipliers (suc column) u =
    columns_cover rows multipliers denominator (suc column) costs u (omega arith) (λ j h. at_suc j (covers (suc j) (omega arith))) in
    at_both (columns_from rows multipliers (suc column) u) (column_part rows multipliers column) rest (mul-le-mul_nat (pos denominator *ℤ c) (column_part rows multipliers column) n here)
  where
    at_suc : (j : ℕ) → (pos denominator *ℤ get_or costs j (pos 0)) ≤ℤ column_part rows multipliers (column + suc j) → (pos denominator *ℤ get_or costs j (pos 0)) ≤ℤ column_part rows multipliers (suc column + j)
    at_suc j h = let e : column + suc j ≡ suc column + j = omega arith in rw e at h

    at_both : (rest sum : ℤ) → (pos denominator *ℤ product_sum costs u) ≤ℤ rest → (pos denominator *ℤ c *ℤ pos n) ≤ℤ (sum *ℤ pos n) → (pos denominator *ℤ (c *ℤ pos n +ℤ product_sum costs u)) ≤ℤ (sum *ℤ pos n +ℤ rest)
    at_both rest sum h k =
        rw (mul-add (pos denominator) (c *ℤ pos n) (product_sum costs u), ← mul_assoc (pos denominator) c (pos n)) (add-le-add (pos denominator *ℤ c *ℤ pos n) (sum *ℤ pos n) (pos denominator *ℤ product_sum costs u) rest k h)

-- the same over all columns, summed by rows
pub rows_cover : (rows : List (List ℤ)) (multipliers : List ℕ) (denominator : ℕ) (costs : List ℤ) (u : List ℕ) → length u ≡ length costs → ((j : ℕ) → j < length costs → (pos denominator *ℤ get_or costs j (pos 0)) ≤ℤ column_part rows multipliers j) → (pos denominator *ℤ product_sum costs u) ≤ℤ product_sum (map (λ row. product_sum row u) rows) multipliers
rows_cover rows multipliers denominator costs u e covers =
    rw (← columns-rows rows multipliers u) (columns_cover rows multipliers denominator 0 costs u e (λ j h. rw zero-add (covers j h)))

-- where each row's left side is at most k times its right side, so are their sums by multipliers
pub rows_meet : (rows : List (List ℤ)) (rights : List ℤ) (multipliers : List ℕ) (u : List ℕ) (k : ℕ) → length rights ≡ length rows → ((i : ℕ) → i < length rows → product_sum (get_or rows i []) u ≤ℤ (pos k *ℤ get_or rights i (pos 0))) → product_sum (map (λ row. product_sum row u) rows) multipliers ≤ℤ (pos k *ℤ product_sum rights multipliers)
rows_meet [] [] multipliers u k e meets = omega (arith, ints)
rows_meet [] (b ∷ rights) multipliers u k e meets = absurd (omega arith)
rows_meet (row ∷ rows) [] multipliers u k e meets = absurd (omega arith)
rows_meet (row ∷ rows) (b ∷ rights) [] u k e meets = omega (arith, ints)
rows_meet (row ∷ rows) (b ∷ rights) (m ∷ multipliers) u k e meets =
    rw (mul-add (pos k) (b *ℤ pos m) (product_sum rights multipliers), ← mul_assoc (pos k) b (pos m)) (add-le-add (product_sum row u *ℤ pos m) (pos k *ℤ b *ℤ pos m) (product_sum (map (λ row. product_sum row u) rows) multipliers) (pos k *ℤ product_sum rights multipliers) (mul-le-mul_nat (product_sum row u) (pos k *ℤ b) m (meets 0 (omega arith))) (rows_meet rows rights multipliers u k (omega arith) (λ i h. meets (suc i) (omega arith))))
