-- Sums of products of whole numbers with natural ones.
use Rattle.std.proofs.Common.{◌≡◌, ◌≢◌, ℕ, zero, suc, ◌*◌, ◌<◌, ◌≤◌, ◌==◌, cond, List, [], ◌∷◌, map, length, get_or, set, ℤ, pos, negsuc, ◌+ℤ◌, ◌-ℤ◌, ◌*ℤ◌, ◌≤ℤ◌, refl, sym, ap, ◌∙◌, zero-add, inl, inr, ◌⊎◌, arith}
use Rattle.std.proofs.lemmas.Bool.{eq-eqb, ne_eqb, cases_lt}
use Rattle.std.proofs.lemmas.Int.{ints}
use Rattle.std.proofs.lemmas.List.{get_or-map, get_or_past, length-map}
use Rattle.std.proofs.lemmas.List.Elements.{All-head, All-tail}
use Rattle.std.proofs.lemmas.List.FromFn.{length-map-range_with_len, get_or-map-range_with_len, fill_by_all}
use Rattle.std.specs.List.{range_with_len, All}
use Rattle.whole_rows.specs.Rows.{product_sum}
use Rattle.whole_rows.proofs.Whole.{add-mul, mul_assoc, add-le-add}
use Rattle.row_squeeze.specs.Squeezed.{members, merged}

-- ---- products by 0, 1 and -1

pub zero_times : (x : ℤ) (n : ℕ) → x ≡ pos 0 → x *ℤ pos n ≡ pos 0
zero_times x n h = rw h (ap pos (omega arith))

pub one_times : (x : ℤ) (n : ℕ) → x ≡ pos 1 → x *ℤ pos n ≡ pos n
one_times x n h = rw h (ap pos (omega arith))

pub minus_times : (x : ℤ) (n : ℕ) → x ≡ negsuc 0 → x *ℤ pos n ≡ pos 0 -ℤ pos n
minus_times x n h = let e : 1 * n ≡ n = omega arith in rw (h, e) (omega (arith, ints))

pub times_one : (x : ℤ) → x *ℤ pos 1 ≡ x
times_one x = omega (arith, ints)

pub times_zero : (x : ℤ) (n : ℕ) → n ≡ 0 → x *ℤ pos n ≡ pos 0
times_zero x n h = rw h (omega (arith, ints))

-- ---- sums whose products are mostly 0

pub sum_of_zeros : (xs : List ℤ) (ns : List ℕ) → ((j : ℕ) → get_or xs j (pos 0) ≡ pos 0) → product_sum xs ns ≡ pos 0
sum_of_zeros [] ns h = refl
sum_of_zeros (x ∷ xs) [] h = refl
sum_of_zeros (x ∷ xs) (n ∷ ns) h = omega (arith, ints, zero_times x n (h 0), sum_of_zeros xs ns (λ j. h (suc j)))

pub sum_at_one : (xs : List ℤ) (ns : List ℕ) (i : ℕ) → ((j : ℕ) → j ≢ i → get_or xs j (pos 0) ≡ pos 0) → product_sum xs ns ≡ get_or xs i (pos 0) *ℤ pos (get_or ns i 0)
sum_at_one [] ns i h = omega (arith, ints, zero_times (pos 0) (get_or ns i 0) refl)
sum_at_one (x ∷ xs) [] i h = omega (arith, ints, times_zero (get_or (x ∷ xs) i (pos 0)) 0 refl)
sum_at_one (x ∷ xs) (n ∷ ns) zero h = omega (arith, ints, sum_of_zeros xs ns (λ j. h (suc j) (λ e. absurd (omega arith))))
sum_at_one (x ∷ xs) (n ∷ ns) (suc i) h =
    omega (arith, ints, zero_times x n (h 0 (λ e. absurd (omega arith))), sum_at_one xs ns i (λ j k. h (suc j) (λ e. k (omega arith))))

-- a row that has 1 at one place, -1 at another and 0 at every other
pub sum_at_two : (xs : List ℤ) (ns : List ℕ) (outgoing incoming : ℕ) → get_or xs outgoing (pos 0) ≡ pos 1 → get_or xs incoming (pos 0) ≡ negsuc 0 → ((j : ℕ) → j ≢ outgoing → j ≢ incoming → get_or xs j (pos 0) ≡ pos 0) → product_sum xs ns ≡ pos (get_or ns outgoing 0) -ℤ pos (get_or ns incoming 0)
sum_at_two [] ns outgoing incoming one minus others = cc
sum_at_two (x ∷ xs) [] outgoing incoming one minus others = omega (arith, ints)
sum_at_two (x ∷ xs) (n ∷ ns) zero zero one minus others = cc
sum_at_two (x ∷ xs) (n ∷ ns) zero (suc incoming) one minus others =
    let rest = sum_at_one xs ns incoming (λ j k. others (suc j) (λ e. absurd (omega arith)) (λ e. k (omega arith))) in
    omega (arith, ints, one_times x n one, minus_times (get_or xs incoming (pos 0)) (get_or ns incoming 0) minus)
sum_at_two (x ∷ xs) (n ∷ ns) (suc outgoing) zero one minus others =
    let rest = sum_at_one xs ns outgoing (λ j k. others (suc j) (λ e. k (omega arith)) (λ e. absurd (omega arith))) in
    omega (arith, ints, minus_times x n minus, one_times (get_or xs outgoing (pos 0)) (get_or ns outgoing 0) one)
sum_at_two (x ∷ xs) (n ∷ ns) (suc outgoing) (suc incoming) one minus others =
    let rest = sum_at_two xs ns outgoing incoming one minus (λ j k l. others (suc j) (λ e. k (omega arith)) (λ e. l (omega arith))) in
    omega (arith, ints, zero_times x n (others 0 (λ e. absurd (omega arith)) (λ e. absurd (omega arith))))

-- ---- sums in order

pub sum_not_positive : (xs : List ℤ) (ns : List ℕ) → ((j : ℕ) → (get_or xs j (pos 0) *ℤ pos (get_or ns j 0)) ≤ℤ pos 0) → product_sum xs ns ≤ℤ pos 0
sum_not_positive [] ns h = omega (arith, ints)
sum_not_positive (x ∷ xs) [] h = omega (arith, ints)
sum_not_positive (x ∷ xs) (n ∷ ns) h =
    let first : (x *ℤ pos n) ≤ℤ pos 0 = h 0 in
    let rest = sum_not_positive xs ns (λ j. h (suc j)) in
    omega (arith, ints)

pub sum-le-sum : (xs : List ℤ) (us ws : List ℕ) → length us ≡ length ws → ((j : ℕ) → (get_or xs j (pos 0) *ℤ pos (get_or us j 0)) ≤ℤ (get_or xs j (pos 0) *ℤ pos (get_or ws j 0))) → product_sum xs us ≤ℤ product_sum xs ws
sum-le-sum [] us ws e h = omega (arith, ints)
sum-le-sum (x ∷ xs) [] [] e h = omega (arith, ints)
sum-le-sum (x ∷ xs) [] (w ∷ ws) e h = absurd (omega arith)
sum-le-sum (x ∷ xs) (u ∷ us) [] e h = absurd (omega arith)
sum-le-sum (x ∷ xs) (u ∷ us) (w ∷ ws) e h =
    add-le-add (x *ℤ pos u) (x *ℤ pos w) (product_sum xs us) (product_sum xs ws) (h 0) (sum-le-sum xs us ws (omega arith) (λ j. h (suc j)))

pub same_products : (xs ys : List ℤ) (us : List ℕ) → length xs ≡ length ys → ((j : ℕ) → get_or xs j (pos 0) *ℤ pos (get_or us j 0) ≡ get_or ys j (pos 0) *ℤ pos (get_or us j 0)) → product_sum xs us ≡ product_sum ys us
same_products [] [] us e h = refl
same_products [] (y ∷ ys) us e h = absurd (omega arith)
same_products (x ∷ xs) [] us e h = absurd (omega arith)
same_products (x ∷ xs) (y ∷ ys) [] e h = refl
same_products (x ∷ xs) (y ∷ ys) (u ∷ us) e h = rw (same_products xs ys us (omega arith) (λ j. h (suc j)), h 0) refl

-- where the sums are in order, and all their products but one are the same, so are the two numbers at that place
pub one_left : (xs ys : List ℤ) (us : List ℕ) (place : ℕ) → length xs ≡ length ys → ((j : ℕ) → j ≢ place → get_or xs j (pos 0) *ℤ pos (get_or us j 0) ≡ get_or ys j (pos 0) *ℤ pos (get_or us j 0)) → get_or us place 0 ≡ 1 → product_sum ys us ≤ℤ product_sum xs us → get_or ys place (pos 0) ≤ℤ get_or xs place (pos 0)
one_left [] [] us place e others one h = omega (arith, ints)
one_left [] (y ∷ ys) us place e others one h = absurd (omega arith)
one_left (x ∷ xs) [] us place e others one h = absurd (omega arith)
one_left (x ∷ xs) (y ∷ ys) [] place e others one h = absurd (omega arith)
one_left (x ∷ xs) (y ∷ ys) (u ∷ us) zero e others one h =
    let rest = same_products xs ys us (omega arith) (λ j. others (suc j) (λ k. absurd (omega arith))) in
    let u_is : u ≡ 1 = one in
    let at_one : (a : ℤ) → a *ℤ pos u ≡ a = λ a. rw u_is (omega (arith, ints)) in
    omega (arith, ints, at_one x, at_one y)
one_left (x ∷ xs) (y ∷ ys) (u ∷ us) (suc place) e others one h =
    let first : x *ℤ pos u ≡ y *ℤ pos u = others 0 (λ k. absurd (omega arith)) in
    one_left xs ys us place (omega arith) (λ j k. others (suc j) (λ l. k (omega arith))) one (omega (arith, ints))

-- ---- one number changed

pub sum_set : (xs : List ℤ) (ns : List ℕ) (i v : ℕ) → i < length ns → product_sum xs (set ns i v) +ℤ get_or xs i (pos 0) *ℤ pos (get_or ns i 0) ≡ product_sum xs ns +ℤ get_or xs i (pos 0) *ℤ pos v
sum_set [] ns i v h = omega (arith, ints)
sum_set (x ∷ xs) [] i v h = absurd (omega arith)
sum_set (x ∷ xs) (n ∷ ns) zero v h = omega (arith, ints)
sum_set (x ∷ xs) (n ∷ ns) (suc i) v h = let rest = sum_set xs ns i v (omega arith) in omega (arith, ints)

-- ---- sums of sums

sum_of_sums : (f g : ℕ → ℤ) (places ns : List ℕ) → product_sum (map (λ k. f k +ℤ g k) places) ns ≡ product_sum (map f places) ns +ℤ product_sum (map g places) ns
sum_of_sums f g [] ns = refl
sum_of_sums f g (place ∷ places) [] = refl
sum_of_sums f g (place ∷ places) (n ∷ ns) = omega (arith, ints, add-mul (f place) (g place) (pos n), sum_of_sums f g places ns)

zeros-map : (f : ℕ → ℤ) → ((k : ℕ) → f k ≡ pos 0) → (places : List ℕ) (j : ℕ) → get_or (map f places) j (pos 0) ≡ pos 0
zeros-map f h [] j = refl
zeros-map f h (place ∷ places) zero = h place
zeros-map f h (place ∷ places) (suc j) = zeros-map f h places j

-- one number times 1 at one place
sum_of_one : (count : ℕ) (x : ℤ) (place : ℕ) (ns : List ℕ) → length ns ≡ count → product_sum (map (λ k. x *ℤ pos (cond (place == k) 1 0)) (range_with_len 0 count)) ns ≡ x *ℤ pos (get_or ns place 0)
sum_of_one count x place ns e =
    sum_at_one (map f (range_with_len 0 count)) ns place others ∙ here (cases_lt place count)
  where
    f : ℕ → ℤ
    f k = x *ℤ pos (cond (place == k) 1 0)

    past : (j : ℕ) → count ≤ j → get_or (map f (range_with_len 0 count)) j (pos 0) ≡ pos 0
    past j h = get_or_past (map f (range_with_len 0 count)) j (pos 0) (rw (length-map-range_with_len f 0 count) h)

    others : (j : ℕ) → j ≢ place → get_or (map f (range_with_len 0 count)) j (pos 0) ≡ pos 0
    others j k = by_size (cases_lt j count)
      where
        by_size : (j < count) ⊎ (count ≤ j) → get_or (map f (range_with_len 0 count)) j (pos 0) ≡ pos 0
        by_size (inl h) = rw (get_or-map-range_with_len f 0 count j j (pos 0) h (zero-add j), ne_eqb place j (λ q. k (sym q))) (times_zero x 0 refl)
        by_size (inr h) = past j h

    here : (place < count) ⊎ (count ≤ place) → get_or (map f (range_with_len 0 count)) place (pos 0) *ℤ pos (get_or ns place 0) ≡ x *ℤ pos (get_or ns place 0)
    here (inl h) = rw (get_or-map-range_with_len f 0 count place place (pos 0) h (zero-add place), eq-eqb place place refl) (ap (λ (y : ℤ). y *ℤ pos (get_or ns place 0)) (times_one x))
    here (inr h) = rw (get_or_past ns place 0 (omega arith)) (omega (arith, ints))

-- the sum over chains is the sum over columns, each with the number of its chain
pub merged_sum : (count : ℕ) (places : List ℕ) (xs : List ℤ) (ns : List ℕ) → length ns ≡ count → product_sum (merged count places xs) ns ≡ product_sum xs (map (λ place. get_or ns place 0) places)
merged_sum count places [] ns e = sum_of_zeros (merged count places []) ns (zeros-map (λ place. product_sum [] (members places place)) (λ k. refl) (range_with_len 0 count))
merged_sum count [] (x ∷ xs) ns e = sum_of_zeros (merged count [] (x ∷ xs)) ns (zeros-map (λ place. product_sum (x ∷ xs) (members [] place)) (λ k. refl) (range_with_len 0 count))
merged_sum count (place ∷ places) (x ∷ xs) ns e =
    sum_of_sums (λ k. x *ℤ pos (cond (place == k) 1 0)) (λ k. product_sum xs (members places k)) (range_with_len 0 count) ns
    ∙ rw (sum_of_one count x place ns e, merged_sum count places xs ns e) refl

-- ---- sums by rows and by columns

-- the sum of multiplier times entry over a column of rows
abbrev pub column_part : List (List ℤ) → List ℕ → ℕ → ℤ
column_part rows multipliers column = product_sum (map (λ row. get_or row column (pos 0)) rows) multipliers

sum_of_scaled : (xs : List ℤ) (m : ℕ) (ns : List ℕ) → product_sum (map (λ x. x *ℤ pos m) xs) ns ≡ product_sum xs ns *ℤ pos m
sum_of_scaled [] m ns = sym (zero_times (pos 0) m refl)
sum_of_scaled (x ∷ xs) m [] = sym (zero_times (pos 0) m refl)
sum_of_scaled (x ∷ xs) m (n ∷ ns) =
    omega (arith, ints, add-mul (x *ℤ pos n) (product_sum xs ns) (pos m), mul_assoc x (pos m) (pos n), mul_assoc x (pos n) (pos m), sum_of_scaled xs m ns)

-- one row's entries times its multiplier, column by column
row_part : (columns : ℕ) (row : List ℤ) (m : ℕ) (ns : List ℕ) → length row ≡ columns → product_sum (map (λ j. get_or row j (pos 0) *ℤ pos m) (range_with_len 0 columns)) ns ≡ product_sum row ns *ℤ pos m
row_part columns row m ns e =
    ap (λ (xs : List ℤ). product_sum xs ns) (sym (fill_by_all (λ j. get_or row j (pos 0) *ℤ pos m) (map (λ x. x *ℤ pos m) row) columns (pos 0) (length-map row (λ x. x *ℤ pos m) ∙ e) (λ k h. get_or-map (λ x. x *ℤ pos m) row k (pos 0) (pos 0) (omega arith))))
    ∙ sum_of_scaled row m ns

-- the sum by columns is the sum by rows
pub columns-rows : (columns : ℕ) (rows : List (List ℤ)) (multipliers ns : List ℕ) → All (λ row. length row ≡ columns) rows → product_sum (map (column_part rows multipliers) (range_with_len 0 columns)) ns ≡ product_sum (map (λ row. product_sum row ns) rows) multipliers
columns-rows columns [] multipliers ns fit = sum_of_zeros (map (column_part [] multipliers) (range_with_len 0 columns)) ns (zeros-map (column_part [] multipliers) (λ k. refl) (range_with_len 0 columns))
columns-rows columns (row ∷ rows) [] ns fit = sum_of_zeros (map (column_part (row ∷ rows) []) (range_with_len 0 columns)) ns (zeros-map (column_part (row ∷ rows) []) (λ k. refl) (range_with_len 0 columns))
columns-rows columns (row ∷ rows) (m ∷ multipliers) ns fit =
    sum_of_sums (λ j. get_or row j (pos 0) *ℤ pos m) (column_part rows multipliers) (range_with_len 0 columns) ns
    ∙ rw (row_part columns row m ns (All-head (λ row. length row ≡ columns) row rows fit), columns-rows columns rows multipliers ns (All-tail (λ row. length row ≡ columns) row rows fit)) refl
