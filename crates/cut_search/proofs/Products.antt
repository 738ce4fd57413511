-- Sums of products over parts of lists.
use Rattle.std.proofs.Common.{◌≡◌, ℕ, zero, suc, List, [], ◌∷◌, ◌++◌, length, get_or, replicate, take, drop, ℤ, pos, ◌+ℤ◌, ◌*ℤ◌, refl, arith}
use Rattle.std.proofs.lemmas.Int.{ints}
use Rattle.whole_rows.specs.Rows.{product_sum}

pub product_sum-append : (xs ys : List ℤ) (ns : List ℕ) → product_sum (xs ++ ys) ns ≡ product_sum xs (take (length xs) ns) +ℤ product_sum ys (drop (length xs) ns)
product_sum-append [] ys ns = omega (arith, ints)
product_sum-append (x ∷ xs) ys [] = none ys
  where
    none : (zs : List ℤ) → pos 0 ≡ pos 0 +ℤ product_sum zs []
    none [] = refl
    none (z ∷ zs) = refl
product_sum-append (x ∷ xs) ys (n ∷ ns) = let rest = product_sum-append xs ys ns in omega (arith, ints)

-- the same with the numbers in two parts
pub product_sum-parts : (xs ys : List ℤ) (ms ns : List ℕ) → length xs ≡ length ms → product_sum (xs ++ ys) (ms ++ ns) ≡ product_sum xs ms +ℤ product_sum ys ns
product_sum-parts [] ys [] ns e = omega (arith, ints)
product_sum-parts [] ys (m ∷ ms) ns e = absurd (omega arith)
product_sum-parts (x ∷ xs) ys [] ns e = absurd (omega arith)
product_sum-parts (x ∷ xs) ys (m ∷ ms) ns e = let rest = product_sum-parts xs ys ms ns (omega arith) in omega (arith, ints)

-- numbers past the factors don't count
pub product_sum-take : (xs : List ℤ) (ns : List ℕ) → product_sum xs (take (length xs) ns) ≡ product_sum xs ns
product_sum-take [] ns = refl
product_sum-take (x ∷ xs) [] = refl
product_sum-take (x ∷ xs) (n ∷ ns) = let rest = product_sum-take xs ns in omega (arith, ints)

-- ---- Short sums

pub no_numbers : (xs : List ℤ) → product_sum xs [] ≡ pos 0
no_numbers [] = refl
no_numbers (x ∷ xs) = refl

pub product_sum-one : (a : ℤ) (ns : List ℕ) → product_sum (a ∷ []) ns ≡ a *ℤ pos (get_or ns 0 0)
product_sum-one a [] = omega (arith, ints)
product_sum-one a (n ∷ ns) = omega (arith, ints)

pub product_sum-two : (a b : ℤ) (ns : List ℕ) → product_sum (a ∷ b ∷ []) ns ≡ a *ℤ pos (get_or ns 0 0) +ℤ b *ℤ pos (get_or ns 1 0)
product_sum-two a b [] = omega (arith, ints)
product_sum-two a b (n ∷ ns) = let rest = product_sum-one b ns in omega (arith, ints)

pub product_sum-three : (a b c : ℤ) (ns : List ℕ) → product_sum (a ∷ b ∷ c ∷ []) ns ≡ a *ℤ pos (get_or ns 0 0) +ℤ (b *ℤ pos (get_or ns 1 0) +ℤ c *ℤ pos (get_or ns 2 0))
product_sum-three a b c [] = omega (arith, ints)
product_sum-three a b c (n ∷ ns) = let rest = product_sum-two b c ns in omega (arith, ints)

-- of factors that are all the same the last one alone has a number
pub product_sum-last : (a : ℤ) (count m : ℕ) → product_sum (replicate count a ++ a ∷ []) (replicate count 0 ++ m ∷ []) ≡ a *ℤ pos m
product_sum-last a zero m = omega (arith, ints)
product_sum-last a (suc count) m = let rest = product_sum-last a count m in omega (arith, ints)
