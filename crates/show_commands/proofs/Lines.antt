-- Lines of a text, added one by one.
use Rattle.std.proofs.Common.{◌≡◌, ℕ, suc, ◌+◌, ◌<◌, List, ◌++◌, length, drop, get_or, sym, ◌∙◌, ap, append_assoc, arith, drop-cons}
use Rattle.std.specs.List.{flat_map}

pub one_line : {A : Type 0} (line : A → List ℕ) (xs : List A) (i : ℕ) (d : A) (text text' whole : List ℕ) → i < length xs
    → text' ≡ text ++ line (get_or xs i d) → text ++ flat_map line (drop i xs) ≡ whole → text' ++ flat_map line (drop (i + 1) xs) ≡ whole
one_line line xs i d text text' whole within is was =
    ap (λ t. t ++ flat_map line (drop (i + 1) xs)) is
    ∙ (append_assoc text (line (get_or xs i d)) (flat_map line (drop (i + 1) xs))
    ∙ (ap (λ n. text ++ (line (get_or xs i d) ++ flat_map line (drop n xs))) (next i)
    ∙ (ap (λ ys. text ++ flat_map line ys) (sym (drop-cons xs i d within)) ∙ was)))
  where
    next : (n : ℕ) → n + 1 ≡ suc n
    next n = omega arith
