-- A name has an end exactly where it begins before the last zero byte.
use Rattle.std.proofs.Common.{◌≡◌, ℕ, zero, suc, ◌-◌, ◌<◌, ◌≤◌, true, false, ◌||◌, ◌==◌, nat_lt, List, [], ◌∷◌, length, get_or, inl, inr, sym, ◌∙◌, ap, arith}
use Rattle.std.specs.List.{list_any}
use Rattle.std.proofs.lemmas.Bool.{eq-eqb, lt-ltb, le-ltb, cases_lt, or_right}
use Rattle.elf_image.specs.Elf.{has_end}

pub has_end-before : (names : List ℕ) (k place : ℕ) → place ≤ k → k < length names → get_or names k 0 ≡ 0 → has_end names place ≡ true
has_end-before [] k place h below is_zero = absurd (omega arith)
has_end-before (n ∷ names) zero zero h below is_zero = ap (λ b. b || list_any (λ byte. byte == 0) names) (eq-eqb n 0 is_zero)
has_end-before (n ∷ names) zero (suc place) h below is_zero = absurd (omega arith)
has_end-before (n ∷ names) (suc k) zero h below is_zero =
    or_right (n == 0) (has_end names zero) (has_end-before names k zero (omega arith) (omega arith) is_zero)
has_end-before (n ∷ names) (suc k) (suc place) h below is_zero = has_end-before names k place (omega arith) (omega arith) is_zero

pub has_end-is : (names : List ℕ) (end place : ℕ) → 0 < end → end ≤ length names → get_or names (end - 1) 0 ≡ 0
    → ((p : ℕ) → end ≤ p → has_end names p ≡ false) → has_end names place ≡ nat_lt place end
has_end-is names end place some within is_zero none =
    elim (cases_lt place end) [
      | inl below ↦ has_end-before names (end - 1) place (omega arith) (omega arith) is_zero ∙ sym (lt-ltb place end below)
      | inr past ↦ none place past ∙ sym (le-ltb place end past)
    ]
