-- Entries that aren't narrow.
use Rattle.std.specs.Prelude.{◌≡◌, ℕ, ◌^◌, ◌-◌, Bool, cond, not, List, [], ◌∷◌, ℤ, pos, negsuc, unsigned_abs, nat_lt, sum_by, refl}

abbrev pub is_wide : ℤ → Bool
is_wide z = not (nat_lt (unsigned_abs z) (2 ^ 31))

-- 1 for a wide number, 0 for any other
abbrev pub wide_of : ℤ → ℕ
wide_of z = cond (is_wide z) 1 0

-- how many entries are wide
abbrev pub wide_count : List ℤ → ℕ
wide_count row = sum_by wide_of row

wide_case : wide_count (pos (2 ^ 31) ∷ negsuc (2 ^ 31 - 1) ∷ negsuc (2 ^ 31 - 2) ∷ []) ≡ 2
wide_case = refl
