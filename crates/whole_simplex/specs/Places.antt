-- The places of a row that aren't 0.
use Rattle.std.specs.Prelude.{◌≡◌, ℕ, suc, cond, List, [], ◌∷◌, ℤ, pos, negsuc, refl}
use Rattle.whole_rows.specs.Row.{is_zero}

-- the places of the entries that aren't 0, where the first entry has that place
abbrev pub places_from : ℕ → List ℤ → List ℕ
places_from place [] = []
places_from place (x ∷ row) = cond (is_zero x) (places_from (suc place) row) (place ∷ places_from (suc place) row)

abbrev pub places_of : List ℤ → List ℕ
places_of row = places_from 0 row

places_case : places_of (pos 0 ∷ pos 7 ∷ pos 0 ∷ negsuc 1 ∷ []) ≡ 1 ∷ 3 ∷ []
places_case = refl
