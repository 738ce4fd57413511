-- Table 0, as it is put together.
use Rattle.std.proofs.Common.{◌≡◌, ℕ, zero, suc, ◌+◌, ◌<◌, List, [], ◌∷◌, ◌++◌, map, length, get_or, take, replicate, ℤ, pos, negsuc, neg_ℤ, sym, ap, ◌∙◌, arith, append_assoc, lit<}
use Rattle.std.proofs.lemmas.List.Elements.{All-append, All-cons, All-nil, All-replicate, All-map, All-weaker}
use Rattle.whole_rows.specs.Row.{IsInRange, AreInRange}
use Rattle.whole_rows.specs.Rows.{RowsData}
use Rattle.whole_simplex.specs.declared.line.Line.{Line}
use Rattle.whole_simplex.specs.Tables.{unit_row, first_line, lines_from}

-- ---- a line

unit_row-is : (m i k : ℕ) → k + i + 1 ≡ m → unit_row m i ≡ replicate i (pos 0) ++ pos 1 ∷ replicate k (pos 0)
unit_row-is zero i k h = absurd (omega arith)
unit_row-is (suc m) zero k h =
    let same : k ≡ m = omega arith in
    ap (λ n. pos 1 ∷ replicate n (pos 0)) (sym same)
unit_row-is (suc m) (suc i) k h = ap (λ r. pos 0 ∷ r) (unit_row-is m i k (omega arith))

pub line_put_together : (m i k : ℕ) (row a b c d e f : List ℤ) (right : ℤ) → k + i + 1 ≡ m → a ≡ row → b ≡ a ++ replicate i (pos 0) → c ≡ b ++ pos 1 ∷ [] → d ≡ c ++ replicate k (pos 0) → e ≡ d ++ pos 0 ∷ [] → f ≡ e ++ right ∷ [] → f ≡ row ++ unit_row m i ++ pos 0 ∷ right ∷ []
line_put_together m i k row a b c d e f right h ha hb hc hd he hf =
    let zeros : List ℤ = replicate i (pos 0) in
    let rest : List ℤ = replicate k (pos 0) in
    let slacks : c ++ rest ≡ row ++ unit_row m i =
    ap (λ l. l ++ rest) (hc ∙ ap (λ l. l ++ pos 1 ∷ []) (hb ∙ ap (λ l. l ++ zeros) ha))
    ∙ append_assoc (row ++ zeros) (pos 1 ∷ []) rest ∙ append_assoc row zeros (pos 1 ∷ rest)
    ∙ ap (λ l. row ++ l) (sym (unit_row-is m i k h)) in
    hf ∙ ap (λ l. l ++ right ∷ []) (he ∙ ap (λ l. l ++ pos 0 ∷ []) (hd ∙ slacks)) ∙ append_assoc (row ++ unit_row m i) (pos 0 ∷ []) (right ∷ [])

zero_in_range : IsInRange (pos 0)
zero_in_range = lit< tt

one_in_range : IsInRange (pos 1)
one_in_range = lit< tt

two_in_range : (x y : ℤ) → IsInRange x → IsInRange y → AreInRange (x ∷ y ∷ [])
two_in_range x y h k = All-cons IsInRange x (y ∷ []) h (All-cons IsInRange y [] k (All-nil IsInRange))

unit_in_range : (places place : ℕ) → AreInRange (unit_row places place)
unit_in_range zero place = All-nil IsInRange
unit_in_range (suc places) zero = All-cons IsInRange (pos 1) (replicate places (pos 0)) one_in_range (All-replicate IsInRange places (pos 0) zero_in_range)
unit_in_range (suc places) (suc place) = All-cons IsInRange (pos 0) (unit_row places place) zero_in_range (unit_in_range places place)

pub line_in_range : (row : List ℤ) (m i : ℕ) (right : ℤ) → AreInRange row → IsInRange right → AreInRange (row ++ unit_row m i ++ pos 0 ∷ right ∷ [])
line_in_range row m i right h k =
    All-append IsInRange (row ++ unit_row m i) (pos 0 ∷ right ∷ []) (All-append IsInRange row (unit_row m i) h (unit_in_range m i)) (two_in_range (pos 0) right zero_in_range k)

-- ---- the objective row

pub negated_in_range : (x : ℤ) → IsInRange x → IsInRange (neg_ℤ x)
negated_in_range (pos zero) h = h
negated_in_range (pos (suc n)) h = h
negated_in_range (negsuc n) h = h

pub objective_in_range : (costs : List ℤ) (m : ℕ) → AreInRange costs → AreInRange (map neg_ℤ costs ++ replicate m (pos 0) ++ pos 1 ∷ pos 0 ∷ [])
objective_in_range costs m h =
    All-append IsInRange (map neg_ℤ costs ++ replicate m (pos 0)) (pos 1 ∷ pos 0 ∷ [])
    (All-append IsInRange (map neg_ℤ costs) (replicate m (pos 0))
    (All-map IsInRange neg_ℤ costs (All-weaker IsInRange (λ x. IsInRange (neg_ℤ x)) negated_in_range costs h))
    (All-replicate IsInRange m (pos 0) zero_in_range))
    (two_in_range (pos 1) (pos 0) one_in_range zero_in_range)

pub objective_put_together : (m : ℕ) (costs a b c d : List ℤ) → a ≡ map neg_ℤ costs → b ≡ a ++ replicate m (pos 0) → c ≡ b ++ pos 1 ∷ [] → d ≡ c ++ pos 0 ∷ [] → d ≡ map neg_ℤ costs ++ replicate m (pos 0) ++ pos 1 ∷ pos 0 ∷ []
objective_put_together m costs a b c d ha hb hc hd =
    hd ∙ ap (λ l. l ++ pos 0 ∷ []) (hc ∙ ap (λ l. l ++ pos 1 ∷ []) (hb ∙ ap (λ l. l ++ replicate m (pos 0)) ha))
    ∙ append_assoc (map neg_ℤ costs ++ replicate m (pos 0)) (pos 1 ∷ []) (pos 0 ∷ [])

-- ---- the lines

lines_more : (d : RowsData) (number k : ℕ) (rows : List (List ℤ)) (rights : List ℤ) → k < length rows → k < length rights → lines_from d number (take (suc k) rows) (take (suc k) rights) ≡ lines_from d number (take k rows) (take k rights) ++ first_line d (number + k) (get_or rows k []) (get_or rights k (pos 0)) ∷ []
lines_more d number k [] rights h g = absurd (omega arith)
lines_more d number k (row ∷ rows) [] h g = absurd (omega arith)
lines_more d number zero (row ∷ rows) (right ∷ rights) h g =
    (let e : number ≡ number + 0 = omega arith in ap (λ n. first_line d n row right ∷ []) e)
lines_more d number (suc k) (row ∷ rows) (right ∷ rights) h g =
    let e : suc number + k ≡ number + suc k = omega arith in
    ap (λ l. first_line d number row right ∷ l)
    (lines_more d (suc number) k rows rights (omega arith) (omega arith)
    ∙ ap (λ n. lines_from d (suc number) (take k rows) (take k rights) ++ first_line d n (get_or rows k []) (get_or rights k (pos 0)) ∷ []) e)

pub first_lines_more : (d : RowsData) (k : ℕ) (lines new : List Line) (line : Line) → k < length d.rows → k < length d.rights → lines ≡ lines_from d 0 (take k d.rows) (take k d.rights) → line ≡ first_line d k (get_or d.rows k []) (get_or d.rights k (pos 0)) → new ≡ lines ++ line ∷ [] → new ≡ lines_from d 0 (take (k + 1) d.rows) (take (k + 1) d.rights)
first_lines_more d k lines new line h g before is more =
    let none : 0 + k ≡ k = omega arith in
    let one : suc k ≡ k + 1 = omega arith in
    more ∙ ap (λ l. l ++ line ∷ []) before
    ∙ ap (λ x. lines_from d 0 (take k d.rows) (take k d.rights) ++ x ∷ []) (is ∙ ap (λ n. first_line d n (get_or d.rows k []) (get_or d.rights k (pos 0))) (sym none))
    ∙ sym (lines_more d 0 k d.rows d.rights h g)
    ∙ ap (λ n. lines_from d 0 (take n d.rows) (take n d.rights)) one
