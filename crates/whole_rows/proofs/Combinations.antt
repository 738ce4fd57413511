-- Combinations of rows, entry by entry.
use Rattle.std.proofs.Common.{◌≡◌, ℕ, zero, suc, ◌+◌, ◌<◌, ◌^◌, true, false, List, [], ◌∷◌, ◌++◌, length, get_or, drop, ℤ, pos, ◌-ℤ◌, ◌*ℤ◌, unsigned_abs, Result, Ok, Err, refl, sym, ◌∙◌, ap, append_assoc, arith}
use Rattle.std.proofs.lemmas.Bool.{lt-ltb, le-ltb}
use Rattle.std.proofs.lemmas.List.{drop_all, append-nil}
use Rattle.std.proofs.lemmas.Int.{fits_signed_from_abs}
use Rattle.std.specs.Int.{w128}
use mir.Val.{SFits}
use Rattle.whole_rows.specs.declared.row.RowFault.{RowFault}
use Rattle.whole_rows.specs.declared.row.RowFault.TheVariants.{Wide, Memory}
use Rattle.whole_rows.specs.Row.{IsCombinedEntry, IsCombination, IsInRange, is_in_range, combined_entry, cons_entry, combination}

pub is_in_range-yes : (z : ℤ) → IsInRange z → is_in_range z ≡ true
is_in_range-yes z h = lt-ltb (unsigned_abs z) (2 ^ 127) h

pub is_in_range-no : (z : ℤ) → (IsInRange z → ⊥) → is_in_range z ≡ false
is_in_range-no z h = le-ltb (unsigned_abs z) (2 ^ 127) (omega arith)

pub fits_from_range : (z : ℤ) → IsInRange z → SFits w128 z
fits_from_range z h = fits_signed_from_abs w128 z h

pub combined_entry-left : (p x a y : ℤ) → (IsInRange (p *ℤ x) → ⊥) → combined_entry p x a y ≡ Err (p, x)
combined_entry-left p x a y h = rw (is_in_range-no (p *ℤ x) h)

pub combined_entry-right : (p x a y : ℤ) → IsInRange (p *ℤ x) → (IsInRange (a *ℤ y) → ⊥) → combined_entry p x a y ≡ Err (a, y)
combined_entry-right p x a y g h = rw (is_in_range-yes (p *ℤ x) g, is_in_range-no (a *ℤ y) h)

pub combined_entry-both : (p x a y left right : ℤ) → IsInRange (p *ℤ x) → left ≡ p *ℤ x → IsInRange (a *ℤ y) → right ≡ a *ℤ y → (IsInRange (left -ℤ right) → ⊥) → combined_entry p x a y ≡ Err (left, right)
combined_entry-both p x a y left right g e h f n =
    rw (is_in_range-yes (p *ℤ x) g, is_in_range-yes (a *ℤ y) h, ← e, ← f, is_in_range-no (left -ℤ right) n)

pub combined_entry-ok : (p x a y left right entry : ℤ) → IsInRange (p *ℤ x) → left ≡ p *ℤ x → IsInRange (a *ℤ y) → right ≡ a *ℤ y → IsInRange (left -ℤ right) → entry ≡ left -ℤ right → combined_entry p x a y ≡ Ok entry
combined_entry-ok p x a y left right entry g e h f n i =
    rw (is_in_range-yes (p *ℤ x) g, is_in_range-yes (a *ℤ y) h, ← e, ← f, is_in_range-yes (left -ℤ right) n, i)

-- entries that stand before what is still to be combined
abbrev pub append_entries : List ℤ → Result (List ℤ) (ℤ × ℤ) → Result (List ℤ) (ℤ × ℤ)
append_entries entries (Ok rest) = Ok (entries ++ rest)
append_entries entries (Err wide) = Err wide

pub append_entries-cons : (entries : List ℤ) (entry : ℤ) (rest : Result (List ℤ) (ℤ × ℤ)) → append_entries entries (cons_entry (Ok entry) rest) ≡ append_entries (entries ++ entry ∷ []) rest
append_entries-cons entries entry (Ok rest) = ap Ok (sym (append_assoc entries (entry ∷ []) rest))
append_entries-cons entries entry (Err wide) = refl

pub append_entries-none : (whole : Result (List ℤ) (ℤ × ℤ)) → whole ≡ append_entries [] whole
append_entries-none (Ok rest) = refl
append_entries-none (Err wide) = refl

combination-drop : (row : List ℤ) (p : ℤ) (other : List ℤ) (a : ℤ) (i : ℕ) → i < length row → length row ≡ length other → combination (drop i row) p (drop i other) a ≡ cons_entry (combined_entry p (get_or row i (pos 0)) a (get_or other i (pos 0))) (combination (drop (suc i) row) p (drop (suc i) other) a)
combination-drop [] p other a i h e = absurd (omega arith)
combination-drop (x ∷ row) p [] a i h e = absurd (omega arith)
combination-drop (x ∷ row) p (y ∷ other) a zero h e = refl
combination-drop (x ∷ row) p (y ∷ other) a (suc i) h e = combination-drop row p other a i (omega arith) (omega arith)

-- the next place has an entry
pub combination_more : (row : List ℤ) (p : ℤ) (other : List ℤ) (a : ℤ) (i : ℕ) (entries : List ℤ) (x y entry : ℤ) (whole : Result (List ℤ) (ℤ × ℤ)) → i < length row → length row ≡ length other → x ≡ get_or row i (pos 0) → y ≡ get_or other i (pos 0) → combined_entry p x a y ≡ Ok entry → whole ≡ append_entries entries (combination (drop i row) p (drop i other) a) → whole ≡ append_entries (entries ++ entry ∷ []) (combination (drop (i + 1) row) p (drop (i + 1) other) a)
combination_more row p other a i entries x y entry whole h e at_x at_y is before =
    let here : combined_entry p (get_or row i (pos 0)) a (get_or other i (pos 0)) ≡ Ok entry = rw (← at_x, ← at_y) is in
    let next : i + 1 ≡ suc i = omega arith in
    rw next (before ∙ ap (append_entries entries) (combination-drop row p other a i h e) ∙ ap (λ (one : Result ℤ (ℤ × ℤ)). append_entries entries (cons_entry one (combination (drop (suc i) row) p (drop (suc i) other) a))) here ∙ append_entries-cons entries entry (combination (drop (suc i) row) p (drop (suc i) other) a))

-- the next place has a pair
pub combination_stops : (row : List ℤ) (p : ℤ) (other : List ℤ) (a : ℤ) (i : ℕ) (entries : List ℤ) (x y : ℤ) (wide : ℤ × ℤ) (whole : Result (List ℤ) (ℤ × ℤ)) → i < length row → length row ≡ length other → x ≡ get_or row i (pos 0) → y ≡ get_or other i (pos 0) → combined_entry p x a y ≡ Err wide → whole ≡ append_entries entries (combination (drop i row) p (drop i other) a) → whole ≡ Err wide
combination_stops row p other a i entries x y wide whole h e at_x at_y is before =
    let here : combined_entry p (get_or row i (pos 0)) a (get_or other i (pos 0)) ≡ Err wide = rw (← at_x, ← at_y) is in
    before ∙ ap (append_entries entries) (combination-drop row p other a i h e) ∙ ap (λ (one : Result ℤ (ℤ × ℤ)). append_entries entries (cons_entry one (combination (drop (suc i) row) p (drop (suc i) other) a))) here

-- every place has an entry
pub combination_ends : (row : List ℤ) (p : ℤ) (other : List ℤ) (a : ℤ) (i : ℕ) (entries : List ℤ) (whole : Result (List ℤ) (ℤ × ℤ)) → i ≡ length row → whole ≡ append_entries entries (combination (drop i row) p (drop i other) a) → whole ≡ Ok entries
combination_ends row p other a i entries whole e before =
    let none : drop i row ≡ [] = drop_all i row (omega arith) in
    before ∙ ap (λ (rest : List ℤ). append_entries entries (combination rest p (drop i other) a)) none ∙ ap Ok (append-nil entries)

-- a pair at one place is the pair of the whole
pub stops_with : (one : Result ℤ (ℤ × ℤ)) (whole : Result (List ℤ) (ℤ × ℤ)) (fault : RowFault) → IsCombinedEntry one (Err fault) → ((wide : ℤ × ℤ) → one ≡ Err wide → whole ≡ Err wide) → IsCombination whole (Err fault)
stops_with one whole (Wide a b) is then = then (a, b) is
stops_with one whole Memory is then = absurd is
