-- What the code of a pivot makes of the lines, one after another.
use Rattle.std.proofs.Common.{◌≡◌, ◌≢◌, ℕ, zero, suc, ◌+◌, ◌-◌, ◌<◌, Bool, true, false, cond, List, [], ◌∷◌, ◌++◌, map, length, get_or, take, drop, set, ℤ, pos, negsuc, refl, sym, ap, ◌∙◌, subst, arith}
use Rattle.std.specs.Prelude.{Ok, Err}
use Rattle.std.specs.List.{flat_map}
use Rattle.std.proofs.lemmas.Bool.Decides.{nat_tests}
use Rattle.std.proofs.lemmas.List.{append-nil, length-map, length-take, get_or-drop, get_or-append_right}
use Rattle.std.proofs.lemmas.List.Edits.{map_over_more}
use Rattle.std.proofs.lemmas.Grind.{flat_map-append}
use Rattle.std.proofs.lemmas.List.{take_more}
use Rattle.whole_rows.specs.Row.{IsCombination, combination, is_zero, primitive_of}
use Rattle.whole_rows.specs.declared.row.RowFault.{RowFault}
use Rattle.whole_rows.specs.declared.row.RowFault.TheVariants.{Wide, Memory}
use Rattle.whole_simplex.specs.declared.line.Line.{Line}
use Rattle.whole_simplex.specs.Faults.{IsFaultOf, eliminated_line, eliminated_pairs}
use Rattle.whole_simplex.specs.Outcome.{Pair, AreNarrow, combination_pairs, elimination_pairs}
use Rattle.whole_simplex.specs.Tables.{entry, combined, eliminated}
use Rattle.whole_simplex.proofs.FaultLemmas.{fault_left, fault_right}
use Rattle.whole_simplex.proofs.Pairs.{combination_ok, combination_err, narrow_append}

pub not_zero : (x : ℤ) → x ≢ pos 0 → is_zero x ≡ false
not_zero (pos zero) h = absurd (h refl)
not_zero (pos (suc n)) h = grind (arith, nat_tests)
not_zero (negsuc n) h = grind (arith, nat_tests)

pub eliminates_stays : (place : ℕ) (pivot row : List ℤ) → entry row place ≡ pos 0 → (row ≡ eliminated place pivot row) × AreNarrow (elimination_pairs place pivot row)
eliminates_stays place pivot row h = by_test (is_zero (entry row place)) (ap is_zero h)
  where
    by_test : (b : Bool) → b ≡ true → (row ≡ cond b row (primitive_of (combined (entry pivot place) row (entry row place) pivot))) × AreNarrow (cond b [] (combination_pairs (entry pivot place) row (entry row place) pivot))
    by_test true e = (refl, refl)
    by_test false e = absurd (cc)

pub eliminates_done : (place : ℕ) (pivot row sum new : List ℤ) → entry row place ≢ pos 0 → combination row (entry pivot place) pivot (entry row place) ≡ Ok sum → new ≡ primitive_of sum → (new ≡ eliminated place pivot row) × AreNarrow (elimination_pairs place pivot row)
eliminates_done place pivot row sum new h e f = by_test (is_zero (entry row place)) (not_zero (entry row place) h)
  where
    by_test : (b : Bool) → b ≡ false → (new ≡ cond b row (primitive_of (combined (entry pivot place) row (entry row place) pivot))) × AreNarrow (cond b [] (combination_pairs (entry pivot place) row (entry row place) pivot))
    by_test true g = absurd (cc)
    by_test false g =
        let parts = combination_ok (entry pivot place) row (entry row place) pivot sum e in
        (f ∙ ap primitive_of parts.0, parts.1)

pub eliminates_wide : (place : ℕ) (pivot row : List ℤ) (p a : ℤ) (fault : RowFault) → entry row place ≢ pos 0 → p ≡ entry pivot place → a ≡ entry row place → IsCombination (combination row p pivot a) (Err fault) → IsFaultOf (elimination_pairs place pivot row) fault
eliminates_wide place pivot row p a Memory h at_p at_a e = tt
eliminates_wide place pivot row p a (Wide b d) h at_p at_a e = by_test (is_zero (entry row place)) (not_zero (entry row place) h)
  where
    same : combination row (entry pivot place) pivot (entry row place) ≡ Err (b, d)
    same = sym (ap (λ x. combination row x pivot a) at_p ∙ ap (λ y. combination row (entry pivot place) pivot y) at_a) ∙ e

    by_test : (t : Bool) → t ≡ false → IsFaultOf (cond t [] (combination_pairs (entry pivot place) row (entry row place) pivot)) (Wide b d)
    by_test true g = absurd (cc)
    by_test false g = combination_err (entry pivot place) row (entry row place) pivot b d same

-- ---- line by line

pub line_untouched : (f : Line → Line) (old now : List Line) (i : ℕ) (d : Line) → i < length old → now ≡ map f (take i old) ++ drop i old → get_or now i d ≡ get_or old i d
line_untouched f old now i d h e =
    let long : length (map f (take i old)) ≡ i = length-map (take i old) f ∙ length-take i old ∙ omega arith in
    let here : i - i ≡ 0 = omega arith in
    let there : i + 0 ≡ i = omega arith in
    ap (λ lines. get_or lines i d) e
    ∙ get_or-append_right (map f (take i old)) (drop i old) i i d long (omega arith)
    ∙ ap (λ k. get_or (drop i old) k d) here
    ∙ get_or-drop i old 0 d
    ∙ ap (λ k. get_or old k d) there

pub fault_of_line : (f : Line → List Pair) (lines : List Line) (i : ℕ) (d : Line) (fault : RowFault) → i < length lines → IsFaultOf (f (get_or lines i d)) fault → IsFaultOf (flat_map f lines) fault
fault_of_line f [] i d fault h k = absurd (omega arith)
fault_of_line f (line ∷ lines) zero d fault h k = fault_left (f line) (flat_map f lines) fault k
fault_of_line f (line ∷ lines) (suc i) d fault h k = fault_right (f line) (flat_map f lines) fault (fault_of_line f lines i d fault (omega arith) k)

-- the line at `i` is eliminated
pub eliminated_more : (place : ℕ) (pivot : List ℤ) (old now : List Line) (i : ℕ) (line : Line) (basic : ℕ) (entries : List ℤ) → i < length old → now ≡ map (eliminated_line place pivot) (take i old) ++ drop i old → line ≡ get_or now i line → basic ≡ line.basic → entries ≡ eliminated place pivot line.entries → set now i (record { basic = basic; entries = entries }) ≡ map (eliminated_line place pivot) (take (i + 1) old) ++ drop (i + 1) old
eliminated_more place pivot old now i line basic entries h e at same new =
    ap (λ b. set now i (record { basic = b; entries = entries })) same
    ∙ ap (λ es. set now i (record { basic = line.basic; entries = es })) new
    ∙ map_over_more (eliminated_line place pivot) old now i line h e at

pub narrow_more : (place : ℕ) (pivot : List ℤ) (old now : List Line) (i : ℕ) (line : Line) → i < length old → now ≡ map (eliminated_line place pivot) (take i old) ++ drop i old → line ≡ get_or now i line → AreNarrow (flat_map (eliminated_pairs place pivot) (take i old)) → AreNarrow (elimination_pairs place pivot line.entries) → AreNarrow (flat_map (eliminated_pairs place pivot) (take (i + 1) old))
narrow_more place pivot old now i line h e at before here =
    let there : line ≡ get_or old i line = at ∙ line_untouched (eliminated_line place pivot) old now i line h e in
    let more : flat_map (eliminated_pairs place pivot) (take (i + 1) old) ≡ flat_map (eliminated_pairs place pivot) (take i old) ++ eliminated_pairs place pivot line = flat_map_at (eliminated_pairs place pivot) old i line h there in
    subst (λ pairs. AreNarrow pairs) (sym more) (narrow_append (flat_map (eliminated_pairs place pivot) (take i old)) (eliminated_pairs place pivot line) before here)
  where
    flat_map_at : (f : Line → List Pair) (lines : List Line) (i : ℕ) (line : Line) → i < length lines → line ≡ get_or lines i line → flat_map f (take (i + 1) lines) ≡ flat_map f (take i lines) ++ f line
    flat_map_at f lines i line below at =
        ap (λ l. flat_map f l) (take_more lines i line below ∙ ap (λ l. take i lines ++ l ∷ []) (sym at))
        ∙ flat_map-append f (take i lines) (line ∷ [])
        ∙ ap (λ pairs. flat_map f (take i lines) ++ pairs) (append-nil (f line))

pub fault_at : (place : ℕ) (pivot : List ℤ) (old now : List Line) (i : ℕ) (line : Line) (fault : RowFault) → i < length old → now ≡ map (eliminated_line place pivot) (take i old) ++ drop i old → line ≡ get_or now i line → IsFaultOf (elimination_pairs place pivot line.entries) fault → IsFaultOf (flat_map (eliminated_pairs place pivot) old) fault
fault_at place pivot old now i line fault h e at k =
    let there : line ≡ get_or old i line = at ∙ line_untouched (eliminated_line place pivot) old now i line h e in
    fault_of_line (eliminated_pairs place pivot) old i line fault h (subst (λ l. IsFaultOf (elimination_pairs place pivot l.entries) fault) there k)
