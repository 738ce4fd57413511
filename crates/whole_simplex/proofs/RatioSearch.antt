-- The search for the leaving line, line by line.
use Rattle.std.proofs.Common.{◌≡◌, ℕ, zero, suc, ◌+◌, ◌<◌, ◌≤◌, Bool, true, false, cond, List, [], ◌∷◌, ◌++◌, length, drop, pos, ◌<ℤ◌, refl, sym, ap, ◌∙◌, subst, arith, append_assoc}
use Rattle.std.specs.Prelude.{Option, Some, None, Ok, Err, slice_get, int_lt}
use Rattle.std.proofs.lemmas.Int.{ints}
use Rattle.std.proofs.lemmas.List.{drop_all, append-nil}
use Rattle.whole_rows.specs.declared.row.RowFault.{RowFault}
use Rattle.whole_simplex.specs.declared.line.Line.{Line}
use Rattle.whole_simplex.specs.Faults.{IsFaultOf, line_at, FindsLesser, FindsLeaving}
use Rattle.whole_simplex.specs.Outcome.{Pair, AreNarrow, cross_pairs, ratio_pairs, leaving_pairs}
use Rattle.whole_simplex.specs.Tables.{entry, lesser_of, least_line, leaving}
use Rattle.whole_simplex.proofs.FaultLemmas.{fault_left, fault_right}
use Rattle.whole_simplex.proofs.Pairs.{narrow_append}

-- the lines before `i` are seen: their pairs aren't wide, and `best` is the least of them
pub record IsSearched (width place : ℕ) (lines : List Line) (i : ℕ) (best : Option ℕ) : Type 0 where
  pub seen : List Pair
  pub pairs : leaving_pairs width place None lines ≡ seen ++ leaving_pairs width place (line_at lines best) (drop i lines)
  pub narrow : AreNarrow seen
  pub least : leaving width place lines ≡ least_line width place (line_at lines best) (drop i lines)

pub searched_none : (width place : ℕ) (lines : List Line) → IsSearched width place lines 0 None
searched_none width place lines = record { seen = []; pairs = refl; narrow = refl; least = refl }

rest_from : (lines : List Line) (i : ℕ) → i < length lines → (line : Line) × (slice_get lines i ≡ Some line) × (drop i lines ≡ line ∷ drop (suc i) lines)
rest_from [] i h = absurd (omega arith)
rest_from (line ∷ lines) zero h = (line, refl, refl)
rest_from (line ∷ lines) (suc i) h = rest_from lines i (omega arith)

pub rest_at : (lines : List Line) (i : ℕ) → i < length lines → (line : Line) × (slice_get lines i ≡ Some line) × (drop i lines ≡ line ∷ drop (i + 1) lines)
rest_at lines i h =
    let rest = rest_from lines i h in
    let one : suc i ≡ i + 1 = omega arith in
    (rest.0, rest.1, rest.2 ∙ ap (λ k. rest.0 ∷ drop k lines) one)

pub searched_more : (width place : ℕ) (lines : List Line) (i : ℕ) (best found : Option ℕ) → i < length lines → ((line : Line) → slice_get lines i ≡ Some line → FindsLesser width place lines best line (Ok found)) → IsSearched width place lines i best → IsSearched width place lines (i + 1) found
searched_more width place lines i best found h finds s =
    let here = rest_at lines i h in
    let step = finds here.0 here.1 in
    let line = here.0 in
    let old = line_at lines best in
    let next : leaving_pairs width place old (drop i lines) ≡ ratio_pairs width place old line ++ leaving_pairs width place (line_at lines found) (drop (i + 1) lines) =
    ap (λ rest. leaving_pairs width place old rest) here.2 ∙ ap (λ b. ratio_pairs width place old line ++ leaving_pairs width place b (drop (i + 1) lines)) (sym step.0) in
    record {
      seen = s.seen ++ ratio_pairs width place old line;
      pairs = s.pairs ∙ ap (λ rest. s.seen ++ rest) next ∙ sym (append_assoc s.seen (ratio_pairs width place old line) (leaving_pairs width place (line_at lines found) (drop (i + 1) lines)));
      narrow = narrow_append s.seen (ratio_pairs width place old line) s.narrow step.1;
      least = s.least ∙ ap (λ rest. least_line width place old rest) here.2 ∙ ap (λ b. least_line width place b (drop (i + 1) lines)) (sym step.0);
    }

pub searched_wide : (width place : ℕ) (lines : List Line) (i : ℕ) (best : Option ℕ) (fault : RowFault) → i < length lines → ((line : Line) → slice_get lines i ≡ Some line → FindsLesser width place lines best line (Err fault)) → IsSearched width place lines i best → FindsLeaving width place lines (Err fault)
searched_wide width place lines i best fault h finds s =
    let here = rest_at lines i h in
    let old = line_at lines best in
    subst (λ pairs. IsFaultOf pairs fault) (sym s.pairs)
    (fault_right s.seen (leaving_pairs width place old (drop i lines)) fault
    (subst (λ rest. IsFaultOf (leaving_pairs width place old rest) fault) (sym here.2)
    (fault_left (ratio_pairs width place old here.0) (leaving_pairs width place (lesser_of width place old here.0) (drop (i + 1) lines)) fault (finds here.0 here.1))))

pub searched_all : (width place : ℕ) (lines : List Line) (i : ℕ) (best : Option ℕ) → length lines ≤ i → IsSearched width place lines i best → FindsLeaving width place lines (Ok best)
searched_all width place lines i best h s =
    let old = line_at lines best in
    let none = drop_all i lines h in (
      sym (s.least ∙ ap (λ rest. least_line width place old rest) none),
      subst (λ pairs. AreNarrow pairs) (sym (s.pairs ∙ ap (λ rest. s.seen ++ leaving_pairs width place old rest) none ∙ append-nil s.seen)) s.narrow,
    )

-- the pairs of a comparison are those of the line
positive_pairs : (width place : ℕ) (line other : Line) (fault : RowFault) → pos 0 <ℤ entry line.entries place → IsFaultOf (cross_pairs width place line other) fault → IsFaultOf (ratio_pairs width place (Some other) line) fault
positive_pairs width place line other fault h f = by_test (int_lt (pos 0) (entry line.entries place)) refl
  where
    by_test : (b : Bool) → int_lt (pos 0) (entry line.entries place) ≡ b → IsFaultOf (cond b (cross_pairs width place line other) []) fault
    by_test true e = f
    by_test false e = absurd (grind (arith, ints))

pub ratio_fault : (width place : ℕ) (lines : List Line) (best : Option ℕ) (b i : ℕ) (line other same : Line) (fault : RowFault) → best ≡ Some b → slice_get lines b ≡ Some other → slice_get lines i ≡ Some line → slice_get lines i ≡ Some same → pos 0 <ℤ entry line.entries place → IsFaultOf (cross_pairs width place line other) fault → IsFaultOf (ratio_pairs width place (line_at lines best) same) fault
ratio_fault width place lines best b i line other same fault e f g h above k =
    let equal : line ≡ same = cc in
    let old : line_at lines best ≡ Some other = ap (λ o. line_at lines o) e ∙ f in
    subst (λ l. IsFaultOf (ratio_pairs width place (line_at lines best) l) fault) equal
    (subst (λ o. IsFaultOf (ratio_pairs width place o line) fault) (sym old) (positive_pairs width place line other fault above k))
