-- The lines before and after the pivot line.
use Rattle.std.proofs.Common.{◌≡◌, ◌≢◌, ℕ, suc, ◌+◌, ◌==◌, Bool, true, false, cond, List, [], ◌∷◌, ◌++◌, map, length, ℤ, refl, sym, ap, ◌∙◌, subst, arith, length-append}
use Rattle.std.specs.Prelude.{Some, slice_get, All}
use Rattle.std.specs.List.{flat_map}
use Rattle.std.proofs.Math.ListN.{get_or-append}
use Rattle.std.proofs.Math.Seq.{get_or-append_seam}
use Rattle.std.proofs.lemmas.Grind.{flat_map-append}
use Rattle.std.proofs.lemmas.List.{get_or-append-add, map-append}
use Rattle.std.proofs.lemmas.Bool.Decides.{nat_tests}
use Rattle.whole_rows.specs.declared.row.RowFault.{RowFault}
use Rattle.whole_simplex.specs.declared.line.Line.{Line}
use Rattle.whole_simplex.specs.Faults.{IsFaultOf, eliminated_line, eliminated_pairs}
use Rattle.whole_simplex.specs.Outcome.{Pair, AreNarrow, elimination_pairs, line_pairs}
use Rattle.whole_simplex.specs.Tables.{eliminated, pivoted_line, IsFree, AreDistinct}
use Rattle.whole_simplex.proofs.FaultLemmas.{fault_left, fault_right}
use Rattle.whole_simplex.proofs.Pairs.{narrow_append}

free_around : (before after : List Line) (pivot : Line) → AreDistinct (before ++ pivot ∷ after) → IsFree pivot.basic before × IsFree pivot.basic after
free_around [] after pivot d = (tt, d.0)
free_around (line ∷ before) after pivot d =
    let rest = free_around before after pivot d.1 in
    ((free_at before d.0, rest.0), rest.1)
  where
    free_at : (lines : List Line) → IsFree line.basic (lines ++ pivot ∷ after) → line.basic ≢ pivot.basic
    free_at [] f e = f.0 (sym e)
    free_at (other ∷ lines) f e = free_at lines f.1 e

-- lines apart from the pivot line are eliminated
other_line : (place : ℕ) (pivot line : Line) → line.basic ≢ pivot.basic → pivoted_line place pivot line ≡ eliminated_line place pivot.entries line
other_line place pivot line h = by_test (line.basic == pivot.basic) refl
  where
    by_test : (b : Bool) → (line.basic == pivot.basic) ≡ b → cond {A = Line} b (record { basic = place; entries = line.entries }) (eliminated_line place pivot.entries line) ≡ eliminated_line place pivot.entries line
    by_test true e = absurd (h (grind (arith, nat_tests)))
    by_test false e = refl

other_pairs : (place : ℕ) (pivot line : Line) → line.basic ≢ pivot.basic → line_pairs place pivot line ≡ eliminated_pairs place pivot.entries line
other_pairs place pivot line h = by_test (line.basic == pivot.basic) refl
  where
    by_test : (b : Bool) → (line.basic == pivot.basic) ≡ b → cond b [] (elimination_pairs place pivot.entries line.entries) ≡ eliminated_pairs place pivot.entries line
    by_test true e = absurd (h (grind (arith, nat_tests)))
    by_test false e = refl

own_line : (place : ℕ) (pivot : Line) → pivoted_line place pivot pivot ≡ record { basic = place; entries = pivot.entries }
own_line place pivot = by_test (pivot.basic == pivot.basic) refl
  where
    by_test : (b : Bool) → (pivot.basic == pivot.basic) ≡ b → cond {A = Line} b (record { basic = place; entries = pivot.entries }) (eliminated_line place pivot.entries pivot) ≡ record { basic = place; entries = pivot.entries }
    by_test true e = refl
    by_test false e = absurd (grind (arith, nat_tests))

own_pairs : (place : ℕ) (pivot : Line) → line_pairs place pivot pivot ≡ []
own_pairs place pivot = by_test (pivot.basic == pivot.basic) refl
  where
    by_test : (b : Bool) → (pivot.basic == pivot.basic) ≡ b → cond {A = List Pair} b [] (elimination_pairs place pivot.entries pivot.entries) ≡ []
    by_test true e = refl
    by_test false e = absurd (grind (arith, nat_tests))

other_lines : (place : ℕ) (pivot : Line) (lines : List Line) → IsFree pivot.basic lines → map (pivoted_line place pivot) lines ≡ map (eliminated_line place pivot.entries) lines
other_lines place pivot [] f = refl
other_lines place pivot (line ∷ lines) f = cc (other_line place pivot line f.0, other_lines place pivot lines f.1)

all_other_pairs : (place : ℕ) (pivot : Line) (lines : List Line) → IsFree pivot.basic lines → flat_map (line_pairs place pivot) lines ≡ flat_map (eliminated_pairs place pivot.entries) lines
all_other_pairs place pivot [] f = refl
all_other_pairs place pivot (line ∷ lines) f = cc (other_pairs place pivot line f.0, all_other_pairs place pivot lines f.1)

-- a fact of each line, before, at and after the pivot line
pub around : (Q : Line → Type 0) (lines before after : List Line) (pivot : Line) → lines ≡ before ++ pivot ∷ after → All Q lines → All Q before × Q pivot × All Q after
around Q lines before after pivot e h =
    let all : All Q (before ++ pivot ∷ after) = subst (λ l. All Q l) e h in (
      λ k d below. subst Q (get_or-append before (pivot ∷ after) d k below) (all k d (omega (arith, length-append before (pivot ∷ after)))),
      subst Q (get_or-append_seam before pivot after pivot) (all (length before) pivot (omega (arith, length-append before (pivot ∷ after)))),
      λ k d below. subst Q (get_or-append-add before (pivot ∷ after) (suc k) d) (all (length before + suc k) d (omega (arith, length-append before (pivot ∷ after)))),
    )

module _ (place : ℕ) (lines before after : List Line) (pivot same : Line) (e : lines ≡ before ++ pivot ∷ after) (d : AreDistinct lines) (leaving : ℕ) (at : slice_get lines leaving ≡ Some same) (long : length before ≡ leaving) where
  free : IsFree pivot.basic before × IsFree pivot.basic after
  free = free_around before after pivot (subst AreDistinct e d)

  get_seam : (b c : List Line) (x : Line) → slice_get (b ++ x ∷ c) (length b) ≡ Some x
  get_seam [] c x = refl
  get_seam (y ∷ b) c x = get_seam b c x

  pub pivot_is : same ≡ pivot
  pivot_is =
      let here : slice_get lines leaving ≡ Some pivot = ap (λ l. slice_get l leaving) e ∙ ap (λ k. slice_get (before ++ pivot ∷ after) k) (sym long) ∙ get_seam before after pivot in
      cc

  pivoted_pairs : flat_map (line_pairs place pivot) lines ≡ flat_map (eliminated_pairs place pivot.entries) before ++ flat_map (eliminated_pairs place pivot.entries) after
  pivoted_pairs =
      let f = free in
      let head : flat_map (line_pairs place pivot) (pivot ∷ after) ≡ flat_map (eliminated_pairs place pivot.entries) after =
      ap (λ pairs. pairs ++ flat_map (line_pairs place pivot) after) (own_pairs place pivot) ∙ all_other_pairs place pivot after f.1 in
      ap (λ l. flat_map (line_pairs place pivot) l) e ∙ flat_map-append (line_pairs place pivot) before (pivot ∷ after)
      ∙ ap (λ pairs. pairs ++ flat_map (line_pairs place pivot) (pivot ∷ after)) (all_other_pairs place pivot before f.0)
      ∙ ap (λ pairs. flat_map (eliminated_pairs place pivot.entries) before ++ pairs) head

  pivoted_lines : map (pivoted_line place pivot) lines ≡ map (eliminated_line place pivot.entries) before ++ record { basic = place; entries = pivot.entries } ∷ map (eliminated_line place pivot.entries) after
  pivoted_lines =
      let f = free in
      let head : map (pivoted_line place pivot) (pivot ∷ after) ≡ record { basic = place; entries = pivot.entries } ∷ map (eliminated_line place pivot.entries) after =
      cc (own_line place pivot, other_lines place pivot after f.1) in
      ap (λ l. map (pivoted_line place pivot) l) e ∙ map-append (pivoted_line place pivot) before (pivot ∷ after)
      ∙ ap (λ l. l ++ map (pivoted_line place pivot) (pivot ∷ after)) (other_lines place pivot before f.0)
      ∙ ap (λ l. map (eliminated_line place pivot.entries) before ++ l) head

  pub pivots_lines : (first last : List Line) → first ≡ map (eliminated_line place pivot.entries) before → last ≡ map (eliminated_line place pivot.entries) after → first ++ record { basic = place; entries = pivot.entries } ∷ last ≡ map (pivoted_line place same) lines
  pivots_lines first last h k =
      ap (λ l. l ++ record { basic = place; entries = pivot.entries } ∷ last) h
      ∙ ap (λ l. map (eliminated_line place pivot.entries) before ++ record { basic = place; entries = pivot.entries } ∷ l) k
      ∙ sym pivoted_lines ∙ ap (λ p. map (pivoted_line place p) lines) (sym pivot_is)

  pub pivots_row : (old new : List ℤ) → new ≡ eliminated place pivot.entries old → new ≡ eliminated place same.entries old
  pivots_row old new h = h ∙ ap (λ (p : Line). eliminated place p.entries old) (sym pivot_is)

  pub pivots_narrow : (old : List ℤ) → AreNarrow (flat_map (eliminated_pairs place pivot.entries) before) → AreNarrow (flat_map (eliminated_pairs place pivot.entries) after) → AreNarrow (elimination_pairs place pivot.entries old) → AreNarrow (flat_map (line_pairs place same) lines ++ elimination_pairs place same.entries old)
  pivots_narrow old h k g =
      subst (λ (p : Line). AreNarrow (flat_map (line_pairs place p) lines ++ elimination_pairs place p.entries old)) (sym pivot_is)
      (narrow_append (flat_map (line_pairs place pivot) lines) (elimination_pairs place pivot.entries old)
      (subst AreNarrow (sym pivoted_pairs) (narrow_append (flat_map (eliminated_pairs place pivot.entries) before) (flat_map (eliminated_pairs place pivot.entries) after) h k)) g)

  fault_of_lines : (old : List ℤ) (fault : RowFault) → IsFaultOf (flat_map (eliminated_pairs place pivot.entries) before ++ flat_map (eliminated_pairs place pivot.entries) after) fault → IsFaultOf (flat_map (line_pairs place same) lines ++ elimination_pairs place same.entries old) fault
  fault_of_lines old fault h =
      subst (λ (p : Line). IsFaultOf (flat_map (line_pairs place p) lines ++ elimination_pairs place p.entries old) fault) (sym pivot_is)
      (fault_left (flat_map (line_pairs place pivot) lines) (elimination_pairs place pivot.entries old) fault
      (subst (λ pairs. IsFaultOf pairs fault) (sym pivoted_pairs) h))

  pub fault_before : (old : List ℤ) (fault : RowFault) → IsFaultOf (flat_map (eliminated_pairs place pivot.entries) before) fault → IsFaultOf (flat_map (line_pairs place same) lines ++ elimination_pairs place same.entries old) fault
  fault_before old fault h = fault_of_lines old fault (fault_left (flat_map (eliminated_pairs place pivot.entries) before) (flat_map (eliminated_pairs place pivot.entries) after) fault h)

  pub fault_after : (old : List ℤ) (fault : RowFault) → IsFaultOf (flat_map (eliminated_pairs place pivot.entries) after) fault → IsFaultOf (flat_map (line_pairs place same) lines ++ elimination_pairs place same.entries old) fault
  fault_after old fault h = fault_of_lines old fault (fault_right (flat_map (eliminated_pairs place pivot.entries) before) (flat_map (eliminated_pairs place pivot.entries) after) fault h)

  pub fault_of_objective : (old : List ℤ) (fault : RowFault) → IsFaultOf (elimination_pairs place pivot.entries old) fault → IsFaultOf (flat_map (line_pairs place same) lines ++ elimination_pairs place same.entries old) fault
  fault_of_objective old fault h =
      subst (λ (p : Line). IsFaultOf (flat_map (line_pairs place p) lines ++ elimination_pairs place p.entries old) fault) (sym pivot_is)
      (fault_right (flat_map (line_pairs place pivot) lines) (elimination_pairs place pivot.entries old) fault h)
