-- A pivot changes no solution: what meets one table's equations meets the next one's, and the other way round.
use Rattle.std.proofs.Common.{◌≡◌, ℕ, ◌<◌, ◌==◌, inl, inr, Bool, true, false, cond, List, [], ◌∷◌, map, length, ℤ, pos, ◌*ℤ◌, ◌<ℤ◌, refl, sym, ap, subst, arith}
use Rattle.std.proofs.Math.IntN.{*ℤ-zero}
use Rattle.std.proofs.lemmas.Int.{ints}
use Rattle.std.proofs.lemmas.Bool.Decides.{nat_tests}
use Rattle.whole_simplex.specs.declared.line.Line.{Line}
use Rattle.whole_simplex.specs.Tables.{Table, entry, eliminated, pivoted_line, pivoted}
use Rattle.whole_simplex.proofs.Dots.{dot}
use Rattle.whole_simplex.proofs.Eliminated.{IsEliminated, eliminated-is, eliminated_dot}
use Rattle.whole_simplex.proofs.Integers.{zero_of_mul}
use Rattle.whole_simplex.proofs.Leaving.{IsLeaving}
use Rattle.whole_simplex.proofs.Members.{In}
use Rattle.whole_simplex.proofs.Tableau.{IsTableau, pivoted_member, objective_is, objective_length, same_lengths}

-- a number for each place that makes every line and the objective row 0
pub record IsSolution (table : Table) (v : ℕ → ℤ) : Type 0 where
  pub lines : (line : Line) → In line table.lines → dot 0 line.entries v ≡ pos 0
  pub objective : dot 0 table.objective v ≡ pos 0

-- an eliminated row is 0 where the row and the pivot row are, and the other way round
forth : {place : ℕ} {pivot row new : List ℤ} (e : IsEliminated place pivot row new) (v : ℕ → ℤ) → length row ≡ length pivot → dot 0 pivot v ≡ pos 0 → dot 0 row v ≡ pos 0 → dot 0 new v ≡ pos 0
forth {place} {pivot} {row} {new} e v same p r =
    zero_of_mul e.scale (dot 0 new v) e.scale_positive
    (omega (arith, ints, eliminated_dot e v same, ap (λ x. e.factor *ℤ x) r, *ℤ-zero e.factor, ap (λ x. entry row place *ℤ x) p, *ℤ-zero (entry row place)))

back : {place : ℕ} {pivot row new : List ℤ} (e : IsEliminated place pivot row new) (v : ℕ → ℤ) → length row ≡ length pivot → dot 0 pivot v ≡ pos 0 → dot 0 new v ≡ pos 0 → dot 0 row v ≡ pos 0
back {place} {pivot} {row} {new} e v same p n =
    zero_of_mul e.factor (dot 0 row v) e.factor_positive
    (omega (arith, ints, eliminated_dot e v same, ap (λ x. e.scale *ℤ x) n, *ℤ-zero e.scale, ap (λ x. entry row place *ℤ x) p, *ℤ-zero (entry row place)))

In-mapped : (f : Line → Line) (line : Line) (lines : List Line) → In line lines → In (f line) (map f lines)
In-mapped f line [] h = absurd h
In-mapped f line (other ∷ lines) h = elim h [ inl e ↦ inl (ap f e) | inr m ↦ inr (In-mapped f line lines m) ]

module _ (width place : ℕ) (table : Table) (pivot : Line) (tableau : IsTableau width table) (leaves : IsLeaving width place table.lines pivot) (enters : place < width) (falls : entry table.objective place <ℤ pos 0) (v : ℕ → ℤ) where
  pub solution_forth : IsSolution table v → IsSolution (pivoted place pivot table) v
  solution_forth s = record {
    lines = λ new m. elim (pivoted_member width place table pivot tableau leaves enters falls new m) [
      | inl k ↦ subst (λ es. dot 0 es v ≡ pos 0) (sym k.1) (s.lines pivot leaves.member)
      | inr c ↦ forth c.is v (same_lengths width place table pivot tableau leaves enters falls c.line c.member) (s.lines pivot leaves.member) (s.lines c.line c.member)
    ];
    objective = forth (objective_is width place table pivot tableau leaves enters falls) v (objective_length width place table pivot tableau leaves enters falls) (s.lines pivot leaves.member) s.objective;
  }

  kept_line : (line : Line) (b : Bool) → (line.basic == pivot.basic) ≡ b → dot 0 (cond {A = Line} b (record { basic = place; entries = line.entries }) (record { basic = line.basic; entries = eliminated place pivot.entries line.entries })).entries v ≡ pos 0 → line.basic ≡ pivot.basic → dot 0 line.entries v ≡ pos 0
  kept_line line true e h same = h
  kept_line line false e h same = absurd (grind (arith, nat_tests))

  back_line : (line : Line) (b : Bool) → In line table.lines → dot 0 pivot.entries v ≡ pos 0 → dot 0 (cond {A = Line} b (record { basic = place; entries = line.entries }) (record { basic = line.basic; entries = eliminated place pivot.entries line.entries })).entries v ≡ pos 0 → dot 0 line.entries v ≡ pos 0
  back_line line true m p h = h
  back_line line false m p h =
      let same = same_lengths width place table pivot tableau leaves enters falls line m in
      back (eliminated-is place pivot.entries line.entries leaves.above same) v same p h

  pub solution_back : IsSolution (pivoted place pivot table) v → IsSolution table v
  solution_back s =
      let of_pivot : dot 0 pivot.entries v ≡ pos 0 =
      kept_line pivot (pivot.basic == pivot.basic) refl (s.lines (pivoted_line place pivot pivot) (In-mapped (pivoted_line place pivot) pivot table.lines leaves.member)) refl in
      record {
        lines = λ line m. back_line line (line.basic == pivot.basic) m of_pivot (s.lines (pivoted_line place pivot line) (In-mapped (pivoted_line place pivot) line table.lines m));
        objective = back (objective_is width place table pivot tableau leaves enters falls) v (objective_length width place table pivot tableau leaves enters falls) of_pivot s.objective;
      }
