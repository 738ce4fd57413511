-- What every table keeps: lengths, the columns of the basis, signs.
use Rattle.std.proofs.Common.{◌≡◌, ◌≢◌, ℕ, ◌+◌, ◌<◌, ◌==◌, ◌⊎◌, inl, inr, Bool, true, false, cond, List, length, ℤ, pos, ◌≤ℤ◌, ◌<ℤ◌, refl, sym, ap, ◌∙◌, subst, arith}
use Rattle.std.proofs.lemmas.Int.{ints}
use Rattle.std.proofs.lemmas.Bool.Decides.{nat_tests}
use Rattle.whole_simplex.specs.declared.line.Line.{Line}
use Rattle.whole_simplex.specs.Tables.{AreDistinct, Table, entry, eliminated, pivoted_line, pivoted}
use Rattle.whole_simplex.proofs.Eliminated.{IsEliminated, eliminated-is, eliminated_length, eliminated_zero, eliminated_positive, eliminated_here, eliminated_not_negative}
use Rattle.whole_simplex.proofs.Leaving.{IsLeaving}
use Rattle.whole_simplex.proofs.Members.{In, In-map, distinct_map, distinct_same}

pub record IsTableau (width : ℕ) (table : Table) : Type 0 where
  pub lengths : (line : Line) → In line table.lines → length line.entries ≡ width + 2
  pub objective_length : length table.objective ≡ width + 2
  -- each line's basic column is among columns and slacks, no two lines share it, and it is above 0 in its line alone
  pub within : (line : Line) → In line table.lines → line.basic < width
  pub distinct : AreDistinct table.lines
  pub own : (line : Line) → In line table.lines → pos 0 <ℤ entry line.entries line.basic
  pub others : (line other : Line) → In line table.lines → In other table.lines → line.basic ≢ other.basic → entry other.entries line.basic ≡ pos 0
  pub reduced : (line : Line) → In line table.lines → entry table.objective line.basic ≡ pos 0
  -- the objective stands in the objective row alone
  pub no_objective : (line : Line) → In line table.lines → entry line.entries width ≡ pos 0
  pub denominator : pos 0 <ℤ entry table.objective width
  -- right sides aren't negative
  pub rights : (line : Line) → In line table.lines → pos 0 ≤ℤ entry line.entries (width + 1)
  pub value : pos 0 ≤ℤ entry table.objective (width + 1)

-- ---- a pivot keeps it

-- a line after the pivot: the pivot line in its new place, or another line eliminated
pub record IsChanged (place : ℕ) (pivot : Line) (lines : List Line) (new : Line) : Type 0 where
  pub line : Line
  pub member : In line lines
  pub apart : line.basic ≢ pivot.basic
  pub basic_stays : new.basic ≡ line.basic
  pub is : IsEliminated place pivot.entries line.entries new.entries

abbrev pub IsPivoted : ℕ → Line → List Line → Line → Type 0
IsPivoted place pivot lines new = ((new.basic ≡ place) × (new.entries ≡ pivot.entries)) ⊎ IsChanged place pivot lines new

module _ (width place : ℕ) (table : Table) (pivot : Line) (tableau : IsTableau width table) (leaves : IsLeaving width place table.lines pivot) (enters : place < width) (falls : entry table.objective place <ℤ pos 0) where
  pub same_lengths : (line : Line) → In line table.lines → length line.entries ≡ length pivot.entries
  same_lengths line m = tableau.lengths line m ∙ sym (tableau.lengths pivot leaves.member)

  by_test : (line : Line) → In line table.lines → (b : Bool) → (line.basic == pivot.basic) ≡ b → IsPivoted place pivot table.lines (cond b (record { basic = place; entries = line.entries }) (record { basic = line.basic; entries = eliminated place pivot.entries line.entries }))
  by_test line m true e =
      let same : line.basic ≡ pivot.basic = grind (arith, nat_tests) in
      inl (refl, ap (λ l. l.entries) (distinct_same table.lines line pivot tableau.distinct m leaves.member same))
  by_test line m false e = inr (record {
    line = line;
    member = m;
    apart = grind (arith, nat_tests);
    basic_stays = refl;
    is = eliminated-is place pivot.entries line.entries leaves.above (same_lengths line m);
  })

  pub pivoted_member : (new : Line) → In new (pivoted place pivot table).lines → IsPivoted place pivot table.lines new
  pivoted_member new h =
      let old = In-map (pivoted_line place pivot) new table.lines h in
      subst (λ l. IsPivoted place pivot table.lines l) (sym old.2) (by_test old.0 old.1 (old.0.basic == pivot.basic) refl)

  -- a line's entries after the pivot, by cases
  at_kept : (P : List ℤ → ℕ → Type 0) (new : Line) → (new.basic ≡ place) × (new.entries ≡ pivot.entries) → P pivot.entries place → P new.entries new.basic
  at_kept P new k p = subst (λ b. P new.entries b) (sym k.0) (subst (λ es. P es place) (sym k.1) p)

  new_lengths : (new : Line) → In new (pivoted place pivot table).lines → length new.entries ≡ width + 2
  new_lengths new h = elim (pivoted_member new h) [
    | inl k ↦ ap length k.1 ∙ tableau.lengths pivot leaves.member
    | inr c ↦ eliminated_length c.is (same_lengths c.line c.member) ∙ tableau.lengths c.line c.member
  ]

  new_within : (new : Line) → In new (pivoted place pivot table).lines → new.basic < width
  new_within new h = elim (pivoted_member new h) [
    | inl k ↦ subst (λ b. b < width) (sym k.0) enters
    | inr c ↦ subst (λ b. b < width) (sym c.basic_stays) (tableau.within c.line c.member)
  ]

  -- the pivot line is 0 at the basic column of every other line
  pivot_zero : (line : Line) → In line table.lines → line.basic ≢ pivot.basic → entry pivot.entries line.basic ≡ pos 0
  pivot_zero line m apart = tableau.others line pivot m leaves.member apart

  new_own : (new : Line) → In new (pivoted place pivot table).lines → pos 0 <ℤ entry new.entries new.basic
  new_own new h = elim (pivoted_member new h) [
    | inl k ↦ at_kept (λ es b. pos 0 <ℤ entry es b) new k leaves.above
    | inr c ↦ subst (λ b. pos 0 <ℤ entry new.entries b) (sym c.basic_stays)
        (eliminated_positive c.is (same_lengths c.line c.member) c.line.basic (pivot_zero c.line c.member c.apart) (tableau.own c.line c.member))
  ]

  -- the entering place is no line's basic column
  enters_new : (line : Line) → In line table.lines → line.basic ≢ place
  enters_new line m e =
      let none : entry table.objective place ≡ pos 0 = subst (λ b. entry table.objective b ≡ pos 0) e (tableau.reduced line m) in
      omega (arith, ints)

  changed_others : (new other : Line) → (c : IsChanged place pivot table.lines other) → IsPivoted place pivot table.lines new → new.basic ≢ other.basic → entry other.entries new.basic ≡ pos 0
  changed_others new other c h apart = elim h [
    | inl k ↦ subst (λ b. entry other.entries b ≡ pos 0) (sym k.0) (eliminated_here c.is (same_lengths c.line c.member))
    | inr n ↦ subst (λ b. entry other.entries b ≡ pos 0) (sym n.basic_stays)
        (eliminated_zero c.is (same_lengths c.line c.member) n.line.basic (pivot_zero n.line n.member n.apart)
        (tableau.others n.line c.line n.member c.member (λ e. apart (n.basic_stays ∙ e ∙ sym c.basic_stays))))
  ]

  new_others : (new other : Line) → In new (pivoted place pivot table).lines → In other (pivoted place pivot table).lines → new.basic ≢ other.basic → entry other.entries new.basic ≡ pos 0
  new_others new other h k apart = elim (pivoted_member other k) [
    | inl o ↦ (elim (pivoted_member new h) [
      | inl n ↦ absurd (apart (n.0 ∙ sym o.0))
      | inr c ↦ subst (λ es. entry es new.basic ≡ pos 0) (sym o.1)
          (subst (λ b. entry pivot.entries b ≡ pos 0) (sym c.basic_stays) (pivot_zero c.line c.member c.apart))
    ])
    | inr c ↦ changed_others new other c (pivoted_member new h) apart
  ]

  pub objective_length : length table.objective ≡ length pivot.entries
  objective_length = tableau.objective_length ∙ sym (tableau.lengths pivot leaves.member)

  pub objective_is : IsEliminated place pivot.entries table.objective (pivoted place pivot table).objective
  objective_is = eliminated-is place pivot.entries table.objective leaves.above objective_length

  new_reduced : (new : Line) → In new (pivoted place pivot table).lines → entry (pivoted place pivot table).objective new.basic ≡ pos 0
  new_reduced new h = elim (pivoted_member new h) [
    | inl k ↦ subst (λ b. entry (pivoted place pivot table).objective b ≡ pos 0) (sym k.0) (eliminated_here objective_is objective_length)
    | inr c ↦ subst (λ b. entry (pivoted place pivot table).objective b ≡ pos 0) (sym c.basic_stays)
        (eliminated_zero objective_is objective_length c.line.basic (pivot_zero c.line c.member c.apart) (tableau.reduced c.line c.member))
  ]

  new_no_objective : (new : Line) → In new (pivoted place pivot table).lines → entry new.entries width ≡ pos 0
  new_no_objective new h = elim (pivoted_member new h) [
    | inl k ↦ subst (λ es. entry es width ≡ pos 0) (sym k.1) (tableau.no_objective pivot leaves.member)
    | inr c ↦ eliminated_zero c.is (same_lengths c.line c.member) width (tableau.no_objective pivot leaves.member) (tableau.no_objective c.line c.member)
  ]

  new_rights : (new : Line) → In new (pivoted place pivot table).lines → pos 0 ≤ℤ entry new.entries (width + 1)
  new_rights new h = elim (pivoted_member new h) [
    | inl k ↦ subst (λ es. pos 0 ≤ℤ entry es (width + 1)) (sym k.1) (tableau.rights pivot leaves.member)
    | inr c ↦ eliminated_not_negative c.is (same_lengths c.line c.member) (width + 1) (tableau.rights c.line c.member) (tableau.rights pivot leaves.member)
        (leaves.least c.line c.member)
  ]

  -- no two lines share a basic column
  apart_by_tests : (line other : Line) → In line table.lines → In other table.lines → line.basic ≢ other.basic → (b c : Bool) → (line.basic == pivot.basic) ≡ b → (other.basic == pivot.basic) ≡ c → cond b place line.basic ≢ cond c place other.basic
  apart_by_tests line other m n apart true true e f same =
      let first : line.basic ≡ pivot.basic = grind (arith, nat_tests) in
      let second : other.basic ≡ pivot.basic = grind (arith, nat_tests) in
      apart (first ∙ sym second)
  apart_by_tests line other m n apart true false e f same = enters_new other n (sym same)
  apart_by_tests line other m n apart false true e f same = enters_new line m same
  apart_by_tests line other m n apart false false e f same = apart same

  basic_after : (line : Line) (b : Bool) → (cond {A = Line} b (record { basic = place; entries = line.entries }) (record { basic = line.basic; entries = eliminated place pivot.entries line.entries })).basic ≡ cond b place line.basic
  basic_after line true = refl
  basic_after line false = refl

  new_distinct : AreDistinct (pivoted place pivot table).lines
  new_distinct = distinct_map (pivoted_line place pivot) table.lines
      (λ line other m n apart same. apart_by_tests line other m n apart (line.basic == pivot.basic) (other.basic == pivot.basic) refl refl
      (sym (basic_after line (line.basic == pivot.basic)) ∙ same ∙ basic_after other (other.basic == pivot.basic)))
      tableau.distinct

  pub pivoted_tableau : IsTableau width (pivoted place pivot table)
  pivoted_tableau = record {
    lengths = new_lengths;
    objective_length = eliminated_length objective_is objective_length ∙ tableau.objective_length;
    within = new_within;
    distinct = new_distinct;
    own = new_own;
    others = new_others;
    reduced = new_reduced;
    no_objective = new_no_objective;
    denominator = eliminated_positive objective_is objective_length width (tableau.no_objective pivot leaves.member) tableau.denominator;
    rights = new_rights;
    value = eliminated_not_negative objective_is objective_length (width + 1) tableau.value (tableau.rights pivot leaves.member)
        (inl (omega (arith, ints)));
  }
