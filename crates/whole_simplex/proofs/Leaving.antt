-- The leaving line is one of the lines, its entry at the entering place is above 0, and no other such line has a lesser ratio.
use Rattle.std.proofs.Common.{◌≡◌, ℕ, ◌+◌, ◌⊎◌, inl, inr, Bool, true, false, cond, ◌&&◌, ◌||◌, List, [], ◌∷◌, ℤ, pos, ◌*ℤ◌, ◌≤ℤ◌, ◌<ℤ◌, refl, sym, ap, ◌∙◌, subst, arith}
use Rattle.std.specs.Prelude.{Option, Some, None, int_lt, int_le, nat_lt}
use Rattle.std.proofs.Math.IntN.{*ℤ_comm}
use Rattle.std.proofs.lemmas.Int.{ints, by_lt_z}
use Rattle.whole_simplex.specs.declared.line.Line.{Line}
use Rattle.whole_simplex.specs.Tables.{entry, comes_before, lesser, lesser_of, least_line, leaving}
use Rattle.whole_simplex.proofs.Integers.{mul_le, mul_swap, le_of_mul, le_of_lt}
use Rattle.whole_simplex.proofs.Members.{In}

-- the ratio of right side to entry is at most that of the other line
pub record HasLess (width place : ℕ) (line other : Line) : Type 0 where
  pub less : (entry line.entries (width + 1) *ℤ entry other.entries place) ≤ℤ (entry other.entries (width + 1) *ℤ entry line.entries place)

-- the entry at the entering place is above 0
pub record IsOpen (place : ℕ) (line : Line) : Type 0 where
  pub above : pos 0 <ℤ entry line.entries place

pub HasLess_refl : (width place : ℕ) (line : Line) → HasLess width place line line
HasLess_refl width place line = record { less = omega (arith, ints) }

-- ratios are compared by products: p / a <= q / b <= r / c
ratios : (p a q b r c : ℤ) → pos 0 <ℤ a → pos 0 <ℤ b → pos 0 <ℤ c → (p *ℤ b) ≤ℤ (q *ℤ a) → (q *ℤ c) ≤ℤ (r *ℤ b) → (p *ℤ c) ≤ℤ (r *ℤ a)
ratios p a q b r c ha hb hc h k =
    let first : (c *ℤ (p *ℤ b)) ≤ℤ (c *ℤ (q *ℤ a)) = mul_le c (p *ℤ b) (q *ℤ a) (le_of_lt c hc) h in
    let second : (a *ℤ (q *ℤ c)) ≤ℤ (a *ℤ (r *ℤ b)) = mul_le a (q *ℤ c) (r *ℤ b) (le_of_lt a ha) k in
    let left : c *ℤ (p *ℤ b) ≡ b *ℤ (p *ℤ c) = ap (λ x. c *ℤ x) (*ℤ_comm p b) ∙ mul_swap c b p ∙ ap (λ x. b *ℤ x) (*ℤ_comm c p) in
    let middle : c *ℤ (q *ℤ a) ≡ a *ℤ (q *ℤ c) = ap (λ x. c *ℤ x) (*ℤ_comm q a) ∙ mul_swap c a q ∙ ap (λ x. a *ℤ x) (*ℤ_comm c q) in
    let right : a *ℤ (r *ℤ b) ≡ b *ℤ (r *ℤ a) = ap (λ x. a *ℤ x) (*ℤ_comm r b) ∙ mul_swap a b r ∙ ap (λ x. b *ℤ x) (*ℤ_comm a r) in
    le_of_mul b (p *ℤ c) (r *ℤ a) hb (omega (arith, ints))

pub HasLess_trans : {width place : ℕ} {line other third : Line} → IsOpen place line → IsOpen place other → IsOpen place third → HasLess width place line other → HasLess width place other third → HasLess width place line third
HasLess_trans {width} {place} {line} {other} {third} a b c h k = record {
  less = ratios (entry line.entries (width + 1)) (entry line.entries place) (entry other.entries (width + 1)) (entry other.entries place)
      (entry third.entries (width + 1)) (entry third.entries place) a.above b.above c.above h.less k.less;
}

-- ---- the tests

test_passed : (a b : ℤ) → int_lt a b ≡ true → a <ℤ b
test_passed a b h = grind (arith, ints)

test_failed : (a b : ℤ) → int_lt a b ≡ false → b ≤ℤ a
test_failed a b h = grind (arith, ints)

before_passed : (m i : ℤ) (first second third : Bool) → int_lt m i ≡ first → int_le m i ≡ second → (first || (second && third)) ≡ true → m ≤ℤ i
before_passed m i true second third e f h = grind (arith, ints)
before_passed m i false true third e f h = grind (arith, ints)
before_passed m i false false third e f h = cc

before_failed : (m i : ℤ) (first : Bool) (rest : Bool) → int_lt m i ≡ first → (first || rest) ≡ false → i ≤ℤ m
before_failed m i true rest e h = cc
before_failed m i false rest e h = grind (arith, ints)

before_is : (width place : ℕ) (line other : Line) → comes_before width place line other ≡ true → HasLess width place line other
before_is width place line other h = record {
  less = before_passed (entry line.entries (width + 1) *ℤ entry other.entries place) (entry other.entries (width + 1) *ℤ entry line.entries place)
      _ _ (nat_lt line.basic other.basic) refl refl h;
}

not_before_is : (width place : ℕ) (line other : Line) → comes_before width place line other ≡ false → HasLess width place other line
not_before_is width place line other h = record {
  less = before_failed (entry line.entries (width + 1) *ℤ entry other.entries place) (entry other.entries (width + 1) *ℤ entry line.entries place)
      _ _ refl h;
}

-- ---- the least line

-- what is kept of the least line so far
pub record IsLeast (width place : ℕ) (best : Option Line) (lines : List Line) (pivot : Line) : Type 0 where
  pub found : (best ≡ Some pivot) ⊎ In pivot lines
  pub open_there : IsOpen place pivot
  pub least : (line : Line) → In line lines → IsOpen place line → HasLess width place pivot line
  pub least_of_best : (line : Line) → best ≡ Some line → HasLess width place pivot line

-- the best line so far, if there is one, has an entry above 0
abbrev pub IsOpenBest : ℕ → Option Line → Type 0
IsOpenBest place None = Unit {0}
IsOpenBest place (Some best) = IsOpen place best

some_same : (a b : Line) → Some a ≡ Some b → a ≡ b
some_same a b h = cc

-- the least line once a further line is seen
record IsLesser (width place : ℕ) (best : Option Line) (line : Line) (next : Option Line) : Type 0 where
  open_next : IsOpenBest place next
  from : (other : Line) → next ≡ Some other → (best ≡ Some other) ⊎ (other ≡ line)
  for_line : IsOpen place line → (other : Line) × (next ≡ Some other) × HasLess width place other line
  for_best : (old : Line) → best ≡ Some old → (other : Line) × (next ≡ Some other) × HasLess width place other old

lesser_by_test : (width place : ℕ) (best line : Line) (b : Bool) → comes_before width place line best ≡ b → IsOpen place best → IsOpen place line → IsLesser width place (Some best) line (Some (cond b line best))
lesser_by_test width place best line true h o p = record {
  open_next = p;
  from = λ other e. inr (some_same other line (sym e));
  for_line = λ q. (line, refl, HasLess_refl width place line);
  for_best = λ old e. (line, refl, subst (λ l. HasLess width place line l) (some_same best old e) (before_is width place line best h));
}
lesser_by_test width place best line false h o p = record {
  open_next = o;
  from = λ other e. inl e;
  for_line = λ q. (best, refl, not_before_is width place line best h);
  for_best = λ old e. (best, refl, subst (λ l. HasLess width place best l) (some_same best old e) (HasLess_refl width place best));
}

lesser_when : (width place : ℕ) (best : Option Line) (line : Line) (b : Bool) → int_lt (pos 0) (entry line.entries place) ≡ b → IsOpenBest place best → IsLesser width place best line (cond b (Some (lesser width place best line)) best)
lesser_when width place None line true h o =
    let p : IsOpen place line = record { above = test_passed (pos 0) (entry line.entries place) h } in
    record {
      open_next = p;
      from = λ other e. inr (some_same other line (sym e));
      for_line = λ q. (line, refl, HasLess_refl width place line);
      for_best = λ old e. absurd (cc);
    }
lesser_when width place (Some best) line true h o =
    lesser_by_test width place best line (comes_before width place line best) refl o (record { above = test_passed (pos 0) (entry line.entries place) h })
lesser_when width place best line false h o = record {
  open_next = o;
  from = λ other e. inl e;
  for_line = λ q. (let low : entry line.entries place ≤ℤ pos 0 = test_failed (pos 0) (entry line.entries place) h in let high : pos 0 <ℤ entry line.entries place = q.above in absurd (omega (arith, ints)));
  for_best = λ old e. (old, e, HasLess_refl width place old);
}

lesser-is : (width place : ℕ) (best : Option Line) (line : Line) → IsOpenBest place best → IsLesser width place best line (lesser_of width place best line)
lesser-is width place best line o = lesser_when width place best line (int_lt (pos 0) (entry line.entries place)) refl o

open_of_best : (place : ℕ) (best : Option Line) (line : Line) → IsOpenBest place best → best ≡ Some line → IsOpen place line
open_of_best place None line o e = absurd (cc)
open_of_best place (Some best) line o e = subst (λ l. IsOpen place l) (some_same best line e) o

least_line-is : (width place : ℕ) (best : Option Line) (lines : List Line) (pivot : Line) → IsOpenBest place best → least_line width place best lines ≡ Some pivot → IsLeast width place best lines pivot
least_line-is width place None [] pivot o h = absurd (cc)
least_line-is width place (Some best) [] pivot o h =
    let same : best ≡ pivot = cc in
    record {
      found = inl h;
      open_there = subst (λ l. IsOpen place l) same o;
      least = λ line m p. absurd m;
      least_of_best = λ line e. (let other : pivot ≡ line = cc in subst (λ l. HasLess width place pivot l) other (HasLess_refl width place pivot));
    }
least_line-is width place best (line ∷ lines) pivot o h =
    let step = lesser-is width place best line o in
    let rest = least_line-is width place (lesser_of width place best line) lines pivot step.open_next h in
    record {
      found = elim rest.found [
        | inl e ↦ (elim (step.from pivot e) [ inl b ↦ inl b | inr l ↦ inr (inl l) ])
        | inr m ↦ inr (inr m)
      ];
      open_there = rest.open_there;
      least = λ other m p. (elim m [
        | inl e ↦ (let q : IsOpen place line = subst (λ l. IsOpen place l) e p in
            let seen = step.for_line q in
            let chained : HasLess width place pivot line =
            HasLess_trans rest.open_there (open_of_best place (lesser_of width place best line) seen.0 step.open_next seen.1) q
            (rest.least_of_best seen.0 seen.1) seen.2 in
            subst (λ l. HasLess width place pivot l) (sym e) chained)
        | inr n ↦ rest.least other n p
      ]);
      least_of_best = λ other e.
          (let seen = step.for_best other e in
          HasLess_trans rest.open_there (open_of_best place (lesser_of width place best line) seen.0 step.open_next seen.1) (open_of_best place best other o e)
          (rest.least_of_best seen.0 seen.1) seen.2);
    }

-- the leaving line
pub record IsLeaving (width place : ℕ) (lines : List Line) (pivot : Line) : Type 0 where
  pub member : In pivot lines
  pub above : pos 0 <ℤ entry pivot.entries place
  pub least : (line : Line) → In line lines → (entry line.entries place ≤ℤ pos 0) ⊎ ((entry pivot.entries (width + 1) *ℤ entry line.entries place) ≤ℤ (entry line.entries (width + 1) *ℤ entry pivot.entries place))

pub leaving-is : (width place : ℕ) (lines : List Line) (pivot : Line) → leaving width place lines ≡ Some pivot → IsLeaving width place lines pivot
leaving-is width place lines pivot h =
    let found = least_line-is width place None lines pivot tt h in
    record {
      member = elim found.found [ inl e ↦ absurd (cc) | inr m ↦ m ];
      above = found.open_there.above;
      least = λ line m. by_lt_z (pos 0) (entry line.entries place)
          (λ (above : pos 0 <ℤ entry line.entries place). inr (found.least line m (record { above = above })).less)
          (λ (low : entry line.entries place ≤ℤ pos 0). inl low);
    }

-- with a line so far, there is a least one
some_by_test : (width place : ℕ) (best line : Line) (lines : List Line) (b : Bool) → ((kept : Line) → least_line width place (Some kept) lines ≡ None → ⊥) → least_line width place (cond b (Some line) (Some best)) lines ≡ None → ⊥
some_by_test width place best line lines true rest h = rest line h
some_by_test width place best line lines false rest h = rest best h

least_line-some : (width place : ℕ) (best : Line) (lines : List Line) → least_line width place (Some best) lines ≡ None → ⊥
least_line-some width place best [] h = cc
least_line-some width place best (line ∷ lines) h =
    some_by_test width place best (lesser width place (Some best) line) lines (int_lt (pos 0) (entry line.entries place))
    (λ kept k. least_line-some width place kept lines k) h

pub none_by_test : (width place : ℕ) (first : Line) (lines : List Line) (b : Bool) → int_lt (pos 0) (entry first.entries place) ≡ b → least_line width place (cond b (Some first) None) lines ≡ None → (entry first.entries place ≤ℤ pos 0) × (leaving width place lines ≡ None)
none_by_test width place first lines true e h = absurd (least_line-some width place first lines h)
none_by_test width place first lines false e h = (test_failed (pos 0) (entry first.entries place) e, h)

-- where no line leaves, no line has an entry above 0 at the entering place
pub none_leaves : (width place : ℕ) (lines : List Line) → leaving width place lines ≡ None → (line : Line) → In line lines → entry line.entries place ≤ℤ pos 0
none_leaves width place [] h line m = absurd m
none_leaves width place (first ∷ lines) h line m =
    let parts = none_by_test width place first lines (int_lt (pos 0) (entry first.entries place)) refl h in
    elim m [
      | inl same ↦ subst (λ l. entry l.entries place ≤ℤ pos 0) (sym same) parts.0
      | inr n ↦ none_leaves width place lines parts.1 line n
    ]
