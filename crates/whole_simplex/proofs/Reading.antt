-- What is read off an optimal table.
use Rattle.std.proofs.Common.{◌≡◌, ℕ, zero, suc, ◌+◌, ◌<◌, ◌^◌, Bool, true, false, cond, ◌||◌, List, [], ◌∷◌, ◌++◌, length, get_or, take, drop, ℤ, pos, ◌≤ℤ◌, refl, sym, ap, ◌∙◌, arith}
use Rattle.std.specs.Prelude.{Contains, Ok, Err, int_div}
use Rattle.std.specs.List.{list_any}
use Rattle.std.proofs.lemmas.Int.{ints}
use Rattle.std.proofs.lemmas.Bool.{false≢true}
use Rattle.std.proofs.lemmas.List.{length-take, length-drop, get_or-take, get_or-drop, take_more}
use Rattle.std.proofs.lemmas.List.Folds.{list_any-append, list_any_at}
use Rattle.std.proofs.lemmas.List.Elements.{Contains-append_left, Contains-append_right}
use Rattle.whole_rows.specs.Rows.{RowsData}
use Rattle.whole_simplex.specs.declared.Optimum.{Optimum}
use Rattle.whole_simplex.specs.declared.SolveFault.{SolveFault}
use Rattle.whole_simplex.specs.declared.SolveFault.TheVariants.{Entries, Pivots, Unbounded, Wide, Multiplier, Memory}
use Rattle.whole_simplex.specs.Faults.{FindsMultipliers}
use Rattle.whole_simplex.specs.Outcome.{Greatest, LargeMultiplier, is_large, optimal_outcome, SaysOutcome}
use Rattle.whole_simplex.specs.Tables.{entry, width}

pub large_is : (x : ℤ) → is_large x ≡ true → pos (2 ^ 80) ≤ℤ x
large_is x h = grind (arith, ints)

is_large-from : (x : ℤ) → pos (2 ^ 80) ≤ℤ x → is_large x ≡ true
is_large-from x h = grind (arith, ints)

multiplier_at : (d : RowsData) (objective : List ℤ) (row : ℕ) (e : ℤ) → row < length d.rows → get_or (take (length d.rows) (drop (length d.costs) objective)) row e ≡ get_or objective (length d.costs + row) e
multiplier_at d objective row e h = get_or-take (length d.rows) (drop (length d.costs) objective) row e h ∙ get_or-drop (length d.costs) objective row e

default_zero : (row : List ℤ) (k : ℕ) (e : ℤ) → k < length row → get_or row k e ≡ entry row k
default_zero [] k e h = absurd (omega arith)
default_zero (x ∷ row) zero e h = refl
default_zero (x ∷ row) (suc k) e h = default_zero row k e (omega arith)

pub large_multiplier : (d : RowsData) (objective : List ℤ) (row : ℕ) (x : ℤ) → length objective ≡ width d + 2 → row < length d.rows → x ≡ entry objective (length d.costs + row) → is_large x ≡ true → Contains (take (length d.rows) (drop (length d.costs) objective)) x × (pos (2 ^ 80) ≤ℤ x)
large_multiplier d objective row x long h is large = (
  (
    row,
    omega (arith, length-take (length d.rows) (drop (length d.costs) objective), length-drop (length d.costs) objective),
    multiplier_at d objective row x h ∙ default_zero objective (length d.costs + row) x (omega arith) ∙ sym is,
  ),
  large_is x large,
)

pub next_multiplier : (d : RowsData) (objective : List ℤ) (row : ℕ) (x : ℤ) (old new : List ℤ) → length objective ≡ width d + 2 → row < length d.rows → x ≡ entry objective (length d.costs + row) → old ≡ take row (drop (length d.costs) objective) → new ≡ old ++ x ∷ [] → new ≡ take (row + 1) (drop (length d.costs) objective)
next_multiplier d objective row x old new long h is before more =
    more ∙ ap (λ l. l ++ x ∷ []) before
    ∙ ap (λ y. take row (drop (length d.costs) objective) ++ y ∷ []) (is ∙ sym (get_or-drop (length d.costs) objective row (pos 0)))
    ∙ sym (take_more (drop (length d.costs) objective) row (pos 0) (omega (arith, length-drop (length d.costs) objective)))

pub none_large : (old new : List ℤ) (x : ℤ) → new ≡ old ++ x ∷ [] → list_any is_large old ≡ false → is_large x ≡ false → list_any is_large new ≡ false
none_large old new x e h k = ap (λ l. list_any is_large l) e ∙ list_any-append is_large old (x ∷ []) ∙ both
  where
    last : list_any is_large (x ∷ []) ≡ false
    last = rw k refl

    both : (list_any is_large old || list_any is_large (x ∷ [])) ≡ false
    both = rw (h, last) refl

-- ---- the answers

pub says_large : (d : RowsData) (limit number : ℕ) (values ms : List ℤ) (denominator bound x : ℤ) → Contains values x → pos (2 ^ 80) ≤ℤ x → SaysOutcome d limit (cond (list_any is_large values) (LargeMultiplier values) (Greatest number ms denominator bound)) (Err (Multiplier x))
says_large d limit number values ms denominator bound x c h =
    by_test (list_any is_large values) (list_any_at is_large values c.0 x c.1 (ap is_large c.2 ∙ is_large-from x h))
  where
    by_test : (b : Bool) → b ≡ true → SaysOutcome d limit (cond b (LargeMultiplier values) (Greatest number ms denominator bound)) (Err (Multiplier x))
    by_test true e = (c, h)
    by_test false e = absurd (false≢true e)

pub says_greatest : (d : RowsData) (limit number : ℕ) (values ms : List ℤ) (denominator bound : ℤ) (optimum : Optimum) → list_any is_large values ≡ false → optimum.pivots ≡ number → optimum.multipliers ≡ ms → optimum.denominator ≡ denominator → optimum.bound ≡ bound → SaysOutcome d limit (cond (list_any is_large values) (LargeMultiplier values) (Greatest number ms denominator bound)) (Ok optimum)
says_greatest d limit number values ms denominator bound optimum h e f g k = by_test (list_any is_large values) h
  where
    by_test : (b : Bool) → b ≡ false → SaysOutcome d limit (cond b (LargeMultiplier values) (Greatest number ms denominator bound)) (Ok optimum)
    by_test true t = absurd (false≢true (sym t))
    by_test false t = (e, f, g, k)

pub contains_multiplier : (ms : List ℤ) (denominator x : ℤ) → Contains ms x → Contains (ms ++ denominator ∷ []) x
contains_multiplier ms denominator x h = Contains-append_left ms (denominator ∷ []) x h

pub contains_denominator : (ms : List ℤ) (denominator x : ℤ) → x ≡ denominator → Contains (ms ++ denominator ∷ []) x
contains_denominator ms denominator x e = Contains-append_right ms (denominator ∷ []) x (0, omega arith, sym e)

pub fault_says : (d : RowsData) (limit number : ℕ) (objective : List ℤ) (fault : SolveFault) → FindsMultipliers d objective (Err fault) → SaysOutcome d limit (optimal_outcome d number objective) (Err fault)
fault_says d limit number objective (Multiplier value) h =
    says_large d limit number (take (length d.rows) (drop (length d.costs) objective) ++ entry objective (width d) ∷ []) (take (length d.rows) (drop (length d.costs) objective)) (entry objective (width d))
    (int_div (entry objective (width d + 1)) (entry objective (width d))) value
    (contains_multiplier (take (length d.rows) (drop (length d.costs) objective)) (entry objective (width d)) value h.0) h.1
fault_says d limit number objective Memory h = tt
fault_says d limit number objective (Entries rows columns) h = absurd h
fault_says d limit number objective (Pivots count) h = absurd h
fault_says d limit number objective (Unbounded ray) h = absurd h
fault_says d limit number objective (Wide pivots a b) h = absurd h
