-- The pairs of a combination, and what the combination of rows says of them.
use Rattle.std.proofs.Common.{◌≡◌, suc, Bool, true, false, not, cond, List, [], ◌∷◌, ◌++◌, ℤ, ◌-ℤ◌, ◌*ℤ◌, refl, sym, ap, ◌∙◌, arith, rules}
use Rattle.std.specs.Prelude.{Result, Ok, Err}
use Rattle.std.proofs.lemmas.List.Elements.{Contains-append_left, Contains-append_right}
use Rattle.std.proofs.lemmas.List.Folds.{list_any-append}
use Rattle.whole_rows.specs.Row.{is_in_range, combined_entry, cons_entry, combination}
use Rattle.whole_simplex.specs.Outcome.{Pair, Product, Difference, is_wide, numbers, AreNarrow, HasWide, combination_pairs}
use Rattle.whole_simplex.specs.Tables.{combined}

-- ---- lists of pairs

pub wide_here : (pair : Pair) (pairs : List Pair) (a b : ℤ) → numbers pair ≡ (a, b) → is_wide pair ≡ true → HasWide (pair ∷ pairs) a b
wide_here pair pairs a b e h = (pair, (0, omega arith, refl), e, search rules)

pub wide_there : (pair : Pair) (pairs : List Pair) (a b : ℤ) → HasWide pairs a b → HasWide (pair ∷ pairs) a b
wide_there pair pairs a b h = (h.0, (suc h.1.0, omega (arith, h.1.1), h.1.2), h.2, h.3)

pub wide_left : (first second : List Pair) (a b : ℤ) → HasWide first a b → HasWide (first ++ second) a b
wide_left first second a b h = (h.0, Contains-append_left first second h.0 h.1, h.2, h.3)

pub wide_right : (first second : List Pair) (a b : ℤ) → HasWide second a b → HasWide (first ++ second) a b
wide_right first second a b h = (h.0, Contains-append_right first second h.0 h.1, h.2, h.3)

pub narrow_append : (first second : List Pair) → AreNarrow first → AreNarrow second → AreNarrow (first ++ second)
narrow_append first second h k = list_any-append is_wide first second ∙ cc

-- ---- a combination

-- the entry and its pairs, by the three tests
entry_ok : (p x a y r : ℤ) (first second third : Bool) → cond {A = Result ℤ (ℤ × ℤ)} first (cond second (cond third (Ok (p *ℤ x -ℤ a *ℤ y)) (Err (p *ℤ x, a *ℤ y))) (Err (a, y))) (Err (p, x)) ≡ Ok r → (r ≡ p *ℤ x -ℤ a *ℤ y) × (first ≡ true) × (second ≡ true) × (third ≡ true)
entry_ok p x a y r true true true h = (sym (cc), refl, refl, refl)
entry_ok p x a y r true true false h = absurd (cc)
entry_ok p x a y r true false third h = absurd (cc)
entry_ok p x a y r false second third h = absurd (cc)

entry_err : (p x a y c d : ℤ) (first second third : Bool) (rest : List Pair) → is_in_range (p *ℤ x) ≡ first → is_in_range (a *ℤ y) ≡ second → is_in_range (p *ℤ x -ℤ a *ℤ y) ≡ third → cond {A = Result ℤ (ℤ × ℤ)} first (cond second (cond third (Ok (p *ℤ x -ℤ a *ℤ y)) (Err (p *ℤ x, a *ℤ y))) (Err (a, y))) (Err (p, x)) ≡ Err (c, d) → HasWide (Product p x ∷ Product a y ∷ Difference (p *ℤ x) (a *ℤ y) ∷ rest) c d
entry_err p x a y c d true true true rest e f g h = absurd (cc)
entry_err p x a y c d true true false rest e f g h =
    wide_there (Product p x) (Product a y ∷ Difference (p *ℤ x) (a *ℤ y) ∷ rest) c d (wide_there (Product a y) (Difference (p *ℤ x) (a *ℤ y) ∷ rest) c d (wide_here (Difference (p *ℤ x) (a *ℤ y)) rest c d (cc) (ap not g)))
entry_err p x a y c d true false third rest e f g h =
    wide_there (Product p x) (Product a y ∷ Difference (p *ℤ x) (a *ℤ y) ∷ rest) c d (wide_here (Product a y) (Difference (p *ℤ x) (a *ℤ y) ∷ rest) c d (cc) (ap not f))
entry_err p x a y c d false second third rest e f g h =
    wide_here (Product p x) (Product a y ∷ Difference (p *ℤ x) (a *ℤ y) ∷ rest) c d (cc) (ap not e)

cons_ok : (one : Result ℤ (ℤ × ℤ)) (rest : Result (List ℤ) (ℤ × ℤ)) (r : List ℤ) → cons_entry one rest ≡ Ok r → (entry : ℤ) × (entries : List ℤ) × (one ≡ Ok entry) × (rest ≡ Ok entries) × (r ≡ entry ∷ entries)
cons_ok (Err wide) rest r h = absurd (cc)
cons_ok (Ok entry) (Err wide) r h = absurd (cc)
cons_ok (Ok entry) (Ok entries) r h = (entry, entries, refl, refl, cc)

cons_err : (one : Result ℤ (ℤ × ℤ)) (rest : Result (List ℤ) (ℤ × ℤ)) (c d : ℤ) → cons_entry one rest ≡ Err (c, d) → (P : Type 0) → (one ≡ Err (c, d) → P) → (rest ≡ Err (c, d) → P) → P
cons_err (Err wide) rest c d h P f g = f (cc)
cons_err (Ok entry) (Err wide) c d h P f g = g (cc)
cons_err (Ok entry) (Ok entries) c d h P f g = absurd (cc)

narrow_entry : (p x a y : ℤ) (rest : List Pair) → is_in_range (p *ℤ x) ≡ true → is_in_range (a *ℤ y) ≡ true → is_in_range (p *ℤ x -ℤ a *ℤ y) ≡ true → AreNarrow rest → AreNarrow (Product p x ∷ Product a y ∷ Difference (p *ℤ x) (a *ℤ y) ∷ rest)
narrow_entry p x a y rest e f g h = rw (e, f, g) h

pub combination_ok : (p : ℤ) (row : List ℤ) (a : ℤ) (other : List ℤ) (r : List ℤ) → combination row p other a ≡ Ok r → (r ≡ combined p row a other) × AreNarrow (combination_pairs p row a other)
combination_ok p [] a other r h = (sym (cc), refl)
combination_ok p (x ∷ row) a [] r h = (sym (cc), refl)
combination_ok p (x ∷ row) a (y ∷ other) r h =
    let parts = cons_ok (combined_entry p x a y) (combination row p other a) r h in
    let one = entry_ok p x a y parts.0 (is_in_range (p *ℤ x)) (is_in_range (a *ℤ y)) (is_in_range (p *ℤ x -ℤ a *ℤ y)) parts.2 in
    let rest = combination_ok p row a other parts.1 parts.3 in
    (cc (parts.4, one.0, rest.0), narrow_entry p x a y (combination_pairs p row a other) one.1 one.2 one.3 rest.1)

pub combination_err : (p : ℤ) (row : List ℤ) (a : ℤ) (other : List ℤ) (c d : ℤ) → combination row p other a ≡ Err (c, d) → HasWide (combination_pairs p row a other) c d
combination_err p [] a other c d h = absurd (cc)
combination_err p (x ∷ row) a [] c d h = absurd (cc)
combination_err p (x ∷ row) a (y ∷ other) c d h =
    cons_err (combined_entry p x a y) (combination row p other a) c d h (HasWide (combination_pairs p (x ∷ row) a (y ∷ other)) c d)
    (λ e. entry_err p x a y c d (is_in_range (p *ℤ x)) (is_in_range (a *ℤ y)) (is_in_range (p *ℤ x -ℤ a *ℤ y)) (combination_pairs p row a other) refl refl refl e)
    (λ e. wide_there (Product p x) (Product a y ∷ Difference (p *ℤ x) (a *ℤ y) ∷ combination_pairs p row a other) c d (wide_there (Product a y) (Difference (p *ℤ x) (a *ℤ y) ∷ combination_pairs p row a other) c d (wide_there (Difference (p *ℤ x) (a *ℤ y)) (combination_pairs p row a other) c d (combination_err p row a other c d e))))
