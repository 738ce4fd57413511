-- What divides a combination of two primitive lines divides both lines' own entries.
use Rattle.std.proofs.Common.{◌≡◌, ◌≢◌, ℕ, zero, suc, ◌+◌, ◌-◌, ◌*◌, ◌/◌, ◌<◌, ◌≤◌, Bool, true, false, cond, List, [], ◌∷◌, length, ℤ, pos, ◌-ℤ◌, ◌*ℤ◌, ◌<ℤ◌, All, refl, sym, ap, ◌∙◌, subst, arith}
use Rattle.std.specs.Prelude.{unsigned_abs, nat_lt, Option, Some, None, ◌==◌}
use Rattle.std.specs.Int.{◌∣◌, IsGcd}
use Rattle.std.proofs.Math.Nat.{dvd-add, dvd-sub, dvd-mul_left, dvd-mul_right, dvd-mul_left_of_dvd, mul_comm, mul-dvd-mul_left, dvd_of_mul-dvd-mul_left, eq-zero_of_zero-dvd, one-dvd}
use Rattle.std.proofs.Math.IntN.{*ℤ-zero}
use Rattle.std.proofs.lemmas.Int.{ints, unsigned_abs-mul}
use Rattle.std.proofs.lemmas.Nat.Gcd.{dvd_trans, dvd_refl, dvd-zero, IsGcd-swap}
use Rattle.std.proofs.lemmas.Bool.Decides.{nat_tests}
use Rattle.std.proofs.lemmas.List.Elements.{All-nil, All-cons, All-head, All-tail}
use Rattle.whole_rows.specs.Row.{divisor_of, divided_by, is_zero, nat_gcd, primitive_of}
use Rattle.whole_rows.specs.Rows.{RowsData, AreRows}
use Rattle.whole_rows.proofs.Divisors.{DividesAll, IsDivisorOf, divisor_of_is, nat_gcd_is, same-divisor_of}
use Rattle.whole_simplex.specs.declared.line.Line.{Line}
use Rattle.whole_simplex.specs.Divisors.{ArePrimitive, DividesOwnEntries, HaveSharedDivisors}
use Rattle.whole_simplex.specs.Tables.{Table, entry, combined, eliminated, width, entering, leaving, pivoted, pivoted_line, after_entering, after_leaving, first_table, table_at}
use Rattle.whole_simplex.proofs.Chain.{table_equal}
use Rattle.whole_simplex.proofs.First.{first_own}
use Rattle.whole_simplex.proofs.Eliminated.{entry-combined}
use Rattle.whole_simplex.proofs.Members.{In, In-map}
use Rattle.whole_simplex.proofs.Primitive.{AreMultiples, divisor_divides, one_from, scaled_back, whole_quotient}
use Rattle.whole_simplex.proofs.Scaled.{divisor_scaled}
use Rattle.whole_simplex.proofs.Tableau.{IsTableau}
use Rattle.whole_simplex.proofs.Turning.{each_line}

-- ---- Euclid's lemma

-- the greatest common divisor of y times a and y times m is y, where a and m have none but 1
product_divides : (k a m : ℕ) → IsGcd a m 1 → m ∣ a * suc k → m ∣ suc k
product_divides k a m one h =
    let y = suc k in
    let both = nat_gcd_is (suc k * a) (suc k * m) in
    let g : ℕ = nat_gcd (suc k * a) (suc k * m) in
    let part : suc k * (g / suc k) ≡ g = whole_quotient k g (both.2 (suc k) (dvd-mul_right (suc k) a) (dvd-mul_right (suc k) m)) in
    let above : 0 < suc k = omega arith in
    let of_a : g / suc k ∣ a = dvd_of_mul-dvd-mul_left (g / suc k) above (subst (λ (n : ℕ). n ∣ suc k * a) (sym part) both.0) in
    let of_m : g / suc k ∣ m = dvd_of_mul-dvd-mul_left (g / suc k) above (subst (λ (n : ℕ). n ∣ suc k * m) (sym part) both.1) in
    let below : suc k * (g / suc k) ∣ suc k * 1 = mul-dvd-mul_left (g / suc k) (suc k) (one.2 (g / suc k) of_a of_m) in
    let same : suc k * 1 ≡ suc k = omega arith in
    let whole : g ∣ suc k = subst (λ (n : ℕ). g ∣ n) same (subst (λ (n : ℕ). n ∣ suc k * 1) part below) in
    dvd_trans m (both.2 m (subst (λ (n : ℕ). m ∣ n) (mul_comm a (suc k)) h) (dvd-mul_left m (suc k))) whole

coprime_divides : (a m y : ℕ) → IsGcd a m 1 → m ∣ a * y → m ∣ y
coprime_divides a m zero one h = dvd-zero m
coprime_divides a m (suc k) one h = product_divides k a m one h

-- ---- what divides a difference and one of its sides divides the other

other_side : (g : ℕ) (u v : ℤ) → g ∣ unsigned_abs (u -ℤ v) → g ∣ unsigned_abs u → g ∣ unsigned_abs v
other_side g u v h k = by_test (unsigned_abs v == unsigned_abs u + unsigned_abs (u -ℤ v)) refl (nat_lt (unsigned_abs u) (unsigned_abs (u -ℤ v))) refl
  where
    by_test : (b : Bool) → (unsigned_abs v == unsigned_abs u + unsigned_abs (u -ℤ v)) ≡ b → (c : Bool) → nat_lt (unsigned_abs u) (unsigned_abs (u -ℤ v)) ≡ c → g ∣ unsigned_abs v
    by_test true e c f =
        let is : unsigned_abs v ≡ unsigned_abs u + unsigned_abs (u -ℤ v) = grind (arith, nat_tests) in
        subst (λ (n : ℕ). g ∣ n) (sym is) (dvd-add g k h)
    by_test false e true f =
        let apart : unsigned_abs v ≢ unsigned_abs u + unsigned_abs (u -ℤ v) = grind (arith, nat_tests) in
        let less : unsigned_abs u < unsigned_abs (u -ℤ v) = grind (arith, nat_tests) in
        let is : unsigned_abs v ≡ unsigned_abs (u -ℤ v) - unsigned_abs u = omega (arith, ints, apart, less) in
        subst (λ (n : ℕ). g ∣ n) (sym is) (dvd-sub g h k)
    by_test false e false f =
        let apart : unsigned_abs v ≢ unsigned_abs u + unsigned_abs (u -ℤ v) = grind (arith, nat_tests) in
        let less : unsigned_abs (u -ℤ v) ≤ unsigned_abs u = grind (arith, nat_tests) in
        let is : unsigned_abs v ≡ unsigned_abs u - unsigned_abs (u -ℤ v) = omega (arith, ints, apart, less) in
        subst (λ (n : ℕ). g ∣ n) (sym is) (dvd-sub g k h)

-- ---- the combination

-- a number divides each place of a combination
abbrev pub DividesSums : ℕ → ℤ → List ℤ → ℤ → List ℤ → Type 0
DividesSums d p row a other = (k : ℕ) → d ∣ unsigned_abs (p *ℤ entry row k -ℤ a *ℤ entry other k)

turned : (u v : ℤ) → unsigned_abs (u -ℤ v) ≡ unsigned_abs (v -ℤ u)
turned u v = omega (arith, ints)

sums_turned : (d : ℕ) (p : ℤ) (row : List ℤ) (a : ℤ) (other : List ℤ) → DividesSums d p row a other → DividesSums d a other p row
sums_turned d p row a other h k = subst (λ (n : ℕ). d ∣ n) (turned (p *ℤ entry row k) (a *ℤ entry other k)) (h k)

all_from_entries : (g : ℕ) (row : List ℤ) → ((k : ℕ) → g ∣ unsigned_abs (entry row k)) → DividesAll g row
all_from_entries g [] h = All-nil (λ x. g ∣ unsigned_abs x)
all_from_entries g (x ∷ row) h = All-cons (λ y. g ∣ unsigned_abs y) x row (h 0) (all_from_entries g row (λ k. h (suc k)))

entries_from_all : (g : ℕ) (row : List ℤ) → DividesAll g row → (k : ℕ) → g ∣ unsigned_abs (entry row k)
entries_from_all g [] h k = dvd-zero g
entries_from_all g (x ∷ row) h zero = All-head (λ y. g ∣ unsigned_abs y) x row h
entries_from_all g (x ∷ row) h (suc k) = entries_from_all g row (All-tail (λ y. g ∣ unsigned_abs y) x row h) k

times_divides : (g : ℕ) (p x : ℤ) → g ∣ unsigned_abs p → g ∣ unsigned_abs (p *ℤ x)
times_divides g p x h = subst (λ (n : ℕ). g ∣ n) (sym (unsigned_abs-mul p x)) (subst (λ (n : ℕ). g ∣ n) (mul_comm (unsigned_abs x) (unsigned_abs p)) (dvd-mul_left_of_dvd g h (unsigned_abs x)))

-- what divides a combination has no divisor but 1 in common with the factor of the first row
factor_apart : (d : ℕ) (p : ℤ) (row : List ℤ) (a : ℤ) (other : List ℤ) → IsGcd (unsigned_abs p) (unsigned_abs a) 1 → divisor_of other ≡ 1 → DividesSums d p row a other → IsGcd (unsigned_abs p) d 1
factor_apart d p row a other one primitive h = (one-dvd (unsigned_abs p), one-dvd d, λ g of_p of_d. at_one g of_p of_d)
  where
    at_one : (g : ℕ) → g ∣ unsigned_abs p → g ∣ d → g ∣ 1
    at_one g of_p of_d =
        let apart : IsGcd (unsigned_abs a) g 1 = (one-dvd (unsigned_abs a), one-dvd g, λ e of_a of_g. one.2 e (dvd_trans e of_g of_p) of_a) in
        let each : (k : ℕ) → g ∣ unsigned_abs (entry other k) =
        λ k. coprime_divides (unsigned_abs a) g (unsigned_abs (entry other k)) apart
        (subst (λ (n : ℕ). g ∣ n) (unsigned_abs-mul a (entry other k))
        (other_side g (p *ℤ entry row k) (a *ℤ entry other k) (dvd_trans g of_d (h k)) (times_divides g p (entry row k) of_p))) in
        subst (λ (n : ℕ). g ∣ n) primitive ((divisor_of_is other).greatest g (all_from_entries g other each))

-- where the second row is 0, the divisor divides the first row's entry
divides_alone : (d : ℕ) (p : ℤ) (row : List ℤ) (a : ℤ) (other : List ℤ) (k : ℕ) → IsGcd (unsigned_abs p) (unsigned_abs a) 1 → divisor_of other ≡ 1 → DividesSums d p row a other → entry other k ≡ pos 0 → d ∣ unsigned_abs (entry row k)
divides_alone d p row a other k one primitive h none =
    let nothing : a *ℤ entry other k ≡ pos 0 = ap (λ y. a *ℤ y) none ∙ *ℤ-zero a in
    let alone : p *ℤ entry row k -ℤ a *ℤ entry other k ≡ p *ℤ entry row k = omega (arith, ints, nothing) in
    coprime_divides (unsigned_abs p) d (unsigned_abs (entry row k)) (factor_apart d p row a other one primitive h)
    (subst (λ (n : ℕ). d ∣ n) (ap unsigned_abs alone ∙ unsigned_abs-mul p (entry row k)) (h k))

pub own_entries : (line other : Line) → length line.entries ≡ length other.entries → divisor_of line.entries ≡ 1 → divisor_of other.entries ≡ 1 → entry other.entries line.basic ≡ pos 0 → entry line.entries other.basic ≡ pos 0 → DividesOwnEntries line other
own_entries line other same first second at_line at_other = λ p a d one all.
    let sums : DividesSums d p line.entries a other.entries =
    λ k. subst (λ z. d ∣ unsigned_abs z) (entry-combined p a line.entries other.entries k same) (entries_from_all d (combined p line.entries a other.entries) all k) in (
      divides_alone d p line.entries a other.entries line.basic one second sums at_line,
      divides_alone d a other.entries p line.entries other.basic (IsGcd-swap (unsigned_abs p) (unsigned_abs a) 1 one) first (sums_turned d p line.entries a other.entries sums) at_other,
    )

-- ---- primitive rows are primitive

zero_entry : (row : List ℤ) (k : ℕ) → DividesAll 0 row → entry row k ≡ pos 0
zero_entry row k h = let none : unsigned_abs (entry row k) ≡ 0 = eq-zero_of_zero-dvd (entries_from_all 0 row h k) in omega (arith, ints)

primitive_of-divisor : (row : List ℤ) (k : ℕ) → pos 0 <ℤ entry (primitive_of row) k → divisor_of (primitive_of row) ≡ 1
primitive_of-divisor row k h = by_divisor (divisor_of row) refl h
  where
    by_divisor : (n : ℕ) → divisor_of row ≡ n → pos 0 <ℤ entry (divided_by n row) k → divisor_of (divided_by n row) ≡ 1
    by_divisor zero e above =
        let none = zero_entry row k (subst (λ (n : ℕ). DividesAll n row) e (divisor_of_is row).divides) in
        absurd (omega (arith, ints, none, above))
    by_divisor (suc n) e above =
        let g : ℕ = divisor_of (divided_by (suc n) row) in
        let back = scaled_back n row (subst (λ (m : ℕ). AreMultiples m row) e (divisor_divides row)) in
        let scaled : IsDivisorOf row (suc n * divisor_of (divided_by (suc n) row)) = subst (λ r. IsDivisorOf r (suc n * divisor_of (divided_by (suc n) row))) back (divisor_scaled n (divided_by (suc n) row)) in
        let total : suc n * g ≡ suc n = same-divisor_of row (suc n * g) scaled ∙ e in
        let once : suc n * g ≡ suc n * 1 = omega (arith, total) in
        one_from g (dvd_of_mul-dvd-mul_left g (omega arith) (subst (λ (m : ℕ). suc n * g ∣ m) once (dvd_refl (suc n * g))))

-- ---- the lines of every table

abbrev AllPrimitive : List Line → Type 0
AllPrimitive lines = (line : Line) → In line lines → divisor_of line.entries ≡ 1

first_primitive : (d : RowsData) → AreRows d → AllPrimitive (first_table d).lines
first_primitive d r line m =
    let own = first_own d r.shape.rows_fit r.shape.rights_fit r.rights_not_negative line m in
    let divides = entries_from_all (divisor_of line.entries) line.entries (divisor_of_is line.entries).divides line.basic in
    one_from (divisor_of line.entries) (subst (λ z. divisor_of line.entries ∣ unsigned_abs z) own divides)

-- a line after the pivot is primitive, since its own entry isn't 0
line_primitive : (place : ℕ) (pivot line : Line) → divisor_of line.entries ≡ 1 → pos 0 <ℤ entry (pivoted_line place pivot line).entries (pivoted_line place pivot line).basic → divisor_of (pivoted_line place pivot line).entries ≡ 1
line_primitive place pivot line before own = by_basic (line.basic == pivot.basic) own
  where
    by_entry : (z : Bool) → pos 0 <ℤ entry (cond z line.entries (primitive_of (combined (entry pivot.entries place) line.entries (entry line.entries place) pivot.entries))) line.basic → divisor_of (cond z line.entries (primitive_of (combined (entry pivot.entries place) line.entries (entry line.entries place) pivot.entries))) ≡ 1
    by_entry true h = before
    by_entry false h = primitive_of-divisor (combined (entry pivot.entries place) line.entries (entry line.entries place) pivot.entries) line.basic h

    changed : Bool → Line
    changed b = cond b (record { basic = place; entries = line.entries }) (record { basic = line.basic; entries = eliminated place pivot.entries line.entries })

    by_basic : (b : Bool) → pos 0 <ℤ entry (changed b).entries (changed b).basic → divisor_of (changed b).entries ≡ 1
    by_basic true h = before
    by_basic false h = by_entry (is_zero (entry line.entries place)) h

pivoted_primitive : (w place : ℕ) (pivot : Line) (table : Table) → IsTableau w (pivoted place pivot table) → AllPrimitive table.lines → AllPrimitive (pivoted place pivot table).lines
pivoted_primitive w place pivot table new before line m =
    let old = In-map (pivoted_line place pivot) line table.lines m in
    let own : pos 0 <ℤ entry line.entries line.basic = new.own line m in
    subst (λ l. divisor_of l.entries ≡ 1) (sym old.2)
    (line_primitive place pivot old.0 (before old.0 old.1) (subst (λ l. pos 0 <ℤ entry l.entries l.basic) old.2 own))

leaving_primitive : (w place : ℕ) (table : Table) (o : Option Line) → IsTableau w (after_leaving place table o) → AllPrimitive table.lines → AllPrimitive (after_leaving place table o).lines
leaving_primitive w place table None new before = before
leaving_primitive w place table (Some pivot) new before = pivoted_primitive w place pivot table new before

entering_primitive : (w : ℕ) (table : Table) (o : Option ℕ) → IsTableau w (after_entering w table o) → AllPrimitive table.lines → AllPrimitive (after_entering w table o).lines
entering_primitive w table None new before = before
entering_primitive w table (Some place) new before = leaving_primitive w place table (leaving w place table.lines) new before

table_primitive : (d : RowsData) (number : ℕ) → AreRows d → AllPrimitive (table_at d number).lines
table_primitive d zero r = first_primitive d r
table_primitive d (suc number) r =
    entering_primitive (width d) (table_at d number) (entering (width d) (table_at d number).objective) (table_equal d (suc number) r).tableau (table_primitive d number r)

pub primitive_lines : (d : RowsData) (number : ℕ) → AreRows d → ArePrimitive (table_at d number).lines
primitive_lines d number r = each_line (λ line. divisor_of line.entries ≡ 1) (table_at d number).lines (table_primitive d number r)

pub shared_divisors : (d : RowsData) (number : ℕ) → AreRows d → HaveSharedDivisors (table_at d number).lines
shared_divisors d number r =
    let lines = (table_at d number).lines in
    let tableau = (table_equal d number r).tableau in
    let primitive = table_primitive d number r in
    each_line (λ line. All (λ other. line.basic ≢ other.basic → DividesOwnEntries line other) lines) lines
    (λ line m. each_line (λ other. line.basic ≢ other.basic → DividesOwnEntries line other) lines
    (λ other n apart. own_entries line other (tableau.lengths line m ∙ sym (tableau.lengths other n)) (primitive line m) (primitive other n)
    (tableau.others line other m n apart) (tableau.others other line n m (λ e. apart (sym e)))))
