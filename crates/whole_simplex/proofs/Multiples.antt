-- The least common multiple and the entries of a ray, as they are computed.
use Rattle.std.proofs.Common.{◌≡◌, ℕ, zero, suc, ◌+◌, ◌<◌, ◌≤◌, ◌^◌, Bool, true, false, cond, List, [], ◌∷◌, ◌++◌, length, get_or, take, drop, set, replicate, ℤ, pos, negsuc, ◌*ℤ◌, ◌≤ℤ◌, ◌<ℤ◌, refl, sym, ap, ◌∙◌, subst, arith, append_assoc, lit<, ◌||◌}
use Rattle.std.specs.Prelude.{unsigned_abs, int_div, nat_lt, Ok}
use Rattle.std.specs.List.{flat_map}
use Rattle.std.specs.Int.{IsGcd, w128}
use mir.Val.{SFits}
use Rattle.std.proofs.lemmas.Int.{ints}
use Rattle.std.proofs.lemmas.Bool.Decides.{nat_tests}
use Rattle.std.proofs.lemmas.List.{drop_all, append-nil, take_more, take_all}
use Rattle.std.proofs.lemmas.Grind.{flat_map-append}
use Rattle.std.proofs.Math.Seq.{drop-cons}
use Rattle.std.proofs.Math.ListN.{length-replicate, length-set}
use Rattle.std.proofs.lemmas.Nat.Gcd.{le_of_dvd}
use Rattle.std.proofs.Math.Nat.{eq-zero_of_zero-dvd}
use Rattle.whole_rows.specs.Row.{IsInRange, primitive_of}
use Rattle.whole_rows.proofs.Combinations.{fits_from_range}
use Rattle.whole_rows.specs.declared.row.RowFault.{RowFault}
use Rattle.whole_rows.specs.declared.row.RowFault.TheVariants.{Wide}
use Rattle.whole_simplex.specs.declared.line.Line.{Line}
use Rattle.whole_simplex.specs.Faults.{IsFaultOf, FindsCommonMultiple}
use Rattle.whole_simplex.specs.Outcome.{Pair, Product, Multiple, AreNarrow, is_large, multiple_of, multiple_from, multiple_pairs, falling, share, basic_pairs, direction_pairs, with_basics, ray_of, ray_pairs}
use Rattle.whole_simplex.specs.Tables.{entry}
use Rattle.whole_simplex.proofs.FaultLemmas.{fault_left, fault_right}
use Rattle.whole_simplex.proofs.Integers.{mul_not_negative}
use Rattle.whole_simplex.proofs.Pairs.{wide_here, narrow_append}
use Rattle.whole_simplex.proofs.Basis.{multiple_of-is}

-- ---- the divisor

pub divisor_above : (a b : ℤ) (g : ℕ) → pos 0 <ℤ a → IsGcd (unsigned_abs a) (unsigned_abs b) g → 0 < g
divisor_above a b zero h i = (let none : unsigned_abs a ≡ 0 = eq-zero_of_zero-dvd i.0 in absurd (omega (arith, ints)))
divisor_above a b (suc g) h i = omega arith

pub divisor_small : (a b : ℤ) (g : ℕ) → pos 0 <ℤ a → IsInRange a → IsGcd (unsigned_abs a) (unsigned_abs b) g → g < 2 ^ 127
divisor_small a b g h r i =
    let above : 0 < unsigned_abs a = omega (arith, ints) in
    omega (arith, le_of_dvd above i.0)

-- ---- one multiple

pub not_fitting_large : (x y : ℤ) → pos 0 ≤ℤ x → pos 0 ≤ℤ y → (SFits w128 (x *ℤ y) → ⊥) → is_large (x *ℤ y) ≡ true
not_fitting_large x y h k f = by_test (is_large (x *ℤ y)) refl
  where
    low : pos 0 ≤ℤ (x *ℤ y)
    low = mul_not_negative x y h k

    fits : (z : ℤ) → pos 0 ≤ℤ z → z <ℤ pos (2 ^ 80) → SFits w128 z
    fits z a b = (let r : IsInRange z = omega (arith, ints) in fits_from_range z r)

    small : (z : ℤ) → is_large z ≡ false → z <ℤ pos (2 ^ 80)
    small z e = grind (arith, ints)

    by_test : (b : Bool) → is_large (x *ℤ y) ≡ b → b ≡ true
    by_test true e = refl
    by_test false e = absurd (f (fits (x *ℤ y) low (small (x *ℤ y) e)))

pub large_fault : (a b : ℤ) (fault : RowFault) → fault ≡ Wide a b → is_large (multiple_of a b) ≡ true → IsFaultOf (Multiple a b ∷ []) fault
large_fault a b fault e h = subst (λ f. IsFaultOf (Multiple a b ∷ []) f) (sym e) (wide_here (Multiple a b) [] a b refl h)

pub small_narrow : (a b : ℤ) → is_large (multiple_of a b) ≡ false → AreNarrow (Multiple a b ∷ [])
small_narrow a b h = rw h refl

small_in_range : (x : ℤ) → pos 0 ≤ℤ x → is_large x ≡ false → IsInRange x
small_in_range x h k = (let small : x <ℤ pos (2 ^ 80) = grind (arith, ints) in omega (arith, ints))

-- ---- the lines

line_from : (lines : List Line) (i : ℕ) (line : Line) → i < length lines → line ≡ get_or lines i line → drop i lines ≡ line ∷ drop (i + 1) lines
line_from lines i line h at =
    let one : suc i ≡ i + 1 = omega arith in
    drop-cons lines i line h ∙ ap (λ l. l ∷ drop (suc i) lines) (sym at) ∙ ap (λ k. line ∷ drop k lines) one

pub record IsMultiplied (lines : List Line) (i : ℕ) (multiple : ℤ) : Type 0 where
  pub seen : List Pair
  pub pairs : multiple_pairs (pos 1) lines ≡ seen ++ multiple_pairs multiple (drop i lines)
  pub narrow : AreNarrow seen
  pub whole : multiple_from (pos 1) lines ≡ multiple_from multiple (drop i lines)
  pub above : pos 0 <ℤ multiple
  pub in_range : IsInRange multiple

pub multiplied_none : (lines : List Line) → IsMultiplied lines 0 (pos 1)
multiplied_none lines = record { seen = []; pairs = refl; narrow = refl; whole = refl; above = omega (arith, ints); in_range = lit< tt }

pub multiplied_more : (lines : List Line) (i : ℕ) (line : Line) (multiple next : ℤ) → i < length lines → line ≡ get_or lines i line → pos 0 <ℤ entry line.entries line.basic → next ≡ multiple_of multiple (entry line.entries line.basic) → AreNarrow (Multiple multiple (entry line.entries line.basic) ∷ []) → IsMultiplied lines i multiple → IsMultiplied lines (i + 1) next
multiplied_more lines i line multiple next h at own is narrow m =
    let here = line_from lines i line h at in
    let own_entry : ℤ = entry line.entries line.basic in
    let step : multiple_pairs multiple (drop i lines) ≡ (Multiple multiple own_entry ∷ []) ++ multiple_pairs next (drop (i + 1) lines) =
    ap (λ l. multiple_pairs multiple l) here ∙ ap (λ x. Multiple multiple own_entry ∷ multiple_pairs x (drop (i + 1) lines)) (sym is) in
    let above : pos 0 <ℤ next = rw is (multiple_of-is multiple own_entry m.above own).above in
    let small : is_large next ≡ false = rw is (narrow_small multiple own_entry narrow) in
    record {
      seen = m.seen ++ (Multiple multiple own_entry ∷ []);
      pairs = m.pairs ∙ ap (λ l. m.seen ++ l) step ∙ sym (append_assoc m.seen (Multiple multiple own_entry ∷ []) (multiple_pairs next (drop (i + 1) lines)));
      narrow = narrow_append m.seen (Multiple multiple own_entry ∷ []) m.narrow narrow;
      whole = m.whole ∙ ap (λ l. multiple_from multiple l) here ∙ ap (λ x. multiple_from x (drop (i + 1) lines)) (sym is);
      above = above;
      in_range = small_in_range next (omega (arith, ints)) small;
    }
  where
    narrow_small : (a b : ℤ) → AreNarrow (Multiple a b ∷ []) → is_large (multiple_of a b) ≡ false
    narrow_small a b n = by_test (is_large (multiple_of a b)) n
      where
        by_test : (t : Bool) → (t || false) ≡ false → t ≡ false
        by_test true e = absurd (cc)
        by_test false e = refl

pub multiplied_wide : (lines : List Line) (i : ℕ) (line : Line) (multiple : ℤ) (fault : RowFault) → i < length lines → line ≡ get_or lines i line → IsFaultOf (Multiple multiple (entry line.entries line.basic) ∷ []) fault → IsMultiplied lines i multiple → IsFaultOf (multiple_pairs (pos 1) lines) fault
multiplied_wide lines i line multiple fault h at f m =
    let here = line_from lines i line h at in
    let own_entry : ℤ = entry line.entries line.basic in
    subst (λ pairs. IsFaultOf pairs fault) (sym m.pairs)
    (fault_right m.seen (multiple_pairs multiple (drop i lines)) fault
    (subst (λ l. IsFaultOf (multiple_pairs multiple l) fault) (sym here)
    (fault_left (Multiple multiple own_entry ∷ []) (multiple_pairs (multiple_of multiple own_entry) (drop (i + 1) lines)) fault f)))

pub multiplied_all : (lines : List Line) (i : ℕ) (multiple : ℤ) → length lines ≤ i → IsMultiplied lines i multiple → (multiple ≡ multiple_from (pos 1) lines) × AreNarrow (multiple_pairs (pos 1) lines)
multiplied_all lines i multiple h m =
    let none = drop_all i lines h in (
      sym (m.whole ∙ ap (λ l. multiple_from multiple l) none),
      subst (λ pairs. AreNarrow pairs) (sym (m.pairs ∙ ap (λ l. m.seen ++ multiple_pairs multiple l) none ∙ append-nil m.seen)) m.narrow,
    )

-- ---- the ray's entries

pub past_columns : (place : ℕ) (multiple : ℤ) (line : Line) (ray : List ℤ) → length ray ≤ line.basic → (ray ≡ set ray line.basic (falling place line *ℤ share multiple line)) × AreNarrow (basic_pairs (length ray) place multiple line)
past_columns place multiple line ray h = (sym (set_past ray line.basic (falling place line *ℤ share multiple line) h), by_test (nat_lt line.basic (length ray)) refl)
  where
    set_past : (row : List ℤ) (k : ℕ) (x : ℤ) → length row ≤ k → set row k x ≡ row
    set_past [] k x g = refl
    set_past (y ∷ row) zero x g = absurd (omega arith)
    set_past (y ∷ row) (suc k) x g = ap (λ r. y ∷ r) (set_past row k x (omega arith))

    by_test : (b : Bool) → nat_lt line.basic (length ray) ≡ b → AreNarrow (cond b (Product (falling place line) (share multiple line) ∷ []) [])
    by_test true e = absurd (grind (arith, nat_tests))
    by_test false e = refl

pub column_pairs : (columns place : ℕ) (multiple : ℤ) (line : Line) → line.basic < columns → basic_pairs columns place multiple line ≡ Product (falling place line) (share multiple line) ∷ []
column_pairs columns place multiple line h = by_test (nat_lt line.basic columns) refl
  where
    by_test : (b : Bool) → nat_lt line.basic columns ≡ b → cond b (Product (falling place line) (share multiple line) ∷ []) [] ≡ Product (falling place line) (share multiple line) ∷ []
    by_test true e = refl
    by_test false e = absurd (grind (arith, nat_tests))

pub record IsPlaced (place : ℕ) (multiple : ℤ) (lines : List Line) (i : ℕ) (old ray : List ℤ) : Type 0 where
  pub narrow : AreNarrow (flat_map (basic_pairs (length old) place multiple) (take i lines))
  pub whole : with_basics place multiple lines old ≡ with_basics place multiple (drop i lines) ray
  pub long : length ray ≡ length old

pub placed_none : (place : ℕ) (multiple : ℤ) (lines : List Line) (old : List ℤ) → IsPlaced place multiple lines 0 old old
placed_none place multiple lines old = record { narrow = refl; whole = refl; long = refl }

flat_map_at : (f : Line → List Pair) (lines : List Line) (i : ℕ) (line : Line) → i < length lines → line ≡ get_or lines i line → flat_map f (take (i + 1) lines) ≡ flat_map f (take i lines) ++ f line
flat_map_at f lines i line below at =
    ap (λ l. flat_map f l) (take_more lines i line below ∙ ap (λ l. take i lines ++ l ∷ []) (sym at))
    ∙ flat_map-append f (take i lines) (line ∷ [])
    ∙ ap (λ pairs. flat_map f (take i lines) ++ pairs) (append-nil (f line))

pub placed_more : (place : ℕ) (multiple : ℤ) (lines : List Line) (i : ℕ) (line : Line) (old ray new : List ℤ) → i < length lines → line ≡ get_or lines i line → new ≡ set ray line.basic (falling place line *ℤ share multiple line) → length new ≡ length ray → AreNarrow (basic_pairs (length ray) place multiple line) → IsPlaced place multiple lines i old ray → IsPlaced place multiple lines (i + 1) old new
placed_more place multiple lines i line old ray new h at is long narrow p =
    let here = line_from lines i line h at in
    let same : AreNarrow (basic_pairs (length old) place multiple line) = subst (λ n. AreNarrow (basic_pairs n place multiple line)) p.long narrow in
    record {
      narrow = subst AreNarrow (sym (flat_map_at (basic_pairs (length old) place multiple) lines i line h at))
          (narrow_append (flat_map (basic_pairs (length old) place multiple) (take i lines)) (basic_pairs (length old) place multiple line) p.narrow same);
      whole = p.whole ∙ ap (λ l. with_basics place multiple l ray) here ∙ ap (λ r. with_basics place multiple (drop (i + 1) lines) r) (sym is);
      long = long ∙ p.long;
    }

pub placed_all : (place : ℕ) (multiple : ℤ) (lines : List Line) (i : ℕ) (old ray : List ℤ) → length lines ≡ i → IsPlaced place multiple lines i old ray → (ray ≡ with_basics place multiple lines old) × AreNarrow (direction_pairs (length old) place multiple lines)
placed_all place multiple lines i old ray h p =
    let none : drop i lines ≡ [] = drop_all i lines (omega arith) in
    let all : take i lines ≡ lines = take_all i lines (omega arith) in (
      sym (p.whole ∙ ap (λ l. with_basics place multiple l ray) none),
      subst (λ l. AreNarrow (flat_map (basic_pairs (length old) place multiple) l)) all p.narrow,
    )

pub quotient_above : (a : ℤ) (g : ℕ) → pos 0 <ℤ a → pos 0 ≤ℤ int_div a (pos g)
quotient_above (pos n) g h = omega (arith, ints)
quotient_above (negsuc n) g h = absurd (omega (arith, ints))

-- ---- the whole ray

started_long : (columns place : ℕ) (multiple : ℤ) → length (set (replicate columns (pos 0)) place multiple) ≡ columns
started_long columns place multiple = length-set (replicate columns (pos 0)) place multiple ∙ length-replicate columns (pos 0)

pub direction_done : (columns place : ℕ) (lines : List Line) (multiple : ℤ) (start put ray : List ℤ) → FindsCommonMultiple lines (Ok multiple) → start ≡ set (replicate columns (pos 0)) place multiple → (put ≡ with_basics place multiple lines start) × AreNarrow (direction_pairs (length start) place multiple lines) → ray ≡ primitive_of put → (ray ≡ ray_of columns place lines) × AreNarrow (ray_pairs columns place lines)
direction_done columns place lines multiple start put ray m s p is =
    let long : length start ≡ columns = ap length s ∙ started_long columns place multiple in
    let narrow : AreNarrow (direction_pairs columns place (multiple_from (pos 1) lines) lines) =
    subst (λ x. AreNarrow (direction_pairs columns place x lines)) m.0 (subst (λ n. AreNarrow (direction_pairs n place multiple lines)) long p.1) in (
      is ∙ ap primitive_of (p.0 ∙ ap (λ r. with_basics place multiple lines r) s ∙ ap (λ x. with_basics place x lines (set (replicate columns (pos 0)) place x)) m.0),
      narrow_append (multiple_pairs (pos 1) lines) (direction_pairs columns place (multiple_from (pos 1) lines) lines) m.1 narrow,
    )

pub direction_multiple_wide : (columns place : ℕ) (lines : List Line) (fault : RowFault) → IsFaultOf (multiple_pairs (pos 1) lines) fault → IsFaultOf (ray_pairs columns place lines) fault
direction_multiple_wide columns place lines fault h = fault_left (multiple_pairs (pos 1) lines) (direction_pairs columns place (multiple_from (pos 1) lines) lines) fault h

pub direction_entry_wide : (columns place : ℕ) (lines : List Line) (multiple : ℤ) (start : List ℤ) (fault : RowFault) → FindsCommonMultiple lines (Ok multiple) → start ≡ set (replicate columns (pos 0)) place multiple → IsFaultOf (direction_pairs (length start) place multiple lines) fault → IsFaultOf (ray_pairs columns place lines) fault
direction_entry_wide columns place lines multiple start fault m s h =
    let long : length start ≡ columns = ap length s ∙ started_long columns place multiple in
    fault_right (multiple_pairs (pos 1) lines) (direction_pairs columns place (multiple_from (pos 1) lines) lines) fault
    (subst (λ x. IsFaultOf (direction_pairs columns place x lines) fault) m.0 (subst (λ n. IsFaultOf (direction_pairs n place multiple lines) fault) long h))
