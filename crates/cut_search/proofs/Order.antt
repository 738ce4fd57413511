-- Limits after a cut, and the sides of the cuts.
use Rattle.std.proofs.Common.{◌≡◌, ℕ, zero, suc, ◌+◌, ◌<◌, ◌≤◌, true, false, List, [], ◌∷◌, ◌++◌, length, Option, Some, None, All, refl, sym, ap, ◌∙◌, append_assoc, zero-add, arith}
use Rattle.std.specs.List.{range_with_len}
use Rattle.std.specs.Prelude.{is_none}
use Rattle.std.proofs.lemmas.List.{append-nil, length-append, length-map}
use Rattle.std.proofs.lemmas.List.Elements.{All-cons, All-head, All-tail}
use Rattle.std.proofs.lemmas.List.FromFn.{length-range_with_len, map-range_with_len_more}
use Rattle.std.proofs.lemmas.List.Quantifiers.{position-Some}
use Rattle.split_trees.specs.declared.side.Side.{Side}
use Rattle.split_trees.specs.declared.side.Side.TheVariants.{AtMost, Above}
use Rattle.cut_search.specs.declared.limits.Limits.{Limits}
use Rattle.cut_search.specs.Leaves.{high_sides, low_sides, sides_of}
use Rattle.cut_search.specs.Search.{first_open, high_side, limits_at, low_side, no_limits}
use Rattle.cut_search.specs.Working.Limits.{AreInOrder, IsFirstOpen, IsFree}
use Rattle.cut_search.specs.Working.Nodes.{LieWithin}

none_is : (high : Option ℕ) → is_none high ≡ true → high ≡ None
none_is None e = refl
none_is (Some n) e = absurd cc

some_is : (high : Option ℕ) → is_none high ≡ false → high ≡ None → ⊥
some_is None e n = absurd cc
some_is (Some m) e n = absurd cc

-- ---- The first column without an upper limit

pub first_open-is : (limits : List Limits) (place : ℕ) → first_open limits ≡ Some place → IsFirstOpen limits place
first_open-is limits place e =
    let is = position-Some (λ (l : Limits). is_none l.high) limits place no_limits e in
    record { within = is.0; open_there = is.1; closed_before = is.2 }

later : (l : Limits) (limits : List Limits) (place : ℕ) → IsFirstOpen (l ∷ limits) (suc place) → IsFirstOpen limits place
later l limits place is = record {
  within = (let h = is.within in omega arith);
  open_there = is.open_there;
  closed_before = λ k h. is.closed_before (suc k) (omega arith);
}

-- ---- Sides

pub free_sides : (limits : List Limits) → All IsFree limits → sides_of limits ≡ []
free_sides [] free = refl
free_sides (l ∷ limits) free =
    let here = All-head IsFree l limits free in
    let rest = free_sides limits (All-tail IsFree l limits free) in
    by l.low l.high here.low here.high rest
  where
    by : (low : ℕ) (high : Option ℕ) → low ≡ 0 → high ≡ None → sides_of limits ≡ [] → high_sides l.column low ++ low_sides l.column high ++ sides_of limits ≡ []
    by zero None e f rest = rest
    by zero (Some n) e f rest = absurd cc
    by (suc low) high e f rest = absurd (omega arith)

-- the sides of the columns up to one without an upper limit
open_sides : (l : Limits) (limits : List Limits) → is_none l.high ≡ true → All IsFree limits → sides_of (l ∷ limits) ≡ high_sides l.column l.low
open_sides l limits e free =
    ap (λ (high : Option ℕ). high_sides l.column l.low ++ low_sides l.column high ++ sides_of limits) (none_is l.high e)
    ∙ ap (λ (sides : List Side). high_sides l.column l.low ++ [] ++ sides) (free_sides limits free)
    ∙ append-nil (high_sides l.column l.low ++ []) ∙ append-nil (high_sides l.column l.low)

-- a low side is one side more
pub low_side-sides : (limits : List Limits) (place : ℕ) → IsFirstOpen limits place → AreInOrder limits
    → sides_of (low_side limits place) ≡ sides_of limits ++ AtMost (limits_at limits place).column (limits_at limits place).low ∷ []
low_side-sides [] place is order = absurd (let h = is.within in omega arith)
low_side-sides (l ∷ limits) zero is order =
    let free = order.0 (none_is l.high is.open_there) in
    ap (λ (sides : List Side). high_sides l.column l.low ++ AtMost l.column l.low ∷ [] ++ sides) (free_sides limits free)
    ∙ append-nil (high_sides l.column l.low ++ AtMost l.column l.low ∷ [])
    ∙ ap (λ (sides : List Side). sides ++ AtMost l.column l.low ∷ []) (sym (open_sides l limits is.open_there free))
low_side-sides (l ∷ limits) (suc place) is order =
    let own = high_sides l.column l.low ++ low_sides l.column l.high in
    let at = limits_at limits place in
    ap (λ (sides : List Side). own ++ sides) (low_side-sides limits place (later l limits place is) order.1)
    ∙ sym (append_assoc own (sides_of limits) (AtMost at.column at.low ∷ []))

-- so is a high side
pub high_side-sides : (limits : List Limits) (place : ℕ) → IsFirstOpen limits place → AreInOrder limits
    → sides_of (high_side limits place) ≡ sides_of limits ++ Above (limits_at limits place).column (limits_at limits place).low ∷ []
high_side-sides [] place is order = absurd (let h = is.within in omega arith)
high_side-sides (l ∷ limits) zero is order =
    let free = order.0 (none_is l.high is.open_there) in
    ap (λ (sides : List Side). high_sides l.column (l.low + 1) ++ [] ++ sides) (free_sides limits free)
    ∙ append-nil (high_sides l.column (l.low + 1) ++ []) ∙ append-nil (high_sides l.column (l.low + 1))
    ∙ map-range_with_len_more (Above l.column) 0 l.low l.low (zero-add l.low)
    ∙ ap (λ (sides : List Side). sides ++ Above l.column l.low ∷ []) (sym (open_sides l limits is.open_there free))
high_side-sides (l ∷ limits) (suc place) is order =
    let own = high_sides l.column l.low ++ low_sides l.column l.high in
    let at = limits_at limits place in
    ap (λ (sides : List Side). own ++ sides) (high_side-sides limits place (later l limits place is) order.1)
    ∙ sym (append_assoc own (sides_of limits) (Above at.column at.low ∷ []))

-- a lower limit is at most the number of sides
pub low-le-sides : (limits : List Limits) (place : ℕ) → place < length limits → (limits_at limits place).low ≤ length (sides_of limits)
low-le-sides [] place h = absurd (omega arith)
low-le-sides (l ∷ limits) zero h =
    let all = length-append (high_sides l.column l.low ++ low_sides l.column l.high) (sides_of limits) in
    let own = length-append (high_sides l.column l.low) (low_sides l.column l.high) in
    let high = length-map (range_with_len 0 l.low) (Above l.column) in
    let count = length-range_with_len 0 l.low in
    omega arith
low-le-sides (l ∷ limits) (suc place) h =
    let all = length-append (high_sides l.column l.low ++ low_sides l.column l.high) (sides_of limits) in
    let rest = low-le-sides limits place (omega arith) in
    omega arith

-- ---- Order

pub low_side-order : (limits : List Limits) (place : ℕ) → IsFirstOpen limits place → AreInOrder limits → AreInOrder (low_side limits place)
low_side-order [] place is order = absurd (let h = is.within in omega arith)
low_side-order (l ∷ limits) zero is order = ((λ e. absurd cc), order.1)
low_side-order (l ∷ limits) (suc place) is order =
    ((λ e. absurd (some_is l.high (is.closed_before 0 (omega arith)) e)), low_side-order limits place (later l limits place is) order.1)

pub high_side-order : (limits : List Limits) (place : ℕ) → IsFirstOpen limits place → AreInOrder limits → AreInOrder (high_side limits place)
high_side-order [] place is order = absurd (let h = is.within in omega arith)
high_side-order (l ∷ limits) zero is order = ((λ e. order.0 (none_is l.high is.open_there)), order.1)
high_side-order (l ∷ limits) (suc place) is order =
    ((λ e. absurd (some_is l.high (is.closed_before 0 (omega arith)) e)), high_side-order limits place (later l limits place is) order.1)

-- ---- Columns

pub low_side-within : (columns : ℕ) (limits : List Limits) (place : ℕ) → LieWithin columns limits → LieWithin columns (low_side limits place)
low_side-within columns [] place within = within
low_side-within columns (l ∷ limits) zero within = All-cons (λ l. l.column < columns) (record { column = l.column; low = l.low; high = Some l.low }) limits (All-head (λ l. l.column < columns) l limits within) (All-tail (λ l. l.column < columns) l limits within)
low_side-within columns (l ∷ limits) (suc place) within = All-cons (λ l. l.column < columns) l (low_side limits place) (All-head (λ l. l.column < columns) l limits within) (low_side-within columns limits place (All-tail (λ l. l.column < columns) l limits within))

pub high_side-within : (columns : ℕ) (limits : List Limits) (place : ℕ) → LieWithin columns limits → LieWithin columns (high_side limits place)
high_side-within columns [] place within = within
high_side-within columns (l ∷ limits) zero within = All-cons (λ l. l.column < columns) (record { column = l.column; low = l.low + 1; high = None }) limits (All-head (λ l. l.column < columns) l limits within) (All-tail (λ l. l.column < columns) l limits within)
high_side-within columns (l ∷ limits) (suc place) within = All-cons (λ l. l.column < columns) l (high_side limits place) (All-head (λ l. l.column < columns) l limits within) (high_side-within columns limits place (All-tail (λ l. l.column < columns) l limits within))
