-- One link, one column or one chain more of the lift.
use Rattle.std.proofs.Common.{◌≡◌, ◌≢◌, ℕ, suc, ◌+◌, ◌-◌, ◌<◌, ◌≤◌, true, false, List, ◌∷◌, length, get_or, set, ℤ, pos, ◌≤ℤ◌, Option, Some, None, Result, Ok, Err, sym, ap, ◌∙◌, arith}
use Rattle.std.specs.List.{range_with_len, flat_map}
use Rattle.whole_rows.specs.Rows.{RowsData, entry_at}
use Rattle.whole_simplex.specs.Outcome.{is_large}
use Rattle.row_squeeze.specs.declared.Link.{Link}
use Rattle.row_squeeze.specs.declared.lift.Step.{Step}
use Rattle.row_squeeze.specs.Links.{HasLink, AreLinks}
use Rattle.row_squeeze.specs.Lift.{leaving, rows_from, lifted, lifted_value, outgoing_at, outgoing_of}
use Rattle.row_squeeze.proofs.Heads.{leaving_is}
use Rattle.row_squeeze.proofs.Points.{has_row}
use Rattle.row_squeeze.proofs.Walking.{rows_from-step, rows_from-end, lifted-step, lifted-stop, lifted-append, lifted-append_stops, flat_map_range, flat_map_none}

-- what the link that leaves a column says
pub record Leaves (d : RowsData) (links : List (Option Link)) (column : ℕ) (step : Step) : Type 0 where
  pub row_within : step.row < length d.rows
  pub column_within : column < length d.costs
  pub others : (other : ℕ) → other ≢ step.row → entry_at d other column ≤ℤ pos 0
  pub outgoing : outgoing_at links step.row ≡ column
  pub link : Link
  pub has : HasLink links step.row link
  pub leaves : link.outgoing ≡ column
  pub leads : link.incoming ≡ step.incoming

pub leaves : (d : RowsData) (links : List (Option Link)) (column : ℕ) (step : Step) → AreLinks d links → leaving 0 links column ≡ Some step → Leaves d links column step
leaves d links column step are e =
    let s = leaving_is 0 links column step e in
    let at = s.at in
    let row : s.row ≡ step.row = omega arith in
    let has : HasLink links step.row s.link = ap (λ (i : ℕ). get_or links i None) (sym row) ∙ s.has in
    let is = are.each step.row s.link has in
    let exists = is.outgoing_exists in
    let left = s.leaves in
    let within = has_row links step.row s.link has in
    let counted = are.counted in
    record {
      row_within = omega arith;
      column_within = omega arith;
      others = λ other n. rw left at (is.other_rows other n);
      outgoing = ap outgoing_of has ∙ left;
      link = s.link;
      has = has;
      leaves = left;
      leads = s.leads;
    }

-- ---- one link

pub chain_next : (d : RowsData) (links : List (Option Link)) (denominator : ℤ) (ms after : List ℤ) (expected : Result (List ℤ) ℤ) (passed column : ℕ) (step : Step) → passed < length links → leaving 0 links column ≡ Some step → outgoing_at links step.row ≡ column → is_large (lifted_value d denominator ms step.row column) ≡ false → after ≡ set ms step.row (lifted_value d denominator ms step.row column) → expected ≡ lifted d links denominator ms (rows_from (length links - passed) links column) → expected ≡ lifted d links denominator after (rows_from (length links - (passed + 1)) links step.incoming)
chain_next d links denominator ms after expected passed column step h found out small is so_far =
    let e : length links - passed ≡ suc (length links - (passed + 1)) = omega arith in
    let rows : rows_from (length links - passed) links column ≡ step.row ∷ rows_from (length links - (passed + 1)) links step.incoming = rw e (rows_from-step (length links - (passed + 1)) links column step found) in
    let not_large : is_large (lifted_value d denominator ms step.row (outgoing_at links step.row)) ≡ false = rw out small in
    so_far
    ∙ ap (lifted d links denominator ms) rows
    ∙ lifted-step d links denominator ms step.row (rows_from (length links - (passed + 1)) links step.incoming) not_large
    ∙ ap (λ (ns : List ℤ). lifted d links denominator ns (rows_from (length links - (passed + 1)) links step.incoming)) (ap (λ (c : ℕ). set ms step.row (lifted_value d denominator ms step.row c)) out ∙ sym is)

pub chain_stops : (d : RowsData) (links : List (Option Link)) (denominator : ℤ) (ms : List ℤ) (expected : Result (List ℤ) ℤ) (passed column : ℕ) (step : Step) (value : ℤ) → passed < length links → leaving 0 links column ≡ Some step → outgoing_at links step.row ≡ column → is_large value ≡ true → value ≡ lifted_value d denominator ms step.row column → expected ≡ lifted d links denominator ms (rows_from (length links - passed) links column) → expected ≡ Err value
chain_stops d links denominator ms expected passed column step value h found out large is so_far =
    let e : length links - passed ≡ suc (length links - (passed + 1)) = omega arith in
    let rows : rows_from (length links - passed) links column ≡ step.row ∷ rows_from (length links - (passed + 1)) links step.incoming = rw e (rows_from-step (length links - (passed + 1)) links column step found) in
    let value_is : value ≡ lifted_value d denominator ms step.row (outgoing_at links step.row) = rw out is in
    so_far
    ∙ ap (lifted d links denominator ms) rows
    ∙ lifted-stop d links denominator ms step.row (rows_from (length links - (passed + 1)) links step.incoming) (ap is_large (sym value_is) ∙ large)
    ∙ ap Err (sym value_is)

pub chain_ends : (d : RowsData) (links : List (Option Link)) (denominator : ℤ) (ms : List ℤ) (expected : Result (List ℤ) ℤ) (steps column : ℕ) → leaving 0 links column ≡ None → expected ≡ lifted d links denominator ms (rows_from steps links column) → expected ≡ Ok ms
chain_ends d links denominator ms expected steps column none so_far =
    so_far ∙ ap (lifted d links denominator ms) (rows_from-end steps links column none)

-- ---- one number more of a range

pub range_next : (d : RowsData) (links : List (Option Link)) (denominator : ℤ) (ms after : List ℤ) (expected : Result (List ℤ) ℤ) (f : ℕ → List ℕ) (i n : ℕ) → i < n → lifted d links denominator ms (f i) ≡ Ok after → expected ≡ lifted d links denominator ms (flat_map f (range_with_len i (n - i))) → expected ≡ lifted d links denominator after (flat_map f (range_with_len (i + 1) (n - (i + 1))))
range_next d links denominator ms after expected f i n h here so_far =
    so_far ∙ ap (lifted d links denominator ms) (flat_map_range f i n h) ∙ lifted-append d links denominator ms after (f i) (flat_map f (range_with_len (i + 1) (n - (i + 1)))) here

pub range_stops : (d : RowsData) (links : List (Option Link)) (denominator : ℤ) (ms : List ℤ) (expected : Result (List ℤ) ℤ) (f : ℕ → List ℕ) (i n : ℕ) (value : ℤ) → i < n → lifted d links denominator ms (f i) ≡ Err value → expected ≡ lifted d links denominator ms (flat_map f (range_with_len i (n - i))) → expected ≡ Err value
range_stops d links denominator ms expected f i n value h here so_far =
    so_far ∙ ap (lifted d links denominator ms) (flat_map_range f i n h) ∙ lifted-append_stops d links denominator ms value (f i) (flat_map f (range_with_len (i + 1) (n - (i + 1)))) here

pub range_ends : (d : RowsData) (links : List (Option Link)) (denominator : ℤ) (ms : List ℤ) (expected : Result (List ℤ) ℤ) (f : ℕ → List ℕ) (i n : ℕ) → n ≤ i → expected ≡ lifted d links denominator ms (flat_map f (range_with_len i (n - i))) → expected ≡ Ok ms
range_ends d links denominator ms expected f i n h so_far =
    so_far ∙ ap (lifted d links denominator ms) (flat_map_none f i n h)
