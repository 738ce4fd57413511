-- What the steps of the solver answer: a result where no pair is wide, or the numbers of a wide pair.
use Rattle.std.specs.Prelude.{◌≡◌, ℕ, ℤ, pos, ◌+◌, ◌-◌, ◌<◌, ◌^◌, ◌≤ℤ◌, ◌++◌, ◌∷◌, [], Bool, false, cond, ◌==◌, Contains, List, map, take, drop, set, length, ◌*ℤ◌, Option, Some, None, Result, Ok, Err, slice_get}
use Rattle.std.specs.List.{flat_map, list_any}
use Rattle.whole_rows.specs.declared.row.RowFault.{RowFault}
use Rattle.whole_rows.specs.declared.row.RowFault.TheVariants.{Wide, Memory}
use Rattle.whole_rows.specs.Rows.{RowsData}
use Rattle.whole_simplex.specs.declared.SolveFault.{SolveFault}
use Rattle.whole_simplex.specs.declared.SolveFault.TheVariants.{Multiplier, Pivots as PivotsAt, Wide as WideAt, Memory as NoMemory}
use Rattle.whole_simplex.specs.declared.Optimum.{Optimum}
use Rattle.whole_simplex.specs.Outcome.{SaysOutcome, outcome_from, Pair, Multiple, AreNarrow, HasWide, is_large, cross_pairs, ratio_pairs, leaving_pairs, elimination_pairs, line_pairs, multiple_of, multiple_from, multiple_pairs, falling, share, basic_pairs, with_basics, direction_pairs, ray_of, ray_pairs}
use Rattle.whole_simplex.specs.Tables.{table_at, Table, comes_before, lesser_of, leaving, eliminated, pivoted_line}
use Rattle.whole_simplex.specs.declared.line.Line.{Line}

-- the value of a step that only changes what it is given
abbrev pub Done : Type 0
Done = Unit {0}

-- two numbers of a wide pair among these, or want of memory
abbrev pub IsFaultOf : List Pair → RowFault → Type 0
IsFaultOf pairs (Wide a b) = HasWide pairs a b
IsFaultOf pairs Memory = Unit {0}

abbrev pub ComparesRatios : ℕ → ℕ → Line → Line → Result Bool RowFault → Type 0
ComparesRatios width place line other (Ok before) = (before ≡ comes_before width place line other) × AreNarrow (cross_pairs width place line other)
ComparesRatios width place line other (Err fault) = IsFaultOf (cross_pairs width place line other) fault

-- the line of a place in a list, if there is a place
abbrev pub line_at : List Line → Option ℕ → Option Line
line_at lines None = None
line_at lines (Some i) = slice_get lines i

abbrev pub FindsLesser : ℕ → ℕ → List Line → Option ℕ → Line → Result (Option ℕ) RowFault → Type 0
FindsLesser width place lines best line (Ok found) =
    (line_at lines found ≡ lesser_of width place (line_at lines best) line) × AreNarrow (ratio_pairs width place (line_at lines best) line)
FindsLesser width place lines best line (Err fault) = IsFaultOf (ratio_pairs width place (line_at lines best) line) fault

-- the place of the leaving line, none where no line leaves
abbrev pub FindsLeaving : ℕ → ℕ → List Line → Result (Option ℕ) RowFault → Type 0
FindsLeaving width place lines (Ok found) = (line_at lines found ≡ leaving width place lines) × AreNarrow (leaving_pairs width place None lines)
FindsLeaving width place lines (Err fault) = IsFaultOf (leaving_pairs width place None lines) fault

-- a row after the elimination
abbrev pub Eliminates : ℕ → List ℤ → List ℤ → List ℤ → Result Done RowFault → Type 0
Eliminates place pivot old new (Ok done) = (new ≡ eliminated place pivot old) × AreNarrow (elimination_pairs place pivot old)
Eliminates place pivot old new (Err fault) = IsFaultOf (elimination_pairs place pivot old) fault

-- the row that an elimination makes of another one
abbrev pub GivesEliminated : ℕ → List ℤ → List ℤ → Result (List ℤ) RowFault → Type 0
GivesEliminated place pivot old (Ok new) = (new ≡ eliminated place pivot old) × AreNarrow (elimination_pairs place pivot old)
GivesEliminated place pivot old (Err fault) = IsFaultOf (elimination_pairs place pivot old) fault

-- a line that isn't the pivot line, after the pivot, and its pairs
abbrev pub eliminated_line : ℕ → List ℤ → Line → Line
eliminated_line place pivot line = record { basic = line.basic; entries = eliminated place pivot line.entries }

abbrev pub eliminated_pairs : ℕ → List ℤ → Line → List Pair
eliminated_pairs place pivot line = elimination_pairs place pivot line.entries

abbrev pub EliminatesAll : ℕ → List ℤ → List Line → List Line → Result Done RowFault → Type 0
EliminatesAll place pivot old new (Ok done) = (new ≡ map (eliminated_line place pivot) old) × AreNarrow (flat_map (eliminated_pairs place pivot) old)
EliminatesAll place pivot old new (Err fault) = IsFaultOf (flat_map (eliminated_pairs place pivot) old) fault

-- the lines and the objective row after the pivot
abbrev pub Pivots : ℕ → Line → Table → Table → Result Done RowFault → Type 0
Pivots place pivot old new (Ok done) =
    (new.lines ≡ map (pivoted_line place pivot) old.lines) × (new.objective ≡ eliminated place pivot.entries old.objective)
    × AreNarrow (flat_map (line_pairs place pivot) old.lines ++ elimination_pairs place pivot.entries old.objective)
Pivots place pivot old new (Err fault) = IsFaultOf (flat_map (line_pairs place pivot) old.lines ++ elimination_pairs place pivot.entries old.objective) fault

abbrev pub fault_of : ℕ → RowFault → SolveFault
fault_of number (Wide a b) = WideAt number a b
fault_of number Memory = NoMemory

-- where ratios are too wide: at the limit no pivot is made
abbrev pub ratio_fault_of : ℕ → ℕ → RowFault → SolveFault
ratio_fault_of number left (Wide a b) = cond (left == 0) (PivotsAt number) (WideAt number a b)
ratio_fault_of number left Memory = NoMemory

-- the lines and the objective row of the table of that number
pub record IsAt (d : RowsData) (number : ℕ) (lines : List Line) (objective : List ℤ) : Type 0 where
  pub lines_are : lines ≡ (table_at d number).lines
  pub objective_is : objective ≡ (table_at d number).objective

-- one turn at the table of that number, with so many pivots left: an answer, or the next table
abbrev pub TurnsTable : RowsData → ℕ → ℕ → List Line → List ℤ → Option (Result Optimum SolveFault) → Type 0
TurnsTable d number left lines objective (Some answer) = SaysOutcome d (number + left) (outcome_from d left number) answer
TurnsTable d number left lines objective None =
    (0 < left) × IsAt d (number + 1) lines objective
    × (outcome_from d left number ≡ outcome_from d (left - 1) (number + 1))

-- the multipliers of an objective row, or one that reaches 2^80
abbrev pub FindsMultipliers : RowsData → List ℤ → Result (List ℤ) SolveFault → Type 0
FindsMultipliers d objective (Ok multipliers) =
    (multipliers ≡ take (length d.rows) (drop (length d.costs) objective)) × (list_any is_large multipliers ≡ false)
FindsMultipliers d objective (Err (Multiplier value)) =
    Contains (take (length d.rows) (drop (length d.costs) objective)) value × (pos (2 ^ 80) ≤ℤ value)
FindsMultipliers d objective (Err NoMemory) = Unit {0}
FindsMultipliers d objective answer = ⊥

abbrev pub FindsMultiple : ℤ → ℤ → Result ℤ RowFault → Type 0
FindsMultiple a b (Ok multiple) = (multiple ≡ multiple_of a b) × AreNarrow (Multiple a b ∷ [])
FindsMultiple a b (Err fault) = IsFaultOf (Multiple a b ∷ []) fault

abbrev pub FindsCommonMultiple : List Line → Result ℤ RowFault → Type 0
FindsCommonMultiple lines (Ok multiple) = (multiple ≡ multiple_from (pos 1) lines) × AreNarrow (multiple_pairs (pos 1) lines)
FindsCommonMultiple lines (Err fault) = IsFaultOf (multiple_pairs (pos 1) lines) fault

-- the entry of a ray at a line's basic column
abbrev pub PutsBasic : ℕ → ℤ → Line → List ℤ → List ℤ → Result Done RowFault → Type 0
PutsBasic place multiple line old new (Ok done) =
    (new ≡ set old line.basic (falling place line *ℤ share multiple line)) × AreNarrow (basic_pairs (length old) place multiple line)
PutsBasic place multiple line old new (Err fault) = IsFaultOf (basic_pairs (length old) place multiple line) fault

-- the entries of a ray at the basic columns
abbrev pub PutsBasics : ℕ → ℤ → List Line → List ℤ → List ℤ → Result Done RowFault → Type 0
PutsBasics place multiple lines old new (Ok done) = (new ≡ with_basics place multiple lines old) × AreNarrow (direction_pairs (length old) place multiple lines)
PutsBasics place multiple lines old new (Err fault) = IsFaultOf (direction_pairs (length old) place multiple lines) fault

abbrev pub FindsDirection : ℕ → ℕ → List Line → Result (List ℤ) RowFault → Type 0
FindsDirection columns place lines (Ok ray) = (ray ≡ ray_of columns place lines) × AreNarrow (ray_pairs columns place lines)
FindsDirection columns place lines (Err fault) = IsFaultOf (ray_pairs columns place lines) fault
