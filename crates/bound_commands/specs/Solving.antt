-- `bound` and `certify`: the files are read and judged, the list of states last; where that is closed, the rows of the task are
-- solved, and the bound or its certificate is written.
use Rattle.std.specs.Prelude.{◌≡◌, ℕ, ◌^◌, List, map, length, ℤ, pos, ◌≤ℤ◌, unsigned_abs, Contains, Option, Some, None, Result, Ok, Err}
use Rattle.whole_rows.specs.Rows.{RowsData}
use Rattle.whole_simplex.specs.Answers.{IsOptimum, IsUnbounded}
use Rattle.whole_simplex.specs.Outcome.{Outcome, TooLarge, Greatest, LargeMultiplier, Direction, Limit, TooWide, HasWide}
use Rattle.whole_simplex.specs.declared.SolveFault.{SolveFault}
use Rattle.whole_simplex.specs.declared.SolveFault.TheVariants.{Unbounded, Pivots, Entries, Wide, Multiplier, Memory}
use Rattle.abstract_sched.specs.declared.states.AbsState.{AbsState}
use Rattle.row_build.specs.Rows.{rows_of}
use Rattle.certificate.specs.declared.cert.Cert.{Cert}
use Rattle.certificate.specs.Writing.{cert_text}
use Rattle.bound_solver.specs.Bounds.{solved_rows, bound_outcome}
use Rattle.command_steps.specs.declared.halt.Refusal.{Refusal}
use Rattle.command_steps.specs.Steps.{Calls, Step, Judged, Then}
use Rattle.reports.specs.Solved.{bound_text, unbounded_refusal, pivots_refusal, entries_refusal, wide_refusal, multiplier_refusal}
use Rattle.inputs.specs.declared.subjects.Analysed.{Analysed}
use Rattle.inputs.specs.declared.subjects.Subject.{Subject}
use Rattle.inputs.specs.States.{ClosedStates}
use Rattle.inputs.specs.Subjects.{AnalysedOf, name_of}

-- the limit on pivots where the words of a command name none
abbrev pub usual_pivots : ℕ
usual_pivots = 100000

-- ---- what is said of an optimum: of its multipliers, its denominator and its bound

abbrev pub Saying : Type 0
Saying = List ℕ → ℕ → ℕ → List ℕ

-- of its bound alone
abbrev pub telling : (ℕ → List ℕ) → Saying
telling tell multipliers denominator bound = tell bound

abbrev pub bound_saying : List ℕ → Saying
bound_saying name = telling (bound_text name)

-- the certificate with these numbers, over these states
abbrev pub cert_with : ℕ → List AbsState → List ℕ → ℕ → ℕ → Cert
cert_with task states multipliers denominator bound =
    record { task = task; bound = bound; denominator = denominator; states = states; multipliers = multipliers }

-- that of an optimum
abbrev pub optimum_cert : ℕ → List AbsState → List ℤ → ℤ → ℤ → Cert
optimum_cert task states multipliers denominator bound =
    cert_with task states (map unsigned_abs multipliers) (unsigned_abs denominator) (unsigned_abs bound)

abbrev pub cert_saying : List ℕ → ℕ → List AbsState → Saying
cert_saying name task states multipliers denominator bound = cert_text name (cert_with task states multipliers denominator bound)

-- ---- what is said of an outcome

-- The rows that were solved have the outcome with at most `limit` pivots. An optimum is one of the full rows: its bound is their greatest
-- value over fractions, rounded down. A ray is one of the full rows too: a direction along which their cost grows without end.
abbrev pub AnswersOutcome : Saying → RowsData → RowsData → ℕ → Outcome → Result (List ℕ) Refusal → Type 0
AnswersOutcome say full solved limit (Greatest number multipliers denominator bound) given =
    IsOptimum full multipliers denominator bound
    × (given ≡ Ok (say (map unsigned_abs multipliers) (unsigned_abs denominator) (unsigned_abs bound)))
AnswersOutcome say full solved limit (Direction ray) given = IsUnbounded full ray × (given ≡ Err (unbounded_refusal ray))
AnswersOutcome say full solved limit Limit given = given ≡ Err (pivots_refusal limit)
AnswersOutcome say full solved limit TooLarge given = given ≡ Err (entries_refusal (length solved.rows) (length solved.costs))
AnswersOutcome say full solved limit (TooWide number pairs) given =
    (a : ℤ) × (b : ℤ) × HasWide pairs a b × (given ≡ Err (wide_refusal number a b))
AnswersOutcome say full solved limit (LargeMultiplier values) given =
    (value : ℤ) × Contains values value × (pos (2 ^ 80) ≤ℤ value) × (given ≡ Err (multiplier_refusal value))

-- what is said of a task over a closed list of states
abbrev pub AnswersTask : Saying → ℕ → Analysed → List AbsState → Result (List ℕ) Refusal → Type 0
AnswersTask say pivots analysed states given =
    AnswersOutcome say (rows_of analysed.plant states analysed.task) (solved_rows analysed.plant states analysed.task) pivots
    (bound_outcome analysed.plant states analysed.task pivots) given

-- why there is no optimum, if memory sufficed
abbrev pub fault_refusal : SolveFault → Option Refusal
fault_refusal (Unbounded ray) = Some (unbounded_refusal ray)
fault_refusal (Pivots count) = Some (pivots_refusal count)
fault_refusal (Entries rows columns) = Some (entries_refusal rows columns)
fault_refusal (Wide pivots a b) = Some (wide_refusal pivots a b)
fault_refusal (Multiplier value) = Some (multiplier_refusal value)
fault_refusal Memory = None

-- ---- the two commands

abbrev pub BoundOn : {F : Type 0} → Calls F → List ℕ → ℕ → List ℕ → Analysed → Step F (List ℕ)
BoundOn calls states pivots name analysed =
    Then (ClosedStates calls states analysed.plant) (λ listed. Judged (AnswersTask (bound_saying name) pivots analysed listed))

abbrev pub Bound : {F : Type 0} → Calls F → Subject → List ℕ → ℕ → Step F (List ℕ)
Bound calls subject states pivots = Then (AnalysedOf calls subject) (BoundOn calls states pivots (name_of subject))

abbrev pub CertifyOn : {F : Type 0} → Calls F → List ℕ → ℕ → List ℕ → Analysed → Step F (List ℕ)
CertifyOn calls states pivots name analysed =
    Then (ClosedStates calls states analysed.plant)
    (λ listed. Judged (AnswersTask (cert_saying name analysed.task listed) pivots analysed listed))

abbrev pub Certify : {F : Type 0} → Calls F → Subject → List ℕ → ℕ → Step F (List ℕ)
Certify calls subject states pivots = Then (AnalysedOf calls subject) (CertifyOn calls states pivots (name_of subject))
