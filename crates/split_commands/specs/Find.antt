-- `split find OIL ELF TIMING TASK STATES N`: the files are read and judged, the list of states last; where that is closed, a tree of cuts that
-- shows the bound of N cycles is searched, and its certificate is written.
use Rattle.std.specs.Prelude.{◌≡◌, ℕ, List, Some, Result, Ok, Err}
use Rattle.whole_rows.specs.Rows.{RowsData}
use Rattle.whole_simplex.specs.Outcome.{Outcome, SaysOutcome}
use Rattle.whole_simplex.specs.declared.SolveFault.{SolveFault}
use Rattle.abstract_sched.specs.declared.states.AbsState.{AbsState}
use Rattle.row_build.specs.Rows.{rows_of}
use Rattle.split_trees.specs.Tree.{Tree}
use Rattle.cut_search.specs.Answers.{IsRayOf}
use Rattle.cut_search.specs.Search.{Ending, NoTree, Cuts, Refused, pivot_limit}
use Rattle.cut_search.specs.declared.fault.SplitFault.TheVariants as faults
use Rattle.split_cert.specs.declared.cert.SplitCert.{SplitCert}
use Rattle.split_cert.specs.Good.{IsGoodSplit}
use Rattle.split_cert.specs.Writing.{split_text}
use Rattle.split_search.specs.Found.{search_of}
use Rattle.command_steps.specs.declared.halt.Refusal.{Refusal}
use Rattle.command_steps.specs.Steps.{Calls, Step, Judged, Then}
use Rattle.inputs.specs.declared.subjects.Analysed.{Analysed}
use Rattle.inputs.specs.declared.subjects.Subject.TheVariants.{Named}
use Rattle.inputs.specs.States.{ClosedStates}
use Rattle.inputs.specs.Subjects.{AnalysedOf}
use Rattle.bound_commands.specs.Solving.{fault_refusal}
use Rattle.split_commands.specs.SplitFiles.{HasSplit}
use Rattle.split_commands.specs.Texts.{no_tree_refusal, cuts_refusal}

-- the limit on cuts where the words of the command name none
abbrev pub usual_cuts : ℕ
usual_cuts = 64

-- The rows of a node have no optimum: this is what is said of it for `bound`. A ray is one of the root's rows, which are the full ones.
pub record IsRefusedAt (full rows : RowsData) (outcome : Outcome) (refused : Refusal) : Type 0 where
  pub fault : SolveFault
  pub outcome_is : SaysOutcome rows pivot_limit outcome (Err fault)
  pub ray : IsRayOf full (faults.Solve fault)
  pub told : fault_refusal fault ≡ Some refused

-- what is said where no tree is found
abbrev pub IsRefusedBy : RowsData → ℕ → Ending → Refusal → Type 0
IsRefusedBy full cuts NoTree refused = refused ≡ no_tree_refusal
IsRefusedBy full cuts Cuts refused = refused ≡ cuts_refusal cuts
IsRefusedBy full cuts (Refused rows outcome) refused = IsRefusedAt full rows outcome refused

-- a certificate of this tree, for the bound over these states
abbrev pub cert_of : ℕ → ℕ → List AbsState → Tree → SplitCert
cert_of task bound states tree = record { task = task; bound = bound; states = states; tree = tree }

-- The text is that of the certificate, which is good, and is read again by `split check`.
pub record IsWritten (name : List ℕ) (analysed : Analysed) (cert : SplitCert) (text : List ℕ) : Type 0 where
  pub good : IsGoodSplit analysed.plant analysed.task cert
  pub told : text ≡ split_text name cert
  pub again : HasSplit analysed name text (Ok cert)

-- what is said by what the search comes to
abbrev pub AnswersSearch : List ℕ → Analysed → List AbsState → ℕ → ℕ → Result Tree Ending → Result (List ℕ) Refusal → Type 0
AnswersSearch name analysed states bound cuts (Ok tree) given =
    (text : List ℕ) × IsWritten name analysed (cert_of analysed.task bound states tree) text × (given ≡ Ok text)
AnswersSearch name analysed states bound cuts (Err ending) given =
    (refused : Refusal) × IsRefusedBy (rows_of analysed.plant states analysed.task) cuts ending refused × (given ≡ Err refused)

abbrev pub HasFound : List ℕ → ℕ → ℕ → Analysed → List AbsState → Result (List ℕ) Refusal → Type 0
HasFound name bound cuts analysed states given =
    AnswersSearch name analysed states bound cuts (search_of analysed.plant states analysed.task bound cuts) given

abbrev pub FindOn : {F : Type 0} → Calls F → List ℕ → ℕ → ℕ → List ℕ → Analysed → Step F (List ℕ)
FindOn calls states bound cuts name analysed =
    Then (ClosedStates calls states analysed.plant) (λ listed. Judged (HasFound name bound cuts analysed listed))

abbrev pub FindSplit : {F : Type 0} → Calls F → List ℕ → List ℕ → List ℕ → List ℕ → List ℕ → ℕ → ℕ → Step F (List ℕ)
FindSplit calls oil elf timing task states bound cuts = Then (AnalysedOf calls (Named oil elf timing task)) (FindOn calls states bound cuts task)
