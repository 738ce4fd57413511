-- From the steps of each command to what its text means.
use Rattle.std.proofs.Common.{◌≡◌, ℕ, List, Result, Ok, Err, subst, sym}
use Rattle.wcet_io.specs.Files.{FilesOutside}
use Rattle.activation_windows.proofs.Points.{uses_are_points}
use Rattle.abstract_sched.specs.declared.states.AbsState.{AbsState}
use Rattle.cut_search.specs.Search.{Ending}
use Rattle.certificate.specs.declared.fault.CertKind.TheVariants as cert_kinds
use Rattle.scheduler_moves.specs.Moves.{rules_of}
use Rattle.command_steps.specs.Steps.{Calls, IsCall, Judged}
use Rattle.command_steps.proofs.Given.{then_ok, file_ok}
use Rattle.inputs.specs.declared.subjects.Analysed.{Analysed}
use Rattle.inputs.specs.declared.subjects.Subject.TheVariants.{Named}
use Rattle.inputs.specs.Inputs.{states_limit}
use Rattle.inputs.specs.Meaning.{AreBytesOf, BoundsSubject}
use Rattle.inputs.specs.States.{ClosedStates}
use Rattle.inputs.specs.Subjects.{AnalysedOf}
use Rattle.inputs.proofs.Analysing.{IsAnalysed, AreClosed, is_analysed, are_closed}
use Rattle.inputs.proofs.Given.{given_ok}
use Rattle.reports.specs.Verdicts.{yes_text}
use Rattle.bound_commands.specs.Bounded.{HasBound}
use Rattle.split_trees.specs.Tree.{Tree}
use Rattle.split_trees.proofs.Bounding.{good_trees_bound}
use Rattle.split_cert.specs.declared.cert.SplitCert.{SplitCert}
use Rattle.split_cert.specs.Certificate.{split_in}
use Rattle.split_cert.specs.Lawful.{IsLawful}
use Rattle.split_cert.proofs.Bounding.{good_splits_bound}
use Rattle.split_cert.proofs.Limits.{split_in-lawful}
use Rattle.split_search.specs.Found.{search_of}
use Rattle.split_commands.specs.Check.{HasVerdict, CheckOn, CheckSplit}
use Rattle.split_commands.specs.Find.{AnswersSearch, HasFound, IsWritten, cert_of, FindOn, FindSplit}
use Rattle.split_commands.specs.SplitFiles.{HasSplit, SplitFile}
use Rattle.split_commands.proofs.Bounds.{given_bound}

-- ---- split check

pub split_check_says : {F : Type 0} (outside : F → FilesOutside) (reads : Calls F) (start : F) (oil elf timing task split text : List ℕ) (after : F)
    → CheckSplit (IsCall outside reads) oil elf timing task split start (Ok text) after
    → (bound : ℕ) × (text ≡ yes_text task bound) × BoundsSubject (AreBytesOf outside reads start) (Named oil elf timing task) bound
split_check_says outside reads start oil elf timing task split text after steps =
    let calls = IsCall outside reads in
    let one = then_ok (AnalysedOf calls (Named oil elf timing task)) (CheckOn calls split task) start text after steps in
    let analysed : Analysed = one.0 in
    let is : IsAnalysed (AreBytesOf outside reads start) (Named oil elf timing task) analysed =
    is_analysed outside reads start (Named oil elf timing task) analysed one.1 one.2 in
    let two = then_ok (SplitFile calls split task analysed) (λ cert. Judged (HasVerdict analysed task cert)) one.1 text after one.3 in
    let cert : SplitCert = two.0 in
    let was = file_ok calls split states_limit (HasSplit analysed task) one.1 cert two.1 two.2 in
    let verdict : HasVerdict analysed task cert (Ok text) = two.3.1 in
    let rules = rules_of analysed.plant in
    let lawful : IsLawful (rules_of analysed.plant) analysed.task cert =
    given_ok (IsLawful rules analysed.task) cert_kinds.Json (split_in rules analysed.task task) was.bytes cert (split_in-lawful rules analysed.task task) was.fact in (
      cert.bound,
      verdict.1,
      is.bounds cert.bound (good_splits_bound uses_are_points good_trees_bound analysed.plant analysed.task cert is.belongs lawful.states.once is.exists verdict.0),
    )

-- ---- split find

-- the tree that the search came to, whose certificate is the text
searched : (name : List ℕ) (analysed : Analysed) (states : List AbsState) (bound cuts : ℕ) (comes_to : Result Tree Ending) (text : List ℕ)
    → AnswersSearch name analysed states bound cuts comes_to (Ok text)
    → (tree : Tree) × IsWritten name analysed (cert_of analysed.task bound states tree) text
searched name analysed states bound cuts (Ok tree) text is =
    (tree, subst (λ (t : List ℕ). IsWritten name analysed (cert_of analysed.task bound states tree) t) (cc (is.2)) is.1)
searched name analysed states bound cuts (Err ending) text is = absurd (cc (is.2))

pub split_find_says : {F : Type 0} (outside : F → FilesOutside) (reads : Calls F) (start : F) (oil elf timing task states : List ℕ) (bound cuts : ℕ)
    (text : List ℕ) (after : F)
    → FindSplit (IsCall outside reads) oil elf timing task states bound cuts start (Ok text) after
    → HasBound text bound × BoundsSubject (AreBytesOf outside reads start) (Named oil elf timing task) bound
split_find_says outside reads start oil elf timing task states bound cuts text after steps =
    let calls = IsCall outside reads in
    let one = then_ok (AnalysedOf calls (Named oil elf timing task)) (FindOn calls states bound cuts task) start text after steps in
    let analysed : Analysed = one.0 in
    let is : IsAnalysed (AreBytesOf outside reads start) (Named oil elf timing task) analysed =
    is_analysed outside reads start (Named oil elf timing task) analysed one.1 one.2 in
    let two = then_ok (ClosedStates calls states analysed.plant) (λ listed. Judged (HasFound task bound cuts analysed listed)) one.1 text after one.3 in
    let listed : List AbsState = two.0 in
    let closed : AreClosed analysed.plant listed = are_closed outside reads one.1 states analysed.plant listed two.1 two.2 in
    let found = searched task analysed listed bound cuts (search_of analysed.plant listed analysed.task bound cuts) text two.3.1 in
    let cert : SplitCert = cert_of analysed.task bound listed found.0 in
    let written : IsWritten task analysed cert text = found.1 in (
      given_bound (rules_of analysed.plant) analysed.task task text cert written.again,
      is.bounds bound (good_splits_bound uses_are_points good_trees_bound analysed.plant analysed.task cert is.belongs closed.lawful.once is.exists written.good),
    )
