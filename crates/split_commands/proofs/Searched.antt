-- From what a search found to the answer of the command.
use Rattle.std.proofs.Common.{◌≡◌, ℕ, ◌^◌, ◌<◌, List, Option, Some, None, Result, Ok, Err, refl, ap, sym, subst}
use Rattle.std.specs.Prelude.{IfOk, IfErr, option_map}
use Rattle.whole_rows.specs.Rows.{RowsData}
use Rattle.whole_simplex.specs.Outcome.{Outcome, SaysOutcome}
use Rattle.whole_simplex.specs.declared.SolveFault.{SolveFault}
use Rattle.whole_simplex.specs.declared.SolveFault.TheVariants as solving
use Rattle.abstract_sched.specs.declared.states.AbsState.{AbsState}
use Rattle.abstract_sched.specs.Fits.{AreLawful}
use Rattle.scheduler_moves.specs.Moves.{rules_of}
use Rattle.row_build.specs.Rows.{rows_of}
use Rattle.split_trees.specs.Lawful.{IsLawfulTree}
use Rattle.split_trees.specs.Tree.{Tree}
use Rattle.cut_search.specs.Answers.{IsRayOf, SaysSearch}
use Rattle.cut_search.specs.Search.{Ending, NoTree, Cuts, Refused, pivot_limit}
use Rattle.cut_search.specs.declared.fault.SplitFault.{SplitFault}
use Rattle.cut_search.specs.declared.fault.SplitFault.TheVariants as faults
use Rattle.split_cert.specs.declared.cert.SplitCert.{SplitCert}
use Rattle.split_cert.specs.Good.{IsGoodSplit}
use Rattle.split_cert.specs.Lawful.{IsLawful}
use Rattle.split_search.specs.Found.{IsFor, tree_of}
use Rattle.command_steps.specs.declared.halt.Refusal.{Refusal}
use Rattle.command_steps.specs.declared.halt.Halt.{Halt}
use Rattle.command_steps.specs.declared.halt.Halt.TheVariants as halt
use Rattle.command_steps.specs.Steps.{Says}
use Rattle.inputs.specs.declared.subjects.Analysed.{Analysed}
use Rattle.bound_commands.specs.Solving.{fault_refusal}
use Rattle.split_commands.specs.Find.{AnswersSearch, IsRefusedAt, IsWritten, cert_of}
use Rattle.split_commands.specs.Texts.{no_tree_refusal, cuts_refusal}
use Rattle.split_commands.specs.Working.Found.{IsTextOf, IsToldOf}

-- ---- a certificate

-- what is known of a certificate that a search found
pub record IsSound (analysed : Analysed) (states : List AbsState) (bound : ℕ) (cert : SplitCert) : Type 0 where
  pub is_for : IsFor analysed.task bound states cert
  pub good : IsGoodSplit analysed.plant analysed.task cert
  pub lawful : IsLawful (rules_of analysed.plant) analysed.task cert

pub is_sound : (analysed : Analysed) (states : List AbsState) (bound : ℕ) (found : Result SplitCert SplitFault) → bound < 2 ^ 120
    → AreLawful (rules_of analysed.plant) states → IfOk found (IsFor analysed.task bound states)
    → IfOk found (IsGoodSplit analysed.plant analysed.task) → IfOk found (λ cert. IsLawfulTree cert.tree)
    → IfOk found (IsSound analysed states bound)
is_sound analysed states bound (Ok cert) low lawful is_for good tree = record {
  is_for = is_for;
  good = good;
  lawful = record {
    for_task = is_for.task_is;
    bound = subst (λ (n : ℕ). n < 2 ^ 120) (sym is_for.bound_is) low;
    states = subst (λ (s : List AbsState). AreLawful (rules_of analysed.plant) s) (sym is_for.states_are) lawful;
    tree = tree;
  };
}
is_sound analysed states bound (Err fault) low lawful is_for good tree = tt

same_cert : (task bound : ℕ) (states : List AbsState) (tree : Tree) (cert : SplitCert) → IsFor task bound states cert → cert.tree ≡ tree
    → cert ≡ cert_of task bound states tree
same_cert task bound states tree cert is_for same = rw (← is_for.task_is, ← is_for.bound_is, ← is_for.states_are, ← same) refl

is_written : (name : List ℕ) (analysed : Analysed) (states : List AbsState) (bound : ℕ) (tree : Tree) (cert : SplitCert) (text : List ℕ)
    → IsSound analysed states bound cert → cert.tree ≡ tree → IsTextOf name cert text
    → IsWritten name analysed (cert_of analysed.task bound states tree) text
is_written name analysed states bound tree cert text sound same is =
    subst (λ (c : SplitCert). IsWritten name analysed c text) (same_cert analysed.task bound states tree cert sound.is_for same)
    (record { good = sound.good; told = is.told; again = is.again (rules_of analysed.plant) analysed.task sound.lawful })

-- ---- a refusal

abbrev refuses : Refusal → Result (List ℕ) Refusal
refuses refused = Err refused

given_err : (refused : Refusal) (given : Result (List ℕ) Refusal) → Some (refuses refused) ≡ Some given → given ≡ refuses refused
given_err refused given is = cc

told_refusal : (refusal : Option Refusal) (given : Result (List ℕ) Refusal) → option_map Err refusal ≡ Some given
    → (refused : Refusal) × (refusal ≡ Some refused) × (given ≡ Err refused)
told_refusal None given is = absurd cc
told_refusal (Some refused) given is = (refused, refl, given_err refused given is)

says_outcome : (cuts : ℕ) (rows : RowsData) (outcome : Outcome) (fault : SolveFault)
    → SaysSearch cuts (Err (Refused rows outcome)) (Err (faults.Solve fault)) → SaysOutcome rows pivot_limit outcome (Err fault)
says_outcome cuts rows outcome solving.Memory says = absurd says
says_outcome cuts rows outcome fault says = says

refused_at : (full rows : RowsData) (outcome : Outcome) (fault : SolveFault) (given : Result (List ℕ) Refusal)
    → SaysOutcome rows pivot_limit outcome (Err fault) → IsRayOf full (faults.Solve fault)
    → option_map Err (fault_refusal fault) ≡ Some given
    → (refused : Refusal) × IsRefusedAt full rows outcome refused × (given ≡ Err refused)
refused_at full rows outcome fault given says ray told =
    let is = told_refusal (fault_refusal fault) given told in
    (is.0, record { fault = fault; outcome_is = says; ray = ray; told = is.1 }, is.2)

-- ---- both

found_answered : (name : List ℕ) (analysed : Analysed) (states : List AbsState) (bound cuts : ℕ) (comes_to : Result Tree Ending)
    (found : Result SplitCert SplitFault) (given : Result (List ℕ) Refusal)
    → SaysSearch cuts comes_to (tree_of found) → IfOk found (IsSound analysed states bound)
    → IfErr found (IsRayOf (rows_of analysed.plant states analysed.task))
    → IsToldOf name found given → AnswersSearch name analysed states bound cuts comes_to given
found_answered name analysed states bound cuts (Ok tree) (Ok cert) (Ok text) says sound ray told =
    (text, is_written name analysed states bound tree cert text sound says told, refl)
found_answered name analysed states bound cuts (Err NoTree) (Err faults.NoTree) given says sound ray told =
    (no_tree_refusal, refl, given_err no_tree_refusal given told)
found_answered name analysed states bound cuts (Err Cuts) (Err (faults.Cuts count)) given says sound ray told =
    (cuts_refusal count, ap (λ (n : ℕ). cuts_refusal n) says, given_err (cuts_refusal count) given told)
found_answered name analysed states bound cuts comes_to (Err (faults.Solve solving.Memory)) given says sound ray told = absurd says
found_answered name analysed states bound cuts (Err (Refused rows outcome)) (Err (faults.Solve fault)) given says sound ray told =
    refused_at (rows_of analysed.plant states analysed.task) rows outcome fault given (says_outcome cuts rows outcome fault says) ray told
found_answered name analysed states bound cuts comes_to (Ok cert) (Err refused) says sound ray told = absurd told
found_answered name analysed states bound cuts comes_to (Err faults.Memory) given says sound ray told = absurd cc
found_answered name analysed states bound cuts comes_to found given says sound ray told = absurd says

-- the same of a step
pub found_said : (name : List ℕ) (analysed : Analysed) (states : List AbsState) (bound cuts : ℕ) (comes_to : Result Tree Ending)
    (found : Result SplitCert SplitFault) (r : Result (List ℕ) Halt)
    → SaysSearch cuts comes_to (tree_of found) → IfOk found (IsSound analysed states bound)
    → IfErr found (IsRayOf (rows_of analysed.plant states analysed.task))
    → Says (IsToldOf name found) r → Says (AnswersSearch name analysed states bound cuts comes_to) r
found_said name analysed states bound cuts comes_to found (Ok text) says sound ray told =
    found_answered name analysed states bound cuts comes_to found (Ok text) says sound ray told
found_said name analysed states bound cuts comes_to found (Err (halt.Refused refusal)) says sound ray told =
    found_answered name analysed states bound cuts comes_to found (Err refusal) says sound ray told
found_said name analysed states bound cuts comes_to found (Err (halt.Failed name_of)) says sound ray told = told
found_said name analysed states bound cuts comes_to found (Err halt.Memory) says sound ray told = tt
