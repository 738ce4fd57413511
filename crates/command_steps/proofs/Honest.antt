-- Steps that are joined leave of the outside what each of them does.
use Rattle.std.proofs.Common.{◌≡◌, ℕ, ◌≤◌, List, Contains, Result, Ok, Err, inl, inr, refl, sym, ◌∙◌, subst, arith}
use Rattle.wcet_io.specs.Causes.{Rose, CountsOn}
use Rattle.wcet_io.specs.Files.{FilesOutside, FilesGoOn}
use Rattle.command_steps.specs.declared.halt.Refusal.{Refusal}
use Rattle.command_steps.specs.declared.halt.Halt.{Halt}
use Rattle.command_steps.specs.declared.halt.Halt.TheVariants.{Refused, Failed, Memory}
use Rattle.command_steps.specs.Steps.{Calls, Step, IsCall, Reading, Judged, Says, Then, File}
use Rattle.command_steps.specs.Outside.{NoneFailed, OneFailed, Leaves}

pub record IsHonest {F X : Type 0} (outside : F → FilesOutside) (names : List (List ℕ)) (step : Step F X) : Type 0 where
  pub leaves : (before : F) (given : Result X Halt) (after : F) → step before given after → Leaves names given (outside before) (outside after)

-- ---- counts that go on

same_counts : (n : ℕ) → CountsOn n n
same_counts n = record { never_falls = omega arith; stops = λ h. h }

pub later_counts : (a b c : ℕ) → CountsOn a b → CountsOn b c → CountsOn a c
later_counts a b c first next =
    let one : a ≤ b = first.never_falls in
    let two : b ≤ c = next.never_falls in
    record { never_falls = omega arith; stops = λ h. next.stops (first.stops h) }

pub same_files : (a b : FilesOutside) → b ≡ a → FilesGoOn a b
same_files a b same =
    subst (λ (x : FilesOutside). FilesGoOn a x) (sym same)
    (record { kept = refl; faults_go_on = same_counts a.faults; taken_goes_on = same_counts a.taken })

later_files : (a b c : FilesOutside) → FilesGoOn a b → FilesGoOn b c → FilesGoOn a c
later_files a b c first next = record {
  kept = next.kept ∙ first.kept;
  faults_go_on = later_counts a.faults b.faults c.faults first.faults_go_on next.faults_go_on;
  taken_goes_on = later_counts a.taken b.taken c.taken first.taken_goes_on next.taken_goes_on;
}

-- ---- one read

reading_leaves : {F : Type 0} (outside : F → FilesOutside) (reads : Calls F) (names : List (List ℕ)) (name : List ℕ) (limit : ℕ) → Contains names name
    → (before : F) (given : Result (List ℕ) Halt) (after : F) → Reading (IsCall outside reads) name limit before given after
    → Leaves names given (outside before) (outside after)
reading_leaves outside reads names name limit is_named before (Ok bytes) after is =
    record { goes_on = is.tells.goes_on; cause = record { faults = is.tells.cause; failed = is.tells.last } }
reading_leaves outside reads names name limit is_named before (Err (Refused refusal)) after is =
    record { goes_on = is.1.tells.goes_on; cause = record { faults = is.1.tells.cause; failed = is.1.tells.last } }
reading_leaves outside reads names name limit is_named before (Err (Failed failed)) after is =
    record {
      goes_on = is.0.tells.goes_on;
      cause = subst (λ (n : List ℕ). OneFailed names n (outside before) (outside after)) (sym is.1)
          (record { is_named = is_named; rose = is.0.tells.cause; failed = is.0.tells.last });
    }
reading_leaves outside reads names name limit is_named before (Err Memory) after is = record { goes_on = is.1.tells.goes_on; cause = tt }

pub reading : {F : Type 0} (outside : F → FilesOutside) (reads : Calls F) (names : List (List ℕ)) (name : List ℕ) (limit : ℕ) → Contains names name
    → IsHonest outside names (Reading (IsCall outside reads) name limit)
reading outside reads names name limit is_named = record { leaves = reading_leaves outside reads names name limit is_named }

-- ---- a step that reads nothing

none_failed : (a b : FilesOutside) → b ≡ a → NoneFailed a b
none_failed a b same = subst (λ (x : FilesOutside). NoneFailed a x) (sym same) (record { faults = refl; failed = refl })

judged_leaves : {F X : Type 0} (outside : F → FilesOutside) (names : List (List ℕ)) (Fact : Result X Refusal → Type 0) (before : F)
    (given : Result X Halt) (after : F)
    → Says Fact given → outside after ≡ outside before → Leaves names given (outside before) (outside after)
judged_leaves outside names Fact before (Ok x) after is same =
    record { goes_on = same_files (outside before) (outside after) same; cause = none_failed (outside before) (outside after) same }
judged_leaves outside names Fact before (Err (Refused refusal)) after is same =
    record { goes_on = same_files (outside before) (outside after) same; cause = none_failed (outside before) (outside after) same }
judged_leaves outside names Fact before (Err (Failed name)) after is same = absurd is
judged_leaves outside names Fact before (Err Memory) after is same = record { goes_on = same_files (outside before) (outside after) same; cause = tt }

pub judged : {F X : Type 0} (outside : F → FilesOutside) (names : List (List ℕ)) (Fact : Result X Refusal → Type 0)
    → IsHonest {F = F} {X = X} outside names (Judged {F = F} {X = X} Fact)
judged {F} {X} outside names Fact = record {
  leaves = λ before given after is.
      judged_leaves outside names Fact before given after is.1 (subst (λ (x : F). outside x ≡ outside before) (sym is.0) refl);
}

-- ---- steps that are joined

later_leaves : {X Y : Type 0} (names : List (List ℕ)) (x : X) (given : Result Y Halt) (a b c : FilesOutside)
    → Leaves {X = X} names (Ok x) a b → Leaves names given b c → Leaves names given a c
later_leaves names x (Ok y) a b c first next = record {
  goes_on = later_files a b c first.goes_on next.goes_on;
  cause = record { faults = next.cause.faults ∙ first.cause.faults; failed = next.cause.failed ∙ first.cause.failed };
}
later_leaves names x (Err (Refused refusal)) a b c first next = record {
  goes_on = later_files a b c first.goes_on next.goes_on;
  cause = record { faults = next.cause.faults ∙ first.cause.faults; failed = next.cause.failed ∙ first.cause.failed };
}
later_leaves names x (Err (Failed name)) a b c first next = record {
  goes_on = later_files a b c first.goes_on next.goes_on;
  cause = record {
    is_named = next.cause.is_named;
    rose = subst (λ (n : ℕ). Rose n c.faults) first.cause.faults next.cause.rose;
    failed = next.cause.failed;
  };
}
later_leaves names x (Err Memory) a b c first next = record { goes_on = later_files a b c first.goes_on next.goes_on; cause = tt }

halted : {X Y : Type 0} (names : List (List ℕ)) (halt : Halt) (a b : FilesOutside) → Leaves {X = X} names (Err halt) a b
    → Leaves {X = Y} names (Err halt) a b
halted names (Refused refusal) a b is = record { goes_on = is.goes_on; cause = is.cause }
halted names (Failed name) a b is = record { goes_on = is.goes_on; cause = is.cause }
halted names Memory a b is = record { goes_on = is.goes_on; cause = tt }

then_leaves : {F X Y : Type 0} (outside : F → FilesOutside) (names : List (List ℕ)) (first : Step F X) (next : X → Step F Y)
    → IsHonest outside names first → ((x : X) → IsHonest outside names (next x))
    → (before : F) (given : Result Y Halt) (after : F) → Then first next before given after → Leaves names given (outside before) (outside after)
then_leaves outside names first next one two before given after (inl is) =
    later_leaves names is.0 given (outside before) (outside is.1) (outside after) (one.leaves before (Ok is.0) is.1 is.2)
    ((two is.0).leaves is.1 given after is.3)
then_leaves outside names first next one two before given after (inr is) =
    subst (λ (r : Result _ Halt). Leaves names r (outside before) (outside after)) (sym is.2)
    (halted names is.0 (outside before) (outside after) (one.leaves before (Err is.0) after is.1))

pub joined : {F X Y : Type 0} (outside : F → FilesOutside) (names : List (List ℕ)) (first : Step F X) (next : X → Step F Y)
    → IsHonest outside names first → ((x : X) → IsHonest outside names (next x)) → IsHonest {F = F} {X = Y} outside names (Then first next)
joined outside names first next one two = record { leaves = then_leaves outside names first next one two }

pub file : {F X : Type 0} (outside : F → FilesOutside) (reads : Calls F) (names : List (List ℕ)) (name : List ℕ) (limit : ℕ)
    (Fact : List ℕ → Result X Refusal → Type 0) → Contains names name
    → IsHonest {F = F} {X = X} outside names (File (IsCall outside reads) name limit Fact)
file {F} {X} outside reads names name limit Fact is_named =
    joined {F = F} {X = List ℕ} {Y = X} outside names (Reading (IsCall outside reads) name limit) (λ bytes. Judged (Fact bytes))
    (reading outside reads names name limit is_named) (λ bytes. judged outside names (Fact bytes))
