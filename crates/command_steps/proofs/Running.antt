-- From the steps of a command to its run.
use Rattle.std.proofs.Common.{◌≡◌, ◌⊎◌, ℕ, zero, suc, ◌+◌, ◌≤◌, List, [], ◌++◌, length, take, drop, Option, Some, None, Result, Ok, Err, inl, inr, refl, ap, sym, ◌∙◌, subst, append_assoc, append-nil, length-append, take-take, min, arith}
use Rattle.std.proofs.Math.Seq.{take-append-add}
use Rattle.std.proofs.lemmas.List.{take-append-drop, length-take}
use Rattle.wcet_io.specs.declared.fault.SinkFault.{SinkFault}
use Rattle.wcet_io.specs.declared.fault.SinkFault.TheVariants as sink
use Rattle.wcet_io.specs.Causes.{HasCause}
use Rattle.wcet_io.specs.Files.{FilesOutside}
use Rattle.wcet_io.specs.Sink.{SinkOutside, appended, AppendsPrefix, IsWrite, is_failed}
use Rattle.command_steps.specs.declared.status.Status.{Status}
use Rattle.command_steps.specs.declared.status.Status.TheVariants as status
use Rattle.command_steps.specs.declared.status.Reason.{Reason}
use Rattle.command_steps.specs.declared.status.Reason.TheVariants as reason
use Rattle.command_steps.specs.Status.{status_of}
use Rattle.command_steps.specs.declared.halt.Halt.{Halt}
use Rattle.command_steps.specs.declared.halt.Halt.TheVariants.{Refused, Failed, Memory}
use Rattle.command_steps.specs.Refusals.{read_text}
use Rattle.command_steps.specs.Steps.{Step}
use Rattle.command_steps.specs.Reports.{Writes, IsWriteCall, Puts, WritesText, Ends, Wrote, ended_by}
use Rattle.command_steps.specs.Outside.{NoneFailed, Leaves, ReadCause, text_of, Shows}
use Rattle.command_steps.specs.Running.{Ran}
use Rattle.command_steps.proofs.Honest.{IsHonest, later_counts, same_files}

-- ---- the pieces of a text are written as the text is

nothing_more : (written : Option (List ℕ)) → written ≡ appended written []
nothing_more None = refl
nothing_more (Some bytes) = ap (λ (b : List ℕ). Some b) (sym (append-nil bytes))

appended-appended : (written : Option (List ℕ)) (a b : List ℕ) → appended (appended written a) b ≡ appended written (a ++ b)
appended-appended None a b = refl
appended-appended (Some bytes) a b = rw append_assoc refl

same_sink : (a : SinkOutside) → IsWrite {T = Unit {0}} a [] (Ok tt) a
same_sink a = record { appends = nothing_more a.written; cause = refl; goes_on = record { never_falls = omega arith; stops = λ h. h } }

-- a piece whole, and a prefix of what is behind it
prefix_behind : (p q : List ℕ) (a b c : Option (List ℕ)) → b ≡ appended a p → AppendsPrefix b q c → AppendsPrefix a (p ++ q) c
prefix_behind p q a b c first next =
    let n : ℕ = next.0 in
    let few : n ≤ length q = next.1 in (
      length p + n,
      rw length-append (omega arith),
      next.2 ∙ ap (λ (w : Option (List ℕ)). appended w (take n q)) first ∙ appended-appended a p (take n q) ∙ ap (appended a)
          (sym (take-append-add p q n)),
    )

-- a prefix of a piece is one of the text
prefix_within : (size : ℕ) (text : List ℕ) (a b : Option (List ℕ)) → AppendsPrefix a (take size text) b → AppendsPrefix a text b
prefix_within size text a b is =
    let n : ℕ = is.0 in
    let few : n ≤ length (take size text) = is.1 in
    let long : length (take size text) ≡ min size (length text) = length-take size text in
    (n, omega arith, is.2 ∙ ap (appended a) (take-take n size text (omega arith)))

two_pieces : (p q : List ℕ) (given : Result (Unit {0}) SinkFault) (a b c : SinkOutside) → IsWrite {T = Unit {0}} a p (Ok tt) b → IsWrite b q given c
    → IsWrite a (p ++ q) given c
two_pieces p q (Ok done) a b c first next = record {
  appends = next.appends ∙ ap (λ (w : Option (List ℕ)). appended w q) first.appends ∙ appended-appended a.written p q;
  cause = next.cause ∙ first.cause;
  goes_on = later_counts a.faults b.faults c.faults first.goes_on next.goes_on;
}
two_pieces p q (Err fault) a b c first next = record {
  appends = prefix_behind p q a.written b.written c.written first.appends next.appends;
  cause = subst (λ (n : ℕ). HasCause (is_failed {T = Unit {0}} (Err fault)) n c.faults) first.cause next.cause;
  goes_on = later_counts a.faults b.faults c.faults first.goes_on next.goes_on;
}

pub puts : {O : Type 0} (shown : O → SinkOutside) (writes : Writes O) (count : ℕ) (before : O) (text : List ℕ) (given : Result (Unit {0}) SinkFault)
    (after : O)
    → Puts (IsWriteCall shown writes) count before text given after → IsWrite (shown before) text given (shown after)
puts {O} shown writes zero before text given after is =
    let whole : IsWrite {T = Unit {0}} (shown before) [] (Ok tt) (shown after) = subst
    (λ (o : O). IsWrite {T = Unit {0}} (shown before) [] (Ok tt) (shown o)) (sym is.2) (same_sink (shown before)) in
    let gave : IsWrite (shown before) [] given (shown after) = subst
    (λ (r : Result (Unit {0}) SinkFault). IsWrite (shown before) [] r (shown after)) (sym is.1) whole in
    subst (λ (t : List ℕ). IsWrite (shown before) t given (shown after)) (sym is.0) gave
puts shown writes (suc count) before text given after (some, inl more) =
    subst (λ (t : List ℕ). IsWrite (shown before) t given (shown after)) (take-append-drop 4096 text)
    (two_pieces (take 4096 text) (drop 4096 text) given (shown before) (shown more.0) (shown after) more.1.tells
    (puts shown writes count more.0 (drop 4096 text) given after more.2))
puts shown writes (suc count) before text given after (some, inr less) =
    let tells = less.1.tells in
    subst (λ (r : Result (Unit {0}) SinkFault). IsWrite (shown before) text r (shown after)) (sym less.2)
    (record {
      appends = prefix_within 4096 text (shown before).written
          (shown after).written tells.appends;
      cause = tells.cause;
      goes_on = tells.goes_on;
    })

-- ---- what the sink tells of a report

-- how a run may mean to end: by its answer, a refusal, or a read that failed
abbrev pub IsMeant : Status → Type 0
IsMeant status.WriteFault = ⊥
IsMeant status.Memory = ⊥
IsMeant _ = Unit {0}

-- what holds of each status of a refusal
pub by_reason : (P : Status → Type 0) → P status.No → P status.Words → P status.Input → P status.Unbounded → P status.Budget → P status.Wide → P status.Misuse
    → P status.NotDeclared → (why : Reason) → P (status_of why)
by_reason P refused words input unbounded budget wide misuse undeclared reason.No = refused
by_reason P refused words input unbounded budget wide misuse undeclared reason.Words = words
by_reason P refused words input unbounded budget wide misuse undeclared reason.Input = input
by_reason P refused words input unbounded budget wide misuse undeclared reason.Unbounded = unbounded
by_reason P refused words input unbounded budget wide misuse undeclared reason.Budget = budget
by_reason P refused words input unbounded budget wide misuse undeclared reason.Wide = wide
by_reason P refused words input unbounded budget wide misuse undeclared reason.Misuse = misuse
by_reason P refused words input unbounded budget wide misuse undeclared reason.NotDeclared = undeclared

meant_reason : (why : Reason) → IsMeant (status_of why)
meant_reason why = by_reason IsMeant tt tt tt tt tt tt tt tt why

cause_reason : (names : List (List ℕ)) (a b : FilesOutside) (why : Reason) → NoneFailed a b → ReadCause names (status_of why) a b
cause_reason names a b why none = by_reason (λ s. ReadCause names s a b) none none none none none none none none why

not_ok_reason : (why : Reason) → status_of why ≡ status.Ok → ⊥
not_ok_reason why = by_reason (λ s. s ≡ status.Ok → ⊥) (λ e. cc) (λ e. cc) (λ e. cc) (λ e. cc) (λ e. cc) (λ e. cc) (λ e. cc) (λ e. cc) why

shows_whole : (text : List ℕ) (ended : Status) (a b : SinkOutside) → IsMeant ended → IsWrite {T = Unit {0}} a text (Ok tt) b → Shows text ended a b
shows_whole text status.WriteFault a b meant wrote = absurd meant
shows_whole text status.Memory a b meant wrote = absurd meant
shows_whole text ended a b meant wrote = record { appends = wrote.appends; cause = wrote.cause; goes_on = wrote.goes_on }

shows_given : (text : List ℕ) (ended : Status) (given : Result (Unit {0}) SinkFault) (a b : SinkOutside) → IsMeant ended → IsWrite a text given b
    → Shows text (ended_by ended given) a b
shows_given text ended (Ok done) a b meant wrote = shows_whole text ended a b meant wrote
shows_given text ended (Err sink.Failed) a b meant wrote = record { appends = wrote.appends; cause = wrote.cause; goes_on = wrote.goes_on }
shows_given text ended (Err sink.Memory) a b meant wrote = record { appends = wrote.appends; cause = wrote.cause; goes_on = wrote.goes_on }

shows_end : {O : Type 0} (shown : O → SinkOutside) (writes : Writes O) (text : List ℕ) (ended : Status) (before : O) (is : Status) (after : O)
    → IsMeant ended
    → Ends (IsWriteCall shown writes) text ended before is after → Shows text is (shown before) (shown after)
shows_end shown writes text ended before is after meant ends =
    subst (λ (s : Status). Shows text s (shown before) (shown after)) (sym ends.2)
    (shows_given text ended ends.0 (shown before) (shown after) meant (puts shown writes ends.1.0 before text ends.0 after ends.1.1))

shows_nothing : {O : Type 0} (shown : O → SinkOutside) (text : List ℕ) (before : O) (is : Status) (after : O) → is ≡ status.Memory → after ≡ before
    → Shows text is (shown before) (shown after)
shows_nothing {O} shown text before is after memory same =
    let nothing : Shows text status.Memory (shown before) (shown before) = record {
      appends = (0, omega arith, nothing_more (shown before).written);
      cause = refl;
      goes_on = (same_sink (shown before)).goes_on;
    } in
    subst (λ (s : Status). Shows text s (shown before) (shown after)) (sym memory)
    (subst (λ (o : O). Shows text status.Memory (shown before) (shown o)) (sym same) nothing)

pub shows : {O : Type 0} (shown : O → SinkOutside) (writes : Writes O) (answered : Result (List ℕ) Halt) (before : O) (is : Status) (after : O)
    → Wrote (IsWriteCall shown writes) answered before is after → Shows (text_of answered) is (shown before) (shown after)
shows shown writes (Ok text) before is after wrote = shows_end shown writes text status.Ok before is after tt wrote
shows shown writes (Err (Refused refusal)) before is after wrote = shows_end shown writes refusal.text
    (status_of refusal.reason) before is after (meant_reason refusal.reason) wrote
shows shown writes (Err (Failed name)) before is after (inl wrote) = shows_end shown writes (read_text name) status.ReadFault before is after tt wrote
shows shown writes (Err (Failed name)) before is after (inr wrote) = shows_nothing shown (read_text name) before is after wrote.0 wrote.1
shows shown writes (Err Memory) before is after wrote = shows_nothing shown [] before is after wrote.0 wrote.1

-- ---- the cause of a read that failed

cause_given : (names : List (List ℕ)) (ended : Status) (given : Result (Unit {0}) SinkFault) (a b : FilesOutside)
    → ReadCause names ended a b → ReadCause names status.WriteFault a b → ReadCause names (ended_by ended given) a b
cause_given names ended (Ok done) a b meant refused = meant
cause_given names ended (Err sink.Failed) a b meant refused = refused
cause_given names ended (Err sink.Memory) a b meant refused = tt

cause_end : {O : Type 0} (writes : Writes O) (names : List (List ℕ)) (text : List ℕ) (ended : Status) (before : O) (is : Status) (after : O)
    (a b : FilesOutside)
    → Ends writes text ended before is after → ReadCause names ended a b → ReadCause names status.WriteFault a b → ReadCause names is a b
cause_end writes names text ended before is after a b ends meant refused =
    subst (λ (s : Status). ReadCause names s a b) (sym ends.2) (cause_given names ended ends.0 a b meant refused)

cause_memory : (names : List (List ℕ)) (is : Status) (a b : FilesOutside) → is ≡ status.Memory → ReadCause names is a b
cause_memory names is a b memory = subst (λ (s : Status). ReadCause names s a b) (sym memory) tt

cause : {O : Type 0} (writes : Writes O) (names : List (List ℕ)) (answered : Result (List ℕ) Halt) (before : O) (is : Status) (after : O)
    (a b : FilesOutside)
    → Wrote writes answered before is after → Leaves names answered a b → ReadCause names is a b
cause writes names (Ok text) before is after a b wrote leaves =
    cause_end writes names text status.Ok before is after a b wrote leaves.cause (inl leaves.cause)
cause writes names (Err (Refused refusal)) before is after a b wrote leaves =
    cause_end writes names refusal.text (status_of refusal.reason) before is after a b wrote (cause_reason names a b refusal.reason leaves.cause) (inl leaves.cause)
cause writes names (Err (Failed name)) before is after a b (inl wrote) leaves =
    cause_end writes names (read_text name) status.ReadFault before is after a b wrote (name, leaves.cause) (inr (name, leaves.cause))
cause writes names (Err (Failed name)) before is after a b (inr wrote) leaves = cause_memory names is a b wrote.0
cause writes names (Err Memory) before is after a b wrote leaves = cause_memory names is a b wrote.0

-- ---- the run

all_leave : {F : Type 0} (outside : F → FilesOutside) (names : List (List ℕ)) (step : Step F (List ℕ)) (before : F)
    (answered : Result (List ℕ) Halt) (after : F)
    → IsHonest outside names step → step before answered after ⊎ ((after ≡ before) × (answered ≡ Err Memory))
    → Leaves names answered (outside before) (outside after)
all_leave outside names step before answered after honest (inl is) = honest.leaves before answered after is
all_leave {F} outside names step before answered after honest (inr is) =
    let same : outside after ≡ outside before = subst (λ (x : F). outside x ≡ outside before) (sym is.0) refl in
    subst (λ (r : Result (List ℕ) Halt). Leaves names r (outside before) (outside after)) (sym is.1)
    (record { goes_on = same_files (outside before) (outside after) same; cause = tt })

pub ran : {F O : Type 0} (outside : F → FilesOutside) (shown : O → SinkOutside) (writes : Writes O) (names : List (List ℕ)) (step : Step F (List ℕ))
    (before after : F) (sink_before sink_after : O)
    (answered : Result (List ℕ) Halt) (is : Status) → IsHonest outside names step
    → step before answered after ⊎ ((after ≡ before) × (answered ≡ Err Memory))
    → Wrote (IsWriteCall shown writes) answered sink_before is sink_after → Ran outside shown writes names step before after sink_before sink_after is
ran outside shown writes names step before after sink_before sink_after answered is honest steps wrote =
    let leaves = all_leave outside names step before answered after honest steps in
    record {
      answered = answered;
      steps = steps;
      wrote = wrote;
      files_go_on = leaves.goes_on;
      reads = cause (IsWriteCall shown writes) names answered sink_before is sink_after (outside before) (outside after) wrote leaves;
      shows = shows shown writes answered sink_before is sink_after wrote;
    }

-- ---- a run that ended with status 0

ended_ok : (ended : Status) (given : Result (Unit {0}) SinkFault) → ended_by ended given ≡ status.Ok → ended ≡ status.Ok
ended_ok ended (Ok done) is = is
ended_ok ended (Err sink.Failed) is = cc
ended_ok ended (Err sink.Memory) is = cc

meant_ok : {O : Type 0} (writes : Writes O) (text : List ℕ) (ended : Status) (before : O) (is : Status) (after : O)
    → Ends writes text ended before is after → is ≡ status.Ok → ended ≡ status.Ok
meant_ok writes text ended before is after ends ok = ended_ok ended ends.0 (sym ends.2 ∙ ok)

-- its steps gave the text that it wrote
pub ok_answered : {O : Type 0} (writes : Writes O) (answered : Result (List ℕ) Halt) (before : O) (is : Status) (after : O)
    → Wrote writes answered before is after → is ≡ status.Ok
    → answered ≡ Ok (text_of answered)
ok_answered writes (Ok text) before is after wrote ok = refl
ok_answered writes (Err (Refused refusal)) before is after wrote ok =
    absurd (not_ok_reason refusal.reason (meant_ok writes refusal.text (status_of refusal.reason) before is after wrote ok))
ok_answered writes (Err (Failed name)) before is after (inl wrote) ok =
    let e : status.ReadFault ≡ status.Ok = meant_ok writes (read_text name) status.ReadFault before is after wrote ok in cc
ok_answered writes (Err (Failed name)) before is after (inr wrote) ok = cc (wrote.0, ok)
ok_answered writes (Err Memory) before is after wrote ok = cc (wrote.0, ok)

-- and that text went out whole
wrote_whole : {O : Type 0} (writes : Writes O) (text : List ℕ) (before : O) (is : Status) (after : O) (given : Result (Unit {0}) SinkFault)
    → WritesText writes before text given after → is ≡ ended_by status.Ok given → is ≡ status.Ok
    → WritesText writes before text (Ok tt) after
wrote_whole writes text before is after (Ok tt) written ended ok = written
wrote_whole writes text before is after (Err sink.Failed) written ended ok = cc (ended, ok)
wrote_whole writes text before is after (Err sink.Memory) written ended ok = cc (ended, ok)

pub ok_written : {O : Type 0} (writes : Writes O) (answered : Result (List ℕ) Halt) (before : O) (is : Status) (after : O)
    → Wrote writes answered before is after → is ≡ status.Ok
    → WritesText writes before (text_of answered) (Ok tt) after
ok_written writes (Ok text) before is after wrote ok = wrote_whole writes text before is after wrote.0 wrote.1 wrote.2 ok
ok_written writes (Err (Refused refusal)) before is after wrote ok =
    absurd (not_ok_reason refusal.reason (meant_ok writes refusal.text (status_of refusal.reason) before is after wrote ok))
ok_written writes (Err (Failed name)) before is after (inl wrote) ok =
    let e : status.ReadFault ≡ status.Ok = meant_ok writes (read_text name) status.ReadFault before is after wrote ok in cc
ok_written writes (Err (Failed name)) before is after (inr wrote) ok = cc (wrote.0, ok)
ok_written writes (Err Memory) before is after wrote ok = cc (wrote.0, ok)
