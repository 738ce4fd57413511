-- The text of a timing, and what is read of it.
use Rattle.std.proofs.Common.{◌≡◌, ℕ, suc, ◌+◌, ◌*◌, ◌%◌, ◌^◌, ◌<◌, ◌≤◌, Bool, true, false, List, [], ◌∷◌, ◌++◌, length, map, Some, Ok, refl, ap, ◌∙◌, inl, arith}
use Rattle.std.specs.Prelude.{IsUtf8, codes, ◌==◌}
use Rattle.std.specs.List.{list_all, list_any, AllByRecursion}
use Rattle.std.proofs.lemmas.Bool.{le-leb, eq-eqb, ne_eqb}
use Rattle.std.proofs.lemmas.List.{length-map}
use Rattle.std.proofs.lemmas.Str.{IsUtf8-append}
use Rattle.json.proofs.Printed.Utf8.{IsUtf8-are_ascii}
use Rattle.serde_json.specs.Data.{Data, depth, items_depth}
use Rattle.serde_json.specs.Read.{read, max_depth}
use Rattle.serde_json.specs.View.{items_of}
use Rattle.serde_json.specs.Written.{has_float, items_have_float, compact_text}
use Rattle.listed.specs.Lists.{differ, each_from}
use Rattle.json_fields.specs.Files.{IsGiven}
use Rattle.json_fields.proofs.Words.{members_of-items_of}
use Rattle.timing_file.specs.declared.fault.TimingKind.TheVariants as timing_kinds
use Rattle.timing_file.specs.declared.timing.Loop.{Loop}
use Rattle.timing_file.specs.Form.{is_range, is_keyed, has_form, has_keys_of, has_known_keys}
use Rattle.timing_file.specs.Ranges.{ranged_at}
use Rattle.timing_file.specs.Tables.{costs_of}
use Rattle.timing_file.specs.Timing as timings
use Rattle.timing_file.specs.Timing.{same_span, loop_span, timing_of, timing_in}
use Rattle.certificate.proofs.Newlines.{read-newline}
use Rattle.demo_gen.specs.declared.task.DemoTask.{DemoTask}
use Rattle.demo_gen.specs.Draws.{base, size_of}
use Rattle.demo_gen.specs.Demo.{loop_of, the_timing}
use Rattle.demo_gen.specs.Texts.{loop_data, timing_data, timing_text}
use Rattle.demo_gen.specs.Working.Drawn.{Follow, AreDrawn}
use Rattle.demo_gen.proofs.AddressTexts.{address_back}

-- ---- Its text

abbrev loop_value : DemoTask → Data
loop_value task = loop_data (loop_of task)

loops_exact : (tasks : List DemoTask) → items_have_float (items_of (map loop_value tasks)) ≡ false
loops_exact [] = refl
loops_exact (task ∷ tasks) = loops_exact tasks

timing_exact : (tasks : List DemoTask) → has_float (timing_data tasks) ≡ false
unfolding timing_data
timing_exact tasks = rw (loops_exact tasks) refl

loops_shallow : (tasks : List DemoTask) → items_depth (items_of (map loop_value tasks)) ≤ 1
loops_shallow [] = omega arith
loops_shallow (task ∷ tasks) = omega (arith, loops_shallow tasks)

timing_shallow : (tasks : List DemoTask) → depth (timing_data tasks) ≤ max_depth
unfolding timing_data
timing_shallow tasks = omega (arith, loops_shallow tasks)

pub text_of : (tasks : List DemoTask) (d : Data) (text : List ℕ) → d ≡ timing_data tasks → (has_float d ≡ false → text ≡ compact_text d)
    → text ++ 10 ∷ [] ≡ timing_text tasks
text_of tasks d text is written =
    let exact : has_float d ≡ false = rw is (timing_exact tasks) in
    ap (λ t. t ++ 10 ∷ []) (written exact ∙ ap compact_text is)

-- ---- Its loops

-- a loop that a timing file can name
record IsRead (task : DemoTask) : Type 0 where
  from : (loop_of task).from < 2 ^ 32
  to : (loop_of task).to < 2 ^ 32
  from_aligned : (loop_of task).from % 4 ≡ 0
  to_aligned : (loop_of task).to % 4 ≡ 0
  bound : task.bound ≤ 1048576

are_read : (number entry : ℕ) (tasks : List DemoTask) → number + length tasks ≤ 8 → entry ≤ 0x1000 + 104 * number → entry % 4 ≡ 0
    → Follow number entry tasks → AllByRecursion IsRead tasks
are_read number entry [] few low aligned follow = tt
are_read number entry (task ∷ tasks) few low aligned follow =
    let is = follow.0 in (
      record {
        from = omega (arith, is.entry_is, is.few);
        to = omega (arith, is.entry_is, is.few);
        from_aligned = omega (arith, is.entry_is, aligned);
        to_aligned = omega (arith, is.entry_is, aligned);
        bound = omega (arith, is.bound);
      },
      are_read (number + 1) (entry + 4 * size_of task.steps) tasks (omega arith) (omega (arith, is.few)) (omega (arith, aligned)) follow.1,
    )

ranged_back : (task : DemoTask) → IsRead task
    → ranged_at (codes "bound") (loop_value task) ≡ Some (record { from = (loop_of task).from; to = (loop_of task).to; number = task.bound })
unfolding ranged_at
ranged_back task is =
    rw (
      address_back (loop_of task).from is.from,
      address_back (loop_of task).to is.to,
      eq-eqb _ _ is.from_aligned,
      eq-eqb _ _ is.to_aligned,
      le-leb 0 task.bound (omega arith),
      le-leb task.bound 1048576 is.bound,
      le-leb (loop_of task).from (loop_of task).to (omega arith),
    ) refl

loop_back : (task : DemoTask) → IsRead task → timings.loop_of (loop_value task) ≡ Ok (loop_of task)
loop_back task is = rw (ranged_back task is) refl

loops_back : (place : ℕ) (tasks : List DemoTask) → AllByRecursion IsRead tasks → each_from (λ _. timings.loop_of) place (map loop_value tasks) ≡ Ok (map loop_of tasks)
loops_back place [] each = refl
loops_back place (task ∷ tasks) each = rw (loop_back task each.0, loops_back (suc place) tasks each.1) refl

all_pass : (test : Data → Bool) → ((task : DemoTask) → test (loop_value task) ≡ true) → (tasks : List DemoTask) → list_all test (map loop_value tasks) ≡ true
all_pass test passes [] = refl
all_pass test passes (task ∷ tasks) = rw (passes task, all_pass test passes tasks) refl

-- later loops stand behind
later_spans : (at : Loop) (number entry : ℕ) (tasks : List DemoTask) → at.from < entry → Follow number entry tasks
    → list_any (same_span (loop_span at)) (map loop_span (map loop_of tasks)) ≡ false
later_spans at number entry [] behind follow = refl
later_spans at number entry (task ∷ tasks) behind follow =
    let apart : (at.from == (loop_of task).from) ≡ false = ne_eqb at.from (loop_of task).from (λ is. omega (arith, follow.0.entry_is, is)) in
    rw (apart, later_spans at (number + 1) (entry + 4 * size_of task.steps) tasks (omega arith) follow.1) refl

spans_differ : (number entry : ℕ) (tasks : List DemoTask) → Follow number entry tasks → differ same_span (map loop_span (map loop_of tasks)) ≡ true
spans_differ number entry [] follow = refl
spans_differ number entry (task ∷ tasks) follow =
    rw (
      later_spans (loop_of task) (number + 1) (entry + 4 * size_of task.steps) tasks (omega (arith, follow.0.entry_is)) follow.1,
      spans_differ (number + 1) (entry + 4 * size_of task.steps) tasks follow.1,
    ) refl

-- ---- The timing

formed : (tasks : List DemoTask) → has_form (timing_data tasks) ≡ true
unfolding timing_data
formed tasks = rw (members_of-items_of (map loop_value tasks), all_pass (is_range (codes "bound")) (λ task. refl) tasks) refl

keyed : (tasks : List DemoTask) → has_known_keys (timing_data tasks) ≡ true
unfolding timing_data has_keys_of
keyed tasks = rw (members_of-items_of (map loop_value tasks), all_pass (is_keyed (codes "bound")) (λ task. refl) tasks) refl

numbers_back : (tasks : List DemoTask) → length tasks ≤ 8 → AllByRecursion IsRead tasks → timing_of (timing_data tasks) ≡ Ok (the_timing tasks)
unfolding timing_data timing_of costs_of
numbers_back tasks few each =
    let count : length (map loop_value tasks) ≤ 256 = omega (arith, few, length-map tasks loop_value) in
    rw (members_of-items_of (map loop_value tasks), le-leb (length (map loop_value tasks)) 256 count, loops_back 0 tasks each) refl

timing_back : (tasks : List DemoTask) → AreDrawn tasks → timing_in (timing_data tasks) ≡ Ok (the_timing tasks)
timing_back tasks drawn =
    let each = are_read 0 base tasks (omega (arith, drawn.few)) (omega arith) refl drawn.follow in
    rw (formed tasks, keyed tasks, numbers_back tasks drawn.few each, spans_differ 0 base tasks drawn.follow) refl

pub read_again : (tasks : List DemoTask) (d : Data) (text : List ℕ) → AreDrawn tasks → d ≡ timing_data tasks → IsUtf8 text
    → (depth d ≤ max_depth → read text ≡ Some d) → IsGiven timing_kinds.Json timing_in (text ++ 10 ∷ []) (Ok (the_timing tasks))
read_again tasks d text drawn is utf8 reads =
    let shallow : depth d ≤ max_depth = rw is (timing_shallow tasks) in
    inl (
      d,
      (IsUtf8-append text (10 ∷ []) utf8 (IsUtf8-are_ascii (10 ∷ []) refl), read-newline text ∙ reads shallow),
      ap timing_in is ∙ timing_back tasks drawn,
    )
