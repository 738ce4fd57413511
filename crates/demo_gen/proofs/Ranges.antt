-- What is drawn is in its ranges.
use Rattle.std.proofs.Common.{◌≡◌, ◌≢◌, ℕ, zero, suc, ◌+◌, ◌*◌, ◌%◌, ◌<◌, ◌≤◌, List, [], ◌∷◌, ◌++◌, length, map, replicate, All, refl, sym, ap, ◌∙◌, subst, arith}
use Rattle.std.specs.Prelude.{flat_map, codes, decimal}
use Rattle.std.specs.List.{range_with_len, AllByRecursion}
use Rattle.std.proofs.lemmas.Fmt.{decimal_digit}
use Rattle.std.proofs.lemmas.Nat.{mul-le}
use Rattle.std.proofs.lemmas.List.{length-append, length-map, length-replicate}
use Rattle.std.proofs.lemmas.List.Elements.{All-from_recursion}
use Rattle.std.proofs.lemmas.List.FromFn.{length-map-range_with_len}
use Rattle.elf_image.specs.declared.symbol.Symbol.{Symbol}
use Rattle.elf_image.specs.Plain.{IsPlain, IsPlainName}
use Rattle.rv32_decode.specs.Instructions.{word_of_insn}
use Rattle.demo_gen.specs.declared.task.DemoTask.{DemoTask}
use Rattle.demo_gen.specs.Draws.{base, draw, size_of, entry_of, task_at, tasks_of}
use Rattle.demo_gen.specs.Demo.{code_of, words_of, symbol_of, tail_of}
use Rattle.demo_gen.proofs.TreeText.{IsWritten}
use Rattle.demo_gen.specs.Working.Drawn.{IsTask, Follow, AreDrawn, IsEarly, IsSmall, HasRoom}

-- ---- The tasks of a seed

is_task : (seed count number : ℕ) → 1 ≤ count → count ≤ 8 → IsTask number (entry_of seed number) (task_at seed count number)
is_task seed count number some few =
    let ticks = 2000 + 1000 * (draw seed (3 * number + 2) % 8) in
    let most : ticks ≤ 9000 = omega arith in
    let least : 1 * 2000 ≤ count * ticks = mul-le 1 2000 count ticks some (omega arith) in
    record {
      number_is = refl;
      entry_is = refl;
      some = omega arith;
      few = omega arith;
      bound = omega arith;
      repeats = omega (arith, least);
      cycle = mul-le count ticks 8 9000 few most;
    }

follow_from : (seed count number more : ℕ) → 1 ≤ count → count ≤ 8 → Follow number (entry_of seed number) (map (task_at seed count) (range_with_len number more))
unfolding entry_of
follow_from seed count number zero some few = tt
follow_from seed count number (suc more) some few =
    let next : suc number ≡ number + 1 = omega arith in (
      is_task seed count number some few,
      subst (λ after. Follow (number + 1) after (map (task_at seed count) (range_with_len (number + 1) more)))
          (ap (entry_of seed) (sym next)) (follow_from seed count (number + 1) more some few),
    )

pub are_drawn : (seed count : ℕ) → 1 ≤ count → count ≤ 8 → AreDrawn (tasks_of seed count)
unfolding entry_of
are_drawn seed count some few =
    let many = length-map-range_with_len (task_at seed count) 0 count in
    record { some = omega (arith, many); few = omega (arith, many); follow = follow_from seed count 0 count some few }

-- ---- A fact of each task

-- what holds of each task that may stand there
pub each_task : (P : DemoTask → Type 0) → ((number entry : ℕ) (task : DemoTask) → number < 8 → entry ≤ 0x1000 + 104 * 8 → IsTask number entry task → P task)
    → (number entry : ℕ) (tasks : List DemoTask) → number + length tasks ≤ 8 → entry ≤ 0x1000 + 104 * number → Follow number entry tasks → AllByRecursion P tasks
each_task P holds number entry [] few low follow = tt
each_task P holds number entry (task ∷ tasks) few low follow = (
  holds number entry task (omega arith) (omega arith) follow.0,
  each_task P holds (number + 1) (entry + 4 * size_of task.steps) tasks (omega arith) (omega (arith, follow.0.few)) follow.1,
)

all_tasks : (P : DemoTask → Type 0) → ((number entry : ℕ) (task : DemoTask) → number < 8 → entry ≤ 0x1000 + 104 * 8 → IsTask number entry task → P task)
    → (tasks : List DemoTask) → AreDrawn tasks → All P tasks
all_tasks P holds tasks drawn = All-from_recursion P tasks (each_task P holds 0 base tasks (omega (arith, drawn.few)) (omega arith) drawn.follow)

pub all_early : (tasks : List DemoTask) → AreDrawn tasks → All IsEarly tasks
all_early = all_tasks IsEarly (λ number entry task early low is. omega (arith, is.number_is))

pub all_small : (tasks : List DemoTask) → AreDrawn tasks → All IsSmall tasks
all_small = all_tasks IsSmall (λ number entry task early low is. is.bound)

pub all_have_room : (tasks : List DemoTask) → AreDrawn tasks → All HasRoom tasks
all_have_room = all_tasks HasRoom (λ number entry task early low is. omega (arith, is.entry_is, is.few))

-- ---- The code

pub code_size : (task : DemoTask) → length (code_of task) ≡ task.steps + 6
code_size task = length-append (replicate task.steps _) (tail_of task.bound) ∙ ap (λ n. n + 6) (length-replicate task.steps _)

pub code_few : (number entry : ℕ) (tasks : List DemoTask) → Follow number entry tasks → length (flat_map code_of tasks) ≤ 26 * length tasks
code_few number entry [] follow = omega arith
code_few number entry (task ∷ tasks) follow =
    let both = length-append (code_of task) (flat_map code_of tasks) in
    omega (arith, both, code_size task, follow.0.few, code_few (number + 1) (entry + 4 * size_of task.steps) tasks follow.1)

code_some : (tasks : List DemoTask) → 1 ≤ length tasks → 0 < length (flat_map code_of tasks)
code_some [] some = absurd (omega arith)
code_some (task ∷ tasks) some = omega (arith, length-append (code_of task) (flat_map code_of tasks), code_size task)

name_fits : (task : DemoTask) → IsEarly task → IsPlainName (codes "Task_" ++ codes "P" ++ decimal task.number)
name_fits task early =
    rw (decimal_digit task.number (omega arith))
    (record {
      some = omega arith;
      short = omega arith;
      whole = All-from_recursion (λ byte. byte ≢ 0) (84 ∷ 97 ∷ 115 ∷ 107 ∷ 95 ∷ 80 ∷ (48 + task.number) ∷ [])
          ((λ is. omega arith), ((λ is. omega arith), ((λ is. omega arith), ((λ is. omega arith), ((λ is. omega arith), ((λ is. omega arith), ((λ is. omega arith), tt)))))));
    })

names_fit : (tasks : List DemoTask) → AllByRecursion IsEarly tasks → AllByRecursion (λ (symbol : Symbol). IsPlainName symbol.name) (map symbol_of tasks)
names_fit [] early = tt
names_fit (task ∷ tasks) early = (name_fits task early.0, names_fit tasks early.1)

pub is_plain : (tasks : List DemoTask) → AreDrawn tasks → IsPlain base (words_of tasks) (map symbol_of tasks)
is_plain tasks drawn =
    let count : length (words_of tasks) ≡ length (flat_map code_of tasks) = length-map (flat_map code_of tasks) word_of_insn in
    let few = code_few 0 base tasks drawn.follow in
    let early = each_task IsEarly (λ number entry task early low is. omega (arith, is.number_is)) 0 base tasks (omega (arith, drawn.few)) (omega arith) drawn.follow in
    record {
      aligned = refl;
      some = omega (arith, count, code_some tasks drawn.some);
      few = omega (arith, count, few, drawn.few);
      end = omega (arith, count, few, drawn.few);
      few_symbols = let symbols : length (map symbol_of tasks) ≡ length tasks = length-map tasks symbol_of in omega (arith, symbols, drawn.few);
      names = All-from_recursion (λ (symbol : Symbol). IsPlainName symbol.name) (map symbol_of tasks) (names_fit tasks early);
    }

pub all_written : (tasks : List DemoTask) → AreDrawn tasks → AllByRecursion IsWritten tasks
all_written tasks drawn =
    each_task IsWritten (λ number entry task early low is. (omega (arith, is.number_is), omega (arith, is.cycle))) 0 base tasks
    (omega (arith, drawn.few)) (omega arith) drawn.follow
