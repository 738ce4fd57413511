-- The program of a generated system: where its contexts begin.
use Rattle.std.proofs.Common.{◌≡◌, ℕ, zero, suc, ◌+◌, ◌-◌, ◌*◌, ◌<◌, ◌≤◌, Bool, true, false, List, [], ◌∷◌, ◌++◌, drop, length, map, Option, Some, None, refl, sym, ap, ◌∙◌, subst, arith, decimal}
use Rattle.std.specs.Prelude.{codes, slice_get, bytes_eq, option_map}
use Rattle.std.proofs.lemmas.Bool.{lt-ltb}
use Rattle.std.proofs.lemmas.List.{length-map}
use Rattle.std.proofs.lemmas.Option.{same_Some, slice_get_within}
use Rattle.elf_image.specs.Image.{ImageData, value_of}
use Rattle.oil_model.specs.declared.system.System.{System}
use Rattle.osek_kernel.specs.Contexts.{context_at, entry_of}
use Rattle.flow_graph.specs.Faults.{entry_in}
use Rattle.flow_graph.specs.Graph.{Program, program_of, entries_from, entries_of}
use Rattle.demo_gen.specs.declared.task.DemoTask.{DemoTask}
use Rattle.demo_gen.specs.Draws.{base, size_of}
use Rattle.demo_gen.specs.Demo.{task_name, symbol_of, the_image, system_task, the_system, the_timing}
use Rattle.demo_gen.specs.Working.Drawn.{IsTask, Follow, AreDrawn}
use Rattle.demo_gen.proofs.ObjectNames.{same_number}
use Rattle.demo_gen.proofs.SystemNames.{other_name, same_name}
use Rattle.demo_plants.proofs.CodeOf.{each_at, mapped_at, all_placed}
use Rattle.demo_plants.proofs.NodesOf.{IsDemo}

-- ---- Tasks by their numbers

pub number_at : (from entry : ℕ) (tasks : List DemoTask) (k : ℕ) (task : DemoTask) → Follow from entry tasks → slice_get tasks k ≡ Some task → task.number ≡ from + k
number_at from entry [] k task follow there = absurd cc
number_at from entry (first ∷ tasks) zero task follow there = let is : first ≡ task = same_Some first task there in subst (λ (t : DemoTask). t.number ≡ from + 0) is (omega (arith, follow.0.number_is))
number_at from entry (first ∷ tasks) (suc k) task follow there = omega (arith, number_at (from + 1) (entry + 4 * size_of first.steps) tasks k task follow.1 there)

-- ---- Symbols

other_symbol : (a b : ℕ) → a < 8 → b < 8 → (a ≡ b → ⊥) → bytes_eq (codes "Task_" ++ task_name a) (codes "Task_" ++ task_name b) ≡ false
other_symbol a b early early' differ =
    other_name (codes "Task_" ++ task_name a) (codes "Task_" ++ task_name b) (λ is. differ (same_number a b early early' (ap (drop 6) is)))

value_found : (from entry : ℕ) (tasks : List DemoTask) (k : ℕ) (task : DemoTask) → Follow from entry tasks → from + length tasks ≤ 8 → slice_get tasks k ≡ Some task
    → value_of (map symbol_of tasks) (codes "Task_" ++ task_name task.number) ≡ Some task.entry
value_found from entry [] k task follow few there = absurd cc
value_found from entry (first ∷ tasks) zero task follow few there =
    let is : first ≡ task = same_Some first task there in
    subst (λ (t : DemoTask). value_of (map symbol_of (first ∷ tasks)) (codes "Task_" ++ task_name t.number) ≡ Some t.entry) is
    (rw (same_name (codes "Task_" ++ task_name first.number)) refl)
value_found from entry (first ∷ tasks) (suc k) task follow few there =
    let number = number_at (from + 1) (entry + 4 * size_of first.steps) tasks k task follow.1 there in
    let below = slice_get_within tasks k task there in
    rw (other_symbol first.number task.number (omega (arith, follow.0.number_is)) (omega (arith, number, below)) (λ is. omega (arith, is, follow.0.number_is, number)))
    (value_found (from + 1) (entry + 4 * size_of first.steps) tasks k task follow.1 (omega arith) there)

entry_here : (tasks : List DemoTask) (k : ℕ) (task : DemoTask) → AreDrawn tasks → slice_get tasks k ≡ Some task
    → entry_of (the_image tasks) (the_system tasks) (context_at (the_system tasks) k) ≡ Some task.entry
entry_here tasks k task drawn there =
    let below = slice_get_within tasks k task there in
    let is_task = lt-ltb k (length (map system_task tasks)) (omega (arith, below, length-map tasks system_task)) in
    rw (is_task, mapped_at system_task tasks k task there) (value_found 0 base tasks k task drawn.follow (omega (arith, drawn.few)) there)

-- ---- Entries

abbrev pub begins : DemoTask → Option ℕ
begins task = Some task.entry

entries_are_from : (image : ImageData) (system : System) (place : ℕ) (tasks : List DemoTask)
    → ((k : ℕ) (task : DemoTask) → slice_get tasks k ≡ Some task → entry_of image system (context_at system (place + k)) ≡ Some task.entry)
    → entries_from image system place (length tasks) ≡ map begins tasks
entries_are_from image system place [] here = refl
entries_are_from image system place (task ∷ tasks) here =
    let first : entry_of image system (context_at system place) ≡ Some task.entry =
    subst (λ n. entry_of image system (context_at system n) ≡ Some task.entry) (omega arith) (here 0 task refl) in
    let others = entries_are_from image system (suc place) tasks
    (λ k other there. subst (λ n. entry_of image system (context_at system n) ≡ Some other.entry) (omega arith) (here (suc k) other there)) in
    rw (first, others) refl

pub entries_are : (tasks : List DemoTask) → AreDrawn tasks → entries_of (the_image tasks) (the_system tasks) ≡ map begins tasks
entries_are tasks drawn =
    let count : length (map system_task tasks) + 0 ≡ length tasks = omega (arith, length-map tasks system_task) in
    ap (entries_from (the_image tasks) (the_system tasks) 0) count
    ∙ entries_are_from (the_image tasks) (the_system tasks) 0 tasks
    (λ k task there. subst (λ n. entry_of (the_image tasks) (the_system tasks) (context_at (the_system tasks) n) ≡ Some task.entry) (omega arith) (entry_here tasks k task drawn there))

entry_in_all : (tasks : List DemoTask) (context : ℕ) → entry_in (map begins tasks) context ≡ option_map (λ (task : DemoTask). task.entry) (slice_get tasks context)
entry_in_all [] context = refl
entry_in_all (task ∷ tasks) zero = refl
entry_in_all (task ∷ tasks) (suc context) = entry_in_all tasks context

abbrev pub the_program : List DemoTask → Program
the_program tasks = program_of (the_image tasks) (the_system tasks) (the_timing tasks)

pub is_demo : (tasks : List DemoTask) → AreDrawn tasks → IsDemo (the_program tasks) tasks
is_demo tasks drawn = record {
  placed = λ number task there. each_at _ tasks number task (all_placed tasks drawn) there;
  entries = λ context. ap (λ entries. entry_in entries context) (entries_are tasks drawn) ∙ entry_in_all tasks context;
  loops = refl;
}
