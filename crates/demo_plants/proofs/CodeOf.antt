-- The instructions that stand at the addresses of a generated system.
use Rattle.std.proofs.Common.{◌≡◌, ℕ, zero, suc, ◌+◌, ◌-◌, ◌*◌, ◌/◌, ◌%◌, ◌^◌, ◌<◌, ◌≤◌, Bool, ℤ, pos, negsuc, true, List, [], ◌∷◌, ◌++◌, length, map, replicate, Option, Some, None, refl, sym, ap, ◌∙◌, subst, arith, inl, inr}
use Rattle.std.specs.Prelude.{slice_get, flat_map, ◌≤ℤ◌, ◌<ℤ◌}
use Rattle.std.specs.List.{AllByRecursion}
use Rattle.std.proofs.lemmas.Int.{ints}
use Rattle.std.proofs.lemmas.List.{length-map, length-append, length-replicate, append_assoc}
use Rattle.std.proofs.lemmas.Option.{slice_get_within}
use Rattle.elf_image.specs.Image.{has_word, word_at}
use Rattle.rv32_decode.specs.declared.instruction.Insn.{Insn}
use Rattle.rv32_decode.specs.Instructions.{Fits, IsWordOf, word_of_insn, insn_of_word}
use Rattle.rv32_decode.proofs.TableLaws.{insn_only}
use Rattle.rv32_machine.specs.Code.{insn_at}
use Rattle.demo_gen.specs.declared.task.DemoTask.{DemoTask}
use Rattle.demo_gen.specs.Draws.{base, size_of}
use Rattle.demo_gen.specs.Demo.{add, back, tail_of, code_of, words_of, symbol_of, the_image}
use Rattle.demo_gen.specs.Working.Drawn.{IsTask, Follow, AreDrawn}
use Rattle.demo_gen.proofs.Ranges.{code_size, code_few}
use Rattle.demo_gen.proofs.Sets.{each_append}
use Rattle.demo_plants.proofs.Words.{has_word_here, word_here}

-- ---- The words

-- a word of 32 bits for an instruction in its ranges
pub record IsCoded (insn : Insn) : Type 0 where
  fits : Fits insn
  word : word_of_insn insn < 2 ^ 32

add_coded : (rd rs1 imm : ℕ) → rd < 32 → rs1 < 32 → imm < 2048 → IsCoded (add rd rs1 (pos imm))
add_coded rd rs1 imm low low' small = record {
  fits = record { registers = (low, low'); immediate = (omega (arith, ints), omega (arith, ints)) };
  word = omega (arith, ints);
}

less_coded : (rd rs1 : ℕ) → rd < 32 → rs1 < 32 → IsCoded (add rd rs1 (negsuc 0))
less_coded rd rs1 low low' = record {
  fits = record { registers = (low, low'); immediate = (omega (arith, ints), omega (arith, ints)) };
  word = omega (arith, ints);
}

pub back_coded : IsCoded (back 6)
back_coded = record {
  fits = record { registers = (omega arith, omega arith); immediate = ((omega (arith, ints), omega (arith, ints)), refl) };
  word = omega (arith, ints);
}

steps_coded : (steps : ℕ) → AllByRecursion IsCoded (replicate steps (add 5 5 (pos 1)))
steps_coded zero = tt
steps_coded (suc steps) = (add_coded 5 5 1 (omega arith) (omega arith) (omega arith), steps_coded steps)

tail_coded : (bound : ℕ) → bound < 8 → AllByRecursion IsCoded (tail_of bound)
tail_coded bound small = (
  add_coded 6 0 (bound + 1) (omega arith) (omega arith) (omega arith),
  (
    less_coded 6 6 (omega arith) (omega arith),
    (
      back_coded,
      (
        add_coded 10 0 0 (omega arith) (omega arith) (omega arith),
        (
          add_coded 17 0 2 (omega arith) (omega arith) (omega arith),
          (record { fits = record { registers = tt; immediate = tt }; word = omega arith }, tt),
        ),
      ),
    ),
  ),
)

all_coded : (number entry : ℕ) (tasks : List DemoTask) → Follow number entry tasks → AllByRecursion IsCoded (flat_map code_of tasks)
all_coded number entry [] follow = tt
all_coded number entry (task ∷ tasks) follow =
    each_append IsCoded (code_of task) (flat_map code_of tasks)
    (each_append IsCoded (replicate task.steps (add 5 5 (pos 1))) (tail_of task.bound) (steps_coded task.steps) (tail_coded task.bound follow.0.bound))
    (all_coded (number + 1) (entry + 4 * size_of task.steps) tasks follow.1)

-- ---- Members of lists

pub each_at : {A : Type 0} (P : A → Type 0) (xs : List A) (k : ℕ) (x : A) → AllByRecursion P xs → slice_get xs k ≡ Some x → P x
each_at P [] k x each at = absurd cc
each_at P (y ∷ xs) zero x each at = let is : y ≡ x = cc in subst P is each.0
each_at P (y ∷ xs) (suc k) x each at = each_at P xs k x each.1 at

pub mapped_at : {A B : Type 0} (f : A → B) (xs : List A) (k : ℕ) (x : A) → slice_get xs k ≡ Some x → slice_get (map f xs) k ≡ Some (f x)
mapped_at f [] k x at = absurd cc
mapped_at f (y ∷ xs) zero x at = let is : y ≡ x = cc in ap (λ z. Some (f z)) is
mapped_at f (y ∷ xs) (suc k) x at = mapped_at f xs k x at

pub front_at : {A : Type 0} (xs ys : List A) (k : ℕ) (x : A) → slice_get xs k ≡ Some x → slice_get (xs ++ ys) k ≡ Some x
front_at [] ys k x at = absurd cc
front_at (y ∷ xs) ys zero x at = at
front_at (y ∷ xs) ys (suc k) x at = front_at xs ys k x at

pub behind_at : {A : Type 0} (xs ys : List A) (k : ℕ) → slice_get (xs ++ ys) (length xs + k) ≡ slice_get ys k
behind_at [] ys k = let same : 0 + k ≡ k = omega arith in rw same refl
behind_at (y ∷ xs) ys k = let same : suc (length xs) + k ≡ suc (length xs + k) = omega arith in rw same (behind_at xs ys k)

pub repeated_at : {A : Type 0} (count k : ℕ) (x : A) → k < count → slice_get (replicate count x) k ≡ Some x
repeated_at zero k x below = absurd (omega arith)
repeated_at (suc count) zero x below = refl
repeated_at (suc count) (suc k) x below = repeated_at count k x (omega arith)

-- ---- The instructions of the image

coded_here : (whole : List DemoTask) (k : ℕ) (insn : Insn) → AllByRecursion IsCoded (flat_map code_of whole) → slice_get (flat_map code_of whole) k ≡ Some insn
    → insn_at (the_image whole) (base + 4 * k) ≡ Some insn
unfolding insn_at
coded_here whole k insn coded at =
    let is = each_at IsCoded (flat_map code_of whole) k insn coded at in
    rw (word_here base (words_of whole) (map symbol_of whole) k (word_of_insn insn) refl (mapped_at word_of_insn (flat_map code_of whole) k insn at) is.word)
    (insn_only (word_of_insn insn) insn (record { fits = is.fits; spelled = refl }))

-- ---- The code of one task

-- the address of a task's word
abbrev pub at : DemoTask → ℕ → ℕ
at task place = task.entry + 4 * place

-- the task's code stands in memory
pub record IsPlaced (code : ℕ → Option Insn) (has : ℕ → Bool) (task : DemoTask) : Type 0 where
  pub some : 1 ≤ task.steps
  pub high : task.entry + 4 * (task.steps + 6) ≤ 0x1340
  pub low : 0x1000 ≤ task.entry
  pub word : (place : ℕ) → place < task.steps + 6 → has (at task place) ≡ true
  pub insn : (place : ℕ) (insn : Insn) → slice_get (code_of task) place ≡ Some insn → code (at task place) ≡ Some insn

placed_from : (whole : List DemoTask) (front : List Insn) (number entry : ℕ) (tasks : List DemoTask)
    → AllByRecursion IsCoded (flat_map code_of whole) → length (flat_map code_of whole) ≤ 208
    → flat_map code_of whole ≡ front ++ flat_map code_of tasks → entry ≡ base + 4 * length front → Follow number entry tasks
    → AllByRecursion (IsPlaced (insn_at (the_image whole)) (has_word (the_image whole).code)) tasks
placed_from whole front number entry [] coded few is start follow = tt
placed_from whole front number entry (task ∷ tasks) coded few is start follow =
    let rest = flat_map code_of tasks in
    let here = follow.0.entry_is in
    let size = code_size task in
    let total : length (flat_map code_of whole) ≡ length front + (length (code_of task) + length rest) =
    ap length is ∙ (length-append front (code_of task ++ rest) ∙ ap (λ n. length front + n) (length-append (code_of task) rest)) in
    let count : length (words_of whole) ≡ length (flat_map code_of whole) = length-map (flat_map code_of whole) word_of_insn in
    let place_is : (place : ℕ) → at task place ≡ base + 4 * (length front + place) = λ place. omega (arith, here, start) in (
      record {
        some = follow.0.some;
        high = omega (arith, here, start, total, size, few);
        low = omega (arith, here, start);
        word = λ place below. rw (place_is place)
            (has_word_here base (words_of whole) (map symbol_of whole) (length front + place) refl (omega (arith, count, total, size, below)));
        insn = λ place insn stands. rw (place_is place)
            (coded_here whole (length front + place) insn coded
            (ap (λ xs. slice_get xs (length front + place)) is ∙ (behind_at front (code_of task ++ rest) place ∙ front_at (code_of task) rest place insn stands)));
      },
      placed_from whole (front ++ code_of task) (number + 1) (entry + 4 * size_of task.steps) tasks coded few
          (is ∙ sym (append_assoc front (code_of task) rest)) (omega (arith, start, length-append front (code_of task), size)) follow.1,
    )

pub all_placed : (tasks : List DemoTask) → AreDrawn tasks → AllByRecursion (IsPlaced (insn_at (the_image tasks)) (has_word (the_image tasks).code)) tasks
all_placed tasks drawn =
    placed_from tasks [] 0 base tasks (all_coded 0 base tasks drawn.follow) (omega (arith, code_few 0 base tasks drawn.follow, drawn.few)) refl refl drawn.follow

-- ---- The words of a task

pub step_at : (task : DemoTask) (place : ℕ) → place < task.steps → slice_get (code_of task) place ≡ Some (add 5 5 (pos 1))
step_at task place below = front_at (replicate task.steps (add 5 5 (pos 1))) (tail_of task.bound) place (add 5 5 (pos 1)) (repeated_at task.steps place (add 5 5 (pos 1)) below)

pub tail_at : (task : DemoTask) (place : ℕ) → slice_get (code_of task) (task.steps + place) ≡ slice_get (tail_of task.bound) place
tail_at task place =
    ap (λ n. slice_get (code_of task) (n + place)) (sym (length-replicate task.steps (add 5 5 (pos 1))))
    ∙ behind_at (replicate task.steps (add 5 5 (pos 1))) (tail_of task.bound) place
