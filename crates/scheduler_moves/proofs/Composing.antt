-- A composed state has the kernel and the blocks that it was composed of.
use Rattle.std.proofs.Common.{◌≡◌, ℕ, suc, ◌+◌, ◌<◌, ◌≤◌, inl, inr, Bool, true, false, List, [], ◌∷◌, ◌++◌, length, map, drop, replicate, Option, Some, None, refl, sym, ◌∙◌, ap, ap₂, arith, is_some, ◌↔◌, IsSome, option_map, option_and_then}
use Rattle.std.specs.Prelude.{slice_index_or, slice_set}
use Rattle.std.proofs.lemmas.Bool.{cases_eq}
use Rattle.std.proofs.lemmas.List.{ext_get_or, length-replicate, length-drop, length-set, get_or-drop, get_or-replicate, get_or-set_same, get_or-set_other}
use Rattle.std.proofs.lemmas.Option.{none-some, same_Some}
use Rattle.oil_model.specs.declared.system.System.{System}
use Rattle.osek_kernel.specs.declared.context.Context.TheVariants as contexts
use Rattle.osek_kernel.specs.declared.kernel.Active.{Active}
use Rattle.osek_kernel.specs.declared.kernel.Kernel.{Kernel}
use Rattle.osek_kernel.specs.Positions.{ArePositions}
use Rattle.abstract_sched.specs.declared.states.IsrAt.{IsrAt}
use Rattle.abstract_sched.specs.States.{active_of, kernel_of, block_at, isr_blocks, positions_of}
use Rattle.scheduler_moves.specs.Composed.{task_at, tasks_at, isr_at, composed}

-- ---- Tasks

-- exactly the active tasks have a block
abbrev AreTaskBlocks : List (Option Active) → List (Option ℕ) → Type 0
AreTaskBlocks tasks blocks = (t : ℕ) → t < length tasks → is_some (slice_index_or tasks t None) ≡ is_some (slice_index_or blocks t None)

active_there : (active : Option Active) (block : Option ℕ) → is_some active ≡ is_some block → active_of (task_at active block) ≡ active
active_there (Some active) (Some block) same = refl
active_there (Some active) None same = absurd cc
active_there None (Some block) same = absurd cc
active_there None None same = refl

block_there : (active : Option Active) (block : Option ℕ) → is_some active ≡ is_some block → block_at (task_at active block) ≡ block
block_there (Some active) (Some block) same = refl
block_there (Some active) None same = absurd cc
block_there None (Some block) same = absurd cc
block_there None None same = refl

tasks_active : (tasks : List (Option Active)) (blocks : List (Option ℕ)) → length tasks ≤ length blocks → AreTaskBlocks tasks blocks
    → map active_of (tasks_at tasks blocks) ≡ tasks
tasks_active [] blocks fit are = refl
tasks_active (active ∷ tasks) [] fit are = absurd (omega arith)
tasks_active (active ∷ tasks) (block ∷ blocks) fit are =
    ap₂ (λ first others. first ∷ others) (active_there active block (are 0 (omega arith)))
    (tasks_active tasks blocks (omega arith) (λ t within. are (suc t) (omega arith)))

-- the blocks of tasks, and the others behind them
tasks_blocks : (tasks : List (Option Active)) (blocks : List (Option ℕ)) → length tasks ≤ length blocks → AreTaskBlocks tasks blocks
    → map block_at (tasks_at tasks blocks) ++ drop (length tasks) blocks ≡ blocks
tasks_blocks [] blocks fit are = refl
tasks_blocks (active ∷ tasks) [] fit are = absurd (omega arith)
tasks_blocks (active ∷ tasks) (block ∷ blocks) fit are =
    ap₂ (λ first others. first ∷ others) (block_there active block (are 0 (omega arith)))
    (tasks_blocks tasks blocks (omega arith) (λ t within. are (suc t) (omega arith)))

-- ---- ISRs

-- exactly the active ISR has a block, behind so many tasks
record AreIsrBlocks (tasks isrs : ℕ) (isr : Option ℕ) (blocks : List (Option ℕ)) : Type 0 where
  count : length blocks ≡ tasks + isrs
  active : (i : ℕ) → i < isrs → IsSome (slice_index_or blocks (tasks + i) None) ↔ (isr ≡ Some i)

-- no ISR of so many has a block
abbrev nowhere : ℕ → List (Option ℕ)
nowhere isrs = replicate isrs None

none_there : (block : Option ℕ) → (IsSome block → ⊥) → None ≡ block
none_there None lacks = refl
none_there (Some block) lacks = absurd (lacks refl)

-- where another ISR is active or none, there is no block
empty_there : (tasks isrs : ℕ) (isr : Option ℕ) (blocks : List (Option ℕ)) → AreIsrBlocks tasks isrs isr blocks
    → (i : ℕ) → i < isrs → (isr ≡ Some i → ⊥) → slice_index_or (nowhere isrs) i None ≡ slice_index_or (drop tasks blocks) i None
empty_there tasks isrs isr blocks are i within other =
    get_or-replicate isrs i None None within
    ∙ (none_there (slice_index_or blocks (tasks + i) None) (λ some. other ((are.active i within).0 some)) ∙ sym (get_or-drop tasks blocks i None))

as_many : (tasks isrs : ℕ) (isr : Option ℕ) (blocks : List (Option ℕ)) → AreIsrBlocks tasks isrs isr blocks
    → length (nowhere isrs) ≡ length (drop tasks blocks)
as_many tasks isrs isr blocks are =
    let count = are.count in
    let rest : length (drop tasks blocks) ≡ isrs = length-drop tasks blocks ∙ omega arith in
    length-replicate isrs None ∙ sym rest

isr_placed : (tasks isrs i block : ℕ) (blocks : List (Option ℕ)) → i < isrs → AreIsrBlocks tasks isrs (Some i) blocks
    → slice_index_or blocks (tasks + i) None ≡ Some block → slice_set (nowhere isrs) i (Some block) ≡ drop tasks blocks
isr_placed tasks isrs i block blocks within are here =
    ext_get_or None (slice_set (nowhere isrs) i (Some block)) (drop tasks blocks)
    (length-set (nowhere isrs) i (Some block) ∙ as_many tasks isrs (Some i) blocks are) there
  where
    there : (j : ℕ) → j < length (slice_set (nowhere isrs) i (Some block))
        → slice_index_or (slice_set (nowhere isrs) i (Some block)) j None ≡ slice_index_or (drop tasks blocks) j None
    there j inside =
        let lengths : length (slice_set (nowhere isrs) i (Some block)) ≡ isrs = length-set (nowhere isrs) i (Some block) ∙ length-replicate isrs None in
        elim (cases_eq j i) [
          | inl same ↦
              ap (λ n. slice_index_or (slice_set (nowhere isrs) i (Some block)) n None) same
              ∙ (get_or-set_same (nowhere isrs) i (Some block) None (let n : length (nowhere isrs) ≡ isrs = length-replicate isrs None in omega arith)
              ∙ (sym here ∙ (ap (λ n. slice_index_or blocks (tasks + n) None) (sym same) ∙ sym (get_or-drop tasks blocks j None))))
          | inr other ↦
              get_or-set_other (nowhere isrs) i j (Some block) None other
              ∙ empty_there tasks isrs (Some i) blocks are j (omega arith) (λ e. other (sym (same_Some i j e)))
        ]

no_isr : (tasks isrs : ℕ) (blocks : List (Option ℕ)) → AreIsrBlocks tasks isrs None blocks → nowhere isrs ≡ drop tasks blocks
no_isr tasks isrs blocks are =
    ext_get_or None (nowhere isrs) (drop tasks blocks) (as_many tasks isrs None blocks are)
    (λ i inside. empty_there tasks isrs None blocks are i (shorter i inside) (λ e. none-some i e))
  where
    shorter : (i : ℕ) → i < length (nowhere isrs) → i < isrs
    shorter i inside = let n : length (nowhere isrs) ≡ isrs = length-replicate isrs None in omega arith

-- the active ISR and its block
abbrev isr_among : ℕ → Option ℕ → List (Option ℕ) → Option IsrAt
isr_among tasks isr blocks = option_and_then (λ i. isr_at i (slice_index_or blocks (tasks + i) None)) isr

some_block : (block : Option ℕ) → IsSome block → (b : ℕ) × (block ≡ Some b)
some_block (Some b) some = (b, refl)
some_block None some = absurd cc

isrs_active : (tasks isrs : ℕ) (isr : Option ℕ) (blocks : List (Option ℕ)) → ((i : ℕ) → isr ≡ Some i → i < isrs) → AreIsrBlocks tasks isrs isr blocks
    → option_map (λ at. at.isr) (isr_among tasks isr blocks) ≡ isr
isrs_active tasks isrs None blocks exist are = refl
isrs_active tasks isrs (Some i) blocks exist are =
    let here = some_block (slice_index_or blocks (tasks + i) None) ((are.active i (exist i refl)).1 refl) in
    ap (λ block. option_map (λ at. at.isr) (isr_at i block)) here.1

isrs_blocks : (tasks isrs : ℕ) (isr : Option ℕ) (blocks : List (Option ℕ)) → ((i : ℕ) → isr ≡ Some i → i < isrs) → AreIsrBlocks tasks isrs isr blocks
    → isr_blocks isrs (isr_among tasks isr blocks) ≡ drop tasks blocks
isrs_blocks tasks isrs None blocks exist are = no_isr tasks isrs blocks are
isrs_blocks tasks isrs (Some i) blocks exist are =
    let here = some_block (slice_index_or blocks (tasks + i) None) ((are.active i (exist i refl)).1 refl) in
    ap (λ block. isr_blocks isrs (isr_at i block)) here.1 ∙ isr_placed tasks isrs i here.0 blocks (exist i refl) are here.1

-- ---- Both

-- what is composed: a kernel of the system, and blocks of its active contexts
pub record CanCompose (system : System) (kernel : Kernel) (blocks : List (Option ℕ)) : Type 0 where
  pub positions : ArePositions system kernel blocks
  pub tasks : length kernel.tasks ≡ length system.tasks
  pub isr : (i : ℕ) → kernel.isr ≡ Some i → i < length system.isrs

same_tests : (a b : Bool) → ((a ≡ true) ↔ (b ≡ true)) → b ≡ a
same_tests true true both = refl
same_tests true false both = both.0 refl
same_tests false true both = sym (both.1 refl)
same_tests false false both = refl

task_blocks : (system : System) (kernel : Kernel) (blocks : List (Option ℕ)) → CanCompose system kernel blocks → AreTaskBlocks kernel.tasks blocks
task_blocks system kernel blocks can t within =
    let inside : t < length system.tasks = (let same = can.tasks in omega arith) in
    same_tests (is_some (slice_index_or blocks t None)) (is_some (slice_index_or kernel.tasks t None)) (can.positions.active (contexts.Task t) inside)

isr_blocks_are : (system : System) (kernel : Kernel) (blocks : List (Option ℕ)) → CanCompose system kernel blocks
    → AreIsrBlocks (length system.tasks) (length system.isrs) kernel.isr blocks
isr_blocks_are system kernel blocks can = record { count = can.positions.count; active = λ i within. can.positions.active (contexts.Isr i) within }

fits : (system : System) (kernel : Kernel) (blocks : List (Option ℕ)) → CanCompose system kernel blocks → length kernel.tasks ≤ length blocks
fits system kernel blocks can = let same = can.tasks in let count = can.positions.count in omega arith

-- the kernel of these tasks and this ISR
abbrev kernel_with : Kernel → List (Option Active) → Option ℕ → Kernel
kernel_with kernel tasks isr = record { mode = kernel.mode; tasks = tasks; isr = isr; disabled = kernel.disabled; suspended = kernel.suspended }

pub composed_kernel : (system : System) (kernel : Kernel) (blocks : List (Option ℕ)) → CanCompose system kernel blocks
    → kernel_of (composed system kernel blocks) ≡ kernel
composed_kernel system kernel blocks can =
    ap₂ (kernel_with kernel) (tasks_active kernel.tasks blocks (fits system kernel blocks can) (task_blocks system kernel blocks can))
    (isrs_active (length system.tasks) (length system.isrs) kernel.isr blocks can.isr (isr_blocks_are system kernel blocks can))

pub composed_positions : (system : System) (kernel : Kernel) (blocks : List (Option ℕ)) → CanCompose system kernel blocks
    → positions_of (length system.isrs) (composed system kernel blocks) ≡ blocks
composed_positions system kernel blocks can =
    ap (λ isrs. map block_at (tasks_at kernel.tasks blocks) ++ isrs)
    (isrs_blocks (length system.tasks) (length system.isrs) kernel.isr blocks can.isr (isr_blocks_are system kernel blocks can)
    ∙ ap (λ n. drop n blocks) (sym can.tasks))
    ∙ tasks_blocks kernel.tasks blocks (fits system kernel blocks can) (task_blocks system kernel blocks can)
