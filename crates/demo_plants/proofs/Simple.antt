-- What the plant of a generated system tells of its contexts and services.
use Rattle.std.proofs.Common.{◌≡◌, ℕ, zero, suc, ◌+◌, ◌<◌, ◌≤◌, Bool, true, false, List, [], ◌∷◌, length, map, replicate, Option, Some, None, refl, sym, ap, ◌∙◌, subst, arith}
use Rattle.std.specs.Prelude.{slice_get, is_some, IsSomeAnd}
use Rattle.std.specs.List.{range_with_len}
use Rattle.std.proofs.lemmas.Bool.{lt-ltb}
use Rattle.std.proofs.lemmas.List.{length-map}
use Rattle.std.proofs.lemmas.Option.{same_Some, slice_get_within}
use Rattle.oil_model.specs.declared.system.Task.{Task}
use Rattle.oil_model.specs.declared.system.System.{System}
use Rattle.osek_kernel.specs.declared.context.Context.{Context}
use Rattle.osek_kernel.specs.declared.context.Context.TheVariants as contexts
use Rattle.osek_kernel.specs.Contexts.{context_at}
use Rattle.rv32_machine.specs.declared.turns.ServiceAt.{ServiceAt}
use Rattle.flow_graph.specs.declared.flow.Flow.{Flow}
use Rattle.flow_graph.specs.declared.flow.Leaving.{Leaving}
use Rattle.flow_graph.specs.Judging.{IsGraph}
use Rattle.wcet_atomic_blocks.specs.declared.block.Beginning.{Beginning}
use Rattle.wcet_atomic_blocks.specs.declared.block.Block.{Block}
use Rattle.wcet_atomic_blocks.specs.declared.block.Blocks.{Blocks}
use Rattle.wcet_atomic_blocks.specs.Blocks.{IsCut, IsEntryBlock, beginnings}
use Rattle.wcet_atomic_blocks.specs.Plants.{PlantData, IsPlant}
use Rattle.scheduler_moves.specs.Moves.{rules_of}
use Rattle.demo_gen.specs.declared.task.DemoTask.{DemoTask}
use Rattle.demo_gen.specs.Demo.{system_task, the_image, the_system, the_timing}
use Rattle.demo_gen.specs.Reading.{the_rules}
use Rattle.demo_gen.specs.Working.Drawn.{AreDrawn}
use Rattle.demo_plants.proofs.CodeOf.{mapped_at}
use Rattle.demo_plants.proofs.EntriesOf.{the_program}
use Rattle.demo_plants.proofs.Plant.{owners_are, entry_count, service_ends}

abbrev pub plant_with : List DemoTask → Flow → Blocks → PlantData
plant_with tasks flow blocks = record { image = the_image tasks; system = the_system tasks; timing = the_timing tasks; flow = flow; blocks = blocks }

pub record IsSimple (tasks : List DemoTask) (flow : Flow) (blocks : Blocks) : Type 0 where
  pub entry : (k : ℕ) → k < length tasks → slice_get blocks.entries k ≡ Some k
  pub rules : rules_of (plant_with tasks flow blocks) ≡ the_rules (length tasks)
  pub ends : (number : ℕ) (leaving : Leaving) (service : ServiceAt) → slice_get flow.leaving number ≡ Some leaving → leaving.service ≡ Some service
      → service ≡ record { number = 2; argument = 0 }

-- ---- Owners

twice : {A B C : Type 0} (f : A → B) (g : B → C) (xs : List A) → map g (map f xs) ≡ map (λ x. g (f x)) xs
twice f g [] = refl
twice f g (x ∷ xs) = ap (λ rest. g (f x) ∷ rest) (twice f g xs)

range_at : (from count k x : ℕ) → slice_get (range_with_len from count) k ≡ Some x → x ≡ from + k
range_at from zero k x there = absurd cc
range_at from (suc count) zero x there = let is = same_Some from x there in omega (arith, is)
range_at from (suc count) (suc k) x there = let is = range_at (from + 1) count k x there in omega (arith, is)

tasks_there : (tasks : List DemoTask) (from count : ℕ) → from + count ≤ length tasks
    → map (context_at (the_system tasks)) (range_with_len from count) ≡ map contexts.Task (range_with_len from count)
tasks_there tasks from zero few = refl
tasks_there tasks from (suc count) few =
    let is_task = lt-ltb from (length (map system_task tasks)) (omega (arith, few, length-map tasks system_task)) in
    rw (is_task, tasks_there tasks (from + 1) count (omega arith)) refl

abbrev owner_of : Block → ℕ
owner_of block = block.begin.owner

owners : (tasks : List DemoTask) (flow : Flow) (blocks : Blocks) (entries : List ℕ) → AreDrawn tasks → IsGraph (the_program tasks) flow → IsCut flow entries blocks → length entries ≡ length tasks
    → map owner_of blocks.blocks ≡ range_with_len 0 (length tasks)
owners tasks flow blocks entries drawn graph cut count =
    sym (twice (λ (block : Block). block.begin) (λ (b : Beginning). b.owner) blocks.blocks)
    ∙ (ap (map (λ (b : Beginning). b.owner)) cut.begin ∙ (owners_are tasks flow 0 entries drawn graph ∙ ap (range_with_len 0) count))

no_inner : (tasks : List DemoTask) → map (λ (task : Task). is_some task.inner) (map system_task tasks) ≡ replicate (length tasks) false
no_inner [] = refl
no_inner (task ∷ tasks) = ap (λ rest. false ∷ rest) (no_inner tasks)

entry_is : (tasks : List DemoTask) (flow : Flow) (blocks : Blocks) (k : ℕ) → map owner_of blocks.blocks ≡ range_with_len 0 (length tasks)
    → IsSomeAnd (slice_get blocks.entries k) (λ number. IsSomeAnd (slice_get blocks.blocks number) (IsEntryBlock k)) → slice_get blocks.entries k ≡ Some k
entry_is tasks flow blocks k owned begins = by_number (slice_get blocks.entries k) refl begins
  where
    by_block : (number : ℕ) (o : Option Block) → slice_get blocks.blocks number ≡ o → IsSomeAnd o (IsEntryBlock k) → number ≡ k
    by_block number None is has = absurd has
    by_block number (Some block) is has =
        let here : slice_get (range_with_len 0 (length tasks)) number ≡ Some (owner_of block) =
        ap (λ xs. slice_get xs number) (sym owned) ∙ mapped_at owner_of blocks.blocks number block is in
        let same = range_at 0 (length tasks) number (owner_of block) here in
        omega (arith, same, has.owner)

    by_number : (o : Option ℕ) → slice_get blocks.entries k ≡ o → IsSomeAnd o (λ number. IsSomeAnd (slice_get blocks.blocks number) (IsEntryBlock k)) → slice_get blocks.entries k ≡ Some k
    by_number None is has = absurd has
    by_number (Some number) is has = is ∙ ap Some (by_block number (slice_get blocks.blocks number) refl has)

pub simple : (tasks : List DemoTask) (flow : Flow) (blocks : Blocks) → AreDrawn tasks → IsPlant (plant_with tasks flow blocks) → IsSimple tasks flow blocks
simple tasks flow blocks drawn belong =
    let entries = belong.blocks.entries in
    let cut = belong.blocks.cut in
    let graph = belong.graph.graph in
    let count : length entries ≡ length tasks = belong.blocks.entered.count ∙ entry_count tasks drawn in
    let owned = owners tasks flow blocks entries drawn graph cut count in
    let named : map (λ (block : Block). context_at (the_system tasks) block.begin.owner) blocks.blocks ≡ map contexts.Task (range_with_len 0 (length tasks)) =
    sym (twice owner_of (context_at (the_system tasks)) blocks.blocks) ∙ (ap (map (context_at (the_system tasks))) owned ∙ tasks_there tasks 0 (length tasks) (omega arith)) in
    record {
      entry = λ k below. entry_is tasks flow blocks k owned (cut.entry k (omega (arith, below, count)));
      rules = rw (named, no_inner tasks) refl;
      ends = λ number leaving service at is. service_ends tasks flow number leaving service drawn graph at is;
    }
