-- What a plant gives: a graph without a fault for its image, system and timing, and blocks that begin at entries.
use Rattle.std.proofs.Common.{◌≡◌, ℕ, ◌<◌, length, Option, Some, None, refl, ap, subst, arith, is_some}
use Rattle.std.specs.Prelude.{slice_get, IsSomeAnd}
use Rattle.std.proofs.lemmas.Option.{none-some}
use Rattle.osek_kernel.specs.declared.context.Context.{Context}
use Rattle.osek_kernel.specs.Contexts.{IsContext, place_of}
use Rattle.osek_machine.proofs.Keeping.{Enters}
use Rattle.osek_machine.proofs.Placing.{place_within}
use Rattle.flow_graph.specs.Graph.{Program, program_of, entries_of}
use Rattle.flow_graph.proofs.WalkLaws.{graph_is_faultless}
use Rattle.graph_runs.specs.Walking.{HaveGraph}
use Rattle.wcet_atomic_blocks.specs.declared.block.Block.{Block}
use Rattle.wcet_atomic_blocks.specs.PlantLaws.{BeginsAtEntry, EntriesBegin}
use Rattle.wcet_atomic_blocks.specs.Plants.{PlantData, IsPlant}
use Rattle.wcet_atomic_blocks.proofs.PlantFacts.{entries_begin}
use Rattle.scheduler_moves.specs.Moves.{entry_block}
use Rattle.shadow_runs.proofs.Entered.{as_many_entries, contexts_enter}

abbrev pub program_in : PlantData → Program
program_in plant = program_of plant.image plant.system plant.timing

pub have_graph : (plant : PlantData) → IsPlant plant → HaveGraph plant.image plant.system plant.timing
have_graph plant is = record {
  image_lawful = is.image;
  system_lawful = is.system;
  entries = record { each = contexts_enter plant.image plant.system plant.timing is.graph.early };
  faultless = graph_is_faultless (program_in plant) plant.flow is.graph.graph;
}

-- ---- What is there

-- something that is there, with what holds of it
pub record IsThere {A : Type 0} (o : Option A) (P : A → Type 0) : Type 0 where
  pub item : A
  pub there : o ≡ Some item
  pub holds : P item

pub there_is : {A : Type 0} (o : Option A) (P : A → Type 0) → IsSomeAnd o P → IsThere o P
there_is (Some x) P is = record { item = x; there = refl; holds = is }
there_is None P is = absurd is

pub some_is : {A : Type 0} (o : Option A) (P : A → Type 0) (x : A) → o ≡ Some x → P x → IsSomeAnd o P
some_is (Some y) P x same holds = let e : x ≡ y = cc in subst P e holds
some_is None P x same holds = absurd (none-some x same)

-- ---- Entries

-- the block of a context's entry
pub record HasEntryBlock (plant : PlantData) (context : Context) : Type 0 where
  pub number : ℕ
  pub entered : entry_block plant context ≡ Some number
  pub block : Block
  pub there : slice_get plant.blocks.blocks number ≡ Some block
  pub begins : BeginsAtEntry plant (place_of plant.system context) block

pub has_entry_block : (plant : PlantData) → IsPlant plant → (context : Context) → IsContext plant.system context → HasEntryBlock plant context
unfolding EntriesBegin
has_entry_block plant is context exists =
    let within : place_of plant.system context < length (entries_of plant.image plant.system) =
    (let w = place_within plant.system context exists in let n = as_many_entries plant.image plant.system in omega arith) in
    let entry = there_is (slice_get plant.blocks.entries (place_of plant.system context)) _ (entries_begin plant is (place_of plant.system context) within) in
    let block = there_is (slice_get plant.blocks.blocks entry.item) (BeginsAtEntry plant (place_of plant.system context)) entry.holds in
    record { number = entry.item; entered = entry.there; block = block.item; there = block.there; begins = block.holds }

pub blocks_enter : (plant : PlantData) → IsPlant plant → Enters plant.system (entry_block plant)
blocks_enter plant is = record { each = λ c exists. ap is_some (has_entry_block plant is c exists).entered }
