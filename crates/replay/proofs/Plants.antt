-- A plant has a code graph without a fault.
use Rattle.std.proofs.Common.{◌≡◌, ℕ, zero, suc, ◌+◌, ◌<◌, List, [], ◌∷◌, length, Option, Some, None, IsSome, refl, sym, ◌∙◌, ap, arith}
use Rattle.std.specs.Prelude.{is_none, is_some, position, slice_get, option_and_then}
use Rattle.std.specs.List.{position_from}
use Rattle.std.proofs.lemmas.Iterator.Adapters.{position_from-zero}
use Rattle.std.proofs.lemmas.Bool.{cond_both}
use Rattle.elf_image.specs.Image as images
use Rattle.elf_image.specs.Image.{ImageData}
use Rattle.oil_model.specs.declared.system.System.{System}
use Rattle.timing_file.specs.declared.timing.Timing.{Timing}
use Rattle.osek_kernel.specs.declared.context.Context.{Context}
use Rattle.osek_kernel.specs.Contexts.{IsContext, entry_of, place_of, context_count}
use Rattle.osek_machine.proofs.Placing.{place_within}
use Rattle.osek_machine.specs.Room.{HaveEntries}
use Rattle.flow_graph.specs.declared.fault.CodeFault.{CodeFault}
use Rattle.flow_graph.specs.declared.fault.CodeKind.TheVariants.{Name}
use Rattle.flow_graph.specs.Graph.{entries_of, entries_from, program_of}
use Rattle.flow_graph.specs.Judging.{early_fault, entry_fault, names_fit, alarm_fault, whole}
use Rattle.flow_graph.proofs.WalkLaws.{graph_is_faultless}
use Rattle.graph_runs.specs.Walking.{HaveGraph}
use Rattle.graph_runs.proofs.Entries.{entry_is}
use Rattle.wcet_atomic_blocks.specs.Plants.{PlantData, IsPlant}

no_entry_fault : (found : Option ℕ) (others : Option CodeFault) → entry_fault found others ≡ None → found ≡ None
no_entry_fault None others e = refl
no_entry_fault (Some context) others e = absurd cc

each_enters : (image : ImageData) (system : System) (timing : Timing) → early_fault system timing (entries_of image system) ≡ None → position is_none (entries_of image system) ≡ None
each_enters image system timing none =
    cond_both (names_fit system timing) (entry_fault (position is_none (entries_of image system)) (alarm_fault system timing)) (Some (whole Name))
    (λ (f : Option CodeFault). f ≡ None → position is_none (entries_of image system) ≡ None)
    (λ h e. no_entry_fault (position is_none (entries_of image system)) (alarm_fault system timing) e) (λ h e. absurd cc) none

-- ---- Entries

entries_count : (image : ImageData) (system : System) (place count : ℕ) → length (entries_from image system place count) ≡ count
entries_count image system place zero = refl
entries_count image system place (suc more) = ap suc (entries_count image system (suc place) more)

none_before : (i : ℕ) (entries : List (Option ℕ)) → position_from is_none i entries ≡ None → (k : ℕ) → k < length entries
    → (found : ℕ) × (slice_get entries k ≡ Some (Some found))
none_before i [] none k within = absurd (omega arith)
none_before i (None ∷ entries) none k within = absurd cc
none_before i (Some place ∷ entries) none zero within = (place, refl)
none_before i (Some place ∷ entries) none (suc k) within = none_before (i + 1) entries none k (omega arith)

pub entries_are : (image : ImageData) (system : System) (timing : Timing) → early_fault system timing (entries_of image system) ≡ None → HaveEntries image system
entries_are image system timing none = record { each = each }
  where
    each : (c : Context) → IsContext system c → IsSome (entry_of image system c)
    each c is =
        let none_at : position_from is_none 0 (entries_of image system) ≡ None =
        sym (position_from-zero is_none (entries_of image system)) ∙ each_enters image system timing none in
        let count : length (entries_of image system) ≡ context_count system = entries_count image system 0 (context_count system) in
        let within : place_of system c < context_count system = place_within system c is in
        let found = none_before 0 (entries_of image system) none_at (place_of system c) (omega arith) in
        let there : entry_of image system c ≡ Some found.0 = sym (entry_is image system timing c is) ∙ ap (option_and_then (λ (entry : Option ℕ). entry)) found.1 in
        ap is_some there

pub have_graph : (plant : PlantData) → IsPlant plant → images.IsLawful plant.image → HaveGraph plant.image plant.system plant.timing
have_graph plant is lawful = record {
  image_lawful = lawful;
  system_lawful = is.system;
  entries = entries_are plant.image plant.system plant.timing is.graph.early;
  faultless = graph_is_faultless (program_of plant.image plant.system plant.timing) plant.flow is.graph.graph;
}
