-- Where no fault is found before any node, each context has an entry.
use Rattle.std.proofs.Common.{◌≡◌, ℕ, zero, suc, ◌<◌, Bool, true, false, cond, List, length, Option, Some, None, refl, sym, ◌∙◌, ap, arith, get_or, is_some, IsSome, position}
use Rattle.std.specs.Prelude.{is_none, option_and_then}
use Rattle.std.specs.Bool.{Decides}
use Rattle.std.proofs.lemmas.Option.{none-some, slice_get-get_or}
use Rattle.elf_image.specs.Image.{ImageData}
use Rattle.oil_model.specs.declared.system.System.{System}
use Rattle.timing_file.specs.declared.timing.Timing.{Timing}
use Rattle.osek_kernel.specs.declared.context.Context.{Context}
use Rattle.osek_kernel.specs.Contexts.{IsContext, place_of, context_count, entry_of}
use Rattle.osek_machine.proofs.Placing.{place_within}
use Rattle.flow_graph.specs.declared.fault.CodeFault.{CodeFault}
use Rattle.flow_graph.specs.Graph.{entries_from, entries_of}
use Rattle.flow_graph.specs.Faults.{entry_in}
use Rattle.flow_graph.specs.Judging.{names_fit, alarm_fault, entry_fault, early_fault}
use Rattle.graph_runs.proofs.Entries.{entry_is}
use Rattle.shadow_runs.proofs.Members.{stands_first}

entries_count : (image : ImageData) (system : System) (place count : ℕ) → length (entries_from image system place count) ≡ count
entries_count image system place zero = refl
entries_count image system place (suc more) = ap suc (entries_count image system (suc place) more)

-- there is an entry for each context, or none
pub as_many_entries : (image : ImageData) (system : System) → length (entries_of image system) ≡ context_count system
as_many_entries image system = entries_count image system 0 (context_count system)

-- the first that has none is the first None
tells_none : (entry : Option ℕ) → Decides (is_none entry) (entry ≡ None)
tells_none None = (λ is. refl, λ is. refl)
tells_none (Some place) = (λ is. absurd cc, λ is. absurd cc)

each_some : (entries : List (Option ℕ)) → position is_none entries ≡ None → (i : ℕ) → i < length entries → IsSome (entry_in entries i)
each_some entries nobody i within = at (get_or entries i None) refl
  where
    at : (o : Option ℕ) → get_or entries i None ≡ o → IsSome (entry_in entries i)
    at (Some place) e = ap (λ found. is_some (option_and_then (λ (entry : Option ℕ). entry) found)) (slice_get-get_or entries i None within ∙ ap Some e)
    at None e = let first = stands_first is_none entries None tells_none (i, within, e) in absurd (none-some first.number (sym nobody ∙ first.found))

none_lacks : (fit : Bool) (first : Option ℕ) (others : Option CodeFault) (name : CodeFault) → cond fit (entry_fault first others) (Some name) ≡ None
    → first ≡ None
none_lacks true None others name e = refl
none_lacks true (Some context) others name e = absurd (none-some _ (sym e))
none_lacks false first others name e = absurd (none-some name (sym e))

pub contexts_enter : (image : ImageData) (system : System) (timing : Timing) → early_fault system timing (entries_of image system) ≡ None
    → (c : Context) → IsContext system c → IsSome (entry_of image system c)
contexts_enter image system timing clear c is =
    let nobody = none_lacks (names_fit system timing) (position is_none (entries_of image system)) (alarm_fault system timing) _ clear in
    let within : place_of system c < length (entries_of image system) = (let w = place_within system c is in let n = as_many_entries image system in
    omega arith) in
    ap is_some (sym (entry_is image system timing c is)) ∙ each_some (entries_of image system) nobody (place_of system c) within
