-- The entries of contexts: where they stand in the list of all, and that they are addresses.
use Rattle.std.proofs.Common.{◌≡◌, ℕ, zero, suc, ◌+◌, ◌-◌, ◌^◌, ◌<◌, Bool, true, false, cond, length, Option, Some, None, refl, ◌∙◌, ap, subst, arith}
use Rattle.std.specs.Prelude.{nat_le, slice_get, option_and_then, ◌&&◌, ◌==◌, ◌%◌}
use Rattle.std.specs.List.{list_any}
use Rattle.std.proofs.lemmas.Bool.{lt-ltb, le-ltb, leb-true, and_parts}
use Rattle.std.proofs.lemmas.List.Folds.{Any-from_list_any}
use Rattle.elf_image.specs.declared.image.Section.{Section}
use Rattle.elf_image.specs.Image.{ImageData, IsLawful, IsSegment, holds_word, has_word, lies_in}
use Rattle.oil_model.specs.declared.system.System.{System}
use Rattle.timing_file.specs.declared.timing.Timing.{Timing}
use Rattle.osek_kernel.specs.declared.context.Context.{Context}
use Rattle.osek_kernel.specs.declared.context.Context.TheVariants as contexts
use Rattle.osek_kernel.specs.Contexts.{IsContext, place_of, context_at, context_count, entry_of}
use Rattle.osek_machine.proofs.Placing.{place_within}
use Rattle.flow_graph.specs.declared.node.Node.{Node}
use Rattle.flow_graph.specs.Graph.{entries_from, program_of}
use Rattle.flow_graph.specs.Faults.{entry_at, fault_of}
use Rattle.flow_graph.proofs.Sound.{has_turn}

-- ---- Their places

entry_there : (image : ImageData) (system : System) (place count i : ℕ) → i < count
    → slice_get (entries_from image system place count) i ≡ Some (entry_of image system (context_at system (place + i)))
entry_there image system place zero i within = absurd (omega arith)
entry_there image system place (suc more) zero within = ap (λ n. Some (entry_of image system (context_at system n))) (omega arith)
entry_there image system place (suc more) (suc i) within =
    entry_there image system (suc place) more i (omega arith)
    ∙ ap (λ n. Some (entry_of image system (context_at system n))) (omega arith)

context_there : (system : System) (c : Context) → IsContext system c → context_at system (place_of system c) ≡ c
context_there system (contexts.Task t) is = ap (λ b. cond b (contexts.Task t) (contexts.Isr (t - length system.tasks))) (lt-ltb t (length system.tasks) is)
context_there system (contexts.Isr i) is =
    ap (λ b. cond b (contexts.Task (length system.tasks + i)) (contexts.Isr ((length system.tasks + i) - length system.tasks))) (le-ltb (length system.tasks + i) (length system.tasks) (omega arith))
    ∙ ap contexts.Isr (omega arith)

-- the entry at a context's place is the context's
pub entry_is : (image : ImageData) (system : System) (timing : Timing) (c : Context) → IsContext system c
    → entry_at (program_of image system timing) (place_of system c) ≡ entry_of image system c
entry_is image system timing c is =
    ap (option_and_then (λ (entry : Option ℕ). entry)) (entry_there image system 0 (context_count system) (place_of system c) (place_within system c is))
    ∙ (ap (λ n. entry_of image system (context_at system n)) (zero_more (place_of system c)) ∙ ap (entry_of image system) (context_there system c is))
  where
    zero_more : (n : ℕ) → 0 + n ≡ n
    zero_more n = omega arith

-- ---- Their addresses

-- a code word stands below the end of the addresses
word_below : (image : ImageData) (address : ℕ) → IsLawful image → has_word image.code address ≡ true → address < 2 ^ 32
word_below image address lawful has =
    let held = Any-from_list_any (holds_word address) image.code (and_parts (address % 4 == 0) (list_any (holds_word address) image.code) has).1 in
    let within = and_parts (nat_le held.1.address address) (nat_le (address + 4) (held.1.address + held.1.size)) held.4 in
    let covered = subst (λ (s : Section). list_any (lies_in s) image.memory ≡ true) held.3 (lawful.code held.0 held.1 held.2) in
    let loaded = Any-from_list_any (lies_in held.1) image.memory covered in
    let lies = and_parts (nat_le loaded.1.address held.1.address) (nat_le (held.1.address + held.1.size) (loaded.1.address + loaded.1.size)) loaded.4 in
    let segment = subst IsSegment loaded.3 (lawful.segments loaded.0 loaded.1 loaded.2) in
    omega (arith, leb-true (address + 4) (held.1.address + held.1.size) within.1, leb-true (held.1.address + held.1.size) (loaded.1.address + loaded.1.size) lies.1, segment.ends)

-- the address of a node without a fault is one
pub node_below : (image : ImageData) (system : System) (timing : Timing) (node : Node) → IsLawful image
    → fault_of (program_of image system timing) node ≡ None → node.address < 2 ^ 32
node_below image system timing node lawful none = word_below image node.address lawful (has_turn (program_of image system timing) node none).sound.word
