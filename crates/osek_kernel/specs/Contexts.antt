-- Contexts, which run code: the tasks and the interrupt service routines (ISRs) of a system.
use Rattle.std.specs.Prelude.{ℕ, ◌+◌, ◌-◌, ◌<◌, nat_lt, List, length, codes, Option, option_map, option_and_then, ◌++◌, slice_get, if◌then◌else◌}
use Rattle.elf_image.specs.Image.{ImageData, symbol_of}
use Rattle.oil_model.specs.declared.system.System.{System}
use Rattle.osek_kernel.specs.declared.context.Context.{Context}
use Rattle.osek_kernel.specs.declared.context.Context.TheVariants as contexts

abbrev pub IsContext : System → Context → Type 0
IsContext system (contexts.Task t) = t < length system.tasks
IsContext system (contexts.Isr i) = i < length system.isrs

-- In a list over contexts the tasks stand by id, then the ISRs by id.
abbrev pub place_of : System → Context → ℕ
place_of system (contexts.Task t) = t
place_of system (contexts.Isr i) = length system.tasks + i

abbrev pub context_count : System → ℕ
context_count system = length system.tasks + length system.isrs

abbrev pub context_at : System → ℕ → Context
context_at system n = if nat_lt n (length system.tasks) then contexts.Task n else contexts.Isr (n - length system.tasks)

abbrev pub name_of : System → Context → Option (List ℕ)
name_of system (contexts.Task t) = option_map (λ task. task.name) (slice_get system.tasks t)
name_of system (contexts.Isr i) = option_map (λ isr. isr.name) (slice_get system.isrs i)

-- The symbol at which a context's code begins has this before the context's name.
abbrev pub symbol_prefix : Context → List ℕ
symbol_prefix (contexts.Task t) = codes "Task_"
symbol_prefix (contexts.Isr i) = codes "Isr_"

-- where a context's code begins; none where the image has no such symbol
abbrev pub entry_of : ImageData → System → Context → Option ℕ
entry_of image system context = option_and_then (λ name. symbol_of image (symbol_prefix context ++ name)) (name_of system context)
