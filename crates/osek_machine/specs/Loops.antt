-- How often code goes round in a declared loop.
-- An invocation of a context lasts from its start to its end, or from a call to the return that closes it. A call
-- with its return is one step of the invocation that makes it, from the call to the word behind it.
use Rattle.std.specs.Prelude.{ℕ, ◌+◌, ◌-◌, ◌==◌, ◌&&◌, List, [], ◌∷◌, length, Bool, false, Option, Some, None, is_none, slice_get, if◌then◌else◌}
use Rattle.elf_image.specs.Image.{ImageData}
use Rattle.rv32_machine.specs.declared.turns.Turn.{Turn}
use Rattle.rv32_machine.specs.declared.turns.Turn.TheVariants.{Calling, Returning}
use Rattle.rv32_machine.specs.Execution.{following}
use Rattle.rv32_machine.specs.Code.{insn_at}
use Rattle.rv32_machine.specs.Places.{turn_at}
use Rattle.timing_file.specs.declared.timing.Loop.{Loop}
use Rattle.timing_file.specs.Costs.{lies_in}
use Rattle.osek_kernel.specs.declared.context.Context.{Context}
use Rattle.osek_kernel.specs.declared.context.Context.TheVariants as contexts
use Rattle.osek_machine.specs.Events.{Execution, Event, Execute, Serve, started_by}

abbrev pub same_context : Context → Context → Bool
same_context (contexts.Task a) (contexts.Task b) = a == b
same_context (contexts.Isr a) (contexts.Isr b) = a == b
same_context a b = false

abbrev pub is_this : Context → Option Context → Bool
is_this context None = false
is_this context (Some other) = same_context context other

-- An invocation's laps, since it last came into the loop from outside or began in it, after it goes from one
-- address to another: one more where it goes from inside the loop to the loop's first address.
abbrev pub laps_after : Loop → ℕ → ℕ → ℕ → ℕ
laps_after declared from to laps = if lies_in declared.from declared.to from then (if to == declared.from then laps + 1 else laps) else 0

-- Below, the laps of each open invocation of a context, the innermost first.

-- an invocation begins
abbrev pub begun : List ℕ → List ℕ
begun callers = 0 ∷ callers

-- the innermost invocation goes from one address to another
abbrev pub moved_on : Loop → ℕ → ℕ → List ℕ → List ℕ
moved_on declared from to [] = []
moved_on declared from to (laps ∷ callers) = laps_after declared from to laps ∷ callers

-- the innermost invocation ends, and the one that called it goes on behind the call
abbrev pub returned : Loop → Option ℕ → List ℕ → List ℕ
returned declared (Some call) (laps ∷ callers) = moved_on declared call (following call) callers
returned declared call invocations = invocations

abbrev pub innermost : List ℕ → Option ℕ
innermost calls = slice_get calls (length calls - 1)

abbrev pub turned : Loop → Option Turn → Execution → List ℕ → List ℕ
turned declared (Some (Calling target)) execution invocations = begun invocations
turned declared (Some Returning) execution invocations = returned declared (innermost execution.before.calls) invocations
turned declared turn execution invocations = moved_on declared execution.before.place execution.after.place invocations

-- What a step does to the laps of a context that it doesn't start. A service that ends its caller leads nowhere.
abbrev pub laps_with : ImageData → Loop → Context → Event → List ℕ → List ℕ
laps_with image declared context (Execute execution) invocations =
    if same_context context execution.context
    then turned declared (turn_at (insn_at image) execution.before.place) execution invocations
    else invocations
laps_with image declared context (Serve call) invocations =
    if same_context context call.caller && is_none call.reply.ended
    then moved_on declared call.before.place (following call.before.place) invocations
    else invocations
laps_with image declared context event invocations = invocations

-- the laps after the steps, of which the newest stands first
abbrev pub laps_of : ImageData → Loop → Context → List Event → List ℕ
laps_of image declared context [] = begun []
laps_of image declared context (event ∷ earlier) =
    if is_this context (started_by event) then begun []
    else laps_with image declared context event (laps_of image declared context earlier)
