-- Where contexts stand. A machine and a scheduler state are both a kernel and a list over contexts, tasks by id
-- and then ISRs by id, that has a position for each active context and none for the others. A position is a place
-- in the code for the one, and a block of code for the other.
use Rattle.std.specs.Prelude.{◌≡◌, List, length, Option, Some, None, option_map, is_some, IsSome, ◌↔◌, slice_index_or, slice_set, if◌then◌else◌}
use Rattle.oil_model.specs.declared.system.System.{System}
use Rattle.osek_kernel.specs.declared.context.Context.{Context}
use Rattle.osek_kernel.specs.declared.context.Context.TheVariants as contexts
use Rattle.osek_kernel.specs.declared.kernel.Kernel.{Kernel}
use Rattle.osek_kernel.specs.declared.kernel.Reply.{Reply}
use Rattle.osek_kernel.specs.Contexts.{IsContext, place_of, context_count}
use Rattle.osek_kernel.specs.Kernel.{IsActive}

abbrev pub position_of : {P : Type 0} → System → List (Option P) → Context → Option P
position_of system positions context = slice_index_or positions (place_of system context) None

-- exactly the active contexts have a position
pub record ArePositions {P : Type 0} (system : System) (kernel : Kernel) (positions : List (Option P)) : Type 0 where
  pub count : length positions ≡ context_count system
  pub active : (c : Context) → IsContext system c → IsSome (position_of system positions c) ↔ IsActive kernel c

abbrev pub placed : {P : Type 0} → System → Context → Option P → List (Option P) → List (Option P)
placed system context position positions = slice_set positions (place_of system context) position

-- a context that starts stands at its entry
abbrev pub started : {P : Type 0} → System → (Context → Option P) → Option Context → List (Option P) → List (Option P)
started system entry None positions = positions
started system entry (Some context) positions = placed system context (entry context) positions

-- the caller goes on at the next position, unless the service ends it; then the task that is activated starts
abbrev pub answered : {P : Type 0} → System → (Context → Option P) → Context → Option P → Reply → List (Option P) → List (Option P)
answered system entry caller next reply positions =
    let gone = placed system caller (if is_some reply.ended then None else next) positions in
    started system entry (option_map contexts.Task reply.activated) gone
