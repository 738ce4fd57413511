-- The scheduler states that JSON values of their form are, if the system can have them.
use Rattle.std.specs.Prelude.{ℕ, List, [], ◌∷◌, length, Bool, false, ◌==◌, nat_eq, if◌then◌else◌, None, ok_or, slice_get, Result, Ok, Err, ◌≡◌, refl}
use Rattle.listed.specs.Lists.{all_of, each_from, differ}
use Rattle.listed.specs.Steps.{◌>>=◌}
use Rattle.serde_json.specs.Data.{Data, number, unsigned, array}
use Rattle.serde_json.specs.View.{items_of}
use Rattle.json_fields.specs.Lists.{list_in}
use Rattle.osek_kernel.specs.declared.context.Context.TheVariants.{Task}
use Rattle.abstract_sched.specs.declared.rules.StateRules.{StateRules}
use Rattle.abstract_sched.specs.declared.states.AbsState.{AbsState}
use Rattle.abstract_sched.specs.declared.states.TaskAt.{TaskAt}
use Rattle.abstract_sched.specs.declared.states.TaskAt.TheVariants.{Suspended, At}
use Rattle.abstract_sched.specs.States.{same_state}
use Rattle.certificate.specs.declared.fault.StatesKind.{StatesKind}
use Rattle.certificate.specs.declared.fault.StatesKind.TheVariants.{Shape, State}
use Rattle.certificate.specs.Form.{StateParts, state_parts, is_state, state_list}
use Rattle.certificate.specs.Parts.{id_below, flag_in, depth_in, block_of, inner_of, isr_at}

-- resources that exist, each once
abbrev pub held_id : StateRules → Data → Result ℕ StatesKind
held_id rules d = ok_or (id_below rules.resources d) State

unfoldable pub held_of : StateRules → List Data → Result (List ℕ) StatesKind
held_of rules ds = do
  ids ← all_of (held_id rules) ds
  if differ nat_eq ids then Ok ids else Err State

-- a task, by its id and whether it has an inner ceiling
unfoldable pub task_at : StateRules → ℕ → Bool → List Data → Result TaskAt StatesKind
task_at rules task has_inner [] = Ok Suspended
task_at rules task has_inner (block ∷ []) = Err State
task_at rules task has_inner (first ∷ second ∷ rest) = do
  block ← ok_or (block_of rules (Task task) first) State
  inner ← ok_or (inner_of has_inner second) State
  held ← held_of rules rest
  Ok (At block inner held)

abbrev pub task_of : StateRules → ℕ → Data → Result TaskAt StatesKind
task_of rules task d = do
  has_inner ← ok_or (slice_get rules.inner task) State
  ds ← ok_or (list_in d) State
  task_at rules task has_inner ds

-- as many tasks as there are in the system
abbrev pub tasks_of : StateRules → List Data → Result (List TaskAt) StatesKind
tasks_of rules ds = if length ds == length rules.inner then each_from (task_of rules) 0 ds else Err State

unfoldable pub state_of_parts : StateRules → StateParts → Result AbsState StatesKind
state_of_parts rules parts = do
  mode ← ok_or (id_below rules.modes parts.mode) State
  members ← ok_or (list_in parts.tasks) State
  tasks ← tasks_of rules members
  pair ← ok_or (list_in parts.isr) State
  isr ← ok_or (isr_at rules pair) State
  disabled ← ok_or (flag_in parts.disable) State
  suspended ← ok_or (depth_in parts.suspend) State
  Ok (record { mode = mode; tasks = tasks; isr = isr; disabled = disabled; suspended = suspended })

-- the state that the value is
abbrev pub state_of : StateRules → Data → Result AbsState StatesKind
state_of rules d = do
  parts ← ok_or (state_parts d) State
  state_of_parts rules parts

-- states that the system can have, each once
abbrev pub states_of : StateRules → List Data → Result (List AbsState) StatesKind
states_of rules ds = do
  states ← all_of (state_of rules) ds
  if differ same_state states then Ok states else Err State

-- The list of states that a value is, or the first kind of fault that it has, each judged over the
-- whole value.
abbrev pub states_in : StateRules → Data → Result (List AbsState) StatesKind
states_in rules d = do
  ds ← ok_or (state_list d) Shape
  states_of rules ds

-- ---- worked cases: one task with block 0, no ISR, one resource

lone : StateRules
lone = record { modes = 1; isrs = 0; resources = 1; inner = false ∷ []; owners = Task 0 ∷ [] }

written : ℕ → Data
written n = number (unsigned n)

list : List Data → Data
list ds = array (items_of ds)

with_task : List Data → Data
with_task task = list (written 0 ∷ list (list task ∷ []) ∷ list [] ∷ written 0 ∷ written 0 ∷ [])

at_block : TaskAt → AbsState
at_block task = record { mode = 0; tasks = task ∷ []; isr = None; disabled = false; suspended = 0 }

running_and_suspended : states_of lone (with_task (written 0 ∷ written 0 ∷ []) ∷ with_task [] ∷ []) ≡ Ok (at_block (At 0 false []) ∷ at_block Suspended ∷ [])
unfolding state_of_parts task_at isr_at block_of inner_of held_of lone written list with_task at_block
running_and_suspended = refl

the_resource_is_held : state_of lone (with_task (written 0 ∷ written 0 ∷ written 0 ∷ [])) ≡ Ok (at_block (At 0 false (0 ∷ [])))
unfolding state_of_parts task_at isr_at block_of inner_of held_of lone written list with_task at_block
the_resource_is_held = refl

-- held twice, an inner ceiling that isn't there, a block that isn't there, and a state that stands twice
held_twice : state_of lone (with_task (written 0 ∷ written 0 ∷ written 0 ∷ written 0 ∷ [])) ≡ Err State
unfolding state_of_parts task_at isr_at block_of inner_of held_of lone written list with_task at_block
held_twice = refl

no_inner_ceiling : state_of lone (with_task (written 0 ∷ written 1 ∷ [])) ≡ Err State
unfolding state_of_parts task_at isr_at block_of inner_of held_of lone written list with_task at_block
no_inner_ceiling = refl

no_such_block : state_of lone (with_task (written 1 ∷ written 0 ∷ [])) ≡ Err State
unfolding state_of_parts task_at isr_at block_of inner_of held_of lone written list with_task at_block
no_such_block = refl

state_twice : states_of lone (with_task [] ∷ with_task [] ∷ []) ≡ Err State
unfolding state_of_parts task_at isr_at block_of inner_of held_of lone written list with_task at_block
state_twice = refl

-- a task of one number has no form
one_number : is_state (with_task (written 0 ∷ [])) ≡ false
unfolding list written with_task
one_number = refl
