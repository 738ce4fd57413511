-- The numbers of a state, each where the system can have it.
use Rattle.std.specs.Prelude.{ℕ, ◌-◌, ◌^◌, List, [], ◌∷◌, Bool, false, not, ◌&&◌, ◌==◌, nat_lt, if◌then◌else◌, Option, Some, None, option_map, slice_get}
use Rattle.listed.specs.Steps.Options.{◌>>=◌}
use Rattle.serde_json.specs.Data.{Data}
use Rattle.json_fields.specs.Numbers.{whole_in}
use Rattle.osek_kernel.specs.declared.context.Context.{Context}
use Rattle.osek_kernel.specs.declared.context.Context.TheVariants.{Task, Isr}
use Rattle.abstract_sched.specs.declared.rules.StateRules.{StateRules}
use Rattle.abstract_sched.specs.declared.states.IsrAt.{IsrAt}

-- a whole number from 0 to 2^32 - 1
abbrev pub number_in : Data → Option ℕ
number_in d = whole_in 0 (2 ^ 32 - 1) d

-- such a number below a count
abbrev pub id_below : ℕ → Data → Option ℕ
id_below count d = number_in d >>= λ n. if nat_lt n count then Some n else None

-- 0 or 1
abbrev pub flag_in : Data → Option Bool
flag_in d = option_map (λ n. n == 1) (whole_in 0 1 d)

-- how deep the calls that suspend interrupts nest
abbrev pub depth_in : Data → Option ℕ
depth_in d = whole_in 0 7 d

abbrev pub same_context : Context → Context → Bool
same_context (Task a) (Task b) = a == b
same_context (Task a) (Isr b) = false
same_context (Isr a) (Task b) = false
same_context (Isr a) (Isr b) = a == b

-- a block of the context
unfoldable pub block_of : StateRules → Context → Data → Option ℕ
block_of rules context d = do
  block ← number_in d
  owner ← slice_get rules.owners block
  if same_context owner context then Some block else None

-- 0, or 1 where the task has an inner ceiling
unfoldable pub inner_of : Bool → Data → Option Bool
inner_of has_inner d = do
  inner ← flag_in d
  if inner && not has_inner then None else Some inner

-- the active ISR
unfoldable pub isr_at : StateRules → List Data → Option (Option IsrAt)
isr_at rules [] = Some None
isr_at rules (only ∷ []) = None
isr_at rules (first ∷ second ∷ []) = do
  isr ← id_below rules.isrs first
  block ← block_of rules (Isr isr) second
  Some (Some (record { isr = isr; block = block }))
isr_at rules (first ∷ second ∷ third ∷ rest) = None
