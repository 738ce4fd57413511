-- Which scheduler states a system can have.
use Rattle.std.specs.Prelude.{◌≡◌, ℕ, ◌^◌, ◌<◌, ◌≤◌, List, length, Bool, true, nat_eq, Some, IfSome, slice_get}
use Rattle.std.specs.List.{AllByRecursion}
use Rattle.listed.specs.Lists.{differ, AllFrom}
use Rattle.osek_kernel.specs.declared.context.Context.{Context}
use Rattle.osek_kernel.specs.declared.context.Context.TheVariants as contexts
use Rattle.abstract_sched.specs.declared.rules.StateRules.{StateRules}
use Rattle.abstract_sched.specs.declared.states.AbsState.{AbsState}
use Rattle.abstract_sched.specs.declared.states.IsrAt.{IsrAt}
use Rattle.abstract_sched.specs.declared.states.TaskAt.{TaskAt}
use Rattle.abstract_sched.specs.declared.states.TaskAt.TheVariants.{Suspended, At}
use Rattle.abstract_sched.specs.States.{same_state}

-- a number that a file of states can hold
abbrev pub IsId : ℕ → Type 0
IsId n = n < 2 ^ 32

-- the block is one of the context's
pub record IsBlockOf (rules : StateRules) (context : Context) (block : ℕ) : Type 0 where
  pub owner : slice_get rules.owners block ≡ Some context
  pub is_id : IsId block

-- an active task stands at a block of its own, its inner ceiling is in force only if it has one, and
-- it holds resources that exist, each once
pub record FitsAt (rules : StateRules) (task block : ℕ) (inner : Bool) (held : List ℕ) : Type 0 where
  pub at_block : IsBlockOf rules (contexts.Task task) block
  pub has_inner : inner ≡ true → slice_get rules.inner task ≡ Some true
  pub resources : AllByRecursion (λ id. (id < rules.resources) × IsId id) held
  pub once : differ nat_eq held ≡ true

abbrev pub FitsTask : StateRules → ℕ → TaskAt → Type 0
FitsTask rules task Suspended = Unit {0}
FitsTask rules task (At block inner held) = FitsAt rules task block inner held

pub record FitsIsr (rules : StateRules) (isr : IsrAt) : Type 0 where
  pub exists : isr.isr < rules.isrs
  pub is_id : IsId isr.isr
  pub at_block : IsBlockOf rules (contexts.Isr isr.isr) isr.block

-- the state fits the system
pub record FitsRules (rules : StateRules) (state : AbsState) : Type 0 where
  pub mode : (state.mode < rules.modes) × IsId state.mode
  pub count : length state.tasks ≡ length rules.inner
  pub tasks : AllFrom (FitsTask rules) 0 state.tasks
  pub isr : IfSome state.isr (FitsIsr rules)
  pub suspended : state.suspended ≤ 7

-- each state fits, and none stands twice
pub record AreLawful (rules : StateRules) (states : List AbsState) : Type 0 where
  pub fit : AllByRecursion (FitsRules rules) states
  pub once : differ same_state states ≡ true
