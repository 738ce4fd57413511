-- Scheduler states: a kernel and, for each active context, a block of its code.
use Rattle.std.specs.Prelude.{◌≡◌, ℕ, Bool, true, false, ◌&&◌, nat_eq, List, [], ◌∷◌, ◌++◌, map, replicate, slice_set, Option, Some, None, option_map, refl}
use Rattle.std.specs.Bool.{beq}
use Rattle.std.specs.Option.{option_eq}
use Rattle.std.specs.Cmp.Lexicographic.{pointwise}
use Rattle.osek_kernel.specs.declared.kernel.Active.{Active}
use Rattle.osek_kernel.specs.declared.kernel.Kernel.{Kernel}
use Rattle.abstract_sched.specs.declared.states.AbsState.{AbsState}
use Rattle.abstract_sched.specs.declared.states.IsrAt.{IsrAt}
use Rattle.abstract_sched.specs.declared.states.TaskAt.{TaskAt}
use Rattle.abstract_sched.specs.declared.states.TaskAt.TheVariants.{Suspended, At}

-- ---- the kernel, and the positions

abbrev pub active_of : TaskAt → Option Active
active_of Suspended = None
active_of (At block inner held) = Some (record { inner = inner; held = held })

abbrev pub kernel_of : AbsState → Kernel
kernel_of state = record {
  mode = state.mode;
  tasks = map active_of state.tasks;
  isr = option_map (λ at. at.isr) state.isr;
  disabled = state.disabled;
  suspended = state.suspended;
}

abbrev pub block_at : TaskAt → Option ℕ
block_at Suspended = None
block_at (At block inner held) = Some block

-- among so many ISRs
abbrev pub isr_blocks : ℕ → Option IsrAt → List (Option ℕ)
isr_blocks count None = replicate count None
isr_blocks count (Some at) = slice_set (replicate count None) at.isr (Some at.block)

-- the block of each context, tasks by id and then so many ISRs by id
abbrev pub positions_of : ℕ → AbsState → List (Option ℕ)
positions_of isrs state = map block_at state.tasks ++ isr_blocks isrs state.isr

-- ---- sameness, as it is tested

abbrev pub same_isr : IsrAt → IsrAt → Bool
same_isr a b = nat_eq a.isr b.isr && nat_eq a.block b.block

abbrev pub same_task : TaskAt → TaskAt → Bool
same_task Suspended Suspended = true
same_task Suspended (At block inner held) = false
same_task (At block inner held) Suspended = false
same_task (At block inner held) (At block' inner' held') = nat_eq block block' && (beq inner inner' && pointwise nat_eq held held')

-- true exactly where the states are equal
abbrev pub same_state : AbsState → AbsState → Bool
same_state a b = nat_eq a.mode b.mode && (pointwise same_task a.tasks b.tasks
    && (option_eq same_isr a.isr b.isr && (beq a.disabled b.disabled && nat_eq a.suspended b.suspended)))

-- ---- a worked case: a suspended task, and one that holds resource 1 while ISR 0 of two is active

interrupted : AbsState
interrupted = record {
  mode = 0;
  tasks = Suspended ∷ At 3 true (1 ∷ []) ∷ [];
  isr = Some (record { isr = 0; block = 5 });
  disabled = false;
  suspended = 0;
}

its_kernel : kernel_of interrupted ≡ record {
  mode = 0;
  tasks = None ∷ Some (record { inner = true; held = 1 ∷ [] }) ∷ [];
  isr = Some 0;
  disabled = false;
  suspended = 0;
}
unfolding interrupted
its_kernel = refl

its_positions : positions_of 2 interrupted ≡ None ∷ Some 3 ∷ Some 5 ∷ None ∷ []
unfolding interrupted
its_positions = refl
