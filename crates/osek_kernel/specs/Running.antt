-- Which context runs, and how it is dispatched.
use Rattle.std.specs.Prelude.{ℕ, is_some, ◌+◌, nat_lt, ◌==◌, not, ◌&&◌, ◌||◌, Bool, true, false, List, [], ◌∷◌, fold, max, Option, Some, None, option_map, unwrap_or, slice_get, if◌then◌else◌}
use Rattle.std.specs.Option.{option_map_or}
use Rattle.oil_model.specs.declared.system.System.{System}
use Rattle.osek_kernel.specs.declared.context.Context.{Context}
use Rattle.osek_kernel.specs.declared.context.Context.TheVariants as contexts
use Rattle.osek_kernel.specs.declared.kernel.Active.{Active}
use Rattle.osek_kernel.specs.declared.kernel.Kernel.{Kernel}
use Rattle.osek_kernel.specs.declared.running.Rank.{Rank}
use Rattle.osek_kernel.specs.declared.running.Candidate.{Candidate}
use Rattle.osek_kernel.specs.Kernel.{with_inner, change_task}

-- ---- priorities

abbrev pub own_priority : System → ℕ → ℕ
own_priority system task = option_map_or (λ t. t.priority) (slice_get system.tasks task) 0

abbrev pub ceiling_of : System → ℕ → ℕ
ceiling_of system resource = option_map_or (λ r. r.ceiling) (slice_get system.resources resource) 0

-- none where the task has no inner ceiling
abbrev pub inner_ceiling : System → ℕ → Option ℕ
inner_ceiling system task = option_map_or (λ t. t.inner) (slice_get system.tasks task) None

abbrev pub base_priority : System → ℕ → Bool → ℕ
base_priority system task inner =
    let own = own_priority system task in
    if inner then max own (unwrap_or (inner_ceiling system task) 0) else own

abbrev pub raised_by : System → ℕ → List ℕ → ℕ
raised_by system base held = fold (λ top r. max top (ceiling_of system r)) base held

-- the greatest of the own priority, of the inner ceiling where it is in force, and of the ceilings of what is held
abbrev pub current_priority : System → ℕ → Active → ℕ
current_priority system task active = raised_by system (base_priority system task active.inner) active.held

-- ---- who goes first

abbrev pub is_empty : List ℕ → Bool
is_empty [] = true
is_empty (x ∷ xs) = false

-- raised: the task holds a resource, or its inner ceiling is in force
abbrev pub rank_of : System → ℕ → Active → Rank
rank_of system task active = record {
  current = current_priority system task active;
  raised = active.inner || not (is_empty active.held);
  own = own_priority system task;
}

-- Of two tasks of one current priority the raised one goes on: it runs already, and equals don't preempt.
abbrev pub is_preferred : Rank → Rank → Bool
is_preferred a b = if a.raised then (not b.raised || nat_lt b.own a.own) else (not b.raised && nat_lt b.own a.own)

abbrev pub goes_before : Rank → Rank → Bool
goes_before a b = nat_lt b.current a.current || (a.current == b.current && is_preferred a b)

abbrev pub candidate_of : System → ℕ → Option Active → Option Candidate
candidate_of system task state = option_map (λ active. record { task = task; rank = rank_of system task active }) state

-- the one that goes first: the earlier one, unless the later one goes before it
abbrev pub first_of : Option Candidate → Option Candidate → Option Candidate
first_of None later = later
first_of (Some earlier) None = Some earlier
first_of (Some earlier) (Some later) = if goes_before later.rank earlier.rank then Some later else Some earlier

-- the one that goes first of an earlier one and the tasks from an id on
abbrev pub first_from : System → Option Candidate → ℕ → List (Option Active) → Option Candidate
first_from system earlier task [] = earlier
first_from system earlier task (state ∷ states) = first_from system (first_of earlier (candidate_of system task state)) (task + 1) states

-- the active task that goes first
abbrev pub running_task : System → List (Option Active) → Option Context
running_task system states = option_map (λ c. contexts.Task c.task) (first_from system None 0 states)

-- ---- the running context, and dispatching

abbrev pub running_beside : Option ℕ → Option Context → Option Context
running_beside (Some i) task = Some (contexts.Isr i)
running_beside None task = task

-- the active ISR, else the active task that goes first; none where no context is active
abbrev pub runs : System → Kernel → Option Context
runs system kernel = running_beside kernel.isr (running_task system kernel.tasks)

-- the inner ceiling of the running task comes into force, where it has one
abbrev pub raise : System → Kernel → Option Context → Kernel
raise system kernel (Some (contexts.Task t)) = if is_some (inner_ceiling system t) then change_task (with_inner true) kernel t else kernel
raise system kernel _ = kernel

abbrev pub dispatched : System → Kernel → Kernel
dispatched system kernel = raise system kernel (runs system kernel)
