-- Ranks of tasks, against those of the kernel.
use Rattle.std.specs.Prelude.{◌≡◌, ℕ, Bool, List, Option, None, option_map}
use Rattle.oil_model.specs.declared.system.System.{System}
use Rattle.osek_kernel.specs.declared.kernel.Active.{Active}
use Rattle.osek_kernel.specs.Running as kernels
use Rattle.scheduler_moves.specs.declared.running.TaskRank.{TaskRank}
use Rattle.scheduler_moves.specs.declared.running.RankedTask.{RankedTask}

abbrev pub is_preferred : TaskRank → TaskRank → Bool
is_preferred a b =
    kernels.is_preferred (record { current = a.current; raised = a.raised; own = a.own }) (record { current = b.current; raised = b.raised; own = b.own })

abbrev pub goes_before : TaskRank → TaskRank → Bool
goes_before a b =
    kernels.goes_before (record { current = a.current; raised = a.raised; own = a.own }) (record { current = b.current; raised = b.raised; own = b.own })

abbrev pub IsRankOf : System → ℕ → Active → TaskRank → Type 0
IsRankOf system task active r = kernels.rank_of system task active ≡ record { current = r.current; raised = r.raised; own = r.own }

abbrev pub IsCandidateOf : System → ℕ → Option Active → Option RankedTask → Type 0
IsCandidateOf system task state ranked =
    kernels.candidate_of system task state
    ≡ option_map (λ r. record { task = r.task; rank = record { current = r.rank.current; raised = r.rank.raised; own = r.rank.own } }) ranked

abbrev pub IsFirstOf : Option RankedTask → Option RankedTask → Option RankedTask → Type 0
IsFirstOf earlier later first =
    kernels.first_of
    (option_map (λ r. record { task = r.task; rank = record { current = r.rank.current; raised = r.rank.raised; own = r.rank.own } }) earlier)
    (option_map (λ r. record { task = r.task; rank = record { current = r.rank.current; raised = r.rank.raised; own = r.rank.own } }) later)
    ≡ option_map (λ r. record { task = r.task; rank = record { current = r.rank.current; raised = r.rank.raised; own = r.rank.own } }) first

-- the one first of all tasks
abbrev pub IsFirst : System → List (Option Active) → Option RankedTask → Type 0
IsFirst system states first =
    kernels.first_from system None 0 states
    ≡ option_map (λ r. record { task = r.task; rank = record { current = r.rank.current; raised = r.rank.raised; own = r.rank.own } }) first
