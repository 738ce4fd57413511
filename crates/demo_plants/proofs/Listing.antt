-- The state of each set of tasks is listed, and sets change as kernels and blocks do.
use Rattle.std.proofs.Common.{◌≡◌, ℕ, zero, suc, ◌+◌, ◌<◌, ◌≤◌, ◌==◌, Bool, true, false, List, [], ◌∷◌, ◌++◌, length, map, replicate, Option, Some, None, refl, sym, ap, ◌∙◌, subst, arith, All}
use Rattle.std.specs.Prelude.{filter, flat_map, slice_set, Contains, if◌then◌else◌}
use Rattle.std.specs.List.{range_with_len, AllByRecursion}
use Rattle.std.proofs.lemmas.Bool.{eq-eqb}
use Rattle.std.proofs.lemmas.List.Elements.{All-from_recursion, All-contains, Contains-append_left, Contains-append_right}
use Rattle.std.proofs.lemmas.List.Sums.{count_by-le-length}
use Rattle.osek_kernel.specs.declared.kernel.Active.{Active}
use Rattle.osek_kernel.specs.Kernel.{fresh}
use Rattle.abstract_sched.specs.declared.states.AbsState.{AbsState}
use Rattle.abstract_sched.specs.declared.states.TaskAt.{TaskAt}
use Rattle.abstract_sched.specs.declared.states.TaskAt.TheVariants.{Suspended, At}
use Rattle.abstract_sched.specs.States.{active_of, block_at}
use Rattle.scheduler_moves.specs.Composed as composing
use Rattle.shadow_runs.proofs.Members.{mapped_member, kept_member}
use Rattle.demo_gen.specs.Demo.{sets, size, sets_in_order, task_at, tasks_at, state_of, the_states}
use Rattle.demo_gen.proofs.Sets.{sized, each_map, each_weaker, ordered_have_length}

-- ---- Every set is listed

in_sets : (set : List Bool) → Contains (sets (length set)) set
in_sets [] = (0, omega arith, refl)
in_sets (true ∷ set) =
    Contains-append_left (map (λ s. true ∷ s) (sets (length set))) (map (λ s. false ∷ s) (sets (length set))) (true ∷ set)
    (mapped_member (λ s. true ∷ s) (sets (length set)) set (in_sets set))
in_sets (false ∷ set) =
    Contains-append_right (map (λ s. true ∷ s) (sets (length set))) (map (λ s. false ∷ s) (sets (length set))) (false ∷ set)
    (mapped_member (λ s. false ∷ s) (sets (length set)) set (in_sets set))

in_range : {A : Type 0} (f : ℕ → List A) (from count k : ℕ) (x : A) → k < count → Contains (f (from + k)) x → Contains (flat_map f (range_with_len from count)) x
in_range f from zero k x below has = absurd (omega arith)
in_range f from (suc count) zero x below has =
    Contains-append_left (f from) (flat_map f (range_with_len (from + 1) count)) x (subst (λ n. Contains (f n) x) (omega arith) has)
in_range f from (suc count) (suc k) x below has =
    Contains-append_right (f from) (flat_map f (range_with_len (from + 1) count)) x
    (in_range f (from + 1) count k x (omega arith) (subst (λ n. Contains (f n) x) (omega arith) has))

in_order : (set : List Bool) → Contains (sets_in_order (length set)) set
in_order set =
    let few : size set ≤ length set = count_by-le-length (λ active. active) set in
    let sized_one : Contains (sized (length set) (size set)) set =
    kept_member (λ s. size s == size set) (sets (length set)) set (eq-eqb (size set) (size set) refl) (in_sets set) in
    in_range (sized (length set)) 0 (suc (length set)) (size set) set (omega (arith, few)) (subst (λ n. Contains (sized (length set) n) set) (omega arith) sized_one)

pub listed : (count : ℕ) (set : List Bool) → length set ≡ count → Contains (the_states count) (state_of set)
listed count set is = subst (λ n. Contains (the_states n) (state_of set)) is (mapped_member state_of (sets_in_order (length set)) set (in_order set))

-- a set whose state it is
pub record HasSet (count : ℕ) (state : AbsState) : Type 0 where
  pub set : List Bool
  pub long : length set ≡ count
  pub is : state ≡ state_of set

pub has_set : (count : ℕ) (state : AbsState) → Contains (the_states count) state → HasSet count state
has_set count state has =
    All-contains (HasSet count) (the_states count) state
    (All-from_recursion (HasSet count) (the_states count)
    (each_map (HasSet count) state_of (sets_in_order count)
    (each_weaker (λ set. length set ≡ count) (λ set. HasSet count (state_of set)) (λ set is. record { set = set; long = is; is = refl }) (sets_in_order count) (ordered_have_length count))))
    has

-- ---- What the kernel has of a set, and the blocks

abbrev pub actives : ℕ → List Bool → List (Option Active)
actives number set = map active_of (tasks_at number set)

abbrev pub blocks : ℕ → List Bool → List (Option ℕ)
blocks number set = map block_at (tasks_at number set)

-- together they are the tasks of the set
pub composed_tasks : (number : ℕ) (set : List Bool) (more : List (Option ℕ)) → composing.tasks_at (actives number set) (blocks number set ++ more) ≡ tasks_at number set
composed_tasks number [] more = refl
composed_tasks number (true ∷ set) more = rw (composed_tasks (suc number) set more) refl
composed_tasks number (false ∷ set) more = rw (composed_tasks (suc number) set more) refl

-- a task that starts
pub started_tasks : (number : ℕ) (set : List Bool) (more : List (Option ℕ)) (k : ℕ) → k < length set
    → composing.tasks_at (slice_set (actives number set) k (Some fresh)) (slice_set (blocks number set ++ more) k (Some (number + k))) ≡ tasks_at number (slice_set set k true)
started_tasks number [] more k below = absurd (omega arith)
started_tasks number (first ∷ set) more zero below =
    let same : number + 0 ≡ number = omega arith in rw same (ap (λ rest. At number false [] ∷ rest) (composed_tasks (suc number) set more))
started_tasks number (true ∷ set) more (suc k) below =
    let same : number + suc k ≡ suc number + k = omega arith in rw (same, started_tasks (suc number) set more k (omega arith)) refl
started_tasks number (false ∷ set) more (suc k) below =
    let same : number + suc k ≡ suc number + k = omega arith in rw (same, started_tasks (suc number) set more k (omega arith)) refl

-- a task that ends
pub ended_tasks : (number : ℕ) (set : List Bool) (k : ℕ)
    → composing.tasks_at (slice_set (actives number set) k None) (slice_set (blocks number set ++ []) k None) ≡ tasks_at number (slice_set set k false)
ended_tasks number [] k = refl
ended_tasks number (first ∷ set) zero = ap (λ rest. Suspended ∷ rest) (composed_tasks (suc number) set [])
ended_tasks number (true ∷ set) (suc k) = rw (ended_tasks (suc number) set k) refl
ended_tasks number (false ∷ set) (suc k) = rw (ended_tasks (suc number) set k) refl

-- nothing is active at first
pub no_tasks : (count number : ℕ) (places : List (Option ℕ)) → length places ≡ count → composing.tasks_at (replicate count None) places ≡ tasks_at number (replicate count false)
no_tasks zero number places long = refl
no_tasks (suc count) number [] long = absurd (omega (arith, long))
no_tasks (suc count) number (place ∷ places) long = ap (λ rest. Suspended ∷ rest) (no_tasks count (suc number) places (omega (arith, long)))
