-- A generated system has a plant.
use Rattle.std.proofs.Common.{◌≡◌, ◌⊎◌, ℕ, zero, suc, ◌+◌, ◌-◌, ◌*◌, ◌%◌, ◌^◌, ◌<◌, ◌≤◌, Bool, true, false, List, [], ◌∷◌, ◌++◌, length, map, All, Option, Some, None, inl, inr, refl, sym, ap, ◌∙◌, subst, arith}
use Rattle.std.specs.Prelude.{slice_get, nat_eq, nat_lt, option_map, is_none, is_some, not, ◌&&◌, ◌||◌, ◌==◌}
use Rattle.std.specs.List.{list_all, AllByRecursion, position, position_or_len}
use Rattle.std.specs.List.Sorted.{IsStrictlySortedBy}
use Rattle.std.specs.Cmp.{nat_cmp_is}
use Rattle.std.specs.Cmp.Lexicographic.{slice_cmp}
use Rattle.std.specs.Ordering.{nat_cmp, ordering_then}
use Rattle.std.specs.declared.cmp.Ordering.{Ordering}
use Rattle.std.specs.declared.cmp.Ordering.TheVariants.{Less, Equal, Greater}
use Rattle.std.specs.Option.{option_map_or}
use Rattle.std.proofs.lemmas.Bool.{and_parts, cases_lt, eqb-true, lt-ltb, le-ltb, false≢true}
use Rattle.std.proofs.lemmas.List.Elements.{recursion_from_All}
use Rattle.std.proofs.lemmas.Option.{same_Some}
use Rattle.flow_graph.specs.declared.node.Node.{Node}
use Rattle.flow_graph.specs.Faults.{entry_in, is_entry, fault_of, Leads, IsNode, entry, along}
use Rattle.flow_graph.specs.Graph.{Program, node_cmp, entries_of}
use Rattle.demo_gen.specs.declared.task.DemoTask.{DemoTask}
use Rattle.demo_gen.specs.Draws.{base, size_of}
use Rattle.flow_graph.specs.Judging.{has_ticks, is_short, early_fault}
use Rattle.oil_model.specs.declared.system.System.{System}
use Rattle.demo_gen.specs.Demo.{system_alarm, the_image, the_system, the_timing}
use Rattle.demo_gen.specs.Working.Drawn.{IsTask, Follow, AreDrawn}
use Rattle.demo_plants.proofs.CodeOf.{at}
use Rattle.demo_plants.proofs.EntriesOf.{the_program, is_demo, entries_are}
use Rattle.demo_plants.proofs.NodesOf.{IsDemo, IsInTask, IsGood, good}

-- ---- The nodes that are reached

no_members : {A : Type 0} (xs : List A) → (length xs == 0) ≡ true → xs ≡ []
no_members [] is = refl
no_members (x ∷ xs) is = absurd (let none = eqb-true (suc (length xs)) 0 is in omega (arith, none))

begins_inside : (program : Program) (tasks : List DemoTask) (node : Node) → IsDemo program tasks → is_entry program node ≡ true → IsInTask tasks node
begins_inside program tasks node demo is =
    let parts = and_parts (length node.sites == 0) (option_map_or (nat_eq node.address) (entry_in program.entries node.context) false) is in
    by_task (slice_get tasks node.context) refl (no_members node.sites parts.0)
    (subst (λ o. option_map_or (nat_eq node.address) o false ≡ true) (demo.entries node.context) parts.1)
  where
    by_task : (o : Option DemoTask) → slice_get tasks node.context ≡ o → node.sites ≡ []
        → option_map_or (nat_eq node.address) (option_map (λ (task : DemoTask). task.entry) (slice_get tasks node.context)) false ≡ true → IsInTask tasks node
    by_task None there calls here =
        absurd (false≢true (subst (λ o. option_map_or (nat_eq node.address) (option_map (λ (task : DemoTask). task.entry) o) false ≡ true) there here))
    by_task (Some task) there calls here =
        let stands = subst (λ o. option_map_or (nat_eq node.address) (option_map (λ (task : DemoTask). task.entry) o) false ≡ true) there here in
        record {
          task = task;
          there = there;
          no_calls = calls;
          place = 0;
          below = omega arith;
          address_is = let same = eqb-true node.address task.entry stands in omega (arith, same);
        }

pub inside : (program : Program) (tasks : List DemoTask) (node : Node) → IsDemo program tasks → IsNode program node → IsInTask tasks node
inside program tasks node demo (entry _ is) = begins_inside program tasks node demo is
inside program tasks next demo (along node _ reached leads) =
    (good program tasks node demo (inside program tasks node demo reached)).stays leads.number leads.edge next leads.leaves leads.arrives

-- ---- They are few

less_first : (a b : ℕ) (rest : Ordering) → ordering_then (nat_cmp a b) rest ≡ Less → (a < b) ⊎ ((a ≡ b) × (rest ≡ Less))
less_first a b rest is = elim (cases_lt a b) [
  | inl below ↦ inl below
  | inr le ↦ elim (cases_lt b a) [
    | inl above ↦ absurd (let greater : Greater ≡ Less = ap (λ o. ordering_then o rest) (nat_cmp_is a b Greater above) ∙ is in no_greater greater)
    | inr ge ↦ let same : a ≡ b = omega (arith, le, ge) in inr (same, ap (λ o. ordering_then o rest) (nat_cmp_is a b Equal same) ∙ is)
  ]
]
  where
    no_greater : Greater ≡ Less → ⊥
    no_greater is' = absurd cc

later_entry : (from start : ℕ) (tasks : List DemoTask) (k : ℕ) (task : DemoTask) → Follow from start tasks → slice_get tasks k ≡ Some task → start ≤ task.entry
later_entry from start [] k task follow there = absurd cc
later_entry from start (first ∷ tasks) zero task follow there =
    let is : first ≡ task = same_Some first task there in subst (λ (t : DemoTask). start ≤ t.entry) is (omega (arith, follow.0.entry_is))
later_entry from start (first ∷ tasks) (suc k) task follow there =
    let later = later_entry (from + 1) (start + 4 * size_of first.steps) tasks k task follow.1 there in omega (arith, later)

pub tasks_apart : (from start : ℕ) (tasks : List DemoTask) (i j : ℕ) (a b : DemoTask) → Follow from start tasks → slice_get tasks i ≡ Some a → slice_get tasks j ≡ Some b → i < j
    → a.entry + 4 * (a.steps + 6) ≤ b.entry
tasks_apart from start [] i j a b follow there there' below = absurd cc
tasks_apart from start (first ∷ tasks) i zero a b follow there there' below = absurd (omega arith)
tasks_apart from start (first ∷ tasks) zero (suc j) a b follow there there' below =
    let is : first ≡ a = same_Some first a there in
    let later = later_entry (from + 1) (start + 4 * size_of first.steps) tasks j b follow.1 there' in
    subst (λ (t : DemoTask). t.entry + 4 * (t.steps + 6) ≤ b.entry) is (omega (arith, follow.0.entry_is, later))
tasks_apart from start (first ∷ tasks) (suc i) (suc j) a b follow there there' below =
    tasks_apart (from + 1) (start + 4 * size_of first.steps) tasks i j a b follow.1 there there' (omega arith)

-- nodes in their order have ascending addresses
ascends : (tasks : List DemoTask) (x y : Node) → AreDrawn tasks → IsInTask tasks x → IsInTask tasks y → node_cmp x y ≡ Less → x.address < y.address
ascends tasks x y drawn in_x in_y is = elim (less_first x.context y.context (ordering_then (slice_cmp nat_cmp x.sites y.sites) (nat_cmp x.address y.address)) is) [
  | inl below ↦ let apart = tasks_apart 0 base tasks x.context y.context in_x.task in_y.task drawn.follow in_x.there in_y.there below in
      omega (arith, apart, in_x.address_is, in_x.below, in_y.address_is)
  | inr here ↦ let only : nat_cmp x.address y.address ≡ Less = rw (in_x.no_calls, in_y.no_calls) at here.1 in
      elim (less_first x.address y.address Equal (ap (λ o. ordering_then o Equal) only)) [
        | inl below ↦ below
        | inr same ↦ absurd (no_equal same.1)
      ]
]
  where
    no_equal : Equal ≡ Less → ⊥
    no_equal is' = absurd cc

each_pair : {A : Type 0} (P Q R : A → Type 0) → ((x : A) → P x → Q x → R x) → (xs : List A) → AllByRecursion P xs → AllByRecursion Q xs → AllByRecursion R xs
each_pair P Q R both [] ps qs = tt
each_pair P Q R both (x ∷ xs) ps qs = (both x ps.0 qs.0, each_pair P Q R both xs ps.1 qs.1)

pub few_from : (program : Program) (tasks : List DemoTask) (low : ℕ) (nodes : List Node) → IsDemo program tasks → AreDrawn tasks → low ≤ 0x1340 → IsStrictlySortedBy node_cmp nodes
    → AllByRecursion (IsInTask tasks) nodes → AllByRecursion (λ (node : Node). low ≤ node.address) nodes → low + length nodes ≤ 0x1340
unfolding IsStrictlySortedBy
few_from program tasks low [] demo drawn start sorted within above = omega arith
few_from program tasks low (x ∷ nodes) demo drawn start sorted within above =
    let in_x = within.0 in
    let high = (demo.placed x.context in_x.task in_x.there).high in
    let later = each_pair (IsInTask tasks) (λ y. node_cmp x y ≡ Less) (λ y. x.address + 1 ≤ y.address)
    (λ y in_y is. let less = ascends tasks x y drawn in_x in_y is in omega (arith, less)) nodes within.1 sorted.0 in
    let rest = few_from program tasks (x.address + 1) nodes demo drawn (omega (arith, in_x.address_is, in_x.below, high)) sorted.1 within.1 later in
    omega (arith, rest, above.0)

-- ---- Nothing is wrong before any node

all_tick : (whole tasks : List DemoTask) → list_all (has_ticks (the_system whole) (the_timing whole)) (map system_alarm tasks) ≡ true
all_tick whole [] = refl
all_tick whole (task ∷ tasks) = rw (all_tick whole tasks) (or_then (nat_lt 0 task.cycle))
  where
    or_then : (b : Bool) → ((not b || true) && true) ≡ true
    or_then true = refl
    or_then false = refl

all_short : (whole : List DemoTask) (from start : ℕ) (tasks : List DemoTask) → Follow from start tasks → list_all (is_short (the_system whole) (the_timing whole)) (map system_alarm tasks) ≡ true
all_short whole from start [] follow = refl
all_short whole from start (task ∷ tasks) follow =
    let short : nat_lt 2147483647 (task.cycle * 1) ≡ false = le-ltb 2147483647 (task.cycle * 1) (omega (arith, follow.0.cycle)) in
    rw (short, all_short whole (from + 1) (start + 4 * size_of task.steps) tasks follow.1) refl

none_missing : (tasks : List DemoTask) → position is_none (map (λ (task : DemoTask). Some task.entry) tasks) ≡ None
none_missing tasks =
    let past : nat_lt (position_or_len is_none (map (λ (task : DemoTask). Some task.entry) tasks)) (length (map (λ (task : DemoTask). Some task.entry) tasks)) ≡ false =
    le-ltb _ _ (omega (arith, whole tasks)) in
    rw past refl
  where
    whole : (ts : List DemoTask) → position_or_len is_none (map (λ (task : DemoTask). Some task.entry) ts) ≡ length (map (λ (task : DemoTask). Some task.entry) ts)
    whole [] = refl
    whole (task ∷ ts) = let more : 1 + length (map (λ (task : DemoTask). Some task.entry) ts) ≡ suc (length (map (λ (task : DemoTask). Some task.entry) ts)) = omega arith in
        rw (whole ts) more

pub no_early : (tasks : List DemoTask) → AreDrawn tasks → early_fault (the_system tasks) (the_timing tasks) (entries_of (the_image tasks) (the_system tasks)) ≡ None
no_early tasks drawn =
    rw (entries_are tasks drawn, all_tick tasks tasks, none_missing tasks, all_short tasks 0 base tasks drawn.follow) refl
