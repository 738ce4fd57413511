-- Which columns the rows of a task have.
use Rattle.std.proofs.Common.{◌≡◌, ℕ, suc, zero, ◌+◌, ◌<◌, Bool, true, false, cond, List, [], ◌∷◌, ◌++◌, Contains, length, map, filter, Some, refl, sym, ◌∙◌, ap, subst, arith}
use Rattle.std.specs.Prelude.{◌||◌, not, slice_get}
use Rattle.std.specs.List.{list_any, range_with_len}
use Rattle.std.proofs.lemmas.List.Elements.{Contains-append_left, Contains-append_right}
use Rattle.std.proofs.lemmas.Option.{none-some, same_Some}
use Rattle.osek_kernel.specs.declared.context.Context.TheVariants as contexts
use Rattle.flow_graph.specs.declared.edge.Edge.{Edge}
use Rattle.wcet_atomic_blocks.specs.Blocks.{edges_at, is_service}
use Rattle.wcet_atomic_blocks.specs.Plants.{PlantData}
use Rattle.abstract_sched.specs.declared.states.AbsState.{AbsState}
use Rattle.scheduler_moves.specs.Moves.{initial}
use Rattle.shadow_runs.proofs.Members.{first_member, later_member, member_cases, kept_member, mapped_member, range_member}
use Rattle.row_build.specs.Columns.{Start, In, By, Going, Along, Column, Starts, Moves, Goes, Begins, Stands, starts, goings, alongs, alongs_at, begun_blocks, positions, columns, activates, is_active_in, is_own_entry, is_position}
use Rattle.activation_windows.proofs.Moving.{flat_member}

-- ---- The parts of the columns

moves_of : PlantData → List AbsState → ℕ → List Going
moves_of plant states task = filter (λ going. is_active_in going.from (contexts.Task task)) (goings plant states)

among_starts : (plant : PlantData) (states : List AbsState) (task : ℕ) (start : Start) → Contains (starts plant states task) start
    → Contains (columns plant states task) (Starts start)
unfolding moves_of
among_starts plant states task start has =
    Contains-append_left (map Starts (starts plant states task))
    (map Moves (moves_of plant states task) ++ (map Goes (alongs plant) ++ (map Begins (begun_blocks plant task) ++ map Stands (positions plant states task))))
    (Starts start) (mapped_member Starts (starts plant states task) start has)

among_moves : (plant : PlantData) (states : List AbsState) (task : ℕ) (going : Going) → Contains (moves_of plant states task) going
    → Contains (columns plant states task) (Moves going)
unfolding moves_of
among_moves plant states task going has =
    Contains-append_right (map Starts (starts plant states task))
    (map Moves (moves_of plant states task) ++ (map Goes (alongs plant) ++ (map Begins (begun_blocks plant task) ++ map Stands (positions plant states task))))
    (Moves going)
    (Contains-append_left (map Moves (moves_of plant states task))
    (map Goes (alongs plant) ++ (map Begins (begun_blocks plant task) ++ map Stands (positions plant states task)))
    (Moves going) (mapped_member Moves (moves_of plant states task) going has))

behind_moves : (plant : PlantData) (states : List AbsState) (task : ℕ) (column : Column)
    → Contains (map Goes (alongs plant) ++ (map Begins (begun_blocks plant task) ++ map Stands (positions plant states task))) column
    → Contains (columns plant states task) column
unfolding moves_of
behind_moves plant states task column has =
    Contains-append_right (map Starts (starts plant states task))
    (map Moves (moves_of plant states task) ++ (map Goes (alongs plant) ++ (map Begins (begun_blocks plant task) ++ map Stands (positions plant states task))))
    column
    (Contains-append_right (map Moves (moves_of plant states task))
    (map Goes (alongs plant) ++ (map Begins (begun_blocks plant task) ++ map Stands (positions plant states task))) column has)

pub goes_listed : (plant : PlantData) (states : List AbsState) (task : ℕ) (along : Along) → Contains (alongs plant) along
    → Contains (columns plant states task) (Goes along)
goes_listed plant states task along has = behind_moves plant states task (Goes along)
    (Contains-append_left (map Goes (alongs plant)) (map Begins (begun_blocks plant task) ++ map Stands (positions plant states task)) (Goes along)
    (mapped_member Goes (alongs plant) along has))

-- ---- Starts and moves

pub start_in_listed : (plant : PlantData) (states : List AbsState) (task mode : ℕ) → mode < length plant.system.modes
    → is_active_in (initial plant mode) (contexts.Task task) ≡ true
    → Contains (starts plant states task) (In mode)
start_in_listed plant states task mode within active =
    let some : List ℕ = filter (λ m. is_active_in (initial plant m) (contexts.Task task)) (range_with_len 0 (length plant.system.modes)) in
    Contains-append_left (map In some) (map By (filter (activates plant (contexts.Task task)) (goings plant states))) (In mode)
    (mapped_member In some mode
    (kept_member (λ m. is_active_in (initial plant m) (contexts.Task task)) (range_with_len 0 (length plant.system.modes)) mode active
    (range_member (length plant.system.modes) mode within)))

pub start_by_listed : (plant : PlantData) (states : List AbsState) (task : ℕ) (going : Going) → Contains (goings plant states) going
    → activates plant (contexts.Task task) going ≡ true
    → Contains (starts plant states task) (By going)
start_by_listed plant states task going has starts_it =
    let some : List ℕ = filter (λ m. is_active_in (initial plant m) (contexts.Task task)) (range_with_len 0 (length plant.system.modes)) in
    Contains-append_right (map In some) (map By (filter (activates plant (contexts.Task task)) (goings plant states))) (By going)
    (mapped_member By (filter (activates plant (contexts.Task task)) (goings plant states)) going
    (kept_member (activates plant (contexts.Task task)) (goings plant states) going starts_it has))

pub starts_listed : (plant : PlantData) (states : List AbsState) (task : ℕ) (start : Start) → Contains (starts plant states task) start
    → Contains (columns plant states task) (Starts start)
starts_listed plant states task start has = among_starts plant states task start has

pub moves_listed : (plant : PlantData) (states : List AbsState) (task : ℕ) (going : Going) → Contains (goings plant states) going
    → is_active_in going.from (contexts.Task task) ≡ true → Contains (columns plant states task) (Moves going)
unfolding moves_of
moves_listed plant states task going has active = among_moves plant states task going
    (kept_member (λ g. is_active_in g.from (contexts.Task task)) (goings plant states) going active has)

-- ---- Edges

edge_member : (node first place number : ℕ) (edges : List (Edge ℕ)) (edge : Edge ℕ) → slice_get edges place ≡ Some edge → number ≡ first + place
    → Contains (alongs_at node first edges) (record { node = node; place = number; edge = edge })
edge_member node first place number [] edge at is = absurd (none-some edge at)
edge_member node first zero number (e ∷ es) edge at is =
    let same : number ≡ first = omega arith in
    subst (λ (n : ℕ). Contains (alongs_at node first (e ∷ es)) (record { node = node; place = n; edge = edge })) (sym same)
    (subst (λ (g : Edge ℕ). Contains (alongs_at node first (e ∷ es)) (record { node = node; place = first; edge = g })) (same_Some e edge at)
    (first_member (record { node = node; place = first; edge = e }) (alongs_at node (suc first) es)))
edge_member node first (suc place) number (e ∷ es) edge at is =
    later_member (record { node = node; place = number; edge = edge }) (record { node = node; place = first; edge = e }) (alongs_at node (suc first) es)
    (edge_member node (suc first) place number es edge at (omega arith))

pub along_member : (plant : PlantData) (node place : ℕ) (edge : Edge ℕ) → node < length plant.flow.nodes → is_service plant.flow node ≡ false
    → slice_get (edges_at plant.flow node) place ≡ Some edge → Contains (alongs plant) (record { node = node; place = place; edge = edge })
along_member plant node place edge within instruction at =
    flat_member (λ n. cond (is_service plant.flow n) [] (alongs_at n 0 (edges_at plant.flow n))) (range_with_len 0 (length plant.flow.nodes)) node
    (record { node = node; place = place; edge = edge }) (range_member (length plant.flow.nodes) node within)
    (subst (λ (b : Bool). Contains (cond b [] (alongs_at node 0 (edges_at plant.flow node))) (record { node = node; place = place; edge = edge }))
    (sym instruction)
    (edge_member node 0 place place (edges_at plant.flow node) edge at (omega arith)))

-- ---- Visits

pub begins_listed : (plant : PlantData) (states : List AbsState) (task block : ℕ) → block < length plant.blocks.blocks
    → is_own_entry plant task block ≡ false → Contains (columns plant states task) (Begins block)
begins_listed plant states task block within other =
    behind_moves plant states task (Begins block)
    (Contains-append_right (map Goes (alongs plant)) (map Begins (begun_blocks plant task) ++ map Stands (positions plant states task)) (Begins block)
    (Contains-append_left (map Begins (begun_blocks plant task)) (map Stands (positions plant states task)) (Begins block)
    (mapped_member Begins (begun_blocks plant task) block
    (kept_member (λ b. not (is_own_entry plant task b)) (range_with_len 0 (length plant.blocks.blocks)) block (ap not other)
    (range_member (length plant.blocks.blocks) block within)))))

pub stands_listed : (plant : PlantData) (states : List AbsState) (task node : ℕ) → node < length plant.flow.nodes
    → is_position plant (starts plant states task) task node ≡ true → Contains (columns plant states task) (Stands node)
stands_listed plant states task node within is =
    behind_moves plant states task (Stands node)
    (Contains-append_right (map Goes (alongs plant)) (map Begins (begun_blocks plant task) ++ map Stands (positions plant states task)) (Stands node)
    (Contains-append_right (map Begins (begun_blocks plant task)) (map Stands (positions plant states task)) (Stands node)
    (mapped_member Stands (positions plant states task) node
    (kept_member (is_position plant (starts plant states task) task) (range_with_len 0 (length plant.flow.nodes)) node is
    (range_member (length plant.flow.nodes) node within)))))

pub any_member : {A : Type 0} (p : A → Bool) (xs : List A) (x : A) → Contains xs x → p x ≡ true → list_any p xs ≡ true
any_member p [] x has is = absurd (let inside = has.1 in omega arith)
any_member {A} p (y ∷ ys) x has is = member_cases x y ys has
    (λ same. ap (λ b. b || list_any p ys) (ap p same ∙ is))
    (λ other. ap (λ b. p y || b) (any_member p ys x other is) ∙ or_true (p y))
  where
    or_true : (b : Bool) → (b || true) ≡ true
    or_true true = refl
    or_true false = refl
