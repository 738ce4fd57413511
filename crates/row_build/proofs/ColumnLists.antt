-- Columns of edges, one after another, and the lists of all columns.
use Rattle.std.proofs.Common.{◌≡◌, ℕ, suc, ◌+◌, ◌<◌, List, [], ◌∷◌, ◌++◌, length, map, take, get_or, refl, sym, ap, ◌∙◌, append-nil, arith, Bool, true, false, ℤ, pos}
use Rattle.std.specs.Prelude.{filter}
use Rattle.std.specs.List.{flat_map, list_any, range_with_len}
use Rattle.osek_kernel.specs.Contexts.{context_at, context_count}
use Rattle.row_build.specs.Families as families
use Rattle.row_build.specs.Rows.{rows_of}
use Rattle.row_build.specs.Working.Pushed.{with_rows}
use Rattle.whole_rows.specs.Rows.{RowsData}
use Rattle.std.proofs.lemmas.List.Elements.{All-nil, All-cons, All-append}
use Rattle.wcet_atomic_blocks.proofs.BeginLists.{filter_counts}
use Rattle.std.proofs.lemmas.List.{map-append, take_more, length-take-le}
use Rattle.flow_graph.specs.declared.edge.Edge.{Edge}
use Rattle.osek_kernel.specs.declared.context.Context.TheVariants as contexts
use Rattle.wcet_atomic_blocks.specs.Plants.{PlantData}
use Rattle.abstract_sched.specs.declared.states.AbsState.{AbsState}
use Rattle.row_build.specs.declared.numbered.NumberedColumn.{NumberedColumn}
use Rattle.row_build.specs.Columns as words
use Rattle.row_build.specs.Working.Growing.{Adds, Stand}
use Rattle.row_build.specs.Working.Numbered.{ArePositions, IsColumn, column_of}
use Rattle.row_build.proofs.Growing.{adds_both, stand_from}

appended : (node place : ℕ) (edges : List (Edge ℕ)) (edge : Edge ℕ) (j : ℕ) → place + length edges ≡ j
    → words.alongs_at node place (edges ++ edge ∷ []) ≡ words.alongs_at node place edges ++ record { node = node; place = j; edge = edge } ∷ []
appended node place [] edge j at = let e : place ≡ j = omega (arith, at) in ap (λ p. record { node = node; place = p; edge = edge } ∷ []) e
appended node place (first ∷ edges) edge j at =
    ap (λ rest. record { node = node; place = place; edge = first } ∷ rest) (appended node (suc place) edges edge j (omega (arith, at)))

-- the columns of one more edge
pub alongs_more : (node i : ℕ) (edges : List (Edge ℕ)) (d : Edge ℕ) → i < length edges
    → map words.Goes (words.alongs_at node 0 (take (i + 1) edges))
    ≡ map words.Goes (words.alongs_at node 0 (take i edges)) ++ words.Goes (record { node = node; place = i; edge = get_or edges i d }) ∷ []
alongs_more node i edges d within =
    let count : length (take i edges) ≡ i = length-take-le i edges (omega (arith, within)) in
    ap (λ es. map words.Goes (words.alongs_at node 0 es)) (take_more edges i d within)
    ∙ ap (map words.Goes) (appended node 0 (take i edges) (get_or edges i d) i (omega (arith, count)))
    ∙ map-append words.Goes (words.alongs_at node 0 (take i edges)) (record { node = node; place = i; edge = get_or edges i d } ∷ [])

-- five parts, one after another
pub five_parts : {N P : Type 0} (f : N → P) (S : N → Type 0) (xs₀ xs₁ xs₂ xs₃ xs₄ xs₅ : List N) (a b c d e : List P) → xs₀ ≡ []
    → Adds f S xs₀ xs₁ a → Adds f S xs₁ xs₂ b → Adds f S xs₂ xs₃ c → Adds f S xs₃ xs₄ d → Adds f S xs₄ xs₅ e
    → Stand f S xs₅ (a ++ (b ++ (c ++ (d ++ e))))
five_parts f S xs₀ xs₁ xs₂ xs₃ xs₄ xs₅ a b c d e none first second third fourth fifth =
    stand_from f S xs₀ xs₅ (a ++ (b ++ (c ++ (d ++ e)))) none
    (adds_both f S xs₀ xs₁ xs₅ a (b ++ (c ++ (d ++ e))) first
    (adds_both f S xs₁ xs₂ xs₅ b (c ++ (d ++ e)) second
    (adds_both f S xs₂ xs₃ xs₅ c (d ++ e) third
    (adds_both f S xs₃ xs₄ xs₅ d e fourth fifth))))

pub all_columns : (plant : PlantData) (states : List AbsState) (task : ℕ) (begins : List words.Start) (gs : List words.Going) (nodes : List ℕ) (found : List NumberedColumn)
    → begins ≡ words.starts plant states task → gs ≡ words.goings plant states → nodes ≡ words.positions plant states task
    → Stand (column_of states) (IsColumn plant states) found
    (map words.Starts begins
    ++ (map words.Moves (filter (λ going. words.is_active_in going.from (contexts.Task task)) gs)
    ++ (map words.Goes (words.alongs plant)
    ++ (map words.Begins (words.begun_blocks plant task)
    ++ map words.Stands nodes))))
    → Stand (column_of states) (IsColumn plant states) found (words.columns plant states task)
all_columns plant states task begins gs nodes found e e' e'' stand = record { shows = stand.shows ∙ rw (e, e', e'') refl; sound = stand.sound }

-- ---- Start positions, one after another

pub positions_pushed : (plant : PlantData) (test : ℕ → Bool) (n : ℕ) (nodes nodes' : List ℕ) → ArePositions plant nodes (filter test (range_with_len 0 n))
    → test n ≡ true → n < length plant.flow.nodes → nodes' ≡ nodes ++ n ∷ [] → ArePositions plant nodes' (filter test (range_with_len 0 (n + 1)))
positions_pushed plant test n nodes nodes' were passes within pushed = record {
  are = pushed ∙ ap (λ ns. ns ++ n ∷ []) were.are ∙ sym (rw (filter_counts test n, passes) refl);
  exist = rw pushed (All-append (λ node. node < length plant.flow.nodes) nodes (n ∷ []) were.exist (All-cons (λ node. node < length plant.flow.nodes) n [] within (All-nil (λ node. node < length plant.flow.nodes))));
}

pub positions_kept : (plant : PlantData) (test : ℕ → Bool) (n : ℕ) (nodes nodes' : List ℕ) → ArePositions plant nodes (filter test (range_with_len 0 n))
    → test n ≡ false → nodes' ≡ nodes → ArePositions plant nodes' (filter test (range_with_len 0 (n + 1)))
positions_kept plant test n nodes nodes' were fails kept = record {
  are = kept ∙ were.are ∙ sym (rw (filter_counts test n, fails) (append-nil (filter test (range_with_len 0 n))));
  exist = rw kept were.exist;
}

-- ---- The rows of all families

pub standing_is : (plant : PlantData) (states : List AbsState) (task : ℕ) (nodes : List ℕ) → nodes ≡ words.positions plant states task
    → flat_map (families.standing_at plant task) nodes
    ++ map (families.stands_once plant) (filter (λ context. list_any (families.is_owned plant context) nodes) (map (context_at plant.system) (range_with_len 0 (context_count plant.system))))
    ≡ families.standing plant states task
standing_is plant states task nodes e = rw e refl

-- seven parts, one after another
pub seven_parts : {N P : Type 0} (f : N → P) (S : N → Type 0) (xs₀ xs₁ xs₂ xs₃ xs₄ xs₅ xs₆ xs₇ : List N) (a b c d e g h : List P) → xs₀ ≡ []
    → Adds f S xs₀ xs₁ a → Adds f S xs₁ xs₂ b → Adds f S xs₂ xs₃ c → Adds f S xs₃ xs₄ d → Adds f S xs₄ xs₅ e → Adds f S xs₅ xs₆ g → Adds f S xs₆ xs₇ h
    → Stand f S xs₇ (a ++ (b ++ (c ++ (d ++ (e ++ (g ++ h))))))
seven_parts f S xs₀ xs₁ xs₂ xs₃ xs₄ xs₅ xs₆ xs₇ a b c d e g h none first second third fourth fifth sixth seventh =
    stand_from f S xs₀ xs₇ (a ++ (b ++ (c ++ (d ++ (e ++ (g ++ h)))))) none
    (adds_both f S xs₀ xs₁ xs₇ a (b ++ (c ++ (d ++ (e ++ (g ++ h))))) first
    (adds_both f S xs₁ xs₂ xs₇ b (c ++ (d ++ (e ++ (g ++ h)))) second
    (adds_both f S xs₂ xs₃ xs₇ c (d ++ (e ++ (g ++ h))) third
    (adds_both f S xs₃ xs₄ xs₇ d (e ++ (g ++ h)) fourth
    (adds_both f S xs₄ xs₅ xs₇ e (g ++ h) fifth
    (adds_both f S xs₅ xs₆ xs₇ g h sixth seventh))))))

-- rows that were added to none, over the columns and their costs
pub rows_are : (plant : PlantData) (states : List AbsState) (task : ℕ) (cs : List words.Column) (rs : List families.Row) (costs : List ℤ) (made new : RowsData)
    → cs ≡ words.columns plant states task → rs ≡ families.rows plant states task → costs ≡ map (λ column. pos (words.cost plant column)) cs
    → made ≡ record { costs = costs; rows = []; rights = [] } → new ≡ with_rows cs made rs → new ≡ rows_of plant states task
rows_are plant states task cs rs costs made new cs_is rs_is costs_is made_is new_is =
    new_is ∙ ap (λ m. with_rows cs m rs) made_is
    ∙ ap (λ xs. with_rows cs (record { costs = xs; rows = []; rights = [] }) rs) costs_is
    ∙ ap (λ ys. with_rows cs (record { costs = map (λ column. pos (words.cost plant column)) cs; rows = []; rights = [] }) ys) rs_is
    ∙ ap (λ zs. with_rows zs (record { costs = map (λ column. pos (words.cost plant column)) zs; rows = []; rights = [] }) (families.rows plant states task)) cs_is
