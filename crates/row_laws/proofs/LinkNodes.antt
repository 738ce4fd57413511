-- What a link says of its node: no block begins there, and just one edge leads to it from another node.
use Rattle.std.proofs.Common.{◌≡◌, ◌≢◌, ℕ, suc, zero, ◌+◌, ◌<◌, Bool, true, false, cond, List, [], ◌∷◌, ◌++◌, map, filter, length, nat_eq, slice_get, pos, negsuc, ◌+ℤ◌, ◌-ℤ◌, Contains, Option, Some, None, inl, inr, refl, sym, ◌∙◌, ap, subst, arith}
use Rattle.std.specs.Prelude.{◌==◌, not, option_and_then}
use Rattle.std.specs.List.{range_with_len}
use Rattle.std.specs.Option.{option_map_or}
use Rattle.std.proofs.lemmas.Bool.{cases_eq, eq-eqb, eqb-true, ne_eqb}
use Rattle.std.proofs.lemmas.List.Elements.{Contains-append_left, Contains-append_right}
use Rattle.std.proofs.lemmas.Option.{none-some, same_Some, slice_get_within}
use Rattle.osek_kernel.specs.declared.context.Context.TheVariants as contexts
use Rattle.flow_graph.specs.declared.edge.Edge.{Edge}
use Rattle.flow_graph.specs.Graph.{program_of}
use Rattle.row_squeeze.specs.declared.Link.{Link}
use Rattle.wcet_atomic_blocks.specs.declared.block.Block.{Block}
use Rattle.wcet_atomic_blocks.specs.Blocks.{HasEdge, edges_at, is_service}
use Rattle.wcet_atomic_blocks.specs.Plants.{PlantData, IsPlant}
use Rattle.wcet_atomic_blocks.proofs.GraphFacts.{edge_between}
use Rattle.abstract_sched.specs.declared.states.AbsState.{AbsState}
use Rattle.scheduler_moves.specs.Moves.{entry_block}
use Rattle.row_build.specs.Columns.{Along, Column, Going, Starts, Moves, Goes, Begins, Stands, starts, goings, is_active_in, alongs, alongs_at, begun_blocks, positions, columns, is_own_entry, is_first_of}
use Rattle.row_build.specs.Families.{counted, leads_to, passes, is_first_at}
use Rattle.row_build.specs.Links.{entries_from, link_of_entries, link_at}
use Rattle.row_laws.proofs.LinkLists.{place_of_member, first_member, later_member, kept_member, mapped_member, flat_member, range_member}
use Rattle.row_laws.proofs.LinkEntries.{IsLinkOf, link_is}
use Rattle.row_laws.proofs.LinkFactors.{edge_factor}

-- ---- Which columns there are

along_at : (node first place number : ℕ) (edges : List (Edge ℕ)) (edge : Edge ℕ) → slice_get edges place ≡ Some edge → number ≡ first + place
    → Contains (alongs_at node first edges) (record { node = node; place = number; edge = edge })
along_at node first place number [] edge at is = absurd (none-some edge at)
along_at node first zero number (e ∷ es) edge at is =
    let same : number ≡ first = omega arith in
    subst (λ (n : ℕ). Contains (alongs_at node first (e ∷ es)) (record { node = node; place = n; edge = edge })) (sym same)
    (subst (λ (g : Edge ℕ). Contains (alongs_at node first (e ∷ es)) (record { node = node; place = first; edge = g })) (same_Some e edge at)
    (first_member (record { node = node; place = first; edge = e }) (alongs_at node (suc first) es)))
along_at node first (suc place) number (e ∷ es) edge at is =
    later_member (record { node = node; place = number; edge = edge }) (record { node = node; place = first; edge = e }) (alongs_at node (suc first) es)
    (along_at node (suc first) place number es edge at (omega arith))

along_member : (plant : PlantData) (node place : ℕ) (edge : Edge ℕ) → node < length plant.flow.nodes → is_service plant.flow node ≡ false
    → slice_get (edges_at plant.flow node) place ≡ Some edge → Contains (alongs plant) (record { node = node; place = place; edge = edge })
along_member plant node place edge within instruction at =
    flat_member (λ n. cond (is_service plant.flow n) [] (alongs_at n 0 (edges_at plant.flow n))) (range_with_len 0 (length plant.flow.nodes)) node
    (record { node = node; place = place; edge = edge }) (range_member (length plant.flow.nodes) node within)
    (subst (λ (b : Bool). Contains (cond b [] (alongs_at node 0 (edges_at plant.flow node))) (record { node = node; place = place; edge = edge }))
    (sym instruction)
    (along_at node 0 place place (edges_at plant.flow node) edge at (omega arith)))

behind : (plant : PlantData) (states : List AbsState) (task : ℕ) (column : Column)
    → Contains (map Goes (alongs plant) ++ (map Begins (begun_blocks plant task) ++ map Stands (positions plant states task))) column
    → Contains (columns plant states task) column
behind plant states task column has =
    Contains-append_right (map Starts (starts plant states task)) (map Moves active ++ rest) column (Contains-append_right (map Moves active) rest column has)
  where
    active : List Going
    active = filter (λ going. is_active_in going.from (contexts.Task task)) (goings plant states)

    rest : List Column
    rest = map Goes (alongs plant) ++ (map Begins (begun_blocks plant task) ++ map Stands (positions plant states task))

goes_member : (plant : PlantData) (states : List AbsState) (task : ℕ) (along : Along) → Contains (alongs plant) along
    → Contains (columns plant states task) (Goes along)
goes_member plant states task along has = behind plant states task (Goes along)
    (Contains-append_left (map Goes (alongs plant)) (map Begins (begun_blocks plant task) ++ map Stands (positions plant states task)) (Goes along)
    (mapped_member Goes (alongs plant) along has))

begins_member : (plant : PlantData) (states : List AbsState) (task block : ℕ) → block < length plant.blocks.blocks
    → is_own_entry plant task block ≡ false → Contains (columns plant states task) (Begins block)
begins_member plant states task block within other =
    behind plant states task (Begins block)
    (Contains-append_right (map Goes (alongs plant)) (map Begins (begun_blocks plant task) ++ map Stands (positions plant states task)) (Begins block)
    (Contains-append_left (map Begins (begun_blocks plant task)) (map Stands (positions plant states task)) (Begins block)
    (mapped_member Begins (begun_blocks plant task) block
    (kept_member (λ b. not (is_own_entry plant task b)) (range_with_len 0 (length plant.blocks.blocks)) block (ap not other)
    (range_member (length plant.blocks.blocks) block within)))))

-- ---- The link of a node

-- the node isn't the first one of the task's entry, and its row is the link
pub record IsLinkAt (plant : PlantData) (states : List AbsState) (task node : ℕ) (link : Link) : Type 0 where
  pub of : IsLinkOf plant (passes plant node).factor (columns plant states task) link
  pub not_first : is_first_of plant task node ≡ false

pub link_at_is : (plant : PlantData) (states : List AbsState) (task node : ℕ) (link : Link) → link_at plant task (columns plant states task) node ≡ Some link
    → IsLinkAt plant states task node link
link_at_is plant states task node link is = by (is_first_of plant task node) refl is
  where
    entries : Option Link
    entries = link_of_entries plant (entries_from (passes plant node).factor 0 (columns plant states task))

    by : (b : Bool) → is_first_of plant task node ≡ b → cond b None entries ≡ Some link → IsLinkAt plant states task node link
    by true first e = absurd (none-some link e)
    by false first e = record { of = link_is plant (passes plant node).factor (columns plant states task) link e; not_first = first }

-- a column with the factor -1 is the incoming one
only_incoming : (plant : PlantData) (states : List AbsState) (task node : ℕ) (link : Link) (column : Column) → IsLinkAt plant states task node link
    → Contains (columns plant states task) column → (passes plant node).factor column ≡ negsuc 0
    → slice_get (columns plant states task) link.incoming ≡ Some column
only_incoming plant states task node link column is has factor =
    let there = place_of_member (columns plant states task) column has in
    elim (cases_eq there.0 link.incoming) [
      | inl same ↦ ap (slice_get (columns plant states task)) (sym same) ∙ there.1
      | inr other ↦ absurd (let wrong : pos 0 ≡ negsuc 0 = sym (is.of.others there.0 column there.1 (not_outgoing there.0 there.1) other) ∙ factor in cc)
    ]
  where
    not_outgoing : (k : ℕ) → slice_get (columns plant states task) k ≡ Some column → k ≢ link.outgoing
    not_outgoing k at same =
        let goes : Goes is.of.outgoing ≡ column =
        same_Some (Goes is.of.outgoing) column (sym is.of.outgoing_stands ∙ ap (slice_get (columns plant states task)) (sym same) ∙ at) in
        let wrong : pos 1 ≡ negsuc 0 = sym is.of.outgoing_factor ∙ ap (passes plant node).factor goes ∙ factor in cc

-- ---- No block begins there

own_first : (plant : PlantData) (node number : ℕ) (block : Block) (o : Option ℕ) → slice_get plant.blocks.blocks number ≡ Some block → block.begin.first ≡ node
    → option_map_or (nat_eq number) o false ≡ true
    → option_map_or (λ (b : Block). b.begin.first == node) (option_and_then (slice_get plant.blocks.blocks) o) false ≡ true
own_first plant node number block None at first is = absurd cc
own_first plant node number block (Some own) at first is =
    let same : number ≡ own = eqb-true number own is in
    ap (λ n. option_map_or (λ (b : Block). b.begin.first == node) (slice_get plant.blocks.blocks n) false) (sym same)
    ∙ ap (λ o. option_map_or (λ (b : Block). b.begin.first == node) o false) at ∙ eq-eqb block.begin.first node first

pub no_block_begins : (plant : PlantData) (states : List AbsState) (task node : ℕ) (link : Link) (number : ℕ) (block : Block)
    → IsLinkAt plant states task node link
    → slice_get plant.blocks.blocks number ≡ Some block → block.begin.first ≡ node → ⊥
no_block_begins plant states task node link number block is at first = by (is_own_entry plant task number) refl
  where
    begins_there : is_first_at plant node number ≡ true
    begins_there = ap (λ o. option_map_or (λ (b : Block). b.begin.first == node) o false) at ∙ eq-eqb block.begin.first node first

    factor : (passes plant node).factor (Begins number) ≡ negsuc 0
    factor = ap (λ b. (pos 0 +ℤ pos 0) -ℤ (pos 0 +ℤ (counted b +ℤ pos 0))) begins_there

    by : (b : Bool) → is_own_entry plant task number ≡ b → ⊥
    by true own =
        let wrong : true ≡ false = sym (own_first plant node number block (entry_block plant (contexts.Task task)) at first own) ∙ is.not_first in cc
    by false other =
        let within = slice_get_within plant.blocks.blocks number block at in
        let here = only_incoming plant states task node link (Begins number) is (begins_member plant states task number within other) factor in
        let wrong : Some (Goes is.of.incoming) ≡ Some (Begins number) = sym is.of.incoming_stands ∙ here in cc

-- ---- Just one edge leads to it from another node

-- the node that the edge leaves
abbrev pub origin : Column → ℕ
origin (Goes along) = along.node
origin column = 0

abbrev pub origin_at : List Column → ℕ → ℕ
origin_at columns place = option_map_or origin (slice_get columns place) 0

pub comes_from : (plant : PlantData) (states : List AbsState) (task node : ℕ) (link : Link) (other : ℕ) → IsPlant plant → IsLinkAt plant states task node link
    → other ≢ node → is_service plant.flow other ≡ false → HasEdge plant.flow other node
    → origin_at (columns plant states task) link.incoming ≡ other
comes_from plant states task node link other plants is apart instruction edge =
    let between = edge_between (program_of plant.image plant.system plant.timing) plant.flow other node plants.graph.graph edge in
    let within = slice_get_within plant.flow.nodes other between.node between.stands in
    let along : Along = record { node = other; place = edge.number; edge = edge.edge } in
    let leads : leads_to node along ≡ true = ap (λ o. option_map_or (nat_eq node) o false) edge.arrives ∙ eq-eqb node node refl in
    let factor : (passes plant node).factor (Goes along) ≡ negsuc 0 =
    ap (λ b. edge_factor b (leads_to node along)) (ne_eqb other node apart) ∙ ap (edge_factor false) leads in
    ap (λ o. option_map_or origin o 0)
    (only_incoming plant states task node link (Goes along) is
    (goes_member plant states task along (along_member plant other edge.number edge.edge within instruction edge.leaves)) factor)
