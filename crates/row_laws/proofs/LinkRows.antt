-- The rows that have links, and what their entries are.
use Rattle.std.proofs.Common.{◌≡◌, ◌≢◌, ℕ, suc, zero, ◌+◌, ◌<◌, List, [], ◌∷◌, ◌++◌, map, length, get_or, slice_get, nat_eq, ℤ, pos, ◌≤ℤ◌, Option, Some, None, refl, sym, ◌∙◌, ap, subst, arith}
use Rattle.std.specs.List.{range_with_len}
use Rattle.std.specs.Option.{option_map_or}
use Rattle.std.proofs.lemmas.Bool.{eqb-true}
use Rattle.std.proofs.lemmas.Int.{ints}
use Rattle.std.proofs.lemmas.List.{length-append, length-map}
use Rattle.std.proofs.lemmas.List.FromFn.{length-map-range_with_len}
use Rattle.std.proofs.lemmas.Option.{none-some, slice_get_within}
use Rattle.whole_rows.specs.Rows.{entry_at, cost_at}
use Rattle.row_squeeze.specs.declared.Link.{Link}
use Rattle.row_squeeze.specs.Links.{HasLink, IsLinkRow}
use Rattle.wcet_atomic_blocks.specs.Plants.{PlantData}
use Rattle.wcet_atomic_blocks.proofs.GraphFacts.{at_slice}
use Rattle.abstract_sched.specs.declared.states.AbsState.{AbsState}
use Rattle.row_build.specs.Columns.{Column, Goes, columns, cost}
use Rattle.row_build.specs.Families.{Row, one_start, leaving, passes, passing, standing, beginning, going_round, arriving, rows, leads_to}
use Rattle.row_build.specs.Links.{link_at, without_links, links_of}
use Rattle.row_build.specs.Rows.{rows_of}
use Rattle.row_laws.proofs.LinkLists.{get_or-map, append_cases, at_append_left, at_append_right, at_range, range_place}
use Rattle.row_laws.proofs.LinkFactors.{Allows, one_from, first_rows_allow, last_rows_allow, other_nodes_allow}
use Rattle.row_laws.proofs.LinkNodes.{IsLinkAt}

-- ---- Rows by their places

abbrev first_rows : PlantData → List AbsState → ℕ → List Row
first_rows plant states task = one_start ∷ leaving plant states task

abbrev last_rows : PlantData → List AbsState → ℕ → List Row
last_rows plant states task = standing plant states task ++ (beginning plant task ++ (going_round plant ++ arriving plant))

-- the row is that of a node
pub record IsRowOf (plant : PlantData) (states : List AbsState) (task row node : ℕ) : Type 0 where
  pub within : node < length plant.flow.nodes
  pub place : row ≡ length (first_rows plant states task) + node

pub row_there : (plant : PlantData) (states : List AbsState) (task row node : ℕ) → IsRowOf plant states task row node
    → slice_get (rows plant states task) row ≡ Some (passes plant node)
row_there plant states task row node is =
    let within = is.within in
    let count = length-map-range_with_len (passes plant) 0 (length plant.flow.nodes) in
    at_append_right (first_rows plant states task) (passing plant ++ last_rows plant states task) row node is.place
    ∙ at_append_left (passing plant) (last_rows plant states task) node (omega arith)
    ∙ at_range (passes plant) 0 (length plant.flow.nodes) node node within (omega arith)

-- ---- Rows with links

has_some : {A : Type 0} (xs : List (Option A)) (k : ℕ) (x : A) → get_or xs k None ≡ Some x → slice_get xs k ≡ Some (Some x)
has_some [] k x at = absurd (none-some x at)
has_some (o ∷ xs) zero x at = ap Some at
has_some (o ∷ xs) (suc k) x at = has_some xs k x at

has_none : (rs : List Row) (k : ℕ) (link : Link) → slice_get (without_links rs) k ≡ Some (Some link) → ⊥
has_none [] k link at = absurd cc
has_none (r ∷ rs) zero link at = absurd cc
has_none (r ∷ rs) (suc k) link at = has_none rs k link at

-- a row with a link is that of a node
pub record IsLinked (plant : PlantData) (states : List AbsState) (task row : ℕ) (link : Link) : Type 0 where
  pub node : ℕ
  pub row_is : IsRowOf plant states task row node
  pub linked : link_at plant task (columns plant states task) node ≡ Some link

pub linked : (plant : PlantData) (states : List AbsState) (task row : ℕ) (link : Link) → HasLink (links_of plant states task) row link
    → IsLinked plant states task row link
linked plant states task row link has =
    append_cases (without_links (first_rows plant states task)) (of_nodes ++ without_links (last_rows plant states task)) row (Some link)
    (has_some (links_of plant states task) row link has)
    (λ at. absurd (has_none (first_rows plant states task) row link at))
    (λ j place at. append_cases of_nodes (without_links (last_rows plant states task)) j (Some link) at
    (λ here. let there = range_place at_node 0 (length plant.flow.nodes) j (Some link) here in
    record {
      node = j;
      row_is = record { within = there.0; place = place_is j place };
      linked = ap at_node (sym (zero_plus j)) ∙ there.1;
    })
    (λ i later there. absurd (has_none (last_rows plant states task) i link there)))
  where
    at_node : ℕ → Option Link
    at_node node = link_at plant task (columns plant states task) node

    of_nodes : List (Option Link)
    of_nodes = map at_node (range_with_len 0 (length plant.flow.nodes))

    zero_plus : (n : ℕ) → 0 + n ≡ n
    zero_plus n = omega arith

    place_is : (j : ℕ) → row ≡ length (without_links (first_rows plant states task)) + j → row ≡ length (first_rows plant states task) + j
    place_is j e =
        let no_link : Row → Option Link = λ row. None in
        e ∙ ap (λ n. n + j) (length-map (first_rows plant states task) no_link)

-- as many links as rows
pub links_counted : (plant : PlantData) (states : List AbsState) (task : ℕ) → length (links_of plant states task) ≡ length (rows_of plant states task).rows
links_counted plant states task =
    simp (length-append, length-map)

-- ---- Entries

abbrev factor_at : List Column → ℕ → Row → ℤ
factor_at columns column row = option_map_or row.factor (slice_get columns column) (pos 0)

entry_is : (plant : PlantData) (states : List AbsState) (task row column : ℕ)
    → entry_at (rows_of plant states task) row column
    ≡ option_map_or (factor_at (columns plant states task) column) (slice_get (rows plant states task) row) (pos 0)
entry_is plant states task row column =
    ap (λ r. get_or r column (pos 0)) (get_or-map (λ (r : Row). map r.factor (columns plant states task)) (rows plant states task) row [])
    ∙ in_row (slice_get (rows plant states task) row)
  where
    in_row : (o : Option Row) → get_or (option_map_or (λ (r : Row). map r.factor (columns plant states task)) o []) column (pos 0)
        ≡ option_map_or (factor_at (columns plant states task) column) o (pos 0)
    in_row None = refl
    in_row (Some r) = get_or-map r.factor (columns plant states task) column (pos 0)

entry_of_node : (plant : PlantData) (states : List AbsState) (task row node column : ℕ) → IsRowOf plant states task row node
    → entry_at (rows_of plant states task) row column ≡ factor_at (columns plant states task) column (passes plant node)
entry_of_node plant states task row node column is =
    entry_is plant states task row column
    ∙ ap (λ o. option_map_or (factor_at (columns plant states task) column) o (pos 0)) (row_there plant states task row node is)

-- the node that the outgoing edge leaves
pub leaves_node : (plant : PlantData) (states : List AbsState) (task node : ℕ) (link : Link) → (is : IsLinkAt plant states task node link)
    → is.of.outgoing.node ≡ node
leaves_node plant states task node link is =
    eqb-true is.of.outgoing.node node (one_from (nat_eq is.of.outgoing.node node) (leads_to node is.of.outgoing) is.of.outgoing_factor).0

-- no other row holds the outgoing column back
other_row : (plant : PlantData) (states : List AbsState) (task row node other : ℕ) (link : Link) → IsRowOf plant states task row node
    → IsLinkAt plant states task node link → other ≢ row → entry_at (rows_of plant states task) other link.outgoing ≤ℤ pos 0
other_row plant states task row node other link row_is is apart =
    rw (entry_is plant states task other link.outgoing) (by (slice_get (rows plant states task) other) refl)
  where
    elsewhere : (j : ℕ) → other ≡ length (first_rows plant states task) + j → is.of.outgoing.node ≢ 0 + j
    elsewhere j place same =
        let here = row_is.place in
        let leaves = leaves_node plant states task node link is in
        apart (omega arith)

    allowed : (r : Row) → slice_get (rows plant states task) other ≡ Some r → Allows is.of.outgoing r
    allowed r at =
        append_cases (first_rows plant states task) (passing plant ++ last_rows plant states task) other r at
        (λ first. at_slice (Allows is.of.outgoing) (first_rows plant states task) other r (first_rows_allow plant states task is.of.outgoing) first)
        (λ j place later. append_cases (passing plant) (last_rows plant states task) j r later
        (λ here. let there = range_place (passes plant) 0 (length plant.flow.nodes) j r here in
        subst (Allows is.of.outgoing) there.1 (other_nodes_allow plant (0 + j) is.of.outgoing (elsewhere j place)))
        (λ i behind last. at_slice (Allows is.of.outgoing) (last_rows plant states task) i r
        (last_rows_allow plant states task is.of.outgoing is.of.not_back) last))

    by : (o : Option Row) → slice_get (rows plant states task) other ≡ o
        → option_map_or (factor_at (columns plant states task) link.outgoing) o (pos 0) ≤ℤ pos 0
    by None at = omega (arith, ints)
    by (Some r) at = rw is.of.outgoing_stands (allowed r at)

pub link_row : (plant : PlantData) (states : List AbsState) (task row node : ℕ) (link : Link) → IsRowOf plant states task row node
    → IsLinkAt plant states task node link → IsLinkRow (rows_of plant states task) row link
link_row plant states task row node link row_is is = record {
  outgoing_exists = exists link.outgoing (Goes is.of.outgoing) is.of.outgoing_stands;
  incoming_exists = exists link.incoming (Goes is.of.incoming) is.of.incoming_stands;
  outgoing_entry = factor link.outgoing (Goes is.of.outgoing) is.of.outgoing_stands ∙ is.of.outgoing_factor;
  incoming_entry = factor link.incoming (Goes is.of.incoming) is.of.incoming_stands ∙ is.of.incoming_factor;
  no_other_entry = λ column not_out not_in. entry_of_node plant states task row node column row_is
      ∙ none_at column not_out not_in (slice_get (columns plant states task) column) refl;
  right_side = get_or-map (λ (r : Row). pos r.right) (rows plant states task) row (pos 0)
      ∙ ap (λ o. option_map_or (λ (r : Row). pos r.right) o (pos 0)) (row_there plant states task row node row_is);
  outgoing_cost = rw cost_is (omega (arith, ints));
  other_rows = λ other apart. other_row plant states task row node other link row_is is apart;
}
  where
    exists : (place : ℕ) (column : Column) → slice_get (columns plant states task) place ≡ Some column → place < length (rows_of plant states task).costs
    exists place column at =
        let within = slice_get_within (columns plant states task) place column at in
        let count = length-map (columns plant states task) (λ c. pos (cost plant c)) in
        omega arith

    factor : (place : ℕ) (column : Column) → slice_get (columns plant states task) place ≡ Some column
        → entry_at (rows_of plant states task) row place ≡ (passes plant node).factor column
    factor place column at = entry_of_node plant states task row node place row_is ∙ ap (λ o. option_map_or (passes plant node).factor o (pos 0)) at

    none_at : (place : ℕ) → place ≢ link.outgoing → place ≢ link.incoming → (o : Option Column) → slice_get (columns plant states task) place ≡ o
        → factor_at (columns plant states task) place (passes plant node) ≡ pos 0
    none_at place not_out not_in None at = ap (λ o. option_map_or (passes plant node).factor o (pos 0)) at
    none_at place not_out not_in (Some column) at =
        ap (λ o. option_map_or (passes plant node).factor o (pos 0)) at ∙ is.of.others place column at not_out not_in

    cost_is : cost_at (rows_of plant states task) link.outgoing ≡ pos (cost plant (Goes is.of.outgoing))
    cost_is = get_or-map (λ c. pos (cost plant c)) (columns plant states task) link.outgoing (pos 0)
        ∙ ap (λ o. option_map_or (λ c. pos (cost plant c)) o (pos 0)) is.of.outgoing_stands
