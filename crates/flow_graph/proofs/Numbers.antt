-- Nodes by their places among nodes in order.
use Rattle.std.proofs.Common.{◌≡◌, ℕ, ◌+◌, ◌<◌, ◌≤◌, false, List, length, get_or, Some, Ordering, Less, Equal, Greater, refl, sym, ap, ◌∙◌, subst, inl, inr, arith}
use Rattle.std.specs.Prelude.{slice_get, Contains, ◌⊎◌}
use Rattle.std.specs.List.{HoldsAt}
use Rattle.std.specs.List.Sorted.{IsStrictlySortedBy, IsNonDecreasingBy, IsPartitionPoint, IsSortedBy}
use Rattle.std.specs.Ordering.{is_lt, ordering_index, ordering_reverse}
use Rattle.std.proofs.lemmas.Cmp.{tied_itself}
use Rattle.std.proofs.lemmas.List.Sorted.{searchable_from_sorted}
use Rattle.std.proofs.lemmas.Map.Keys.{Less-from_sorted}
use Rattle.std.proofs.lemmas.Option.{slice_get-get_or}
use Rattle.flow_graph.specs.declared.node.Node.{Node}
use Rattle.flow_graph.specs.Graph.{node_cmp}
use Rattle.flow_graph.proofs.Nodes.{node_total, node_exact}

-- the place that a search told
pub found_there : (nodes : List Node) (node : Node) (place : ℕ) → place < length nodes → HoldsAt (λ y. node_cmp y node ≡ Equal) nodes place
    → slice_get nodes place ≡ Some node
found_there nodes node place lt holds = slice_get-get_or nodes place node lt ∙ ap Some (node_exact _ _ (holds node))

not_below : (o : Ordering) → ordering_reverse o ≡ Less → is_lt o ≡ false
not_below Less is = absurd cc
not_below Equal is = refl
not_below Greater is = refl

in_order : (nodes : List Node) → IsStrictlySortedBy node_cmp nodes → IsSortedBy (λ a b. is_lt (node_cmp a b)) nodes
in_order nodes order = λ k d low lt. not_below _ (sym (node_total.antisymm (get_or nodes k d) (get_or nodes (k + 1) d))
    ∙ Less-from_sorted node_cmp nodes k (k + 1) d order (omega arith) lt)

-- a node of the list is found
pub not_missed : (nodes : List Node) (node : Node) (place : ℕ) → IsStrictlySortedBy node_cmp nodes → Contains nodes node
    → (IsNonDecreasingBy (λ y. ordering_index (node_cmp y node)) nodes
    → IsPartitionPoint (λ y. node_cmp y node ≡ Less) (λ y. node_cmp y node ≡ Greater) nodes place) → ⊥
not_missed nodes node place order has missed = no has.0 has.1 has.2 (missed (searchable_from_sorted node_total (λ n. n) nodes node (in_order nodes order)))
  where
    side : (k : ℕ) → (k < place) ⊎ (place ≤ k)
    side k = grind arith

    no : (k : ℕ) → k < length nodes → get_or nodes k node ≡ node
        → IsPartitionPoint (λ y. node_cmp y node ≡ Less) (λ y. node_cmp y node ≡ Greater) nodes place → ⊥
    no k lt is parts = apart (side k)
      where
        same : node_cmp (get_or nodes k node) node ≡ Equal
        same = subst (λ n. node_cmp n node ≡ Equal) (sym is) (tied_itself node_total node)

        apart : (k < place) ⊎ (place ≤ k) → ⊥
        apart (inl below) =
            let less : node_cmp (get_or nodes k node) node ≡ Less = parts.0 k node (omega arith) below in
            let both : Less ≡ Equal = sym less ∙ same in cc
        apart (inr above) =
            let greater : node_cmp (get_or nodes k node) node ≡ Greater = parts.1 k node above lt in
            let both : Greater ≡ Equal = sym greater ∙ same in cc
