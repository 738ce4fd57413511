-- Nodes by their places, as they are searched for.
use Rattle.std.proofs.Common.{◌≡◌, ℕ, true, List, get_or, Contains, Option, Some, None, refl}
use Rattle.std.specs.Prelude.{◌&&◌, ◌==◌, nat_eq}
use Rattle.std.specs.Cmp.Lexicographic.{pointwise}
use Rattle.std.proofs.lemmas.Bool.{and_parts, eqb-true}
use Rattle.std.proofs.lemmas.List.Quantifiers.{position-Some}
use Rattle.std.proofs.lemmas.Slice.Eq.{bytes_eq-Decides}
use Rattle.flow_graph.specs.declared.node.Node.{Node}
use Rattle.trace_check.specs.Verdict.{is_node}
use Rattle.trace_check.specs.Working.Words.{node_among}

same_node : (a b : Node) → a.context ≡ b.context → a.sites ≡ b.sites → a.address ≡ b.address → a ≡ b
same_node a b contexts sites addresses = build a.context b.context a.sites b.sites a.address b.address contexts sites addresses
  where
    build : (c d : ℕ) (ss ts : List ℕ) (x y : ℕ) → c ≡ d → ss ≡ ts → x ≡ y
        → ◌≡◌ {A = Node} (record { context = c; sites = ss; address = x }) (record { context = d; sites = ts; address = y })
    build c d ss ts x y e f g = rw (e, f, g) refl

is_that : (node other : Node) → is_node node.context node.sites node.address other ≡ true → other ≡ node
is_that node other is =
    let outer = and_parts (other.context == node.context && pointwise nat_eq other.sites node.sites) (other.address == node.address) is in
    let inner = and_parts (other.context == node.context) (pointwise nat_eq other.sites node.sites) outer.0 in
    same_node other node (eqb-true other.context node.context inner.0) ((bytes_eq-Decides other.sites node.sites).0 inner.1)
    (eqb-true other.address node.address outer.1)

pub not_among : (nodes : List Node) (node : Node) → (Contains nodes node → ⊥) → None ≡ node_among nodes node
not_among nodes node missing = by (node_among nodes node) refl
  where
    by : (found : Option ℕ) → node_among nodes node ≡ found → None ≡ found
    by None is = refl
    by (Some place) is =
        let at = position-Some (is_node node.context node.sites node.address) nodes place node is in
        absurd (missing (place, at.0, is_that node (get_or nodes place node) at.1))
