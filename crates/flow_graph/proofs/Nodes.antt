-- Nodes in their order, and sets of them.
use Rattle.std.proofs.Common.{◌≡◌, ℕ, zero, suc, ◌+◌, ◌<◌, Bool, true, false, cond, List, [], ◌∷◌, ◌++◌, length, get_or, Some, Ordering, Less, Equal, Greater, refl, sym, ap, ◌∙◌, subst, inl, inr, length-append, arith}
use Rattle.std.specs.Prelude.{not, slice_get, Contains, ◌⊎◌}
use Rattle.std.specs.BTreeSet.{BTreeSet, contains, Updates}
use Rattle.std.specs.BTreeMap.{is_at}
use Rattle.std.specs.Cmp.{IsTotalOrder}
use Rattle.std.specs.List.Sorted.{IsStrictlySortedBy}
use Rattle.std.specs.Ordering.{is_eq, ordering_then}
use Rattle.std.proofs.lemmas.Cmp.{nat_cmp_total, nat_list_cmp_total, on_total, then_total}
use Rattle.std.proofs.lemmas.List.{append-nil}
use Rattle.std.proofs.lemmas.List.Elements.{Contains-append_left, Contains-push, Contains-push_cases}
use Rattle.std.proofs.lemmas.Map.Lookups.{CmpEqualImpliesEq, exact_unsigned, exact_bytes}
use Rattle.std.proofs.lemmas.Map.Views.{btree_set_contains_iff}
use Rattle.std.proofs.lemmas.Option.{get_or_from_slice_get, slice_get-get_or, slice_get_within}
use Rattle.flow_graph.specs.declared.node.Node.{Node}
use Rattle.flow_graph.specs.Graph.{node_cmp}
use Rattle.flow_graph.specs.Working.Found.{AreOrdered, Adds}

pub node_total : IsTotalOrder node_cmp
node_total = then_total (on_total (λ (n : Node). n.context) nat_cmp_total)
    (then_total (on_total (λ (n : Node). n.sites) nat_list_cmp_total) (on_total (λ (n : Node). n.address) nat_cmp_total))

both_equal : (a b : Ordering) → ordering_then a b ≡ Equal → (a ≡ Equal) × (b ≡ Equal)
both_equal Less b is = absurd cc
both_equal Equal b is = (refl, is)
both_equal Greater b is = absurd cc

-- nodes of which none comes first are one
pub node_exact : CmpEqualImpliesEq node_cmp
node_exact a b is =
    let first = both_equal _ _ is in
    let others = both_equal _ _ first.1 in
    same a.context b.context a.sites b.sites a.address b.address (exact_unsigned _ _ first.0) (exact_bytes _ _ others.0) (exact_unsigned _ _ others.1)
  where
    same : (c d : ℕ) (ss ts : List ℕ) (x y : ℕ) → c ≡ d → ss ≡ ts → x ≡ y
        → ◌≡◌ {A = Node} (record { context = c; sites = ss; address = x }) (record { context = d; sites = ts; address = y })
    same c d ss ts x y e f g = rw (e, f, g) refl

equal_from : (o : Ordering) → is_eq o ≡ true → o ≡ Equal
equal_from Less is = absurd cc
equal_from Equal is = refl
equal_from Greater is = absurd cc

-- a node of a list by its place, and back
pub Contains-at : {A : Type 0} (xs : List A) (i : ℕ) (x : A) → slice_get xs i ≡ Some x → Contains xs x
Contains-at xs i x is = (i, slice_get_within xs i x is, get_or_from_slice_get xs i x x is)

pub at-Contains : {A : Type 0} (xs : List A) (x : A) → Contains xs x → (i : ℕ) × (i < length xs) × (slice_get xs i ≡ Some x)
at-Contains xs x has = (has.0, has.1, slice_get-get_or xs has.0 x has.1 ∙ ap Some has.2)

pub same_some : {A : Type 0} {a b : A} → Some a ≡ Some b → a ≡ b
same_some is = cc

-- ---- A set and a list of the same nodes

pub no_nodes : (s : List Node) → s ≡ [] → IsStrictlySortedBy node_cmp s → AreOrdered [] s
no_nodes s is order = record {
  order = order;
  into = λ node has. subst (λ xs. Contains xs node) (sym is) has;
  from = λ node has. subst (λ xs. Contains xs node) is has;
  count = ap length is;
}

pub was_found : (set : BTreeSet Node) (list : List Node) (node : Node) → AreOrdered list set.keys → contains node_cmp set node ≡ true → Adds node list list
was_found set list node same is = record {
  more = [];
  is = sym (append-nil list);
  only = λ k d lt. absurd (omega arith);
  has = same.from node ((btree_set_contains_iff node_total node_exact set node).0 is);
}

pub is_found : (list : List Node) (node : Node) → Adds node list (list ++ node ∷ [])
is_found list node = record {
  more = node ∷ [];
  is = refl;
  only = λ k d lt. at k d lt;
  has = Contains-push list node;
}
  where
    at : (k : ℕ) (d : Node) → k < 1 → get_or (node ∷ []) k d ≡ node
    at zero d lt = refl
    at (suc k) d lt = absurd (omega arith)

-- one more node in both
pub inserted : (set after : BTreeSet Node) (list : List Node) (node : Node) → AreOrdered list set.keys → Updates node_cmp set after node true
    → IsStrictlySortedBy node_cmp after.keys → length after.keys ≡ length set.keys + 1 → AreOrdered (list ++ node ∷ []) after.keys
inserted set after list node same updates order count = record {
  order = order;
  into = λ other has. into other (Contains-push_cases list node other has);
  from = λ other has. from other (is_at (node_cmp node) other) refl (sym (updates.0 other) ∙ (btree_set_contains_iff node_total node_exact after other).1 has);
  count = count ∙ (ap (λ n. n + 1) same.count ∙ sym (length-append list (node ∷ [])));
}
  where
    into : (other : Node) → Contains list other ⊎ (node ≡ other) → Contains after.keys other
    into other (inl has) = (btree_set_contains_iff node_total node_exact after other).0
        (updates.0 other ∙ rw ((btree_set_contains_iff node_total node_exact set other).1 (same.into other has)) (either _))
      where
        either : (b : Bool) → cond b true true ≡ true
        either true = refl
        either false = refl
    into other (inr is) = subst (λ n. Contains after.keys n) is ((btree_set_contains_iff node_total node_exact after node).0 updates.1)

    from : (other : Node) (b : Bool) → is_at (node_cmp node) other ≡ b → cond (is_at (node_cmp node) other) true (contains node_cmp set other) ≡ true
        → Contains (list ++ node ∷ []) other
    from other true is has = subst (λ n. Contains (list ++ node ∷ []) n) (node_exact node other (equal_from _ is)) (Contains-push list node)
    from other false is has = Contains-append_left list (node ∷ []) other
        (same.from other ((btree_set_contains_iff node_total node_exact set other).0 (rw is at has)))

-- a node that is new counts
pub one_more : (set after : BTreeSet Node) (node key : Node) (added : Bool) → key ≡ node → added ≡ not (contains node_cmp set key)
    → contains node_cmp set node ≡ false
    → length after.keys ≡ length set.keys + cond added 1 0 → length after.keys ≡ length set.keys + 1
one_more set after node key added same is absent count =
    count ∙ ap (λ b. length set.keys + cond b 1 0) (is ∙ ap not (ap (contains node_cmp set) same ∙ absent))
