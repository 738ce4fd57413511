-- What a node without a fault is not.
use Rattle.std.proofs.Common.{◌≡◌, ℕ, zero, suc, Bool, true, false, cond, List, [], ◌∷◌, Option, Some, None, refl, sym, ◌∙◌, ap, subst}
use Rattle.std.specs.Prelude.{◌||◌, slice_get}
use Rattle.std.specs.List.{list_any}
use Rattle.std.specs.Option.{option_map_or}
use Rattle.std.proofs.lemmas.Option.{none-some}
use Rattle.rv32_machine.specs.declared.turns.Turn.{Turn}
use Rattle.rv32_machine.specs.Places.{turn_at, is_middle}
use Rattle.flow_graph.specs.declared.edge.Edge.{Edge}
use Rattle.flow_graph.specs.declared.fault.CodeKind.{CodeKind}
use Rattle.flow_graph.specs.declared.node.Node.{Node}
use Rattle.flow_graph.specs.Graph.{Program}
use Rattle.flow_graph.specs.Faults.{begins_at_middle, is_breaking, is_indirect, returns_from_entry, goes_to_middle, enters_middle, is_unserved, calls_again, goes_back_uncovered, calls_too_deep, turn_fault, fault_of}

pub neither : (a b : Bool) → (a || b) ≡ false → (a ≡ false) × (b ≡ false)
neither false b h = (refl, h)
neither true b h = absurd cc

-- a chain of tests without a fault: this test doesn't hold, and the others have none
then_none : (b : Bool) (kind : CodeKind) (others : Option CodeKind) → cond b (Some kind) others ≡ None → (b ≡ false) × (others ≡ None)
then_none true kind others h = absurd (none-some kind (sym h))
then_none false kind others h = (refl, h)

else_none : (b : Bool) (kind : CodeKind) (others : Option CodeKind) → cond b others (Some kind) ≡ None → (b ≡ true) × (others ≡ None)
else_none true kind others h = (refl, h)
else_none false kind others h = absurd (none-some kind (sym h))

pub record IsSound (program : Program) (node : Node) (turn : Turn) : Type 0 where
  pub word : program.has_word node.address ≡ true
  pub no_break : is_breaking turn ≡ false
  pub direct : is_indirect turn ≡ false
  pub stays : returns_from_entry node turn ≡ false
  pub entry : begins_at_middle program node ≡ false
  pub middle : enters_middle program node turn ≡ false
  pub served : is_unserved program node turn ≡ false
  pub once : calls_again node turn ≡ false
  pub covered : goes_back_uncovered program node turn ≡ false
  pub shallow : calls_too_deep node turn ≡ false

pub sound : (program : Program) (node : Node) (turn : Turn) → turn_at program.code node.address ≡ Some turn → fault_of program node ≡ None
    → IsSound program node turn
sound program node turn at none =
    let word = else_none (program.has_word node.address) _ _ none in
    let some : turn_fault program node (Some turn) ≡ None = subst (λ (t : Option Turn). turn_fault program node t ≡ None) at word.1 in
    let a = then_none (is_breaking turn) _ _ some in
    let b = then_none (is_indirect turn) _ _ a.1 in
    let c = then_none (returns_from_entry node turn) _ _ b.1 in
    let d = then_none (begins_at_middle program node || enters_middle program node turn) _ _ c.1 in
    let e = neither (begins_at_middle program node) (enters_middle program node turn) d.0 in
    let f = then_none (is_unserved program node turn) _ _ d.1 in
    let g = then_none (calls_again node turn) _ _ f.1 in
    let h = then_none (goes_back_uncovered program node turn) _ _ g.1 in
    let i = then_none (calls_too_deep node turn) _ _ h.1 in
    record {
      word = word.0;
      no_break = a.0;
      direct = b.0;
      stays = c.0;
      entry = e.0;
      middle = e.1;
      served = f.0;
      once = g.0;
      covered = h.0;
      shallow = i.0;
    }

-- a node without a fault has a turn
pub record HasTurn (program : Program) (node : Node) : Type 0 where
  pub turn : Turn
  pub at : turn_at program.code node.address ≡ Some turn
  pub sound : IsSound program node turn

turn_there : (program : Program) (node : Node) (found : Option Turn) → turn_at program.code node.address ≡ found → turn_fault program node found ≡ None
    → fault_of program node ≡ None → HasTurn program node
turn_there program node None at h none = absurd (none-some _ (sym h))
turn_there program node (Some turn) at h none = record { turn = turn; at = at; sound = sound program node turn at none }

pub has_turn : (program : Program) (node : Node) → fault_of program node ≡ None → HasTurn program node
has_turn program node none =
    let word = else_none (program.has_word node.address) _ _ none in
    turn_there program node (turn_at program.code node.address) refl word.1 none

-- ---- Tests of lists

pub none_at : {A : Type 0} (test : A → Bool) (xs : List A) (i : ℕ) (x : A) → list_any test xs ≡ false → slice_get xs i ≡ Some x → test x ≡ false
none_at test [] i x h e = absurd (none-some x e)
none_at test (y ∷ ys) zero x h e = let same : y ≡ x = cc in ap test (sym same) ∙ (neither (test y) (list_any test ys) h).0
none_at test (y ∷ ys) (suc i) x h e = none_at test ys i x (neither (test y) (list_any test ys) h).1 e

-- no edge leads to a middle word
pub not_middle : (program : Program) (edges : List (Edge Node)) (i : ℕ) (edge : Edge Node) (to : Node) → list_any (goes_to_middle program) edges ≡ false
    → slice_get edges i ≡ Some edge → edge.to ≡ Some to → is_middle program.code to.address ≡ false
not_middle program edges i edge to h at arrives =
    ap (λ (found : Option Node). option_map_or (λ node. is_middle program.code node.address) found false) (sym arrives)
    ∙ none_at (goes_to_middle program) edges i edge h at
