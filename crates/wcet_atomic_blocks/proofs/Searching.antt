-- The search for the nodes of a block, step by step.
use Rattle.std.proofs.Common.{◌≡◌, ℕ, suc, zero, ◌+◌, ◌<◌, ◌≤◌, ◌⊎◌, inl, inr, Bool, true, false, cond, List, [], ◌∷◌, ◌++◌, length, get_or, arith, ap, ◌∙◌, subst, sym, refl, Some, Result, Ok, Err}
use Rattle.std.specs.Prelude.{Contains, slice_get, is_some, OnOk}
use Rattle.std.proofs.lemmas.Bool.{cases_eq}
use Rattle.std.proofs.lemmas.List.{length_push}
use Rattle.std.proofs.lemmas.Option.{slice_get-get_or, slice_get_within}
use Rattle.std.specs.Option.{option_map_or}
use Rattle.std.proofs.lemmas.List.Elements.{Contains-append_left, Contains-append_right, Contains-append_cases, Contains-push, Contains-push_cases}
use Rattle.flow_graph.specs.declared.edge.Edge.{Edge}
use Rattle.flow_graph.specs.declared.flow.Flow.{Flow}
use Rattle.flow_graph.specs.declared.flow.Leaving.{Leaving}
use Rattle.wcet_atomic_blocks.specs.NodeSets.{holds}
use Rattle.wcet_atomic_blocks.specs.Blocks.{HasEdge, IsInBlock, begins, along, is_service}
use Rattle.wcet_atomic_blocks.specs.Working.Search.{IsInserted, IsFollowed, IsSearch, unseen, Visits, again, anew, LeadsAt, IsVisiting}

-- ---- Sets that grow

-- what was in the set stays in it
stays : (set set' : List ℕ) (node other : ℕ) → IsInserted set node set' → holds set other ≡ true → holds set' other ≡ true
stays set set' node other inserted held =
    elim (cases_eq other node) [
      | inl same ↦ subst (λ (n : ℕ). holds set' n ≡ true) (sym same) inserted.there
      | inr differ ↦ inserted.others other differ ∙ held
    ]

-- what is in the set was there or is the node
came : (set set' : List ℕ) (node other : ℕ) → IsInserted set node set' → holds set' other ≡ true → (holds set other ≡ true) ⊎ (other ≡ node)
came set set' node other inserted held =
    elim (cases_eq other node) [ inl same ↦ inr same | inr differ ↦ inl (sym (inserted.others other differ) ∙ held) ]

pub visits_hold : (node : ℕ) (set pending set' pending' : List ℕ) → Visits node set pending set' pending' → holds set' node ≡ true
visits_hold node set pending set' pending' (again held same listed) = subst (λ (s : List ℕ). holds s node ≡ true) (sym same) held
visits_hold node set pending set' pending' (anew missing inserted listed) = inserted.there

pub visits_keep : (node : ℕ) (set pending set' pending' : List ℕ) → Visits node set pending set' pending'
    → (other : ℕ) → holds set other ≡ true → holds set' other ≡ true
visits_keep node set pending set' pending' (again held same listed) other was = subst (λ (s : List ℕ). holds s other ≡ true) (sym same) was
visits_keep node set pending set' pending' (anew missing inserted listed) other was = stays set set' node other inserted was

-- ---- How many are unseen

abbrev tally : Bool → ℕ
tally held = cond held 0 1

unseen_same : (set set' : List ℕ) (node n : ℕ) → IsInserted set node set' → n ≤ node → unseen set' n ≡ unseen set n
unseen_same set set' node zero inserted below = refl
unseen_same set set' node (suc n) inserted below =
    let same : holds set' n ≡ holds set n = inserted.others n (λ e. omega (arith, e)) in
    let more : unseen set' n ≡ unseen set n = unseen_same set set' node n inserted (omega arith) in
    ap (λ b. tally b + unseen set' n) same ∙ ap (λ m. tally (holds set n) + m) more

unseen_less : (set set' : List ℕ) (node n : ℕ) → IsInserted set node set' → holds set node ≡ false → node < n → unseen set' n + 1 ≡ unseen set n
unseen_less set set' node zero inserted missing below = absurd (omega arith)
unseen_less set set' node (suc n) inserted missing below =
    elim (cases_eq n node) [
      | inl same ↦
          let more : unseen set' n ≡ unseen set n = unseen_same set set' node n inserted (omega (arith, same)) in
          let now : holds set' n ≡ true = subst (λ (m : ℕ). holds set' m ≡ true) (sym same) inserted.there in
          let was : holds set n ≡ false = subst (λ (m : ℕ). holds set m ≡ false) (sym same) missing in
          let here : tally (holds set' n) ≡ 0 = ap tally now in
          let there : tally (holds set n) ≡ 1 = ap tally was in
          omega (arith, more, here, there)
      | inr differ ↦
          let more : unseen set' n + 1 ≡ unseen set n = unseen_less set set' node n inserted missing (omega (arith, differ)) in
          let same : tally (holds set' n) ≡ tally (holds set n) = ap tally (inserted.others n differ) in
          omega (arith, more, same)
    ]

pub visits_count : (node n : ℕ) (set pending set' pending' : List ℕ) → Visits node set pending set' pending' → node < n
    → unseen set' n + length pending' ≡ unseen set n + length pending
visits_count node n set pending set' pending' (again held same listed) below =
    ap (λ (s : List ℕ). unseen s n + length pending') same ∙ ap (λ (p : List ℕ). unseen set n + length p) listed
visits_count node n set pending set' pending' (anew missing inserted listed) below =
    let less : unseen set' n + 1 ≡ unseen set n = unseen_less set set' node n inserted missing below in
    let more : length pending' ≡ length pending + 1 = ap length listed ∙ length_push pending node in
    omega (arith, less, more)

-- ---- Steps

-- the first node alone
pub search_begins : (flow : Flow) (first : ℕ) (set set' pending' : List ℕ) → ((node : ℕ) → holds set node ≡ false) → Visits first set [] set' pending'
    → IsSearch flow first set' pending'
search_begins flow first set set' pending' none (again held same listed) = absurd (let e = sym (none first) ∙ held in cc)
search_begins flow first set set' pending' none (anew missing inserted listed) =
    let alone : (node : ℕ) → holds set' node ≡ true → node ≡ first =
    λ node held. elim (came set set' first node inserted held) [ inl was ↦ absurd (let e = sym (none node) ∙ was in cc) | inr same ↦ same ] in
    record {
      begun = inserted.there;
      sound = λ node held. begins node (alone node held);
      found = λ node is. subst (λ (n : ℕ). holds set' n ≡ true) (only node (subst (λ (p : List ℕ). Contains p node) listed is)) inserted.there;
      followed = λ node held. inl (subst (λ (p : List ℕ). Contains p node) (sym listed)
          (subst (λ (n : ℕ). Contains (first ∷ []) n) (sym (alone node held)) (Contains-push [] first)));
    }
  where
    only : (node : ℕ) → Contains ([] ++ first ∷ []) node → first ≡ node
    only node is = elim (Contains-push_cases [] first node is) [ inl none ↦ absurd (omega (arith, none.1)) | inr same ↦ same ]

-- the last pending node in first place
pub search_pops : (flow : Flow) (first node : ℕ) (set pending rest : List ℕ) → pending ≡ rest ++ node ∷ [] → IsSearch flow first set pending
    → IsSearch flow first set (node ∷ rest)
search_pops flow first node set pending rest listed before = record {
  begun = before.begun;
  sound = before.sound;
  found = λ other is. before.found other (back other is);
  followed = λ other held. elim (before.followed other held)
      [ inl is ↦ inl (forth other (subst (λ (p : List ℕ). Contains p other) listed is)) | inr done ↦ inr done ];
}
  where
    back : (other : ℕ) → Contains (node ∷ rest) other → Contains pending other
    back other is =
        subst (λ (p : List ℕ). Contains p other) (sym listed)
        (elim (Contains-append_cases (node ∷ []) rest other is) [
          | inl one ↦ Contains-append_right rest (node ∷ []) other one
          | inr more ↦ Contains-append_left rest (node ∷ []) other more
        ])

    forth : (other : ℕ) → Contains (rest ++ node ∷ []) other → Contains (node ∷ rest) other
    forth other is = elim (Contains-append_cases rest (node ∷ []) other is) [
      | inl more ↦ Contains-append_right (node ∷ []) rest other more
      | inr one ↦ Contains-append_left (node ∷ []) rest other one
    ]

-- what an edge of the node in first place leads to is visited
pub search_visits : (flow : Flow) (first node next : ℕ) (set pending set' pending' : List ℕ) → is_service flow node ≡ false → HasEdge flow node next
    → Visits next set pending set' pending' → IsSearch flow first set (node ∷ pending) → IsSearch flow first set' (node ∷ pending')
search_visits flow first node next set pending set' pending' plain leads (again held same listed) before =
    subst (λ (p : List ℕ). IsSearch flow first set' (node ∷ p)) (sym listed) (subst (λ (s : List ℕ). IsSearch flow first s (node ∷ pending)) (sym same) before)
search_visits flow first node next set pending set' pending' plain leads (anew missing inserted listed) before = record {
  begun = keeps first before.begun;
  sound = λ other held. elim (came set set' next other inserted held) [
    | inl was ↦ before.sound other was
    | inr same ↦ subst (IsInBlock flow first) (sym same) (along node next (before.sound node here) plain leads)
  ];
  found = λ other is. elim (Contains-push_cases (node ∷ pending) next other (listing other is)) [
    | inl was ↦ keeps other (before.found other was)
    | inr same ↦ subst (λ (n : ℕ). holds set' n ≡ true) same inserted.there
  ];
  followed = λ other held. elim (came set set' next other inserted held) [
    | inl was ↦ elim (before.followed other was) [
      | inl is ↦ inl (listed_too other (Contains-append_left (node ∷ pending) (next ∷ []) other is))
      | inr done ↦ inr (record { each = λ apart to edge. keeps to (done.each apart to edge) })
    ]
    | inr same ↦ inl (listed_too other (subst (λ (n : ℕ). Contains ((node ∷ pending) ++ next ∷ []) n) (sym same) (Contains-push (node ∷ pending) next)))
  ];
}
  where
    keeps : (other : ℕ) → holds set other ≡ true → holds set' other ≡ true
    keeps other was = stays set set' next other inserted was

    here : holds set node ≡ true
    here = before.found node (Contains-append_left (node ∷ []) pending node (Contains-push [] node))

    listing : (other : ℕ) → Contains (node ∷ pending') other → Contains ((node ∷ pending) ++ next ∷ []) other
    listing other is = subst (λ (p : List ℕ). Contains (node ∷ p) other) listed is

    listed_too : (other : ℕ) → Contains ((node ∷ pending) ++ next ∷ []) other → Contains (node ∷ pending') other
    listed_too other is = subst (λ (p : List ℕ). Contains (node ∷ p) other) (sym listed) is

-- the node in first place is followed
pub search_follows : (flow : Flow) (first node : ℕ) (set pending : List ℕ) → IsFollowed flow set node → IsSearch flow first set (node ∷ pending)
    → IsSearch flow first set pending
search_follows flow first node set pending done before = record {
  begun = before.begun;
  sound = before.sound;
  found = λ other is. before.found other (Contains-append_right (node ∷ []) pending other is);
  followed = λ other held. elim (before.followed other held) [
    | inl is ↦ elim (Contains-append_cases (node ∷ []) pending other is) [
      | inl one ↦ inr (subst (IsFollowed flow set) (same other one) done)
      | inr more ↦ inl more
    ]
    | inr followed ↦ inr followed
  ];
}
  where
    same : (other : ℕ) → Contains (node ∷ []) other → node ≡ other
    same other is = elim (Contains-push_cases [] node other is) [ inl none ↦ absurd (omega (arith, none.1)) | inr e ↦ e ]

-- nothing is pending
pub search_ends : (flow : Flow) (first : ℕ) (set : List ℕ) → IsSearch flow first set [] → (node : ℕ) → IsInBlock flow first node → holds set node ≡ true
search_ends flow first set ended node (begins _ same) = subst (λ (n : ℕ). holds set n ≡ true) (sym same) ended.begun
search_ends flow first set ended next (along node _ inside plain edge) =
    elim (ended.followed node (search_ends flow first set ended node inside)) [
      | inl none ↦ absurd (omega (arith, none.1))
      | inr done ↦ done.each plain next edge
    ]

-- ---- Edges, one after another

pub visiting_begins : (edges : List (Edge ℕ)) (set pending : List ℕ) → IsVisiting edges 0 set pending set pending
visiting_begins edges set pending = record {
  search = λ flow first node plain edges before. before;
  held = λ k next below leads. absurd (omega arith);
}

-- what an edge within the list leads to
pub leads_at : (edges : List (Edge ℕ)) (count : ℕ) (d : Edge ℕ) (next : ℕ) → count < length edges → (get_or edges count d).to ≡ Some next
    → LeadsAt edges count next
leads_at edges count d next inside to = (get_or edges count d, slice_get-get_or edges count d inside, to)

led_to : (edges : List (Edge ℕ)) (count : ℕ) (d : Edge ℕ) (next : ℕ) → count < length edges → LeadsAt edges count next → (get_or edges count d).to ≡ Some next
led_to edges count d next inside leads = let e = sym (slice_get-get_or edges count d inside) ∙ leads.1 in let f = leads.2 in cc

-- an edge that leads to no node
pub visiting_passes : (edges : List (Edge ℕ)) (count : ℕ) (d : Edge ℕ) (set pending set' pending' : List ℕ) → count < length edges
    → ((next : ℕ) → (get_or edges count d).to ≡ Some next → ⊥)
    → IsVisiting edges count set pending set' pending' → IsVisiting edges (count + 1) set pending set' pending'
visiting_passes edges count d set pending set' pending' inside nowhere visiting = record {
  search = visiting.search;
  held = λ k next below leads. elim (cases_eq k count) [
    | inl same ↦ absurd (nowhere next (led_to edges count d next inside (subst (λ (i : ℕ). LeadsAt edges i next) same leads)))
    | inr differ ↦ visiting.held k next (omega (arith, differ)) leads
  ];
}

-- an edge whose target is visited
pub visiting_visits : (edges : List (Edge ℕ)) (count : ℕ) (d : Edge ℕ) (next : ℕ) (set pending set' pending' set'' pending'' : List ℕ)
    → count < length edges → (get_or edges count d).to ≡ Some next → Visits next set' pending' set'' pending''
    → IsVisiting edges count set pending set' pending' → IsVisiting edges (count + 1) set pending set'' pending''
visiting_visits edges count d next set pending set' pending' set'' pending'' inside to visits visiting = record {
  search = λ flow first node plain edges_are before.
      search_visits flow first node next set' pending' set'' pending'' plain (edges_are count next (leads_at edges count d next inside to)) visits
      (visiting.search flow first node plain edges_are before);
  held = λ k other below leads. elim (cases_eq k count) [
    | inl same ↦ subst (λ (n : ℕ). holds set'' n ≡ true) (there other (subst (λ (i : ℕ). LeadsAt edges i other) same leads))
        (visits_hold next set' pending' set'' pending'' visits)
    | inr differ ↦ visits_keep next set' pending' set'' pending'' visits other (visiting.held k other (omega (arith, differ)) leads)
  ];
}
  where
    there : (other : ℕ) → LeadsAt edges count other → next ≡ other
    there other leads = let e = led_to edges count d other inside leads in cc

-- ---- One node

-- the nodes of a block are among the nodes
pub members_exist : (flow : Flow) (first count : ℕ) → ((node next : ℕ) → HasEdge flow node next → next < count) → first < count
    → (node : ℕ) → IsInBlock flow first node → node < count
members_exist flow first count edges exists node (begins _ same) = omega (arith, same)
members_exist flow first count edges exists next (along node _ inside plain edge) = edges node next edge

-- an ECALL isn't followed
pub look_passes : (flow : Flow) (node : ℕ) (leaving : Leaving) (set pending : List ℕ) → slice_get flow.leaving node ≡ Some leaving
    → is_some leaving.service ≡ true
    → (first : ℕ) → IsSearch flow first set (node ∷ pending) → IsSearch flow first set pending
look_passes flow node leaving set pending at serves first before =
    let service : is_service flow node ≡ true = ap (λ o. option_map_or (λ (l : Leaving). is_some l.service) o false) at ∙ serves in
    search_follows flow first node set pending (record { each = λ plain. absurd (let e = sym service ∙ plain in cc) }) before

pub edge_of : (flow : Flow) (node : ℕ) (leaving : Leaving) → slice_get flow.leaving node ≡ Some leaving → (k next : ℕ) → LeadsAt leaving.edges k next
    → HasEdge flow node next
edge_of flow node leaving at k next leads = record {
  number = k;
  edge = leads.0;
  leaves = ap (λ o. slice_get (option_map_or (λ (l : Leaving). l.edges) o []) k) at ∙ leads.1;
  arrives = leads.2;
}

abbrev of_edge : (flow : Flow) (node : ℕ) (leaving : Leaving) → slice_get flow.leaving node ≡ Some leaving → (next : ℕ) → (edge : HasEdge flow node next)
    → LeadsAt leaving.edges edge.number next
of_edge flow node leaving at next edge =
    (edge.edge, ap (λ o. slice_get (option_map_or (λ (l : Leaving). l.edges) o []) edge.number) (sym at) ∙ edge.leaves, edge.arrives)

-- any other node is followed along all its edges
pub look_follows : (flow : Flow) (node : ℕ) (leaving : Leaving) (set pending set' pending' : List ℕ) → slice_get flow.leaving node ≡ Some leaving
    → is_some leaving.service ≡ false → IsVisiting leaving.edges (length leaving.edges) set pending set' pending'
    → (first : ℕ) → IsSearch flow first set (node ∷ pending) → IsSearch flow first set' pending'
look_follows flow node leaving set pending set' pending' at plain visiting first before =
    let apart : is_service flow node ≡ false = ap (λ o. option_map_or (λ (l : Leaving). is_some l.service) o false) at ∙ plain in
    let after : IsSearch flow first set' (node ∷ pending') = visiting.search flow first node apart (edge_of flow node leaving at) before in
    search_follows flow first node set' pending' (record {
      each = λ _ next edge.
          visiting.held edge.number next (slice_get_within leaving.edges edge.number edge.edge (of_edge flow node leaving at next edge).1)
          (of_edge flow node leaving at next edge);
    }) after

-- what follows where a call went well
pub on_ok : {A X : Type 0} (r : Result A X) {P Q : Type 0} → OnOk r P → (P → Q) → OnOk r Q
on_ok (Ok a) p f = f p
on_ok (Err e) p f = tt
