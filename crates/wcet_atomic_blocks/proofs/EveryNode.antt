-- That every node lies in a block.
use Rattle.std.proofs.Common.{◌≡◌, ℕ, suc, zero, ◌<◌, inl, inr, Bool, true, false, cond, List, [], ◌∷◌, length, get_or, arith, ap, ◌∙◌, subst, sym, refl, Option, Some, None, Less, Equal}
use Rattle.std.specs.Prelude.{◌==◌, ◌&&◌, nat_eq, slice_get, is_some, option_map, option_and_then, IsSomeAnd}
use Rattle.std.specs.List.Sorted.{IsStrictlySortedBy}
use Rattle.std.specs.Option.{option_map_or}
use Rattle.std.proofs.lemmas.Bool.{cases_lt, eqb-true}
use Rattle.std.proofs.lemmas.Cmp.{tied_itself}
use Rattle.std.proofs.lemmas.List.{nil_from_length}
use Rattle.std.proofs.lemmas.Map.Keys.{Less-from_sorted}
use Rattle.std.proofs.lemmas.Option.{slice_get-get_or, slice_get_within, get_or_from_slice_get}
use Rattle.rv32_decode.specs.declared.instruction.Insn.{Insn}
use Rattle.rv32_decode.specs.declared.instruction.Insn.TheVariants.{Ecall}
use Rattle.rv32_machine.specs.declared.turns.ServiceAt.{ServiceAt}
use Rattle.rv32_machine.specs.declared.turns.Turn.{Turn}
use Rattle.rv32_machine.specs.declared.turns.Turn.TheVariants.{Serving}
use Rattle.rv32_machine.specs.Places.{service_of, service_at, pair_at, turn_of, turn_at}
use Rattle.flow_graph.specs.declared.edge.Edge.{Edge}
use Rattle.flow_graph.specs.declared.flow.Leaving.{Leaving}
use Rattle.flow_graph.specs.declared.node.Node.{Node}
use Rattle.flow_graph.specs.Faults.{is_entry_of, entry_in, IsNode, entry, along}
use Rattle.flow_graph.specs.Graph.{Program, program_of, entries_of, node_cmp, service_edge, edges_by, edges_of}
use Rattle.flow_graph.specs.Judging.{IsEdge, IsTarget, IsLeaving}
use Rattle.flow_graph.proofs.Nodes.{node_total}
use Rattle.wcet_atomic_blocks.specs.declared.block.Block.{Block}
use Rattle.wcet_atomic_blocks.specs.NodeSets.{holds}
use Rattle.wcet_atomic_blocks.specs.Blocks.{is_service, onward, successor, HasEdge}
use Rattle.wcet_atomic_blocks.specs.Plants.{PlantData, IsPlant}
use Rattle.wcet_atomic_blocks.specs.PlantLaws.{FirstIsInside, BlocksAreClosed, BeginsAtEntry, EntriesBegin, BeginsBehind, AftersBegin, ServicesHaveBlocks, HasNode, EveryNodeLies}
use Rattle.wcet_atomic_blocks.proofs.GraphFacts.{beside_first, context_exists}
use Rattle.wcet_atomic_blocks.proofs.PlantFacts.{first_is_inside, blocks_are_closed, entries_begin, afters_begin, services_have_blocks}

abbrev program_in : PlantData → Program
program_in plant = program_of plant.image plant.system plant.timing

-- ---- A node has one number

not_before : (nodes : List Node) (i j : ℕ) (node : Node) → IsStrictlySortedBy node_cmp nodes → slice_get nodes i ≡ Some node → slice_get nodes j ≡ Some node
    → i < j → ⊥
not_before nodes i j node order at at' before =
    let less : node_cmp (get_or nodes i node) (get_or nodes j node) ≡ Less =
    Less-from_sorted node_cmp nodes i j node order before (slice_get_within nodes j node at') in
    let same : node_cmp node node ≡ Less =
    ap (λ n. node_cmp n node) (sym (get_or_from_slice_get nodes i node node at))
    ∙ ap (λ n. node_cmp (get_or nodes i node) n) (sym (get_or_from_slice_get nodes j node node at')) ∙ less in
    let tied : node_cmp node node ≡ Equal = tied_itself node_total node in
    let both : Less ≡ Equal = sym same ∙ tied in cc

one_number : (nodes : List Node) (i j : ℕ) (node : Node) → IsStrictlySortedBy node_cmp nodes → slice_get nodes i ≡ Some node → slice_get nodes j ≡ Some node
    → i ≡ j
one_number nodes i j node order at at' =
    elim (cases_lt i j) [
      | inl before ↦ absurd (not_before nodes i j node order at at' before)
      | inr past ↦ elim (cases_lt j i) [
        | inl after ↦ absurd (not_before nodes j i node order at' at after)
        | inr too ↦ omega (arith, past, too)
      ]
    ]

-- ---- Entries

both_true : (a b : Bool) → a && b ≡ true → (a ≡ true) × (b ≡ true)
both_true true b h = (refl, h)
both_true false b h = absurd cc

entry_parts : (entries : List (Option ℕ)) (node : Node) → is_entry_of entries node ≡ true → (node.sites ≡ [])
    × (entry_in entries node.context ≡ Some node.address)
entry_parts entries node is =
    let parts = both_true (length node.sites == 0) (option_map_or (nat_eq node.address) (entry_in entries node.context) false) is in
    (nil_from_length node.sites (eqb-true (length node.sites) 0 parts.0), there (entry_in entries node.context) parts.1)
  where
    there : (o : Option ℕ) → option_map_or (nat_eq node.address) o false ≡ true → o ≡ Some node.address
    there None h = absurd cc
    there (Some a) h = ap Some (sym (eqb-true node.address a h))

entry_same : (entries : List (Option ℕ)) (a b : Node) → a.context ≡ b.context → is_entry_of entries a ≡ true → is_entry_of entries b ≡ true → a ≡ b
entry_same entries a b same is_a is_b =
    let of_a = entry_parts entries a is_a in let of_b = entry_parts entries b is_b in
    let sites : a.sites ≡ b.sites = of_a.0 ∙ sym of_b.0 in
    let found : Some a.address ≡ Some b.address = sym of_a.1 ∙ ap (entry_in entries) same ∙ of_b.1 in
    let address : a.address ≡ b.address = cc in
    ap (λ c. record { context = c; sites = a.sites; address = a.address }) same
    ∙ ap (λ s. record { context = b.context; sites = s; address = a.address }) sites
    ∙ ap (λ (d : ℕ). record { context = b.context; sites = b.sites; address = d }) address

-- ---- Services

ecall_of : (a n : Option ℕ) (i : Option Insn) (s : ServiceAt) → service_of a n i ≡ Some s → i ≡ Some Ecall
ecall_of None n i s e = absurd cc
ecall_of (Some a) None i s e = absurd cc
ecall_of (Some a) (Some n) None s e = absurd cc
ecall_of (Some a) (Some n) (Some Ecall) s e = refl
ecall_of (Some a) (Some n) (Some i) s e = absurd cc

one_edge : (program : Program) (node : Node) (service : ServiceAt) → service_at program.code node.address ≡ Some service
    → edges_of program.code node ≡ service_edge node service ∷ []
one_edge program node service at =
    let ecall : program.code node.address ≡ Some Ecall = ecall_of _ _ (program.code node.address) service at in
    let turn : turn_at program.code node.address ≡ Some Serving = ap (option_map (turn_of (pair_at program.code node.address) node.address)) ecall in
    ap (λ (t : Option Turn). option_map_or (edges_by (service_at program.code node.address) node) t []) turn
    ∙ ap (λ (s : Option ServiceAt). edges_by s node Serving) at

at_zero : (e edge : Edge Node) (k : ℕ) → slice_get (e ∷ []) k ≡ Some edge → k ≡ 0
at_zero e edge zero at = refl
at_zero e edge (suc k) at = absurd cc

-- ---- Every node

-- what is there, with its fact
found : {X : Type 0} (o : Option X) (P : X → Type 0) → IsSomeAnd o P → (x : X) × (o ≡ Some x) × P x
found (Some x) P p = (x, refl, p)
found None P p = absurd p

some_block : (plant : PlantData) (number : ℕ) (block : Block) (node : ℕ) → slice_get plant.blocks.blocks number ≡ Some block → holds block.nodes node ≡ true
    → HasNode plant node number
some_block plant number block node at held = subst (λ o. IsSomeAnd o (λ (b : Block). holds b.nodes node ≡ true)) (sym at) held

lies : (plant : PlantData) → IsPlant plant → (node : Node) → IsNode (program_in plant) node → (number : ℕ) → slice_get plant.flow.nodes number ≡ Some node
    → (block : ℕ) × HasNode plant number block
unfolding EntriesBegin AftersBegin ServicesHaveBlocks FirstIsInside BlocksAreClosed
lies plant is node (entry _ is_entry) number at =
    let inside = context_exists (program_in plant) node (entry node is_entry) in
    let named = found (slice_get plant.blocks.entries node.context) (λ n. IsSomeAnd (slice_get plant.blocks.blocks n) (BeginsAtEntry plant node.context))
    (entries_begin plant is node.context inside) in
    let there = found (slice_get plant.blocks.blocks named.0) (BeginsAtEntry plant node.context) named.2 in
    let first = there.2.first in
    let same : first.node ≡ node = entry_same (entries_of plant.image plant.system) first.node node first.context_is first.is_entry is_entry in
    let number_is : there.0.begin.first ≡ number =
    one_number plant.flow.nodes there.0.begin.first number node is.graph.graph.nodes.are.order (first.stands ∙ ap Some same) at in (
      named.0,
      some_block plant named.0 there.0 number there.1
          (subst (λ (n : ℕ). holds there.0.nodes n ≡ true) number_is (first_is_inside plant is named.0 there.0 there.1)),
    )
lies plant is next (along node _ reached leads) number at =
    let stands = is.graph.graph.nodes.all node reached in
    let here : slice_get plant.flow.nodes stands.0 ≡ Some node = slice_get-get_or plant.flow.nodes stands.0 node stands.1 ∙ ap Some stands.2 in
    let left = beside_first (IsLeaving (program_in plant) plant.flow.nodes) plant.flow.nodes plant.flow.leaving stands.0 node is.graph.graph.leaving here in
    let numbered = beside_first (IsEdge plant.flow.nodes) (edges_of (program_in plant).code node) left.0.edges leads.number leads.edge left.2.edges_are
    leads.leaves in
    let to = target_number leads.edge.to numbered.0.to leads.arrives numbered.2.to_is in
    let to_is : numbered.0.to ≡ Some number = to.1 ∙ ap Some (one_number plant.flow.nodes to.0 number next is.graph.graph.nodes.are.order to.2 at) in
    go stands.0 left.0 left.1 numbered.0 numbered.1 to_is (lies plant is node reached stands.0 here) (is_some left.0.service) refl
    (λ serves. at_start left.0 left.2 serves)
  where
    target_number : (to : Option Node) (numbered : Option ℕ) → to ≡ Some next → IsTarget plant.flow.nodes to numbered
        → (j : ℕ) × (numbered ≡ Some j) × (slice_get plant.flow.nodes j ≡ Some next)
    target_number None numbered e is = absurd cc
    target_number (Some t) None e is = absurd is
    target_number (Some t) (Some j) e is = (j, refl, is ∙ e)

    at_start : (leaving : Leaving) → IsLeaving (program_in plant) plant.flow.nodes node leaving → is_some leaving.service ≡ true → leads.number ≡ 0
    at_start leaving left serves = start (service_at (program_in plant).code node.address) refl (ap is_some (sym left.service_is) ∙ serves)
      where
        start : (o : Option ServiceAt) → service_at (program_in plant).code node.address ≡ o → is_some o ≡ true → leads.number ≡ 0
        start None e h = absurd cc
        start (Some service) e h =
            at_zero (service_edge node service) leads.edge leads.number
            (ap (λ es. slice_get es leads.number) (sym (one_edge (program_in plant) node service e)) ∙ leads.leaves)

    go : (i : ℕ) (leaving : Leaving) → slice_get plant.flow.leaving i ≡ Some leaving → (edge : Edge ℕ) → slice_get leaving.edges leads.number ≡ Some edge
        → edge.to ≡ Some number
        → (block : ℕ) × HasNode plant i block → (serves : Bool) → is_some leaving.service ≡ serves → (is_some leaving.service ≡ true → leads.number ≡ 0)
        → (block : ℕ) × HasNode plant number block
    go i leaving left edge there to block false plain zero_if =
        let held = found (slice_get plant.blocks.blocks block.0) (λ (b : Block). holds b.nodes i ≡ true) block.1 in
        let has : HasEdge plant.flow i number = record {
          number = leads.number;
          edge = edge;
          leaves = ap (λ o. slice_get (option_map_or (λ (l : Leaving). l.edges) o []) leads.number) left ∙ there;
          arrives = to;
        } in
        let no : is_service plant.flow i ≡ false = ap (λ o. option_map_or (λ (l : Leaving). is_some l.service) o false) left ∙ plain in
        (block.0, some_block plant block.0 held.0 number held.1 (blocks_are_closed plant is block.0 held.0 i number held.1 held.2 no has))
    go i leaving left edge there to block true serves zero_if =
        let first : slice_get leaving.edges 0 ≡ Some edge = ap (slice_get leaving.edges) (sym (zero_if serves)) ∙ there in
        let goes : successor plant.flow i ≡ Some number =
        ap (option_and_then onward) left ∙ ap (λ b. cond b (option_and_then (λ (e : Edge ℕ). e.to) (slice_get leaving.edges 0)) None) serves
        ∙ ap (option_and_then (λ (e : Edge ℕ). e.to)) first ∙ to in
        let after = found (slice_get plant.blocks.afters i) (λ a. a ≡ None → ⊥) (services_have_blocks plant is i number goes) in
        behind i goes after.0 after.1 after.2
      where
        behind : (i : ℕ) → successor plant.flow i ≡ Some number → (a : Option ℕ) → slice_get plant.blocks.afters i ≡ Some a → (a ≡ None → ⊥) → (block : ℕ)
            × HasNode plant number block
        behind i goes None at' some = absurd (some refl)
        behind i goes (Some b) at' some =
            let there = found (slice_get plant.blocks.blocks b) (BeginsBehind plant i) (afters_begin plant is i b at') in
            let e : Some there.0.begin.first ≡ Some number = sym there.2.first ∙ goes in
            let same : there.0.begin.first ≡ number = cc in
            (b, some_block plant b there.0 number there.1 (subst (λ (n : ℕ). holds there.0.nodes n ≡ true) same (first_is_inside plant is b there.0 there.1)))

pub every_node_lies : (plant : PlantData) → IsPlant plant → EveryNodeLies plant
unfolding EveryNodeLies
every_node_lies plant is number inside =
    let d : Node = record { context = 0; sites = []; address = 0 } in
    let node = get_or plant.flow.nodes number d in
    lies plant is node (is.graph.graph.nodes.are.reached number d inside) number (slice_get-get_or plant.flow.nodes number d inside)
