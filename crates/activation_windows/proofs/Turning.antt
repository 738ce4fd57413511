-- How a step goes round in a loop by its turn: within an invocation, by a call, or by a return.
use Rattle.std.proofs.Common.{◌≡◌, ℕ, zero, suc, ◌+◌, ◌-◌, ◌≤◌, Bool, true, false, List, [], ◌∷◌, ◌++◌, length, take, Option, Some, None, refl, sym, ◌∙◌, ap, subst, arith}
use Rattle.std.specs.Prelude.{◌==◌, ◌&&◌, not, slice_get, option_map}
use Rattle.std.specs.Option.{option_map_or}
use Rattle.std.proofs.lemmas.Bool.{and_parts}
use Rattle.std.proofs.lemmas.List.{length-append}
use Rattle.std.proofs.lemmas.Option.{none-some, same_Some}
use Rattle.timing_file.specs.declared.timing.Loop.{Loop}
use Rattle.rv32_machine.specs.declared.turns.ServiceAt.{ServiceAt}
use Rattle.rv32_machine.specs.declared.turns.Turn.{Turn}
use Rattle.rv32_machine.specs.declared.turns.Turn.TheVariants.{Onward, Branching, Jumping, Calling, Returning, Serving, Indirect, Breaking}
use Rattle.rv32_machine.specs.ContextStep.{IsPaired, calls_after}
use Rattle.rv32_machine.specs.Execution.{following}
use Rattle.osek_machine.specs.Loops.{begun, innermost, moved_on, returned}
use Rattle.flow_graph.specs.declared.edge.Edge.{Edge}
use Rattle.flow_graph.specs.declared.edge.EdgeKind.{EdgeKind}
use Rattle.flow_graph.specs.declared.edge.EdgeKind.TheVariants as kinds
use Rattle.flow_graph.specs.declared.node.Node.{Node}
use Rattle.flow_graph.specs.Faults.{is_local}
use Rattle.flow_graph.specs.Graph.{edge_to, edges_for, returned_node, edges_by}
use Rattle.wcet_atomic_blocks.specs.Loops.{in_range, same_string, is_inside, is_back, is_entering, comes_from_outside, returns_into}
use Rattle.activation_windows.proofs.Beyond.{beyond}
use Rattle.activation_windows.proofs.Rounds.{GoesRound, call_round, return_round, local_edge, inside_where, not_both, outside_local}

-- ---- Kinds of edges

-- the kind of the edges that a turn has
abbrev pub FitsTurn : Turn → EdgeKind → Type 0
FitsTurn (Calling target) kind = kind ≡ kinds.Call
FitsTurn Returning kind = kind ≡ kinds.Return
FitsTurn turn kind = is_local kind ≡ true

only_kind : (one edge : Edge Node) (i : ℕ) → slice_get (one ∷ []) i ≡ Some edge → edge.kind ≡ one.kind
only_kind one edge zero at = ap (λ (e : Edge Node). e.kind) (sym (same_Some one edge at))
only_kind one edge (suc i) at = absurd cc

pub kind_fits : (service : Option ServiceAt) (node : Node) (turn : Turn) (i : ℕ) (edge : Edge Node)
    → slice_get (edges_by service node turn) i ≡ Some edge → FitsTurn turn edge.kind
kind_fits service node Onward i edge at = ap is_local (only_kind _ edge i at)
kind_fits service node (Branching target) zero edge at = ap (λ (e : Edge Node). is_local e.kind) (sym (same_Some _ edge at))
kind_fits service node (Branching target) (suc i) edge at = ap is_local (only_kind _ edge i at)
kind_fits service node (Jumping target) i edge at = ap is_local (only_kind _ edge i at)
kind_fits service node (Calling target) i edge at = only_kind _ edge i at
kind_fits service node Returning i edge at = behind (slice_get node.sites (length node.sites - 1)) at
  where
    behind : (site : Option ℕ) → slice_get (edges_for (λ s. edge_to kinds.Return (returned_node node s)) site) i ≡ Some edge → edge.kind ≡ kinds.Return
    behind None there = absurd (none-some edge there)
    behind (Some s) there = only_kind _ edge i there
kind_fits None node Serving i edge at = absurd (none-some edge at)
kind_fits (Some service) node Serving i edge at = ap is_local (only_kind _ edge i at)
kind_fits service node Indirect i edge at = absurd (none-some edge at)
kind_fits service node Breaking i edge at = absurd (none-some edge at)

-- ---- The innermost open call

split_at : (xs : List ℕ) (n x : ℕ) → length xs ≡ suc n → slice_get xs n ≡ Some x → take n xs ++ x ∷ [] ≡ xs
split_at [] n x count at = absurd (none-some x at)
split_at (y ∷ []) zero x count at = ap (λ z. z ∷ []) (sym (same_Some y x at))
split_at (y ∷ (z ∷ xs)) zero x count at = absurd (omega arith)
split_at (y ∷ xs) (suc n) x count at = ap (λ zs. y ∷ zs) (split_at xs n x (omega arith) at)

some_in : (xs : List ℕ) (n x : ℕ) → slice_get xs n ≡ Some x → 1 ≤ length xs
some_in [] n x at = absurd (none-some x at)
some_in (y ∷ xs) n x at = omega arith

pub last_call : (calls : List ℕ) (site : ℕ) → slice_get calls (length calls - 1) ≡ Some site → take (length calls - 1) calls ++ site ∷ [] ≡ calls
last_call calls site at = let some = some_in calls (length calls - 1) site at in split_at calls (length calls - 1) site (omega arith) at

pub return_site : (calls : List ℕ) (next : ℕ) → IsPaired Returning calls next
    → (site : ℕ) × (slice_get calls (length calls - 1) ≡ Some site) × (next ≡ following site)
return_site calls next paired = found (slice_get calls (length calls - 1)) refl paired
  where
    found : (site : Option ℕ) → slice_get calls (length calls - 1) ≡ site → option_map following site ≡ Some next
        → (s : ℕ) × (slice_get calls (length calls - 1) ≡ Some s) × (next ≡ following s)
    found None at e = absurd (none-some next e)
    found (Some s) at e = (s, at, sym (same_Some (following s) next e))

-- ---- The laps behind a turn

abbrev pub turned_by : Loop → Turn → Node → Node → List ℕ → List ℕ
turned_by l (Calling place) source target laps = begun laps
turned_by l Returning source target laps = returned l (innermost source.sites) laps
turned_by l turn source target laps = moved_on l source.address target.address laps

moved_count : (l : Loop) (from to : ℕ) (laps : List ℕ) → length (moved_on l from to laps) ≡ length laps
moved_count l from to [] = refl
moved_count l from to (lap ∷ laps) = omega arith

pub moved_length : (l : Loop) (from to : ℕ) (laps : List ℕ) → length (moved_on l from to laps) ≡ length laps
moved_length l from to laps = moved_count l from to laps

returned_count : (l : Loop) (site : ℕ) (laps : List ℕ) → 1 ≤ length laps → length (returned l (Some site) laps) + 1 ≡ length laps
returned_count l site [] some = absurd (omega arith)
returned_count l site (lap ∷ laps) some = let same = moved_count l site (following site) laps in omega arith

returns_count : (l : Loop) (calls after : List ℕ) (next : ℕ) (laps : List ℕ) → after ≡ take (length calls - 1) calls → IsPaired Returning calls next
    → length laps ≡ length calls + 1 → length (returned l (innermost calls) laps) ≡ length after + 1
returns_count l calls after next laps are paired count =
    let site = return_site calls next paired in
    let split = ap length (last_call calls site.0 site.1) in
    let parts = length-append (take (length calls - 1) calls) (site.0 ∷ []) in
    let same = ap length are in
    let fewer = returned_count l site.0 laps (omega arith) in
    ap (λ (o : Option ℕ). length (returned l o laps)) site.1 ∙ omega arith

-- there is a count for each open call, and one for the context's own
pub turned_count : (l : Loop) (turn : Turn) (source target : Node) (laps : List ℕ) → target.sites ≡ calls_after turn source.address source.sites
    → IsPaired turn source.sites target.address → length laps ≡ length source.sites + 1 → length (turned_by l turn source target laps) ≡ length target.sites + 1
turned_count l (Calling place) source target laps are paired count =
    let same = ap length are in let parts = length-append source.sites (source.address ∷ []) in omega arith
turned_count l Returning source target laps are paired count = returns_count l source.sites target.sites target.address laps are paired count
turned_count l turn source target laps are paired count =
    let same = ap length are in let moved = moved_count l source.address target.address laps in omega arith

-- ---- Turns

call_edge : (head : Node) (l : Loop) (source target : Node) (kind : EdgeKind) (laps : List ℕ) → (head.context == target.context) ≡ true → kind ≡ kinds.Call
    → target.sites ≡ source.sites ++ source.address ∷ [] → is_entering head l source kind target ≡ false
    → GoesRound l source.address target.address (beyond head.sites source.sites) (beyond head.sites target.sites) laps (begun laps)
    (is_back head l source kind target)
call_edge head l source target kind laps there call are enters =
    subst (λ (b : Bool). GoesRound l source.address target.address (beyond head.sites source.sites) (beyond head.sites target.sites) laps (begun laps) b)
    (sym (ap (λ (k : EdgeKind). is_back head l source k target) call))
    (subst (λ (ss : List ℕ). GoesRound l source.address target.address (beyond head.sites source.sites) (beyond head.sites ss) laps (begun laps) false)
    (sym are) (call_round l source.address target.address head.sites source.sites laps (λ at. outside (ap (beyond head.sites) are
    ∙ at) (in_range l target.address) refl)))
  where
    outside : beyond head.sites target.sites ≡ Some [] → (inside : Bool) → in_range l target.address ≡ inside → inside ≡ false
    outside at false e = refl
    outside at true e =
        let comes : comes_from_outside head l source kind ≡ false =
        not_both (is_inside head l target) (comes_from_outside head l source kind) enters (inside_where head l target there at e) in
        absurd (let wrong : true ≡ false = sym (ap (comes_from_outside head l source) call) ∙ comes in cc)

return_edge : (head : Node) (l : Loop) (source target : Node) (kind : EdgeKind) (laps : List ℕ) → (head.context == target.context) ≡ true
    → kind ≡ kinds.Return → target.sites ≡ take (length source.sites - 1) source.sites → IsPaired Returning source.sites target.address
    → length laps ≡ length source.sites + 1 → is_entering head l source kind target ≡ false
    → GoesRound l source.address target.address (beyond head.sites source.sites) (beyond head.sites target.sites) laps
    (returned l (innermost source.sites) laps) (is_back head l source kind target)
return_edge head l source target kind laps there back are paired count enters =
    let site = return_site source.sites target.address paired in
    let split : target.sites ++ site.0 ∷ [] ≡ source.sites = ap (λ (ss : List ℕ). ss ++ site.0 ∷ []) are ∙ last_call source.sites site.0 site.1 in
    let some = some_in source.sites (length source.sites - 1) site.0 site.1 in
    subst (λ (b : Bool). GoesRound l source.address target.address (beyond head.sites source.sites) (beyond head.sites target.sites) laps
    (returned l (innermost source.sites) laps) b) (sym (ap (λ (k : EdgeKind). is_back head l source k target) back))
    (subst (λ (o : Option ℕ). GoesRound l source.address target.address (beyond head.sites source.sites) (beyond head.sites target.sites) laps
    (returned l o laps) false) (sym site.1)
    (subst (λ (ss : List ℕ). GoesRound l source.address target.address (beyond head.sites ss) (beyond head.sites target.sites) laps
    (returned l (Some site.0) laps) false) split
    (return_round l source.address target.address site.0 head.sites target.sites laps (omega arith)
    (λ at inside. from_inside site.0 site.1 at inside (in_range l site.0) refl) site.2)))
  where
    from_inside : (site : ℕ) → slice_get source.sites (length source.sites - 1) ≡ Some site → beyond head.sites target.sites ≡ Some []
        → in_range l target.address ≡ true → (inside : Bool) → in_range l site ≡ inside → inside ≡ true
    from_inside site last at e true is = refl
    from_inside site last at e false is =
        let comes : comes_from_outside head l source kind ≡ false =
        not_both (is_inside head l target) (comes_from_outside head l source kind) enters (inside_where head l target there at e) in
        let into : returns_into l source ≡ false = ap (λ (o : Option ℕ). option_map_or (in_range l) o false) last ∙ is in
        absurd (let wrong : true ≡ false = sym (ap (comes_from_outside head l source) back ∙ ap not into) ∙ comes in cc)

pub turn_edge : (head : Node) (l : Loop) (source target : Node) (kind : EdgeKind) (turn : Turn) (laps : List ℕ)
    → (head.context == source.context) ≡ true → (head.context == target.context) ≡ true → FitsTurn turn kind
    → target.sites ≡ calls_after turn source.address source.sites → IsPaired turn source.sites target.address
    → length laps ≡ length source.sites + 1 → is_entering head l source kind target ≡ false
    → GoesRound l source.address target.address (beyond head.sites source.sites) (beyond head.sites target.sites) laps
    (turned_by l turn source target laps) (is_back head l source kind target)
turn_edge head l source target kind (Calling place) laps here there fits are paired count enters =
    call_edge head l source target kind laps there fits are enters
turn_edge head l source target kind Returning laps here there fits are paired count enters =
    return_edge head l source target kind laps there fits are paired count enters
turn_edge head l source target kind turn laps here there fits are paired count enters =
    local_edge head l source target kind laps here there fits are (omega arith) enters

-- an edge that enters isn't one back
not_back_inside : (head : Node) (l : Loop) (source target : Node) (kind : EdgeKind) → is_local kind ≡ true
    → is_entering head l source kind target ≡ true → (back : Bool) → is_back head l source kind target ≡ back → back ≡ false
not_back_inside head l source target kind local enters false is = refl
not_back_inside head l source target kind local enters true is =
    let parts = and_parts (is_local kind && is_inside head l source && same_string head target) (target.address == l.from) is in
    let first = and_parts (is_local kind && is_inside head l source) (same_string head target) parts.0 in
    let inner = and_parts (is_local kind) (is_inside head l source) first.0 in
    let inside = and_parts (same_string head source) (in_range l source.address) inner.1 in
    let comes = and_parts (is_inside head l target) (comes_from_outside head l source kind) enters in
    let outside = and_parts (same_string head source) (not (in_range l source.address)) (sym (outside_local head l source kind local) ∙ comes.1) in
    absurd (let wrong : true ≡ false = sym outside.1 ∙ ap not inside.1 in cc)

pub enters_not_back : (head : Node) (l : Loop) (source target : Node) (kind : EdgeKind)
    → is_entering head l source kind target ≡ true → is_back head l source kind target ≡ false
enters_not_back head l source target kinds.Call enters = refl
enters_not_back head l source target kinds.Return enters = refl
enters_not_back head l source target kinds.Straight enters = not_back_inside head l source target kinds.Straight refl enters _ refl
enters_not_back head l source target kinds.Taken enters = not_back_inside head l source target kinds.Taken refl enters _ refl
enters_not_back head l source target kinds.Jump enters = not_back_inside head l source target kinds.Jump refl enters _ refl
enters_not_back head l source target kinds.Service enters = not_back_inside head l source target kinds.Service refl enters _ refl

-- an edge back is one of the loop's context
pub back_inside : (head : Node) (l : Loop) (source target : Node) (kind : EdgeKind) → is_back head l source kind target ≡ true
    → is_inside head l source ≡ true
back_inside head l source target kind is =
    let parts = and_parts (is_local kind && is_inside head l source && same_string head target) (target.address == l.from) is in
    let first = and_parts (is_local kind && is_inside head l source) (same_string head target) parts.0 in
    (and_parts (is_local kind) (is_inside head l source) first.0).1
