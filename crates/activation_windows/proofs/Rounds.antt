-- How an edge goes round in a loop: where it ends inside without coming from outside, it began inside, and the laps of the
-- invocation count each edge back.
use Rattle.std.proofs.Common.{◌≡◌, ℕ, suc, ◌+◌, ◌≤◌, Bool, true, false, cond, List, [], ◌∷◌, ◌++◌, inl, inr, length, Option, Some, None, refl, sym, ◌∙◌, ap, subst, arith}
use Rattle.std.specs.Prelude.{◌==◌, ◌&&◌, not, nat_le, slice_index_or}
use Rattle.std.proofs.lemmas.Bool.{and_parts, eqb-true, le-leb, leb-true}
use Rattle.std.proofs.lemmas.List.{length-append}
use Rattle.std.proofs.lemmas.Option.{none-some, same_Some}
use Rattle.timing_file.specs.declared.timing.Loop.{Loop}
use Rattle.osek_machine.specs.Loops.{laps_after, begun, moved_on, returned}
use Rattle.rv32_machine.specs.Execution.{following}
use Rattle.flow_graph.specs.declared.edge.EdgeKind.{EdgeKind}
use Rattle.flow_graph.specs.declared.edge.EdgeKind.TheVariants as kinds
use Rattle.flow_graph.specs.declared.node.Node.{Node}
use Rattle.flow_graph.specs.Faults.{is_local}
use Rattle.wcet_atomic_blocks.specs.Loops.{in_range, same_string, is_inside, is_back, is_entering, comes_from_outside}
use Rattle.activation_windows.proofs.Beyond.{beyond, is_string, lies_by, string_is, inside_is, beyond_more, beyond_none}
use Rattle.activation_windows.proofs.Sums.{one}

-- the laps of the invocation beyond which these calls are open
abbrev pub laps_at : List ℕ → List ℕ → ℕ
laps_at laps rest = slice_index_or laps (length rest) 0

-- From one place to another, with the laps of all invocations before and after, and whether it goes back.
pub record GoesRound (l : Loop) (from to : ℕ) (before after : Option (List ℕ)) (laps laps' : List ℕ) (back : Bool) : Type 0 where
  pub stays : (rest : List ℕ) → after ≡ Some rest → lies_by l to (Some rest) ≡ true
      → (earlier : List ℕ) × (before ≡ Some earlier) × (lies_by l from (Some earlier) ≡ true) × (one back + laps_at laps earlier ≤ laps_at laps' rest)
  pub leads : back ≡ true → (rest : List ℕ) × (after ≡ Some rest) × (lies_by l to (Some rest) ≡ true)

-- ---- Within an invocation

pub string_some : (rest : Option (List ℕ)) → is_string rest ≡ true → rest ≡ Some []
string_some None e = absurd cc
string_some (Some []) e = refl
string_some (Some (call ∷ calls)) e = absurd cc

first_in_range : (l : Loop) (from to : ℕ) → in_range l from ≡ true → (to == l.from) ≡ true → in_range l to ≡ true
first_in_range l from to inside first =
    let parts = and_parts (nat_le l.from from) (nat_le from l.to) inside in
    let least : l.from ≤ from = leb-true l.from from parts.0 in
    let most : from ≤ l.to = leb-true from l.to parts.1 in
    let at : to ≡ l.from = eqb-true to l.from first in
    rw (le-leb l.from to (omega arith)) (le-leb to l.to (omega arith))

-- from inside no lap is lost
laps_more : (l : Loop) (from to laps : ℕ) → in_range l from ≡ true → laps ≤ laps_after l from to laps
laps_more l from to laps inside = rw inside (more (to == l.from))
  where
    more : (first : Bool) → laps ≤ cond first (laps + 1) laps
    more true = omega arith
    more false = omega arith

lap_back : (l : Loop) (from to laps : ℕ) → in_range l from ≡ true → (to == l.from) ≡ true → 1 + laps ≤ laps_after l from to laps
lap_back l from to laps inside first = rw inside (rw first (omega arith))

lap_counts : (l : Loop) (from to laps : ℕ) (back : Bool) → in_range l from ≡ true → (back ≡ true → (to == l.from) ≡ true)
    → one back + laps ≤ laps_after l from to laps
lap_counts l from to laps true inside first = lap_back l from to laps inside (first refl)
lap_counts l from to laps false inside first = let more = laps_more l from to laps inside in omega arith

was_inside : (l : Loop) (from to : ℕ) → (in_range l from ≡ false → in_range l to ≡ false) → in_range l to ≡ true → in_range l from ≡ true
was_inside l from to outside there = choose (in_range l from) refl
  where
    choose : (inside : Bool) → in_range l from ≡ inside → inside ≡ true
    choose true e = refl
    choose false e = let wrong : true ≡ false = sym there ∙ outside e in absurd cc

nothing_back : (is : Bool) (before after : ℕ) → before ≡ after → (is ≡ true → false ≡ true) → one is + before ≤ after
nothing_back true before after e wrong = absurd (let w = wrong refl in cc)
nothing_back false before after e wrong = omega arith

pub local_round : (l : Loop) (from to : ℕ) (rest : Option (List ℕ)) (laps : List ℕ) (back : Bool) → 1 ≤ length laps
    → (back ≡ true → (is_string rest ≡ true) × (in_range l from ≡ true) × ((to == l.from) ≡ true))
    → (is_string rest ≡ true → in_range l from ≡ false → in_range l to ≡ false)
    → GoesRound l from to rest rest laps (moved_on l from to laps) back
local_round l from to rest [] back some goes_back outside = absurd (omega arith)
local_round l from to rest (lap ∷ laps) back some goes_back outside = record {
  stays = λ now e inside. staying rest now e inside goes_back outside;
  leads = λ is.
      let parts = goes_back is in
      ([], string_some rest parts.0, first_in_range l from to parts.1 parts.2);
}
  where
    staying : (known : Option (List ℕ)) (now : List ℕ) → known ≡ Some now → lies_by l to (Some now) ≡ true
        → (back ≡ true → (is_string known ≡ true) × (in_range l from ≡ true) × ((to == l.from) ≡ true))
        → (is_string known ≡ true → in_range l from ≡ false → in_range l to ≡ false)
        → (earlier : List ℕ) × (known ≡ Some earlier) × (lies_by l from (Some earlier) ≡ true)
        × (one back + laps_at (lap ∷ laps) earlier ≤ laps_at (moved_on l from to (lap ∷ laps)) now)
    staying None now e inside goes_back outside = absurd (none-some now e)
    staying (Some []) (call ∷ calls) e inside goes_back outside = absurd cc
    staying (Some (call ∷ calls)) [] e inside goes_back outside = absurd cc
    staying (Some []) [] e inside goes_back outside =
        let before = was_inside l from to (outside refl) inside in
        ([], refl, before, lap_counts l from to lap back before (λ is. (goes_back is).2))
    staying (Some (call ∷ calls)) (call' ∷ calls') e inside goes_back outside =
        let same : call ∷ calls ≡ call' ∷ calls' = same_Some (call ∷ calls) (call' ∷ calls') e in
        let first : call ≡ call' = cc in
        let others : calls ≡ calls' = cc in (
          call ∷ calls,
          refl,
          ap (in_range l) first ∙ inside,
          nothing_back back (laps_at laps calls) (laps_at laps calls') (ap (laps_at laps) others) (λ is. (goes_back is).0),
        )

-- ---- Calls and returns

more_calls : (l : Loop) (rest : List ℕ) (call to : ℕ) → lies_by l to (Some (rest ++ call ∷ [])) ≡ lies_by l call (Some rest)
more_calls l [] call to = refl
more_calls l (first ∷ rest) call to = refl

calls_count : (rest : List ℕ) (call : ℕ) → length (rest ++ call ∷ []) ≡ suc (length rest)
calls_count rest call = let l = length-append rest (call ∷ []) in omega arith

pub call_round : (l : Loop) (from to : ℕ) (sites calls : List ℕ) (laps : List ℕ)
    → (beyond sites (calls ++ from ∷ []) ≡ Some [] → in_range l to ≡ false)
    → GoesRound l from to (beyond sites calls) (beyond sites (calls ++ from ∷ [])) laps (begun laps) false
call_round l from to sites calls laps outside = record {
  stays = λ now e inside. staying (beyond sites calls) refl now e inside;
  leads = λ is. absurd (let wrong : false ≡ true = is in cc);
}
  where
    staying : (known : Option (List ℕ)) → beyond sites calls ≡ known → (now : List ℕ) → beyond sites (calls ++ from ∷ []) ≡ Some now
        → lies_by l to (Some now) ≡ true
        → (earlier : List ℕ) × (beyond sites calls ≡ Some earlier) × (lies_by l from (Some earlier) ≡ true)
        × (one false + laps_at laps earlier ≤ laps_at (begun laps) now)
    staying None none now e inside = absurd (elim (beyond_none sites calls from none) [
      | inl still ↦ none-some now (sym still ∙ e)
      | inr new ↦ (
          let empty : [] ≡ now = same_Some [] now (sym new ∙ e) in
          let wrong : true ≡ false = sym (subst (λ (cs : List ℕ). lies_by l to (Some cs) ≡ true) (sym empty) inside) ∙ outside new in
          cc
          )
    ])
    staying (Some rest) known now e inside =
        let same : rest ++ from ∷ [] ≡ now = same_Some _ now (sym (beyond_more sites calls rest from known) ∙ e) in
        let lies : lies_by l to (Some (rest ++ from ∷ [])) ≡ true = subst (λ (cs : List ℕ). lies_by l to (Some cs) ≡ true) (sym same) inside in
        let laps_are : laps_at (begun laps) now ≡ laps_at laps rest =
        ap (laps_at (begun laps)) (sym same) ∙ ap (λ n. slice_index_or (begun laps) n 0) (calls_count rest from) in
        (rest, known, sym (more_calls l rest from to) ∙ lies, omega arith)

pub return_round : (l : Loop) (from to site : ℕ) (sites calls : List ℕ) (laps : List ℕ) → 2 ≤ length laps
    → (beyond sites calls ≡ Some [] → in_range l to ≡ true → in_range l site ≡ true) → to ≡ following site
    → GoesRound l from to (beyond sites (calls ++ site ∷ [])) (beyond sites calls) laps (returned l (Some site) laps) false
return_round l from to site sites calls [] some outside goes = absurd (omega arith)
return_round l from to site sites calls (lap ∷ []) some outside goes = absurd (omega arith)
return_round l from to site sites calls (own ∷ (lap ∷ laps)) some outside goes = record {
  stays = λ now e inside. (
    now ++ site ∷ [],
    beyond_more sites calls now site e,
    lies now e inside,
    counts now e inside,
  );
  leads = λ is. absurd (let wrong : false ≡ true = is in cc);
}
  where
    lies : (now : List ℕ) → beyond sites calls ≡ Some now → lies_by l to (Some now) ≡ true → lies_by l from (Some (now ++ site ∷ [])) ≡ true
    lies [] e inside = outside e inside
    lies (call ∷ now) e inside = inside

    counts : (now : List ℕ) → beyond sites calls ≡ Some now → lies_by l to (Some now) ≡ true
        → one false + laps_at (own ∷ (lap ∷ laps)) (now ++ site ∷ []) ≤ laps_at (returned l (Some site) (own ∷ (lap ∷ laps))) now
    counts [] e inside = let more = laps_more l site (following site) lap (outside e inside) in omega arith
    counts (call ∷ now) e inside =
        let index : slice_index_or (own ∷ (lap ∷ laps)) (length ((call ∷ now) ++ site ∷ [])) 0 ≡ slice_index_or laps (length now) 0 =
        ap (λ n. slice_index_or (own ∷ (lap ∷ laps)) n 0) (calls_count (call ∷ now) site) in
        omega arith

-- ---- Edges

pub outside_local : (head : Node) (l : Loop) (source : Node) (kind : EdgeKind) → is_local kind ≡ true
    → comes_from_outside head l source kind ≡ (same_string head source && not (in_range l source.address))
outside_local head l source kinds.Straight local = refl
outside_local head l source kinds.Taken local = refl
outside_local head l source kinds.Jump local = refl
outside_local head l source kinds.Service local = refl
outside_local head l source kinds.Call local = absurd cc
outside_local head l source kinds.Return local = absurd cc

-- what doesn't enter isn't inside then, or comes from inside
pub not_both : (a b : Bool) → (a && b) ≡ false → a ≡ true → b ≡ false
not_both true b e is = e
not_both false b e is = absurd cc

pub inside_where : (head : Node) (l : Loop) (node : Node) → (head.context == node.context) ≡ true → beyond head.sites node.sites ≡ Some []
    → in_range l node.address ≡ true → is_inside head l node ≡ true
inside_where head l node same at inside = inside_is head l node same ∙ (ap (λ (r : Option (List ℕ)). is_string r && in_range l node.address) at ∙ inside)

-- a local edge
pub local_edge : (head : Node) (l : Loop) (source target : Node) (kind : EdgeKind) (laps : List ℕ)
    → (head.context == source.context) ≡ true → (head.context == target.context) ≡ true → is_local kind ≡ true → target.sites ≡ source.sites
    → 1 ≤ length laps → is_entering head l source kind target ≡ false
    → GoesRound l source.address target.address (beyond head.sites source.sites) (beyond head.sites target.sites) laps
    (moved_on l source.address target.address laps) (is_back head l source kind target)
local_edge head l source target kind laps here there local sites some enters =
    subst (λ (ss : List ℕ). GoesRound l source.address target.address (beyond head.sites source.sites) (beyond head.sites ss) laps
    (moved_on l source.address target.address laps) (is_back head l source kind target)) (sym sites)
    (local_round l source.address target.address (beyond head.sites source.sites) laps (is_back head l source kind target) some back outside)
  where
    back : is_back head l source kind target ≡ true
        → (is_string (beyond head.sites source.sites) ≡ true) × (in_range l source.address ≡ true) × ((target.address == l.from) ≡ true)
    back is =
        let parts = and_parts (is_local kind && is_inside head l source && same_string head target) (target.address == l.from) is in
        let first = and_parts (is_local kind && is_inside head l source) (same_string head target) parts.0 in
        let inner = and_parts (is_local kind) (is_inside head l source) first.0 in
        let inside = and_parts (is_string (beyond head.sites source.sites)) (in_range l source.address) (sym (inside_is head l source here) ∙ inner.1) in
        (inside.0, inside.1, parts.1)

    outside : is_string (beyond head.sites source.sites) ≡ true → in_range l source.address ≡ false → in_range l target.address ≡ false
    outside string not_in = choose (in_range l target.address) refl
      where
        choose : (inside : Bool) → in_range l target.address ≡ inside → inside ≡ false
        choose false e = refl
        choose true e =
            let at : beyond head.sites target.sites ≡ Some [] = ap (beyond head.sites) sites ∙ string_some (beyond head.sites source.sites) string in
            let comes : comes_from_outside head l source kind ≡ false =
            not_both (is_inside head l target) (comes_from_outside head l source kind) enters (inside_where head l target there at e) in
            let wrong : true ≡ false = sym (ap (λ b. b && not (in_range l source.address)) (string_is head source here ∙ string)
            ∙ ap not not_in) ∙ (sym (outside_local head l source kind local) ∙ comes) in
            absurd cc
