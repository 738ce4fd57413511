-- The heads of chains: what joining by links leads to.
use Rattle.std.proofs.Common.{◌≡◌, ◌≢◌, ℕ, zero, suc, ◌+◌, ◌<◌, ◌≤◌, ◌==◌, Bool, true, false, cond, List, [], ◌∷◌, ◌++◌, length, get_or, Option, Some, None, refl, sym, ap, ◌∙◌, zero-add, inl, inr, ◌⊎◌, arith, length-append}
use Rattle.std.proofs.lemmas.Bool.{eq-eqb, ne_eqb, eqb-true, cases_eq}
use Rattle.std.proofs.lemmas.List.{get_or-map, length-map}
use Rattle.std.proofs.lemmas.List.FromFn.{length-range_with_len, get_or-range_with_len}
use Rattle.std.specs.List.{range_with_len, fold}
use Rattle.whole_rows.specs.Rows.{RowsData}
use Rattle.row_squeeze.specs.declared.Link.{Link}
use Rattle.row_squeeze.specs.declared.lift.Step.{Step}
use Rattle.row_squeeze.specs.Links.{HasLink, AreLinks}
use Rattle.row_squeeze.specs.Chains.{joined, heads_of, AreHeads, place_of, with_head, chain_heads, chain_count, chain_places}
use Rattle.row_squeeze.specs.Lift.{leaving}

-- ---- joining

pub joined-length : (heads : List ℕ) (link : Option Link) → length (joined heads link) ≡ length heads
joined-length heads None = refl
joined-length heads (Some link) = length-map heads (λ head. cond (head == get_or heads link.outgoing 0) (get_or heads link.incoming 0) head)

joined-at : (heads : List ℕ) (link : Link) (j : ℕ) → j < length heads → get_or (joined heads (Some link)) j 0 ≡ cond (get_or heads j 0 == get_or heads link.outgoing 0) (get_or heads link.incoming 0) (get_or heads j 0)
joined-at heads link j h = get_or-map (λ head. cond (head == get_or heads link.outgoing 0) (get_or heads link.incoming 0) head) heads j 0 0 h

joins-length : (heads : List ℕ) (links : List (Option Link)) → length (fold joined heads links) ≡ length heads
joins-length heads [] = refl
joins-length heads (link ∷ links) = joins-length (joined heads link) links ∙ joined-length heads link

-- columns that share a head go on sharing one
joins-keep : (heads : List ℕ) (links : List (Option Link)) (a b : ℕ) → a < length heads → b < length heads → get_or heads a 0 ≡ get_or heads b 0 → get_or (fold joined heads links) a 0 ≡ get_or (fold joined heads links) b 0
joins-keep heads [] a b h k e = e
joins-keep heads (None ∷ links) a b h k e = joins-keep heads links a b h k e
joins-keep heads (Some link ∷ links) a b h k e =
    joins-keep (joined heads (Some link)) links a b (rw (joined-length heads (Some link)) h) (rw (joined-length heads (Some link)) k) (joined-at heads link a h ∙ ap (λ (head : ℕ). cond (head == get_or heads link.outgoing 0) (get_or heads link.incoming 0) head) e ∙ sym (joined-at heads link b k))

same_choice : (t : Bool) (x : ℕ) → x ≡ cond t x x
same_choice true x = refl
same_choice false x = refl

joined-pair : (heads : List ℕ) (link : Link) → link.outgoing < length heads → link.incoming < length heads → get_or (joined heads (Some link)) link.outgoing 0 ≡ get_or (joined heads (Some link)) link.incoming 0
joined-pair heads link h k =
    joined-at heads link link.outgoing h ∙ rw (eq-eqb (get_or heads link.outgoing 0) (get_or heads link.outgoing 0) refl) (same_choice (get_or heads link.incoming 0 == get_or heads link.outgoing 0) (get_or heads link.incoming 0)) ∙ sym (joined-at heads link link.incoming k)

joins-share : (heads : List ℕ) (links : List (Option Link)) (row : ℕ) (link : Link) → HasLink links row link → link.outgoing < length heads → link.incoming < length heads → get_or (fold joined heads links) link.outgoing 0 ≡ get_or (fold joined heads links) link.incoming 0
joins-share heads [] row link has h k = cc
joins-share heads (None ∷ links) zero link has h k = cc
joins-share heads (None ∷ links) (suc row) link has h k = joins-share heads links row link has h k
joins-share heads (Some other ∷ links) zero link has h k =
    let same : link ≡ other = cc in
    rw same (joins-keep (joined heads (Some other)) links other.outgoing other.incoming (rw (joined-length heads (Some other), ← same) h) (rw (joined-length heads (Some other), ← same) k) (joined-pair heads other (rw (← same) h) (rw (← same) k)))
joins-share heads (Some other ∷ links) (suc row) link has h k =
    joins-share (joined heads (Some other)) links row link has (rw (joined-length heads (Some other)) h) (rw (joined-length heads (Some other)) k)

-- a column that no link has left yet is its own head
AreFresh : (ℕ → Type 0) → List ℕ → Type 0
AreFresh Fresh heads = (c : ℕ) → Fresh c → (c < length heads) × (get_or heads c 0 ≡ c)

abbrev LeaveOnce : List (Option Link) → Type 0
LeaveOnce links = (row other : ℕ) (a b : Link) → HasLink links row a → HasLink links other b → a.outgoing ≡ b.outgoing → row ≡ other

joined-fresh : (Fresh : ℕ → Type 0) (heads : List ℕ) (link : Link) → AreFresh Fresh heads → Fresh link.outgoing → AreFresh (λ c. Fresh c × (c ≢ link.outgoing)) (joined heads (Some link))
unfolding AreFresh
joined-fresh Fresh heads link fresh out c (is, other) =
    let here = fresh c is in
    let there = fresh link.outgoing out in
    let differ : get_or heads c 0 ≢ get_or heads link.outgoing 0 = λ e. other (sym here.1 ∙ e ∙ there.1) in
    (rw (joined-length heads (Some link)) here.0, joined-at heads link c here.0 ∙ rw (ne_eqb (get_or heads c 0) (get_or heads link.outgoing 0) differ) here.1)

joins-own : (Fresh : ℕ → Type 0) (heads : List ℕ) (links : List (Option Link)) → AreFresh Fresh heads → ((row : ℕ) (link : Link) → HasLink links row link → Fresh link.outgoing) → LeaveOnce links → (column : ℕ) → Fresh column → ((row : ℕ) (link : Link) → HasLink links row link → link.outgoing ≢ column) → get_or (fold joined heads links) column 0 ≡ column
unfolding AreFresh
joins-own Fresh heads [] fresh out once column is left = (fresh column is).1
joins-own Fresh heads (None ∷ links) fresh out once column is left =
    joins-own Fresh heads links fresh (λ row. out (suc row)) (λ row other a b h k e. let same : suc row ≡ suc other = once (suc row) (suc other) a b h k e in omega arith) column is (λ row. left (suc row))
joins-own Fresh heads (Some link ∷ links) fresh out once column is left =
    joins-own (λ c. Fresh c × (c ≢ link.outgoing)) (joined heads (Some link)) links (joined-fresh Fresh heads link fresh (out 0 link refl)) (λ row other has. (out (suc row) other has, λ e. let same : suc row ≡ 0 = once (suc row) 0 other link has refl e in absurd (omega arith))) (λ row other a b h k e. let same : suc row ≡ suc other = once (suc row) (suc other) a b h k e in omega arith) column (is, λ e. left 0 link refl (sym e)) (λ row. left (suc row))

range-own : (columns : ℕ) → AreFresh (λ c. c < columns) (range_with_len 0 columns)
unfolding AreFresh
range-own columns c h = (rw (length-range_with_len 0 columns) h, get_or-range_with_len 0 columns c 0 h ∙ zero-add c)

pub heads_are : (d : RowsData) (links : List (Option Link)) → AreLinks d links → AreHeads (length d.costs) links (heads_of (length d.costs) links)
heads_are d links are = record {
  counted = joins-length (range_with_len 0 (length d.costs)) links ∙ length-range_with_len 0 (length d.costs);
  shared = λ row link has. let is = are.each row link has in joins-share (range_with_len 0 (length d.costs)) links row link has (rw (length-range_with_len 0 (length d.costs)) is.outgoing_exists) (rw (length-range_with_len 0 (length d.costs)) is.incoming_exists);
  own = λ column h left. joins-own (λ c. c < length d.costs) (range_with_len 0 (length d.costs)) links (range-own (length d.costs)) (λ row link has. (are.each row link has).outgoing_exists) are.one_outgoing column h left;
}

-- ---- the link that leaves a column

pub record IsStepFrom (first : ℕ) (links : List (Option Link)) (column : ℕ) (step : Step) : Type 0 where
  pub row : ℕ
  pub at : first + row ≡ step.row
  pub link : Link
  pub has : HasLink links row link
  pub leaves : link.outgoing ≡ column
  pub leads : link.incoming ≡ step.incoming

step_later : (first : ℕ) (before : Option Link) (links : List (Option Link)) (column : ℕ) (step : Step) → IsStepFrom (suc first) links column step → IsStepFrom first (before ∷ links) column step
step_later first before links column step is = let at = is.at in record { row = suc is.row; at = omega arith; link = is.link; has = is.has; leaves = is.leaves; leads = is.leads }

pub leaving_is : (first : ℕ) (links : List (Option Link)) (column : ℕ) (step : Step) → leaving first links column ≡ Some step → IsStepFrom first links column step
leaving_is first [] column step e = cc
leaving_is first (None ∷ links) column step e = step_later first None links column step (leaving_is (suc first) links column step e)
leaving_is first (Some link ∷ links) column step e = by_column (leaving_is (suc first) links column step) (cases_eq link.outgoing column)
  where
    by_column : (leaving (suc first) links column ≡ Some step → IsStepFrom (suc first) links column step) → (link.outgoing ≡ column) ⊎ (link.outgoing ≡ column → ⊥) → IsStepFrom first (Some link ∷ links) column step
    by_column later (inl q) =
        let found : Some (let s : Step = record { row = first; incoming = link.incoming } in s) ≡ Some step = rw (eq-eqb link.outgoing column q) at e in
        let same : (let s : Step = record { row = first; incoming = link.incoming } in s) ≡ step = cc in
        let here : first ≡ step.row = ap (λ (s : Step). s.row) same in
        record { row = 0; at = omega arith; link = link; has = refl; leaves = q; leads = ap (λ (s : Step). s.incoming) same }
    by_column later (inr n) = step_later first (Some link) links column step (later (rw (ne_eqb link.outgoing column n) at e))

pub leaving_none : (first : ℕ) (links : List (Option Link)) (column : ℕ) → leaving first links column ≡ None → (row : ℕ) (link : Link) → HasLink links row link → link.outgoing ≢ column
leaving_none first [] column e row link has q = cc
leaving_none first (None ∷ links) column e zero link has q = cc
leaving_none first (None ∷ links) column e (suc row) link has q = leaving_none (suc first) links column e row link has q
leaving_none first (Some other ∷ links) column e row link has q = by_column (λ h i k. leaving_none (suc first) links column h i link k) (cases_eq other.outgoing column) row has
  where
    by_column : (leaving (suc first) links column ≡ None → (i : ℕ) → HasLink links i link → link.outgoing ≢ column) → (other.outgoing ≡ column) ⊎ (other.outgoing ≡ column → ⊥) → (row : ℕ) → HasLink (Some other ∷ links) row link → ⊥
    by_column later (inl p) row has = let found = rw (eq-eqb other.outgoing column p) at e in cc
    by_column later (inr n) zero has = let same : other ≡ link = cc in n (ap (λ (l : Link). l.outgoing) same ∙ q)
    by_column later (inr n) (suc row) has = later (rw (ne_eqb other.outgoing column n) at e) row has q

-- ---- what heads are for

-- a column's head exists, is its own head, and where values rise along links no column's is above its head's
pub record HasHead (columns : ℕ) (heads u : List ℕ) (column : ℕ) : Type 0 where
  pub within : get_or heads column 0 < columns
  pub own : get_or heads (get_or heads column 0) 0 ≡ get_or heads column 0
  pub above : get_or u column 0 ≤ get_or u (get_or heads column 0) 0

-- values, one for each column, that rise along links
abbrev pub RiseAlong : List (Option Link) → List ℕ → Type 0
RiseAlong links u = (row : ℕ) (link : Link) → HasLink links row link → get_or u link.outgoing 0 ≤ get_or u link.incoming 0

head_within_steps : (d : RowsData) (links : List (Option Link)) (heads u : List ℕ) (are : AreLinks d links) → AreHeads (length d.costs) links heads → RiseAlong links u → (steps column : ℕ) → are.rank column < steps → column < length d.costs → HasHead (length d.costs) heads u column
head_within_steps d links heads u are is rise zero column h k = absurd (omega arith)
head_within_steps d links heads u are is rise (suc steps) column h k =
    by_step (head_within_steps d links heads u are is rise steps) (leaving 0 links column) refl
  where
    by_step : ((next : ℕ) → are.rank next < steps → next < length d.costs → HasHead (length d.costs) heads u next) → (found : Option Step) → leaving 0 links column ≡ found → HasHead (length d.costs) heads u column
    by_step later None e =
        let own : get_or heads column 0 ≡ column = is.own column k (leaving_none 0 links column e) in
        record { within = rw own k; own = ap (λ (c : ℕ). get_or heads c 0) own; above = rw own (omega arith) }
    by_step later (Some step) e =
        let s = leaving_is 0 links column step e in
        let row = are.each s.row s.link s.has in
        let falls = are.rank_falls s.row s.link s.has in
        let same : are.rank s.link.outgoing ≡ are.rank column = ap are.rank s.leaves in
        let next = later s.link.incoming (omega arith) row.incoming_exists in
        let shared : get_or heads column 0 ≡ get_or heads s.link.incoming 0 = ap (λ (c : ℕ). get_or heads c 0) (sym s.leaves) ∙ is.shared s.row s.link s.has in
        let first : get_or u column 0 ≤ get_or u s.link.incoming 0 = rw s.leaves at (rise s.row s.link s.has) in
        let rest = next.above in
        record { within = rw shared next.within; own = rw shared next.own; above = rw shared (omega arith) }

pub has_head : (d : RowsData) (links : List (Option Link)) (heads u : List ℕ) → AreLinks d links → AreHeads (length d.costs) links heads → RiseAlong links u → (column : ℕ) → column < length d.costs → HasHead (length d.costs) heads u column
has_head d links heads u are is rise column h = head_within_steps d links heads u are is rise (suc (are.rank column)) column (omega arith) h

-- a column that isn't its own head is left by a link
pub left_by_link : (columns : ℕ) (links : List (Option Link)) (heads : List ℕ) → AreHeads columns links heads → (column : ℕ) → column < columns → get_or heads column 0 ≢ column → (row : ℕ) × (link : Link) × HasLink links row link × (link.outgoing ≡ column)
left_by_link columns links heads is column h other = by_step (leaving 0 links column) refl
  where
    by_step : (found : Option Step) → leaving 0 links column ≡ found → (row : ℕ) × (link : Link) × HasLink links row link × (link.outgoing ≡ column)
    by_step None e = absurd (other (is.own column h (leaving_none 0 links column e)))
    by_step (Some step) e = let s = leaving_is 0 links column step e in (s.row, s.link, s.has, s.leaves)

-- ---- the places of heads

pub place_of-le : (head : ℕ) (heads : List ℕ) → place_of head heads ≤ length heads
place_of-le head [] = omega arith
place_of-le head (other ∷ heads) = by_test (other == head) (place_of-le head heads)
  where
    by_test : (t : Bool) → place_of head heads ≤ length heads → cond t 0 (suc (place_of head heads)) ≤ suc (length heads)
    by_test true rest = omega arith
    by_test false rest = omega arith

pub place_of-at : (head : ℕ) (heads : List ℕ) → place_of head heads < length heads → get_or heads (place_of head heads) 0 ≡ head
place_of-at head [] h = absurd (omega arith)
place_of-at head (other ∷ heads) h = by_test (place_of-at head heads) (other == head) refl
  where
    by_test : (place_of head heads < length heads → get_or heads (place_of head heads) 0 ≡ head) → (t : Bool) → (other == head) ≡ t → get_or (other ∷ heads) (place_of head (other ∷ heads)) 0 ≡ head
    by_test later true e = rw e (eqb-true other head e)
    by_test later false e = let rest = rw e at h in rw e (later (omega arith))

place_of-append : (head : ℕ) (heads more : List ℕ) → place_of head heads < length heads → place_of head (heads ++ more) ≡ place_of head heads
place_of-append head [] more h = absurd (omega arith)
place_of-append head (other ∷ heads) more h = by_test (place_of-append head heads more) (other == head) refl
  where
    by_test : (place_of head heads < length heads → place_of head (heads ++ more) ≡ place_of head heads) → (t : Bool) → (other == head) ≡ t → cond (other == head) 0 (suc (place_of head (heads ++ more))) ≡ cond (other == head) 0 (suc (place_of head heads))
    by_test later true e = rw e refl
    by_test later false e = let rest = rw e at h in rw e (ap suc (later (omega arith)))

place_of-push : (head : ℕ) (heads : List ℕ) → place_of head (heads ++ head ∷ []) < length (heads ++ head ∷ [])
place_of-push head [] = rw (eq-eqb head head refl) (omega arith)
place_of-push head (other ∷ heads) = by_test (other == head) (place_of-push head heads)
  where
    by_test : (t : Bool) → place_of head (heads ++ head ∷ []) < length (heads ++ head ∷ []) → cond t 0 (suc (place_of head (heads ++ head ∷ []))) < suc (length (heads ++ head ∷ []))
    by_test true rest = omega arith
    by_test false rest = omega arith

abbrev Has : List ℕ → ℕ → Type 0
Has heads head = place_of head heads < length heads

with_head-keeps : (heads : List ℕ) (head other : ℕ) → Has heads other → Has (with_head heads head) other
with_head-keeps heads head other h = by_test (place_of head heads == length heads)
  where
    by_test : (t : Bool) → Has (cond t (heads ++ head ∷ []) heads) other
    by_test true = rw (place_of-append other heads (head ∷ []) h) (simp length-append (omega arith))
    by_test false = h

with_head-has : (heads : List ℕ) (head : ℕ) → Has (with_head heads head) head
with_head-has heads head = by_test (place_of head heads == length heads) refl
  where
    by_test : (t : Bool) → (place_of head heads == length heads) ≡ t → Has (cond (place_of head heads == length heads) (heads ++ head ∷ []) heads) head
    by_test true e = rw e (place_of-push head heads)
    by_test false e =
        let other : place_of head heads ≢ length heads = λ q. let yes = eq-eqb (place_of head heads) (length heads) q in cc in
        let most = place_of-le head heads in
        rw e (omega arith)

with_heads-keep : (heads more : List ℕ) (head : ℕ) → Has heads head → Has (fold with_head heads more) head
with_heads-keep heads [] head h = h
with_heads-keep heads (other ∷ more) head h = with_heads-keep (with_head heads other) more head (with_head-keeps heads other head h)

with_heads-have : (heads more : List ℕ) (j : ℕ) → j < length more → Has (fold with_head heads more) (get_or more j 0)
with_heads-have heads [] j h = absurd (omega arith)
with_heads-have heads (head ∷ more) zero h = with_heads-keep (with_head heads head) more head (with_head-has heads head)
with_heads-have heads (head ∷ more) (suc j) h = with_heads-have (with_head heads head) more j (omega arith)

-- ---- the places of chains

pub places-length : (columns : ℕ) (links : List (Option Link)) → length (chain_places columns links) ≡ columns
places-length columns links =
    length-map (heads_of columns links) (λ head. place_of head (chain_heads columns links)) ∙ joins-length (range_with_len 0 columns) links ∙ length-range_with_len 0 columns

pub heads-length : (columns : ℕ) (links : List (Option Link)) → length (heads_of columns links) ≡ columns
heads-length columns links = joins-length (range_with_len 0 columns) links ∙ length-range_with_len 0 columns

pub place-at : (columns : ℕ) (links : List (Option Link)) (column : ℕ) → column < columns → get_or (chain_places columns links) column 0 ≡ place_of (get_or (heads_of columns links) column 0) (chain_heads columns links)
place-at columns links column h =
    get_or-map (λ head. place_of head (chain_heads columns links)) (heads_of columns links) column 0 0 (rw (heads-length columns links) h)

pub place-within : (columns : ℕ) (links : List (Option Link)) (column : ℕ) → column < columns → get_or (chain_places columns links) column 0 < chain_count columns links
place-within columns links column h =
    rw (place-at columns links column h) (with_heads-have [] (heads_of columns links) column (rw (heads-length columns links) h))

-- the head that stands at a column's place is the column's
pub head-at : (columns : ℕ) (links : List (Option Link)) (column : ℕ) → column < columns → get_or (chain_heads columns links) (get_or (chain_places columns links) column 0) 0 ≡ get_or (heads_of columns links) column 0
head-at columns links column h =
    rw (place-at columns links column h) (place_of-at (get_or (heads_of columns links) column 0) (chain_heads columns links) (with_heads-have [] (heads_of columns links) column (rw (heads-length columns links) h)))
