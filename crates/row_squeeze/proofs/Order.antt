-- The order in which rows of links are lifted: it has each of them, and each comes after the link that enters its column.
use Rattle.std.proofs.Common.{◌≡◌, ◌≢◌, ℕ, zero, suc, ◌+◌, ◌-◌, ◌<◌, ◌≤◌, ◌==◌, ◌&&◌, ◌||◌, ltb, Bool, true, false, not, cond, List, [], ◌∷◌, ◌++◌, length, get_or, Option, Some, None, refl, sym, ap, ◌∙◌, inl, inr, ◌⊎◌, arith}
use Rattle.std.proofs.lemmas.Bool.{eq-eqb, eqb-true, lt-ltb, le-ltb, cases_lt, cases_eq}
use Rattle.std.specs.List.{range_with_len, flat_map, list_any}
use Rattle.whole_rows.specs.Rows.{RowsData}
use Rattle.row_squeeze.specs.declared.Link.{Link}
use Rattle.row_squeeze.specs.declared.lift.Step.{Step}
use Rattle.row_squeeze.specs.Links.{HasLink, AreLinks}
use Rattle.row_squeeze.specs.Chains.{chain_count, chain_places}
use Rattle.row_squeeze.specs.Lift.{leaving, enters, rows_on, rows_from, is_end, rows_of_end, rows_of_chain, lift_order}
use Rattle.row_squeeze.proofs.Heads.{leaving_none, places-length, place-within}
use Rattle.row_squeeze.proofs.Walking.{rows_from-step}
use Rattle.row_squeeze.proofs.Chain.{leaves}

-- ---- rows that are in a list

abbrev pub In : ℕ → List ℕ → Type 0
In row [] = ⊥
In row (other ∷ rows) = (other ≡ row) ⊎ In row rows

-- the rows before these, the last one first
abbrev pub onto : List ℕ → List ℕ → List ℕ
onto done [] = done
onto done (row ∷ rows) = onto (row ∷ done) rows

in-onto : (row : ℕ) (done rows : List ℕ) → In row done → In row (onto done rows)
in-onto row done [] h = h
in-onto row done (other ∷ rows) h = in-onto row (other ∷ done) rows (inr h)

pub in-order : (row : ℕ) (done rows : List ℕ) → In row rows → In row (onto done rows)
in-order row done [] h = absurd h
in-order row done (other ∷ rows) (inl e) = in-onto row (other ∷ done) rows (inl e)
in-order row done (other ∷ rows) (inr h) = in-order row (other ∷ done) rows h

in-left : (row : ℕ) (xs ys : List ℕ) → In row xs → In row (xs ++ ys)
in-left row [] ys h = absurd h
in-left row (x ∷ xs) ys (inl e) = inl e
in-left row (x ∷ xs) ys (inr h) = inr (in-left row xs ys h)

in-right : (row : ℕ) (xs ys : List ℕ) → In row ys → In row (xs ++ ys)
in-right row [] ys h = h
in-right row (x ∷ xs) ys h = inr (in-right row xs ys h)

in-range : (row : ℕ) (f : ℕ → List ℕ) (a n k : ℕ) → a ≤ k → k < a + n → In row (f k) → In row (flat_map f (range_with_len a n))
in-range row f a zero k h l is = absurd (omega arith)
in-range row f a (suc n) k h l is = by_first (in-range row f (a + 1) n k) (cases_eq a k)
  where
    by_first : (a + 1 ≤ k → k < a + 1 + n → In row (f k) → In row (flat_map f (range_with_len (a + 1) n))) → (a ≡ k) ⊎ (a ≡ k → ⊥) → In row (f a ++ flat_map f (range_with_len (a + 1) n))
    by_first later (inl e) = in-left row (f a) (flat_map f (range_with_len (a + 1) n)) (rw e is)
    by_first later (inr n') = in-right row (f a) (flat_map f (range_with_len (a + 1) n)) (later (omega arith) (omega arith) is)

-- ---- rows in order

-- each link that enters the column stands in one of the rows
abbrev pub EnteredIn : List (Option Link) → ℕ → List ℕ → Type 0
EnteredIn links column done = (row : ℕ) (link : Link) → HasLink links row link → link.incoming ≡ column → In row done

-- the row has a link, and what enters its outgoing column was before
pub record ComesNow (links : List (Option Link)) (done : List ℕ) (row : ℕ) : Type 0 where
  pub link : Link
  pub has : HasLink links row link
  pub entered : EnteredIn links link.outgoing done

abbrev pub AreInOrder : List (Option Link) → List ℕ → List ℕ → Type 0
AreInOrder links done [] = Unit {0}
AreInOrder links done (row ∷ rows) = ComesNow links done row × AreInOrder links (row ∷ done) rows

order-weaker : (links : List (Option Link)) (done more rows : List ℕ) → ((row : ℕ) → In row done → In row more) → AreInOrder links done rows → AreInOrder links more rows
order-weaker links done more [] h order = tt
order-weaker links done more (row ∷ rows) h order =
    let now = order.0 in
    (record { link = now.link; has = now.has; entered = λ other link has e. h other (now.entered other link has e) }, order-weaker links (row ∷ done) (row ∷ more) rows still order.1)
  where
    still : (other : ℕ) → In other (row ∷ done) → In other (row ∷ more)
    still other (inl e) = inl e
    still other (inr i) = inr (h other i)

order-append : (links : List (Option Link)) (done xs ys : List ℕ) → AreInOrder links done xs → AreInOrder links [] ys → AreInOrder links done (xs ++ ys)
order-append links done [] ys first second = order-weaker links [] done ys (λ row h. absurd h) second
order-append links done (x ∷ xs) ys first second = (first.0, order-append links (x ∷ done) xs ys first.1 second)

order-flat_map : (links : List (Option Link)) (f : ℕ → List ℕ) (xs : List ℕ) → ((x : ℕ) → AreInOrder links [] (f x)) → AreInOrder links [] (flat_map f xs)
order-flat_map links f [] each = tt
order-flat_map links f (x ∷ xs) each = order-append links [] (f x) (flat_map f xs) (each x) (order-flat_map links f xs each)

-- ---- the links that enter a column

none_enters : (links : List (Option Link)) (column : ℕ) → list_any (enters column) links ≡ false → (row : ℕ) (link : Link) → HasLink links row link → link.incoming ≢ column
none_enters [] column e row link has q = cc
none_enters (None ∷ links) column e zero link has q = cc
none_enters (None ∷ links) column e (suc row) link has q = none_enters links column e row link has q
none_enters (Some other ∷ links) column e zero link has q =
    let same : other.incoming ≡ column = (let one : other ≡ link = cc in ap (λ (l : Link). l.incoming) one ∙ q) in
    let here = eq-eqb other.incoming column same in
    let there = rw here at e in
    cc
none_enters (Some other ∷ links) column e (suc row) link has q = by_test (none_enters links column) (other.incoming == column) e
  where
    by_test : (list_any (enters column) links ≡ false → (row : ℕ) (link : Link) → HasLink links row link → link.incoming ≢ column) → (t : Bool) → (t || list_any (enters column) links) ≡ false → ⊥
    by_test later true h = cc
    by_test later false h = later h row link has q

-- a link that enters the column
record Enters (links : List (Option Link)) (column : ℕ) : Type 0 where
  row : ℕ
  link : Link
  has : HasLink links row link
  leads : link.incoming ≡ column

enters_later : (before : Option Link) (links : List (Option Link)) (column : ℕ) → Enters links column → Enters (before ∷ links) column
enters_later before links column is = record { row = suc is.row; link = is.link; has = is.has; leads = is.leads }

some_enters : (links : List (Option Link)) (column : ℕ) → list_any (enters column) links ≡ true → Enters links column
some_enters [] column e = cc
some_enters (None ∷ links) column e = enters_later None links column (some_enters links column e)
some_enters (Some link ∷ links) column e = by_test (some_enters links column) (link.incoming == column) refl e
  where
    by_test : (list_any (enters column) links ≡ true → Enters links column) → (t : Bool) → (link.incoming == column) ≡ t → (t || list_any (enters column) links) ≡ true → Enters (Some link ∷ links) column
    by_test later true is h = record { row = 0; link = link; has = refl; leads = eqb-true link.incoming column is }
    by_test later false is h = enters_later (Some link) links column (later h)

-- ---- the order of a chain, and of all

rows_from-order : (d : RowsData) (links : List (Option Link)) → AreLinks d links → (steps column : ℕ) (done : List ℕ) → EnteredIn links column done → AreInOrder links done (rows_from steps links column)
rows_from-order d links are zero column done entered = tt
rows_from-order d links are (suc steps) column done entered =
    by_step (rows_from-order d links are steps) (leaving 0 links column) refl
  where
    by_step : ((next : ℕ) (more : List ℕ) → EnteredIn links next more → AreInOrder links more (rows_from steps links next)) → (found : Option Step) → leaving 0 links column ≡ found → AreInOrder links done (rows_on (rows_from steps links) found)
    by_step later None e = tt
    by_step later (Some step) e =
        let left = leaves d links column step are e in
        (record { link = left.link; has = left.has; entered = rw left.leaves entered }, later step.incoming (step.row ∷ done) (λ row link has q. inl (are.one_incoming step.row row left.link link left.has has (left.leads ∙ sym q))))

rows_of_end-order : (d : RowsData) (links : List (Option Link)) → AreLinks d links → (places : List ℕ) (place column : ℕ) → AreInOrder links [] (rows_of_end links places place column)
rows_of_end-order d links are places place column =
    by_test (get_or places column 0 == place) (list_any (enters column) links) refl
  where
    by_test : (here entered : Bool) → list_any (enters column) links ≡ entered → AreInOrder links [] (cond (here && not entered) (rows_from (length links) links column) [])
    by_test true false e = rows_from-order d links are (length links) column [] (λ row link has q. absurd (none_enters links column e row link has q))
    by_test true true e = tt
    by_test false entered e = tt

pub lift_order-order : (d : RowsData) (links : List (Option Link)) → AreLinks d links → (columns : ℕ) → AreInOrder links [] (lift_order columns links)
lift_order-order d links are columns =
    order-flat_map links (rows_of_chain links (chain_places columns links)) (range_with_len 0 (chain_count columns links)) (λ place. order-flat_map links (rows_of_end links (chain_places columns links) place) (range_with_len 0 (length (chain_places columns links))) (λ column. rows_of_end-order d links are (chain_places columns links) place column))

-- ---- how many links can follow a column: those whose outgoing column has no greater rank

tick : (ℕ → ℕ) → ℕ → Option Link → ℕ
tick rank bound None = 0
tick rank bound (Some link) = cond (ltb (rank link.outgoing) (suc bound)) 1 0

below : (ℕ → ℕ) → ℕ → List (Option Link) → ℕ
below rank bound [] = 0
below rank bound (link ∷ links) = tick rank bound link + below rank bound links

tick-le : (rank : ℕ → ℕ) (bound : ℕ) (link : Option Link) → tick rank bound link ≤ 1
unfolding tick
tick-le rank bound None = omega arith
tick-le rank bound (Some link) = by_test (ltb (rank link.outgoing) (suc bound))
  where
    by_test : (t : Bool) → cond t 1 0 ≤ 1
    by_test true = omega arith
    by_test false = omega arith

tick-more : (rank : ℕ → ℕ) (a b : ℕ) (link : Option Link) → a ≤ b → tick rank a link ≤ tick rank b link
unfolding tick
tick-more rank a b None h = omega arith
tick-more rank a b (Some link) h = by_size (cases_lt (rank link.outgoing) (suc b))
  where
    low : (t : Bool) → cond t 1 0 ≤ 1
    low true = omega arith
    low false = omega arith

    by_size : (rank link.outgoing < suc b) ⊎ (suc b ≤ rank link.outgoing) → cond (ltb (rank link.outgoing) (suc a)) 1 0 ≤ cond (ltb (rank link.outgoing) (suc b)) 1 0
    by_size (inl l) = rw (lt-ltb (rank link.outgoing) (suc b) l) (low (ltb (rank link.outgoing) (suc a)))
    by_size (inr g) = rw (le-ltb (rank link.outgoing) (suc b) g, le-ltb (rank link.outgoing) (suc a) (omega arith)) (omega arith)

tick-counted : (rank : ℕ → ℕ) (bound : ℕ) (link : Link) → rank link.outgoing ≤ bound → tick rank bound (Some link) ≡ 1
unfolding tick
tick-counted rank bound link h = rw (lt-ltb (rank link.outgoing) (suc bound) (omega arith)) refl

tick-left : (rank : ℕ → ℕ) (bound : ℕ) (link : Link) → bound < rank link.outgoing → tick rank bound (Some link) ≡ 0
unfolding tick
tick-left rank bound link h = rw (le-ltb (rank link.outgoing) (suc bound) (omega arith)) refl

below-le : (rank : ℕ → ℕ) (bound : ℕ) (links : List (Option Link)) → below rank bound links ≤ length links
unfolding below
below-le rank bound [] = omega arith
below-le rank bound (link ∷ links) = let one = tick-le rank bound link in let rest = below-le rank bound links in omega arith

below-more : (rank : ℕ → ℕ) (a b : ℕ) (links : List (Option Link)) → a ≤ b → below rank a links ≤ below rank b links
unfolding below
below-more rank a b [] h = omega arith
below-more rank a b (link ∷ links) h = let one = tick-more rank a b link h in let rest = below-more rank a b links h in omega arith

below-strict : (rank : ℕ → ℕ) (a b : ℕ) (links : List (Option Link)) (row : ℕ) (link : Link) → HasLink links row link → a < rank link.outgoing → rank link.outgoing ≤ b → below rank a links < below rank b links
unfolding below
below-strict rank a b [] row link has h k = cc
below-strict rank a b (None ∷ links) zero link has h k = cc
below-strict rank a b (Some other ∷ links) zero link has h k =
    let same : other ≡ link = cc in
    let one : tick rank b (Some other) ≡ 1 = tick-counted rank b other (rw same k) in
    let none : tick rank a (Some other) ≡ 0 = tick-left rank a other (rw same h) in
    let rest = below-more rank a b links (omega arith) in
    omega arith
below-strict rank a b (first ∷ links) (suc row) link has h k =
    let one = tick-more rank a b first (omega arith) in
    let rest = below-strict rank a b links row link has h k in
    omega arith

below-some : (rank : ℕ → ℕ) (b : ℕ) (links : List (Option Link)) (row : ℕ) (link : Link) → HasLink links row link → rank link.outgoing ≤ b → 0 < below rank b links
unfolding below
below-some rank b [] row link has k = cc
below-some rank b (None ∷ links) zero link has k = cc
below-some rank b (Some other ∷ links) zero link has k =
    let same : other ≡ link = cc in
    let one : tick rank b (Some other) ≡ 1 = tick-counted rank b other (rw same k) in
    omega arith
below-some rank b (first ∷ links) (suc row) link has k =
    let rest = below-some rank b links row link has k in
    omega arith

-- ---- each row of a link is in the order

-- the row is passed from the column on, in as many steps as there can be
Passes : (ℕ → ℕ) → List (Option Link) → ℕ → ℕ → Type 0
Passes rank links row column = (steps : ℕ) → below rank (rank column) links ≤ steps → In row (rows_from steps links column)

leaving_of : (d : RowsData) (links : List (Option Link)) (row : ℕ) (link : Link) → AreLinks d links → HasLink links row link → (step : Step) × (leaving 0 links link.outgoing ≡ Some step) × (step.row ≡ row) × (step.incoming ≡ link.incoming)
leaving_of d links row link are has = by_step (leaving 0 links link.outgoing) refl
  where
    by_step : (found : Option Step) → leaving 0 links link.outgoing ≡ found → (step : Step) × (leaving 0 links link.outgoing ≡ Some step) × (step.row ≡ row) × (step.incoming ≡ link.incoming)
    by_step None e = absurd (leaving_none 0 links link.outgoing e row link has refl)
    by_step (Some step) e =
        let left = leaves d links link.outgoing step are e in
        let row_is : step.row ≡ row = are.one_outgoing step.row row left.link link left.has has left.leaves in
        let there : HasLink links row left.link = ap (λ (i : ℕ). get_or links i None) (sym row_is) ∙ left.has in
        let same : left.link ≡ link = cc in
        (step, e, row_is, sym left.leads ∙ ap (λ (l : Link). l.incoming) same)

passes-own : (d : RowsData) (links : List (Option Link)) (are : AreLinks d links) (row : ℕ) (link : Link) → HasLink links row link → Passes are.rank links row link.outgoing
unfolding Passes
passes-own d links are row link has zero h = let some = below-some are.rank (are.rank link.outgoing) links row link has (omega arith) in absurd (omega arith)
passes-own d links are row link has (suc steps) h =
    let found = leaving_of d links row link are has in
    rw (rows_from-step steps links link.outgoing found.0 found.1) (inl found.2)

passes-before : (d : RowsData) (links : List (Option Link)) (are : AreLinks d links) (row other : ℕ) (link : Link) (column : ℕ) → HasLink links other link → link.incoming ≡ column → Passes are.rank links row column → Passes are.rank links row link.outgoing
unfolding Passes
passes-before d links are row other link column has leads passes zero h = let some = below-some are.rank (are.rank link.outgoing) links other link has (omega arith) in absurd (omega arith)
passes-before d links are row other link column has leads passes (suc steps) h =
    let found = leaving_of d links other link are has in
    let falls = are.rank_falls other link has in
    let rank_is : are.rank link.incoming ≡ are.rank column = ap are.rank leads in
    let less = below-strict are.rank (are.rank column) (are.rank link.outgoing) links other link has (omega arith) (omega arith) in
    let next : found.0.incoming ≡ column = found.3 ∙ leads in
    rw (rows_from-step steps links link.outgoing found.0 found.1, next) (inr (passes steps (omega arith)))

-- an end from which the row is passed
record HasEnd (d : RowsData) (links : List (Option Link)) (are : AreLinks d links) (row : ℕ) : Type 0 where
  end : ℕ
  within : end < length d.costs
  free : list_any (enters end) links ≡ false
  passes : Passes are.rank links row end

end_of : (d : RowsData) (links : List (Option Link)) (are : AreLinks d links) (row fuel column : ℕ) → length links - below are.rank (are.rank column) links < fuel → column < length d.costs → Passes are.rank links row column → HasEnd d links are row
end_of d links are row zero column h l passes = absurd (omega arith)
end_of d links are row (suc fuel) column h l passes =
    by_test (end_of d links are row fuel) (list_any (enters column) links) refl
  where
    by_test : ((next : ℕ) → length links - below are.rank (are.rank next) links < fuel → next < length d.costs → Passes are.rank links row next → HasEnd d links are row) → (t : Bool) → list_any (enters column) links ≡ t → HasEnd d links are row
    by_test later false e = record { end = column; within = l; free = e; passes = passes }
    by_test later true e =
        let is = some_enters links column e in
        let falls = are.rank_falls is.row is.link is.has in
        let rank_is : are.rank is.link.incoming ≡ are.rank column = ap are.rank is.leads in
        let less = below-strict are.rank (are.rank column) (are.rank is.link.outgoing) links is.row is.link is.has (omega arith) (omega arith) in
        let most = below-le are.rank (are.rank is.link.outgoing) links in
        later is.link.outgoing (omega arith) (are.each is.row is.link is.has).outgoing_exists (passes-before d links are row is.row is.link column is.has is.leads passes)

pub in-lift_order : (d : RowsData) (links : List (Option Link)) → AreLinks d links → (row : ℕ) (link : Link) → HasLink links row link → In row (lift_order (length d.costs) links)
unfolding Passes
in-lift_order d links are row link has =
    let is = end_of d links are row (suc (length links)) link.outgoing (omega arith) (are.each row link has).outgoing_exists (passes-own d links are row link has) in
    let columns = length d.costs in
    let places = chain_places columns links in
    let place = get_or places is.end 0 in
    let here : is_end links places place is.end ≡ true = rw (eq-eqb (get_or places is.end 0) place refl, is.free) refl in
    let most = below-le are.rank (are.rank is.end) links in
    let passed : In row (rows_of_end links places place is.end) = rw here (is.passes (length links) most) in
    let long = places-length columns links in
    let one : In row (rows_of_chain links places place) = in-range row (rows_of_end links places place) 0 (length places) is.end (omega arith) (let within = is.within in omega arith) passed in
    in-range row (rows_of_chain links places) 0 (chain_count columns links) place (omega arith) (let within = place-within columns links is.end is.within in omega arith) one
