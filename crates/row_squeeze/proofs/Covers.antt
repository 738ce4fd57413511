-- Lifted multipliers cover every column, and are an optimum of the full rows.
use Rattle.std.proofs.Common.{◌≡◌, ◌≢◌, ℕ, ◌<◌, ◌≤◌, ◌==◌, cond, List, [], ◌∷◌, map, length, get_or, ℤ, pos, ◌*ℤ◌, ◌≤ℤ◌, unsigned_abs, Option, Some, None, Ok, refl, sym, ap, ◌∙◌, zero-add, inl, inr, ◌⊎◌, arith}
use Rattle.std.proofs.lemmas.Bool.{eq-eqb, ne_eqb, cases_lt, cases_eq}
use Rattle.std.proofs.lemmas.Int.{ints}
use Rattle.std.proofs.lemmas.List.{get_or-map, get_or_past, length-map}
use Rattle.std.proofs.lemmas.List.FromFn.{length-map-range_with_len, get_or-map-range_with_len}
use Rattle.std.specs.List.{range_with_len}
use Rattle.whole_rows.specs.Rows.{RowsData, AreRows, row_at, cost_at, column_of, column_sum, right_sum, product_sum}
use Rattle.whole_rows.specs.Duals.{CoversColumns}
use Rattle.whole_rows.proofs.Whole.{mul-add, mul_assoc}
use Rattle.whole_simplex.specs.Answers.{IsSmall, IsOptimum}
use Rattle.row_squeeze.specs.declared.Link.{Link}
use Rattle.row_squeeze.specs.declared.lift.Step.{Step}
use Rattle.row_squeeze.specs.Links.{HasLink, AreLinks}
use Rattle.row_squeeze.specs.Chains.{heads_of, chain_heads, chain_count, chain_places}
use Rattle.row_squeeze.specs.Squeezed.{members, merged, kept, squeezed_of}
use Rattle.row_squeeze.specs.Lift.{leaving, lifted_of, lift_order}
use Rattle.row_squeeze.proofs.Products.{times_zero, one_left, columns-rows, column_part}
use Rattle.row_squeeze.proofs.Kept.{kept-map, kept_sum}
use Rattle.row_squeeze.proofs.Heads.{heads_are, left_by_link, leaving_none, places-length, place-within, head-at}
use Rattle.row_squeeze.proofs.Points.{link_row-sum, link_place, same_greatest}
use Rattle.row_squeeze.proofs.Merging.{merged-at}
use Rattle.row_squeeze.proofs.Walking.{small_is}
use Rattle.row_squeeze.proofs.Chain.{leaves}
use Rattle.row_squeeze.proofs.Order.{In, onto, in-order, in-lift_order}
use Rattle.row_squeeze.proofs.Lifting.{AreLifted, lifted_are}

-- ---- a chain's column in the squeezed rows

-- 1 at the chain's columns, 0 at others
abbrev chain : RowsData → List (Option Link) → ℕ → List ℕ
chain d links place = members (chain_places (length d.costs) links) place

chain-at : (d : RowsData) (links : List (Option Link)) (place column : ℕ) → column < length d.costs → get_or (chain d links place) column 0 ≡ cond (get_or (chain_places (length d.costs) links) column 0 == place) 1 0
chain-at d links place column h =
    get_or-map (λ other. cond (other == place) 1 0) (chain_places (length d.costs) links) column 0 0 (rw (places-length (length d.costs) links) h)

chain-cost : (d : RowsData) (links : List (Option Link)) (place : ℕ) → place < chain_count (length d.costs) links → cost_at (squeezed_of d links) place ≡ product_sum d.costs (chain d links place)
chain-cost d links place h = merged-at (chain_count (length d.costs) links) (chain_places (length d.costs) links) d.costs place (pos 0) h

map_map-is : {X Y Z : Type 0} (g : Y → Z) (f : X → Y) (h : X → Z) → ((x : X) → g (f x) ≡ h x) → (xs : List X) → map g (map f xs) ≡ map h xs
map_map-is g f h same [] = refl
map_map-is g f h same (x ∷ xs) = rw (same x, map_map-is g f h same xs) refl

chain-column : (d : RowsData) (links : List (Option Link)) (place : ℕ) → place < chain_count (length d.costs) links → column_of (squeezed_of d links) place ≡ map (λ row. product_sum row (chain d links place)) (kept links d.rows)
chain-column d links place h =
    map_map-is (λ (row : List ℤ). get_or row place (pos 0)) (merged (chain_count (length d.costs) links) (chain_places (length d.costs) links)) (λ row. product_sum row (chain d links place)) (λ row. merged-at (chain_count (length d.costs) links) (chain_places (length d.costs) links) row place (pos 0) h) (kept links d.rows)

-- ---- the sum over a chain's columns

-- a link's row has nothing over a chain
link-chain : (d : RowsData) (links : List (Option Link)) (place row : ℕ) (link : Link) → AreLinks d links → HasLink links row link → product_sum (row_at d row) (chain d links place) ≡ pos 0
link-chain d links place row link are has =
    let is = are.each row link has in
    let sum = link_row-sum d links row link (chain d links place) are has in
    let same : get_or (chain d links place) link.outgoing 0 ≡ get_or (chain d links place) link.incoming 0 =
    chain-at d links place link.outgoing is.outgoing_exists ∙ ap (λ (other : ℕ). cond (other == place) 1 0) (link_place d links row link are has) ∙ sym (chain-at d links place link.incoming is.incoming_exists) in
    omega (arith, ints)

-- the multipliers' sum over all rows is that over the kept ones
chain-sum : (d : RowsData) (links : List (Option Link)) (place : ℕ) (ms : List ℤ) → AreRows d → AreLinks d links → length ms ≡ length d.rows → product_sum (map (column_part d.rows (map unsigned_abs ms)) (range_with_len 0 (length d.costs))) (chain d links place) ≡ product_sum (map (λ row. product_sum row (chain d links place)) (kept links d.rows)) (map unsigned_abs (kept links ms))
chain-sum d links place ms rows are e =
    columns-rows (length d.costs) d.rows (map unsigned_abs ms) (chain d links place) rows.shape.rows_fit
    ∙ kept_sum links (map over d.rows) ms (are.counted ∙ sym (length-map d.rows over)) (are.counted ∙ sym e) (λ row link has. nothing row link has)
    ∙ ap (λ (xs : List ℤ). product_sum xs (map unsigned_abs (kept links ms))) (kept-map over links d.rows)
  where
    over : List ℤ → ℤ
    over row = product_sum row (chain d links place)

    nothing : (row : ℕ) (link : Link) → HasLink links row link → get_or (map over d.rows) row (pos 0) ≡ pos 0
    nothing row link has = by_size (cases_lt row (length d.rows))
      where
        by_size : (row < length d.rows) ⊎ (length d.rows ≤ row) → get_or (map over d.rows) row (pos 0) ≡ pos 0
        by_size (inl h) = get_or-map over d.rows row [] (pos 0) h ∙ link-chain d links place row link are has
        by_size (inr h) = get_or_past (map over d.rows) row (pos 0) (rw length-map h)

-- ---- what the covered chain says of its head

scaled_sum : (denominator : ℤ) (xs : List ℤ) (ns : List ℕ) → product_sum (map (λ x. denominator *ℤ x) xs) ns ≡ denominator *ℤ product_sum xs ns
scaled_sum denominator [] ns = omega (arith, ints)
scaled_sum denominator (x ∷ xs) [] = omega (arith, ints)
scaled_sum denominator (x ∷ xs) (n ∷ ns) =
    rw (mul-add denominator (x *ℤ pos n) (product_sum xs ns), ← mul_assoc denominator x (pos n), scaled_sum denominator xs ns) refl

-- a column that no link leaves is covered, where its chain is, and the chain's other columns are exact
head-covered : (d : RowsData) (links : List (Option Link)) (denominator : ℤ) (given : List ℤ) (done : List ℕ) (ms : List ℤ) (column : ℕ) → AreRows d → AreLinks d links → IsSmall denominator → AreLifted d links denominator given done ms → ((row : ℕ) (link : Link) → HasLink links row link → In row done) → CoversColumns (squeezed_of d links) (map unsigned_abs given) (unsigned_abs denominator) → column < length d.costs → get_or (heads_of (length d.costs) links) column 0 ≡ column → (pos (unsigned_abs denominator) *ℤ cost_at d column) ≤ℤ column_sum d (map unsigned_abs ms) column
head-covered d links denominator given done ms column rows are small lifted all covers h own =
    rw (← left, ← right) (one_left sums costs (chain d links place) column lengths others one total)
  where
    place : ℕ
    place = get_or (chain_places (length d.costs) links) column 0

    sums : List ℤ
    sums = map (column_part d.rows (map unsigned_abs ms)) (range_with_len 0 (length d.costs))

    costs : List ℤ
    costs = map (λ x. pos (unsigned_abs denominator) *ℤ x) d.costs

    left : get_or costs column (pos 0) ≡ pos (unsigned_abs denominator) *ℤ cost_at d column
    left = get_or-map (λ x. pos (unsigned_abs denominator) *ℤ x) d.costs column (pos 0) (pos 0) h

    right : get_or sums column (pos 0) ≡ column_sum d (map unsigned_abs ms) column
    right = get_or-map-range_with_len (column_part d.rows (map unsigned_abs ms)) 0 (length d.costs) column column (pos 0) h (zero-add column)

    lengths : length sums ≡ length costs
    lengths = length-map-range_with_len (column_part d.rows (map unsigned_abs ms)) 0 (length d.costs) ∙ sym (length-map d.costs (λ x. pos (unsigned_abs denominator) *ℤ x))

    one : get_or (chain d links place) column 0 ≡ 1
    one = chain-at d links place column h ∙ rw (eq-eqb place place refl) refl

    exact : (j : ℕ) → j < length d.costs → j ≢ column → get_or (chain_places (length d.costs) links) j 0 ≡ place → get_or sums j (pos 0) ≡ get_or costs j (pos 0)
    exact j l n e =
        let head : get_or (heads_of (length d.costs) links) j 0 ≡ column =
        sym (head-at (length d.costs) links j l) ∙ ap (λ (i : ℕ). get_or (chain_heads (length d.costs) links) i 0) e ∙ head-at (length d.costs) links column h ∙ own in
        let left_link = left_by_link (length d.costs) links (heads_of (length d.costs) links) (heads_are d links are) j l (λ q. n (sym q ∙ head)) in
        let met = lifted.met left_link.0 left_link.1 (all left_link.0 left_link.1 left_link.2) left_link.2 in
        let is : column_sum d (map unsigned_abs ms) j ≡ denominator *ℤ cost_at d j = rw left_link.3 at met in
        get_or-map-range_with_len (column_part d.rows (map unsigned_abs ms)) 0 (length d.costs) j j (pos 0) l (zero-add j) ∙ is ∙ ap (λ (x : ℤ). x *ℤ cost_at d j) (small_is denominator small) ∙ sym (get_or-map (λ x. pos (unsigned_abs denominator) *ℤ x) d.costs j (pos 0) (pos 0) l)

    others : (j : ℕ) → j ≢ column → get_or sums j (pos 0) *ℤ pos (get_or (chain d links place) j 0) ≡ get_or costs j (pos 0) *ℤ pos (get_or (chain d links place) j 0)
    others j n = by_size (cases_lt j (length d.costs))
      where
        by_place : (j < length d.costs) → (get_or (chain_places (length d.costs) links) j 0 ≡ place) ⊎ (get_or (chain_places (length d.costs) links) j 0 ≡ place → ⊥) → get_or sums j (pos 0) *ℤ pos (get_or (chain d links place) j 0) ≡ get_or costs j (pos 0) *ℤ pos (get_or (chain d links place) j 0)
        by_place l (inl e) = ap (λ (x : ℤ). x *ℤ pos (get_or (chain d links place) j 0)) (exact j l n e)
        by_place l (inr m) =
            let none : get_or (chain d links place) j 0 ≡ 0 = chain-at d links place j l ∙ rw (ne_eqb (get_or (chain_places (length d.costs) links) j 0) place m) refl in
            times_zero (get_or sums j (pos 0)) (get_or (chain d links place) j 0) none ∙ sym (times_zero (get_or costs j (pos 0)) (get_or (chain d links place) j 0) none)

        by_size : (j < length d.costs) ⊎ (length d.costs ≤ j) → get_or sums j (pos 0) *ℤ pos (get_or (chain d links place) j 0) ≡ get_or costs j (pos 0) *ℤ pos (get_or (chain d links place) j 0)
        by_size (inl l) = by_place l (cases_eq (get_or (chain_places (length d.costs) links) j 0) place)
        by_size (inr g) =
            ap (λ (x : ℤ). x *ℤ pos (get_or (chain d links place) j 0)) (get_or_past sums j (pos 0) (rw (length-map-range_with_len (column_part d.rows (map unsigned_abs ms)) 0 (length d.costs)) g) ∙ sym (get_or_past costs j (pos 0) (rw length-map g)))

    total : product_sum costs (chain d links place) ≤ℤ product_sum sums (chain d links place)
    total =
        let within = place-within (length d.costs) links column h in
        let covered = covers place (let wide = length-map-range_with_len (λ (other : ℕ). product_sum d.costs (chain d links other)) 0 (chain_count (length d.costs) links) in omega arith) in
        let here = rw (chain-cost d links place within, chain-column d links place within) at covered in
        let sum : product_sum sums (chain d links place) ≡ product_sum (map (λ row. product_sum row (chain d links place)) (kept links d.rows)) (map unsigned_abs given) =
        chain-sum d links place ms rows are lifted.counted ∙ ap (λ (ns : List ℤ). product_sum (map (λ row. product_sum row (chain d links place)) (kept links d.rows)) (map unsigned_abs ns)) lifted.kept_same in
        rw (scaled_sum (pos (unsigned_abs denominator)) d.costs (chain d links place), sum) here

-- ---- every column

lifted-covers : (d : RowsData) (links : List (Option Link)) (denominator : ℤ) (given : List ℤ) (done : List ℕ) (ms : List ℤ) → AreRows d → AreLinks d links → IsSmall denominator → AreLifted d links denominator given done ms → ((row : ℕ) (link : Link) → HasLink links row link → In row done) → CoversColumns (squeezed_of d links) (map unsigned_abs given) (unsigned_abs denominator) → CoversColumns d (map unsigned_abs ms) (unsigned_abs denominator)
lifted-covers d links denominator given done ms rows are small lifted all covers column h =
    by_link (leaving 0 links column) refl
  where
    by_link : (found : Option Step) → leaving 0 links column ≡ found → (pos (unsigned_abs denominator) *ℤ cost_at d column) ≤ℤ column_sum d (map unsigned_abs ms) column
    by_link None e =
        head-covered d links denominator given done ms column rows are small lifted all covers h ((heads_are d links are).own column h (leaving_none 0 links column e))
    by_link (Some step) e =
        let left = leaves d links column step are e in
        let met = lifted.met step.row left.link (all step.row left.link left.has) left.has in
        let is : column_sum d (map unsigned_abs ms) column ≡ denominator *ℤ cost_at d column = rw left.leaves at met in
        let same : denominator *ℤ cost_at d column ≡ pos (unsigned_abs denominator) *ℤ cost_at d column = ap (λ (x : ℤ). x *ℤ cost_at d column) (small_is denominator small) in
        omega (arith, ints)

-- ---- the optimum

pub lifted_optimum : (d : RowsData) (links : List (Option Link)) (denominator bound : ℤ) (given after : List ℤ) → AreRows d → AreLinks d links → IsOptimum (squeezed_of d links) given denominator bound → lifted_of d links denominator given ≡ Ok after → IsOptimum d after denominator bound × (kept links after ≡ given)
lifted_optimum d links denominator bound given after rows are optimum is = (
  record {
    counted = lifted.counted;
    multipliers_small = lifted.small;
    denominator_small = optimum.denominator_small;
    denominator_above = optimum.denominator_above;
    covers = lifted-covers d links denominator given (onto [] (lift_order (length d.costs) links)) after rows are optimum.denominator_small lifted (λ row link has. in-order row [] (lift_order (length d.costs) links) (in-lift_order d links are row link has)) optimum.covers;
    reached = rw rights optimum.reached;
    below = rw rights optimum.below;
    greatest = same_greatest d links bound rows are optimum.greatest;
  },
  lifted.kept_same,
)
  where
    counted : length given ≡ length (kept links d.rows)
    counted = optimum.counted ∙ length-map (kept links d.rows) (merged (chain_count (length d.costs) links) (chain_places (length d.costs) links))

    lifted : AreLifted d links denominator given (onto [] (lift_order (length d.costs) links)) after
    lifted = lifted_are d links denominator given after are optimum.denominator_small optimum.multipliers_small counted is

    rights : right_sum d (map unsigned_abs after) ≡ right_sum (squeezed_of d links) (map unsigned_abs given)
    rights =
        kept_sum links d.rights after (are.counted ∙ sym rows.shape.rights_fit) (are.counted ∙ sym lifted.counted) (λ row link has. (are.each row link has).right_side) ∙ ap (λ (ms : List ℤ). product_sum (kept links d.rights) (map unsigned_abs ms)) lifted.kept_same
