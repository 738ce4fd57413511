-- Points and rays of the squeezed rows against those of the full rows.
use Rattle.std.proofs.Common.{◌≡◌, ℕ, zero, suc, ◌<◌, ◌≤◌, List, [], map, length, get_or, ℤ, pos, negsuc, ◌-ℤ◌, ◌*ℤ◌, ◌≤ℤ◌, Option, Some, None, refl, sym, ap, ◌∙◌, inl, inr, ◌⊎◌, arith}
use Rattle.std.proofs.lemmas.Bool.{cases_lt, cases_eq}
use Rattle.std.proofs.lemmas.Int.{ints}
use Rattle.std.proofs.lemmas.List.{get_or-map, get_or_past, length-map}
use Rattle.std.proofs.lemmas.List.Elements.{All-get_or}
use Rattle.std.proofs.lemmas.List.FromFn.{length-map-range_with_len}
use Rattle.std.proofs.Math.Nat.{mul-le-mul_left}
use Rattle.whole_rows.specs.Rows.{RowsData, AreRows, product_sum, left_side, cost_of, right_at, row_at}
use Rattle.whole_rows.specs.Greatest.{IsPoint, IsGreatest, IsRay}
use Rattle.row_squeeze.specs.declared.Link.{Link}
use Rattle.row_squeeze.specs.Links.{HasLink, AreLinks}
use Rattle.row_squeeze.specs.Chains.{heads_of, chain_heads, chain_count, chain_places}
use Rattle.row_squeeze.specs.Squeezed.{merged, kept, squeezed_of}
use Rattle.row_squeeze.specs.Laws.{squeezed_point, GivesFullPoints, GivesSqueezedPoints}
use Rattle.row_squeeze.proofs.Products.{sum_at_two, sum-le-sum, merged_sum, zero_times}
use Rattle.row_squeeze.proofs.Kept.{kept_row, kept_row-within, kept_row-none, kept_row-at, kept_place, kept_place-within, kept_place-at}
use Rattle.row_squeeze.proofs.Heads.{heads_are, has_head, RiseAlong, left_by_link, places-length, place-at, place-within, head-at}

-- ---- rows of the squeezed rows

abbrev merge : RowsData → List (Option Link) → List ℤ → List ℤ
merge d links xs = merged (chain_count (length d.costs) links) (chain_places (length d.costs) links) xs

pub squeezed_row-at : (d : RowsData) (links : List (Option Link)) (i : ℕ) → length links ≡ length d.rows → i < length (kept links d.rows) → row_at (squeezed_of d links) i ≡ merge d links (row_at d (kept_row links i))
squeezed_row-at d links i e h =
    get_or-map (merge d links) (kept links d.rows) i [] [] h ∙ ap (merge d links) (kept_row-at links d.rows d.rows i [] refl h)

squeezed_place-at : (d : RowsData) (links : List (Option Link)) (row : ℕ) → length links ≡ length d.rows → row < length d.rows → get_or links row None ≡ None → row_at (squeezed_of d links) (kept_place links row) ≡ merge d links (row_at d row)
squeezed_place-at d links row e h none =
    get_or-map (merge d links) (kept links d.rows) (kept_place links row) [] [] (kept_place-within links d.rows row e (omega arith) none) ∙ ap (merge d links) (kept_place-at links d.rows row [] e (omega arith) none)

-- ---- the left side of a link's row

pub link_row-sum : (d : RowsData) (links : List (Option Link)) (row : ℕ) (link : Link) (ns : List ℕ) → AreLinks d links → HasLink links row link → product_sum (row_at d row) ns ≡ pos (get_or ns link.outgoing 0) -ℤ pos (get_or ns link.incoming 0)
link_row-sum d links row link ns are has =
    let is = are.each row link has in
    sum_at_two (row_at d row) ns link.outgoing link.incoming is.outgoing_entry is.incoming_entry is.no_other_entry

-- a link's columns have one place
pub link_place : (d : RowsData) (links : List (Option Link)) (row : ℕ) (link : Link) → AreLinks d links → HasLink links row link → get_or (chain_places (length d.costs) links) link.outgoing 0 ≡ get_or (chain_places (length d.costs) links) link.incoming 0
link_place d links row link are has =
    let is = are.each row link has in
    let shared = (heads_are d links are).shared row link has in
    rw (place-at (length d.costs) links link.outgoing is.outgoing_exists, place-at (length d.costs) links link.incoming is.incoming_exists, shared) refl

-- ---- from the squeezed rows to the full ones

-- the values of the columns, each that of its chain
abbrev pub spread_out : RowsData → List (Option Link) → List ℕ → List ℕ
spread_out d links v = map (λ place. get_or v place 0) (chain_places (length d.costs) links)

pub spread-at : (d : RowsData) (links : List (Option Link)) (v : List ℕ) (column : ℕ) → column < length d.costs → get_or (spread_out d links v) column 0 ≡ get_or v (get_or (chain_places (length d.costs) links) column 0) 0
spread-at d links v column h =
    get_or-map (λ place. get_or v place 0) (chain_places (length d.costs) links) column 0 0 (rw (places-length (length d.costs) links) h)

pub spread-length : (d : RowsData) (links : List (Option Link)) (v : List ℕ) → length (spread_out d links v) ≡ length d.costs
spread-length d links v = length-map (chain_places (length d.costs) links) (λ place. get_or v place 0) ∙ places-length (length d.costs) links

-- a link's row is met with nothing left
spread-link : (d : RowsData) (links : List (Option Link)) (v : List ℕ) (row : ℕ) (link : Link) → AreLinks d links → HasLink links row link → left_side d row (spread_out d links v) ≡ pos 0
spread-link d links v row link are has =
    let is = are.each row link has in
    let left : get_or (spread_out d links v) link.outgoing 0 ≡ get_or (spread_out d links v) link.incoming 0 =
    spread-at d links v link.outgoing is.outgoing_exists ∙ ap (λ (place : ℕ). get_or v place 0) (link_place d links row link are has) ∙ sym (spread-at d links v link.incoming is.incoming_exists) in
    let sum = link_row-sum d links row link (spread_out d links v) are has in
    omega (arith, ints)

pub squeezed-costs : (d : RowsData) (links : List (Option Link)) → length (squeezed_of d links).costs ≡ chain_count (length d.costs) links
squeezed-costs d links = length-map-range_with_len _ 0 (chain_count (length d.costs) links)

-- a row without a link has the left side that it has when squeezed
spread-row : (d : RowsData) (links : List (Option Link)) (v : List ℕ) (row : ℕ) → length links ≡ length d.rows → length v ≡ length (squeezed_of d links).costs → row < length d.rows → get_or links row None ≡ None → left_side d row (spread_out d links v) ≡ left_side (squeezed_of d links) (kept_place links row) v
spread-row d links v row e f h none =
    sym (ap (λ (xs : List ℤ). product_sum xs v) (squeezed_place-at d links row e h none) ∙ merged_sum (chain_count (length d.costs) links) (chain_places (length d.costs) links) (row_at d row) v (f ∙ squeezed-costs d links))

pub spread-cost : (d : RowsData) (links : List (Option Link)) (v : List ℕ) → length v ≡ length (squeezed_of d links).costs → cost_of d (spread_out d links v) ≡ cost_of (squeezed_of d links) v
spread-cost d links v f =
    sym (merged_sum (chain_count (length d.costs) links) (chain_places (length d.costs) links) d.costs v (f ∙ squeezed-costs d links))

squeezed-rows-length : (d : RowsData) (links : List (Option Link)) → length (squeezed_of d links).rows ≡ length (kept links d.rows)
squeezed-rows-length d links = length-map (kept links d.rows) (merge d links)

-- what holds of each left side of the squeezed rows holds of each of the full rows, if it holds of 0 beside 0
spread-rows : (d : RowsData) (links : List (Option Link)) (v : List ℕ) (P : ℤ → ℤ → Type 0) → AreRows d → AreLinks d links → length v ≡ length (squeezed_of d links).costs → P (pos 0) (pos 0) → ((i : ℕ) → i < length (squeezed_of d links).rows → P (left_side (squeezed_of d links) i v) (right_at (squeezed_of d links) i)) → (row : ℕ) → row < length d.rows → P (left_side d row (spread_out d links v)) (right_at d row)
spread-rows d links v P rows are f nothing holds row h = by_link (get_or links row None) refl
  where
    by_link : (found : Option Link) → get_or links row None ≡ found → P (left_side d row (spread_out d links v)) (right_at d row)
    by_link (Some link) has = rw (spread-link d links v row link are has, (are.each row link has).right_side) nothing
    by_link None none =
        let shape = rows.shape in
        let within = kept_place-within links d.rows row are.counted (omega (arith, are.counted)) none in
        let right = kept_place-at links d.rights row (pos 0) (omega (arith, are.counted, shape.rights_fit)) (omega (arith, are.counted)) none in
        rw (spread-row d links v row are.counted f h none, ← right) (holds (kept_place links row) (rw (squeezed-rows-length d links) within))

pub full_points : (d : RowsData) (links : List (Option Link)) → AreRows d → AreLinks d links → GivesFullPoints d links
full_points d links rows are v k point = (
  record {
    fits = spread-length d links v;
    above_zero = point.above_zero;
    meets = spread-rows d links v (λ left right. left ≤ℤ (pos k *ℤ right)) rows are point.fits (omega (arith, ints)) point.meets;
  },
  spread-cost d links v point.fits,
)

-- ---- rays

pub full_ray : (d : RowsData) (links : List (Option Link)) (u : List ℕ) → AreRows d → AreLinks d links → IsRay (squeezed_of d links) u → IsRay d (spread_out d links u)
full_ray d links u rows are ray = record {
  fits = spread-length d links u;
  keeps = spread-rows d links u (λ left right. left ≤ℤ pos 0) rows are ray.fits (omega (arith, ints)) ray.keeps;
  gains = rw (spread-cost d links u ray.fits) ray.gains;
}

-- ---- from the full rows to the squeezed ones

-- where values rise along links, each column gets its head's
raised : RowsData → List (Option Link) → List ℕ → List ℕ
raised d links u = spread_out d links (squeezed_point (length d.costs) links u)

heads-within : (d : RowsData) (links : List (Option Link)) (u : List ℕ) (column : ℕ) → AreLinks d links → column < length d.costs → get_or (raised d links u) column 0 ≡ get_or u (get_or (heads_of (length d.costs) links) column 0) 0
unfolding raised
heads-within d links u column are h =
    spread-at d links (squeezed_point (length d.costs) links u) column h
    ∙ get_or-map (λ head. get_or u head 0) (chain_heads (length d.costs) links) (get_or (chain_places (length d.costs) links) column 0) 0 0 (place-within (length d.costs) links column h)
    ∙ ap (λ (head : ℕ). get_or u head 0) (head-at (length d.costs) links column h)

pub not_positive_times : (x : ℤ) (a b : ℕ) → x ≤ℤ pos 0 → a ≤ b → (x *ℤ pos b) ≤ℤ (x *ℤ pos a)
not_positive_times (pos zero) a b h k = omega (arith, ints, zero_times (pos 0) a refl, zero_times (pos 0) b refl)
not_positive_times (pos (suc n)) a b h k = absurd (omega (arith, ints))
not_positive_times (negsuc n) a b h k = omega (arith, ints, mul-le-mul_left (suc n) k)

pub not_negative_times : (x : ℤ) (a b : ℕ) → pos 0 ≤ℤ x → a ≤ b → (x *ℤ pos a) ≤ℤ (x *ℤ pos b)
not_negative_times (pos n) a b h k = omega (arith, ints, mul-le-mul_left n k)
not_negative_times (negsuc n) a b h k = absurd (omega (arith, ints))

-- a column keeps its value, or it is left by a link and its value rises
raised-cases : (d : RowsData) (links : List (Option Link)) (u : List ℕ) (column : ℕ) (P : ℕ → Type 0) → AreLinks d links → RiseAlong links u → column < length d.costs → P (get_or u column 0) → ((row : ℕ) (link : Link) → HasLink links row link → link.outgoing ≡ column → (v : ℕ) → get_or u column 0 ≤ v → P v) → P (get_or (raised d links u) column 0)
raised-cases d links u column P are rise h same rises =
    rw (heads-within d links u column are h) (by_head (cases_eq (get_or (heads_of (length d.costs) links) column 0) column))
  where
    heads : List ℕ
    heads = heads_of (length d.costs) links

    by_head : (get_or (heads_of (length d.costs) links) column 0 ≡ column) ⊎ (get_or (heads_of (length d.costs) links) column 0 ≡ column → ⊥) → P (get_or u (get_or (heads_of (length d.costs) links) column 0) 0)
    by_head (inl e) = rw e same
    by_head (inr n) =
        let is = heads_are d links are in
        let left = left_by_link (length d.costs) links (heads_of (length d.costs) links) is column h n in
        let head = has_head d links (heads_of (length d.costs) links) u are is rise column h in
        rises left.0 left.1 left.2 left.3 (get_or u (get_or (heads_of (length d.costs) links) column 0) 0) head.above

-- no row without a link is worse met
raised-row : (d : RowsData) (links : List (Option Link)) (u : List ℕ) (row : ℕ) → AreRows d → AreLinks d links → RiseAlong links u → length u ≡ length d.costs → row < length d.rows → get_or links row None ≡ None → left_side d row (raised d links u) ≤ℤ left_side d row u
unfolding raised
raised-row d links u row rows are rise fits h none =
    sum-le-sum (row_at d row) (raised d links u) u (spread-length d links (squeezed_point (length d.costs) links u) ∙ sym fits) (λ j. by_size j (cases_lt j (length d.costs)))
  where
    by_size : (j : ℕ) → (j < length d.costs) ⊎ (length d.costs ≤ j) → (get_or (row_at d row) j (pos 0) *ℤ pos (get_or (raised d links u) j 0)) ≤ℤ (get_or (row_at d row) j (pos 0) *ℤ pos (get_or u j 0))
    by_size j (inl k) =
        raised-cases d links u j (λ v. (get_or (row_at d row) j (pos 0) *ℤ pos v) ≤ℤ (get_or (row_at d row) j (pos 0) *ℤ pos (get_or u j 0))) are rise k (omega (arith, ints)) (λ other link has leaves v more. not_positive_times (get_or (row_at d row) j (pos 0)) (get_or u j 0) v (falls other link has leaves) more)
      where
        falls : (other : ℕ) (link : Link) → HasLink links other link → link.outgoing ≡ j → get_or (row_at d row) j (pos 0) ≤ℤ pos 0
        falls other link has leaves = rw leaves at ((are.each other link has).other_rows row (λ e. let some = ap (λ (i : ℕ). get_or links i None) e in cc))
    by_size j (inr k) =
        let fit : length (row_at d row) ≡ length d.costs = All-get_or (λ r. length r ≡ length d.costs) d.rows row [] h rows.shape.rows_fit in
        let past : get_or (row_at d row) j (pos 0) ≡ pos 0 = get_or_past (row_at d row) j (pos 0) (omega arith) in
        omega (arith, ints, zero_times (get_or (row_at d row) j (pos 0)) (get_or u j 0) past, zero_times (get_or (row_at d row) j (pos 0)) (get_or (raised d links u) j 0) past)

raised-cost : (d : RowsData) (links : List (Option Link)) (u : List ℕ) → AreLinks d links → RiseAlong links u → length u ≡ length d.costs → cost_of d u ≤ℤ cost_of d (raised d links u)
unfolding raised
raised-cost d links u are rise fits =
    sum-le-sum d.costs u (raised d links u) (fits ∙ sym (spread-length d links (squeezed_point (length d.costs) links u))) (λ j. by_size j (cases_lt j (length d.costs)))
  where
    by_size : (j : ℕ) → (j < length d.costs) ⊎ (length d.costs ≤ j) → (get_or d.costs j (pos 0) *ℤ pos (get_or u j 0)) ≤ℤ (get_or d.costs j (pos 0) *ℤ pos (get_or (raised d links u) j 0))
    by_size j (inl k) =
        raised-cases d links u j (λ v. (get_or d.costs j (pos 0) *ℤ pos (get_or u j 0)) ≤ℤ (get_or d.costs j (pos 0) *ℤ pos v)) are rise k (omega (arith, ints)) (λ row link has leaves v more. not_negative_times (get_or d.costs j (pos 0)) (get_or u j 0) v (rw leaves at (are.each row link has).outgoing_cost) more)
    by_size j (inr k) =
        let past : get_or d.costs j (pos 0) ≡ pos 0 = get_or_past d.costs j (pos 0) k in
        omega (arith, ints, zero_times (get_or d.costs j (pos 0)) (get_or u j 0) past, zero_times (get_or d.costs j (pos 0)) (get_or (raised d links u) j 0) past)

-- the values of a point rise along links
pub has_row : (links : List (Option Link)) (row : ℕ) (link : Link) → HasLink links row link → row < length links
has_row links row link has = by_size (cases_lt row (length links))
  where
    by_size : (row < length links) ⊎ (length links ≤ row) → row < length links
    by_size (inl h) = h
    by_size (inr h) = let none = get_or_past links row None h in cc

point-rises : (d : RowsData) (links : List (Option Link)) (u : List ℕ) (k : ℕ) → AreLinks d links → IsPoint d u k → RiseAlong links u
point-rises d links u k are point row link has =
    let meets = rw (link_row-sum d links row link u are has, (are.each row link has).right_side) at (point.meets row (omega (arith, has_row links row link has, are.counted))) in
    omega (arith, ints)

pub squeezed_points : (d : RowsData) (links : List (Option Link)) → AreRows d → AreLinks d links → GivesSqueezedPoints d links
unfolding raised
squeezed_points d links rows are u k point = (
  record {
    fits = fits;
    above_zero = point.above_zero;
    meets = λ i h. meets i (rw (squeezed-rows-length d links) at h);
  },
  rw (← spread-cost d links (squeezed_point (length d.costs) links u) fits) (raised-cost d links u are (point-rises d links u k are point) point.fits),
)
  where
    fits : length (squeezed_point (length d.costs) links u) ≡ length (squeezed_of d links).costs
    fits = length-map (chain_heads (length d.costs) links) (λ head. get_or u head 0) ∙ sym (squeezed-costs d links)

    meets : (i : ℕ) → i < length (kept links d.rows) → left_side (squeezed_of d links) i (squeezed_point (length d.costs) links u) ≤ℤ (pos k *ℤ right_at (squeezed_of d links) i)
    meets i h =
        let row = kept_row links i in
        let within = kept_row-within links d.rows i h in
        let none = kept_row-none links d.rows i h in
        let left : left_side (squeezed_of d links) i (squeezed_point (length d.costs) links u) ≡ left_side d (kept_row links i) (raised d links u) =
        ap (λ (xs : List ℤ). product_sum xs (squeezed_point (length d.costs) links u)) (squeezed_row-at d links i are.counted h) ∙ merged_sum (chain_count (length d.costs) links) (chain_places (length d.costs) links) (row_at d (kept_row links i)) (squeezed_point (length d.costs) links u) (fits ∙ squeezed-costs d links) in
        let right : right_at (squeezed_of d links) i ≡ right_at d (kept_row links i) = kept_row-at links d.rows d.rights i (pos 0) (sym rows.shape.rights_fit) h in
        let less = raised-row d links u (kept_row links i) rows are (point-rises d links u k are point) point.fits within none in
        let met = point.meets (kept_row links i) within in
        rw (left, right) (omega (arith, ints))

-- ---- the greatest value

pub same_greatest : (d : RowsData) (links : List (Option Link)) (bound : ℤ) → AreRows d → AreLinks d links → IsGreatest (squeezed_of d links) bound → IsGreatest d bound
same_greatest d links bound rows are greatest =
    let full = full_points d links rows are greatest.numerators greatest.denominator greatest.is_point in
    record {
      numerators = spread_out d links greatest.numerators;
      denominator = greatest.denominator;
      is_point = full.0;
      reaches = let reaches = greatest.reaches in let same = full.1 in omega (arith, ints);
      unreached = λ u k point reaches. let less = squeezed_points d links rows are u k point in let more = less.1 in greatest.unreached (squeezed_point (length d.costs) links u) k less.0 (omega (arith, ints));
    }

pub greatest_squeezed : (d : RowsData) (links : List (Option Link)) (bound : ℤ) → AreRows d → AreLinks d links → IsGreatest d bound → IsGreatest (squeezed_of d links) bound
greatest_squeezed d links bound rows are greatest =
    let less = squeezed_points d links rows are greatest.numerators greatest.denominator greatest.is_point in
    record {
      numerators = squeezed_point (length d.costs) links greatest.numerators;
      denominator = greatest.denominator;
      is_point = less.0;
      reaches = let reaches = greatest.reaches in let more = less.1 in omega (arith, ints);
      unreached = λ v k point reaches. let full = full_points d links rows are v k point in let same = full.1 in greatest.unreached (spread_out d links v) k full.0 (omega (arith, ints));
    }
