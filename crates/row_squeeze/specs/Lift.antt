-- What squeezed rows say of the full ones: multipliers and rays, lifted.
use Rattle.std.specs.Prelude.{◌≡◌, ℕ, zero, suc, ◌==◌, ◌&&◌, Bool, false, not, cond, List, [], ◌∷◌, map, length, get_or, set, ℤ, pos, ◌-ℤ◌, ◌*ℤ◌, unsigned_abs, Option, Some, None, Result, Ok, Err, refl}
use Rattle.std.specs.List.{range_with_len, flat_map, list_any}
use Rattle.whole_rows.specs.Rows.{RowsData, cost_at, column_sum}
use Rattle.whole_simplex.specs.Outcome.{is_large}
use Rattle.whole_simplex.specs.declared.Optimum.{Optimum}
use Rattle.row_squeeze.specs.declared.Link.{Link}
use Rattle.row_squeeze.specs.declared.LiftFault.{LiftFault}
use Rattle.row_squeeze.specs.declared.LiftFault.TheVariants.{Multiplier, Memory}
use Rattle.row_squeeze.specs.declared.lift.Step.{Step}
use Rattle.row_squeeze.specs.Chains.{chain_count, chain_places, two_links}
use Rattle.row_squeeze.specs.Squeezed.{straight}

-- ---- the order of the rows of links: chain by chain, each from its end to its head

-- the link that leaves a column, if one does: its row, the first one counted as `row`, and its incoming column
abbrev pub leaving : ℕ → List (Option Link) → ℕ → Option Step
leaving row [] column = None
leaving row (None ∷ links) column = leaving (suc row) links column
leaving row (Some link ∷ links) column =
    cond (link.outgoing == column) (Some (record { row = row; incoming = link.incoming })) (leaving (suc row) links column)

abbrev pub rows_on : (ℕ → List ℕ) → Option Step → List ℕ
rows_on rest None = []
rows_on rest (Some step) = step.row ∷ rest step.incoming

-- the rows of the links from a column on to the head of its chain, in at most that many steps
abbrev pub rows_from : ℕ → List (Option Link) → ℕ → List ℕ
rows_from zero links column = []
rows_from (suc steps) links column = rows_on (rows_from steps links) (leaving 0 links column)

abbrev pub enters : ℕ → Option Link → Bool
enters column None = false
enters column (Some link) = link.incoming == column

-- the column is the end of the chain at that place: no link enters it
abbrev pub is_end : List (Option Link) → List ℕ → ℕ → ℕ → Bool
is_end links places place column = (get_or places column 0 == place) && not (list_any (enters column) links)

abbrev pub rows_of_end : List (Option Link) → List ℕ → ℕ → ℕ → List ℕ
rows_of_end links places place column = cond (is_end links places place column) (rows_from (length links) links column) []

-- the rows of the links of the chain at that place, from its end on
abbrev pub rows_of_chain : List (Option Link) → List ℕ → ℕ → List ℕ
rows_of_chain links places place = flat_map (rows_of_end links places place) (range_with_len 0 (length places))

-- those of that many chains, one chain after the other
abbrev pub lift_from : List (Option Link) → List ℕ → ℕ → List ℕ
lift_from links places count = flat_map (rows_of_chain links places) (range_with_len 0 count)

abbrev pub lift_order : ℕ → List (Option Link) → List ℕ
lift_order columns links = lift_from links (chain_places columns links) (chain_count columns links)

-- ---- the lifted multipliers

-- the rows without a link have the multipliers of the squeezed rows; those with a link begin with 0
abbrev pub unlifted : List (Option Link) → List ℤ → List ℤ
unlifted [] multipliers = []
unlifted (Some link ∷ links) multipliers = pos 0 ∷ unlifted links multipliers
unlifted (None ∷ links) [] = pos 0 ∷ unlifted links []
unlifted (None ∷ links) (multiplier ∷ multipliers) = multiplier ∷ unlifted links multipliers

abbrev pub outgoing_of : Option Link → ℕ
outgoing_of None = 0
outgoing_of (Some link) = link.outgoing

-- the column that the link of a row leaves
abbrev pub outgoing_at : List (Option Link) → ℕ → ℕ
outgoing_at links row = outgoing_of (get_or links row None)

-- the multiplier of a link's row, where its outgoing column is that one: the denominator times the column's cost, less
-- the sum over all other rows of multiplier times entry at the column
abbrev pub lifted_value : RowsData → ℤ → List ℤ → ℕ → ℕ → ℤ
lifted_value d denominator multipliers row column =
    (denominator *ℤ cost_at d column) -ℤ column_sum d (map unsigned_abs (set multipliers row (pos 0))) column

-- the multipliers with those of these rows lifted, one after the other, or the first that reaches 2^80
abbrev pub lifted : RowsData → List (Option Link) → ℤ → List ℤ → List ℕ → Result (List ℤ) ℤ
lifted d links denominator multipliers [] = Ok multipliers
lifted d links denominator multipliers (row ∷ rows) =
    let value = lifted_value d denominator multipliers row (outgoing_at links row) in
    cond (is_large value) (Err value) (lifted d links denominator (set multipliers row value) rows)

abbrev pub lifted_of : RowsData → List (Option Link) → ℤ → List ℤ → Result (List ℤ) ℤ
lifted_of d links denominator multipliers =
    lifted d links denominator (unlifted links multipliers) (lift_order (length d.costs) links)

-- the answer of a lift: the lifted multipliers beside what else the optimum has, or the first one that reaches 2^80
abbrev pub SaysLifted : RowsData → List (Option Link) → Optimum → Result Optimum LiftFault → Type 0
SaysLifted d links optimum (Ok full) =
    (lifted_of d links optimum.denominator optimum.multipliers ≡ Ok full.multipliers)
    × (full.denominator ≡ optimum.denominator)
    × (full.bound ≡ optimum.bound)
    × (full.pivots ≡ optimum.pivots)
SaysLifted d links optimum (Err (Multiplier value)) =
    lifted_of d links optimum.denominator optimum.multipliers ≡ Err value
SaysLifted d links optimum (Err Memory) = Unit {0}

-- ---- rays and points

-- for each full column the value of its chain
abbrev pub spread : List ℕ → List ℤ → List ℤ
spread places values = map (λ place. get_or values place (pos 0)) places

-- ---- worked cases

order_case : lift_order 6 two_links ≡ 4 ∷ 3 ∷ []
order_case = refl

lifted_case : lifted_of straight two_links (pos 1) (pos 13 ∷ pos 7 ∷ pos 3 ∷ pos 3 ∷ pos 3 ∷ pos 0 ∷ pos 0 ∷ []) ≡ Ok (pos 13 ∷ pos 7 ∷ pos 3 ∷ pos 5 ∷ pos 4 ∷ pos 3 ∷ pos 3 ∷ pos 0 ∷ pos 0 ∷ [])
lifted_case = refl

ray_case : spread (chain_places 6 two_links) (pos 0 ∷ pos 2 ∷ pos 5 ∷ pos 1 ∷ []) ≡ pos 0 ∷ pos 2 ∷ pos 5 ∷ pos 5 ∷ pos 5 ∷ pos 1 ∷ []
ray_case = refl
