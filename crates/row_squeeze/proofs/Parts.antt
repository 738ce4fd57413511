-- What the top calls of the lift put together.
use Rattle.std.proofs.Common.{◌≡◌, ℕ, ◌<◌, ◌≤◌, List, [], ◌∷◌, map, length, get_or, ℤ, pos, ◌≤ℤ◌, unsigned_abs, Option, Ok, All, refl, sym, ap, ◌∙◌, subst, inl, inr, ◌⊎◌, arith}
use Rattle.std.proofs.lemmas.Bool.{cases_lt}
use Rattle.std.proofs.lemmas.Int.{ints}
use Rattle.std.proofs.lemmas.List.{get_or-map, get_or_past, length-map}
use Rattle.std.proofs.lemmas.List.Elements.{All-weaker, All-get_or, All-from_get_or, All-map}
use Rattle.whole_rows.specs.Row.{IsInRange, AreInRange}
use Rattle.whole_rows.specs.Rows.{RowsData, AreRows}
use Rattle.whole_rows.specs.Greatest.{IsRay}
use Rattle.whole_simplex.specs.Answers.{IsSmall, IsOptimum, IsUnbounded}
use Rattle.row_squeeze.specs.declared.Link.{Link}
use Rattle.row_squeeze.specs.declared.Squeezed.{Squeezed}
use Rattle.row_squeeze.specs.Links.{AreLinks}
use Rattle.row_squeeze.specs.Chains.{chain_count, chain_places}
use Rattle.row_squeeze.specs.Squeezed.{kept, squeezed_of, IsSqueezed, IsSqueezedByLinks}
use Rattle.row_squeeze.specs.Lift.{unlifted, lifted, lifted_of, lift_from, spread}
use Rattle.row_squeeze.proofs.Kept.{unlifted-length}
use Rattle.row_squeeze.proofs.Heads.{places-length, place-within}
use Rattle.row_squeeze.proofs.Points.{squeezed-costs, full_ray}
use Rattle.row_squeeze.proofs.Lifting.{unlifted-small}
use Rattle.row_squeeze.proofs.Covers.{lifted_optimum}

-- ---- multipliers

-- the parts of the lift are those of its definition
pub lifted_by_parts : (d : RowsData) (links given : List (Option Link)) (squeezed : Squeezed) (places : List ℕ) (count : ℕ) (denominator : ℤ) (ms start : List ℤ) (rows : List (Option Link)) → IsSqueezed d links squeezed → given ≡ links → rows ≡ links → places ≡ squeezed.column_of → count ≡ length squeezed.rows.costs → start ≡ unlifted rows ms → lifted d given denominator start (lift_from given places count) ≡ lifted_of d links denominator ms
lifted_by_parts d links given squeezed places count denominator ms start rows is same also places_are count_is start_is =
    let places_of : places ≡ chain_places (length d.costs) links = places_are ∙ is.column_of in
    let count_of : count ≡ chain_count (length d.costs) links = count_is ∙ ap (λ (r : RowsData). length r.costs) is.rows ∙ squeezed-costs d links in
    let start_of : start ≡ unlifted links ms = start_is ∙ ap (λ (ls : List (Option Link)). unlifted ls ms) also in
    rw (same, places_of, count_of, start_of) refl

pub start-counted : (d : RowsData) (links rows : List (Option Link)) (ms start : List ℤ) → AreLinks d links → rows ≡ links → start ≡ unlifted rows ms → length start ≡ length d.rows
start-counted d links rows ms start are same is = ap length is ∙ unlifted-length rows ms ∙ ap length same ∙ are.counted

pub start-small : (links : List (Option Link)) (ms start : List ℤ) → All IsSmall ms → start ≡ unlifted links ms → All IsSmall start
start-small links ms start small is = subst (All IsSmall) (sym is) (unlifted-small links ms small)

pub small-in_range : (ms : List ℤ) → All IsSmall ms → AreInRange ms
small-in_range ms small = All-weaker IsSmall IsInRange (λ m is. let low = is.0 in let high = is.1 in omega (arith, ints)) ms small

pub squeezed_optimum : (d : RowsData) (links : List (Option Link)) (squeezed : Squeezed) (denominator bound : ℤ) (ms after : List ℤ) → AreRows d → AreLinks d links → IsSqueezed d links squeezed → IsOptimum squeezed.rows ms denominator bound → lifted_of d links denominator ms ≡ Ok after → IsOptimum d after denominator bound × (kept links after ≡ ms)
squeezed_optimum d links squeezed denominator bound ms after rows are is optimum lift =
    lifted_optimum d links denominator bound ms after rows are (subst (λ (r : RowsData). IsOptimum r ms denominator bound) is.rows optimum) lift

-- ---- rays

pub places-within_ray : (d : RowsData) (squeezed : Squeezed) (ray : List ℤ) (places : List ℕ) → IsSqueezedByLinks d squeezed → IsUnbounded squeezed.rows ray → places ≡ squeezed.column_of → All (λ place. place < length ray) places
places-within_ray d squeezed ray places (links, are, is) unbounded same =
    let fits = unbounded.is_ray.fits in
    let wide : length ray ≡ chain_count (length d.costs) links = sym (length-map ray unsigned_abs) ∙ fits ∙ ap (λ (r : RowsData). length r.costs) is.rows ∙ squeezed-costs d links in
    subst (All (λ place. place < length ray)) (sym (same ∙ is.column_of)) (All-from_get_or (λ place. place < length ray) (chain_places (length d.costs) links) 0 (λ column h. let long = places-length (length d.costs) links in let within = place-within (length d.costs) links column (omega arith) in omega arith))

abs-at : (ray : List ℤ) (place : ℕ) → unsigned_abs (get_or ray place (pos 0)) ≡ get_or (map unsigned_abs ray) place 0
abs-at ray place = by_size (cases_lt place (length ray))
  where
    by_size : (place < length ray) ⊎ (length ray ≤ place) → unsigned_abs (get_or ray place (pos 0)) ≡ get_or (map unsigned_abs ray) place 0
    by_size (inl h) = sym (get_or-map unsigned_abs ray place (pos 0) 0 h)
    by_size (inr h) = ap unsigned_abs (get_or_past ray place (pos 0) h) ∙ sym (get_or_past (map unsigned_abs ray) place 0 (rw length-map h))

abs-spread : (places : List ℕ) (ray : List ℤ) → map unsigned_abs (spread places ray) ≡ map (λ place. get_or (map unsigned_abs ray) place 0) places
abs-spread places ray = each places
  where
    each : (ps : List ℕ) → map unsigned_abs (spread ps ray) ≡ map (λ place. get_or (map unsigned_abs ray) place 0) ps
    each [] = refl
    each (place ∷ ps) = rw (abs-at ray place, each ps) refl

spread-positive : (places : List ℕ) (ray : List ℤ) → All (λ entry. pos 0 ≤ℤ entry) ray → All (λ entry. pos 0 ≤ℤ entry) (spread places ray)
spread-positive places ray h =
    All-map (λ entry. pos 0 ≤ℤ entry) (λ place. get_or ray place (pos 0)) places (λ i d l. by_size (get_or places i d) (cases_lt (get_or places i d) (length ray)))
  where
    by_size : (place : ℕ) → (place < length ray) ⊎ (length ray ≤ place) → pos 0 ≤ℤ get_or ray place (pos 0)
    by_size place (inl k) = All-get_or (λ entry. pos 0 ≤ℤ entry) ray place (pos 0) k h
    by_size place (inr k) = rw (get_or_past ray place (pos 0) k) (omega (arith, ints))

pub full_unbounded : (d : RowsData) (squeezed : Squeezed) (ray full : List ℤ) (places : List ℕ) → AreRows d → IsSqueezedByLinks d squeezed → IsUnbounded squeezed.rows ray → places ≡ squeezed.column_of → full ≡ spread places ray → IsUnbounded d full
full_unbounded d squeezed ray full places rows (links, are, is) unbounded same full_is =
    let places_of : places ≡ chain_places (length d.costs) links = same ∙ is.column_of in
    let full_of : full ≡ spread (chain_places (length d.costs) links) ray = full_is ∙ ap (λ (ps : List ℕ). spread ps ray) places_of in
    let on_squeezed : IsRay (squeezed_of d links) (map unsigned_abs ray) = subst (λ (r : RowsData). IsRay r (map unsigned_abs ray)) is.rows unbounded.is_ray in
    let on_full = full_ray d links (map unsigned_abs ray) rows are on_squeezed in
    subst (IsUnbounded d) (sym full_of) (record {
      not_negative = spread-positive (chain_places (length d.costs) links) ray unbounded.not_negative;
      is_ray = subst (IsRay d) (sym (abs-spread (chain_places (length d.costs) links) ray)) on_full;
    })
