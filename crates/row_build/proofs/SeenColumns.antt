-- What columns give to the rows of nodes, one column more, and the links of what is seen.
use Rattle.std.proofs.Common.{◌≡◌, ℕ, suc, ◌+◌, ◌<◌, Bool, true, false, cond, List, [], ◌∷◌, ◌++◌, map, length, take, get_or, ℤ, pos, negsuc, refl, sym, ap, ◌∙◌, append-nil, arith}
use Rattle.std.specs.Prelude.{◌&&◌, Option, Some, None}
use Rattle.std.specs.Ordering.{int_eq}
use Rattle.std.proofs.lemmas.List.{map-append, length-map, length-take-le}
use Rattle.whole_rows.specs.Row.{is_zero}
use Rattle.row_squeeze.specs.declared.Link.{Link}
use Rattle.wcet_atomic_blocks.specs.Plants.{PlantData}
use Rattle.row_build.specs.declared.seen.EntryKind.TheVariants.{Outgoing, Incoming, Other}
use Rattle.row_build.specs.declared.seen.SeenEntry.{SeenEntry}
use Rattle.row_build.specs.declared.seen.Seen.{Seen}
use Rattle.row_build.specs.Columns as words
use Rattle.row_build.specs.Families.{passes}
use Rattle.row_build.specs.Links.{Entry, entries_from, is_incoming, is_outgoing, link_at, link_of_entries, link_of_pair}
use Rattle.row_build.specs.Working.Seen.{are_linked, link_of_marked, link_of_seen, seen_of, with_entry}
use Rattle.row_build.specs.Working.Touching.{AreSeen, SeesColumn, marked, seen_at, with_column}
use Rattle.row_build.proofs.Growing.{map_more}

-- ---- One more entry

seen_more : (entries : List SeenEntry) (entry : SeenEntry) → seen_of (entries ++ entry ∷ []) ≡ with_entry (seen_of entries) entry
seen_more [] entry = refl
seen_more (a ∷ []) entry = refl
seen_more (a ∷ b ∷ []) entry = refl
seen_more (a ∷ b ∷ d ∷ more) entry = refl

entries_more : (f : words.Column → ℤ) (k j : ℕ) (xs : List words.Column) (x : words.Column) → k + length xs ≡ j
    → entries_from f k (xs ++ x ∷ []) ≡ entries_from f k xs ++ entries_from f j (x ∷ [])
entries_more f k j [] x at = let e : k ≡ j = omega (arith, at) in ap (λ n. entries_from f n (x ∷ [])) e
entries_more f k j (y ∷ xs) x at = by (is_zero (f y)) (entries_more f (suc k) j xs x (omega (arith, at)))
  where
    by : (b : Bool) → entries_from f (suc k) (xs ++ x ∷ []) ≡ entries_from f (suc k) xs ++ entries_from f j (x ∷ [])
        → cond b (entries_from f (suc k) (xs ++ x ∷ [])) (record { place = k; column = y; factor = f y } ∷ entries_from f (suc k) (xs ++ x ∷ []))
        ≡ cond b (entries_from f (suc k) xs) (record { place = k; column = y; factor = f y } ∷ entries_from f (suc k) xs) ++ entries_from f j (x ∷ [])
    by true rest = rest
    by false rest = ap (λ es. record { place = k; column = y; factor = f y } ∷ es) rest

column_more : (plant : PlantData) (node place : ℕ) (xs : List words.Column) (x : words.Column) → length xs ≡ place
    → seen_at plant node (xs ++ x ∷ []) ≡ with_column plant node place x (seen_at plant node xs)
column_more plant node place xs x at =
    ap (λ es. seen_of (map (marked plant) es)) (entries_more (passes plant node).factor 0 place xs x (omega (arith, at))) ∙ by (is_zero ((passes plant node).factor x))
  where
    by : (b : Bool) → seen_of (map (marked plant) (entries_from (passes plant node).factor 0 xs ++ cond b [] (record { place = place; column = x; factor = (passes plant node).factor x } ∷ [])))
        ≡ cond b (seen_at plant node xs) (with_entry (seen_at plant node xs) (marked plant (record { place = place; column = x; factor = (passes plant node).factor x })))
    by true = ap (λ es. seen_of (map (marked plant) es)) (append-nil (entries_from (passes plant node).factor 0 xs))
    by false =
        ap seen_of (map-append (marked plant) (entries_from (passes plant node).factor 0 xs) (record { place = place; column = x; factor = (passes plant node).factor x } ∷ []))
        ∙ seen_more (map (marked plant) (entries_from (passes plant node).factor 0 xs)) (marked plant (record { place = place; column = x; factor = (passes plant node).factor x }))

-- what is seen in columns that others stand for, with one more
pub columns_more : {N : Type 0} (plant : PlantData) (f : N → words.Column) (xs : List N) (place : ℕ) (d : N) (seen seen' : List Seen) → place < length xs
    → AreSeen plant (map f (take place xs)) seen → SeesColumn plant place (f (get_or xs place d)) seen seen' → AreSeen plant (map f (take (place + 1) xs)) seen'
columns_more plant f xs place d seen seen' within were sees = record {
  count = sees.count ∙ were.count;
  each = λ node inside.
      let inside' : node < length seen = omega (arith, inside, sees.count) in
      let count : length (map f (take place xs)) ≡ place = length-map (take place xs) f ∙ length-take-le place xs (omega (arith, within)) in
      sees.each node inside' ∙ ap (with_column plant node place (f (get_or xs place d))) (were.each node inside')
      ∙ sym (column_more plant node place (map f (take place xs)) (f (get_or xs place d)) count)
      ∙ ap (seen_at plant node) (sym (map_more f xs place d within));
}

-- ---- The link of what is seen

either : (factor : ℤ) (out into : Bool) → (int_eq factor (negsuc 0) && into) ≡ true → (int_eq factor (pos 1) && out) ≡ false
either (pos n) out into is = absurd cc
either (negsuc n) out into is = refl

linked : (out into out' into' : Bool) (link : Link) → (into' ≡ true → out' ≡ false)
    → cond (out && into') (Some link) None ≡ cond (are_linked (cond out Outgoing (cond into Incoming Other)) (cond out' Outgoing (cond into' Incoming Other))) (Some link) None
linked true into true true link not_both = absurd (let e = not_both refl in cc)
linked true into true false link not_both = refl
linked true into false true link not_both = refl
linked true into false false link not_both = refl
linked false true out' into' link not_both = refl
linked false false out' into' link not_both = refl

pair_is : (plant : PlantData) (one another : Entry) → link_of_pair plant one another ≡ link_of_marked (marked plant one) (marked plant another)
pair_is plant one another =
    linked (is_outgoing plant one) (is_incoming one) (is_outgoing plant another) (is_incoming another) (record { outgoing = one.place; incoming = another.place })
    (either another.factor _ _)

link_is : (plant : PlantData) (entries : List Entry) → link_of_entries plant entries ≡ link_of_seen (seen_of (map (marked plant) entries))
link_is plant [] = refl
link_is plant (a ∷ []) = refl
link_is plant (a ∷ b ∷ []) = rw (pair_is plant a b, pair_is plant b a) refl
link_is plant (a ∷ b ∷ d ∷ more) = refl

-- the link of a node's row, unless the node is the first one of the task's own entry
pub link_seen : (plant : PlantData) (task node : ℕ) (columns : List words.Column) (seen : Seen) (link : Option Link) → words.is_first_of plant task node ≡ false
    → seen ≡ seen_at plant node columns → link ≡ link_of_seen seen → link ≡ link_at plant task columns node
link_seen plant task node columns seen link not_first is made =
    made ∙ ap link_of_seen is ∙ sym (link_is plant (entries_from (passes plant node).factor 0 columns))
    ∙ ap (λ first. cond first None (link_of_entries plant (entries_from (passes plant node).factor 0 columns))) (sym not_first)
