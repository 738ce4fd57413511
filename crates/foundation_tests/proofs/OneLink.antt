-- Rows whose first row alone is a link: column 1 is at most column 0.
use Rattle.std.proofs.Common.{◌≡◌, ◌≢◌, ℕ, zero, suc, List, [], ◌∷◌, length, get_or, pos, negsuc, ◌≤ℤ◌, ℤ, Option, Some, None, refl, sym, ◌∙◌, arith}
use Rattle.std.proofs.lemmas.Int.{ints}
use Rattle.std.proofs.lemmas.Grind.{common_steps}
use Rattle.whole_rows.specs.Rows.{RowsData, entry_at}
use Rattle.row_squeeze.specs.declared.Link.{Link}
use Rattle.row_squeeze.specs.Links.{HasLink, IsLinkRow, AreLinks}

abbrev link : Link
link = record { outgoing = 1; incoming = 0 }

only_first : (rest : List (Option Link)) → ((row : ℕ) → get_or rest row None ≡ None) → (row : ℕ) (other : Link) → HasLink (Some link ∷ rest) row other → (row ≡ 0) × (other ≡ link)
only_first rest none zero other has = grind (arith, common_steps)
only_first rest none (suc row) other has = absurd (grind (arith, common_steps, none row))

one_link : (d : RowsData) (rest : List (Option Link)) → ((row : ℕ) → get_or rest row None ≡ None) → length (Some link ∷ rest) ≡ length d.rows → IsLinkRow d 0 link → AreLinks d (Some link ∷ rest)
one_link d rest none counted first = record {
  counted = counted;
  each = λ row other has. let only = only_first rest none row other has in rw (only.0, only.1) first;
  one_outgoing = λ row other a b hasa hasb q. (only_first rest none row a hasa).0 ∙ sym (only_first rest none other b hasb).0;
  one_incoming = λ row other a b hasa hasb q. (only_first rest none row a hasa).0 ∙ sym (only_first rest none other b hasb).0;
  rank = λ column. column;
  rank_falls = λ row other has. rw (only_first rest none row other has).1 (omega arith);
}

abbrev loose : RowsData
loose = record { costs = pos 1 ∷ pos 1 ∷ []; rows = (negsuc 0 ∷ pos 1 ∷ []) ∷ []; rights = pos 0 ∷ [] }

abbrev bounded : RowsData
bounded = record { costs = pos 1 ∷ pos 1 ∷ []; rows = (negsuc 0 ∷ pos 1 ∷ []) ∷ (pos 1 ∷ pos 0 ∷ []) ∷ []; rights = pos 0 ∷ pos 1 ∷ [] }

others : (entry : ℕ → ℤ) → ((column : ℕ) → entry (suc (suc column)) ≡ pos 0) → (column : ℕ) → column ≢ 1 → column ≢ 0 → entry column ≡ pos 0
others entry past zero m n = absurd (n refl)
others entry past (suc zero) m n = absurd (m refl)
others entry past (suc (suc column)) m n = past column

pub loose-links : AreLinks loose (Some link ∷ [])
loose-links = one_link loose [] (λ row. refl) refl (record {
  outgoing_exists = omega arith;
  incoming_exists = omega arith;
  outgoing_entry = refl;
  incoming_entry = refl;
  no_other_entry = others (entry_at loose 0) (λ column. refl);
  right_side = refl;
  outgoing_cost = omega (arith, ints);
  other_rows = below;
})
  where
    below : (other : ℕ) → other ≢ 0 → entry_at loose other 1 ≤ℤ pos 0
    below zero m = absurd (m refl)
    below (suc other) m = omega (arith, ints)

abbrev no_link : List (Option Link)
no_link = None ∷ []

pub bounded-links : AreLinks bounded (Some link ∷ None ∷ [])
bounded-links = one_link bounded no_link none refl (record {
  outgoing_exists = omega arith;
  incoming_exists = omega arith;
  outgoing_entry = refl;
  incoming_entry = refl;
  no_other_entry = others (entry_at bounded 0) (λ column. refl);
  right_side = refl;
  outgoing_cost = omega (arith, ints);
  other_rows = below;
})
  where
    none : (row : ℕ) → get_or no_link row None ≡ None
    none zero = refl
    none (suc row) = refl

    below : (other : ℕ) → other ≢ 0 → entry_at bounded other 1 ≤ℤ pos 0
    below zero m = absurd (m refl)
    below (suc zero) m = omega (arith, ints)
    below (suc (suc other)) m = omega (arith, ints)
