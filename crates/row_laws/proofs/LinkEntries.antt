-- What a link says of its node's row: which columns have which factors.
use Rattle.std.proofs.Common.{◌≡◌, ◌≢◌, ℕ, suc, zero, ◌+◌, Bool, true, false, cond, List, [], ◌∷◌, slice_get, ℤ, pos, negsuc, int_eq, Contains, Option, Some, None, ◌⊎◌, inl, inr, refl, sym, ◌∙◌, ap, subst, arith}
use Rattle.std.specs.Prelude.{◌&&◌, not}
use Rattle.std.specs.Option.{option_or}
use Rattle.std.proofs.lemmas.Bool.{and_parts, not-true}
use Rattle.std.proofs.lemmas.Bool.Decides.{Decides-int_eq}
use Rattle.std.proofs.lemmas.Option.{none-some, same_Some, cond_some}
use Rattle.whole_rows.specs.Row.{is_zero}
use Rattle.whole_simplex.proofs.Eliminated.{zero_from_test}
use Rattle.row_squeeze.specs.declared.Link.{Link}
use Rattle.wcet_atomic_blocks.specs.Plants.{PlantData}
use Rattle.row_build.specs.Columns.{Along, Column, Starts, Moves, Goes, Begins, Stands}
use Rattle.row_build.specs.Links.{Entry, entries_from, is_back, is_edge, is_outgoing, is_incoming, link_of_pair, link_of_entries}
use Rattle.row_laws.proofs.LinkLists.{place_of_member, later_member}

-- ---- The entries of a row

abbrev entry_for : (Column → ℤ) → ℕ → Column → Entry
entry_for factor place column = record { place = place; column = column; factor = factor column }

-- the entry at that place stands for a column and its factor
pub record IsEntry (factor : Column → ℤ) (first : ℕ) (columns : List Column) (entry : Entry) : Type 0 where
  pub number : ℕ
  pub place_is : entry.place ≡ first + number
  pub stands : slice_get columns number ≡ Some entry.column
  pub factor_is : entry.factor ≡ factor entry.column

later_entry : (factor : Column → ℤ) (first : ℕ) (column : Column) (columns : List Column) (entry : Entry) → IsEntry factor (suc first) columns entry
    → IsEntry factor first (column ∷ columns) entry
later_entry factor first column columns entry is =
    record { number = suc is.number; place_is = (let e = is.place_is in omega arith); stands = is.stands; factor_is = is.factor_is }

pub entry_is : (factor : Column → ℤ) (first : ℕ) (columns : List Column) (k : ℕ) (entry : Entry)
    → slice_get (entries_from factor first columns) k ≡ Some entry → IsEntry factor first columns entry
entry_is factor first [] k entry at = absurd (none-some entry at)
entry_is factor first (column ∷ columns) k entry at =
    by (is_zero (factor column)) k at (λ j there. later_entry factor first column columns entry (entry_is factor (suc first) columns j entry there))
  where
    by : (b : Bool) (k : ℕ)
        → slice_get (cond b (entries_from factor (suc first) columns) (entry_for factor first column ∷ entries_from factor (suc first) columns)) k ≡ Some entry
        → ((j : ℕ) → slice_get (entries_from factor (suc first) columns) j ≡ Some entry → IsEntry factor first (column ∷ columns) entry)
        → IsEntry factor first (column ∷ columns) entry
    by true k at more = more k at
    by false zero at more =
        let same : entry_for factor first column ≡ entry = same_Some _ entry at in
        record {
          number = 0;
          place_is = sym (ap (λ (e : Entry). e.place) same) ∙ omega arith;
          stands = ap (λ (e : Entry). Some e.column) same;
          factor_is = sym (ap (λ (e : Entry). e.factor) same) ∙ ap (λ (e : Entry). factor e.column) same;
        }
    by false (suc k) at more = more k at

-- every factor that isn't 0 is among the entries
pub has_entry : (factor : Column → ℤ) (first : ℕ) (columns : List Column) (k place : ℕ) (column : Column) → slice_get columns k ≡ Some column
    → is_zero (factor column) ≡ false → place ≡ first + k
    → Contains (entries_from factor first columns) (entry_for factor place column)
has_entry factor first [] k place column at not_zero is = absurd (none-some column at)
has_entry factor first (other ∷ columns) zero place column at not_zero is = by (is_zero (factor other)) refl
  where
    same : other ≡ column
    same = same_Some other column at

    this : entry_for factor first other ≡ entry_for factor place column
    this = let here : first ≡ place = omega arith in
        ap (λ (p : ℕ). entry_for factor p other) here ∙ ap (entry_for factor place) same

    by : (b : Bool) → is_zero (factor other) ≡ b
        → Contains (cond b (entries_from factor (suc first) columns) (entry_for factor first other ∷ entries_from factor (suc first) columns))
        (entry_for factor place column)
    by true vanishes = absurd (let wrong : true ≡ false = sym vanishes ∙ ap (λ c. is_zero (factor c)) same ∙ not_zero in cc)
    by false other_zero = (0, omega arith, this)
has_entry factor first (other ∷ columns) (suc k) place column at not_zero is =
    by (is_zero (factor other)) (has_entry factor (suc first) columns k place column at not_zero (omega arith))
  where
    by : (b : Bool) → Contains (entries_from factor (suc first) columns) (entry_for factor place column)
        → Contains (cond b (entries_from factor (suc first) columns) (entry_for factor first other ∷ entries_from factor (suc first) columns))
        (entry_for factor place column)
    by true has = has
    by false has = later_member _ _ _ has

-- ---- Two entries

-- just these two entries: a 1 at an edge by which no loop is gone round, and a -1 at an edge
pub record IsPair (plant : PlantData) (entries : List Entry) (link : Link) : Type 0 where
  pub outgoing : Entry
  pub incoming : Entry
  pub has_outgoing : (k : ℕ) × (slice_get entries k ≡ Some outgoing)
  pub has_incoming : (k : ℕ) × (slice_get entries k ≡ Some incoming)
  pub only : (k : ℕ) (entry : Entry) → slice_get entries k ≡ Some entry → (entry ≡ outgoing) ⊎ (entry ≡ incoming)
  pub goes : is_outgoing plant outgoing ≡ true
  pub comes : is_incoming incoming ≡ true
  pub outgoing_place : outgoing.place ≡ link.outgoing
  pub incoming_place : incoming.place ≡ link.incoming

pair_parts : (plant : PlantData) (a b : Entry) (link : Link) → link_of_pair plant a b ≡ Some link
    → (is_outgoing plant a ≡ true) × (is_incoming b ≡ true) × (a.place ≡ link.outgoing) × (b.place ≡ link.incoming)
pair_parts plant a b link is =
    let found = cond_some (is_outgoing plant a && is_incoming b) (record { outgoing = a.place; incoming = b.place }) link is in
    let both = and_parts (is_outgoing plant a) (is_incoming b) found.0 in
    (both.0, both.1, ap (λ (l : Link). l.outgoing) found.1, ap (λ (l : Link). l.incoming) found.1)

two_places : (P : Entry → Type 0) (a b : Entry) → P a → P b → (k : ℕ) (entry : Entry) → slice_get (a ∷ b ∷ []) k ≡ Some entry → P entry
two_places P a b first second zero entry at = subst P (same_Some a entry at) first
two_places P a b first second (suc zero) entry at = subst P (same_Some b entry at) second
two_places P a b first second (suc (suc k)) entry at = absurd (none-some entry at)

pub pair_of : (plant : PlantData) (entries : List Entry) (link : Link) → link_of_entries plant entries ≡ Some link → IsPair plant entries link
pair_of plant [] link is = absurd (none-some link is)
pair_of plant (a ∷ []) link is = absurd (none-some link is)
pair_of plant (a ∷ b ∷ c ∷ more) link is = absurd (none-some link is)
pair_of plant (a ∷ b ∷ []) link is = by (link_of_pair plant a b) refl is
  where
    by : (o : Option Link) → link_of_pair plant a b ≡ o → option_or o (link_of_pair plant b a) ≡ Some link → IsPair plant (a ∷ b ∷ []) link
    by (Some found) e is =
        let parts = pair_parts plant a b link (e ∙ is) in
        record {
          outgoing = a;
          incoming = b;
          has_outgoing = (0, refl);
          has_incoming = (1, refl);
          only = two_places (λ e. (e ≡ a) ⊎ (e ≡ b)) a b (inl refl) (inr refl);
          goes = parts.0;
          comes = parts.1;
          outgoing_place = parts.2;
          incoming_place = parts.3;
        }
    by None e is =
        let parts = pair_parts plant b a link is in
        record {
          outgoing = b;
          incoming = a;
          has_outgoing = (1, refl);
          has_incoming = (0, refl);
          only = two_places (λ e. (e ≡ b) ⊎ (e ≡ a)) a b (inr refl) (inl refl);
          goes = parts.0;
          comes = parts.1;
          outgoing_place = parts.2;
          incoming_place = parts.3;
        }

-- ---- The columns of a link

edge_in : (test : Along → Bool) (column : Column) → is_edge test column ≡ true → (along : Along) × (column ≡ Goes along) × (test along ≡ true)
edge_in test (Starts start) is = absurd cc
edge_in test (Moves going) is = absurd cc
edge_in test (Goes along) is = (along, refl, is)
edge_in test (Begins block) is = absurd cc
edge_in test (Stands node) is = absurd cc

-- Of all columns the factor is 1 at the outgoing edge, -1 at the incoming one, and 0 elsewhere.
pub record IsLinkOf (plant : PlantData) (factor : Column → ℤ) (columns : List Column) (link : Link) : Type 0 where
  pub outgoing : Along
  pub outgoing_stands : slice_get columns link.outgoing ≡ Some (Goes outgoing)
  pub outgoing_factor : factor (Goes outgoing) ≡ pos 1
  pub not_back : is_back plant outgoing ≡ false
  pub incoming : Along
  pub incoming_stands : slice_get columns link.incoming ≡ Some (Goes incoming)
  pub incoming_factor : factor (Goes incoming) ≡ negsuc 0
  pub others : (k : ℕ) (column : Column) → slice_get columns k ≡ Some column → k ≢ link.outgoing → k ≢ link.incoming → factor column ≡ pos 0

pub link_is : (plant : PlantData) (factor : Column → ℤ) (columns : List Column) (link : Link)
    → link_of_entries plant (entries_from factor 0 columns) ≡ Some link → IsLinkOf plant factor columns link
link_is plant factor columns link is =
    let pair = pair_of plant (entries_from factor 0 columns) link is in
    let goes = and_parts (int_eq pair.outgoing.factor (pos 1)) (is_edge (λ along. not (is_back plant along)) pair.outgoing.column) pair.goes in
    let comes = and_parts (int_eq pair.incoming.factor (negsuc 0)) (is_edge (λ along. true) pair.incoming.column) pair.comes in
    let out = edge_in (λ along. not (is_back plant along)) pair.outgoing.column goes.1 in
    let into = edge_in (λ along. true) pair.incoming.column comes.1 in
    let of_out = entry_is factor 0 columns pair.has_outgoing.0 pair.outgoing pair.has_outgoing.1 in
    let of_in = entry_is factor 0 columns pair.has_incoming.0 pair.incoming pair.has_incoming.1 in
    let out_place : link.outgoing ≡ of_out.number = (let e = of_out.place_is in let f = pair.outgoing_place in omega arith) in
    let in_place : link.incoming ≡ of_in.number = (let e = of_in.place_is in let f = pair.incoming_place in omega arith) in
    record {
      outgoing = out.0;
      outgoing_stands = ap (slice_get columns) out_place ∙ of_out.stands ∙ ap Some out.1;
      outgoing_factor = sym (ap factor out.1) ∙ sym of_out.factor_is ∙ (Decides-int_eq pair.outgoing.factor (pos 1)).0 goes.0;
      not_back = not-true (is_back plant out.0) out.2;
      incoming = into.0;
      incoming_stands = ap (slice_get columns) in_place ∙ of_in.stands ∙ ap Some into.1;
      incoming_factor = sym (ap factor into.1) ∙ sym of_in.factor_is ∙ (Decides-int_eq pair.incoming.factor (negsuc 0)).0 comes.0;
      others = λ k column at not_out not_in. by pair k column at not_out not_in (is_zero (factor column)) refl;
    }
  where
    by : IsPair plant (entries_from factor 0 columns) link → (k : ℕ) (column : Column) → slice_get columns k ≡ Some column
        → k ≢ link.outgoing → k ≢ link.incoming → (b : Bool) → is_zero (factor column) ≡ b → factor column ≡ pos 0
    by pair k column at not_out not_in true vanishes = zero_from_test (factor column) vanishes
    by pair k column at not_out not_in false not_zero =
        let this : Entry = entry_for factor k column in
        let there = place_of_member (entries_from factor 0 columns) this (has_entry factor 0 columns k k column at not_zero (omega arith)) in
        elim (pair.only there.0 this there.1) [
          | inl same ↦ absurd (not_out (ap (λ (e : Entry). e.place) same ∙ pair.outgoing_place))
          | inr same ↦ absurd (not_in (ap (λ (e : Entry). e.place) same ∙ pair.incoming_place))
        ]
