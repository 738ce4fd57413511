-- Chains that were found fit their rows, and what is built from them are the squeezed rows.
use Rattle.std.proofs.Common.{◌≡◌, ℕ, ◌<◌, List, map, length, get_or, ℤ, Option, None, refl, sym, ap, ◌∙◌, arith}
use Rattle.std.proofs.lemmas.List.Elements.{All-from_get_or}
use Rattle.whole_rows.specs.Rows.{RowsData}
use Rattle.row_squeeze.specs.declared.Link.{Link}
use Rattle.row_squeeze.specs.declared.Squeezed.{Squeezed}
use Rattle.row_squeeze.specs.declared.chains.Chains.{Chains}
use Rattle.row_squeeze.specs.Links.{AreLinks}
use Rattle.row_squeeze.specs.Chains.{chain_count, chain_places}
use Rattle.row_squeeze.specs.Squeezed.{kept, merged, kept_rows_of, IsSqueezed}
use Rattle.row_squeeze.specs.Working.Parts.{LieWithin, FitChains}
use Rattle.row_squeeze.proofs.Heads.{places-length, place-within}

pub links_lie : (d : RowsData) (links given : List (Option Link)) (columns : ℕ) → AreLinks d links → given ≡ links → columns ≡ length d.costs → LieWithin columns given
links_lie d links given columns are same e row link has =
    let is = are.each row link (ap (λ (ls : List (Option Link)). get_or ls row None) (sym same) ∙ has) in
    let outgoing = is.outgoing_exists in
    let incoming = is.incoming_exists in
    (omega arith, omega arith)

-- the chains are those of the links
pub record AreChainsOf (d : RowsData) (links : List (Option Link)) (chains : Chains) : Type 0 where
  pub count : chains.count ≡ chain_count (length d.costs) links
  pub places : chains.places.items ≡ chain_places (length d.costs) links

pub chains_are : (d : RowsData) (links given : List (Option Link)) (columns : ℕ) (chains : Chains) → given ≡ links → columns ≡ length d.costs → chains.count ≡ chain_count columns given → chains.places.items ≡ chain_places columns given → AreChainsOf d links chains
chains_are d links given columns chains same e count places = record {
  count = count ∙ ap (λ (n : ℕ). chain_count n given) e ∙ ap (chain_count (length d.costs)) same;
  places = places ∙ ap (λ (n : ℕ). chain_places n given) e ∙ ap (chain_places (length d.costs)) same;
}

pub chains_fit : (d : RowsData) (links : List (Option Link)) (chains : Chains) → AreChainsOf d links chains → FitChains d chains
chains_fit d links chains are = record {
  counted = ap length are.places ∙ places-length (length d.costs) links;
  within = rw (are.places, are.count) (All-from_get_or (λ place. place < chain_count (length d.costs) links) (chain_places (length d.costs) links) 0 (λ column h. place-within (length d.costs) links column (let long = places-length (length d.costs) links in omega arith)));
}

pub is_squeezed : (d : RowsData) (links given : List (Option Link)) (chains : Chains) (squeezed : Squeezed) (costs : List ℤ) → AreChainsOf d links chains → given ≡ links → costs ≡ merged chains.count chains.places.items d.costs → squeezed.rows ≡ record { costs = costs; rows = map (merged chains.count chains.places.items) (kept given d.rows); rights = kept given d.rights } → squeezed.column_of ≡ chains.places.items → squeezed.kept_rows ≡ kept_rows_of given → IsSqueezed d links squeezed
is_squeezed d links given chains squeezed costs are same cost rows column_of kept_rows = record {
  rows = rows ∙ rw (cost, same, are.count, are.places) refl;
  column_of = column_of ∙ are.places;
  kept_rows = kept_rows ∙ ap kept_rows_of same;
}
