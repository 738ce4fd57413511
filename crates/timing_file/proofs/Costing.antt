-- A table of costs, as it is filled in place by place.
use Rattle.std.proofs.Common.{◌≡◌, ◌^◌, ℕ, suc, ◌≤◌, List, [], ◌∷◌, ◌++◌, length, take, drop, Option, Some, None, refl, sym, ap, subst, ◌∙◌, append-nil, Bor}
use Rattle.std.proofs.lemmas.Option.{same_Some}
use Rattle.std.specs.Prelude.{option_map}
use Rattle.std.specs.List.{AllByRecursion}
use Rattle.std.proofs.lemmas.List.{drop_all, take_all}
use Rattle.std.proofs.lemmas.List.Elements.{All-from_recursion}
use Rattle.serde_json.specs.Data.{Data}
use Rattle.serde_json.specs.Find.{get}
use Rattle.listed.specs.Steps.Options.{◌>>=◌}
use Rattle.json_fields.specs.Objects.{texts}
use Rattle.json_fields.proofs.Laws.{whole_in-range, bind_some}
use Rattle.timing_file.specs.Tables.{or_default, cost_or, costs_at}
use Rattle.timing_file.specs.Lawful.{IsCost, AreCosts}

-- ---- in their range

default-cost : (default : ℕ) (found : Option Data) (n : ℕ) → IsCost default → or_default default found ≡ Some n → IsCost n
default-cost default None n fits is = subst IsCost (same_Some default n is) fits
default-cost default (Some d) n fits is = whole_in-range 1 (2 ^ 20) d n is

costs-each : (default : ℕ) (d : Data) (keys : List (List ℕ)) (costs : List ℕ) → IsCost default → costs_at default d keys ≡ Some costs → (length costs ≡ length keys) × AllByRecursion IsCost costs
costs-each default d [] costs fits is = subst (λ cs. (length cs ≡ 0) × AllByRecursion IsCost cs) (same_Some [] costs is) (refl, tt)
costs-each default d (key ∷ keys) costs fits is =
    let first = bind_some (cost_or default d key) (λ cost. costs_at default d keys >>= λ more. Some (cost ∷ more)) costs is in
    let rest = bind_some (costs_at default d keys) (λ more. Some (first.0 ∷ more)) costs first.2 in
    let others = costs-each default d keys rest.0 fits rest.1 in
    subst (λ cs. (length cs ≡ suc (length keys)) × AllByRecursion IsCost cs) (same_Some (first.0 ∷ rest.0) costs rest.2)
    (ap suc others.0, (default-cost default (get key d) first.0 fits first.1, others.1))

pub costs_fit : (default : ℕ) (d : Data) (keys : List (List ℕ)) (costs : List ℕ) → IsCost default → costs_at default d keys ≡ Some costs → AreCosts (length keys) costs
costs_fit default d keys costs fits is =
    let each = costs-each default d keys costs fits is in
    record { count = each.0; each = All-from_recursion IsCost costs each.1 }

-- ---- place by place

-- the costs that were filled in, before those of the rest
abbrev pub before : List ℕ → Option (List ℕ) → Option (List ℕ)
before front rest = option_map (λ more. front ++ more) rest

pub filled : (default : ℕ) (d : Data) (keys : List (Bor (List ℕ))) (costs : List ℕ) (i : ℕ) (whole : Option (List ℕ))
    → length keys ≤ i → length costs ≤ i
    → before (take i costs) (costs_at default d (texts (drop i keys))) ≡ whole
    → whole ≡ Some costs
filled default d keys costs i whole past all so_far =
    let nothing : drop i keys ≡ [] = drop_all i keys past in
    let every : take i costs ≡ costs = take_all i costs all in
    sym so_far ∙ rw (nothing, every) (ap Some (append-nil costs))
