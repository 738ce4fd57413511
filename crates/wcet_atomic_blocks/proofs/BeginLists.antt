-- Beginnings, one after another, and which of them there are.
use Rattle.std.proofs.Common.{◌≡◌, ℕ, suc, zero, ◌+◌, ◌<◌, Bool, cond, List, [], ◌∷◌, ◌++◌, length, get_or, take, arith, ap, ◌∙◌, sym, refl, Option, Some, None, append_assoc, append-nil}
use Rattle.std.specs.Prelude.{filter, filter_map}
use Rattle.std.specs.List.{range_with_len}
use Rattle.std.specs.Option.{option_to_list}
use Rattle.std.proofs.lemmas.List.{take_more, length-take-le}
use Rattle.std.proofs.lemmas.List.Elements.{filter_map-append, filter-append}
use Rattle.flow_graph.specs.declared.flow.Flow.{Flow}
use Rattle.wcet_atomic_blocks.specs.Blocks.{beginnings_of, beginnings_from, beginnings}

-- ---- Lists that grow

counting : (a n j : ℕ) → a + n ≡ j → range_with_len a (suc n) ≡ range_with_len a n ++ j ∷ []
counting a zero j e = ap (λ x. x ∷ []) (omega (arith, e))
counting a (suc n) j e = ap (λ xs. a ∷ xs) (counting (a + 1) n j (omega (arith, e)))

pub counting_more : (n : ℕ) → range_with_len 0 (n + 1) ≡ range_with_len 0 n ++ n ∷ []
counting_more n = let on : n + 1 ≡ suc n = omega arith in ap (range_with_len 0) on ∙ counting 0 n n (omega arith)

filter_map_one : {Y : Type 0} (f : ℕ → Option Y) (n : ℕ) (o : Option Y) → f n ≡ o → filter_map f (n ∷ []) ≡ option_to_list (f n)
filter_map_one f n None e = rw e
filter_map_one f n (Some y) e = rw e

pub filter_map_counts : {Y : Type 0} (f : ℕ → Option Y) (n : ℕ)
    → filter_map f (range_with_len 0 (n + 1)) ≡ filter_map f (range_with_len 0 n) ++ option_to_list (f n)
filter_map_counts f n =
    ap (filter_map f) (counting_more n) ∙ filter_map-append f (range_with_len 0 n) (n ∷ [])
    ∙ ap (λ ys. filter_map f (range_with_len 0 n) ++ ys) (filter_map_one f n (f n) refl)

pub filter_counts : (p : ℕ → Bool) (n : ℕ) → filter p (range_with_len 0 (n + 1)) ≡ filter p (range_with_len 0 n) ++ cond (p n) (n ∷ []) []
filter_counts p n = ap (filter p) (counting_more n) ∙ filter-append p (range_with_len 0 n) (n ∷ [])

from_more : (flow : Flow) (context place entry : ℕ) (entries : List ℕ) → context + length entries ≡ place
    → beginnings_from flow context (entries ++ entry ∷ []) ≡ beginnings_from flow context entries ++ beginnings_of flow place entry
from_more flow context place entry [] at =
    append-nil (beginnings_of flow context entry) ∙ ap (λ c. beginnings_of flow c entry) (omega (arith, at))
from_more flow context place entry (first ∷ entries) at =
    ap (λ bs. beginnings_of flow context first ++ bs) (from_more flow (suc context) place entry entries (omega (arith, at)))
    ∙ sym (append_assoc (beginnings_of flow context first) (beginnings_from flow (suc context) entries) (beginnings_of flow place entry))

pub beginnings_more : (flow : Flow) (entries : List ℕ) (context d : ℕ) → context < length entries
    → beginnings flow (take (context + 1) entries) ≡ beginnings flow (take context entries) ++ beginnings_of flow context (get_or entries context d)
beginnings_more flow entries context d inside =
    ap (beginnings flow) (take_more entries context d inside)
    ∙ from_more flow 0 context (get_or entries context d) (take context entries) (let e = length-take-le context entries (omega arith) in omega (arith, e))

-- what the next number gives is pushed
pub push_more : {Y : Type 0} (f : ℕ → Option Y) (n : ℕ) (old : List Y) (first : Y) (now now' : List Y) (o : Option Y) → f n ≡ o
    → now ≡ old ++ first ∷ filter_map f (range_with_len 0 n) → now' ≡ now ++ option_to_list o → now' ≡ old ++ first ∷ filter_map f (range_with_len 0 (n + 1))
push_more f n old first now now' o gives was pushed =
    pushed ∙ ap (λ ys. ys ++ option_to_list o) was ∙ append_assoc old (first ∷ filter_map f (range_with_len 0 n)) (option_to_list o)
    ∙ ap (λ ys. old ++ first ∷ ys) (ap (λ p. filter_map f (range_with_len 0 n) ++ option_to_list p) (sym gives) ∙ sym (filter_map_counts f n))
