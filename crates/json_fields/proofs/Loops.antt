-- The loop that reads the members of a list one after another.
use Rattle.std.proofs.Common.{◌≡◌, ℕ, suc, ◌+◌, ◌<◌, ◌≤◌, List, [], ◌∷◌, ◌++◌, length, map, drop, get_or, Result, Ok, Err, refl, sym, ap, ◌∙◌, append_assoc, append-nil, add-one}
use Rattle.std.proofs.Math.Seq.{drop-cons}
use Rattle.std.proofs.lemmas.List.{drop_all}
use Rattle.serde_json.specs.Data.{Data}
use Rattle.serde_json.specs.View.{view}
use Rattle.serde_json.specs.declared.value.Value.{Value}
use Rattle.listed.specs.Faults.{Gives}
use Rattle.listed.specs.Lists.{each_from}
use Rattle.listed.specs.Steps.{◌>>=◌}
use Rattle.listed.specs.declared.fault.Fault.{Fault}
use Rattle.listed.proofs.Answered.{Gives-err_whole}

-- what was read so far, before what is read of the rest
abbrev pub with_front : {B K : Type 0} → List B → Result (List B) K → Result (List B) K
with_front front rest = rest >>= λ more. Ok (front ++ more)

one_more : {B K : Type 0} (front : List B) (y : B) (rest : Result (List B) K) → with_front front (rest >>= λ ys. Ok (y ∷ ys)) ≡ with_front (front ++ y ∷ []) rest
one_more front y (Err kind) = refl
one_more front y (Ok ys) = ap Ok (sym (append_assoc front (y ∷ []) ys))

split_at : (vs : List Value) (i : ℕ) (v : Value) → i < length vs → v ≡ get_or vs i v → drop i vs ≡ v ∷ drop (suc i) vs
split_at vs i v lt at = drop-cons vs i v lt ∙ ap (λ w. w ∷ drop (suc i) vs) (sym at)

pub goes_on : {B K : Type 0} (gives : ℕ → Data → Result B K) (front : List B) (vs : List Value) (i : ℕ) (v : Value) (y : B) (whole : Result (List B) K)
    → i < length vs → v ≡ get_or vs i v → gives i (view v) ≡ Ok y
    → with_front front (each_from gives i (map view (drop i vs))) ≡ whole
    → with_front (front ++ y ∷ []) (each_from gives (i + 1) (map view (drop (i + 1) vs))) ≡ whole
goes_on gives front vs i v y whole lt at is before =
    let step : with_front front (each_from gives i (map view (drop i vs))) ≡ with_front (front ++ y ∷ []) (each_from gives (suc i) (map view (drop (suc i) vs))) =
    rw (split_at vs i v lt at, is) (one_more front y (each_from gives (suc i) (map view (drop (suc i) vs)))) in
    rw add-one (sym step ∙ before)

-- a fault of a member is that of the whole
pub stops_at : {B K : Type 0} (gives : ℕ → Data → Result B K) (front : List B) (vs : List Value) (i : ℕ) (v : Value) (whole : Result (List B) K) (e : Fault K)
    → i < length vs → v ≡ get_or vs i v → Gives {X = B} (Err e) (gives i (view v))
    → with_front front (each_from gives i (map view (drop i vs))) ≡ whole
    → Gives {X = List B} (Err e) whole
stops_at gives front vs i v whole e lt at is before =
    Gives-err_whole (gives i (view v)) whole e (λ kind none. sym before ∙ rw (split_at vs i v lt at, none) refl) is

pub ends : {B K : Type 0} (gives : ℕ → Data → Result B K) (front : List B) (vs : List Value) (i : ℕ) (whole : Result (List B) K)
    → length vs ≤ i
    → with_front front (each_from gives i (map view (drop i vs))) ≡ whole
    → whole ≡ Ok front
ends gives front vs i whole past before =
    let nothing : drop i vs ≡ [] = drop_all i vs past in
    sym before ∙ rw nothing (ap Ok (append-nil front))
