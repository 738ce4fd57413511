-- The greatest response seen so far.
use Rattle.std.proofs.Common.{◌≡◌, ℕ, ◌+◌, Bool, true, false, cond, List, [], ◌∷◌, ◌++◌, map, take, get_or, length, ◌<◌, ap, ◌∙◌, arith}
use Rattle.std.specs.Prelude.{max, filter}
use Rattle.std.proofs.lemmas.List.{take_more, map-append}
use Rattle.std.proofs.lemmas.List.Elements.{filter-append}
use Rattle.replay.specs.declared.response.Response.{Response}
use Rattle.demo_command.specs.Seen.{is_ended_of, greatest, seen_of}
use Rattle.demo_command.specs.Working.Seeing.{seen_with}

greatest-append : (xs ys : List ℕ) → greatest (xs ++ ys) ≡ max (greatest xs) (greatest ys)
greatest-append [] ys = omega arith
greatest-append (x ∷ xs) ys = let rest = greatest-append xs ys in omega (arith, rest)

one_seen : (counts : Bool) (seen : ℕ) (r : Response)
    → max seen (greatest (map (λ (x : Response). x.cycles) (cond counts (r ∷ []) []))) ≡ seen_with counts seen r.cycles
one_seen true seen r = omega arith
one_seen false seen r = omega arith

pub seen_more : (task : ℕ) (responses : List Response) (i : ℕ) (d : Response) → i < length responses
    → seen_of task (take (i + 1) responses)
    ≡ seen_with (is_ended_of task (get_or responses i d)) (seen_of task (take i responses)) (get_or responses i d).cycles
seen_more task responses i d within =
    let so_far : List Response = take i responses in
    let r : Response = get_or responses i d in
    let cycles : Response → ℕ = λ (x : Response). x.cycles in
    ap (seen_of task) (take_more responses i d within)
    ∙ ap (λ (rs : List Response). greatest (map cycles rs)) (filter-append (is_ended_of task) so_far (r ∷ []))
    ∙ ap greatest (map-append cycles (filter (is_ended_of task) so_far) (filter (is_ended_of task) (r ∷ [])))
    ∙ greatest-append (map cycles (filter (is_ended_of task) so_far)) (map cycles (filter (is_ended_of task) (r ∷ [])))
    ∙ one_seen (is_ended_of task r) (seen_of task so_far) r
