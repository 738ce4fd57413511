use Rattle.std.proofs.Common.{◌≡◌, ◌∙◌, ℕ, Bool, List, sym, ◌++◌, ap, map, suc, ◌+◌, ◌==◌, arith}
use Rattle.std.specs.Prelude.{filter, flat_map}
use Rattle.std.specs.List.{range_with_len}
use Rattle.std.proofs.lemmas.List.{map-append}
use Rattle.demo_gen.specs.Demo.{state_of, size, sets}
use Rattle.demo_gen.proofs.StateLists.{flat_map-range_more}
use Rattle.demo_gen.proofs.states.states_of.Goals as goal

pub loop-size-preserved : goal.loop-size-preserved
loop-size-preserved c =
    let of : ℕ → List (List Bool) = λ n. filter (λ set. size set == n) (sets c.args.count) in
    let before : List (List Bool) = flat_map of (range_with_len 0 c.loop-size.size) in
    let next : c.loop-size.size + 1 ≡ suc c.loop-size.size = omega arith in
    let more : flat_map of (range_with_len 0 (c.loop-size.size + 1)) ≡ before ++ of c.loop-size.size =
    ap (λ n. flat_map of (range_with_len 0 n)) next ∙ flat_map-range_more of c.loop-size.size in
    rw (c.in_ok-put_states.ensures, c.as_slice.ensures, c.in_ok-sets.ensures, c.loop-size.invariant)
    (sym (ap (map state_of) more ∙ map-append state_of before (of c.loop-size.size)))

pub returns : goal.returns
returns c =
    let all : c.loop-size.size ≡ suc c.args.count = omega (arith, c.loop-size.auto.size-end, c.loop-size-test.false) in
    c.loop-size.invariant ∙ ap (λ n. map state_of (flat_map (λ m. filter (λ set. size set == m) (sets c.args.count)) (range_with_len 0 n))) all
