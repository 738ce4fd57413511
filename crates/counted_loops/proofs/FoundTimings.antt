-- Timings with found bounds.
use Rattle.std.proofs.Common.{◌≡◌, ℕ, zero, suc, ◌+◌, ◌^◌, ◌<◌, ◌≤◌, Bool, true, false, List, [], ◌∷◌, ◌++◌, length, map, take, get_or, All, Option, Some, None, refl, sym, ◌∙◌, ap, subst, arith}
use Rattle.std.specs.Prelude.{IfSome, not, ◌&&◌, ◌==◌, nat_le, slice_index_or}
use Rattle.std.specs.List.{AllByRecursion, list_any}
use Rattle.std.proofs.lemmas.List.Elements.{All-from_recursion, recursion_from_All}
use Rattle.std.proofs.lemmas.List.{take_more, length-take-le}
use Rattle.listed.specs.Lists.{differ}
use Rattle.timing_file.specs.declared.timing.Loop.{Loop}
use Rattle.timing_file.specs.declared.timing.Timing.{Timing}
use Rattle.timing_file.specs.Lawful.{IsLawful, IsLoop, AreLoops}
use Rattle.timing_file.specs.Timing.{same_span, loop_span}
use Rattle.counted_loops.specs.Found.{with_bound, with_bounds, found_timing, AreBounds}
use Rattle.counted_loops.specs.Laws.{StayLawful}

span_kept : (l : Loop) (bound : Option ℕ) → loop_span (with_bound l bound) ≡ loop_span l
span_kept l None = refl
span_kept l (Some bound) = refl

spans_kept : (loops : List Loop) (found : List (Option ℕ)) → length found ≡ length loops → map loop_span (with_bounds loops found) ≡ map loop_span loops
spans_kept [] [] same = refl
spans_kept [] (bound ∷ found) same = absurd (omega (arith, same))
spans_kept (l ∷ loops) [] same = absurd (omega (arith, same))
spans_kept (l ∷ loops) (bound ∷ found) same =
    ap (λ s. s ∷ map loop_span (with_bounds loops found)) (span_kept l bound)
    ∙ ap (λ ss. loop_span l ∷ ss) (spans_kept loops found (omega (arith, same)))

count_kept : (loops : List Loop) (found : List (Option ℕ)) → length found ≡ length loops → length (with_bounds loops found) ≡ length loops
count_kept [] [] same = refl
count_kept [] (bound ∷ found) same = refl
count_kept (l ∷ loops) [] same = absurd (omega (arith, same))
count_kept (l ∷ loops) (bound ∷ found) same = ap suc (count_kept loops found (omega (arith, same)))

loop_kept : (l : Loop) (bound : Option ℕ) → IsLoop l → IfSome bound (λ n. n ≤ 2 ^ 20) → IsLoop (with_bound l bound)
loop_kept l None is most = is
loop_kept l (Some bound) is most = (is.0, most)

loops_kept : (loops : List Loop) (found : List (Option ℕ)) → AllByRecursion IsLoop loops → AllByRecursion (λ bound. IfSome bound (λ n. n ≤ 2 ^ 20)) found
    → AllByRecursion IsLoop (with_bounds loops found)
loops_kept [] found are most = tt
loops_kept (l ∷ loops) [] are most = tt
loops_kept (l ∷ loops) (bound ∷ found) are most = (loop_kept l bound are.0 most.0, loops_kept loops found are.1 most.1)

-- one more loop
with_more : (loops : List Loop) (found : List (Option ℕ)) (l : Loop) (bound : Option ℕ) → length found ≡ length loops
    → with_bounds (loops ++ l ∷ []) (found ++ bound ∷ []) ≡ with_bounds loops found ++ with_bound l bound ∷ []
with_more [] [] l bound same = refl
with_more [] (b ∷ found) l bound same = absurd (omega (arith, same))
with_more (k ∷ loops) [] l bound same = absurd (omega (arith, same))
with_more (k ∷ loops) (b ∷ found) l bound same = ap (λ ls. with_bound k b ∷ ls) (with_more loops found l bound (omega (arith, same)))

with_next : (loops : List Loop) (found : List (Option ℕ)) (i : ℕ) (d : Loop) (e : Option ℕ) → length found ≡ length loops → i < length loops
    → with_bounds (take (i + 1) loops) (take (i + 1) found) ≡ with_bounds (take i loops) (take i found) ++ with_bound (get_or loops i d) (get_or found i e) ∷ []
with_next loops found i d e same within =
    let within' : i < length found = omega arith in
    let a : length (take i loops) ≡ i = length-take-le i loops (omega arith) in
    let b : length (take i found) ≡ i = length-take-le i found (omega arith) in
    ap (λ ls. with_bounds ls (take (i + 1) found)) (take_more loops i d within)
    ∙ (ap (with_bounds (take i loops ++ get_or loops i d ∷ [])) (take_more found i e within')
    ∙ with_more (take i loops) (take i found) (get_or loops i d) (get_or found i e) (omega arith))

pub with_push : (loops : List Loop) (found : List (Option ℕ)) (i : ℕ) (d l : Loop) (e : Option ℕ) (made after : List Loop) → length found ≡ length loops
    → i < length loops → made ≡ with_bounds (take i loops) (take i found) → l ≡ with_bound (get_or loops i d) (get_or found i e) → after ≡ made ++ l ∷ []
    → after ≡ with_bounds (take (i + 1) loops) (take (i + 1) found)
with_push loops found i d l e made after same within so_far one pushed =
    pushed ∙ (ap (λ ls. ls ++ l ∷ []) so_far ∙ (ap (λ k. with_bounds (take i loops) (take i found) ++ k ∷ []) one ∙ sym (with_next loops found i d e same within)))

pub stay_lawful : StayLawful
stay_lawful timing found lawful same most = record {
  classes = lawful.classes;
  services = lawful.services;
  alarm = lawful.alarm;
  interrupt = lawful.interrupt;
  taken = lawful.taken;
  ticks = lawful.ticks;
  distances = lawful.distances;
  loops = record {
    few = let count = count_kept timing.loops found same in let few = lawful.loops.few in omega arith;
    each = All-from_recursion IsLoop (with_bounds timing.loops found)
        (loops_kept timing.loops found (recursion_from_All IsLoop timing.loops lawful.loops.each) (recursion_from_All _ found most));
    once = ap (differ same_span) (spans_kept timing.loops found same) ∙ lawful.loops.once;
  };
  extra = lawful.extra;
}
