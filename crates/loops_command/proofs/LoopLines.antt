-- The lines of loops, one after the other.
use Rattle.std.proofs.Common.{◌≡◌, ℕ, zero, suc, ◌+◌, ◌<◌, List, [], ◌∷◌, ◌++◌, length, take, get_or, Option, refl, sym, ◌∙◌, ap, append_assoc, arith}
use Rattle.std.proofs.lemmas.List.{append-nil, take_more, length-take-le}
use Rattle.timing_file.specs.declared.timing.Loop.{Loop}
use Rattle.loops_command.specs.Loops.{loop_line, loop_lines}

lines_more : (loops : List Loop) (found : List (Option ℕ)) (l : Loop) (bound : Option ℕ) → length found ≡ length loops
    → loop_lines (loops ++ l ∷ []) (found ++ bound ∷ []) ≡ loop_lines loops found ++ loop_line l bound
lines_more [] [] l bound same = append-nil (loop_line l bound)
lines_more [] (b ∷ found) l bound same = absurd (omega (arith, same))
lines_more (k ∷ loops) [] l bound same = absurd (omega (arith, same))
lines_more (k ∷ loops) (b ∷ found) l bound same =
    ap (λ ls. loop_line k b ++ ls) (lines_more loops found l bound (omega (arith, same)))
    ∙ sym (append_assoc (loop_line k b) (loop_lines loops found) (loop_line l bound))

lines_next : (loops : List Loop) (found : List (Option ℕ)) (i : ℕ) (d : Loop) (e : Option ℕ) → length found ≡ length loops → i < length loops
    → loop_lines (take (i + 1) loops) (take (i + 1) found) ≡ loop_lines (take i loops) (take i found) ++ loop_line (get_or loops i d) (get_or found i e)
lines_next loops found i d e same within =
    let within' : i < length found = omega arith in
    let a : length (take i loops) ≡ i = length-take-le i loops (omega arith) in
    let b : length (take i found) ≡ i = length-take-le i found (omega arith) in
    ap (λ ls. loop_lines ls (take (i + 1) found)) (take_more loops i d within)
    ∙ (ap (loop_lines (take i loops ++ get_or loops i d ∷ [])) (take_more found i e within')
    ∙ lines_more (take i loops) (take i found) (get_or loops i d) (get_or found i e) (omega arith))

pub lines_push : (loops : List Loop) (found : List (Option ℕ)) (i : ℕ) (d : Loop) (e : Option ℕ) (text after : List ℕ) → length found ≡ length loops
    → i < length loops → text ≡ loop_lines (take i loops) (take i found) → after ≡ text ++ loop_line (get_or loops i d) (get_or found i e)
    → after ≡ loop_lines (take (i + 1) loops) (take (i + 1) found)
lines_push loops found i d e text after same within so_far pushed =
    pushed ∙ (ap (λ t. t ++ loop_line (get_or loops i d) (get_or found i e)) so_far ∙ sym (lines_next loops found i d e same within))
