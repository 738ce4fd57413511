-- The lines of a ray, built one after the other.
use Rattle.std.proofs.Common.{◌≡◌, ℕ, ℤ, ◌+◌, ◌≤◌, List, ◌∷◌, ◌++◌, length, drop, Some, sym, ◌∙◌, ap, append_assoc, append-nil}
use Rattle.std.specs.Prelude.{slice_get}
use Rattle.std.proofs.lemmas.List.{drop_more, drop_all}
use Rattle.std.proofs.lemmas.Option.{slice_get_within, get_or_from_slice_get}
use Rattle.reports.specs.Solved.{ray_line, ray_lines}

-- with the lines that are left to add, a text is the whole; it is so with one line more
pub next_line : (whole text next : List ℕ) (ray : List ℤ) (column : ℕ) (entry : ℤ) → text ++ ray_lines column (drop column ray) ≡ whole
    → slice_get ray column ≡ Some entry → next ≡ text ++ ray_line column entry → next ++ ray_lines (column + 1) (drop (column + 1) ray) ≡ whole
unfolding ray_lines
next_line whole text next ray column entry so_far here adds =
    let left : drop column ray ≡ entry ∷ drop (column + 1) ray =
    drop_more ray column entry (slice_get_within ray column entry here) ∙ ap (λ (x : ℤ). x ∷ drop (column + 1) ray)
    (get_or_from_slice_get ray column entry entry here) in
    rw (adds, append_assoc) (ap (λ (r : List ℤ). text ++ ray_lines column r) (sym left) ∙ so_far)

-- and in the end nothing is left
pub last_line : (whole text : List ℕ) (ray : List ℤ) (column : ℕ) → length ray ≤ column → text ++ ray_lines column (drop column ray) ≡ whole
    → text ≡ whole
unfolding ray_lines
last_line whole text ray column past is = sym (append-nil text) ∙ ap (λ (r : List ℤ). text ++ ray_lines column r)
    (sym (drop_all column ray past)) ∙ is
