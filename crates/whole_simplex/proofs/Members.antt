-- The lines of a table, one by one.
use Rattle.std.proofs.Common.{◌≡◌, ◌≢◌, ℕ, ◌⊎◌, inl, inr, List, [], ◌∷◌, map, refl, sym, ap, ◌∙◌}
use Rattle.whole_simplex.specs.declared.line.Line.{Line}
use Rattle.whole_simplex.specs.Tables.{IsFree, AreDistinct}

abbrev pub In : Line → List Line → Type 0
In line [] = ⊥
In line (other ∷ lines) = (line ≡ other) ⊎ In line lines

pub In-map : (f : Line → Line) (new : Line) (lines : List Line) → In new (map f lines) → (line : Line) × In line lines × (new ≡ f line)
In-map f new [] h = absurd h
In-map f new (other ∷ lines) h = elim h [
  | inl e ↦ (other, inl refl, e)
  | inr m ↦ (let found = In-map f new lines m in (found.0, inr found.1, found.2))
]

pub free_member : (basic : ℕ) (lines : List Line) (line : Line) → IsFree basic lines → In line lines → line.basic ≢ basic
free_member basic [] line free h = absurd h
free_member basic (other ∷ lines) line free h = elim h [
  | inl e ↦ (λ same. free.0 (ap (λ l. l.basic) (sym e) ∙ same))
  | inr m ↦ free_member basic lines line free.1 m
]

-- lines with one basic column are one line
pub distinct_same : (lines : List Line) (line other : Line) → AreDistinct lines → In line lines → In other lines → line.basic ≡ other.basic → line ≡ other
distinct_same [] line other d h k same = absurd h
distinct_same (first ∷ lines) line other d h k same = elim h [
  | inl e ↦ (elim k [
    | inl f ↦ e ∙ sym f
    | inr m ↦ absurd (free_member first.basic lines other d.0 m (sym same ∙ ap (λ l. l.basic) e))
  ])
  | inr n ↦ (elim k [
    | inl f ↦ absurd (free_member first.basic lines line d.0 n (same ∙ ap (λ l. l.basic) f))
    | inr m ↦ distinct_same lines line other d.1 n m same
  ])
]

-- basic columns under a change of each line
free_from_map : (f : Line → Line) (basic : ℕ) (lines : List Line) → ((line : Line) → In line lines → (f line).basic ≢ basic) → IsFree basic (map f lines)
free_from_map f basic [] h = tt
free_from_map f basic (line ∷ lines) h = (h line (inl refl), free_from_map f basic lines (λ other m. h other (inr m)))

pub distinct_map : (f : Line → Line) (lines : List Line) → ((line other : Line) → In line lines → In other lines → line.basic ≢ other.basic → (f line).basic ≢ (f other).basic) → AreDistinct lines → AreDistinct (map f lines)
distinct_map f [] h d = tt
distinct_map f (line ∷ lines) h d = (
  free_from_map f (f line).basic lines (λ other m. h other line (inr m) (inl refl) (free_member line.basic lines other d.0 m)),
  distinct_map f lines (λ first second m n. h first second (inr m) (inr n)) d.1,
)
