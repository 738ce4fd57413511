-- What is said of the greatest value of rows.
use Rattle.std.specs.Prelude.{◌≡◌, ℕ, ◌+◌, List, [], ◌∷◌, ◌++◌, ℤ, pos, codes, if◌then◌else◌, refl}
use Rattle.std.specs.Fmt.{decimal, signed_decimal}
use Rattle.whole_rows.specs.Row.{is_zero}
use Rattle.command_steps.specs.declared.status.Reason.TheVariants.{Unbounded, Budget, Wide}
use Rattle.command_steps.specs.declared.halt.Refusal.{Refusal}
use Rattle.command_steps.specs.Refusals.{refusal, newline}

-- `TASK N`, N in cycles
abbrev pub bound_text : List ℕ → ℕ → List ℕ
bound_text task bound = task ++ (codes " " ++ (decimal bound ++ newline))

-- a column with its entry, where that isn't 0
abbrev pub ray_line : ℕ → ℤ → List ℕ
ray_line column entry = if is_zero entry then [] else decimal column ++ (codes " " ++ (signed_decimal entry ++ newline))

-- the lines of the columns from this one on
unfoldable pub ray_lines : ℕ → List ℤ → List ℕ
ray_lines column [] = []
ray_lines column (entry ∷ others) = ray_line column entry ++ ray_lines (column + 1) others

abbrev pub ray_text : List ℤ → List ℕ
ray_text ray = codes "unbounded" ++ newline ++ ray_lines 0 ray

abbrev pub unbounded_refusal : List ℤ → Refusal
unbounded_refusal ray = refusal Unbounded (ray_text ray)

abbrev pub pivots_refusal : ℕ → Refusal
pivots_refusal limit = refusal Budget (codes "budget pivots " ++ (decimal limit ++ newline))

abbrev pub entries_refusal : ℕ → ℕ → Refusal
entries_refusal rows columns = refusal Budget (codes "budget entries " ++ (decimal rows ++ (codes " " ++ (decimal columns ++ newline))))

abbrev pub wide_refusal : ℕ → ℤ → ℤ → Refusal
wide_refusal pivots a b =
    refusal Wide (codes "wide " ++ (decimal pivots ++ (codes " " ++ (signed_decimal a ++ (codes " " ++ (signed_decimal b ++ newline))))))

abbrev pub multiplier_refusal : ℤ → Refusal
multiplier_refusal value = refusal Wide (codes "wide multiplier " ++ (signed_decimal value ++ newline))

-- the lines of the ray 1, 0, 2
ray_case : ray_lines 0 (pos 1 ∷ pos 0 ∷ pos 2 ∷ []) ≡ ray_line 0 (pos 1) ++ (ray_line 2 (pos 2) ++ [])
unfolding ray_lines
ray_case = refl
