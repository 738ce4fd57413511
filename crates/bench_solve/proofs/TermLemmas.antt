-- Terms whose columns rise, each of them a term of a row.
use Rattle.std.proofs.Common.{◌≡◌, ℕ, zero, suc, ◌+◌, ◌<◌, true, List, [], ◌∷◌, length, get_or, subst, arith}
use Rattle.std.specs.Prelude.{All, nat_lt}
use Rattle.std.proofs.lemmas.Bool.{ltb-true, and_parts}
use Rattle.whole_rows.specs.Terms.{IsTerm, AreTerms}
use Rattle.whole_rows.specs.declared.Term.{Term}
use Rattle.bench_solve.specs.RowsFile.{columns_rise}

rising : (terms : List Term) → columns_rise terms ≡ true → (k : ℕ) (d : Term) → k + 1 < length terms → (get_or terms k d).column < (get_or terms (k + 1) d).column
rising [] is k d within = absurd (omega arith)
rising (only ∷ []) is k d within = absurd (omega arith)
rising (first ∷ next ∷ terms) is zero d within = ltb-true first.column next.column (and_parts (nat_lt first.column next.column) (columns_rise (next ∷ terms)) is).0
rising (first ∷ next ∷ terms) is (suc k) d within =
    let later = rising (next ∷ terms) (and_parts (nat_lt first.column next.column) (columns_rise (next ∷ terms)) is).1 k d (omega arith) in
    let same : suc (k + 1) ≡ suc k + 1 = omega arith in
    subst (λ (n : ℕ). (get_or (next ∷ terms) k d).column < (get_or (first ∷ next ∷ terms) n d).column) same later

pub rising_terms : (columns : ℕ) (terms : List Term) → All (IsTerm columns) terms → columns_rise terms ≡ true → AreTerms columns terms
rising_terms columns terms each is = record { rising = rising terms is; each = each }
