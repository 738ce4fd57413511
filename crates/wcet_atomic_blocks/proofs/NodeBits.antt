-- A set of nodes after a node was put into it.
use Rattle.std.proofs.Common.{◌≡◌, ◌≢◌, ℕ, ◌*◌, ◌^◌, ◌<◌, ◌/◌, ◌%◌, inl, inr, true, List, length, get_or, set, arith, ap, ◌∙◌, subst, sym, refl, w64}
use Rattle.std.specs.Prelude.{◌==◌, bit_or}
use Rattle.std.specs.Int.{bit_at}
use Rattle.std.proofs.lemmas.List.{get_or-set_same, get_or-set_other}
use Rattle.std.proofs.lemmas.Bool.{cases_eq, eq-eqb}
use Rattle.std.proofs.lemmas.Nat.Bits.{bit_at_set_same, bit_at_set_other}
use Rattle.wcet_atomic_blocks.specs.NodeSets.{holds}

-- the word with the bit set
abbrev with_bit : ℕ → ℕ → ℕ
with_bit word k = bit_or word (1 * 2 ^ k % 18446744073709551616)

pub there : (words : List ℕ) (node word : ℕ) → node / 64 < length words
    → holds (set words (node / 64) (with_bit word (node % 64))) node ≡ true
there words node word inside =
    eq-eqb (bit_at (get_or (set words (node / 64) (with_bit word (node % 64))) (node / 64) 0) (node % 64)) 1
    (ap (λ w. bit_at w (node % 64)) (get_or-set_same words (node / 64) (with_bit word (node % 64)) 0 inside)
    ∙ bit_at_set_same w64 word (node % 64) (omega arith))

-- the bit of another node in the word at i
other_bit : (words : List ℕ) (node word other i : ℕ) → node / 64 < length words → get_or words (node / 64) 0 ≡ word → other ≢ node → other / 64 ≡ i
    → bit_at (get_or (set words (node / 64) (with_bit word (node % 64))) i 0) (other % 64) ≡ bit_at (get_or words i 0) (other % 64)
other_bit words node word other i inside is differ at =
    elim (cases_eq i (node / 64)) [
      | inl same ↦
          let differs : other % 64 ≢ node % 64 = λ e. differ (omega (arith, e, same, at)) in
          subst (λ (j : ℕ). bit_at (get_or (set words (node / 64) (with_bit word (node % 64))) j 0) (other % 64) ≡ bit_at (get_or words j 0) (other % 64))
          (sym same)
          (ap (λ w. bit_at w (other % 64)) (get_or-set_same words (node / 64) (with_bit word (node % 64)) 0 inside)
          ∙ bit_at_set_other w64 word (node % 64) (omega arith) (other % 64) differs ∙ ap (λ w. bit_at w (other % 64)) (sym is))
      | inr apart ↦ ap (λ w. bit_at w (other % 64)) (get_or-set_other words (node / 64) i (with_bit word (node % 64)) 0 apart)
    ]

pub others : (words : List ℕ) (node word : ℕ) → node / 64 < length words → get_or words (node / 64) 0 ≡ word → (other : ℕ) → other ≢ node
    → holds (set words (node / 64) (with_bit word (node % 64))) other ≡ holds words other
others words node word inside is other differ = ap (λ b. b == 1) (other_bit words node word other (other / 64) inside is differ refl)
