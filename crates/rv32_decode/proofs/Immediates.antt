-- Immediates and their bits: each format gives its immediate back, and each word's immediate has the
-- word's bits.
use Rattle.std.proofs.Common.{◌≡◌, ℕ, ◌+◌, ◌*◌, ◌%◌, ◌^◌, ◌<◌, arith, ℤ, pos, negsuc, ap, ◌∙◌}
use Rattle.std.proofs.lemmas.Int.{ints}
use Rattle.std.specs.Int.{w32, cast_unsigned}
use Rattle.rv32_decode.specs.Formats.{bits_of, imm_bits, signed, IsSigned, i_type, s_type, b_type, u_type, j_type}
use Rattle.rv32_decode.specs.Instructions.{i_imm, s_imm, b_imm, u_imm, j_imm}

-- ---- From an immediate to its bits and back

i_back : (z : ℤ) → IsSigned 12 z → signed 12 (imm_bits 11 0 z) ≡ z
i_back (pos n) h = grind (arith, ints)
i_back (negsuc n) h = grind (arith, ints)

s_back : (z : ℤ) → IsSigned 12 z → signed 12 (imm_bits 11 5 z * 2 ^ 5 + imm_bits 4 0 z) ≡ z
s_back (pos n) h = grind (arith, ints)
s_back (negsuc n) h = grind (arith, ints)

b_back : (z : ℤ) → IsSigned 13 z → imm_bits 0 0 z ≡ 0
    → signed 13 (imm_bits 12 12 z * 2 ^ 12 + imm_bits 11 11 z * 2 ^ 11 + imm_bits 10 5 z * 2 ^ 5 + imm_bits 4 1 z * 2) ≡ z
b_back (pos n) h e = grind (arith, ints)
b_back (negsuc n) h e = grind (arith, ints)

u_back : (z : ℤ) → IsSigned 32 z → imm_bits 11 0 z ≡ 0 → signed 32 (imm_bits 31 12 z * 2 ^ 12) ≡ z
u_back (pos n) h e = grind (arith, ints)
u_back (negsuc n) h e = grind (arith, ints)

j_back : (z : ℤ) → IsSigned 21 z → imm_bits 0 0 z ≡ 0
    → signed 21 (imm_bits 20 20 z * 2 ^ 20 + imm_bits 19 12 z * 2 ^ 12 + imm_bits 11 11 z * 2 ^ 11 + imm_bits 10 1 z * 2) ≡ z
j_back (pos n) h e = grind (arith, ints)
j_back (negsuc n) h e = grind (arith, ints)

-- ---- From the bits of a word to its immediate and back

pub signed_fits_12 : (k : ℕ) → k < 2 ^ 12 → IsSigned 12 (signed 12 k)
signed_fits_12 k h = (grind (arith, ints), grind (arith, ints))

pub signed_fits_13 : (k : ℕ) → k < 2 ^ 13 → IsSigned 13 (signed 13 k)
signed_fits_13 k h = (grind (arith, ints), grind (arith, ints))

pub signed_fits_21 : (k : ℕ) → k < 2 ^ 21 → IsSigned 21 (signed 21 k)
signed_fits_21 k h = (grind (arith, ints), grind (arith, ints))

pub signed_fits_32 : (k : ℕ) → k < 2 ^ 32 → IsSigned 32 (signed 32 k)
signed_fits_32 k h = (grind (arith, ints), grind (arith, ints))

-- the two's complement in 32 bits of a number of n bits ends with these bits
pub low_12 : (k : ℕ) → k < 2 ^ 12 → cast_unsigned w32 (signed 12 k) % 2 ^ 12 ≡ k
low_12 k h = grind (arith, ints)

pub low_13 : (k : ℕ) → k < 2 ^ 13 → cast_unsigned w32 (signed 13 k) % 2 ^ 13 ≡ k
low_13 k h = grind (arith, ints)

pub low_21 : (k : ℕ) → k < 2 ^ 21 → cast_unsigned w32 (signed 21 k) % 2 ^ 21 ≡ k
low_21 k h = grind (arith, ints)

pub low_32 : (k : ℕ) → k < 2 ^ 32 → cast_unsigned w32 (signed 32 k) ≡ k
low_32 k h = grind (arith, ints)

-- ---- Words

pub i_spelled : (w : ℕ) → w < 2 ^ 32 → w ≡ i_type (i_imm w) (bits_of 19 15 w) (bits_of 14 12 w) (bits_of 11 7 w) (bits_of 6 0 w)
i_spelled w h = omega (arith, low_12 (bits_of 31 20 w) (omega arith))

pub s_spelled : (w : ℕ) → w < 2 ^ 32 → w ≡ s_type (s_imm w) (bits_of 24 20 w) (bits_of 19 15 w) (bits_of 14 12 w) (bits_of 6 0 w)
s_spelled w h = omega (arith, low_12 (bits_of 31 25 w * 2 ^ 5 + bits_of 11 7 w) (omega arith))

pub b_spelled : (w : ℕ) → w < 2 ^ 32 → w ≡ b_type (b_imm w) (bits_of 24 20 w) (bits_of 19 15 w) (bits_of 14 12 w) (bits_of 6 0 w)
b_spelled w h = omega (arith, low_13 (bits_of 31 31 w * 2 ^ 12 + bits_of 7 7 w * 2 ^ 11 + bits_of 30 25 w * 2 ^ 5 + bits_of 11 8 w * 2) (omega arith))

pub u_spelled : (w : ℕ) → w < 2 ^ 32 → w ≡ u_type (u_imm w) (bits_of 11 7 w) (bits_of 6 0 w)
u_spelled w h = omega (arith, low_32 (bits_of 31 12 w * 2 ^ 12) (omega arith))

pub j_spelled : (w : ℕ) → w < 2 ^ 32 → w ≡ j_type (j_imm w) (bits_of 11 7 w) (bits_of 6 0 w)
j_spelled w h = omega (arith, low_21 (bits_of 31 31 w * 2 ^ 20 + bits_of 19 12 w * 2 ^ 12 + bits_of 20 20 w * 2 ^ 11 + bits_of 30 21 w * 2) (omega arith))

-- ---- Formats give their immediates back

pub i_read : (z : ℤ) (rs1 f3 rd op : ℕ) → IsSigned 12 z → rs1 < 32 → f3 < 8 → rd < 32 → op < 128 → i_imm (i_type z rs1 f3 rd op) ≡ z
i_read z rs1 f3 rd op h a b c d =
    let same : bits_of 31 20 (i_type z rs1 f3 rd op) ≡ imm_bits 11 0 z = omega arith in ap (signed 12) same ∙ i_back z h

pub s_read : (z : ℤ) (rs2 rs1 f3 op : ℕ) → IsSigned 12 z → rs2 < 32 → rs1 < 32 → f3 < 8 → op < 128 → s_imm (s_type z rs2 rs1 f3 op) ≡ z
s_read z rs2 rs1 f3 op h a b c d =
    let w = s_type z rs2 rs1 f3 op in
    let same : bits_of 31 25 w * 2 ^ 5 + bits_of 11 7 w ≡ imm_bits 11 5 z * 2 ^ 5 + imm_bits 4 0 z = omega arith in ap (signed 12) same ∙ s_back z h

pub b_read : (z : ℤ) (rs2 rs1 f3 op : ℕ) → IsSigned 13 z → imm_bits 0 0 z ≡ 0 → rs2 < 32 → rs1 < 32 → f3 < 8 → op < 128 → b_imm (b_type z rs2 rs1 f3 op) ≡ z
b_read z rs2 rs1 f3 op h e a b c d =
    let w = b_type z rs2 rs1 f3 op in
    let same
    : bits_of 31 31 w * 2 ^ 12 + bits_of 7 7 w * 2 ^ 11 + bits_of 30 25 w * 2 ^ 5 + bits_of 11 8 w * 2
    ≡ imm_bits 12 12 z * 2 ^ 12 + imm_bits 11 11 z * 2 ^ 11 + imm_bits 10 5 z * 2 ^ 5 + imm_bits 4 1 z * 2
    = omega arith in
    ap (signed 13) same ∙ b_back z h e

pub u_read : (z : ℤ) (rd op : ℕ) → IsSigned 32 z → imm_bits 11 0 z ≡ 0 → rd < 32 → op < 128 → u_imm (u_type z rd op) ≡ z
u_read z rd op h e a b =
    let w = u_type z rd op in
    let same : bits_of 31 12 w * 2 ^ 12 ≡ imm_bits 31 12 z * 2 ^ 12 = omega arith in ap (signed 32) same ∙ u_back z h e

pub j_read : (z : ℤ) (rd op : ℕ) → IsSigned 21 z → imm_bits 0 0 z ≡ 0 → rd < 32 → op < 128 → j_imm (j_type z rd op) ≡ z
j_read z rd op h e a b =
    let w = j_type z rd op in
    let same
    : bits_of 31 31 w * 2 ^ 20 + bits_of 19 12 w * 2 ^ 12 + bits_of 20 20 w * 2 ^ 11 + bits_of 30 21 w * 2
    ≡ imm_bits 20 20 z * 2 ^ 20 + imm_bits 19 12 z * 2 ^ 12 + imm_bits 11 11 z * 2 ^ 11 + imm_bits 10 1 z * 2
    = omega arith in
    ap (signed 21) same ∙ j_back z h e
