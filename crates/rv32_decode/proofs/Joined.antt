-- Fields that are joined by `|`.
use Rattle.std.proofs.Common.{◌≡◌, ℕ, ◌+◌, ◌*◌, ◌%◌, ◌^◌, ◌<◌, arith, bit_or, ap, ◌∙◌}
use Rattle.std.proofs.lemmas.Nat.{or_shifted}
use Rattle.rv32_decode.specs.Formats.{r_type}

-- `|` adds what stands below bit k to what stands from there on
pub or_is : (k high low a b : ℕ) → a ≡ high * 2 ^ k → b ≡ low → low < 2 ^ k → bit_or a b ≡ high * 2 ^ k + low
or_is k high low a b p q below = ap (λ n. bit_or n b) p ∙ ap (bit_or (high * 2 ^ k)) q ∙ or_shifted high k low below

pub pack_is : (f7 rs2 rs1 f3 rd op : ℕ) → f7 < 128 → rs2 < 32 → rs1 < 32 → f3 < 8 → rd < 32 → op < 128
    → bit_or
    (bit_or
    (bit_or (bit_or (bit_or (f7 * 2 ^ 25 % 2 ^ 32) (rs2 * 2 ^ 20 % 2 ^ 32)) (rs1 * 2 ^ 15 % 2 ^ 32)) (f3 * 2 ^ 12 % 2 ^ 32))
    (rd * 2 ^ 7 % 2 ^ 32))
    op
    ≡ r_type f7 rs2 rs1 f3 rd op
pack_is f7 rs2 rs1 f3 rd op a b c d e f =
    let one = or_is 25 f7 (rs2 * 2 ^ 20) (f7 * 2 ^ 25 % 2 ^ 32) (rs2 * 2 ^ 20 % 2 ^ 32) (omega arith) (omega arith) (omega arith) in
    let two = or_is 20 (f7 * 2 ^ 5 + rs2) (rs1 * 2 ^ 15) _ (rs1 * 2 ^ 15 % 2 ^ 32) (one ∙ omega arith) (omega arith) (omega arith) in
    let three = or_is 15 (f7 * 2 ^ 10 + rs2 * 2 ^ 5 + rs1) (f3 * 2 ^ 12) _ (f3 * 2 ^ 12 % 2 ^ 32) (two ∙ omega arith) (omega arith) (omega arith) in
    let four = or_is 12 (f7 * 2 ^ 13 + rs2 * 2 ^ 8 + rs1 * 2 ^ 3 + f3) (rd * 2 ^ 7) _ (rd * 2 ^ 7 % 2 ^ 32) (three ∙ omega arith) (omega arith) (omega arith) in
    let five = or_is 7 (f7 * 2 ^ 18 + rs2 * 2 ^ 13 + rs1 * 2 ^ 8 + f3 * 2 ^ 5 + rd) op _ op (four ∙ omega arith) (omega arith) (omega arith) in
    five ∙ omega arith

pub u_is : (imm rd op : ℕ) → imm < 2 ^ 20 → rd < 32 → op < 128
    → bit_or (bit_or (imm * 2 ^ 12 % 2 ^ 32) (rd * 2 ^ 7 % 2 ^ 32)) op ≡ imm * 2 ^ 12 + rd * 2 ^ 7 + op
u_is imm rd op a b c =
    let one = or_is 12 imm (rd * 2 ^ 7) (imm * 2 ^ 12 % 2 ^ 32) (rd * 2 ^ 7 % 2 ^ 32) (omega arith) (omega arith) (omega arith) in
    let two = or_is 7 (imm * 2 ^ 5 + rd) op _ op (one ∙ omega arith) (omega arith) (omega arith) in
    two ∙ omega arith

pub j_is : (i20 i10 i11 i19 rd op : ℕ) → i20 < 2 → i10 < 2 ^ 10 → i11 < 2 → i19 < 2 ^ 8 → rd < 32 → op < 128
    → bit_or
    (bit_or
    (bit_or (bit_or (bit_or (i20 * 2 ^ 31 % 2 ^ 32) (i10 * 2 ^ 21 % 2 ^ 32)) (i11 * 2 ^ 20 % 2 ^ 32)) (i19 * 2 ^ 12 % 2 ^ 32))
    (rd * 2 ^ 7 % 2 ^ 32))
    op
    ≡ i20 * 2 ^ 31 + i10 * 2 ^ 21 + i11 * 2 ^ 20 + i19 * 2 ^ 12 + rd * 2 ^ 7 + op
j_is i20 i10 i11 i19 rd op a b c d e f =
    let one = or_is 31 i20 (i10 * 2 ^ 21) (i20 * 2 ^ 31 % 2 ^ 32) (i10 * 2 ^ 21 % 2 ^ 32) (omega arith) (omega arith) (omega arith) in
    let two = or_is 21 (i20 * 2 ^ 10 + i10) (i11 * 2 ^ 20) _ (i11 * 2 ^ 20 % 2 ^ 32) (one ∙ omega arith) (omega arith) (omega arith) in
    let three = or_is 20 (i20 * 2 ^ 11 + i10 * 2 + i11) (i19 * 2 ^ 12) _ (i19 * 2 ^ 12 % 2 ^ 32) (two ∙ omega arith) (omega arith) (omega arith) in
    let four = or_is 12 (i20 * 2 ^ 19 + i10 * 2 ^ 9 + i11 * 2 ^ 8 + i19) (rd * 2 ^ 7) _ (rd * 2 ^ 7 % 2 ^ 32) (three ∙ omega arith) (omega arith) (omega arith) in
    let five = or_is 7 (i20 * 2 ^ 24 + i10 * 2 ^ 14 + i11 * 2 ^ 13 + i19 * 2 ^ 5 + rd) op _ op (four ∙ omega arith) (omega arith) (omega arith) in
    five ∙ omega arith

-- the bits of a branch's offset, and of a jump's
pub b_offset_is : (i12 i11 i10 i4 : ℕ) → i12 < 2 → i11 < 2 → i10 < 2 ^ 6 → i4 < 2 ^ 4
    → bit_or (bit_or (bit_or (i12 * 2 ^ 12 % 2 ^ 32) (i11 * 2 ^ 11 % 2 ^ 32)) (i10 * 2 ^ 5 % 2 ^ 32)) (i4 * 2 % 2 ^ 32)
    ≡ i12 * 2 ^ 12 + i11 * 2 ^ 11 + i10 * 2 ^ 5 + i4 * 2
b_offset_is i12 i11 i10 i4 a b c d =
    let one = or_is 12 i12 (i11 * 2 ^ 11) (i12 * 2 ^ 12 % 2 ^ 32) (i11 * 2 ^ 11 % 2 ^ 32) (omega arith) (omega arith) (omega arith) in
    let two = or_is 11 (i12 * 2 + i11) (i10 * 2 ^ 5) _ (i10 * 2 ^ 5 % 2 ^ 32) (one ∙ omega arith) (omega arith) (omega arith) in
    let three = or_is 5 (i12 * 2 ^ 7 + i11 * 2 ^ 6 + i10) (i4 * 2) _ (i4 * 2 % 2 ^ 32) (two ∙ omega arith) (omega arith) (omega arith) in
    three ∙ omega arith

pub j_offset_is : (i20 i19 i11 i10 : ℕ) → i20 < 2 → i19 < 2 ^ 8 → i11 < 2 → i10 < 2 ^ 10
    → bit_or (bit_or (bit_or (i20 * 2 ^ 20 % 2 ^ 32) (i19 * 2 ^ 12 % 2 ^ 32)) (i11 * 2 ^ 11 % 2 ^ 32)) (i10 * 2 % 2 ^ 32)
    ≡ i20 * 2 ^ 20 + i19 * 2 ^ 12 + i11 * 2 ^ 11 + i10 * 2
j_offset_is i20 i19 i11 i10 a b c d =
    let one = or_is 20 i20 (i19 * 2 ^ 12) (i20 * 2 ^ 20 % 2 ^ 32) (i19 * 2 ^ 12 % 2 ^ 32) (omega arith) (omega arith) (omega arith) in
    let two = or_is 12 (i20 * 2 ^ 8 + i19) (i11 * 2 ^ 11) _ (i11 * 2 ^ 11 % 2 ^ 32) (one ∙ omega arith) (omega arith) (omega arith) in
    let three = or_is 11 (i20 * 2 ^ 9 + i19 * 2 + i11) (i10 * 2) _ (i10 * 2 % 2 ^ 32) (two ∙ omega arith) (omega arith) (omega arith) in
    three ∙ omega arith
