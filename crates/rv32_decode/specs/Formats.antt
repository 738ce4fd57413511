-- The six instruction formats of the RISC-V manual, volume I, figure "RISC-V base instruction
-- formats": a word as the sum of its fields, each from its lowest bit on.
use Rattle.std.specs.Prelude.{ℕ, ◌+◌, ◌-◌, ◌*◌, ◌/◌, ◌%◌, ◌^◌, ℤ, pos, ◌-ℤ◌, ◌≤ℤ◌, ◌<ℤ◌, neg_ℤ, nat_lt, if◌then◌else◌}
use Rattle.std.specs.Int.{w32, cast_unsigned}

-- the bits from high down to low of a number, which the manual writes number[high:low]
abbrev pub bits_of : ℕ → ℕ → ℕ → ℕ
bits_of high low number = number / 2 ^ low % 2 ^ (high + 1 - low)

-- the same of a signed number, in two's complement: imm[high:low]
abbrev pub imm_bits : ℕ → ℕ → ℤ → ℕ
imm_bits high low imm = bits_of high low (cast_unsigned w32 imm)

-- the signed number whose two's complement in n bits is k
abbrev pub signed : ℕ → ℕ → ℤ
signed n k = if nat_lt k (2 ^ (n - 1)) then pos k else (pos k -ℤ pos (2 ^ n))

-- the signed numbers that n bits hold
abbrev pub IsSigned : ℕ → ℤ → Type 0
IsSigned n z = (neg_ℤ (pos (2 ^ (n - 1))) ≤ℤ z) × (z <ℤ pos (2 ^ (n - 1)))

abbrev pub r_type : ℕ → ℕ → ℕ → ℕ → ℕ → ℕ → ℕ
r_type funct7 rs2 rs1 funct3 rd opcode =
    funct7 * 2 ^ 25 + rs2 * 2 ^ 20 + rs1 * 2 ^ 15 + funct3 * 2 ^ 12 + rd * 2 ^ 7 + opcode

abbrev pub i_type : ℤ → ℕ → ℕ → ℕ → ℕ → ℕ
i_type imm rs1 funct3 rd opcode =
    imm_bits 11 0 imm * 2 ^ 20 + rs1 * 2 ^ 15 + funct3 * 2 ^ 12 + rd * 2 ^ 7 + opcode

abbrev pub s_type : ℤ → ℕ → ℕ → ℕ → ℕ → ℕ
s_type imm rs2 rs1 funct3 opcode =
    imm_bits 11 5 imm * 2 ^ 25 + rs2 * 2 ^ 20 + rs1 * 2 ^ 15 + funct3 * 2 ^ 12 + imm_bits 4 0 imm * 2 ^ 7 + opcode

abbrev pub b_type : ℤ → ℕ → ℕ → ℕ → ℕ → ℕ
b_type imm rs2 rs1 funct3 opcode =
    imm_bits 12 12 imm * 2 ^ 31 + imm_bits 10 5 imm * 2 ^ 25 + rs2 * 2 ^ 20 + rs1 * 2 ^ 15 + funct3 * 2 ^ 12
    + imm_bits 4 1 imm * 2 ^ 8 + imm_bits 11 11 imm * 2 ^ 7 + opcode

abbrev pub u_type : ℤ → ℕ → ℕ → ℕ
u_type imm rd opcode = imm_bits 31 12 imm * 2 ^ 12 + rd * 2 ^ 7 + opcode

abbrev pub j_type : ℤ → ℕ → ℕ → ℕ
j_type imm rd opcode =
    imm_bits 20 20 imm * 2 ^ 31 + imm_bits 10 1 imm * 2 ^ 21 + imm_bits 11 11 imm * 2 ^ 20
    + imm_bits 19 12 imm * 2 ^ 12 + rd * 2 ^ 7 + opcode
