-- A word and its fields.
use Rattle.std.proofs.Common.{◌≡◌, ℤ, ℕ, ◌+◌, ◌*◌, ◌^◌, ◌<◌, arith}
use Rattle.rv32_decode.specs.Formats.{bits_of, imm_bits, r_type, i_type, s_type, b_type, u_type, j_type}

-- the fields of a word that has the six fields of the R format
pub record HasFields (word funct7 rs2 rs1 funct3 rd opcode : ℕ) : Type 0 where
  pub funct7_is : bits_of 31 25 word ≡ funct7
  pub rs2_is : bits_of 24 20 word ≡ rs2
  pub rs1_is : bits_of 19 15 word ≡ rs1
  pub funct3_is : bits_of 14 12 word ≡ funct3
  pub rd_is : bits_of 11 7 word ≡ rd
  pub opcode_is : bits_of 6 0 word ≡ opcode

pub fields_of_r_type : (f7 rs2 rs1 f3 rd op : ℕ) → f7 < 128 → rs2 < 32 → rs1 < 32 → f3 < 8 → rd < 32 → op < 128
    → HasFields (r_type f7 rs2 rs1 f3 rd op) f7 rs2 rs1 f3 rd op
fields_of_r_type f7 rs2 rs1 f3 rd op a b c d e f = record {
  funct7_is = omega arith;
  rs2_is = omega arith;
  rs1_is = omega arith;
  funct3_is = omega arith;
  rd_is = omega arith;
  opcode_is = omega arith;
}

pub r_type_of_fields : (w : ℕ) → w < 2 ^ 32
    → w ≡ r_type (bits_of 31 25 w) (bits_of 24 20 w) (bits_of 19 15 w) (bits_of 14 12 w) (bits_of 11 7 w) (bits_of 6 0 w)
r_type_of_fields w h = omega arith

pub i_fields : (z : ℤ) (rs1 f3 rd op : ℕ) → rs1 < 32 → f3 < 8 → rd < 32 → op < 128
    → HasFields (i_type z rs1 f3 rd op) (imm_bits 11 5 z) (imm_bits 4 0 z) rs1 f3 rd op
i_fields z rs1 f3 rd op a b c d = record {
  funct7_is = omega arith;
  rs2_is = omega arith;
  rs1_is = omega arith;
  funct3_is = omega arith;
  rd_is = omega arith;
  opcode_is = omega arith;
}

pub s_fields : (z : ℤ) (rs2 rs1 f3 op : ℕ) → rs2 < 32 → rs1 < 32 → f3 < 8 → op < 128
    → HasFields (s_type z rs2 rs1 f3 op) (imm_bits 11 5 z) rs2 rs1 f3 (imm_bits 4 0 z) op
s_fields z rs2 rs1 f3 op a b c d = record {
  funct7_is = omega arith;
  rs2_is = omega arith;
  rs1_is = omega arith;
  funct3_is = omega arith;
  rd_is = omega arith;
  opcode_is = omega arith;
}

pub b_fields : (z : ℤ) (rs2 rs1 f3 op : ℕ) → rs2 < 32 → rs1 < 32 → f3 < 8 → op < 128
    → HasFields
    (b_type z rs2 rs1 f3 op)
    (imm_bits 12 12 z * 2 ^ 6 + imm_bits 10 5 z)
    rs2
    rs1
    f3
    (imm_bits 4 1 z * 2 + imm_bits 11 11 z)
    op
b_fields z rs2 rs1 f3 op a b c d = record {
  funct7_is = omega arith;
  rs2_is = omega arith;
  rs1_is = omega arith;
  funct3_is = omega arith;
  rd_is = omega arith;
  opcode_is = omega arith;
}

pub u_opcode : (z : ℤ) (rd op : ℕ) → rd < 32 → op < 128 → bits_of 6 0 (u_type z rd op) ≡ op
u_opcode z rd op a b = omega arith

pub u_rd : (z : ℤ) (rd op : ℕ) → rd < 32 → op < 128 → bits_of 11 7 (u_type z rd op) ≡ rd
u_rd z rd op a b = omega arith

pub j_opcode : (z : ℤ) (rd op : ℕ) → rd < 32 → op < 128 → bits_of 6 0 (j_type z rd op) ≡ op
j_opcode z rd op a b = omega arith

pub j_rd : (z : ℤ) (rd op : ℕ) → rd < 32 → op < 128 → bits_of 11 7 (j_type z rd op) ≡ rd
j_rd z rd op a b = omega arith
