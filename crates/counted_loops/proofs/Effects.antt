-- What the words of a counted loop do.
use Rattle.std.proofs.Common.{◌≡◌, ℕ, zero, suc, ◌+◌, ◌-◌, ◌^◌, ◌<◌, ◌%◌, ℤ, Bool, true, false, List, length, Option, Some, None, refl, sym, ◌∙◌, ap, subst, arith, lit<}
use Rattle.std.specs.Prelude.{nat_eq, option_map}
use Rattle.std.proofs.lemmas.Bool.{eqb-false}
use Rattle.std.proofs.lemmas.Option.{none-some, same_Some}
use Rattle.rv32_decode.specs.declared.instruction.Insn.{Insn}
use Rattle.rv32_decode.specs.declared.instruction.Insn.TheVariants.{Lui, Auipc, Jal, Jalr, Branch, Load, Save, Imm, Reg, Fence, Ecall, Ebreak}
use Rattle.rv32_decode.specs.declared.instruction.ImmOp.TheVariants.{Addi}
use Rattle.rv32_decode.specs.Instructions.{class_of}
use Rattle.rv32_machine.specs.declared.turns.Pair.{Pair}
use Rattle.rv32_machine.specs.declared.turns.Turn.{Turn}
use Rattle.rv32_machine.specs.declared.turns.Turn.TheVariants.{Onward}
use Rattle.rv32_machine.specs.Execution.{Effect, executed, following, gives, word_of, imm_result}
use Rattle.rv32_machine.specs.Places.{pair_at, turn_at, turn_of}
use Rattle.rv32_machine.specs.Registers.{AreRegisters, value_of, with_value}
use Rattle.rv32_machine.proofs.ExecutionLaws.{residue_below}
use Rattle.rv32_machine.proofs.StepLaws.{value_written, value_kept}
use Rattle.counted_loops.specs.Words.{is_plain, writes, loads, adds}

-- ---- A word that just goes on

-- what it leaves: the next word, and every register that it doesn't write
pub record GoesOn (insn : Insn) (address : ℕ) (regs : List ℕ) (effect : Effect) : Type 0 where
  pub next : effect.next ≡ following address
  pub keeps : (q : ℕ) → writes q insn ≡ false → value_of effect.registers q ≡ value_of regs q

gives_on : (insn : Insn) (address rd value : ℕ) (regs : List ℕ) (effect : Effect) → ((q : ℕ) → writes q insn ≡ false → nat_eq q rd ≡ false)
    → Some (gives regs address rd value) ≡ Some effect → GoesOn insn address regs effect
gives_on insn address rd value regs effect apart e =
    let is : gives regs address rd value ≡ effect = same_Some (gives regs address rd value) effect e in
    subst (GoesOn insn address regs) is (record {
      next = refl;
      keeps = λ q other. value_kept regs rd value q (eqb-false q rd (apart q other));
    })

stays_on : (insn : Insn) (address : ℕ) (regs : List ℕ) (stored : List (ℕ × ℕ)) (effect : Effect)
    → Some (record { registers = regs; stored = stored; next = following address }) ≡ Some effect → GoesOn insn address regs effect
stays_on insn address regs stored effect e =
    subst (GoesOn insn address regs) (same_Some (record { registers = regs; stored = stored; next = following address }) effect e)
    (record { next = refl; keeps = λ q other. refl })

pub plain_goes_on : (insn : Insn) (address : ℕ) (regs : List ℕ) (memory : ℕ → Option ℕ) (device : ℕ) (effect : Effect) → is_plain (class_of insn) ≡ true
    → executed insn address regs memory device ≡ Some effect → GoesOn insn address regs effect
plain_goes_on (Lui rd imm) address regs memory device effect plain e = gives_on (Lui rd imm) address rd _ regs effect (λ q h. h) e
plain_goes_on (Auipc rd imm) address regs memory device effect plain e = gives_on (Auipc rd imm) address rd _ regs effect (λ q h. h) e
plain_goes_on (Jal rd offset) address regs memory device effect plain e = absurd cc
plain_goes_on (Jalr rd rs1 offset) address regs memory device effect plain e = absurd cc
plain_goes_on (Branch op rs1 rs2 offset) address regs memory device effect plain e = absurd cc
plain_goes_on (Load op rd rs1 offset) address regs memory device effect plain e = gives_on (Load op rd rs1 offset) address rd _ regs effect (λ q h. h) e
plain_goes_on (Save op rs1 rs2 offset) address regs memory device effect plain e = stays_on (Save op rs1 rs2 offset) address regs _ effect e
plain_goes_on (Imm op rd rs1 imm) address regs memory device effect plain e = gives_on (Imm op rd rs1 imm) address rd _ regs effect (λ q h. h) e
plain_goes_on (Reg op rd rs1 rs2) address regs memory device effect plain e = gives_on (Reg op rd rs1 rs2) address rd _ regs effect (λ q h. h) e
plain_goes_on (Fence rd rs1 imm) address regs memory device effect plain e = stays_on (Fence rd rs1 imm) address regs _ effect e
plain_goes_on Ecall address regs memory device effect plain e = absurd cc
plain_goes_on Ebreak address regs memory device effect plain e = absurd cc

onward : (pair : Option Pair) (address : ℕ) (insn : Insn) → is_plain (class_of insn) ≡ true → turn_of pair address insn ≡ Onward
onward pair address (Lui rd imm) plain = refl
onward pair address (Auipc rd imm) plain = refl
onward pair address (Jal rd offset) plain = absurd cc
onward pair address (Jalr rd rs1 offset) plain = absurd cc
onward pair address (Branch op rs1 rs2 offset) plain = absurd cc
onward pair address (Load op rd rs1 offset) plain = refl
onward pair address (Save op rs1 rs2 offset) plain = refl
onward pair address (Imm op rd rs1 imm) plain = refl
onward pair address (Reg op rd rs1 rs2) plain = refl
onward pair address (Fence rd rs1 imm) plain = refl
onward pair address Ecall plain = absurd cc
onward pair address Ebreak plain = absurd cc

pub plain_turn : (code : ℕ → Option Insn) (address : ℕ) (insn : Insn) → code address ≡ Some insn → is_plain (class_of insn) ≡ true
    → turn_at code address ≡ Some Onward
plain_turn code address insn at plain = ap (option_map (turn_of (pair_at code address) address)) at ∙ ap Some (onward (pair_at code address) address insn plain)

-- ---- Words that count

zero_plus : (z w : ℕ) → z ≡ 0 → w < 2 ^ 32 → (z + w) % 2 ^ 32 ≡ w
zero_plus z w none fits = omega arith

-- a register other than x0 holds what is put into it
pub adds_up : (rd rs1 : ℕ) (imm : ℤ) (address : ℕ) (regs : List ℕ) (memory : ℕ → Option ℕ) (device : ℕ) (effect : Effect) → 0 < rd → rd < 32 → AreRegisters regs
    → executed (Imm Addi rd rs1 imm) address regs memory device ≡ Some effect → value_of effect.registers rd ≡ (value_of regs rs1 + word_of imm) % 2 ^ 32
adds_up rd rs1 imm address regs memory device effect some below are e =
    let is : gives regs address rd (imm_result Addi (value_of regs rs1) imm) ≡ effect = same_Some (gives regs address rd (imm_result Addi (value_of regs rs1) imm)) effect e in
    let count : length regs ≡ 32 = are.count in
    ap (λ (f : Effect). value_of f.registers rd) (sym is) ∙ value_written regs rd (imm_result Addi (value_of regs rs1) imm) some (omega arith)

-- and a constant that is loaded is its word
pub loads_word : (rd : ℕ) (imm : ℤ) (address : ℕ) (regs : List ℕ) (memory : ℕ → Option ℕ) (device : ℕ) (effect : Effect) → 0 < rd → rd < 32 → AreRegisters regs
    → executed (loads rd imm) address regs memory device ≡ Some effect → value_of effect.registers rd ≡ word_of imm
loads_word rd imm address regs memory device effect some below are e =
    adds_up rd 0 imm address regs memory device effect some below are e
    ∙ zero_plus (value_of regs 0) (word_of imm) are.zero_first (residue_below (2 ^ 32) imm (lit< tt))
