-- What every instruction keeps: registers stay registers, and addresses and words stay below 2 ^ 32.
use Rattle.std.proofs.Common.{◌≡◌, ℕ, zero, suc, ◌+◌, ◌*◌, ◌/◌, ◌%◌, ◌^◌, ◌<◌, ℤ, pos, negsuc, Bool, true, false, cond, Option, Some, None, List, length, set, get_or, arith, refl, sym, ◌∙◌, lit<, unwrap_or, subst, inl, inr, [], ◌∷◌, replicate}
use Rattle.std.specs.Prelude.{◌==◌, int_lt, nat_lt}
use Rattle.std.proofs.lemmas.Bool.{cond_both}
use Rattle.std.proofs.lemmas.Nat.{mod_below, shr_le, mul-lt, or_of_32, xor_of_32, and_le_l}
use Rattle.std.proofs.Math.Nat.{div-le_self, mod-le}
use Rattle.std.proofs.lemmas.List.{get_or-set_same, get_or-set_other, length-set}
use Rattle.std.proofs.lemmas.Bool.Decides.{eqb_tells}
use Rattle.std.proofs.lemmas.Option.{same_Some, none-some}
use Rattle.rv32_decode.specs.Instructions.{RegistersFit}
use Rattle.rv32_decode.specs.declared.instruction.Insn.{Insn}
use Rattle.rv32_decode.specs.declared.instruction.Insn.TheVariants.{Lui, Auipc, Jal, Jalr, Branch, Load, Save, Imm, Reg, Fence, Ecall, Ebreak}
use Rattle.rv32_decode.specs.declared.instruction.LoadOp.{LoadOp}
use Rattle.rv32_decode.specs.declared.instruction.LoadOp.TheVariants.{Lb, Lh, Lw, Lbu, Lhu}
use Rattle.rv32_decode.specs.declared.instruction.RegOp.{RegOp}
use Rattle.rv32_decode.specs.declared.instruction.RegOp.TheVariants.{Add, Sub, Sll, Slt, Sltu, Xor, Srl, Sra, Or, And, Mul, Mulh, Mulhsu, Mulhu, Div, Divu, Rem, Remu}
use Rattle.rv32_decode.specs.declared.instruction.SaveOp.{SaveOp}
use Rattle.rv32_decode.specs.declared.instruction.SaveOp.TheVariants.{Sb, Sh, Sw}
use Rattle.std.proofs.lemmas.List.Elements.{All-nil, All-cons}
use Rattle.rv32_machine.specs.Memory.{BytesFit, StoresFit}
use Rattle.rv32_machine.specs.Steps.{EffectFits}
use Rattle.rv32_machine.specs.Registers.{AreRegisters, with_value, value_of, zeros}
use Rattle.rv32_machine.specs.Execution.{residue, word_of, signed_of, moved, flag, reg_result, operation_of, is_taken, byte_of, loaded_byte, load_result, Effect, following, gives, links, executed, saved, written}

pub residue_below : (m : ℕ) (z : ℤ) → 0 < m → residue m z < m
residue_below m (pos n) h = mod_below n m h
residue_below m (negsuc n) h = omega (arith, mod_below n m h)

flag_below : (b : Bool) → flag b < 2 ^ 32
flag_below true = lit< tt
flag_below false = lit< tt

either_below : (b : Bool) (x y : ℕ) → x < 2 ^ 32 → y < 2 ^ 32 → cond b x y < 2 ^ 32
either_below b x y p q = cond_both b x y (λ n. n < 2 ^ 32) (λ _. p) (λ _. q)

half_below : (n : ℕ) → n < 2 ^ 64 → n / 2 ^ 32 < 2 ^ 32
half_below n h = omega arith

pub reg_result_below : (op : RegOp) (a b : ℕ) → a < 2 ^ 32 → b < 2 ^ 32 → reg_result op a b < 2 ^ 32
reg_result_below Add a b p q = omega arith
reg_result_below Sub a b p q = omega arith
reg_result_below Sll a b p q = mod_below (a * 2 ^ (b % 32)) (2 ^ 32) (lit< tt)
reg_result_below Slt a b p q = flag_below (int_lt (signed_of a) (signed_of b))
reg_result_below Sltu a b p q = flag_below (nat_lt a b)
reg_result_below Xor a b p q = xor_of_32 a b p q
reg_result_below Srl a b p q = omega (arith, shr_le a (b % 32))
reg_result_below Sra a b p q = residue_below (2 ^ 32) _ (lit< tt)
reg_result_below Or a b p q = or_of_32 a b p q
reg_result_below And a b p q = omega (arith, and_le_l a b)
reg_result_below Mul a b p q = mod_below (a * b) (2 ^ 32) (lit< tt)
reg_result_below Mulh a b p q = half_below _ (residue_below (2 ^ 64) _ (lit< tt))
reg_result_below Mulhsu a b p q = half_below _ (residue_below (2 ^ 64) _ (lit< tt))
reg_result_below Mulhu a b p q = half_below (a * b) (mul-lt a b (2 ^ 32) (2 ^ 32) p q)
reg_result_below Div a b p q = either_below (b == 0) _ _ (lit< tt) (residue_below (2 ^ 32) _ (lit< tt))
reg_result_below Divu a b p q = either_below (b == 0) _ _ (lit< tt) (omega (arith, div-le_self a b))
reg_result_below Rem a b p q = either_below (b == 0) _ _ p (residue_below (2 ^ 32) _ (lit< tt))
reg_result_below Remu a b p q = either_below (b == 0) _ _ p (omega (arith, mod-le a b))

-- ---- Registers

-- the value at a place after a write, by whether it is the place of the write
written_below : (regs : List ℕ) (r value i : ℕ) → value < 2 ^ 32 → ((n : ℕ) → get_or regs n 0 < 2 ^ 32) → r < length regs
    → get_or (set regs r value) i 0 < 2 ^ 32
written_below regs r value i fits words within =
    elim (eqb_tells i r) as (λ _. get_or (set regs r value) i 0 < 2 ^ 32) [
      | inl same ↦ subst (λ (n : ℕ). get_or (set regs r value) n 0 < 2 ^ 32) (sym same.1) (subst (λ (n : ℕ). n < 2 ^ 32) (sym (get_or-set_same regs r value 0 within)) fits)
      | inr other ↦ subst (λ (n : ℕ). n < 2 ^ 32) (sym (get_or-set_other regs r i value 0 other.1)) (words i)
    ]

pub with_value_keeps : (regs : List ℕ) (rd value : ℕ) → AreRegisters regs → rd < 32 → value < 2 ^ 32 → AreRegisters (with_value regs rd value)
with_value_keeps regs zero value are within fits = are
with_value_keeps regs (suc n) value are within fits = record {
  count = length-set regs (suc n) value ∙ are.count;
  zero_first = get_or-set_other regs (suc n) 0 value 0 (λ e. absurd (omega (arith, e))) ∙ are.zero_first;
  words = λ i. written_below regs (suc n) value i fits are.words (omega arith);
}

all_zero : (n number : ℕ) → get_or {A = ℕ} (replicate n 0) number 0 ≡ 0
all_zero zero number = refl
all_zero (suc n) zero = refl
all_zero (suc n) (suc number) = all_zero n number

pub zeros_are_registers : AreRegisters zeros
zeros_are_registers = record { count = refl; zero_first = refl; words = λ number. (let none = all_zero 32 number in omega arith) }

-- ---- Memory

byte_below : (found : Option ℕ) (other : ℕ) → ((byte : ℕ) → found ≡ Some byte → byte < 2 ^ 8) → other < 2 ^ 8 → unwrap_or found other < 2 ^ 8
byte_below None other fits h = h
byte_below (Some byte) other fits h = fits byte refl

pub loaded_byte_below : (memory : ℕ → Option ℕ) (device address i : ℕ) → BytesFit memory → loaded_byte memory device address i < 2 ^ 8
loaded_byte_below memory device address i fits =
    byte_below (memory ((address + i) % 2 ^ 32)) (byte_of device i) (fits.fits ((address + i) % 2 ^ 32)) (mod_below _ (2 ^ 8) (lit< tt))

pub load_result_below : (op : LoadOp) (bytes : ℕ → ℕ) → ((i : ℕ) → bytes i < 2 ^ 8) → load_result op bytes < 2 ^ 32
load_result_below Lb bytes fits = residue_below (2 ^ 32) _ (lit< tt)
load_result_below Lh bytes fits = residue_below (2 ^ 32) _ (lit< tt)
load_result_below Lw bytes fits = omega (arith, fits 0, fits 1, fits 2, fits 3)
load_result_below Lbu bytes fits = omega (arith, fits 0)
load_result_below Lhu bytes fits = omega (arith, fits 0, fits 1)

-- ---- Instructions

pub moved_below : (word : ℕ) (by : ℤ) → moved word by < 2 ^ 32
moved_below word by = mod_below (word + word_of by) (2 ^ 32) (lit< tt)

pub following_below : (address : ℕ) → following address < 2 ^ 32
following_below address = mod_below (address + 4) (2 ^ 32) (lit< tt)

-- nothing stored, and the bytes of a word, are bytes
none_stored : StoresFit []
none_stored = All-nil (λ (one : ℕ × ℕ). one.1 < 2 ^ 8)

byte_of_below : (word i : ℕ) → byte_of word i < 2 ^ 8
byte_of_below word i = mod_below (word / 2 ^ (8 * i)) (2 ^ 8) (lit< tt)

one_more : (address word i : ℕ) (others : List (ℕ × ℕ)) → StoresFit others → StoresFit (written address word i ∷ others)
one_more address word i others fits = All-cons (λ (one : ℕ × ℕ). one.1 < 2 ^ 8) (written address word i) others (byte_of_below word i) fits

saved_fits : (op : SaveOp) (address word : ℕ) → StoresFit (saved op address word)
saved_fits Sb address word = one_more address word 0 [] none_stored
saved_fits Sh address word = one_more address word 0 (written address word 1 ∷ []) (one_more address word 1 [] none_stored)
saved_fits Sw address word =
    one_more address word 0 (written address word 1 ∷ written address word 2 ∷ written address word 3 ∷ [])
    (one_more address word 1 (written address word 2 ∷ written address word 3 ∷ [])
    (one_more address word 2 (written address word 3 ∷ []) (one_more address word 3 [] none_stored)))

-- the effect that an instruction has is the one that its line gives
of_line : (line effect : Effect) → Some line ≡ Some effect → EffectFits line → EffectFits effect
of_line line effect e fits = subst EffectFits (same_Some line effect e) fits

gives_fits : (regs : List ℕ) (address rd value : ℕ) (effect : Effect) → AreRegisters regs → rd < 32 → value < 2 ^ 32
    → Some (gives regs address rd value) ≡ Some effect → EffectFits effect
gives_fits regs address rd value effect are within fits e =
    of_line (gives regs address rd value) effect e (record { registers_fit = with_value_keeps regs rd value are within fits; next_fits = following_below address; stored_fit = none_stored })

links_fits : (regs : List ℕ) (address rd target : ℕ) (effect : Effect) → AreRegisters regs → rd < 32 → target < 2 ^ 32
    → Some (links regs address rd target) ≡ Some effect → EffectFits effect
links_fits regs address rd target effect are within fits e =
    of_line (links regs address rd target) effect e (record { registers_fit = with_value_keeps regs rd (following address) are within (following_below address); next_fits = fits; stored_fit = none_stored })

stays_fits : (line effect : Effect) (regs : List ℕ) → AreRegisters regs → line.registers ≡ regs → line.next < 2 ^ 32 → StoresFit line.stored
    → Some line ≡ Some effect → EffectFits effect
stays_fits line effect regs are same fits small e =
    of_line line effect e (record { registers_fit = subst AreRegisters (sym same) are; next_fits = fits; stored_fit = small })

pub executed_keeps : (insn : Insn) (address : ℕ) (regs : List ℕ) (memory : ℕ → Option ℕ) (device : ℕ) (effect : Effect) → RegistersFit insn → AreRegisters regs
    → BytesFit memory → executed insn address regs memory device ≡ Some effect → EffectFits effect
executed_keeps (Lui rd imm) address regs memory device effect fits are bytes e = gives_fits regs address rd _ effect are fits (residue_below (2 ^ 32) imm (lit< tt)) e
executed_keeps (Auipc rd imm) address regs memory device effect fits are bytes e = gives_fits regs address rd _ effect are fits (moved_below address imm) e
executed_keeps (Jal rd offset) address regs memory device effect fits are bytes e = links_fits regs address rd _ effect are fits (moved_below address offset) e
executed_keeps (Jalr rd rs1 offset) address regs memory device effect fits are bytes e =
    links_fits regs address rd _ effect are fits.0 (omega (arith, moved_below (value_of regs rs1) offset)) e
executed_keeps (Branch op rs1 rs2 offset) address regs memory device effect fits are bytes e =
    stays_fits _ effect regs are refl (either_below (is_taken op (value_of regs rs1) (value_of regs rs2)) _ _ (moved_below address offset) (following_below address)) none_stored e
executed_keeps (Load op rd rs1 offset) address regs memory device effect fits are bytes e =
    gives_fits regs address rd _ effect are fits.0 (load_result_below op _ (λ i. loaded_byte_below memory device (moved (value_of regs rs1) offset) i bytes)) e
executed_keeps (Save op rs1 rs2 offset) address regs memory device effect fits are bytes e =
    stays_fits _ effect regs are refl (following_below address) (saved_fits op (moved (value_of regs rs1) offset) (value_of regs rs2)) e
executed_keeps (Imm op rd rs1 imm) address regs memory device effect fits are bytes e =
    gives_fits regs address rd _ effect are fits.0 (reg_result_below (operation_of op) (value_of regs rs1) (word_of imm) (are.words rs1) (residue_below (2 ^ 32) imm (lit< tt))) e
executed_keeps (Reg op rd rs1 rs2) address regs memory device effect fits are bytes e =
    gives_fits regs address rd _ effect are fits.0 (reg_result_below op (value_of regs rs1) (value_of regs rs2) (are.words rs1) (are.words rs2)) e
executed_keeps (Fence rd rs1 imm) address regs memory device effect fits are bytes e = stays_fits _ effect regs are refl (following_below address) none_stored e
executed_keeps Ecall address regs memory device effect fits are bytes e = absurd (none-some effect e)
executed_keeps Ebreak address regs memory device effect fits are bytes e = absurd (none-some effect e)
