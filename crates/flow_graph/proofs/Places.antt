-- What the words before a place are, where a service or a pair ends there.
use Rattle.std.proofs.Common.{◌≡◌, ℕ, ◌^◌, ◌<◌, ℤ, Bool, true, false, cond, Option, Some, None, arith, refl, sym, ap, subst}
use Rattle.std.specs.Prelude.{◌==◌, ◌&&◌, nat_lt, option_and_then}
use Rattle.std.proofs.lemmas.Bool.{eqb-true, ltb-true}
use Rattle.std.proofs.lemmas.Option.{none-some, same_Some}
use Rattle.rv32_decode.specs.declared.instruction.Insn.{Insn}
use Rattle.rv32_decode.specs.declared.instruction.Insn.TheVariants.{Auipc, Jalr, Imm, Ecall}
use Rattle.rv32_decode.specs.declared.instruction.ImmOp.TheVariants.{Addi}
use Rattle.rv32_machine.specs.declared.turns.Pair.{Pair}
use Rattle.rv32_machine.specs.declared.turns.ServiceAt.{ServiceAt}
use Rattle.rv32_machine.specs.Execution.{word_of, moved, jump_target, following}
use Rattle.rv32_machine.specs.Places.{preceding, constant_in, service_of, service_at, pair_behind, pair_of, pair_at}

pub preceding-following : (a : ℕ) → a < 2 ^ 32 → preceding (following a) ≡ a
preceding-following a h = omega arith

pub following_below : (a : ℕ) → following a < 2 ^ 32
following_below a = omega arith

-- ---- Services

service_inv : (a n : Option ℕ) (i : Option Insn) (s : ServiceAt) → service_of a n i ≡ Some s
    → (a ≡ Some s.argument) × (n ≡ Some s.number) × (i ≡ Some Ecall)
service_inv None n i s e = absurd (none-some s e)
service_inv (Some a) None i s e = absurd (none-some s e)
service_inv (Some a) (Some n) None s e = absurd (none-some s e)
service_inv (Some a) (Some n) (Some Ecall) s e = (cc, cc, refl)
service_inv (Some a) (Some n) (Some i) s e = absurd (none-some s e)

-- the instruction that loads the word
pub record Loads (register : ℕ) (found : Option Insn) (word : ℕ) : Type 0 where
  pub imm : ℤ
  pub is : found ≡ Some (Imm Addi register 0 imm)
  pub word_is : word_of imm ≡ word

both : (a b : Bool) → (a && b) ≡ true → (a ≡ true) × (b ≡ true)
both true b h = (refl, h)
both false b h = absurd cc

loads_imm : (register rd rs1 : ℕ) (imm : ℤ) (word : ℕ) (b : Bool) → b ≡ ((rd == register) && (rs1 == 0)) → cond b (Some (word_of imm)) None ≡ Some word
    → Loads register (Some (Imm Addi rd rs1 imm)) word
loads_imm register rd rs1 imm word true t e =
    let tests = both (rd == register) (rs1 == 0) (sym t) in
    let e1 : rd ≡ register = eqb-true rd register tests.0 in
    let e2 : rs1 ≡ 0 = eqb-true rs1 0 tests.1 in
    record { imm = imm; is = cc; word_is = cc }
loads_imm register rd rs1 imm word false t e = absurd (none-some word e)

loads_some : (register : ℕ) (insn : Insn) (word : ℕ) → constant_in register insn ≡ Some word → Loads register (Some insn) word
loads_some register (Imm Addi rd rs1 imm) word e = loads_imm register rd rs1 imm word _ refl e
loads_some register (Imm op rd rs1 imm) word e = absurd (none-some word e)
loads_some register insn word e = absurd (none-some word e)

pub loads : (register : ℕ) (found : Option Insn) (word : ℕ) → option_and_then (constant_in register) found ≡ Some word → Loads register found word
loads register None word e = absurd (none-some word e)
loads register (Some insn) word e = loads_some register insn word e

-- the words of the service that ends at a place
pub record ServiceWords (code : ℕ → Option Insn) (address : ℕ) (s : ServiceAt) : Type 0 where
  pub first : Loads 10 (code (preceding (preceding address))) s.argument
  pub second : Loads 17 (code (preceding address)) s.number
  pub third : code address ≡ Some Ecall

pub service_words : (code : ℕ → Option Insn) (address : ℕ) (s : ServiceAt) → service_at code address ≡ Some s → ServiceWords code address s
service_words code address s e =
    let parts = service_inv (option_and_then (constant_in 10) (code (preceding (preceding address))))
    (option_and_then (constant_in 17) (code (preceding address))) (code address) s e in
    record { first = loads 10 _ s.argument parts.0; second = loads 17 _ s.number parts.1; third = parts.2 }

-- ---- Pairs

-- the words of the pair that ends at a place
pub record PairWords (address : ℕ) (first second : Option Insn) (p : Pair) : Type 0 where
  pub imm : ℤ
  pub first_is : first ≡ Some (Auipc p.register imm)
  pub upper_is : p.upper ≡ moved address imm
  pub rd : ℕ
  pub offset : ℤ
  pub second_is : second ≡ Some (Jalr rd p.register offset)
  pub target_is : p.target ≡ jump_target p.upper offset
  pub not_zero : 0 < p.register

pair_jalr : (address register : ℕ) (imm : ℤ) (rd rs1 : ℕ) (offset : ℤ) (p : Pair) (b : Bool) → b ≡ (nat_lt 0 register && (rs1 == register) && nat_lt rd 2)
    → cond b (Some (record { register = register; upper = moved address imm; target = jump_target (moved address imm) offset })) None ≡ Some p
    → PairWords address (Some (Auipc register imm)) (Some (Jalr rd rs1 offset)) p
pair_jalr address register imm rd rs1 offset p true t e =
    let tests = both (nat_lt 0 register && (rs1 == register)) (nat_lt rd 2) (sym t) in
    let two = both (nat_lt 0 register) (rs1 == register) tests.0 in
    let same : rs1 ≡ register = eqb-true rs1 register two.1 in
    let above : 0 < register = ltb-true 0 register two.0 in
    let made : Pair = record { register = register; upper = moved address imm; target = jump_target (moved address imm) offset } in
    subst (λ (q : Pair). PairWords address (Some (Auipc register imm)) (Some (Jalr rd rs1 offset)) q) (same_Some made p e)
    (record {
      imm = imm;
      first_is = refl;
      upper_is = refl;
      rd = rd;
      offset = offset;
      second_is = ap (λ (r : ℕ). Some (Jalr rd r offset)) same;
      target_is = refl;
      not_zero = above;
    })
pair_jalr address register imm rd rs1 offset p false t e = absurd (none-some p e)

pair_second : (address register : ℕ) (imm : ℤ) (insn : Insn) (p : Pair) → pair_behind register (moved address imm) insn ≡ Some p
    → PairWords address (Some (Auipc register imm)) (Some insn) p
pair_second address register imm (Jalr rd rs1 offset) p e = pair_jalr address register imm rd rs1 offset p _ refl e
pair_second address register imm insn p e = absurd (none-some p e)

pair_both : (address : ℕ) (first second : Option Insn) (p : Pair) → pair_of address first second ≡ Some p → PairWords address first second p
pair_both address None second p e = absurd (none-some p e)
pair_both address (Some (Auipc register imm)) None p e = absurd (none-some p e)
pair_both address (Some (Auipc register imm)) (Some insn) p e = pair_second address register imm insn p e
pair_both address (Some first) second p e = absurd (none-some p e)

pub pair_words : (code : ℕ → Option Insn) (address : ℕ) (p : Pair) → pair_at code address ≡ Some p
    → PairWords (preceding address) (code (preceding address)) (code address) p
pair_words code address p e = pair_both (preceding address) (code (preceding address)) (code address) p e
