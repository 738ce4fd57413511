-- What registers hold in a counted loop, word by word.
use Rattle.std.proofs.Common.{◌≡◌, ◌⊎◌, inl, inr, ℕ, zero, suc, ◌+◌, ◌-◌, ◌*◌, ◌/◌, ◌^◌, ◌<◌, ◌≤◌, ◌%◌, ℤ, pos, Bool, true, false, cond, List, [], ◌∷◌, length, Option, Some, None, refl, sym, ◌∙◌, ap, subst, arith}
use Rattle.std.specs.Prelude.{nat_eq, nat_le, ◌&&◌, ◌==◌, option_map}
use Rattle.std.specs.Option.{option_map_or}
use Rattle.std.proofs.lemmas.Bool.{eqb-true, eqb-false, leb-true, and_parts}
use Rattle.std.proofs.lemmas.Bool.Decides.{nat_tests}
use Rattle.std.proofs.lemmas.Option.{none-some, same_Some}
use Rattle.rv32_decode.specs.declared.instruction.BranchOp.{BranchOp}
use Rattle.rv32_decode.specs.declared.instruction.BranchOp.TheVariants.{Beq, Bne, Blt, Bge, Bltu, Bgeu}
use Rattle.rv32_decode.specs.declared.instruction.Insn.{Insn}
use Rattle.rv32_decode.specs.declared.instruction.Insn.TheVariants.{Branch, Imm}
use Rattle.rv32_decode.specs.Formats.{IsSigned}
use Rattle.rv32_decode.specs.Instructions.{class_of}
use Rattle.rv32_machine.specs.Code.{CodeFits}
use Rattle.rv32_machine.specs.ContextStep.{Standing, ContextStep}
use Rattle.rv32_machine.specs.Execution.{Effect, executed, following, moved, word_of, branch_holds, is_taken}
use Rattle.rv32_machine.specs.Places.{preceding}
use Rattle.rv32_machine.specs.Registers.{AreRegisters, value_of}
use Rattle.timing_file.specs.declared.timing.Loop.{Loop}
use Rattle.timing_file.specs.Lawful.{AreWords}
use Rattle.flow_graph.specs.declared.flow.Flow.{Flow}
use Rattle.counted_loops.specs.Counted.{IsCounted, in_loop}
use Rattle.counted_loops.specs.Rounds.{after_rounds, AreRounds}
use Rattle.counted_loops.specs.Words.{IsWordIn, IsPlainAt, is_plain, writes, writes_at, loads, adds}
use Rattle.counted_loops.proofs.Arithmetic.{word_sum, rounds_zero, rounds_more, ended_not_taken, last_fits}
use Rattle.counted_loops.proofs.Effects.{GoesOn, plain_goes_on, adds_up, loads_word}

-- A counted loop of aligned words, whose constants are signed numbers of 12 bits.
pub record IsSure (code : ℕ → Option Insn) (entries : List (Option ℕ)) (flow : Flow) (l : Loop) (bound : ℕ) : Type 0 where
  pub is : IsCounted code entries flow l bound
  pub words : AreWords l.from l.to
  pub registers : CodeFits code
  pub start : IsSigned 12 is.start
  pub step : IsSigned 12 is.step
  pub value : IsSigned 12 is.value

-- ---- What is known

-- The counter holds what it has after so many rounds: those gone round, and one more behind the word that counts.
pub record HasCounted {code : ℕ → Option Insn} {entries : List (Option ℕ)} {flow : Flow} {l : Loop} {bound : ℕ}
    (sure : IsSure code entries flow l bound) (place : ℕ) (registers : List ℕ) (laps : ℕ) : Type 0 where
  pub rounds : ℕ
  pub value_is : value_of registers sure.is.counter ≡ word_of (after_rounds sure.is.start sure.is.step rounds)
  pub before : place ≤ sure.is.counts.place → rounds ≡ laps
  pub behind : sure.is.counts.place < place → rounds ≡ suc laps

-- Directly before the loop the limit has its value, and in it the counter too.
pub record Knows {code : ℕ → Option Insn} {entries : List (Option ℕ)} {flow : Flow} {l : Loop} {bound : ℕ}
    (sure : IsSure code entries flow l bound) (place : ℕ) (registers : List ℕ) (laps : ℕ) : Type 0 where
  pub front : place ≡ preceding l.from → value_of registers sure.is.limit ≡ word_of sure.is.value
  pub limit : in_loop l place ≡ true → value_of registers sure.is.limit ≡ word_of sure.is.value
  pub counter : in_loop l place ≡ true → HasCounted sure place registers laps

-- ---- Words of the loop

-- the instruction there is the one that is executed
pub same_insn : (code : ℕ → Option Insn) (place : ℕ) (one other : Insn) → code place ≡ Some one → code place ≡ Some other → one ≡ other
same_insn code place one other a b = same_Some one other (sym a ∙ b)

writes_there : (code : ℕ → Option Insn) (register place : ℕ) (insn : Insn) (b : Bool) → code place ≡ Some insn → writes_at code register place ≡ b → writes register insn ≡ b
writes_there code register place insn b at is = sym (ap (λ (found : Option Insn). option_map_or (writes register) found false) at) ∙ is

-- x0 is 0 before and after
pub zero_kept : (q : ℕ) (regs regs' : List ℕ) → AreRegisters regs → AreRegisters regs' → q ≡ 0 → value_of regs' q ≡ value_of regs q
zero_kept q regs regs' are are' is = ap (value_of regs') is ∙ (are'.zero_first ∙ (sym are.zero_first ∙ ap (value_of regs) (sym is)))

pub record Steps (code : ℕ → Option Insn) (before after : Standing) : Type 0 where
  pub device : ℕ
  pub memory : ℕ → Option ℕ
  pub memory' : ℕ → Option ℕ
  pub step : ContextStep code device memory memory' before after
  pub from : AreRegisters before.registers
  pub to : AreRegisters after.registers

-- the next word of the loop
pub next_word : (place to : ℕ) → place < to → to < 2 ^ 32 → place % 4 ≡ 0 → to % 4 ≡ 0 → (following place ≡ place + 4) × (place + 4 ≤ to)
next_word place to less below aligned aligned' = (omega arith, omega arith)

pub inside_word : (l : Loop) (place : ℕ) → place % 4 ≡ 0 → in_loop l place ≡ true → (place ≡ l.to → ⊥) → IsWordIn l.from l.to place
inside_word l place aligned inside other =
    let parts = and_parts (nat_le l.from place) (nat_le place l.to) inside in
    record { low = leb-true l.from place parts.0; high = omega (arith, leb-true place l.to parts.1, other); aligned = aligned }

-- a word of the loop but the last one goes on
pub word_goes_on : {code : ℕ → Option Insn} {entries : List (Option ℕ)} {flow : Flow} {l : Loop} {bound : ℕ} (sure : IsSure code entries flow l bound)
    (before after : Standing) (steps : Steps code before after) → IsWordIn l.from l.to before.place
    → GoesOn steps.step.insn before.place before.registers steps.step.effect
word_goes_on {code} sure before after steps word =
    let at = sure.is.plain before.place word in
    let plain : is_plain (class_of steps.step.insn) ≡ true = subst (λ (i : Insn). is_plain (class_of i) ≡ true)
    (same_insn code before.place at.insn steps.step.insn at.decoded steps.step.fetched) at.plain in
    plain_goes_on steps.step.insn before.place before.registers steps.memory steps.device steps.step.effect plain steps.step.does

pub limit_kept : {code : ℕ → Option Insn} {entries : List (Option ℕ)} {flow : Flow} {l : Loop} {bound : ℕ} (sure : IsSure code entries flow l bound)
    (before after : Standing) (steps : Steps code before after) → IsWordIn l.from l.to before.place
    → value_of after.registers sure.is.limit ≡ value_of before.registers sure.is.limit
limit_kept {code} sure before after steps word = elim sure.is.keeps [
  | inl none ↦ zero_kept sure.is.limit before.registers after.registers steps.from steps.to none
  | inr never ↦ ap (λ (regs : List ℕ). value_of regs sure.is.limit) steps.step.registers_are
      ∙ (word_goes_on sure before after steps word).keeps sure.is.limit
      (writes_there code sure.is.limit before.place steps.step.insn false steps.step.fetched (never before.place word))
]

pub counter_above : {code : ℕ → Option Insn} {entries : List (Option ℕ)} {flow : Flow} {l : Loop} {bound : ℕ} (sure : IsSure code entries flow l bound)
    → (0 < sure.is.counter) × (sure.is.counter < 32)
counter_above {l = l} sure =
    let apart = sure.is.closes.counter_counts in
    (omega (arith, apart), (sure.registers.fits l.to _ sure.is.closes.branch).0)

-- the word that counts makes one round more
pub counts_on : {code : ℕ → Option Insn} {entries : List (Option ℕ)} {flow : Flow} {l : Loop} {bound : ℕ} (sure : IsSure code entries flow l bound)
    (before after : Standing) (steps : Steps code before after) (rounds : ℕ) → before.place ≡ sure.is.counts.place
    → value_of before.registers sure.is.counter ≡ word_of (after_rounds sure.is.start sure.is.step rounds)
    → value_of after.registers sure.is.counter ≡ word_of (after_rounds sure.is.start sure.is.step (suc rounds))
counts_on {code} sure before after steps rounds here value =
    let insn : steps.step.insn ≡ adds sure.is.counter sure.is.step =
    same_insn code before.place steps.step.insn (adds sure.is.counter sure.is.step) steps.step.fetched (ap code here ∙ sure.is.counts.counts) in
    let does : executed (adds sure.is.counter sure.is.step) before.place before.registers steps.memory steps.device ≡ Some steps.step.effect =
    subst (λ (i : Insn). executed i before.place before.registers steps.memory steps.device ≡ Some steps.step.effect) insn steps.step.does in
    let above = counter_above sure in
    ap (λ (regs : List ℕ). value_of regs sure.is.counter) steps.step.registers_are
    ∙ (adds_up sure.is.counter sure.is.counter sure.is.step before.place before.registers steps.memory steps.device steps.step.effect above.0 above.1 steps.from does
    ∙ (ap (λ (n : ℕ). (n + word_of sure.is.step) % 2 ^ 32) value
    ∙ (word_sum (after_rounds sure.is.start sure.is.step rounds) sure.is.step ∙ ap word_of (sym (rounds_more sure.is.start sure.is.step rounds)))))

-- every other word of the loop leaves the counter
pub counter_kept : {code : ℕ → Option Insn} {entries : List (Option ℕ)} {flow : Flow} {l : Loop} {bound : ℕ} (sure : IsSure code entries flow l bound)
    (before after : Standing) (steps : Steps code before after) → IsWordIn l.from l.to before.place → (before.place ≡ sure.is.counts.place → ⊥)
    → value_of after.registers sure.is.counter ≡ value_of before.registers sure.is.counter
counter_kept {code} sure before after steps word other =
    ap (λ (regs : List ℕ). value_of regs sure.is.counter) steps.step.registers_are
    ∙ (word_goes_on sure before after steps word).keeps sure.is.counter (never (writes_at code sure.is.counter before.place) refl)
  where
    never : (b : Bool) → writes_at code sure.is.counter before.place ≡ b → writes sure.is.counter steps.step.insn ≡ false
    never true e = absurd (other (sure.is.counts.alone before.place word e))
    never false e = writes_there code sure.is.counter before.place steps.step.insn false steps.step.fetched e
