-- The step of a context: what one instruction other than ECALL and EBREAK does to the registers, the
-- place and the open calls of the context that executes it, and to the memory that all contexts share.
use Rattle.std.specs.Prelude.{◌≡◌, ℕ, ◌-◌, ◌^◌, ◌<◌, ◌↔◌, IsTrue, List, [], ◌∷◌, ◌++◌, pos, length, take, slice_get, slice_set, Option, Some, None, if◌then◌else◌, ◌==◌, refl}
use Rattle.std.specs.Option.{option_map}
use Rattle.rv32_decode.specs.declared.instruction.Insn.{Insn}
use Rattle.rv32_decode.specs.declared.instruction.Insn.TheVariants.{Jal, Jalr}
use Rattle.rv32_machine.specs.declared.turns.Turn.{Turn}
use Rattle.rv32_machine.specs.declared.turns.Turn.TheVariants.{Calling, Returning}
use Rattle.rv32_machine.specs.declared.next.Stepped.{Stepped}
use Rattle.rv32_machine.specs.Registers.{AreRegisters, zeros}
use Rattle.rv32_machine.specs.Execution.{Effect, executed, following}
use Rattle.rv32_machine.specs.Memory.{after_stores}
use Rattle.rv32_machine.specs.Places.{pair_at, turn_of}
use Rattle.rv32_machine.specs.Steps.{span_of}

-- How a context stands: its registers, the address of its next instruction, and its open calls by the
-- addresses of the calls, the outermost first.
pub record Standing : Type 0 where
  pub registers : List ℕ
  pub place : ℕ
  pub calls : List ℕ

-- registers are registers, and the place an address
pub record StandingFits (standing : Standing) : Type 0 where
  pub registers_fit : AreRegisters standing.registers
  pub place_fits : standing.place < 2 ^ 32

-- A call at the address opens one, and a return closes the innermost one.
abbrev pub calls_after : Turn → ℕ → List ℕ → List ℕ
calls_after (Calling target) address calls = calls ++ address ∷ []
calls_after Returning address calls = take (length calls - 1) calls
calls_after turn address calls = calls

-- the address behind the innermost open call
abbrev pub return_place : List ℕ → Option ℕ
return_place calls = option_map following (slice_get calls (length calls - 1))

-- A return is paired where it goes behind the innermost open call; nothing else can be unpaired.
abbrev pub IsPaired : Turn → List ℕ → ℕ → Type 0
IsPaired Returning calls next = return_place calls ≡ Some next
IsPaired turn calls next = Unit {0}

-- The turn that a context takes from where it stands, by the instruction there.
abbrev pub turn_from : (ℕ → Option Insn) → Insn → Standing → Turn
turn_from code insn before = turn_of (pair_at code before.place) before.place insn

-- A step over the code from `before` to `after`, with the device's four bytes as one word, and the
-- memory before and after it.
pub record ContextStep (code : ℕ → Option Insn) (device : ℕ) (memory memory' : ℕ → Option ℕ) (before after : Standing) : Type 0 where
  pub insn : Insn
  pub effect : Effect
  pub fetched : code before.place ≡ Some insn
  pub does : executed insn before.place before.registers memory device ≡ Some effect
  pub registers_are : after.registers ≡ effect.registers
  pub place_is : after.place ≡ effect.next
  pub calls_are : after.calls ≡ calls_after (turn_from code insn before) before.place before.calls
  pub memory_is : memory' ≡ after_stores memory effect.stored

-- The step is no unpaired return.
abbrev pub KeepsReturns : {code : ℕ → Option Insn} {device : ℕ} {memory memory' : ℕ → Option ℕ} {before after : Standing}
    → ContextStep code device memory memory' before after → Type 0
KeepsReturns {code = code} {before = before} {after = after} step =
    IsPaired (turn_from code step.insn before) before.calls after.place

-- what one call of `step` answers of the step that it makes
pub record HasStepped (code : ℕ → Option Insn) (device : ℕ) (memory memory' : ℕ → Option ℕ) (before after : Standing) (answer : Stepped) : Type 0 where
  pub step : ContextStep code device memory memory' before after
  pub stored_is : answer.stored ≡ span_of step.effect.stored
  pub paired_is : IsTrue answer.paired ↔ KeepsReturns step

-- ---- Worked cases

-- jal ra, 0x20 at 0x100, and jalr zero, 0(ra) at 0x120
abbrev call_and_return : ℕ → Option Insn
call_and_return address =
    if address == 0x100 then Some (Jal 1 (pos 0x20)) else if address == 0x120 then Some (Jalr 0 1 (pos 0)) else None

abbrev nowhere : ℕ → Option ℕ
nowhere address = None

abbrev caller : Standing
caller = record { registers = zeros; place = 0x100; calls = [] }

abbrev callee : Standing
callee = record { registers = slice_set zeros 1 0x104; place = 0x120; calls = 0x100 ∷ [] }

abbrev returned : Standing
returned = record { registers = slice_set zeros 1 0x104; place = 0x104; calls = [] }

call_case : ContextStep call_and_return 0 nowhere nowhere caller callee
call_case = record {
  insn = Jal 1 (pos 0x20);
  effect = record { registers = slice_set zeros 1 0x104; stored = []; next = 0x120 };
  fetched = refl;
  does = refl;
  registers_are = refl;
  place_is = refl;
  calls_are = refl;
  memory_is = refl;
}

return_case : ContextStep call_and_return 0 nowhere nowhere callee returned
return_case = record {
  insn = Jalr 0 1 (pos 0);
  effect = record { registers = slice_set zeros 1 0x104; stored = []; next = 0x104 };
  fetched = refl;
  does = refl;
  registers_are = refl;
  place_is = refl;
  calls_are = refl;
  memory_is = refl;
}

-- the return goes behind the call
paired_case : IsPaired Returning callee.calls returned.place
paired_case = refl
