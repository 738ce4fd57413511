-- What an instruction is by the instructions around it: the three words that call the kernel, the two
-- words of a far jump or call, calls, returns, and so where the processor turns from there.
-- All of it is said over `code`, the decoded instruction at each address or none. Addresses are below
-- 2 ^ 32, and their sums wrap.
use Rattle.std.specs.Prelude.{◌≡◌, ℕ, ◌+◌, ◌-◌, ◌%◌, ◌^◌, ℤ, pos, negsuc, Bool, true, false, ◌&&◌, ◌||◌, ◌==◌, nat_lt, Option, Some, None, is_some, option_and_then, if◌then◌else◌, refl}
use Rattle.std.specs.Option.{option_map, option_map_or}
use Rattle.rv32_decode.specs.declared.instruction.Insn.{Insn}
use Rattle.rv32_decode.specs.declared.instruction.Insn.TheVariants.{Auipc, Jal, Jalr, Branch, Imm, Ecall, Ebreak}
use Rattle.rv32_decode.specs.declared.instruction.ImmOp.TheVariants.{Addi}
use Rattle.rv32_machine.specs.declared.turns.Pair.{Pair}
use Rattle.rv32_machine.specs.declared.turns.ServiceAt.{ServiceAt}
use Rattle.rv32_machine.specs.declared.turns.Turn.{Turn}
use Rattle.rv32_machine.specs.declared.turns.Turn.TheVariants.{Onward, Branching, Jumping, Calling, Returning, Serving, Indirect, Breaking}
use Rattle.rv32_machine.specs.Execution.{word_of, moved, jump_target, following}

-- the address of the word before; `following` has that of the word behind
abbrev pub preceding : ℕ → ℕ
preceding address = (address + (2 ^ 32 - 4)) % 2 ^ 32

-- ---- Services: `addi a0, zero, argument`, then `addi a7, zero, number`, then `ecall`

-- the word that `addi register, zero, imm` loads
abbrev pub constant_in : ℕ → Insn → Option ℕ
constant_in register (Imm Addi rd rs1 imm) = if (rd == register) && (rs1 == 0) then Some (word_of imm) else None
constant_in register insn = None

abbrev pub service_of : Option ℕ → Option ℕ → Option Insn → Option ServiceAt
service_of (Some argument) (Some number) (Some Ecall) = Some (record { number = number; argument = argument })
service_of argument number insn = None

-- The service whose third word stands at the address.
abbrev pub service_at : (ℕ → Option Insn) → ℕ → Option ServiceAt
service_at code address =
    service_of
    (option_and_then (constant_in 10) (code (preceding (preceding address))))
    (option_and_then (constant_in 17) (code (preceding address)))
    (code address)

-- ---- Pairs: `auipc r, hi`, then `jalr zero, lo(r)` or `jalr ra, lo(r)`, where r isn't zero

-- the pair that `jalr` makes with the upper value in the register before it
abbrev pub pair_behind : ℕ → ℕ → Insn → Option Pair
pair_behind register upper (Jalr rd rs1 offset) =
    if nat_lt 0 register && (rs1 == register) && nat_lt rd 2
    then Some (record { register = register; upper = upper; target = jump_target upper offset })
    else None
pair_behind register upper insn = None

-- the pair of the word at the address and the word behind it
abbrev pub pair_of : ℕ → Option Insn → Option Insn → Option Pair
pair_of address (Some (Auipc register imm)) (Some second) = pair_behind register (moved address imm) second
pair_of address first second = None

-- The pair whose second word stands at the address.
abbrev pub pair_at : (ℕ → Option Insn) → ℕ → Option Pair
pair_at code address = pair_of (preceding address) (code (preceding address)) (code address)

-- The second and the third word of a service and the second word of a pair: what they do is known only
-- where the words before them were executed.
abbrev pub is_middle : (ℕ → Option Insn) → ℕ → Bool
is_middle code address =
    is_some (service_at code (following address)) || is_some (service_at code address) || is_some (pair_at code address)

-- ---- Turns

-- to a known target, without a way back or with the way back in ra
abbrev pub linked : ℕ → ℕ → Turn
linked rd target = if rd == 0 then Jumping target else if rd == 1 then Calling target else Indirect

-- `jalr`, as the second word of a pair or alone, where it is a return or goes nobody knows where
abbrev pub jalr_turn : Option Pair → ℕ → ℕ → ℤ → Turn
jalr_turn (Some pair) rd rs1 offset = linked rd pair.target
jalr_turn None rd rs1 offset =
    if (rd == 0) && (rs1 == 1) && (word_of offset == 0) then Returning else Indirect

-- where the processor turns behind an instruction at the address, with the pair that ends there
abbrev pub turn_of : Option Pair → ℕ → Insn → Turn
turn_of pair address (Jal rd offset) = linked rd (moved address offset)
turn_of pair address (Jalr rd rs1 offset) = jalr_turn pair rd rs1 offset
turn_of pair address (Branch op rs1 rs2 offset) = Branching (moved address offset)
turn_of pair address Ecall = Serving
turn_of pair address Ebreak = Breaking
turn_of pair address insn = Onward

-- The turn of the instruction at the address, where there is one.
abbrev pub turn_at : (ℕ → Option Insn) → ℕ → Option Turn
turn_at code address = option_map (turn_of (pair_at code address) address) (code address)

abbrev pub called : Turn → Option ℕ
called (Calling target) = Some target
called turn = None

abbrev pub is_return : Turn → Bool
is_return Returning = true
is_return turn = false

-- The target of the call that stands at the address, and whether a return stands there.
abbrev pub call_at : (ℕ → Option Insn) → ℕ → Option ℕ
call_at code address = option_and_then called (turn_at code address)

abbrev pub return_at : (ℕ → Option Insn) → ℕ → Bool
return_at code address = option_map_or is_return (turn_at code address) false

-- ---- Worked cases

-- at 0: auipc ra, 0x1000; jalr ra, -1(ra); jalr zero, 0(ra)
abbrev far_call : ℕ → Option Insn
far_call address =
    if address == 0 then Some (Auipc 1 (pos 0x1000))
    else if address == 4 then Some (Jalr 1 1 (negsuc 0))
    else if address == 8 then Some (Jalr 0 1 (pos 0))
    else None

-- the second word calls 0xffe, and is a middle word; the third one returns
call_case : call_at far_call 4 ≡ Some 0xffe
call_case = refl

middle_case : is_middle far_call 4 ≡ true
middle_case = refl

return_case : return_at far_call 8 ≡ true
return_case = refl

-- behind `auipc ra` the same `jalr zero, 0(ra)` is a jump
abbrev far_jump : ℕ → Option Insn
far_jump address =
    if address == 0xfffffffc then Some (Auipc 1 (pos 0x1000))
    else if address == 0 then Some (Jalr 0 1 (pos 0))
    else None

jump_case : turn_at far_jump 0 ≡ Some (Jumping 0xffc)
jump_case = refl

-- li a0, -1; li a7, 2; ecall
abbrev terminate : ℕ → Option Insn
terminate address =
    if address == 0x100 then Some (Imm Addi 10 0 (negsuc 0))
    else if address == 0x104 then Some (Imm Addi 17 0 (pos 2))
    else if address == 0x108 then Some Ecall
    else None

service_case : service_at terminate 0x108 ≡ Some (record { number = 2; argument = 0xffffffff })
service_case = refl

second_case : is_middle terminate 0x104 ≡ true
second_case = refl

first_case : is_middle terminate 0x100 ≡ false
first_case = refl
