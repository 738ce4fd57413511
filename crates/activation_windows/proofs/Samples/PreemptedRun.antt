-- A declared run of the worked system `Preempted`: T is preempted behind its second instruction, and ends.
use Rattle.std.proofs.Common.{◌≡◌, ℕ, zero, suc, ◌↔◌, ℤ, pos, List, [], ◌∷◌, Bool, true, false, Option, Some, None, IsSome, refl, subst, arith, lit<, lit≤}
use Rattle.elf_image.specs.Image.{initial_byte}
use Rattle.rv32_decode.specs.declared.instruction.Insn.TheVariants.{Imm, Ecall}
use Rattle.rv32_decode.specs.declared.instruction.ImmOp.TheVariants.{Addi}
use Rattle.rv32_decode.specs.Instructions.{insn_of_word, insn_under, imm_of}
use Rattle.rv32_machine.specs.Registers.{zeros, value_of, with_value}
use Rattle.rv32_machine.proofs.ExecutionLaws.{zeros_are_registers}
use Rattle.rv32_machine.specs.Execution.{imm_result, following}
use Rattle.rv32_machine.specs.Code.{insn_at}
use Rattle.rv32_machine.specs.ContextStep.{Standing, ContextStep}
use Rattle.osek_kernel.specs.declared.context.Context.{Context}
use Rattle.osek_kernel.specs.declared.context.Context.TheVariants as contexts
use Rattle.osek_kernel.specs.declared.service.Service.TheVariants.{TerminateTask}
use Rattle.osek_kernel.specs.declared.service.Code.TheVariants.{Done}
use Rattle.osek_kernel.specs.declared.kernel.Kernel.{Kernel}
use Rattle.osek_kernel.specs.Contexts.{IsContext}
use Rattle.osek_kernel.specs.Kernel.{IsActive, activate, suspend}
use Rattle.osek_kernel.specs.Positions.{ArePositions, position_of}
use Rattle.osek_kernel.specs.Taken.{initial}
use Rattle.osek_machine.specs.State.{MachineState, standing_of, StandsAtEntry}
use Rattle.osek_machine.specs.Events.{Event, Arrive, Take, Execute, Serve}
use Rattle.osek_machine.specs.Runs.{IsInitial, IsRun}
use Rattle.osek_machine.specs.Declarations.{KeepsCosts, PairsReturns, IsDeclared}
use Rattle.activation_windows.specs.Counted.{IsDeclaredCase, IsUsed, closed_now}
use Rattle.activation_windows.specs.Bounds.{AreFor}
use Rattle.activation_windows.specs.Samples.Preempted.{plant, states, system, image, timing, uses_of_t}
use Rattle.activation_windows.specs.Samples.Words.{columns_at}
use Rattle.activation_windows.proofs.Samples.Preempted.{closed, once}
use Rattle.activation_windows.proofs.Samples.PreemptedPlant.{is_plant}

abbrev stands : ℕ → List ℕ → Standing
stands place registers = record { registers = registers; place = place; calls = [] }

abbrev start : MachineState
start = record {
  kernel = initial system 0;
  standings = Some (stands 0x100 zeros) ∷ None ∷ [];
  memory = initial_byte image.memory;
  pending = false ∷ [];
  moment = 0;
  last_start = 0;
}

-- ---- The code, decoded

first_t : insn_at image 0x100 ≡ Some (Imm Addi 5 0 (pos 7))
unfolding insn_at insn_of_word insn_under imm_of
first_t = refl

second_t : insn_at image 0x104 ≡ Some (Imm Addi 10 0 (pos 0))
unfolding insn_at insn_of_word insn_under imm_of
second_t = refl

third_t : insn_at image 0x108 ≡ Some (Imm Addi 17 0 (pos 2))
unfolding insn_at insn_of_word insn_under imm_of
third_t = refl

last_t : insn_at image 0x10c ≡ Some Ecall
unfolding insn_at insn_of_word insn_under
last_t = refl

first_h : insn_at image 0x110 ≡ Some (Imm Addi 10 0 (pos 0))
unfolding insn_at insn_of_word insn_under imm_of
first_h = refl

second_h : insn_at image 0x114 ≡ Some (Imm Addi 17 0 (pos 2))
unfolding insn_at insn_of_word insn_under imm_of
second_h = refl

last_h : insn_at image 0x118 ≡ Some Ecall
unfolding insn_at insn_of_word insn_under
last_h = refl

-- ---- The start

placed_at_start : (c : Context) → IsContext system c → IsSome (position_of system start.standings c) ↔ IsActive start.kernel c
placed_at_start (contexts.Task zero) h = (λ some. some, λ some. some)
placed_at_start (contexts.Task (suc zero)) h = (λ some. some, λ some. some)
placed_at_start (contexts.Task (suc (suc n))) h = absurd (omega arith)
placed_at_start (contexts.Isr n) h = absurd (omega arith)

positions : ArePositions system start.kernel start.standings
positions = record { count = refl; active = placed_at_start }

entries : (c : Context) (standing : Standing) → IsContext system c → standing_of system start c ≡ Some standing
    → StandsAtEntry image system c standing
entries (contexts.Task zero) standing h is =
    subst (λ s. StandsAtEntry image system (contexts.Task 0) s) (cc) (record { registers = zeros_are_registers; place = refl; calls = refl })
entries (contexts.Task (suc zero)) standing h is = cc
entries (contexts.Task (suc (suc n))) standing h is = absurd (omega arith)
entries (contexts.Isr n) standing h is = absurd (omega arith)

begins : IsInitial image system 0 start
begins = record {
  exists = lit< tt;
  kernel = refl;
  standings = positions;
  entries = entries;
  memory = refl;
  pending = refl;
  moment = refl;
  last_start = refl;
}

-- ---- The steps

abbrev t : Context
t = contexts.Task 0

abbrev h : Context
h = contexts.Task 1

abbrev executes : Context → Standing → Standing → Event
executes context before after = Execute (record { context = context; before = before; after = after; stored = None; device = 0; cycles = 1 })

abbrev calls : Context → Standing → Event
calls caller before = Serve
    (record { caller = caller; before = before; service = TerminateTask; reply = record { code = Done; misuse = false; ended = Some caller; activated = None }; registers = zeros; cycles = 20 })

-- `addi rd, zero, imm`
abbrev loads : (memory : ℕ → Option ℕ) (place rd : ℕ) (imm : ℤ) (registers : List ℕ) → insn_at image place ≡ Some (Imm Addi rd 0 imm)
    → ContextStep (insn_at image) 0 memory memory (stands place registers) (stands (following place) (with_value registers rd (imm_result Addi
    (value_of registers 0) imm)))
loads memory place rd imm registers fetched = record {
  insn = Imm Addi rd 0 imm;
  effect = record { registers = with_value registers rd (imm_result Addi (value_of registers 0) imm); stored = []; next = following place };
  fetched = fetched;
  does = refl;
  registers_are = refl;
  place_is = refl;
  calls_are = refl;
  memory_is = refl;
}

abbrev sevens : List ℕ
sevens = with_value zeros 5 7

-- t0 holds 7, and T asks for TerminateTask
abbrev asks : List ℕ
asks = with_value sevens 17 2

abbrev h_asks : List ℕ
h_asks = with_value zeros 17 2

abbrev pub state : ℕ → ℕ → List (Option Standing) → List Bool → Kernel → MachineState
state moment last_start standings pending kernel = record {
  kernel = kernel;
  standings = standings;
  memory = initial_byte image.memory;
  pending = pending;
  moment = moment;
  last_start = last_start;
}

abbrev alone : Kernel
alone = initial system 0

abbrev both : Kernel
both = activate alone 1

abbrev pub ended : Kernel
ended = suspend alone t

-- T runs alone for two cycles
abbrev two_steps : List Event
two_steps = executes t (stands 0x104 sevens) (stands 0x108 sevens) ∷ executes t (stands 0x100 zeros) (stands 0x104 sevens) ∷ []

two_made : IsRun image system 0 two_steps (state 2 1 (Some (stands 0x108 sevens) ∷ None ∷ []) (false ∷ []) alone)
two_made = (
  state 1 0 (Some (stands 0x104 sevens) ∷ None ∷ []) (false ∷ []) alone,
  (
    start,
    begins,
    record {
      running = refl;
      stands = refl;
      step = loads (initial_byte image.memory) 0x100 5
          (pos 7) zeros first_t;
      stored = refl;
      becomes = refl;
    },
  ),
  record { running = refl; stands = refl; step = loads (initial_byte image.memory) 0x104 10 (pos 0) sevens second_t; stored = refl; becomes = refl },
)

-- the alarm arrives at 2, and its task H preempts T from 32 to 54
abbrev alarm_taken : List Event
alarm_taken =
    Take (record { source = 0; started = Some h; registers = zeros; cycles = 30 })
    ∷ Arrive (record { source = 0; moment = 2 }) ∷ two_steps

alarm_made : IsRun image system 0 alarm_taken (state 32 2 (Some (stands 0x108 sevens) ∷ Some (stands 0x110 zeros) ∷ []) (false ∷ []) both)
alarm_made = (
  state 2 1 (Some (stands 0x108 sevens) ∷ None ∷ []) (true ∷ []) alone,
  (
    state 2 1 (Some (stands 0x108 sevens) ∷ None ∷ []) (false ∷ []) alone,
    two_made,
    record { live = refl; begun = lit≤ tt; past = lit≤ tt; becomes = refl },
  ),
  record { interrupts = refl; pending = refl; registers = zeros_are_registers; started = refl; becomes = refl },
)

abbrev h_ended : List Event
h_ended = calls h (stands 0x118 h_asks)
    ∷ executes h (stands 0x114 zeros) (stands 0x118 h_asks) ∷ executes h (stands 0x110 zeros) (stands 0x114 zeros) ∷ alarm_taken

h_made : IsRun image system 0 h_ended (state 54 34 (Some (stands 0x108 sevens) ∷ None ∷ []) (false ∷ []) alone)
h_made = (
  state 34 33 (Some (stands 0x108 sevens) ∷ Some (stands 0x118 h_asks) ∷ []) (false ∷ []) both,
  (
    state 33 32 (Some (stands 0x108 sevens) ∷ Some (stands 0x114 zeros) ∷ []) (false ∷ []) both,
    (
      state 32 2 (Some (stands 0x108 sevens) ∷ Some (stands 0x110 zeros) ∷ []) (false ∷ []) both,
      alarm_made,
      record { running = refl; stands = refl; step = loads (initial_byte image.memory) 0x110 10 (pos 0) zeros first_h; stored = refl; becomes = refl },
    ),
    record { running = refl; stands = refl; step = loads (initial_byte image.memory) 0x114 17 (pos 2) zeros second_h; stored = refl; becomes = refl },
  ),
  record { running = refl; stands = refl; fetched = last_h; service = refl; argument = refl; registers = zeros_are_registers; replied = refl; becomes = refl },
)

-- T goes on, and ends at 75
abbrev pub t_ended : List Event
t_ended = calls t (stands 0x10c asks) ∷ executes t (stands 0x108 sevens) (stands 0x10c asks) ∷ h_ended

t_made : IsRun image system 0 t_ended (state 75 55 (None ∷ None ∷ []) (false ∷ []) ended)
t_made = (
  state 55 54 (Some (stands 0x10c asks) ∷ None ∷ []) (false ∷ []) alone,
  (
    state 54 34 (Some (stands 0x108 sevens) ∷ None ∷ []) (false ∷ []) alone,
    h_made,
    record { running = refl; stands = refl; step = loads (initial_byte image.memory) 0x108 17 (pos 2) sevens third_t; stored = refl; becomes = refl },
  ),
  record { running = refl; stands = refl; fetched = last_t; service = refl; argument = refl; registers = zeros_are_registers; replied = refl; becomes = refl },
)

-- H lasts from 2 to 54, and T from 0 to 75
-- ---- The declarations

costs : KeepsCosts image system timing t_ended
costs = (
  lit≤ tt,
  (
    rw third_t (lit≤ tt),
    (
      lit≤ tt,
      (
        rw second_h (lit≤ tt),
        (
          rw first_h (lit≤ tt),
          (
            lit≤ tt,
            (
              tt,
              (
                rw second_t (lit≤ tt),
                (rw first_t (lit≤ tt), tt),
              ),
            ),
          ),
        ),
      ),
    ),
  ),
)

returns : PairsReturns image t_ended
returns = (tt, (rw third_t tt, (tt, (rw second_h tt, (rw first_h tt, (tt, (tt, (rw second_t tt, (rw first_t tt, tt)))))))))

declared : IsDeclared image system timing t_ended
declared = record {
  arrivals = (tt, (tt, (tt, (tt, (tt, (tt, (record { apart = tt; once = λ _. refl }, (tt, (tt, tt)))))))));
  returns = returns;
  code = (tt, (tt, (tt, (tt, (tt, (tt, (tt, (tt, (tt, tt)))))))));
  loops = (λ _. tt, (λ _. tt, (λ _. tt, (λ _. tt, (λ _. tt, (λ _. tt, (λ _. tt, (λ _. tt, (λ _. tt, tt)))))))));
  costs = costs;
}

-- ---- All that is asked of a plant, its states and a run

pub case_of_t : IsDeclaredCase plant states 0 0 t_ended (state 75 55 (None ∷ None ∷ []) (false ∷ []) ended)
case_of_t = record {
  of = record { belongs = is_plant; closed = closed; run = t_made; pairs = returns };
  declared = declared;
  once = once;
  exists = lit< tt;
}

pub task_t : AreFor plant states 0
task_t = record { belongs = is_plant; closed = closed; once = once; exists = lit< tt }

-- ---- What T's activation uses in this run

pub uses_of_t_are : IsUsed plant 0 0 t_ended (columns_at plant states 0 uses_of_t) 0
unfolding insn_at insn_of_word insn_under imm_of
uses_of_t_are =
    closed_now (calls t (stands 0x10c asks)) (executes t (stands 0x108 sevens) (stands 0x10c asks) ∷ h_ended)
    (columns_at plant states 0 uses_of_t) 0 refl refl
