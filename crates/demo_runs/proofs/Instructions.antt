-- The instructions of a generated system: additions, branches and services. None of them returns, and none stores.
use Rattle.std.proofs.Common.{◌≡◌, ℕ, zero, suc, ◌+◌, ◌<◌, List, [], replicate, get_or, Bool, false, Option, Some, pos, sym, ap, ◌∙◌, subst, arith}
use Rattle.std.specs.Prelude.{option_map, IfSome}
use Rattle.std.specs.List.{AllByRecursion}
use Rattle.std.proofs.lemmas.Option.{none-some, same_Some, slice_get-get_or}
use Rattle.elf_image.specs.Image.{ImageData, meets_code}
use Rattle.rv32_decode.specs.declared.instruction.Insn.{Insn}
use Rattle.rv32_decode.specs.declared.instruction.Insn.TheVariants.{Lui, Auipc, Jal, Jalr, Branch, Load, Save, Imm, Reg, Fence, Ecall, Ebreak}
use Rattle.rv32_machine.specs.declared.next.Span.{Span}
use Rattle.rv32_machine.specs.ContextStep.{IsPaired}
use Rattle.rv32_machine.specs.Execution.{Effect, executed}
use Rattle.rv32_machine.specs.Places.{pair_at, turn_of, turn_at}
use Rattle.rv32_machine.specs.Steps.{span_of}
use Rattle.demo_gen.specs.declared.task.DemoTask.{DemoTask}
use Rattle.demo_gen.specs.Demo.{add, code_of, tail_of}
use Rattle.demo_gen.proofs.Ranges.{code_size}
use Rattle.demo_gen.proofs.Sets.{each_append}
use Rattle.demo_plants.proofs.CodeOf.{at, IsPlaced, each_at}

-- one of the kinds that tasks have
abbrev pub IsUsed : Insn → Type 0
IsUsed (Imm op rd rs1 imm) = Unit {0}
IsUsed (Branch op rs1 rs2 offset) = Unit {0}
IsUsed Ecall = Unit {0}
IsUsed (Lui rd imm) = ⊥
IsUsed (Auipc rd imm) = ⊥
IsUsed (Jal rd offset) = ⊥
IsUsed (Jalr rd rs1 offset) = ⊥
IsUsed (Load op rd rs1 offset) = ⊥
IsUsed (Save op rs1 rs2 offset) = ⊥
IsUsed (Reg op rd rs1 rs2) = ⊥
IsUsed (Fence rd rs1 imm) = ⊥
IsUsed Ebreak = ⊥

-- ---- The code of a task

steps_used : (steps : ℕ) → AllByRecursion IsUsed (replicate steps (add 5 5 (pos 1)))
steps_used zero = tt
steps_used (suc steps) = (tt, steps_used steps)

code_used : (task : DemoTask) → AllByRecursion IsUsed (code_of task)
code_used task = each_append IsUsed (replicate task.steps (add 5 5 (pos 1))) (tail_of task.bound) (steps_used task.steps) (tt, (tt, (tt, (tt, (tt, (tt, tt))))))

-- the instruction at a word of a placed task
pub used_at : (code : ℕ → Option Insn) (has : ℕ → Bool) (task : DemoTask) (place : ℕ) (insn : Insn) → IsPlaced code has task → place < task.steps + 6
    → code (at task place) ≡ Some insn → IsUsed insn
used_at code has task place insn placed below fetched =
    let there = slice_get-get_or (code_of task) place Ecall (omega (arith, code_size task, below)) in
    let found = get_or (code_of task) place Ecall in
    subst IsUsed (same_Some found insn (sym (placed.insn place found there) ∙ fetched)) (each_at IsUsed (code_of task) place found (code_used task) there)

-- ---- It returns from nowhere

turn_paired : (code : ℕ → Option Insn) (place : ℕ) (insn : Insn) (calls : List ℕ) (next : ℕ) → IsUsed insn → IsPaired (turn_of (pair_at code place) place insn) calls next
turn_paired code place (Imm op rd rs1 imm) calls next used = tt
turn_paired code place (Branch op rs1 rs2 offset) calls next used = tt
turn_paired code place Ecall calls next used = tt
turn_paired code place (Lui rd imm) calls next used = absurd used
turn_paired code place (Auipc rd imm) calls next used = absurd used
turn_paired code place (Jal rd offset) calls next used = absurd used
turn_paired code place (Jalr rd rs1 offset) calls next used = absurd used
turn_paired code place (Load op rd rs1 offset) calls next used = absurd used
turn_paired code place (Save op rs1 rs2 offset) calls next used = absurd used
turn_paired code place (Reg op rd rs1 rs2) calls next used = absurd used
turn_paired code place (Fence rd rs1 imm) calls next used = absurd used
turn_paired code place Ebreak calls next used = absurd used

pub used_paired : (code : ℕ → Option Insn) (place : ℕ) (insn : Insn) (calls : List ℕ) (next : ℕ) → code place ≡ Some insn → IsUsed insn
    → IfSome (turn_at code place) (λ turn. IsPaired turn calls next)
used_paired code place insn calls next fetched used =
    subst (λ (found : Option Insn). IfSome (option_map (turn_of (pair_at code place) place) found) (λ turn. IsPaired turn calls next)) (sym fetched)
    (turn_paired code place insn calls next used)

-- ---- It stores nothing

stores_none : (insn : Insn) (address : ℕ) (registers : List ℕ) (memory : ℕ → Option ℕ) (device : ℕ) (effect : Effect) → IsUsed insn
    → executed insn address registers memory device ≡ Some effect → effect.stored ≡ []
stores_none (Imm op rd rs1 imm) address registers memory device effect used does = sym (ap (λ (e : Effect). e.stored) (same_Some _ effect does))
stores_none (Branch op rs1 rs2 offset) address registers memory device effect used does = sym (ap (λ (e : Effect). e.stored) (same_Some _ effect does))
stores_none Ecall address registers memory device effect used does = absurd (none-some effect does)
stores_none (Lui rd imm) address registers memory device effect used does = absurd used
stores_none (Auipc rd imm) address registers memory device effect used does = absurd used
stores_none (Jal rd offset) address registers memory device effect used does = absurd used
stores_none (Jalr rd rs1 offset) address registers memory device effect used does = absurd used
stores_none (Load op rd rs1 offset) address registers memory device effect used does = absurd used
stores_none (Save op rs1 rs2 offset) address registers memory device effect used does = absurd used
stores_none (Reg op rd rs1 rs2) address registers memory device effect used does = absurd used
stores_none (Fence rd rs1 imm) address registers memory device effect used does = absurd used
stores_none Ebreak address registers memory device effect used does = absurd used

pub used_spares : (image : ImageData) (insn : Insn) (address : ℕ) (registers : List ℕ) (memory : ℕ → Option ℕ) (device : ℕ) (effect : Effect) (stored : Option Span)
    → IsUsed insn → executed insn address registers memory device ≡ Some effect → stored ≡ span_of effect.stored
    → IfSome stored (λ span. meets_code image span.address span.length ≡ false)
used_spares image insn address registers memory device effect stored used does is =
    subst (λ (span : Option Span). IfSome span (λ s. meets_code image s.address s.length ≡ false))
    (sym (is ∙ ap span_of (stores_none insn address registers memory device effect used does))) tt
