-- What is known stays known, step by step.
use Rattle.std.proofs.Common.{◌≡◌, ◌⊎◌, inl, inr, ℕ, zero, suc, ◌+◌, ◌-◌, ◌*◌, ◌/◌, ◌^◌, ◌<◌, ◌≤◌, ◌%◌, ℤ, pos, Bool, true, false, cond, List, [], ◌∷◌, length, Option, Some, None, refl, sym, ◌∙◌, ap, subst, arith}
use Rattle.std.specs.Prelude.{nat_eq, nat_le, ◌&&◌, ◌==◌, option_map}
use Rattle.std.proofs.lemmas.Bool.{eqb-true, eqb-false, eq-eqb, ne_eqb, leb-true, and_parts}
use Rattle.std.proofs.lemmas.Bool.Decides.{nat_tests}
use Rattle.std.proofs.lemmas.Int.{ints}
use Rattle.std.proofs.lemmas.Option.{none-some, same_Some}
use Rattle.rv32_decode.specs.declared.instruction.BranchOp.{BranchOp}
use Rattle.rv32_decode.specs.declared.instruction.BranchOp.TheVariants.{Beq, Bne, Blt, Bge, Bltu, Bgeu}
use Rattle.rv32_decode.specs.declared.instruction.Insn.{Insn}
use Rattle.rv32_decode.specs.declared.instruction.Insn.TheVariants.{Branch, Imm}
use Rattle.rv32_decode.specs.Formats.{IsSigned}
use Rattle.rv32_machine.specs.ContextStep.{Standing, ContextStep}
use Rattle.rv32_machine.specs.Execution.{Effect, executed, following, moved, word_of, branch_holds, is_taken}
use Rattle.rv32_machine.specs.Places.{preceding}
use Rattle.rv32_machine.specs.Registers.{AreRegisters, value_of}
use Rattle.timing_file.specs.declared.timing.Loop.{Loop}
use Rattle.osek_machine.specs.Loops.{laps_after}
use Rattle.flow_graph.specs.declared.flow.Flow.{Flow}
use Rattle.counted_loops.specs.Counted.{IsCounted, in_loop}
use Rattle.counted_loops.specs.Rounds.{after_rounds, AreRounds}
use Rattle.counted_loops.specs.Words.{IsWordIn, writes, loads, adds}
use Rattle.counted_loops.proofs.Arithmetic.{rounds_zero, ended_not_taken, last_fits}
use Rattle.counted_loops.proofs.Effects.{GoesOn, plain_goes_on, loads_word}
use Rattle.counted_loops.proofs.Knowing.{IsSure, HasCounted, Knows, Steps, same_insn, next_word, inside_word, zero_kept, word_goes_on, limit_kept, counter_above, counts_on, counter_kept}

pub is_in : (from to place : ℕ) → from ≤ place → place ≤ to → nat_le from place && nat_le place to ≡ true
is_in from to place low high = grind (arith, nat_tests)

not_in : (from to place : ℕ) → to < place → nat_le from place && nat_le place to ≡ true → ⊥
not_in from to place above inside = let high = leb-true place to (and_parts (nat_le from place) (nat_le place to) inside).1 in omega arith

-- ---- A word of the loop but the last one

place_after : {code : ℕ → Option Insn} {entries : List (Option ℕ)} {flow : Flow} {l : Loop} {bound : ℕ} (sure : IsSure code entries flow l bound)
    (before after : Standing) (steps : Steps code before after) → IsWordIn l.from l.to before.place
    → (after.place ≡ before.place + 4) × (before.place + 4 ≤ l.to)
place_after {l = l} sure before after steps word =
    let next = next_word before.place l.to word.high sure.words.below word.aligned sure.words.to_aligned in
    (steps.step.place_is ∙ ((word_goes_on sure before after steps word).next ∙ next.0), next.1)

counted_after : {code : ℕ → Option Insn} {entries : List (Option ℕ)} {flow : Flow} {l : Loop} {bound : ℕ} (sure : IsSure code entries flow l bound)
    (before after : Standing) (steps : Steps code before after) → IsWordIn l.from l.to before.place → (laps : ℕ)
    → HasCounted sure before.place before.registers laps → HasCounted sure after.place after.registers laps
counted_after {l = l} sure before after steps word laps had = by (nat_eq before.place sure.is.counts.place) refl
  where
    next : (after.place ≡ before.place + 4) × (before.place + 4 ≤ l.to)
    next = place_after sure before after steps word

    aligned : sure.is.counts.place % 4 ≡ 0
    aligned = sure.is.counts.inside.aligned

    by : (here : Bool) → nat_eq before.place sure.is.counts.place ≡ here → HasCounted sure after.place after.registers laps
    by true e =
        let same = eqb-true before.place sure.is.counts.place e in
        let so_far : had.rounds ≡ laps = had.before (omega (arith, same)) in
        record {
          rounds = suc had.rounds;
          value_is = counts_on sure before after steps had.rounds same had.value_is;
          before = λ h. absurd (omega (arith, h, next.0, same));
          behind = λ h. ap suc so_far;
        }
    by false e =
        let other = eqb-false before.place sure.is.counts.place e in
        let start : before.place % 4 ≡ 0 = word.aligned in
        record {
          rounds = had.rounds;
          value_is = counter_kept sure before after steps word other ∙ had.value_is;
          before = λ h. had.before (omega (arith, h, next.0));
          behind = λ h. had.behind (omega (arith, h, next.0, other, start, aligned));
        }

pub inside_knows : {code : ℕ → Option Insn} {entries : List (Option ℕ)} {flow : Flow} {l : Loop} {bound : ℕ} (sure : IsSure code entries flow l bound)
    (before after : Standing) (steps : Steps code before after) → IsWordIn l.from l.to before.place → (laps : ℕ)
    → Knows sure before.place before.registers laps → Knows sure after.place after.registers laps
inside_knows {l = l} sure before after steps word laps knows =
    let here : in_loop l before.place ≡ true = is_in l.from l.to before.place word.low (let high = word.high in omega arith) in
    let limit = limit_kept sure before after steps word ∙ knows.limit here in
    record {
      front = λ h. limit;
      limit = λ h. limit;
      counter = λ h. counted_after sure before after steps word laps (knows.counter here);
    }

-- it doesn't lead to the loop's front again
pub inside_goes_on : {code : ℕ → Option Insn} {entries : List (Option ℕ)} {flow : Flow} {l : Loop} {bound : ℕ} (sure : IsSure code entries flow l bound)
    (before after : Standing) (steps : Steps code before after) → IsWordIn l.from l.to before.place → after.place ≡ l.from → ⊥
inside_goes_on sure before after steps word back =
    let next = place_after sure before after steps word in
    let low = word.low in
    omega (arith, back, next.0)

-- ---- The last word

-- what a branch leaves
record Branches (op : BranchOp) (rs1 rs2 : ℕ) (offset : ℤ) (before after : Standing) : Type 0 where
  registers : after.registers ≡ before.registers
  place : after.place ≡ cond (branch_holds op rs1 rs2 before.registers) (moved before.place offset) (following before.place)

branches : (code : ℕ → Option Insn) (before after : Standing) (steps : Steps code before after) (op : BranchOp) (rs1 rs2 : ℕ) (offset : ℤ)
    → code before.place ≡ Some (Branch op rs1 rs2 offset) → Branches op rs1 rs2 offset before after
branches code before after steps op rs1 rs2 offset at =
    let insn = same_insn code before.place steps.step.insn (Branch op rs1 rs2 offset) steps.step.fetched at in
    let does : executed (Branch op rs1 rs2 offset) before.place before.registers steps.memory steps.device ≡ Some steps.step.effect =
    subst (λ (i : Insn). executed i before.place before.registers steps.memory steps.device ≡ Some steps.step.effect) insn steps.step.does in
    let effect = same_Some _ steps.step.effect does in
    record {
      registers = steps.step.registers_are ∙ ap (λ (e : Effect). e.registers) (sym effect);
      place = steps.step.place_is ∙ ap (λ (e : Effect). e.next) (sym effect);
    }

-- the word behind the loop isn't in it
past_end : {code : ℕ → Option Insn} {entries : List (Option ℕ)} {flow : Flow} {l : Loop} {bound : ℕ} (sure : IsSure code entries flow l bound)
    → in_loop l (following l.to) ≡ true → ⊥
past_end {code} {l = l} sure inside =
    let parts = and_parts (nat_le l.from (following l.to)) (nat_le (following l.to) l.to) inside in
    let low = leb-true l.from (following l.to) parts.0 in
    let high = leb-true (following l.to) l.to parts.1 in
    let below : l.to < 2 ^ 32 = sure.words.below in
    let aligned : l.to % 4 ≡ 0 = sure.words.to_aligned in
    let wraps : preceding l.from ≡ l.to = omega (arith, low, high, below, aligned) in
    let both : Some (Branch sure.is.op sure.is.counter sure.is.limit sure.is.closes.offset) ≡ Some (loads sure.is.counter sure.is.start) =
    sym sure.is.closes.branch ∙ (ap code (sym wraps) ∙ sure.is.starts) in
    cc both

-- ---- Rounds

ended_at : {code : ℕ → Option Insn} {entries : List (Option ℕ)} {flow : Flow} {l : Loop} {bound : ℕ} (sure : IsSure code entries flow l bound) (regs : List ℕ)
    → value_of regs sure.is.counter ≡ word_of (after_rounds sure.is.start sure.is.step (suc bound))
    → value_of regs sure.is.limit ≡ word_of sure.is.value → branch_holds sure.is.op sure.is.counter sure.is.limit regs ≡ false
ended_at {bound = bound} sure regs counter limit =
    ap (λ (n : ℕ). is_taken sure.is.op n (value_of regs sure.is.limit)) counter
    ∙ (ap (is_taken sure.is.op (word_of (after_rounds sure.is.start sure.is.step (suc bound)))) limit
    ∙ ended_not_taken sure.is.op (after_rounds sure.is.start sure.is.step (suc bound)) sure.is.value sure.is.rounds.first.holds
    (λ up. last_fits sure.is.start sure.is.step sure.is.value bound
    (subst (λ op. AreRounds op sure.is.start sure.is.step sure.is.value (suc bound)) up sure.is.rounds) sure.start sure.step sure.value)
    (wide sure.is.value sure.value))
  where
    wide : (z : ℤ) → IsSigned 12 z → IsSigned 32 z
    wide z fits = (omega (arith, ints, fits), omega (arith, ints, fits))

-- a branch that is taken begins one lap more, and these are at most the bound
taken_below : {code : ℕ → Option Insn} {entries : List (Option ℕ)} {flow : Flow} {l : Loop} {bound : ℕ} (sure : IsSure code entries flow l bound) (regs : List ℕ) (laps : ℕ)
    → HasCounted sure l.to regs laps → value_of regs sure.is.limit ≡ word_of sure.is.value → branch_holds sure.is.op sure.is.counter sure.is.limit regs ≡ true
    → laps ≤ bound → suc laps ≤ bound
taken_below {l = l} {bound = bound} sure regs laps had limit holds most = by (nat_eq laps bound) refl
  where
    rounds : had.rounds ≡ suc laps
    rounds = had.behind sure.is.counts.inside.high

    by : (last : Bool) → nat_eq laps bound ≡ last → suc laps ≤ bound
    by false e = let other = eqb-false laps bound e in omega arith
    by true e =
        let same = eqb-true laps bound e in
        let counter : value_of regs sure.is.counter ≡ word_of (after_rounds sure.is.start sure.is.step (suc bound)) =
        had.value_is ∙ ap (λ n. word_of (after_rounds sure.is.start sure.is.step n)) (rounds ∙ ap suc same) in
        absurd (let ended = ended_at sure regs counter limit in cc)

-- ---- Laps

pub lap_other : (l : Loop) (a b laps : ℕ) → in_loop l a ≡ true → (b ≡ l.from → ⊥) → laps_after l a b laps ≡ laps
lap_other l a b laps inside other =
    ap (λ (t : Bool). cond t (cond (b == l.from) (laps + 1) laps) 0) inside ∙ ap (λ (t : Bool). cond t (laps + 1) laps) (ne_eqb b l.from other)

pub lap_back : (l : Loop) (a b laps : ℕ) → in_loop l a ≡ true → b ≡ l.from → laps_after l a b laps ≡ suc laps
lap_back l a b laps inside back =
    ap (λ (t : Bool). cond t (cond (b == l.from) (laps + 1) laps) 0) inside
    ∙ (ap (λ (t : Bool). cond t (laps + 1) laps) (eq-eqb b l.from back) ∙ omega arith)

pub lap_outside : (l : Loop) (a b laps : ℕ) → in_loop l a ≡ false → laps_after l a b laps ≡ 0
lap_outside l a b laps outside = ap (λ (t : Bool). cond t (cond (b == l.from) (laps + 1) laps) 0) outside

-- ---- A step from a word of the loop

-- what is known and how many laps there are, after a step of an invocation
pub record Kept {code : ℕ → Option Insn} {entries : List (Option ℕ)} {flow : Flow} {l : Loop} {bound : ℕ}
    (sure : IsSure code entries flow l bound) (after : Standing) (laps : ℕ) : Type 0 where
  pub knows : Knows sure after.place after.registers laps
  pub most : laps ≤ bound

branch_kept : {code : ℕ → Option Insn} {entries : List (Option ℕ)} {flow : Flow} {l : Loop} {bound : ℕ} (sure : IsSure code entries flow l bound)
    (before after : Standing) (steps : Steps code before after) → before.place ≡ l.to → (laps : ℕ)
    → Knows sure before.place before.registers laps → laps ≤ bound → Kept sure after (laps_after l before.place after.place laps)
branch_kept {code} {l = l} {bound = bound} sure before after steps here laps knows most = by (branch_holds sure.is.op sure.is.counter sure.is.limit before.registers) refl
  where
    inside : in_loop l before.place ≡ true
    inside = ap (in_loop l) here ∙ is_in l.from l.to l.to sure.words.order (let same : l.to ≡ l.to = refl in omega arith)

    goes : Branches sure.is.op sure.is.counter sure.is.limit sure.is.closes.offset before after
    goes = branches code before after steps sure.is.op sure.is.counter sure.is.limit sure.is.closes.offset (ap code here ∙ sure.is.closes.branch)

    limit : value_of after.registers sure.is.limit ≡ word_of sure.is.value
    limit = ap (λ (regs : List ℕ). value_of regs sure.is.limit) goes.registers ∙ knows.limit inside

    had : HasCounted sure l.to before.registers laps
    had = subst (λ place. HasCounted sure place before.registers laps) here (knows.counter inside)

    back : after.place ≡ l.from → HasCounted sure after.place after.registers (suc laps)
    back at = record {
      rounds = had.rounds;
      value_is = ap (λ (regs : List ℕ). value_of regs sure.is.counter) goes.registers ∙ had.value_is;
      before = λ h. had.behind sure.is.counts.inside.high;
      behind = λ h. absurd (let low = sure.is.counts.inside.low in omega (arith, h, at, low));
    }

    by : (holds : Bool) → branch_holds sure.is.op sure.is.counter sure.is.limit before.registers ≡ holds → Kept sure after (laps_after l before.place after.place laps)
    by true e =
        let at : after.place ≡ l.from = goes.place ∙ (ap (λ (t : Bool). cond t (moved before.place sure.is.closes.offset) (following before.place)) e
        ∙ (ap (λ (a : ℕ). moved a sure.is.closes.offset) here ∙ sure.is.closes.back)) in
        let count = lap_back l before.place after.place laps inside at in
        subst (Kept sure after) (sym count) (record {
          knows = record { front = λ h. limit; limit = λ h. limit; counter = λ h. back at };
          most = taken_below sure before.registers laps had (knows.limit inside) e most;
        })
    by false e =
        let at : after.place ≡ following l.to =
        goes.place ∙ (ap (λ (t : Bool). cond t (moved before.place sure.is.closes.offset) (following before.place)) e ∙ ap following here) in
        let left : in_loop l after.place ≡ true → ⊥ = λ h. past_end sure (sym (ap (in_loop l) at) ∙ h) in
        let low : l.from ≤ l.to = sure.words.order in
        let other : after.place ≡ l.from → ⊥ = λ h. left (ap (in_loop l) h ∙ is_in l.from l.to l.from (omega arith) low) in
        subst (Kept sure after) (sym (lap_other l before.place after.place laps inside other)) (record {
          knows = record { front = λ h. limit; limit = λ h. limit; counter = λ h. absurd (left h) };
          most = most;
        })

pub from_inside : {code : ℕ → Option Insn} {entries : List (Option ℕ)} {flow : Flow} {l : Loop} {bound : ℕ} (sure : IsSure code entries flow l bound)
    (before after : Standing) (steps : Steps code before after) → before.place % 4 ≡ 0 → in_loop l before.place ≡ true → (laps : ℕ)
    → Knows sure before.place before.registers laps → laps ≤ bound → Kept sure after (laps_after l before.place after.place laps)
from_inside {l = l} sure before after steps aligned inside laps knows most = by (nat_eq before.place l.to) refl
  where
    by : (last : Bool) → nat_eq before.place l.to ≡ last → Kept sure after (laps_after l before.place after.place laps)
    by true e = branch_kept sure before after steps (eqb-true before.place l.to e) laps knows most
    by false e =
        let word = inside_word l before.place aligned inside (eqb-false before.place l.to e) in
        subst (Kept sure after) (sym (lap_other l before.place after.place laps inside (inside_goes_on sure before after steps word)))
        (record { knows = inside_knows sure before after steps word laps knows; most = most })

-- ---- A step into the loop, or to the word before it

-- the word before the loop loads the counter
pub into_front : {code : ℕ → Option Insn} {entries : List (Option ℕ)} {flow : Flow} {l : Loop} {bound : ℕ} (sure : IsSure code entries flow l bound)
    (before after : Standing) (steps : Steps code before after) → before.place ≡ preceding l.from → after.place ≡ l.from → (laps : ℕ)
    → Knows sure before.place before.registers laps → Knows sure after.place after.registers 0
into_front {code} {l = l} sure before after steps from to laps knows =
    let at : code before.place ≡ Some (loads sure.is.counter sure.is.start) = ap code from ∙ sure.is.starts in
    let insn = same_insn code before.place steps.step.insn (loads sure.is.counter sure.is.start) steps.step.fetched at in
    let does : executed (loads sure.is.counter sure.is.start) before.place before.registers steps.memory steps.device ≡ Some steps.step.effect =
    subst (λ (i : Insn). executed i before.place before.registers steps.memory steps.device ≡ Some steps.step.effect) insn steps.step.does in
    let above = counter_above sure in
    let goes = plain_goes_on (loads sure.is.counter sure.is.start) before.place before.registers steps.memory steps.device steps.step.effect refl does in
    let apart = sure.is.closes.apart in
    let limit : value_of after.registers sure.is.limit ≡ word_of sure.is.value =
    ap (λ (regs : List ℕ). value_of regs sure.is.limit) steps.step.registers_are
    ∙ (goes.keeps sure.is.limit (ne_eqb sure.is.limit sure.is.counter (λ e. apart (sym e))) ∙ knows.front from) in
    record {
      front = λ h. limit;
      limit = λ h. limit;
      counter = λ h. record {
        rounds = 0;
        value_is = ap (λ (regs : List ℕ). value_of regs sure.is.counter) steps.step.registers_are
            ∙ (loads_word sure.is.counter sure.is.start before.place before.registers steps.memory steps.device steps.step.effect above.0 above.1 steps.from does
            ∙ ap word_of (sym (rounds_zero sure.is.start sure.is.step)));
        before = λ i. refl;
        behind = λ i. absurd (let low = sure.is.counts.inside.low in omega (arith, i, to, low));
      };
    }
