-- Services and starts of contexts stand outside of counted loops.
use Rattle.std.proofs.Common.{◌≡◌, ◌⊎◌, inl, inr, ℕ, zero, suc, ◌+◌, ◌-◌, ◌^◌, ◌<◌, ◌≤◌, ◌%◌, ℤ, pos, Bool, true, false, cond, List, [], ◌∷◌, length, Option, Some, None, refl, sym, ◌∙◌, ap, subst, arith}
use Rattle.std.specs.Prelude.{nat_eq, ◌==◌, IfSome, slice_get}
use Rattle.std.proofs.lemmas.Bool.{eqb-true, eqb-false, eq-eqb}
use Rattle.rv32_decode.specs.declared.instruction.Insn.{Insn}
use Rattle.rv32_decode.specs.declared.instruction.Insn.TheVariants.{Branch, Ecall}
use Rattle.rv32_decode.specs.Instructions.{class_of}
use Rattle.rv32_machine.specs.ContextStep.{Standing}
use Rattle.rv32_machine.specs.Execution.{word_of}
use Rattle.rv32_machine.specs.Places.{preceding}
use Rattle.rv32_machine.specs.Registers.{AreRegisters, value_of}
use Rattle.timing_file.specs.declared.timing.Loop.{Loop}
use Rattle.osek_machine.specs.Loops.{begun, moved_on}
use Rattle.flow_graph.specs.declared.flow.Flow.{Flow}
use Rattle.wcet_atomic_blocks.proofs.GraphFacts.{at_slice}
use Rattle.counted_loops.specs.Counted.{BeginsNowhere, HasLimit, LimitIsLoaded, in_loop}
use Rattle.counted_loops.specs.Words.{is_plain, loads}
use Rattle.counted_loops.proofs.Knowing.{IsSure, Knows, inside_word}
use Rattle.counted_loops.proofs.Going.{is_in}
use Rattle.counted_loops.proofs.Turning.{AtMost, KnowsHead, Holds, IsAlong, enters, head_outside, moved_outside, zero_known}

-- ---- Services

-- no ECALL stands in the loop, nor where a constant is loaded
no_ecall : {code : ℕ → Option Insn} {entries : List (Option ℕ)} {flow : Flow} {l : Loop} {bound : ℕ} (sure : IsSure code entries flow l bound)
    (place : ℕ) → place % 4 ≡ 0 → code place ≡ Some Ecall → in_loop l place ≡ true → ⊥
no_ecall {code} {l = l} sure place aligned at inside = by (nat_eq place l.to) refl
  where
    by : (last : Bool) → nat_eq place l.to ≡ last → ⊥
    by true e =
        let both : Some Ecall ≡ Some (Branch sure.is.op sure.is.counter sure.is.limit sure.is.closes.offset) =
        sym at ∙ (ap code (eqb-true place l.to e) ∙ sure.is.closes.branch) in
        cc both
    by false e =
        let plain = sure.is.plain place (inside_word l place aligned inside (eqb-false place l.to e)) in
        let same : Some Ecall ≡ Some plain.insn = sym at ∙ plain.decoded in
        let wrong : is_plain (class_of Ecall) ≡ true =
        subst (λ (i : Insn). is_plain (class_of i) ≡ true) (let one : plain.insn ≡ Ecall = cc same in one) plain.plain in
        cc wrong

no_load : (code : ℕ → Option Insn) (place other register : ℕ) (value : ℤ) → code place ≡ Some Ecall → place ≡ other → code other ≡ Some (loads register value) → ⊥
no_load code place other register value at same loaded =
    let both : Some Ecall ≡ Some (loads register value) = sym at ∙ (ap code same ∙ loaded) in
    cc both

served_front : (code : ℕ → Option Insn) (entries : List (Option ℕ)) (flow : Flow) (l : Loop) (q : ℕ) (value : ℤ) (before after : Standing)
    → code before.place ≡ Some Ecall → IsAlong flow before after → AreRegisters after.registers → HasLimit code l q value → LimitIsLoaded entries flow l q
    → after.place ≡ preceding l.from → value_of after.registers q ≡ word_of value
served_front code entries flow l zero value before after at along are is loaded front = zero_known 0 value after.registers are refl is
served_front code entries flow l (suc n) value before after at along are is loaded front =
    let goes = loaded.entered along.source along.target along.kind along.edge (eq-eqb along.target.address (preceding l.from) (sym along.to ∙ front)) refl in
    absurd (no_load code before.place (preceding (preceding l.from)) (suc n) value at (along.from ∙ goes.from) is)

pub served_holds : {code : ℕ → Option Insn} {entries : List (Option ℕ)} {flow : Flow} {l : Loop} {bound : ℕ} (sure : IsSure code entries flow l bound)
    (before after : Standing) → code before.place ≡ Some Ecall → before.place % 4 ≡ 0 → IsAlong flow before after → AreRegisters after.registers → (laps : List ℕ)
    → AtMost bound laps → Holds sure after (moved_on l before.place after.place laps)
served_holds {code} {entries} {flow} {l} {bound} sure before after at aligned along are laps most =
    by (in_loop l before.place) refl (in_loop l after.place) refl
  where
    by : (from : Bool) → in_loop l before.place ≡ from → (to : Bool) → in_loop l after.place ≡ to → Holds sure after (moved_on l before.place after.place laps)
    by true e to f = absurd (no_ecall sure before.place aligned at e)
    by false e true f =
        let goes = enters sure before after along e f in
        absurd (no_load code before.place (preceding l.from) sure.is.counter sure.is.start at goes.0 sure.is.starts)
    by false e false f = record {
      most = moved_outside l before.place after.place bound laps e most;
      knows = head_outside sure after _ f
          (served_front code entries flow l sure.is.limit sure.is.value before after at along are sure.is.limit_is sure.is.limit_loaded);
    }

-- ---- Starts

begins_elsewhere : (entries : List (Option ℕ)) (here : ℕ → Bool) (k address : ℕ) → BeginsNowhere entries here → slice_get entries k ≡ Some (Some address)
    → here address ≡ false
begins_elsewhere entries here k address nowhere at =
    at_slice (λ (entry : Option ℕ). IfSome entry (λ a. here a ≡ false)) entries k (Some address) nowhere at

started_front : (code : ℕ → Option Insn) (entries : List (Option ℕ)) (flow : Flow) (l : Loop) (q : ℕ) (value : ℤ) (standing : Standing) (k : ℕ)
    → slice_get entries k ≡ Some (Some standing.place) → AreRegisters standing.registers → HasLimit code l q value → LimitIsLoaded entries flow l q
    → standing.place ≡ preceding l.from → value_of standing.registers q ≡ word_of value
started_front code entries flow l zero value standing k at are is loaded front = zero_known 0 value standing.registers are refl is
started_front code entries flow l (suc n) value standing k at are is loaded front =
    absurd (let here = eq-eqb standing.place (preceding l.from) front in
    let nowhere = begins_elsewhere entries (λ other. other == preceding l.from) k standing.place loaded.no_entry at in cc)

pub started_holds : {code : ℕ → Option Insn} {entries : List (Option ℕ)} {flow : Flow} {l : Loop} {bound : ℕ} (sure : IsSure code entries flow l bound)
    (standing : Standing) (k : ℕ) → slice_get entries k ≡ Some (Some standing.place) → AreRegisters standing.registers → Holds sure standing (begun [])
started_holds {code} {entries} {flow} {l} {bound} sure standing k at are = record {
  most = (omega arith, tt);
  knows = head_outside sure standing (0 ∷ []) (begins_elsewhere entries (in_loop l) k standing.place sure.is.no_entry at)
      (started_front code entries flow l sure.is.limit sure.is.value standing k at are sure.is.limit_is sure.is.limit_loaded);
}
