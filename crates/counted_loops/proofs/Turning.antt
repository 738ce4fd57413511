-- The laps of a context's open invocations, step by step: they stay at most the bound of a counted loop.
use Rattle.std.proofs.Common.{◌≡◌, ◌⊎◌, inl, inr, ℕ, zero, suc, ◌+◌, ◌-◌, ◌^◌, ◌<◌, ◌≤◌, ◌%◌, ℤ, pos, Bool, true, false, cond, List, [], ◌∷◌, length, Option, Some, None, refl, sym, ◌∙◌, ap, subst, arith}
use Rattle.std.specs.Prelude.{nat_eq, ◌==◌, IfSome, option_map, slice_get}
use Rattle.std.specs.List.{AllByRecursion}
use Rattle.std.proofs.lemmas.Bool.{eqb-true, eqb-false, eq-eqb}
use Rattle.std.proofs.lemmas.Option.{none-some, same_Some}
use Rattle.rv32_decode.specs.declared.instruction.Insn.{Insn}
use Rattle.rv32_decode.specs.declared.instruction.Insn.TheVariants.{Branch, Ecall}
use Rattle.rv32_decode.specs.Instructions.{class_of}
use Rattle.rv32_machine.specs.declared.turns.Turn.{Turn}
use Rattle.rv32_machine.specs.declared.turns.Turn.TheVariants.{Onward, Branching, Jumping, Calling, Returning, Serving, Indirect, Breaking}
use Rattle.rv32_machine.specs.Code.{CodeFits}
use Rattle.rv32_machine.specs.ContextStep.{Standing, ContextStep, IsPaired}
use Rattle.rv32_machine.specs.Execution.{executed, following, moved, word_of}
use Rattle.rv32_machine.specs.Places.{preceding, pair_at, turn_of, turn_at}
use Rattle.rv32_machine.specs.Registers.{AreRegisters, value_of}
use Rattle.timing_file.specs.declared.timing.Loop.{Loop}
use Rattle.osek_machine.specs.Events.{Execution}
use Rattle.osek_machine.specs.Loops.{laps_after, innermost, moved_on, returned, turned}
use Rattle.flow_graph.specs.declared.edge.EdgeKind.{EdgeKind}
use Rattle.flow_graph.specs.declared.flow.Flow.{Flow}
use Rattle.flow_graph.specs.declared.node.Node.{Node}
use Rattle.counted_loops.specs.Counted.{IsCounted, HasEdge, GoesOnTo, HasLimit, LimitIsLoaded, in_loop}
use Rattle.counted_loops.specs.Words.{is_plain, loads}
use Rattle.counted_loops.proofs.Effects.{plain_turn, loads_word}
use Rattle.counted_loops.proofs.Knowing.{IsSure, HasCounted, Knows, Steps, same_insn, inside_word}
use Rattle.counted_loops.proofs.Going.{Kept, is_in, lap_other, lap_outside, from_inside, into_front}

-- ---- Laps

abbrev pub AtMost : ℕ → List ℕ → Type 0
AtMost bound laps = AllByRecursion (λ n. n ≤ bound) laps

-- what is known of the innermost invocation
abbrev pub KnowsHead : {code : ℕ → Option Insn} {entries : List (Option ℕ)} {flow : Flow} {l : Loop} {bound : ℕ}
    → IsSure code entries flow l bound → Standing → List ℕ → Type 0
KnowsHead sure standing [] = Unit {0}
KnowsHead sure standing (laps ∷ callers) = Knows sure standing.place standing.registers laps

pub record Holds {code : ℕ → Option Insn} {entries : List (Option ℕ)} {flow : Flow} {l : Loop} {bound : ℕ}
    (sure : IsSure code entries flow l bound) (standing : Standing) (laps : List ℕ) : Type 0 where
  pub most : AtMost bound laps
  pub knows : KnowsHead sure standing laps

-- the edge of a step between two places
pub record IsAlong (flow : Flow) (before after : Standing) : Type 0 where
  pub source : Node
  pub target : Node
  pub kind : EdgeKind
  pub edge : HasEdge flow source kind target
  pub from : before.place ≡ source.address
  pub to : after.place ≡ target.address

-- what is known outside of a loop, whatever the laps
pub head_outside : {code : ℕ → Option Insn} {entries : List (Option ℕ)} {flow : Flow} {l : Loop} {bound : ℕ} (sure : IsSure code entries flow l bound)
    (standing : Standing) (laps : List ℕ) → in_loop l standing.place ≡ false
    → (standing.place ≡ preceding l.from → value_of standing.registers sure.is.limit ≡ word_of sure.is.value) → KnowsHead sure standing laps
head_outside sure standing [] outside front = tt
head_outside sure standing (laps ∷ callers) outside front = record { front = front; limit = λ h. absurd cc; counter = λ h. absurd cc }

-- ---- From inside

-- the laps move on where the turn is that of a word that goes on, or of a branch
inside_turned : {code : ℕ → Option Insn} {entries : List (Option ℕ)} {flow : Flow} {l : Loop} {bound : ℕ} (sure : IsSure code entries flow l bound)
    (execution : Execution) → execution.before.place % 4 ≡ 0 → in_loop l execution.before.place ≡ true → (laps : List ℕ)
    → turned l (turn_at code execution.before.place) execution laps ≡ moved_on l execution.before.place execution.after.place laps
inside_turned {code} {l = l} sure execution aligned inside laps = by (nat_eq execution.before.place l.to) refl
  where
    place : ℕ
    place = execution.before.place

    by : (last : Bool) → nat_eq place l.to ≡ last → turned l (turn_at code place) execution laps ≡ moved_on l place execution.after.place laps
    by true e =
        let at : code place ≡ Some (Branch sure.is.op sure.is.counter sure.is.limit sure.is.closes.offset) =
        ap code (eqb-true place l.to e) ∙ sure.is.closes.branch in
        ap (λ (t : Option Turn). turned l t execution laps) (ap (option_map (turn_of (pair_at code place) place)) at)
    by false e =
        let at = sure.is.plain place (inside_word l place aligned inside (eqb-false place l.to e)) in
        ap (λ (t : Option Turn). turned l t execution laps) (plain_turn code place at.insn at.decoded at.plain)

moved_inside : {code : ℕ → Option Insn} {entries : List (Option ℕ)} {flow : Flow} {l : Loop} {bound : ℕ} (sure : IsSure code entries flow l bound)
    (before after : Standing) (steps : Steps code before after) → before.place % 4 ≡ 0 → in_loop l before.place ≡ true → (laps : List ℕ)
    → Holds sure before laps → Holds sure after (moved_on l before.place after.place laps)
moved_inside sure before after steps aligned inside [] holds = record { most = tt; knows = tt }
moved_inside sure before after steps aligned inside (laps ∷ callers) holds =
    let kept = from_inside sure before after steps aligned inside laps holds.knows holds.most.0 in
    record { most = (kept.most, holds.most.1); knows = kept.knows }

-- ---- Into the loop

pub enters : {code : ℕ → Option Insn} {entries : List (Option ℕ)} {flow : Flow} {l : Loop} {bound : ℕ} (sure : IsSure code entries flow l bound)
    (before after : Standing) → IsAlong flow before after → in_loop l before.place ≡ false → in_loop l after.place ≡ true
    → (before.place ≡ preceding l.from) × (after.place ≡ l.from)
enters {l = l} sure before after along outside inside =
    let goes = sure.is.entered along.source along.target along.kind along.edge (sym (ap (in_loop l) along.to) ∙ inside) (sym (ap (in_loop l) along.from) ∙ outside) in
    (along.from ∙ goes.from, along.to ∙ goes.to)

loaded_turned : {code : ℕ → Option Insn} {entries : List (Option ℕ)} {flow : Flow} {l : Loop} {bound : ℕ} (sure : IsSure code entries flow l bound)
    (execution : Execution) → execution.before.place ≡ preceding l.from → (laps : List ℕ)
    → turned l (turn_at code execution.before.place) execution laps ≡ moved_on l execution.before.place execution.after.place laps
loaded_turned {code} {l = l} sure execution from laps =
    ap (λ (t : Option Turn). turned l t execution laps)
    (plain_turn code execution.before.place (loads sure.is.counter sure.is.start) (ap code from ∙ sure.is.starts) refl)

moved_into : {code : ℕ → Option Insn} {entries : List (Option ℕ)} {flow : Flow} {l : Loop} {bound : ℕ} (sure : IsSure code entries flow l bound)
    (before after : Standing) (steps : Steps code before after) → in_loop l before.place ≡ false → before.place ≡ preceding l.from → after.place ≡ l.from
    → (laps : List ℕ) → Holds sure before laps → Holds sure after (moved_on l before.place after.place laps)
moved_into sure before after steps outside from to [] holds = record { most = tt; knows = tt }
moved_into {l = l} {bound = bound} sure before after steps outside from to (laps ∷ callers) holds =
    let none = lap_outside l before.place after.place laps outside in
    record {
      most = (subst (λ n. n ≤ bound) (sym none) (omega arith), holds.most.1);
      knows = subst (Knows sure after.place after.registers) (sym none) (into_front sure before after steps from to laps holds.knows);
    }

-- ---- Outside

pub moved_outside : (l : Loop) (a b bound : ℕ) (laps : List ℕ) → in_loop l a ≡ false → AtMost bound laps → AtMost bound (moved_on l a b laps)
moved_outside l a b bound [] outside most = tt
moved_outside l a b bound (laps ∷ callers) outside most = (subst (λ n. n ≤ bound) (sym (lap_outside l a b laps outside)) (omega arith), most.1)

-- a step that doesn't lead to the loop's front makes no lap
moved_elsewhere : (l : Loop) (a b bound : ℕ) (laps : List ℕ) → (b ≡ l.from → ⊥) → AtMost bound laps → AtMost bound (moved_on l a b laps)
moved_elsewhere l a b bound [] other most = tt
moved_elsewhere l a b bound (laps ∷ callers) other most = (by (in_loop l a) refl, most.1)
  where
    by : (inside : Bool) → in_loop l a ≡ inside → laps_after l a b laps ≤ bound
    by true e = subst (λ n. n ≤ bound) (sym (lap_other l a b laps e other)) most.0
    by false e = subst (λ n. n ≤ bound) (sym (lap_outside l a b laps e)) (omega arith)

returned_elsewhere : (l : Loop) (site : Option ℕ) (next bound : ℕ) (laps : List ℕ) → option_map following site ≡ Some next → (next ≡ l.from → ⊥)
    → AtMost bound laps → AtMost bound (returned l site laps)
returned_elsewhere l None next bound laps back other most = most
returned_elsewhere l (Some call) next bound [] back other most = tt
returned_elsewhere l (Some call) next bound (laps ∷ callers) back other most =
    moved_elsewhere l call (following call) bound callers (λ h. other (sym (same_Some (following call) next back) ∙ h)) most.1

turned_outside : (l : Loop) (turn : Option Turn) (execution : Execution) (bound : ℕ) (laps : List ℕ) → in_loop l execution.before.place ≡ false
    → (execution.after.place ≡ l.from → ⊥) → IfSome turn (λ t. IsPaired t execution.before.calls execution.after.place)
    → AtMost bound laps → AtMost bound (turned l turn execution laps)
turned_outside l None execution bound laps outside other paired most = moved_outside l _ _ bound laps outside most
turned_outside l (Some (Calling target)) execution bound laps outside other paired most = (omega arith, most)
turned_outside l (Some Returning) execution bound laps outside other paired most =
    returned_elsewhere l (innermost execution.before.calls) execution.after.place bound laps paired other most
turned_outside l (Some Onward) execution bound laps outside other paired most = moved_outside l _ _ bound laps outside most
turned_outside l (Some (Branching target)) execution bound laps outside other paired most = moved_outside l _ _ bound laps outside most
turned_outside l (Some (Jumping target)) execution bound laps outside other paired most = moved_outside l _ _ bound laps outside most
turned_outside l (Some Serving) execution bound laps outside other paired most = moved_outside l _ _ bound laps outside most
turned_outside l (Some Indirect) execution bound laps outside other paired most = moved_outside l _ _ bound laps outside most
turned_outside l (Some Breaking) execution bound laps outside other paired most = moved_outside l _ _ bound laps outside most

-- the value of x0
pub zero_known : (q : ℕ) (value : ℤ) (regs : List ℕ) → AreRegisters regs → q ≡ 0 → value ≡ pos 0 → value_of regs q ≡ word_of value
zero_known q value regs are none is = ap (value_of regs) none ∙ (are.zero_first ∙ sym (ap word_of is))

-- a limit that is loaded is known at the word before the loop
loaded_known : (code : ℕ → Option Insn) (entries : List (Option ℕ)) (flow : Flow) (l : Loop) (q : ℕ) (value : ℤ)
    (before after : Standing) (steps : Steps code before after) → IsAlong flow before after → CodeFits code → HasLimit code l q value → LimitIsLoaded entries flow l q
    → after.place ≡ preceding l.from → value_of after.registers q ≡ word_of value
loaded_known code entries flow l zero value before after steps along fits is loaded front = zero_known 0 value after.registers steps.to refl is
loaded_known code entries flow l (suc n) value before after steps along fits is loaded front =
    let goes = loaded.entered along.source along.target along.kind along.edge (eq-eqb along.target.address (preceding l.from) (sym along.to ∙ front)) refl in
    let at : code before.place ≡ Some (loads (suc n) value) = ap code (along.from ∙ goes.from) ∙ is in
    let insn = same_insn code before.place steps.step.insn (loads (suc n) value) steps.step.fetched at in
    let does : executed (loads (suc n) value) before.place before.registers steps.memory steps.device ≡ Some steps.step.effect =
    subst (λ (i : Insn). executed i before.place before.registers steps.memory steps.device ≡ Some steps.step.effect) insn steps.step.does in
    let below : suc n < 32 = (fits.fits before.place (loads (suc n) value) at).0 in
    ap (λ (regs : List ℕ). value_of regs (suc n)) steps.step.registers_are
    ∙ loads_word (suc n) value before.place before.registers steps.memory steps.device steps.step.effect (omega arith) below steps.from does

-- ---- A step of an instruction

pub executes_hold : {code : ℕ → Option Insn} {entries : List (Option ℕ)} {flow : Flow} {l : Loop} {bound : ℕ} (sure : IsSure code entries flow l bound)
    (execution : Execution) (steps : Steps code execution.before execution.after) → IsAlong flow execution.before execution.after
    → execution.before.place % 4 ≡ 0
    → IfSome (turn_at code execution.before.place) (λ t. IsPaired t execution.before.calls execution.after.place) → (laps : List ℕ)
    → Holds sure execution.before laps → Holds sure execution.after (turned l (turn_at code execution.before.place) execution laps)
executes_hold {code} {entries} {flow} {l} {bound} sure execution steps along aligned paired laps holds =
    by (in_loop l execution.before.place) refl (in_loop l execution.after.place) refl
  where
    by : (from : Bool) → in_loop l execution.before.place ≡ from → (to : Bool) → in_loop l execution.after.place ≡ to
        → Holds sure execution.after (turned l (turn_at code execution.before.place) execution laps)
    by true e to f = subst (Holds sure execution.after) (sym (inside_turned sure execution aligned e laps))
        (moved_inside sure execution.before execution.after steps aligned e laps holds)
    by false e true f =
        let goes = enters sure execution.before execution.after along e f in
        subst (Holds sure execution.after) (sym (loaded_turned sure execution goes.0 laps))
        (moved_into sure execution.before execution.after steps e goes.0 goes.1 laps holds)
    by false e false f = record {
      most = turned_outside l (turn_at code execution.before.place) execution bound laps e (λ h. at_front h f) paired holds.most;
      knows = head_outside sure execution.after _ f (loaded_known code entries flow l sure.is.limit sure.is.value execution.before execution.after steps along
          sure.registers sure.is.limit_is sure.is.limit_loaded);
    }
      where
        at_front : execution.after.place ≡ l.from → in_loop l execution.after.place ≡ false → ⊥
        at_front h outside = let low : l.from ≤ l.to = sure.words.order in
            let inside : in_loop l execution.after.place ≡ true = ap (in_loop l) h ∙ is_in l.from l.to l.from (omega arith) low in cc
