-- The law of the graph: a step follows an edge, and what is known of registers holds where it leads.
use Rattle.std.proofs.Common.{◌≡◌, ◌≢◌, ℕ, ◌+◌, ◌%◌, ◌^◌, ◌<◌, ℤ, false, List, [], length, Option, Some, None, arith, sym, ◌∙◌, ap, subst, lit<}
use Rattle.std.specs.Prelude.{◌||◌, is_some, slice_get}
use Rattle.std.specs.Option.{option_map, option_map_or}
use Rattle.std.proofs.lemmas.Option.{none-some, same_Some}
use Rattle.rv32_decode.specs.declared.instruction.Insn.{Insn}
use Rattle.rv32_decode.specs.declared.instruction.Insn.TheVariants.{Auipc, Jalr, Imm}
use Rattle.rv32_decode.specs.declared.instruction.ImmOp.TheVariants.{Addi}
use Rattle.rv32_decode.specs.Instructions.{RegistersFit}
use Rattle.rv32_machine.specs.declared.turns.Pair.{Pair}
use Rattle.rv32_machine.specs.declared.turns.Turn.{Turn}
use Rattle.rv32_machine.specs.declared.turns.Turn.TheVariants.{Onward}
use Rattle.rv32_machine.specs.ContextStep.{Standing, StandingFits, ContextStep, KeepsReturns, IsPaired, turn_from}
use Rattle.rv32_machine.specs.Code.{CodeFits}
use Rattle.rv32_machine.specs.Execution.{Effect, executed, imm_result, word_of, moved, jump_target, following}
use Rattle.rv32_machine.specs.Memory.{BytesFit}
use Rattle.rv32_machine.specs.Places.{preceding, service_at, pair_at, is_middle, turn_of, turn_at}
use Rattle.rv32_machine.specs.Registers.{AreRegisters, value_of, with_value}
use Rattle.rv32_machine.proofs.ExecutionLaws.{residue_below}
use Rattle.rv32_machine.proofs.StepLaws.{step_keeps, value_written, value_kept}
use Rattle.flow_graph.specs.declared.node.Node.{Node}
use Rattle.flow_graph.specs.Graph.{Program, edges_by}
use Rattle.flow_graph.specs.Faults.{enters_middle, fault_of}
use Rattle.flow_graph.specs.Standing.{PlaceFacts, edge_number, Follows, StepsFollowEdges}
use Rattle.flow_graph.proofs.Places.{preceding-following, following_below, Loads, service_words, pair_words}
use Rattle.flow_graph.proofs.Sound.{IsSound, sound, neither, not_middle}
use Rattle.flow_graph.proofs.Turns.{GoesBy, goes, Reaches, reaches}

-- ---- At a word that isn't a middle one nothing is known

none_is : {A : Type 0} (found : Option A) (x : A) → is_some found ≡ false → found ≡ Some x → ⊥
none_is None x h e = none-some x e
none_is (Some y) x h e = cc

pub nothing_known : (code : ℕ → Option Insn) (place : ℕ) (regs : List ℕ) → is_middle code place ≡ false → PlaceFacts code place regs
nothing_known code place regs h =
    let outer = neither (is_some (service_at code (following place)) || is_some (service_at code place)) (is_some (pair_at code place)) h in
    let inner = neither (is_some (service_at code (following place))) (is_some (service_at code place)) outer.0 in
    record {
      second = λ s e. absurd (none_is (service_at code (following place)) s inner.0 e);
      third = λ s e. absurd (none_is (service_at code place) s inner.1 e);
      pair = λ p e. absurd (none_is (pair_at code place) p outer.1 e);
    }

-- ---- Behind a word that goes on

zero_plus : (z w : ℕ) → z ≡ 0 → w < 2 ^ 32 → (z + w) % 2 ^ 32 ≡ w
zero_plus z w none fits = omega arith

registers_of : (line effect : Effect) → Some line ≡ Some effect → effect.registers ≡ line.registers
registers_of line effect e = ap (λ (one : Effect). one.registers) (sym (same_Some line effect e))

-- what `addi register, zero, imm` leaves in each register
record Loaded (regs regs' : List ℕ) (register word : ℕ) : Type 0 where
  same : value_of regs' register ≡ word
  others : (q : ℕ) → q ≢ register → value_of regs' q ≡ value_of regs q

loaded : (register : ℕ) (insn : Insn) (word place : ℕ) (regs : List ℕ) (memory : ℕ → Option ℕ) (device : ℕ) (effect : Effect)
    → 0 < register → register < 32 → AreRegisters regs → Loads register (Some insn) word → executed insn place regs memory device ≡ Some effect
    → Loaded regs effect.registers register word
loaded register insn word place regs memory device effect above below are load e =
    let is : insn ≡ Imm Addi register 0 load.imm = same_Some insn (Imm Addi register 0 load.imm) load.is in
    let does : executed (Imm Addi register 0 load.imm) place regs memory device ≡ Some effect =
    subst (λ (i : Insn). executed i place regs memory device ≡ Some effect) is e in
    let value = imm_result Addi (value_of regs 0) load.imm in
    let after : effect.registers ≡ with_value regs register value = registers_of _ effect does in
    let count : length regs ≡ 32 = are.count in
    let sum : value ≡ word = zero_plus (value_of regs 0) (word_of load.imm) are.zero_first (residue_below (2 ^ 32) load.imm (lit< tt)) ∙ load.word_is in
    record {
      same = ap (λ (rs : List ℕ). value_of rs register) after ∙ value_written regs register value above (omega arith) ∙ sum;
      others = λ q apart. ap (λ (rs : List ℕ). value_of rs q) after ∙ value_kept regs register value q apart;
    }

-- the word at the place, where another address is the place
moved_load : (code : ℕ → Option Insn) (place q register word : ℕ) (insn : Insn) → code place ≡ Some insn → q ≡ place → Loads register (code q) word
    → Loads register (Some insn) word
moved_load code place q register word insn at same load = subst (λ (found : Option Insn). Loads register found word) (ap code same ∙ at) load

ten_apart : ◌≢◌ {A = ℕ} 10 17
ten_apart e = omega (arith, e)

pub onward_known : (code : ℕ → Option Insn) (place : ℕ) (insn : Insn) (regs : List ℕ) (memory : ℕ → Option ℕ) (device : ℕ) (effect : Effect)
    → place < 2 ^ 32 → code place ≡ Some insn → executed insn place regs memory device ≡ Some effect → AreRegisters regs → RegistersFit insn
    → PlaceFacts code place regs → PlaceFacts code (following place) effect.registers
onward_known code place insn regs memory device effect fits at does are among known = record {
  second = λ s e.
      let words = service_words code (following (following place)) s e in
      let back : preceding (preceding (following (following place))) ≡ place = ap preceding (preceding-following (following place) (following_below place))
      ∙ preceding-following place fits in
      (loaded 10 insn s.argument place regs memory device effect (lit< tt) (lit< tt) are (moved_load code place _ 10 s.argument insn at back words.first)
      does).same;
  third = λ s e.
      let words = service_words code (following place) s e in
      let load = loaded 17 insn s.number place regs memory device effect (lit< tt) (lit< tt) are
      (moved_load code place _ 17 s.number insn at (preceding-following place fits) words.second) does in
      (load.others 10 ten_apart ∙ known.second s e, load.same);
  pair = λ p e.
      let words = pair_words code (following place) p e in
      let back : preceding (following place) ≡ place = preceding-following place fits in
      let is : insn ≡ Auipc p.register words.imm = same_Some insn (Auipc p.register words.imm) (sym at ∙ ap code (sym back) ∙ words.first_is) in
      let here : executed (Auipc p.register words.imm) place regs memory device ≡ Some effect =
      subst (λ (i : Insn). executed i place regs memory device ≡ Some effect) is does in
      let register : p.register < 32 = subst RegistersFit is among in
      let count : length regs ≡ 32 = are.count in
      let above : 0 < p.register = words.not_zero in
      ap (λ (rs : List ℕ). value_of rs p.register) (registers_of _ effect here)
      ∙ value_written regs p.register (moved place words.imm) above (omega arith)
      ∙ ap (λ (a : ℕ). moved a words.imm) (sym back) ∙ sym words.upper_is;
}

-- ---- What is known where a step leads

known_after : (program : Program) (node : Node) (turn : Turn) (i address : ℕ) (sites : List ℕ) (regs : List ℕ) → enters_middle program node turn ≡ false
    → GoesBy turn node.address address i → Reaches (edges_by (service_at program.code node.address) node turn) node.context i address sites
    → PlaceFacts program.code (following node.address) regs → PlaceFacts program.code address regs
known_after program node Onward i address sites regs middle h reach onward = subst (λ (a : ℕ). PlaceFacts program.code a regs) (sym h.0) onward
known_after program node turn i address sites regs middle h reach onward =
    let clear : is_middle program.code reach.next.address ≡ false =
    not_middle program (edges_by (service_at program.code node.address) node turn) i reach.edge reach.next middle reach.leaves reach.arrives in
    nothing_known program.code address regs (ap (is_middle program.code) (sym reach.address_is) ∙ clear)

-- ---- The law

-- the target of a pair's second word is what its register makes it
pair_target : (code : ℕ → Option Insn) (place : ℕ) (insn : Insn) (regs : List ℕ) → code place ≡ Some insn → PlaceFacts code place regs
    → (p : Pair) → pair_at code place ≡ Some p → (rd rs1 : ℕ) (offset : ℤ) → insn ≡ Jalr rd rs1 offset → jump_target (value_of regs rs1) offset ≡ p.target
pair_target code place insn regs at known p e rd rs1 offset is =
    let words = pair_words code place p e in
    let same : Jalr rd rs1 offset ≡ Jalr words.rd p.register words.offset = sym is
    ∙ same_Some insn (Jalr words.rd p.register words.offset) (sym at ∙ words.second_is) in
    let base : rs1 ≡ p.register = cc in
    let by : offset ≡ words.offset = cc in
    ap (λ (r : ℕ). jump_target (value_of regs r) offset) base
    ∙ ap (λ (v : ℕ). jump_target v offset) (known.pair p e)
    ∙ ap (λ (o : ℤ). jump_target p.upper o) by
    ∙ sym words.target_is

-- where the node is the standing's own
follows_here : (program : Program) → CodeFits program.code → (context device : ℕ) (memory memory' : ℕ → Option ℕ) (before after : Standing)
    → fault_of program (record { context = context; sites = before.calls; address = before.place }) ≡ None → StandingFits before
    → PlaceFacts program.code before.place before.registers → BytesFit memory
    → (step : ContextStep program.code device memory memory' before after) → KeepsReturns step
    → Follows program.code (record { context = context; sites = before.calls; address = before.place }) step.insn before after
follows_here program decoded context device memory memory' before after faultless fits known bytes step paired =
    let node : Node = record { context = context; sites = before.calls; address = before.place } in
    let turn : Turn = turn_from program.code step.insn before in
    let at : turn_at program.code before.place ≡ Some turn = ap (option_map (turn_of (pair_at program.code before.place) before.place)) step.fetched in
    let clear : IsSound program node turn = sound program node turn at faultless in
    let i : ℕ = edge_number step.insn before.registers in
    let goes_on : GoesBy turn before.place step.effect.next i =
    goes step.insn (pair_at program.code before.place) before.place before.registers memory device step.effect step.does
    (pair_target program.code before.place step.insn before.registers step.fetched known) in
    let back : IsPaired turn before.calls step.effect.next = subst (λ (a : ℕ). IsPaired turn before.calls a) step.place_is paired in
    let reach = reaches (service_at program.code before.place) node turn i step.effect.next clear.direct goes_on back in
    let among : RegistersFit step.insn = decoded.fits before.place step.insn step.fetched in
    let after_fits : StandingFits after = step_keeps program.code device memory memory' before after decoded fits.registers_fit bytes step in
    let onward = onward_known program.code before.place step.insn before.registers memory device step.effect fits.place_fits step.fetched step.does
    fits.registers_fit among known in
    let there : PlaceFacts program.code step.effect.next step.effect.registers =
    known_after program node turn i step.effect.next _ step.effect.registers clear.middle goes_on reach onward in
    record {
      edge = reach.edge;
      leaves = ap (λ (found : Option Turn). slice_get (option_map_or (edges_by (service_at program.code before.place) node) found []) i) at ∙ reach.leaves;
      next = reach.next;
      arrives = reach.arrives;
      context_is = reach.context_is;
      stands = record {
        fits = after_fits;
        place_is = step.place_is ∙ sym reach.address_is;
        calls_are = step.calls_are ∙ sym reach.sites_are;
        facts = subst (λ (a : ℕ). PlaceFacts program.code a after.registers) (sym step.place_is)
            (subst (PlaceFacts program.code step.effect.next) (sym step.registers_are) there);
      };
    }

pub steps_follow_edges : (program : Program) → CodeFits program.code → StepsFollowEdges program
unfolding StepsFollowEdges
steps_follow_edges program decoded node device memory memory' before after faultless stands bytes step paired =
    let sites : record { context = node.context; sites = before.calls; address = before.place } ≡ record {
      context = node.context;
      sites = node.sites;
      address = before.place;
    } =
    ap (λ (calls : List ℕ). record { context = node.context; sites = calls; address = before.place }) stands.calls_are in
    let same : record { context = node.context; sites = before.calls; address = before.place } ≡ node =
    sites ∙ ap (λ (a : ℕ). record { context = node.context; sites = node.sites; address = a }) stands.place_is in
    let here = follows_here program decoded node.context device memory memory' before after
    (subst (λ (n : Node). fault_of program n ≡ None) (sym same) faultless) stands.fits stands.facts bytes step paired in
    subst (λ (n : Node). Follows program.code n step.insn before after) same here
