-- One more loop has its bound.
use Rattle.std.proofs.Common.{◌≡◌, ℕ, List, Option, Some, None, MatchOption, get_or}
use Rattle.std.proofs.lemmas.List.{get_or_default}
use Rattle.rv32_decode.specs.declared.instruction.Insn.{Insn}
use Rattle.rv32_machine.specs.Code.{insn_at}
use Rattle.timing_file.specs.declared.timing.Loop.{Loop}
use Rattle.flow_graph.specs.declared.flow.Flow.{Flow}
use Rattle.flow_graph.proofs.Graphs.{AllZip-more}
use Rattle.counted_loops.specs.Counted.{IsCounted, IsFound}
use Rattle.counted_loops.proofs.bounds.bounds_of.Goals as goal

is_found : (code : ℕ → Option Insn) (entries : List (Option ℕ)) (flow : Flow) (l : Loop) (result : Option ℕ)
    → MatchOption result ((bound : ℕ) → IsCounted code entries flow l bound → ⊥) (IsCounted code entries flow l) → IsFound code entries flow l result
is_found code entries flow l None given = given
is_found code entries flow l (Some bound) given = given

abbrev no_loop : Loop
no_loop = record { from = 0; to = 0; bound = 0 }

pub loop-l-preserved : goal.loop-l-preserved
loop-l-preserved c =
    let loops = c.args.loops.now in let i = c.loop-l.l-index in let code = insn_at c.args.image.now in
    AllZip-more (IsFound code c.args.entries.now c.args.flow.now) loops i (get_or loops i no_loop) c.loop-l.found c.push.new.self c.bound_of_loop.result
    c.loop-l-test.true (get_or_default loops i no_loop (get_or loops i no_loop) c.loop-l-test.true) c.loop-l.invariant
    (is_found code c.args.entries.now c.args.flow.now (get_or loops i no_loop) c.bound_of_loop.result c.bound_of_loop.ensures) c.in_ok-push.ensures.ok
