-- The numbers of a counted loop.
use Rattle.std.specs.Prelude.{◌≡◌, ◌⊎◌, ℕ, suc, ℤ, List, Option, Some}
use Rattle.rv32_decode.specs.declared.instruction.BranchOp.{BranchOp}
use Rattle.rv32_decode.specs.declared.instruction.Insn.{Insn}
use Rattle.rv32_decode.specs.declared.instruction.Insn.TheVariants.{Branch}
use Rattle.rv32_machine.specs.Execution.{moved}
use Rattle.rv32_machine.specs.Places.{preceding}
use Rattle.timing_file.specs.declared.timing.Loop.{Loop}
use Rattle.flow_graph.specs.declared.flow.Flow.{Flow}
use Rattle.counted_loops.specs.declared.counting.Counting.{Counting}
use Rattle.counted_loops.specs.Counted.{Closes, Compares, CountsOnce, HasLimit, HasNode, BeginsNowhere, EntersAt, LimitIsLoaded, in_loop}
use Rattle.counted_loops.specs.Working.Writers.{AllPlain, NoneWrites}
use Rattle.counted_loops.specs.Rounds.{AreRounds}
use Rattle.counted_loops.specs.Words.{loads}

-- a branch of this kind that stands at the loop's end and goes so far closes it
pub record Fits (l : Loop) (op : BranchOp) (counter limit : ℕ) (offset : ℤ) : Type 0 where
  pub compares : Compares op
  pub back : moved l.to offset ≡ l.from
  pub counter_counts : counter ≡ 0 → ⊥
  pub apart : counter ≡ limit → ⊥

-- the instruction is one that closes the loop
pub record IsClosing (l : Loop) (insn : Insn) (op : BranchOp) (counter limit : ℕ) : Type 0 where
  pub offset : ℤ
  pub is : insn ≡ Branch op counter limit offset
  pub fits : Fits l op counter limit offset

-- the words of the loop and before it have these numbers
pub record IsCounting (code : ℕ → Option Insn) (l : Loop) (counting : Counting) : Type 0 where
  pub closes : Closes code l counting.closing.op counting.closing.counter counting.closing.limit
  pub counts : CountsOnce code l counting.closing.counter counting.step
  pub starts : code (preceding l.from) ≡ Some (loads counting.closing.counter counting.start)
  pub limit_is : HasLimit code l counting.closing.limit counting.value

-- some node is in the loop, and nothing comes into it but by its front
pub record IsEnteredAtFront (entries : List (Option ℕ)) (flow : Flow) (l : Loop) : Type 0 where
  pub reached : HasNode flow (in_loop l)
  pub no_entry : BeginsNowhere entries (in_loop l)
  pub entered : EntersAt flow (in_loop l) (in_loop l) l.from

-- what is asked of a loop with this limit beside its numbers
pub record HasForm (code : ℕ → Option Insn) (entries : List (Option ℕ)) (flow : Flow) (l : Loop) (limit : ℕ) : Type 0 where
  pub plain : AllPlain code l.from l.to
  pub keeps : (limit ≡ 0) ⊎ NoneWrites code limit l.from l.to
  pub front : IsEnteredAtFront entries flow l
  pub limit_loaded : LimitIsLoaded entries flow l limit

-- so often the loop goes round by its numbers
abbrev pub AreRoundsOf : Counting → ℕ → Type 0
AreRoundsOf counting bound = AreRounds counting.closing.op counting.start counting.step counting.value (suc bound)
