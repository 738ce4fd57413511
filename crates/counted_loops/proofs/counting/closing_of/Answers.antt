-- The loop is closed by the instruction at its end alone.
use Rattle.std.proofs.Common.{◌≡◌, ℕ, Option, Some, None, MatchOption, sym, ◌∙◌, ap}
use Rattle.rv32_decode.specs.declared.instruction.BranchOp.{BranchOp}
use Rattle.rv32_decode.specs.declared.instruction.Insn.{Insn}
use Rattle.timing_file.specs.declared.timing.Loop.{Loop}
use Rattle.counted_loops.specs.Counted.{Closes}
use Rattle.counted_loops.specs.declared.counting.Closing.{Closing}
use Rattle.counted_loops.specs.Working.Counting.{IsClosing}
use Rattle.counted_loops.proofs.counting.closing_of.Goals as goal

found : (code : ℕ → Option Insn) (l : Loop) (insn : Insn) (result : Option Closing) → code l.to ≡ Some insn
    → MatchOption result ((op : BranchOp) (counter limit : ℕ) → IsClosing l insn op counter limit → ⊥)
    (λ closing. IsClosing l insn closing.op closing.counter closing.limit)
    → MatchOption result ((op : BranchOp) (counter limit : ℕ) → Closes code l op counter limit → ⊥)
    (λ closing. Closes code l closing.op closing.counter closing.limit)
found code l insn None at none = λ op counter limit closes. none op counter limit (record {
  offset = closes.offset;
  is = let same = sym at ∙ closes.branch in cc same;
  fits = record { compares = closes.compares; back = closes.back; counter_counts = closes.counter_counts; apart = closes.apart };
})
found code l insn (Some closing) at is = record {
  offset = is.offset;
  branch = at ∙ ap Some is.is;
  compares = is.fits.compares;
  back = is.fits.back;
  counter_counts = is.fits.counter_counts;
  apart = is.fits.apart;
}

pub returns-in-Some : goal.returns-in-Some
returns-in-Some g c = found (g.C.Code.code_of c.args.code.now) c.args.l c.in-Some.insn c.closing_in.result (sym c.in-Some.ensures) c.closing_in.ensures
