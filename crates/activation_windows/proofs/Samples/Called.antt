-- Certificates of the worked system `Called`.
use Rattle.std.specs.Prelude.{◌≡◌, ℕ, true, List, [], ◌∷◌, refl}
use Rattle.whole_rows.specs.Duals.{AreGood}
use Rattle.whole_rows.proofs.Verdicts.{good_from_yes}
use Rattle.row_build.specs.Rows.{rows_of}
use Rattle.rv32_decode.specs.Instructions.{insn_of_word, insn_under, imm_of, branch_of}
use Rattle.rv32_machine.specs.Code.{insn_at}
use Rattle.listed.specs.Lists.{differ}
use Rattle.abstract_sched.specs.States.{same_state}
use Rattle.scheduler_moves.specs.Closed.{IsClosed}
use Rattle.activation_windows.proofs.Samples.Testing.{closed_from}
use Rattle.activation_windows.specs.Samples.Called.{plant, states, rows_of_t}

-- ---- The states are closed, and each is listed once

pub closed : IsClosed plant states
closed = closed_from plant states refl

pub once : differ same_state states ≡ true
once = refl

-- ---- The multipliers bound the rows

abbrev pub multipliers_of_t : List ℕ
multipliers_of_t = 22 ∷ 10 ∷ 12 ∷ 2 ∷ 1 ∷ 0 ∷ 5 ∷ 4 ∷ 3 ∷ 0 ∷ 0 ∷ 12 ∷ 2 ∷ []

t_is_good : AreGood rows_of_t multipliers_of_t 1 22
t_is_good = good_from_yes rows_of_t multipliers_of_t 1 22 refl

pub t_bound : AreGood (rows_of plant states 0) multipliers_of_t 1 22
unfolding insn_at insn_of_word insn_under imm_of branch_of
t_bound = t_is_good
