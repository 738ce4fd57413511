-- Certificates of the worked system `Once`.
use Rattle.std.specs.Prelude.{◌≡◌, ℕ, true, List, [], ◌∷◌, refl}
use Rattle.whole_rows.specs.Duals.{AreGood}
use Rattle.whole_rows.proofs.Verdicts.{good_from_yes}
use Rattle.row_build.specs.Rows.{rows_of}
use Rattle.rv32_decode.specs.Instructions.{insn_of_word, insn_under, imm_of, branch_of}
use Rattle.rv32_machine.specs.Code.{insn_at}
use Rattle.listed.specs.Lists.{differ}
use Rattle.abstract_sched.specs.States.{same_state}
use Rattle.scheduler_moves.specs.Closed.{IsClosed}
use Rattle.activation_windows.proofs.Samples.Testing.{closed_from}
use Rattle.activation_windows.specs.Samples.Once.{plant, states, rows_of_t, rows_of_h}

-- ---- The states are closed, and each is listed once

pub closed : IsClosed plant states
closed = closed_from plant states refl

pub once : differ same_state states ≡ true
once = refl

-- ---- The multipliers bound the rows

abbrev pub multipliers_of_t : List ℕ
multipliers_of_t = 23 ∷ 20 ∷ 40 ∷ 3 ∷ 2 ∷ 1 ∷ 0 ∷ 2 ∷ 1 ∷ 0 ∷ 0 ∷ 0 ∷ 3 ∷ 0 ∷ 2 ∷ 52 ∷ []

t_is_good : AreGood rows_of_t multipliers_of_t 1 75
t_is_good = good_from_yes rows_of_t multipliers_of_t 1 75 refl

pub t_bound : AreGood (rows_of plant states 0) multipliers_of_t 1 75
unfolding insn_at insn_of_word insn_under imm_of branch_of
t_bound = t_is_good

abbrev pub multipliers_of_h : List ℕ
multipliers_of_h = 0 ∷ 20 ∷ 20 ∷ 3 ∷ 2 ∷ 1 ∷ 0 ∷ 2 ∷ 1 ∷ 0 ∷ 0 ∷ 3 ∷ 0 ∷ 2 ∷ 0 ∷ 1 ∷ 0 ∷ 0 ∷ 0 ∷ 2 ∷ 0 ∷ 0 ∷ 3 ∷ 0 ∷ 52 ∷ []

h_is_good : AreGood rows_of_h multipliers_of_h 1 52
h_is_good = good_from_yes rows_of_h multipliers_of_h 1 52 refl

pub h_bound : AreGood (rows_of plant states 1) multipliers_of_h 1 52
unfolding insn_at insn_of_word insn_under imm_of branch_of
h_bound = h_is_good
