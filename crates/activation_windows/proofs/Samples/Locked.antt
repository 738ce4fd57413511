-- Certificates of the worked system `Locked`.
use Rattle.std.specs.Prelude.{◌≡◌, ℕ, true, List, [], ◌∷◌, ◌++◌, replicate, refl}
use Rattle.whole_rows.specs.Duals.{AreGood}
use Rattle.whole_rows.proofs.Verdicts.{good_from_yes}
use Rattle.row_build.specs.Rows.{rows_of}
use Rattle.rv32_decode.specs.Instructions.{insn_of_word, insn_under, imm_of, branch_of}
use Rattle.rv32_machine.specs.Code.{insn_at}
use Rattle.listed.specs.Lists.{differ}
use Rattle.abstract_sched.specs.States.{same_state}
use Rattle.scheduler_moves.specs.Closed.{IsClosed}
use Rattle.activation_windows.proofs.Samples.Testing.{closed_from}
use Rattle.activation_windows.specs.Samples.Locked.{plant, states, rows_of_t, rows_of_h}

-- ---- The states are closed, and each is listed once

pub closed : IsClosed plant states
closed = closed_from plant states refl

pub once : differ same_state states ≡ true
once = refl

-- ---- The multipliers bound the rows

abbrev pub multipliers_of_t : List ℕ
multipliers_of_t = 27500 ∷ 27000 ∷ 27000 ∷ 21500 ∷ 16000 ∷ 16000 ∷ 10500 ∷ 0 ∷ 0 ∷ 500 ∷ 250 ∷ 0 ∷ 500 ∷ 250 ∷ 0 ∷ 500 ∷ 250 ∷ 0 ∷ 500 ∷ 250 ∷ 0
    ∷ 5500 ∷ 5250 ∷ 5000 ∷ 5500 ∷ 5250 ∷ 5000 ∷ 500 ∷ 0 ∷ 0 ∷ 0 ∷ 500 ∷ 500 ∷ 0 ∷ 500 ∷ 0 ∷ 5500 ∷ 0 ∷ 0 ∷ 5500 ∷ 13 ∷ []

t_is_good : AreGood rows_of_t multipliers_of_t 237 225
t_is_good = good_from_yes rows_of_t multipliers_of_t 237 225 refl

pub t_bound : AreGood (rows_of plant states 0) multipliers_of_t 237 225
unfolding insn_at insn_of_word insn_under imm_of branch_of
t_bound = t_is_good

abbrev pub multipliers_of_h : List ℕ
multipliers_of_h = 2200 ∷ replicate 4 0 ++ (200 ∷ 100 ∷ 0 ∷ 200 ∷ 100 ∷ 0 ∷ 200 ∷ 100 ∷ 0 ∷ 200 ∷ 100 ∷ 0 ∷ 200 ∷ 100 ∷ 0 ∷ 2200 ∷ 2100 ∷ 2000 ∷ 0
    ∷ 200 ∷ 0 ∷ 100 ∷ 0 ∷ 0 ∷ 0 ∷ 200 ∷ 0 ∷ 100 ∷ 0 ∷ 0 ∷ 0 ∷ 200 ∷ 0 ∷ 100 ∷ 0 ∷ 0 ∷ 2200 ∷ 0 ∷ 0 ∷ 0 ∷ 200 ∷ 0 ∷ 0 ∷ 200 ∷ 200 ∷ 0 ∷ 0 ∷ 200
    ∷ 200 ∷ 0 ∷ 3 ∷ [])

h_is_good : AreGood rows_of_h multipliers_of_h 97 84
h_is_good = good_from_yes rows_of_h multipliers_of_h 97 84 refl

pub h_bound : AreGood (rows_of plant states 1) multipliers_of_h 97 84
unfolding insn_at insn_of_word insn_under imm_of branch_of
h_bound = h_is_good
