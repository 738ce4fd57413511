-- Certificates of the worked system `Interrupted`.
use Rattle.std.specs.Prelude.{◌≡◌, ℕ, true, List, [], ◌∷◌, ◌++◌, replicate, refl}
use Rattle.whole_rows.specs.Duals.{AreGood}
use Rattle.whole_rows.proofs.Verdicts.{good_from_yes}
use Rattle.row_build.specs.Rows.{rows_of}
use Rattle.rv32_decode.specs.Instructions.{insn_of_word, insn_under, imm_of, branch_of}
use Rattle.rv32_machine.specs.Code.{insn_at}
use Rattle.listed.specs.Lists.{differ}
use Rattle.abstract_sched.specs.States.{same_state}
use Rattle.scheduler_moves.specs.Closed.{IsClosed}
use Rattle.activation_windows.proofs.Samples.Testing.{closed_from}
use Rattle.activation_windows.specs.Samples.Interrupted.{plant, states, rows_of_t, rows_of_l}

-- ---- The states are closed, and each is listed once

pub closed : IsClosed plant states
closed = closed_from plant states refl

pub once : differ same_state states ≡ true
once = refl

-- ---- The multipliers bound the rows

abbrev pub multipliers_of_t : List ℕ
multipliers_of_t = 2800000 ∷ 0 ∷ 0 ∷ 0 ∷ 500000 ∷ 500000 ∷ 500000 ∷ replicate 6 0 ++ (1150000 ∷ 1100000 ∷ 0 ∷ 200000 ∷ 150000 ∷ 100000 ∷ 50000 ∷ 0
    ∷ 600000 ∷ 550000 ∷ 0 ∷ 600000 ∷ 550000 ∷ 500000 ∷ 1200000 ∷ 1150000 ∷ 1100000 ∷ 600000 ∷ 550000 ∷ 500000 ∷ 0 ∷ 600000 ∷ 550000 ∷ 0 ∷ 0 ∷ 0
    ∷ 50000 ∷ replicate 10 0 ++ (50000 ∷ replicate 6 0 ++ (50000 ∷ replicate 5 0 ++ (550000 ∷ 600000 ∷ 550000 ∷ 1150000 ∷ 0 ∷ 600000 ∷ 0 ∷ 0
    ∷ 600000 ∷ 1200000 ∷ 0 ∷ 600000 ∷ 0 ∷ 100000 ∷ 17 ∷ []))))

t_is_good : AreGood rows_of_t multipliers_of_t 49983 124
t_is_good = good_from_yes rows_of_t multipliers_of_t 49983 124 refl

pub t_bound : AreGood (rows_of plant states 1) multipliers_of_t 49983 124
unfolding insn_at insn_of_word insn_under imm_of branch_of
t_bound = t_is_good

abbrev pub multipliers_of_l : List ℕ
multipliers_of_l = 2300000 ∷ replicate 5 0 ++ (600000 ∷ 600000 ∷ 600000 ∷ 0 ∷ 600000 ∷ replicate 5 0 ++ (2300000 ∷ 2250000 ∷ 2200000 ∷ 700000 ∷ 650000
    ∷ 600000 ∷ 550000 ∷ 500000 ∷ 600000 ∷ 550000 ∷ 500000 ∷ 600000 ∷ 550000 ∷ 500000 ∷ 1800000 ∷ 1750000 ∷ 1700000 ∷ 600000 ∷ 550000 ∷ 500000
    ∷ 2300000 ∷ 0 ∷ 0 ∷ 1100000 ∷ 0 ∷ 600000 ∷ 0 ∷ 600000 ∷ 0 ∷ 1800000 ∷ 0 ∷ 600000 ∷ 0 ∷ 100000 ∷ 23 ∷ []))

l_is_good : AreGood rows_of_l multipliers_of_l 49977 138
l_is_good = good_from_yes rows_of_l multipliers_of_l 49977 138 refl

pub l_bound : AreGood (rows_of plant states 0) multipliers_of_l 49977 138
unfolding insn_at insn_of_word insn_under imm_of branch_of
l_bound = l_is_good
