-- The verdicts on the worked certificate.
use Rattle.std.proofs.Common.{◌≡◌, ℕ, zero, suc, ◌<◌, true, false, List, [], ◌∷◌, take, Contains, Result, Ok, Err, None, refl, subst, arith}
use Rattle.std.specs.Prelude.{slice_get, Some}
use Rattle.std.proofs.lemmas.List.Sums.{AllPass-from_list_all}
use Rattle.std.proofs.lemmas.Option.{same_Some}
use Rattle.rv32_decode.specs.Instructions.{insn_of_word, insn_under, imm_of, branch_of}
use Rattle.rv32_machine.specs.Code.{insn_at}
use Rattle.whole_rows.specs.Duals.{IsFirstFailing, first_failing_of}
use Rattle.whole_rows.specs.declared.DualVerdict.{DualVerdict}
use Rattle.whole_rows.specs.declared.DualVerdict.TheVariants as duals
use Rattle.whole_rows.proofs.Verdicts.{first_failing_holds}
use Rattle.abstract_sched.specs.declared.states.AbsState.{AbsState}
use Rattle.abstract_sched.specs.declared.states.TaskAt.TheVariants.{Suspended, At}
use Rattle.scheduler_moves.specs.Closed.{AreListed, MovesStay, LacksMove}
use Rattle.scheduler_moves.specs.Moves.{initial, successors, take_move}
use Rattle.scheduler_moves.specs.declared.moves.Misuse.{Misuse}
use Rattle.scheduler_moves.specs.declared.moves.Move.{Move}
use Rattle.scheduler_moves.proofs.Listings.{found_Decides}
use Rattle.row_build.specs.Rows.{rows_of}
use Rattle.activation_windows.specs.Samples.Words.{state}
use Rattle.activation_windows.specs.Samples.Preempted.{plant, states, rows_of_t}
use Rattle.activation_windows.proofs.Samples.Preempted.{closed, t_bound}
use Rattle.activation_windows.proofs.Samples.Testing.{lists, lists_all}
use Rattle.bound_checker.specs.Worked.{multipliers, SampleIsJudged}

-- ---- one cycle less

too_low : IsFirstFailing rows_of_t multipliers 237 132 duals.Bound
too_low =
    let computed : first_failing_of rows_of_t multipliers 237 132 ≡ duals.Bound = refl in
    subst (λ (v : DualVerdict). IsFirstFailing rows_of_t multipliers 237 132 v) computed (first_failing_holds rows_of_t multipliers 237 132)

bound_fails : IsFirstFailing (rows_of plant states 0) multipliers 237 132 duals.Bound
unfolding insn_at insn_of_word insn_under imm_of branch_of
bound_fails = too_low

-- ---- one state less

abbrev listed : List AbsState
listed = take 3 states

are_listed : (moves : Result (List Move) Misuse) → lists_all listed moves ≡ true → AreListed listed moves
are_listed (Ok moves) pass = λ k d below. (found_Decides listed _).0 (AllPass-from_list_all (λ move. lists listed move.to) moves pass k d below)
are_listed (Err misuse) pass = absurd cc

abbrev first : AbsState
first = state (At 0 false [] ∷ Suspended ∷ []) None

abbrev second : AbsState
second = state (At 0 false [] ∷ At 1 false [] ∷ []) None

abbrev third : AbsState
third = state (Suspended ∷ Suspended ∷ []) None

starts : (mode : ℕ) → mode < 1 → Contains listed (initial plant mode)
starts zero below = (found_Decides listed (initial plant 0)).0 refl
starts (suc mode) below = absurd (omega arith)

stays : (earlier : ℕ) (s : AbsState) → earlier < 2 → slice_get listed earlier ≡ Some s → MovesStay plant listed s
stays zero s below there = subst (MovesStay plant listed) (same_Some first s there) (are_listed (successors plant first) refl)
stays (suc zero) s below there = subst (MovesStay plant listed) (same_Some second s there) (are_listed (successors plant second) refl)
stays (suc (suc n)) s below there = absurd (omega arith)

lacks_alarm : LacksMove plant listed 2 0
lacks_alarm = record {
  state = third;
  there = refl;
  moves = take_move plant third 0 ∷ [];
  moved = refl;
  move = take_move plant third 0;
  at = refl;
  lacks = λ there. let found = (found_Decides listed (take_move plant third 0).to).1 there in absurd cc;
  first = λ earlier other below at. absurd (omega arith);
  before = record { starts = starts; stays = stays };
}

pub sample_is_judged : SampleIsJudged
sample_is_judged = record {
  good = record { closed = closed; good = t_bound };
  one_cycle_less = record { closed = closed; fails = bound_fails };
  one_state_less = lacks_alarm;
}
