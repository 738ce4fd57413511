-- Recordings of runs fit.
use Rattle.std.proofs.Common.{◌≡◌, ℕ, nat_lt, false, cond, sym, ◌∙◌, ap, arith}
use Rattle.std.proofs.lemmas.Bool.{le-ltb}
use Rattle.osek_machine.specs.Events.{duration}
use Rattle.osek_machine.proofs.Times.{runs_take_their_time}
use Rattle.trace_check.specs.declared.verdict.TraceVerdict.TheVariants.{Fits, NotAWalk, OverBound}
use Rattle.trace_check.specs.Verdict.{Follower, at_start, has_lasted_over, verdict_at_end}
use Rattle.trace_record.specs.Fitting.{RecordingsFit}
use Rattle.trace_record.specs.Recording.{recorded_in}
use Rattle.trace_record.proofs.Along.{Follows, goes_along, not_over}
use Rattle.trace_record.proofs.Following.{all_followed, fits_from}
use Rattle.trace_record.proofs.Lasting.{open_within}

ends_well : (bound end n : ℕ) (f : Follower) → nat_lt end f.latest ≡ false → has_lasted_over bound end f ≡ false
    → verdict_at_end bound end n f ≡ Fits
ends_well bound end n f late over =
    ap (λ b. cond b (NotAWalk n) (cond (has_lasted_over bound end f) (OverBound n) Fits)) late ∙ ap (λ b. cond b (OverBound n) Fits) over

pub recordings_fit : RecordingsFit
recordings_fit plant states task bound mode events state case exists arrivals within =
    let along = goes_along plant states task bound mode events state case exists arrivals within in
    let f : Follower = all_followed plant task (at_start plant task mode) (recorded_in plant.system events) in
    let follows : Follows plant task mode events state f = along.follows in
    let stands = runs_take_their_time plant.image plant.system mode events state case.run in
    fits_from plant task bound (duration events) 0 (at_start plant task mode) (recorded_in plant.system events) along.sound
    (λ n. ends_well bound (duration events) n f
    (let latest = follows.latest in let moment = stands.moment in le-ltb (duration events) f.latest (omega arith))
    (not_over bound (duration events) f.since (λ start is. open_within plant task bound mode events start exists within (sym follows.since_is ∙ is))))
