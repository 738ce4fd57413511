use Rattle.std.proofs.Common.{◌≡◌, List, [], ◌∷◌, ◌++◌, map, sym, ap, ◌∙◌, arith}
use Rattle.std.specs.List.{range_with_len}
use Rattle.std.proofs.lemmas.List.FromFn.{map-range_with_len_more}
use Rattle.replay.specs.declared.schedule.Arrival.{Arrival}
use Rattle.demo_runs.specs.Schedule.{end_moment, arrival_of}
use Rattle.demo_runs.proofs.playing.schedule_of.Goals as goal

pub loop-alarm-preserved : goal.loop-alarm-preserved
loop-alarm-preserved c =
    let alarm = c.loop-alarm.alarm in
    c.in_ok-push.ensures.ok
    ∙ (ap (λ (arrivals : List Arrival). arrivals ++ arrival_of alarm ∷ []) c.loop-alarm.invariant
    ∙ sym (map-range_with_len_more arrival_of 0 alarm alarm (omega arith)))

pub returns : goal.returns
unfolding end_moment
returns c =
    let all : c.loop-alarm.alarm ≡ c.args.count = omega arith in
    ap (λ (arrivals : List Arrival). record { mode = 0; end = end_moment; arrivals = arrivals })
    (c.loop-alarm.invariant ∙ ap (λ count. map arrival_of (range_with_len 0 count)) all)
