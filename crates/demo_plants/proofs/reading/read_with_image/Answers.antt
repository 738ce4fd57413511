use Rattle.std.proofs.Common.{◌≡◌, Ok, sym, subst}
use Rattle.json_fields.specs.Files.{IsGiven}
use Rattle.timing_file.specs.declared.fault.TimingKind.TheVariants as timing_kinds
use Rattle.timing_file.specs.Timing.{timing_in}
use Rattle.demo_gen.specs.Demo.{the_timing}
use Rattle.demo_plants.specs.Working.Sources.{tasks_in}
use Rattle.demo_plants.proofs.Given.{given_once, same_ok}
use Rattle.demo_plants.proofs.reading.read_with_image.Goals as goal

pub timing_of-requires : goal.timing_of-requires
timing_of-requires c =
    let tasks = tasks_in c.args.source.now in (
      the_timing tasks,
      subst (λ bytes. IsGiven timing_kinds.Json timing_in bytes (Ok (the_timing tasks))) (sym c.as_slice.ensures) c.requires.whole.read.timing,
    )

pub read_with_timing-requires-clause-timing : goal.read_with_timing-requires-clause-timing
read_with_timing-requires-clause-timing c =
    let tasks = tasks_in c.args.source.now in
    let wanted = subst (λ bytes. IsGiven timing_kinds.Json timing_in bytes (Ok (the_timing tasks))) (sym c.as_slice.ensures) c.requires.whole.read.timing in
    same_ok _ _ (given_once timing_kinds.Json timing_in c.as_slice.result.now (Ok c.in_ok-timing.timing) (Ok (the_timing tasks)) c.in_ok-timing.ensures.is wanted)
