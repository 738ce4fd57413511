-- A timing whose parts are in their ranges and stand once is lawful.
use Rattle.std.proofs.Common.{◌≡◌, true, map}
use Rattle.std.proofs.lemmas.Bool.{and_parts}
use Rattle.listed.specs.Lists.{differ}
use Rattle.timing_file.specs.declared.timing.Timing.{Timing}
use Rattle.timing_file.specs.Timing.{same_span, loop_span, extra_span, each_once}
use Rattle.timing_file.specs.Lawful.{IsLawful}
use Rattle.timing_file.specs.Working.InRange.{IsInRange}

pub lawful : (timing : Timing) → IsInRange timing → each_once timing ≡ true → IsLawful timing
lawful timing range once =
    let parts = and_parts (differ same_span (map loop_span timing.loops)) (differ same_span (map extra_span timing.extra)) once in
    record {
      classes = range.classes;
      services = range.services;
      alarm = range.alarm;
      interrupt = range.interrupt;
      taken = range.taken;
      ticks = range.ticks;
      distances = range.distances;
      loops = record { few = range.loops.few; each = range.loops.each; once = parts.0 };
      extra = record { few = range.extra.few; each = range.extra.each; once = parts.1 };
    }
