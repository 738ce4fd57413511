-- The timing of a lone image: an instruction costs 1 cycle, and a service, an alarm or an interrupt 10.
use Rattle.std.specs.Prelude.{[], replicate}
use Rattle.timing_file.specs.declared.costs.ClassCosts.{ClassCosts}
use Rattle.timing_file.specs.declared.costs.ServiceCosts.{ServiceCosts}
use Rattle.timing_file.specs.declared.timing.Timing.{Timing}

abbrev pub unit_classes : ClassCosts
unit_classes = record { costs = replicate 8 1 }

abbrev pub unit_services : ServiceCosts
unit_services = record { costs = replicate 13 10 }

abbrev pub the_unit_timing : Timing
the_unit_timing = record { classes = unit_classes; services = unit_services; alarm = 10; interrupt = 10; ticks = []; distances = []; loops = []; taken = 1; extra = [] }
