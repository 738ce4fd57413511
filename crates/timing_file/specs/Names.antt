-- Numbers by name.
use Rattle.std.specs.Prelude.{ℕ, List, Option, option_map, find, bytes_eq}
use Rattle.timing_file.specs.declared.timing.NamedNumber.{NamedNumber}
use Rattle.timing_file.specs.declared.timing.Timing.{Timing}

abbrev pub number_named : List NamedNumber → List ℕ → Option ℕ
number_named numbers name = option_map (λ n. n.number) (find (λ n. bytes_eq n.name name) numbers)

-- the cycles of a tick of the counter of this name
abbrev pub ticks_of : Timing → List ℕ → Option ℕ
ticks_of timing counter = number_named timing.ticks counter

-- the cycles between two interrupts of the ISR of this name
abbrev pub distance_of : Timing → List ℕ → Option ℕ
distance_of timing isr = number_named timing.distances isr
