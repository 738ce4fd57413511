-- What is promised of a run beside what is declared: no arrival of a source stays pending longer than the source's
-- latency. A run is given by its steps, of which the newest stands first.
use Rattle.std.specs.Prelude.{◌≡◌, ℕ, ◌+◌, ◌≤◌, ◌==◌, List, [], ◌∷◌, Option, Some, None, unwrap_or, if◌then◌else◌}
use Rattle.oil_model.specs.declared.system.System.{System}
use Rattle.osek_kernel.specs.Sources.{source_at}
use Rattle.promises_file.specs.declared.promises.Promises.{Promises}
use Rattle.promises_file.specs.Latencies.{latency_of}
use Rattle.osek_machine.specs.Events.{Event, Arrive, Take, duration}
use Rattle.osek_machine.specs.Declarations.{EachStep}

-- the moment of the arrival that made the source pending; none where it isn't pending
abbrev pub pending_since : ℕ → List Event → Option ℕ
pending_since source [] = None
pending_since source (Arrive arrival ∷ earlier) =
    if arrival.source == source then Some (unwrap_or (pending_since source earlier) arrival.moment) else pending_since source earlier
pending_since source (Take taking ∷ earlier) = if taking.source == source then None else pending_since source earlier
pending_since source (event ∷ earlier) = pending_since source earlier

-- in the state after the steps nothing is pending for longer than its latency
abbrev pub WaitsWithin : System → Promises → List Event → Type 0
WaitsWithin system promises events = (source latency moment : ℕ) → latency_of system promises (source_at system source) ≡ Some latency
    → pending_since source events ≡ Some moment → duration events ≤ moment + latency

-- in each state of the run, the last one included
abbrev pub IsPromised : System → Promises → List Event → Type 0
IsPromised system promises events = EachStep (λ event earlier. WaitsWithin system promises (event ∷ earlier)) events
