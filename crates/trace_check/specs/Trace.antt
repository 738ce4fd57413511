-- Traces of a system: the limits of their numbers, and what their events name.
use Rattle.std.specs.Prelude.{ℕ, ◌^◌, ◌<◌, ◌≤◌, List, length}
use Rattle.std.specs.List.{AllByRecursion}
use Rattle.oil_model.specs.declared.system.System.{System}
use Rattle.osek_kernel.specs.Contexts.{context_count}
use Rattle.osek_kernel.specs.Sources.{source_count}
use Rattle.trace_check.specs.declared.trace.Event.{Event}
use Rattle.trace_check.specs.declared.trace.Event.TheVariants.{Arrive, Take, Service}
use Rattle.trace_check.specs.declared.trace.Trace.{Trace}

-- ---- What is named exists

abbrev pub NamesWhatExists : System → Event → Type 0
NamesWhatExists system (Arrive at source) = source < source_count system
NamesWhatExists system (Take start end source) = source < source_count system
NamesWhatExists system (Service start end context sites address) = context < context_count system

-- the trace's mode, sources and contexts exist
pub record IsOf (system : System) (trace : Trace) : Type 0 where
  pub mode : trace.mode < length system.modes
  pub events : AllByRecursion (NamesWhatExists system) trace.events

-- ---- Limits

-- a moment, in cycles
abbrev pub IsMoment : ℕ → Type 0
IsMoment moment = moment < 2 ^ 63

abbrev pub IsAddress : ℕ → Type 0
IsAddress address = address < 2 ^ 32

-- where a service is called, with at most 16 open calls
pub record IsPlace (sites : List ℕ) (address : ℕ) : Type 0 where
  pub few : length sites ≤ 16
  pub calls : AllByRecursion IsAddress sites
  pub place : IsAddress address

abbrev pub IsInLimits : Event → Type 0
IsInLimits (Arrive at source) = IsMoment at
IsInLimits (Take start end source) = IsMoment start × IsMoment end
IsInLimits (Service start end context sites address) = IsMoment start × IsMoment end × IsPlace sites address

-- What holds of every trace that is read: it is the system's, and within the limits of its text.
pub record IsLawful (system : System) (trace : Trace) : Type 0 where
  pub names : IsOf system trace
  pub end : IsMoment trace.end
  pub few : length trace.events ≤ 65536
  pub limits : AllByRecursion IsInLimits trace.events
