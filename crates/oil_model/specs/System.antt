-- Which systems are lawful.
use Rattle.std.specs.Prelude.{◌≡◌, ℕ, ◌<◌, ◌≤◌, true, false, ◌==◌, List, [], ◌∷◌, ◌++◌, length, map, codes, bytes_eq}
use Rattle.std.specs.List.{list_all, AllByRecursion}
use Rattle.listed.specs.Lists.{differ}
use Rattle.oil_grammar.specs.Names.{is_name}
use Rattle.oil_model.specs.declared.system.Task.{Task}
use Rattle.oil_model.specs.declared.system.Resource.{Resource}
use Rattle.oil_model.specs.declared.system.Alarm.{Alarm}
use Rattle.oil_model.specs.declared.system.System.{System}

abbrev pub scheduler : List ℕ
scheduler = codes "RES_SCHEDULER"

-- The names of the objects that have code or activate it: no two of them have one name.
abbrev pub code_names : System → List (List ℕ)
code_names system = map (λ t. t.name) system.tasks ++ (map (λ i. i.name) system.isrs ++ map (λ a. a.name) system.alarms)

pub record AreFew (system : System) : Type 0 where
  pub tasks : length system.tasks ≤ 16
  pub isrs : length system.isrs ≤ 8
  -- 8 declared ones, and RES_SCHEDULER
  pub resources : length system.resources ≤ 9
  pub alarms : length system.alarms ≤ 16
  pub modes : length system.modes ≤ 4

abbrev pub AreBelow : ℕ → List ℕ → Type 0
AreBelow n ids = AllByRecursion (λ id. id < n) ids

-- each id of the task names an object
pub record IsTask (system : System) (task : Task) : Type 0 where
  pub resources : AreBelow (length system.resources) task.resources
  pub modes : AreBelow (length system.modes) task.modes

pub record IsAlarm (system : System) (alarm : Alarm) : Type 0 where
  pub counter : alarm.counter < length system.counters
  pub task : alarm.task < length system.tasks
  pub modes : AreBelow (length system.modes) alarm.modes

-- each name has the form of one
pub record AreNames (system : System) : Type 0 where
  pub code : list_all is_name (code_names system) ≡ true
  pub resources : list_all (λ r. is_name r.name) system.resources ≡ true
  pub counters : list_all is_name system.counters ≡ true
  pub modes : list_all is_name system.modes ≡ true

-- what stands once
pub record AreApart (system : System) : Type 0 where
  pub priorities : differ (λ s t. s.priority == t.priority) system.tasks ≡ true
  pub code : differ bytes_eq (code_names system) ≡ true
  pub counters : differ bytes_eq system.counters ≡ true
  pub modes : differ bytes_eq system.modes ≡ true

-- RES_SCHEDULER is the last resource, and no internal one
pub record EndsWithScheduler (resources : List Resource) : Type 0 where
  pub declared : List Resource
  pub ceiling : ℕ
  pub same : resources ≡ declared ++ record { name = scheduler; ceiling = ceiling; internal = false } ∷ []

pub record IsLawful (system : System) : Type 0 where
  pub few : AreFew system
  pub scheduler_last : EndsWithScheduler system.resources
  pub tasks : AllByRecursion (IsTask system) system.tasks
  pub alarms : AllByRecursion (IsAlarm system) system.alarms
  pub names : AreNames system
  pub apart : AreApart system
