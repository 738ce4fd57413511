-- No column costs much, and no source that is ever live arrives much apart.
use Rattle.std.proofs.Common.{◌≡◌, ℕ, suc, ◌-◌, ◌^◌, ◌<◌, ◌≤◌, Bool, true, false, List, [], ◌∷◌, length, Option, Some, None, refl, sym, ap, ◌∙◌, subst, arith}
use Rattle.std.specs.Prelude.{not, ◌||◌, nat_lt, nat_eq, slice_get, unwrap_or, find, position, is_none, bytes_eq, option_map, option_and_then, All, cond}
use Rattle.std.specs.List.{list_all, list_any}
use Rattle.std.specs.Option.{option_map_or}
use Rattle.std.proofs.lemmas.Bool.{lt-ltb, ltb-false, not-true}
use Rattle.std.proofs.lemmas.List.Elements.{All-head, All-tail}
use Rattle.std.proofs.lemmas.List.Sums.{AllPass-from_list_all}
use Rattle.std.proofs.lemmas.Option.{get_or_from_slice_get, slice_get_within}
use Rattle.rv32_decode.specs.declared.instruction.Insn.{Insn}
use Rattle.rv32_decode.specs.Instructions.{class_of}
use Rattle.rv32_machine.specs.Code.{insn_at}
use Rattle.oil_model.specs.declared.system.Alarm.{Alarm}
use Rattle.oil_model.specs.declared.system.Isr.{Isr}
use Rattle.oil_model.specs.declared.system.System.{System}
use Rattle.osek_kernel.specs.declared.service.Service.{Service}
use Rattle.osek_kernel.specs.declared.source.Source.{Source}
use Rattle.osek_kernel.specs.declared.source.Source.TheVariants as sources
use Rattle.osek_kernel.specs.Sources.{alarm_distance, is_live, source_at}
use Rattle.timing_file.specs.declared.timing.NamedNumber.{NamedNumber}
use Rattle.timing_file.specs.declared.timing.Timing.{Timing}
use Rattle.timing_file.specs.Costs.{insn_cost, service_cost}
use Rattle.timing_file.specs.Lawful.{IsInRange, IsLawful}
use Rattle.timing_file.specs.Names.{ticks_of}
use Rattle.timing_file.specs.Names as named
use Rattle.timing_file.proofs.Bounds.{cost_of_class-le, cost_of_service-le, extra_at-small}
use Rattle.osek_machine.specs.Declarations.{distance_of, take_cost, ticks}
use Rattle.flow_graph.specs.declared.fault.CodeFault.{CodeFault}
use Rattle.flow_graph.specs.Graph.{entries_of}
use Rattle.flow_graph.specs.Judging.{alarm_fault, alarm_ticks, alarms_are_short, early_fault, entry_fault, is_set, is_short, lasts_short, names_fit}
use Rattle.wcet_atomic_blocks.specs.Plants.{PlantData, IsPlant}
use Rattle.scheduler_moves.specs.declared.moves.MoveLabel.{MoveLabel}
use Rattle.scheduler_moves.specs.declared.moves.MoveLabel.TheVariants as labels
use Rattle.row_build.specs.Columns as columns
use Rattle.row_build.specs.Columns.{Column, Start, In, By, Starts, Moves, Goes, Begins, Stands, cost, kernel_cost}
use Rattle.row_build.specs.Families.{is_ever_live}
use Rattle.row_laws.proofs.Totals.{any-passes}

-- ---- Costs

insn-small : (timing : Timing) (insn : Insn) (taken : Bool) (address : ℕ) → IsLawful timing → insn_cost timing (class_of insn) taken address ≤ 2 ^ 29
insn-small timing insn taken address lawful =
    let class = cost_of_class-le timing (class_of insn) taken lawful in
    let extra = extra_at-small timing.extra address lawful.extra in
    omega arith

service-small : (timing : Timing) (service : Service) (address : ℕ) → IsLawful timing → service_cost timing service address ≤ 2 ^ 29
service-small timing service address lawful =
    let own = cost_of_service-le timing.services service lawful.services in
    let extra = extra_at-small timing.extra address lawful.extra in
    omega arith

take-small : (timing : Timing) (source : Source) → IsLawful timing → take_cost timing source ≤ 2 ^ 29
take-small timing (sources.Alarm a) lawful = let most = lawful.alarm.1 in omega arith
take-small timing (sources.Isr i) lawful = let most = lawful.interrupt.1 in omega arith

kernel-small : (plant : PlantData) (label : MoveLabel) → IsLawful plant.timing → kernel_cost plant label ≤ 2 ^ 29
kernel-small plant (labels.Take source) lawful = take-small plant.timing (source_at plant.system source) lawful
kernel-small plant (labels.Service node) lawful = at (columns.service_at_node plant node)
  where
    at : (found : Option Service) → option_map_or (λ service. service_cost plant.timing service (columns.address_of plant node)) found 0 ≤ 2 ^ 29
    at None = omega arith
    at (Some service) = service-small plant.timing service (columns.address_of plant node) lawful

-- no column costs more than 2^29 cycles
pub cost-small : (plant : PlantData) (column : Column) → IsLawful plant.timing → cost plant column ≤ 2 ^ 29
cost-small plant (Starts (In mode)) lawful = omega arith
cost-small plant (Starts (By going)) lawful = kernel-small plant going.move.label lawful
cost-small plant (Moves going) lawful = kernel-small plant going.move.label lawful
cost-small plant (Goes along) lawful = at (insn_at plant.image (columns.address_of plant along.node))
  where
    at : (found : Option Insn)
        → option_map_or (λ insn. insn_cost plant.timing (class_of insn) (columns.is_taken along.edge.kind) (columns.address_of plant along.node)) found 0
        ≤ 2 ^ 29
    at None = omega arith
    at (Some insn) = insn-small plant.timing insn (columns.is_taken along.edge.kind) (columns.address_of plant along.node) lawful
cost-small plant (Begins block) lawful = omega arith
cost-small plant (Stands node) lawful = omega arith

-- ---- Distances of interrupts

found-passes : {A : Type 0} (P : A → Type 0) (p : A → Bool) (xs : List A) (x : A) → All P xs → find p xs ≡ Some x → P x
found-passes P p [] x all is = absurd cc
found-passes P p (y ∷ ys) x all is = by (p y) is (found-passes P p ys x (All-tail P y ys all))
  where
    by : (b : Bool) → cond b (Some y) (find p ys) ≡ Some x → (find p ys ≡ Some x → P x) → P x
    by true found later = let same : y ≡ x = cc in subst P same (All-head P y ys all)
    by false found later = later found

named-small : (numbers : List NamedNumber) (name : List ℕ) → All IsInRange numbers → unwrap_or (named.number_named numbers name) 0 < 2 ^ 31
named-small numbers name all = at (find (λ n. bytes_eq n.name name) numbers) refl
  where
    at : (found : Option NamedNumber) → find (λ n. bytes_eq n.name name) numbers ≡ found → unwrap_or (option_map (λ n. n.number) found) 0 < 2 ^ 31
    at None is = omega arith
    at (Some number) is = (found-passes IsInRange (λ n. bytes_eq n.name name) numbers number all is).1

isr-small : (system : System) (timing : Timing) (i : ℕ) → IsLawful timing → distance_of system timing (sources.Isr i) ≤ 2 ^ 31
isr-small system timing i lawful = at (slice_get system.isrs i)
  where
    at : (found : Option Isr) → unwrap_or (option_and_then (λ isr. named.distance_of timing isr.name) found) 0 ≤ 2 ^ 31
    at None = omega arith
    at (Some isr) = let small = named-small timing.distances isr.name lawful.distances.range in omega arith

-- ---- Distances of alarms

none_here : {A : Type 0} (b : Bool) (x : A) (o : Option A) → cond b o (Some x) ≡ None → (b ≡ true) × (o ≡ None)
none_here true x o is = (refl, is)
none_here false x o is = absurd cc

none_entered : (found : Option ℕ) (others : Option CodeFault) → entry_fault found others ≡ None → others ≡ None
none_entered None others is = is
none_entered (Some context) others is = absurd cc

alarms-short : (system : System) (timing : Timing) (entries : List (Option ℕ)) → early_fault system timing entries ≡ None
    → alarms_are_short system timing ≡ true
alarms-short system timing entries none =
    let named = none_here (names_fit system timing) _ _ none in
    let entered = none_entered (position is_none entries) (alarm_fault system timing) named.1 in
    (none_here (alarms_are_short system timing) _ None entered).0

all_at : {A : Type 0} (p : A → Bool) (xs : List A) (i : ℕ) (x : A) → list_all p xs ≡ true → slice_get xs i ≡ Some x → p x ≡ true
all_at p xs i x all is = ap p (sym (get_or_from_slice_get xs i x x is)) ∙ AllPass-from_list_all p xs all i x (slice_get_within xs i x is)

then_true : (a b : Bool) → a ≡ true → (not a || b) ≡ true → b ≡ true
then_true true b holds is = is
then_true false b holds is = absurd cc

lasting : (alarm : Alarm) (found : Option ℕ) → lasts_short alarm found ≡ true → alarm_distance alarm (unwrap_or found 0) ≤ 2 ^ 31
lasting alarm None short = omega arith
lasting alarm (Some ticks) short =
    let most = ltb-false (2 ^ 31 - 1) (alarm_distance alarm ticks) (not-true _ short) in
    omega arith

set_by : (mode : ℕ) (modes : List ℕ) → list_any (nat_eq mode) modes ≡ true → nat_lt 0 (length modes) ≡ true
set_by mode [] is = absurd cc
set_by mode (first ∷ modes) is = lt-ltb 0 (suc (length modes)) (omega arith)

alarm-small : (system : System) (timing : Timing) (a mode : ℕ) → alarms_are_short system timing ≡ true → is_live system mode (sources.Alarm a) ≡ true
    → distance_of system timing (sources.Alarm a) ≤ 2 ^ 31
alarm-small system timing a mode short live = at (slice_get system.alarms a) refl live
  where
    at : (found : Option Alarm) → slice_get system.alarms a ≡ found → list_any (nat_eq mode) (option_map_or (λ alarm. alarm.modes) found []) ≡ true
        → option_map_or (λ alarm. alarm_distance alarm (ticks system timing alarm.counter)) found 0 ≤ 2 ^ 31
    at None there live = omega arith
    at (Some alarm) there live =
        lasting alarm (alarm_ticks system timing alarm)
        (then_true (is_set alarm) (lasts_short alarm (alarm_ticks system timing alarm)) (set_by mode alarm.modes live)
        (all_at (is_short system timing) system.alarms a alarm short there))

-- ---- Sources

-- two arrivals of a source that is live in some mode lie at most 2^31 cycles apart
pub distance-small : (plant : PlantData) (source : ℕ) → IsPlant plant → is_ever_live plant source ≡ true
    → distance_of plant.system plant.timing (source_at plant.system source) ≤ 2 ^ 31
distance-small plant source is live =
    let mode = any-passes (λ mode. is_live plant.system mode (source_at plant.system source)) _ live in
    at (source_at plant.system source) mode.0 mode.1
  where
    at : (found : Source) (mode : ℕ) → is_live plant.system mode found ≡ true → distance_of plant.system plant.timing found ≤ 2 ^ 31
    at (sources.Alarm a) mode live =
        alarm-small plant.system plant.timing a mode (alarms-short plant.system plant.timing (entries_of plant.image plant.system) is.graph.early) live
    at (sources.Isr i) mode live = isr-small plant.system plant.timing i is.timing
