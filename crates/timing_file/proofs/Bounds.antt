-- The greatest cost of a step is small: the extra cycles of an address are at most 256 times 1,048,576.
use Rattle.std.proofs.Common.{ℕ, ◌*◌, ◌^◌, ◌≤◌, Bool, true, false, cond, List, [], ◌∷◌, length, Option, Some, None, arith, inl, inr}
use Rattle.std.proofs.lemmas.Bool.{cases_lt}
use Rattle.std.proofs.lemmas.List.{get_or_past}
use Rattle.std.specs.Prelude.{slice_index}
use Rattle.std.specs.List.{AllByRecursion}
use Rattle.std.specs.Option.{option_map_or}
use Rattle.std.proofs.lemmas.List.Sums.{sum_by-cons}
use Rattle.std.proofs.lemmas.List.Elements.{recursion_from_All}
use Rattle.rv32_decode.specs.declared.instruction.Class.{Class}
use Rattle.rv32_decode.specs.declared.instruction.Class.TheVariants as classes
use Rattle.osek_kernel.specs.declared.service.Service.{Service}
use Rattle.timing_file.specs.declared.costs.ClassCosts.{ClassCosts}
use Rattle.timing_file.specs.declared.costs.ServiceCosts.{ServiceCosts}
use Rattle.timing_file.specs.declared.timing.Extra.{Extra}
use Rattle.timing_file.specs.declared.timing.Timing.{Timing}
use Rattle.timing_file.specs.Costs.{class_cost, cost_of_class, cost_of_service, place_of_class, place_of_service, lies_in, extra_of, extra_at}
use Rattle.timing_file.specs.Lawful.{IsExtra, AreCosts, AreExtras, IsLawful}

either_le : (test : Bool) (x y most : ℕ) → x ≤ most → y ≤ most → cond test x y ≤ most
either_le true x y most a b = a
either_le false x y most a b = b

extra_of-le : (extra : Extra) (address : ℕ) → IsExtra extra → extra_of extra address ≤ 2 ^ 20
extra_of-le extra address fits = either_le (lies_in extra.from extra.to address) extra.cycles 0 (2 ^ 20) fits.1 (omega arith)

extra_at-le : (extras : List Extra) (address : ℕ) → AllByRecursion IsExtra extras → extra_at extras address ≤ length extras * 2 ^ 20
extra_at-le [] address each = omega arith
extra_at-le (extra ∷ more) address each =
    let first = extra_of-le extra address each.0 in
    let rest = extra_at-le more address each.1 in
    rw (sum_by-cons (λ e. extra_of e address) extra more) (omega (arith, first, rest))

pub extra_at-small : (extras : List Extra) (address : ℕ) → AreExtras extras → extra_at extras address ≤ 2 ^ 28
extra_at-small extras address are =
    let few = are.few in
    let sum = extra_at-le extras address (recursion_from_All IsExtra extras are.each) in
    omega (arith, few, sum)

-- a cost of a table, and 0 past its end
cost_in-le : (n : ℕ) (costs : List ℕ) (place : ℕ) → AreCosts n costs → slice_index costs place ≤ 2 ^ 20
cost_in-le n costs place are =
    elim (cases_lt place (length costs)) [
      | inl inside ↦ (are.each place 0 inside).1
      | inr past ↦ rw (get_or_past costs place 0 past) (omega arith)
    ]

class_cost-le : (costs : ClassCosts) (class : Class) → AreCosts 8 costs.costs → class_cost costs class ≤ 2 ^ 20
class_cost-le costs class are = at (place_of_class class)
  where
    at : (place : Option ℕ) → option_map_or (slice_index costs.costs) place 0 ≤ 2 ^ 20
    at None = omega arith
    at (Some place) = cost_in-le 8 costs.costs place are

pub cost_of_class-le : (timing : Timing) (class : Class) (taken : Bool) → IsLawful timing → cost_of_class timing class taken ≤ 2 ^ 20
cost_of_class-le timing classes.Branch true lawful = lawful.taken.1
cost_of_class-le timing classes.Branch false lawful = class_cost-le timing.classes classes.Branch lawful.classes
cost_of_class-le timing classes.Alu taken lawful = class_cost-le timing.classes classes.Alu lawful.classes
cost_of_class-le timing classes.Mul taken lawful = class_cost-le timing.classes classes.Mul lawful.classes
cost_of_class-le timing classes.Div taken lawful = class_cost-le timing.classes classes.Div lawful.classes
cost_of_class-le timing classes.Load taken lawful = class_cost-le timing.classes classes.Load lawful.classes
cost_of_class-le timing classes.Store taken lawful = class_cost-le timing.classes classes.Store lawful.classes
cost_of_class-le timing classes.Jump taken lawful = class_cost-le timing.classes classes.Jump lawful.classes
cost_of_class-le timing classes.Fence taken lawful = class_cost-le timing.classes classes.Fence lawful.classes
cost_of_class-le timing classes.System taken lawful = class_cost-le timing.classes classes.System lawful.classes

pub cost_of_service-le : (costs : ServiceCosts) (service : Service) → AreCosts 13 costs.costs → cost_of_service costs service ≤ 2 ^ 20
cost_of_service-le costs service are = cost_in-le 13 costs.costs (place_of_service service) are
