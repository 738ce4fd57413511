-- What steps cost at most, in cycles.
use Rattle.std.specs.Prelude.{ℕ, ◌+◌, ◌-◌, ◌&&◌, nat_le, if◌then◌else◌, Bool, true, false, List, Option, Some, None, slice_index, sum_by}
use Rattle.std.specs.Option.{option_map_or}
use Rattle.rv32_decode.specs.declared.instruction.Class.{Class}
use Rattle.rv32_decode.specs.declared.instruction.Class.TheVariants as classes
use Rattle.osek_kernel.specs.declared.service.Service.{Service}
use Rattle.osek_kernel.specs.declared.service.Service.TheVariants as services
use Rattle.osek_kernel.specs.Services.{number_of}
use Rattle.timing_file.specs.declared.costs.ClassCosts.{ClassCosts}
use Rattle.timing_file.specs.declared.costs.ServiceCosts.{ServiceCosts}
use Rattle.timing_file.specs.declared.timing.Extra.{Extra}
use Rattle.timing_file.specs.declared.timing.Timing.{Timing}

-- the place of a class in the table of classes; none for the class that services have
abbrev pub place_of_class : Class → Option ℕ
place_of_class classes.Alu = Some 0
place_of_class classes.Mul = Some 1
place_of_class classes.Div = Some 2
place_of_class classes.Load = Some 3
place_of_class classes.Store = Some 4
place_of_class classes.Branch = Some 5
place_of_class classes.Jump = Some 6
place_of_class classes.Fence = Some 7
place_of_class classes.System = None

abbrev pub class_cost : ClassCosts → Class → ℕ
class_cost costs class = option_map_or (slice_index costs.costs) (place_of_class class) 0

-- the place of a service in the table of services: in the order of their numbers, which begin with 1
abbrev pub place_of_service : Service → ℕ
place_of_service services.EndIsr = 12
place_of_service service = number_of service - 1

abbrev pub cost_of_service : ServiceCosts → Service → ℕ
cost_of_service costs service = slice_index costs.costs (place_of_service service)

-- whether the address lies in the range, its ends included
abbrev pub lies_in : ℕ → ℕ → ℕ → Bool
lies_in from to address = nat_le from address && nat_le address to

-- the extra cycles of an address: the sum over all ranges in which it lies
abbrev pub extra_of : Extra → ℕ → ℕ
extra_of extra address = if lies_in extra.from extra.to address then extra.cycles else 0

abbrev pub extra_at : List Extra → ℕ → ℕ
extra_at extras address = sum_by (λ extra. extra_of extra address) extras

-- a branch whose comparison holds has a cost of its own
abbrev pub cost_of_class : Timing → Class → Bool → ℕ
cost_of_class timing classes.Branch true = timing.taken
cost_of_class timing class taken = class_cost timing.classes class

-- what an instruction step at an address costs at most
abbrev pub insn_cost : Timing → Class → Bool → ℕ → ℕ
insn_cost timing class taken address = cost_of_class timing class taken + extra_at timing.extra address

-- what a service step at an address costs at most
abbrev pub service_cost : Timing → Service → ℕ → ℕ
service_cost timing service address = cost_of_service timing.services service + extra_at timing.extra address
