-- The costs of a timing file.
use Rattle.std.specs.Prelude.{ℕ, ◌^◌, List, [], ◌∷◌, false, codes, Option, Some, None}
use Rattle.serde_json.specs.Data.{Data}
use Rattle.serde_json.specs.Find.{get}
use Rattle.listed.specs.Steps.Options.{◌>>=◌}
use Rattle.json_fields.specs.Numbers.{whole_in}
use Rattle.timing_file.specs.declared.costs.ClassCosts.{ClassCosts}
use Rattle.timing_file.specs.declared.costs.ServiceCosts.{ServiceCosts}
use Rattle.timing_file.specs.declared.tables.Costs.{Costs}
use Rattle.rv32_decode.specs.declared.instruction.Class.TheVariants.{Branch}
use Rattle.timing_file.specs.Costs.{class_cost}
use Rattle.timing_file.specs.Form.{class_keys_of, service_keys}

-- 1 to 1,048,576 cycles
abbrev pub cost_in : Data → Option ℕ
cost_in d = whole_in 1 (2 ^ 20) d

abbrev pub cost_at : List ℕ → Data → Option ℕ
cost_at key d = get key d >>= cost_in

-- the cost at the key, or the default where there is none
abbrev pub or_default : ℕ → Option Data → Option ℕ
or_default default None = Some default
or_default default (Some d) = cost_in d

abbrev pub cost_or : ℕ → Data → List ℕ → Option ℕ
cost_or default d key = or_default default (get key d)

-- the costs at the keys, in their order
abbrev pub costs_at : ℕ → Data → List (List ℕ) → Option (List ℕ)
costs_at default d [] = Some []
costs_at default d (key ∷ keys) = do
  cost ← cost_or default d key
  costs ← costs_at default d keys
  Some (cost ∷ costs)

abbrev pub table_of : List (List ℕ) → Data → Option (List ℕ)
table_of keys d = cost_at (codes "default") d >>= λ default. costs_at default d keys

abbrev pub class_costs_of : Data → Option ClassCosts
class_costs_of d = table_of (class_keys_of false) d >>= λ costs. Some (record { costs = costs })

abbrev pub service_costs_of : Data → Option ServiceCosts
service_costs_of d = table_of service_keys d >>= λ costs. Some (record { costs = costs })

-- a branch whose comparison holds costs what each branch does, unless the table gives it a cost
unfoldable pub costs_of : Data → Option Costs
costs_of d = do
  file ← get (codes "version") d
  version ← whole_in 1 2 file
  table ← get (codes "classes") d
  classes ← class_costs_of table
  taken ← cost_or (class_cost classes Branch) table (codes "branch_taken")
  kernel ← get (codes "services") d
  services ← service_costs_of kernel
  alarm ← cost_at (codes "alarm") d
  interrupt ← cost_at (codes "interrupt") d
  Some (record { classes = classes; taken = taken; services = services; alarm = alarm; interrupt = interrupt })
