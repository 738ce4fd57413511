-- Calls of services, step by step.
use Rattle.std.specs.Prelude.{ℕ, List, [], slice_get, Option, option_map, option_and_then}
use Rattle.std.specs.Option.{option_map_or}
use Rattle.listed.specs.Steps.Options as options
use Rattle.osek_kernel.specs.declared.context.Context.{Context}
use Rattle.osek_kernel.specs.Services.{service_of}
use Rattle.osek_kernel.specs.Served.{served}
use Rattle.wcet_atomic_blocks.specs.Plants.{PlantData}
use Rattle.abstract_sched.specs.declared.states.AbsState.{AbsState}
use Rattle.abstract_sched.specs.States.{kernel_of}
use Rattle.scheduler_moves.specs.declared.serving.Called.{Called}
use Rattle.scheduler_moves.specs.Moves.{Serving}

-- the exits of a block, if there is one
abbrev pub exits_at : PlantData → Option ℕ → List ℕ
exits_at plant block = option_map_or (λ b. b.exits) (option_and_then (slice_get plant.blocks.blocks) block) []

-- the service that the node calls
abbrev pub called_at : PlantData → ℕ → Option Called
called_at plant node = options.◌>>=◌ (option_and_then (λ leaving. leaving.service) (slice_get plant.flow.leaving node)) (λ at.
    option_map (λ service. record { node = node; service = service; argument = at.argument }) (service_of at.number))

-- what is answered to it
abbrev pub serving_of : PlantData → AbsState → Context → Called → Serving
serving_of plant state caller called = record {
  node = called.node;
  done = served plant.system (kernel_of state) caller called.service called.argument;
}
