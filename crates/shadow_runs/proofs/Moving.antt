-- Among the moves of a composed state are those of the machine: a live source that is taken while interrupts are open,
-- and the service that the running context calls at an exit of its block.
use Rattle.std.proofs.Common.{◌≡◌, ℕ, ◌<◌, true, false, cond, List, [], ◌++◌, length, map, Contains, Option, Some, Ok, Err, refl, sym, ◌∙◌, ap, ap₂, subst, option_map}
use Rattle.std.specs.Prelude.{slice_get, option_and_then}
use Rattle.std.specs.List.{range_with_len}
use Rattle.std.specs.Option.{option_map_or}
use Rattle.std.proofs.lemmas.List.Elements.{Contains-append_left, Contains-append_right}
use Rattle.std.proofs.lemmas.Option.{slice_get_within}
use Rattle.listed.specs.Lists.{all_of}
use Rattle.listed.specs.Steps.Options as options
use Rattle.osek_kernel.specs.declared.context.Context.{Context}
use Rattle.osek_kernel.specs.declared.kernel.Kernel.{Kernel}
use Rattle.osek_kernel.specs.Kernel.{interrupts_open}
use Rattle.osek_kernel.specs.Positions.{position_of, started, answered}
use Rattle.osek_kernel.specs.Running.{runs, dispatched}
use Rattle.osek_kernel.specs.Services.{service_of, code_number}
use Rattle.osek_kernel.specs.Served.{Served, served}
use Rattle.osek_kernel.specs.Sources.{source_count, source_at, is_live}
use Rattle.osek_kernel.specs.Taken.{taken}
use Rattle.osek_machine.specs.Events.{ServiceCall}
use Rattle.osek_machine.specs.Steps.{argument_in, number_in}
use Rattle.rv32_machine.specs.declared.turns.ServiceAt.{ServiceAt}
use Rattle.wcet_atomic_blocks.specs.declared.block.Block.{Block}
use Rattle.wcet_atomic_blocks.specs.Blocks.{IsBlock, is_service, services_of}
use Rattle.wcet_atomic_blocks.specs.NodeSets.{holds}
use Rattle.wcet_atomic_blocks.specs.PlantLaws.{HasNode}
use Rattle.wcet_atomic_blocks.specs.Plants.{PlantData, IsPlant}
use Rattle.wcet_atomic_blocks.proofs.GraphFacts.{at_slice}
use Rattle.abstract_sched.specs.declared.states.AbsState.{AbsState}
use Rattle.abstract_sched.specs.States.{kernel_of}
use Rattle.scheduler_moves.specs.declared.moves.Misuse.{Misuse}
use Rattle.scheduler_moves.specs.declared.moves.Move.{Move}
use Rattle.scheduler_moves.specs.declared.moves.MoveLabel.TheVariants as labels
use Rattle.scheduler_moves.specs.Composed.{composed}
use Rattle.scheduler_moves.specs.Moves.{entry_block, block_behind, running_in, after_take, take_move, live_sources, takes, Serving, serving_at, exits_in, after_service, service_move, servings, services, successors}
use Rattle.scheduler_moves.proofs.Composing.{CanCompose, composed_kernel, composed_positions}
use Rattle.shadow_runs.proofs.Behind.{AsksAt}
use Rattle.shadow_runs.proofs.Members.{kept_member, mapped_member, chosen_member, range_member, stepped, same_ok, all_gave}
use Rattle.shadow_runs.proofs.Numbers.{service_there, is_service_there}
use Rattle.shadow_runs.proofs.Planted.{there_is}

-- ---- Moves are takes and services

-- the services of a state that has moves, which stand behind its takes
record HaveMoves (plant : PlantData) (state : AbsState) (moves : List Move) : Type 0 where
  served : List Move
  gave : services plant state ≡ Ok served
  are : takes plant state ++ served ≡ moves

have_moves : (plant : PlantData) (state : AbsState) (moves : List Move) → successors plant state ≡ Ok moves → HaveMoves plant state moves
have_moves plant state moves e =
    let first = stepped (services plant state) (λ served. Ok (takes plant state ++ served)) moves e in
    record { served = first.middle; gave = first.gave; are = same_ok (takes plant state ++ first.middle) moves first.goes }

-- ---- A source is taken

-- the state after a source is taken
abbrev pub taken_to : PlantData → ℕ → Kernel → List (Option ℕ) → AbsState
taken_to plant source kernel blocks =
    let done = taken plant.system kernel (source_at plant.system source) in
    composed plant.system (dispatched plant.system done.kernel) (started plant.system (entry_block plant) done.started blocks)

pub takes_listed : (plant : PlantData) (kernel : Kernel) (blocks : List (Option ℕ)) (source : ℕ) (moves : List Move) (to : AbsState)
    → CanCompose plant.system kernel blocks
    → successors plant (composed plant.system kernel blocks) ≡ Ok moves → interrupts_open kernel ≡ true → source < source_count plant.system
    → is_live plant.system kernel.mode (source_at plant.system source) ≡ true → taken_to plant source kernel blocks ≡ to
    → Contains moves (record { label = labels.Take source; to = to })
takes_listed plant kernel blocks source moves to can succeeds interrupts within live same =
    let state : AbsState = composed plant.system kernel blocks in
    let all = have_moves plant state moves succeeds in
    let target : after_take plant state source ≡ to =
    ap₂ (taken_to plant source) (composed_kernel plant.system kernel blocks can) (composed_positions plant.system kernel blocks can) ∙ same in
    let listed : Contains (live_sources plant state) source =
    kept_member (λ s. is_live plant.system kernel.mode (source_at plant.system s)) (range_with_len 0 (source_count plant.system)) source live
    (range_member (source_count plant.system) source within) in
    let taken : Contains (map (take_move plant state) (live_sources plant state)) (take_move plant state source) = mapped_member (take_move plant state)
    (live_sources plant state) source listed in
    let opens : takes plant state ≡ map (take_move plant state) (live_sources plant state) =
    ap (λ b. cond b (map (take_move plant state) (live_sources plant state)) [])
    (ap interrupts_open (composed_kernel plant.system kernel blocks can) ∙ interrupts) in
    let among : Contains (takes plant state) (take_move plant state source) = subst (λ xs. Contains xs (take_move plant state source)) (sym opens) taken in
    let here : Contains moves (take_move plant state source) =
    subst (λ xs. Contains xs (take_move plant state source)) all.are
    (Contains-append_left (takes plant state) all.served (take_move plant state source) among) in
    subst (Contains moves) (ap (λ t. record { label = labels.Take source; to = t }) target) here

-- ---- A service is called

-- what the service answers that a call asks for
abbrev pub answer_to : PlantData → ServiceCall → Kernel → Served
answer_to plant call kernel = served plant.system kernel call.caller call.service (argument_in call.before)

serving_there : (plant : PlantData) → IsPlant plant → (call : ServiceCall) (asks : AsksAt plant call) (state : AbsState)
    → service_of (number_in call.before) ≡ Some call.service
    → serving_at plant state call.caller asks.at.number ≡ Some (record { node = asks.at.number; done = answer_to plant call (kernel_of state) })
serving_there plant is call asks state known =
    let service : ServiceAt = asks.serves.service in
    ap (λ (o : Option ServiceAt). options.◌>>=◌ o (λ at. option_map
    (λ s. record { node = asks.at.number; done = served plant.system (kernel_of state) call.caller s at.argument }) (service_of at.number)))
    (service_there plant is asks.at.number asks.at.node (Some service) asks.at.listed asks.service_is)
    ∙ (ap (option_map (λ s. record { node = asks.at.number; done = served plant.system (kernel_of state) call.caller s service.argument }))
    (ap service_of (sym asks.serves.number_is) ∙ known)
    ∙ ap (λ n. Some (record { node = asks.at.number; done = served plant.system (kernel_of state) call.caller call.service n })) (sym asks.serves.argument_is))

-- the node is an exit of the caller's block
pub at_exit : (plant : PlantData) → IsPlant plant → (kernel : Kernel) (blocks : List (Option ℕ)) (call : ServiceCall) (asks : AsksAt plant call)
    (number : ℕ) → CanCompose plant.system kernel blocks
    → position_of plant.system blocks call.caller ≡ Some number → HasNode plant asks.at.number number
    → Contains (exits_in plant (composed plant.system kernel blocks) call.caller) asks.at.number
at_exit plant is kernel blocks call asks number can began inside =
    let block = there_is (slice_get plant.blocks.blocks number) _ inside in
    let is_block : IsBlock plant.flow block.item = at_slice (IsBlock plant.flow) plant.blocks.blocks number block.item is.blocks.cut.each block.there in
    let node : ℕ = asks.at.number in
    let ecall : is_service plant.flow node ≡ true = is_service_there plant is node asks.at.node (Some asks.serves.service) asks.at.listed asks.service_is in
    let listed : Contains (services_of plant.flow) node =
    kept_member (is_service plant.flow) (range_with_len 0 (length plant.flow.nodes)) node ecall
    (range_member (length plant.flow.nodes) node (slice_get_within plant.flow.nodes node asks.at.node asks.at.listed)) in
    let exit : Contains block.item.exits node = subst (λ xs. Contains xs node) (sym is_block.exits)
    (kept_member (holds block.item.nodes) (services_of plant.flow) node block.holds listed) in
    let same : exits_in plant (composed plant.system kernel blocks) call.caller ≡ block.item.exits =
    ap (λ bs. option_map_or (λ (b : Block). b.exits) (option_and_then (slice_get plant.blocks.blocks) (position_of plant.system bs call.caller)) [])
    (composed_positions plant.system kernel blocks can)
    ∙ (ap (λ (o : Option ℕ). option_map_or (λ (b : Block). b.exits) (option_and_then (slice_get plant.blocks.blocks) o) []) began
    ∙ ap (λ (o : Option Block). option_map_or (λ (b : Block). b.exits) o []) block.there) in
    subst (λ xs. Contains xs node) (sym same) exit

-- the move of a service that isn't misused
record IsClean (plant : PlantData) (state : AbsState) (caller : Context) (serving : Serving) (move : Move) : Type 0 where
  clean : serving.done.reply.misuse ≡ false
  is : ◌≡◌ {A = Move} (record { label = labels.Service serving.node; to = after_service plant state caller serving }) move

is_clean : (plant : PlantData) (state : AbsState) (caller : Context) (serving : Serving) (move : Move) → service_move plant state caller serving ≡ Ok move
    → IsClean plant state caller serving move
is_clean plant state caller serving move e =
    let parts = by serving.done.reply.misuse (record { context = caller; node = serving.node; code = code_number serving.done.reply.code })
    (record { label = labels.Service serving.node; to = after_service plant state caller serving }) e in
    record { clean = parts.0; is = parts.1 }
  where
    by : (misuse : _) (bad : Misuse) (good : Move) → cond misuse (Err bad) (Ok good) ≡ Ok move → (misuse ≡ false) × (good ≡ move)
    by true bad good h = absurd cc
    by false bad good h = (refl, cc)

-- what follows where the state after a call is such
pub record IsServed (plant : PlantData) (kernel : Kernel) (call : ServiceCall) (node : ℕ) (moves : List Move) (to : AbsState) : Type 0 where
  pub clean : (answer_to plant call kernel).reply.misuse ≡ false
  pub listed : Contains moves (record { label = labels.Service node; to = to })

-- the state after the call
abbrev pub served_to : PlantData → ServiceCall → ℕ → Kernel → List (Option ℕ) → AbsState
served_to plant call node kernel blocks =
    let done = answer_to plant call kernel in
    composed plant.system (dispatched plant.system done.kernel)
    (answered plant.system (entry_block plant) call.caller (block_behind plant node) done.reply blocks)

pub serves_listed : (plant : PlantData) → IsPlant plant → (kernel : Kernel) (blocks : List (Option ℕ)) (call : ServiceCall) (asks : AsksAt plant call)
    (number : ℕ) (moves : List Move) (to : AbsState)
    → CanCompose plant.system kernel blocks → successors plant (composed plant.system kernel blocks) ≡ Ok moves
    → runs plant.system kernel ≡ Some call.caller → service_of (number_in call.before) ≡ Some call.service
    → position_of plant.system blocks call.caller ≡ Some number → HasNode plant asks.at.number number → served_to plant call asks.at.number kernel blocks ≡ to
    → IsServed plant kernel call asks.at.number moves to
serves_listed plant is kernel blocks call asks number moves to can succeeds running known began inside same =
    let state : AbsState = composed plant.system kernel blocks in
    let node : ℕ = asks.at.number in
    let own : kernel_of state ≡ kernel = composed_kernel plant.system kernel blocks can in
    let all = have_moves plant state moves succeeds in
    let serving : Serving = record { node = node; done = answer_to plant call (kernel_of state) } in
    let listed : Contains (servings plant state call.caller) serving =
    chosen_member (serving_at plant state call.caller) (exits_in plant state call.caller) node serving (serving_there plant is call asks state known)
    (at_exit plant is kernel blocks call asks number can began inside) in
    let runner : running_in plant state ≡ Some call.caller = ap (runs plant.system) own ∙ running in
    let gave : all_of (service_move plant state call.caller) (servings plant state call.caller) ≡ Ok all.served =
    sym (ap (λ (o : Option Context). option_map_or (λ caller. all_of (service_move plant state caller) (servings plant state caller)) o (Ok [])) runner)
    ∙ all.gave in
    let one = all_gave (service_move plant state call.caller) (servings plant state call.caller) all.served serving gave listed in
    let clean = is_clean plant state call.caller serving one.item one.gave in
    let target : after_service plant state call.caller serving ≡ to = ap₂ (served_to plant call node) own
    (composed_positions plant.system kernel blocks can) ∙ same in
    record {
      clean = ap (λ k. (answer_to plant call k).reply.misuse) (sym own) ∙ clean.clean;
      listed = subst (Contains moves) (sym clean.is ∙ ap (λ t. record { label = labels.Service node; to = t }) target)
          (subst (λ xs. Contains xs one.item) all.are (Contains-append_right (takes plant state) all.served one.item one.listed));
    }
