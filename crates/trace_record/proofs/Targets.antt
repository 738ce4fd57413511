-- The label of a move tells the state that it leads to. So a move is found by its label.
use Rattle.std.proofs.Common.{◌≡◌, ℕ, Bool, true, false, cond, List, [], ◌++◌, Contains, map, inl, inr, Option, Some, None, Ok, Err, refl, sym, ◌∙◌, ap, ap₂, subst, option_map}
use Rattle.std.specs.Prelude.{slice_get, option_and_then}
use Rattle.std.specs.List.{find}
use Rattle.std.specs.Option.{option_map_or}
use Rattle.std.proofs.lemmas.List.Elements.{Contains-append_cases}
use Rattle.std.proofs.lemmas.Option.{none-some, same_Some}
use Rattle.listed.specs.Lists.{all_of}
use Rattle.listed.specs.Steps.Options as options
use Rattle.rv32_machine.specs.declared.turns.ServiceAt.{ServiceAt}
use Rattle.osek_kernel.specs.declared.context.Context.{Context}
use Rattle.osek_kernel.specs.declared.service.Service.{Service}
use Rattle.osek_kernel.specs.Kernel.{interrupts_open}
use Rattle.osek_kernel.specs.Services.{service_of, code_number}
use Rattle.osek_kernel.specs.Served.{served}
use Rattle.wcet_atomic_blocks.specs.Plants.{PlantData}
use Rattle.abstract_sched.specs.declared.states.AbsState.{AbsState}
use Rattle.abstract_sched.specs.States.{kernel_of}
use Rattle.scheduler_moves.specs.declared.moves.Misuse.{Misuse}
use Rattle.scheduler_moves.specs.declared.moves.Move.{Move}
use Rattle.scheduler_moves.specs.declared.moves.MoveLabel.{MoveLabel}
use Rattle.scheduler_moves.specs.declared.moves.MoveLabel.TheVariants as labels
use Rattle.scheduler_moves.specs.Moves.{running_in, after_take, take_move, live_sources, takes, Serving, serving_at, exits_in, after_service, service_move, servings, services, successors}
use Rattle.row_build.specs.Columns.{Going, moves_or_none}
use Rattle.shadow_runs.proofs.Members.{mapped_member, stepped, same_ok}
use Rattle.trace_check.specs.Verdict.{move_with}
use Rattle.trace_record.proofs.Members.{no_member, chosen_from, mapped_from, gave_from, found_first}

-- ---- The state that a label leads to

record Serves (plant : PlantData) (state : AbsState) (node : ℕ) (to : AbsState) : Type 0 where
  caller : Context
  runs : running_in plant state ≡ Some caller
  serving : Serving
  stands : serving_at plant state caller node ≡ Some serving
  leads : after_service plant state caller serving ≡ to

abbrev LeadsTo : PlantData → AbsState → MoveLabel → AbsState → Type 0
LeadsTo plant state (labels.Take source) to = after_take plant state source ≡ to
LeadsTo plant state (labels.Service node) to = Serves plant state node to

one_state : (plant : PlantData) (state : AbsState) (label : MoveLabel) (to other : AbsState) → LeadsTo plant state label to
    → LeadsTo plant state label other → to ≡ other
one_state plant state (labels.Take source) to other one two = sym one ∙ two
one_state plant state (labels.Service node) to other one two =
    let who : one.caller ≡ two.caller = same_Some one.caller two.caller (sym one.runs ∙ two.runs) in
    let what : one.serving ≡ two.serving =
    same_Some one.serving two.serving (sym one.stands ∙ (ap (λ (c : Context). serving_at plant state c node) who ∙ two.stands)) in
    sym one.leads ∙ (ap₂ (after_service plant state) who what ∙ two.leads)

-- ---- Every move leads there

take_leads : (plant : PlantData) (state : AbsState) (move : Move) → Contains (takes plant state) move → LeadsTo plant state move.label move.to
take_leads plant state move has = by (interrupts_open (kernel_of state)) has
  where
    by : (b : Bool) → Contains (cond b (map (take_move plant state) (live_sources plant state)) []) move → LeadsTo plant state move.label move.to
    by true there =
        let from = mapped_from (take_move plant state) (live_sources plant state) move there in
        subst (λ (m : Move). LeadsTo plant state m.label m.to) from.2 refl
    by false there = no_member move there

-- what is answered is answered at the node
answered_at : (plant : PlantData) (state : AbsState) (caller : Context) (node : ℕ) (serving : Serving)
    → serving_at plant state caller node ≡ Some serving → serving.node ≡ node
answered_at plant state caller node serving e = by (option_and_then (λ leaving. leaving.service) (slice_get plant.flow.leaving node)) e
  where
    within : (at : ServiceAt) (o : Option Service)
        → option_map (λ service. record { node = node; done = served plant.system (kernel_of state) caller service at.argument }) o ≡ Some serving
        → serving.node ≡ node
    within at None is = absurd (none-some serving is)
    within at (Some service) is =
        ap (λ (s : Serving). s.node)
        (sym (same_Some (record { node = node; done = served plant.system (kernel_of state) caller service at.argument }) serving is))

    by : (o : Option ServiceAt) → options.◌>>=◌ o (λ at. option_map
        (λ service. record { node = node; done = served plant.system (kernel_of state) caller service at.argument }) (service_of at.number)) ≡ Some serving
        → serving.node ≡ node
    by None is = absurd (none-some serving is)
    by (Some at) is = within at (service_of at.number) is

moved_by_it : (misuse : Bool) (bad : Misuse) (good move : Move) → cond misuse (Err bad) (Ok good) ≡ Ok move → good ≡ move
moved_by_it true bad good move e = absurd cc
moved_by_it false bad good move e = same_ok good move e

service_leads : (plant : PlantData) (state : AbsState) (moves : List Move) (move : Move) → services plant state ≡ Ok moves → Contains moves move
    → LeadsTo plant state move.label move.to
service_leads plant state moves move e has = by (running_in plant state) refl e
  where
    by : (who : Option Context) → running_in plant state ≡ who
        → option_map_or (λ caller. all_of (service_move plant state caller) (servings plant state caller)) who (Ok []) ≡ Ok moves
        → LeadsTo plant state move.label move.to
    by None is gave = no_member move (subst (λ l. Contains l move) (sym (same_ok [] moves gave)) has)
    by (Some caller) is gave =
        let from = gave_from (service_move plant state caller) (servings plant state caller) moves move gave has in
        let at = chosen_from (serving_at plant state caller) (exits_in plant state caller) from.0 from.1 in
        let good : Move = record { label = labels.Service from.0.node; to = after_service plant state caller from.0 } in
        let same : good ≡ move = moved_by_it from.0.done.reply.misuse
        (record { context = caller; node = from.0.node; code = code_number from.0.done.reply.code }) good move from.2 in
        subst (λ (m : Move). LeadsTo plant state m.label m.to) same (record {
          caller = caller;
          runs = is;
          serving = from.0;
          stands = ap (serving_at plant state caller) (answered_at plant state caller at.0 from.0 at.1) ∙ at.1;
          leads = refl;
        })

moves_lead : (plant : PlantData) (state : AbsState) (moves : List Move) (move : Move) → successors plant state ≡ Ok moves → Contains moves move
    → LeadsTo plant state move.label move.to
moves_lead plant state moves move e has =
    let first = stepped (services plant state) (λ served. Ok (takes plant state ++ served)) moves e in
    let all = same_ok (takes plant state ++ first.middle) moves first.goes in
    elim (Contains-append_cases (takes plant state) first.middle move (subst (λ l. Contains l move) (sym all) has)) [
      | inl taken ↦ take_leads plant state move taken
      | inr called ↦ service_leads plant state first.middle move first.gave called
    ]

-- ---- A move is found by its label

same_move : (move : Move) (label : MoveLabel) (to : AbsState) → move.label ≡ label → move.to ≡ to → move ≡ record { label = label; to = to }
same_move move label to is leads = ap₂ (λ l s. record { label = l; to = s }) is leads

pub finds_move : (plant : PlantData) (state : AbsState) (moves : List Move) (label : MoveLabel) (to : AbsState) (test : MoveLabel → Bool)
    → successors plant state ≡ Ok moves → Contains moves (record { label = label; to = to })
    → test label ≡ true → ((other : MoveLabel) → test other ≡ true → other ≡ label)
    → move_with plant state test ≡ Some (record { from = state; move = record { label = label; to = to } })
finds_move plant state moves label to test succeeds has passes only =
    ap (λ r. find (λ (going : Going). test going.move.label) (gone (moves_or_none r))) succeeds
    ∙ found_first (λ (going : Going). test going.move.label) (gone moves) (record { from = state; move = record { label = label; to = to } })
    (mapped_member (λ m. record { from = state; move = m }) moves (record { label = label; to = to }) has) passes the_one
  where
    gone : List Move → List Going
    gone ms = map (λ m. record { from = state; move = m }) ms

    the_one : (going : Going) → Contains (gone moves) going → test going.move.label ≡ true
        → going ≡ record { from = state; move = record { label = label; to = to } }
    the_one going among passed =
        let from = mapped_from (λ m. record { from = state; move = m }) moves going among in
        let is : from.0.label ≡ label = only from.0.label (subst (λ (g : Going). test g.move.label ≡ true) (sym from.2) passed) in
        let leads : from.0.to ≡ to =
        one_state plant state label from.0.to to
        (subst (λ (l : MoveLabel). LeadsTo plant state l from.0.to) is (moves_lead plant state moves from.0 succeeds from.1))
        (moves_lead plant state moves (record { label = label; to = to }) succeeds has) in
        sym from.2 ∙ ap (λ m. record { from = state; move = m }) (same_move from.0 label to is leads)
