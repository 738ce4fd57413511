-- Calls of services, step by step, are those of the definition.
use Rattle.std.proofs.Common.{◌≡◌, ℕ, Option, Some, None, refl, ap, ◌∙◌, sym}
use Rattle.std.specs.Prelude.{option_map, option_and_then, slice_get}
use Rattle.listed.specs.Steps.Options as options
use Rattle.osek_kernel.specs.declared.context.Context.{Context}
use Rattle.osek_kernel.specs.Services.{service_of}
use Rattle.wcet_atomic_blocks.specs.Plants.{PlantData}
use Rattle.abstract_sched.specs.declared.states.AbsState.{AbsState}
use Rattle.scheduler_moves.specs.declared.serving.Called.{Called}
use Rattle.scheduler_moves.specs.Moves.{serving_at}
use Rattle.scheduler_moves.specs.Working.Called.{called_at, serving_of}

map_twice : {A B C : Type 0} (f : A → B) (g : B → C) (o : Option A) → option_map (λ x. g (f x)) o ≡ option_map g (option_map f o)
map_twice f g None = refl
map_twice f g (Some x) = refl

map_behind : {A B C : Type 0} (o : Option A) (gives : A → Option B) (whole : A → Option C) (g : B → C) → ((x : A) → whole x ≡ option_map g (gives x))
    → options.◌>>=◌ o whole ≡ option_map g (options.◌>>=◌ o gives)
map_behind None gives whole g each = refl
map_behind (Some x) gives whole g each = each x

-- what is answered at a node is what is answered to its call
pub serving_called : (plant : PlantData) (state : AbsState) (caller : Context) (node : ℕ)
    → serving_at plant state caller node ≡ option_map (serving_of plant state caller) (called_at plant node)
serving_called plant state caller node =
    map_behind (option_and_then (λ leaving. leaving.service) (slice_get plant.flow.leaving node)) _ _ (serving_of plant state caller)
    (λ at. map_twice (λ service. record { node = node; service = service; argument = at.argument }) (serving_of plant state caller) (service_of at.number))

-- a call at the node, and none
pub serving_some : (plant : PlantData) (state : AbsState) (caller : Context) (node : ℕ) (found : Option Called) (called : Called)
    → found ≡ called_at plant node → found ≡ Some called → serving_at plant state caller node ≡ Some (serving_of plant state caller called)
serving_some plant state caller node found called is was =
    serving_called plant state caller node ∙ ap (option_map (serving_of plant state caller)) (sym is ∙ was)

never : {A : Type 0} (o : Option A) → ((x : A) → o ≡ Some x → ⊥) → o ≡ None
never None isnt = refl
never (Some x) isnt = absurd (isnt x refl)

pub serving_none : (plant : PlantData) (state : AbsState) (caller : Context) (node : ℕ) (found : Option Called)
    → found ≡ called_at plant node → ((called : Called) → found ≡ Some called → ⊥) → serving_at plant state caller node ≡ None
serving_none plant state caller node found is isnt =
    serving_called plant state caller node ∙ ap (option_map (serving_of plant state caller)) (sym is ∙ never found isnt)
