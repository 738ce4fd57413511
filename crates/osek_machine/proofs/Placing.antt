-- Where contexts stand after one of them was placed.
use Rattle.std.proofs.Common.{◌≡◌, ℕ, ◌<◌, ◌⊎◌, inl, inr, Bool, true, false, List, length, Option, None, refl, ap, arith}
use Rattle.std.specs.Prelude.{nat_eq}
use Rattle.std.proofs.lemmas.Bool.{eqb-true, eqb-false}
use Rattle.std.proofs.lemmas.List.{get_or-set_same, get_or-set_other, length-set}
use Rattle.oil_model.specs.declared.system.System.{System}
use Rattle.osek_kernel.specs.declared.context.Context.{Context}
use Rattle.osek_kernel.specs.declared.context.Context.TheVariants as contexts
use Rattle.osek_kernel.specs.Contexts.{IsContext, place_of, context_count}
use Rattle.osek_kernel.specs.Positions.{position_of, placed}

numbers_apart : (m n : ℕ) (b : Bool) → nat_eq m n ≡ b → (m ≡ n) ⊎ (m ≡ n → ⊥)
numbers_apart m n true e = inl (eqb-true m n e)
numbers_apart m n false e = inr (eqb-false m n e)

-- two contexts are one, or have two places
pub contexts_apart : (system : System) (c d : Context) → IsContext system c → IsContext system d
    → (c ≡ d) ⊎ (place_of system c ≡ place_of system d → ⊥)
contexts_apart system (contexts.Task t) (contexts.Task u) h k = elim (numbers_apart t u (nat_eq t u) refl) [
  | inl same ↦ inl (ap contexts.Task same)
  | inr other ↦ inr other
]
contexts_apart system (contexts.Isr i) (contexts.Isr j) h k = elim (numbers_apart i j (nat_eq i j) refl) [
  | inl same ↦ inl (ap contexts.Isr same)
  | inr other ↦ inr (λ e. other (omega arith))
]
contexts_apart system (contexts.Task t) (contexts.Isr j) h k = inr (λ e. omega arith)
contexts_apart system (contexts.Isr i) (contexts.Task u) h k = inr (λ e. omega arith)

pub place_within : (system : System) (c : Context) → IsContext system c → place_of system c < context_count system
place_within system (contexts.Task t) h = omega arith
place_within system (contexts.Isr i) h = omega arith

pub placed_here : {P : Type 0} (system : System) (c : Context) (p : Option P) (xs : List (Option P))
    → IsContext system c → length xs ≡ context_count system → position_of system (placed system c p xs) c ≡ p
placed_here system c p xs is count =
    let within : place_of system c < length xs = (let w = place_within system c is in omega arith) in
    get_or-set_same xs (place_of system c) p None within

pub placed_elsewhere : {P : Type 0} (system : System) (c d : Context) (p : Option P) (xs : List (Option P))
    → (place_of system d ≡ place_of system c → ⊥) → position_of system (placed system c p xs) d ≡ position_of system xs d
placed_elsewhere system c d p xs apart = get_or-set_other xs (place_of system c) (place_of system d) p None apart

pub placed_count : {P : Type 0} (system : System) (c : Context) (p : Option P) (xs : List (Option P))
    → length (placed system c p xs) ≡ length xs
placed_count system c p xs = length-set xs (place_of system c) p
