-- Where a context stands after others were placed: where it stood, or where it was placed.
use Rattle.std.proofs.Common.{◌≡◌, ◌⊎◌, inl, inr, List, length, Option, Some, None, refl, sym, ◌∙◌, ap}
use Rattle.std.proofs.lemmas.Option.{none-some}
use Rattle.std.specs.Prelude.{is_some, cond, option_map}
use Rattle.oil_model.specs.declared.system.System.{System}
use Rattle.osek_kernel.specs.declared.context.Context.{Context}
use Rattle.osek_kernel.specs.declared.context.Context.TheVariants as contexts
use Rattle.osek_kernel.specs.declared.kernel.Reply.{Reply}
use Rattle.osek_kernel.specs.Contexts.{IsContext, context_count}
use Rattle.osek_kernel.specs.Positions.{position_of, placed, started, answered}
use Rattle.osek_machine.proofs.Placing.{contexts_apart, placed_here, placed_elsewhere, placed_count}

-- A context that stands somewhere after one was placed is that one, or it stood there.
pub after_placed : {P : Type 0} (system : System) (d c : Context) (q : Option P) (p : P) (xs : List (Option P))
    → IsContext system d → IsContext system c → length xs ≡ context_count system
    → position_of system (placed system d q xs) c ≡ Some p
    → ((c ≡ d) × (q ≡ Some p)) ⊎ (position_of system xs c ≡ Some p)
after_placed {P} system d c q p xs is there count e = elim (contexts_apart system c d there is) [
  | inl same ↦ inl (same, sym (placed_here system d q xs is count) ∙ (ap (position_of system (placed system d q xs)) (sym same) ∙ e))
  | inr other ↦ inr (sym (placed_elsewhere system d c q xs other) ∙ e)
]

-- the same after one was started, if one was
pub after_started : {P : Type 0} (system : System) (entry : Context → Option P) (who : Option Context) (c : Context) (p : P) (xs : List (Option P))
    → ((d : Context) → who ≡ Some d → IsContext system d) → IsContext system c → length xs ≡ context_count system
    → position_of system (started system entry who xs) c ≡ Some p
    → (entry c ≡ Some p) ⊎ (position_of system xs c ≡ Some p)
after_started system entry None c p xs exist there count e = inr e
after_started system entry (Some d) c p xs exist there count e = elim (after_placed system d c (entry d) p xs (exist d refl) there count e) [
  | inl here ↦ inl (ap entry here.0 ∙ here.1)
  | inr before ↦ inr before
]

-- the same after a service was answered: a context was started, or it is the caller that goes on, or it stood there
pub after_answered : {P : Type 0} (system : System) (entry : Context → Option P) (caller : Context) (next : P) (reply : Reply) (c : Context) (p : P) (xs : List (Option P))
    → ((d : Context) → option_map contexts.Task reply.activated ≡ Some d → IsContext system d) → IsContext system caller → IsContext system c → length xs ≡ context_count system
    → position_of system (answered system entry caller (Some next) reply xs) c ≡ Some p
    → (entry c ≡ Some p) ⊎ (((c ≡ caller) × (reply.ended ≡ None) × (next ≡ p)) ⊎ (position_of system xs c ≡ Some p))
after_answered {P} system entry caller next reply c p xs exist is there count e =
    elim (after_started system entry (option_map contexts.Task reply.activated) c p (placed system caller gone xs) exist there (placed_count system caller gone xs ∙ count) e) [
      | inl begun ↦ inl begun
      | inr before ↦ inr (elim (after_placed system caller c gone p xs is there count before) [
        | inl here ↦ inl (going reply.ended here.0 here.1)
        | inr stood ↦ inr stood
      ])
    ]
  where
    gone : Option P
    gone = cond (is_some reply.ended) None (Some next)

    going : (ended : Option Context) → c ≡ caller → cond (is_some ended) None (Some next) ≡ Some p → (c ≡ caller) × (ended ≡ None) × (next ≡ p)
    going None same h = (same, refl, cc)
    going (Some d) same h = absurd (none-some p h)
