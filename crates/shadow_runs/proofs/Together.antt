-- Where a context stands in two lists after the same change of both: how it stands in the code, and its block.
use Rattle.std.proofs.Common.{◌≡◌, ◌⊎◌, inl, inr, List, length, Option, Some, None, refl, sym, ◌∙◌, ap}
use Rattle.std.specs.Prelude.{is_some, cond, option_map}
use Rattle.std.proofs.lemmas.Option.{none-some, same_Some}
use Rattle.oil_model.specs.declared.system.System.{System}
use Rattle.osek_kernel.specs.declared.context.Context.{Context}
use Rattle.osek_kernel.specs.declared.context.Context.TheVariants as contexts
use Rattle.osek_kernel.specs.declared.kernel.Reply.{Reply}
use Rattle.osek_kernel.specs.Contexts.{IsContext, context_count}
use Rattle.osek_kernel.specs.Positions.{position_of, placed, started, answered}
use Rattle.osek_machine.proofs.Placing.{contexts_apart, placed_here, placed_elsewhere, placed_count}

-- ---- One context is placed

-- who stands somewhere is the one that was placed, or stands where it stood
pub placed_together : {P Q : Type 0} (system : System) (d c : Context) (q : Option P) (r : Option Q) (p : P) (xs : List (Option P)) (ys : List (Option Q))
    → IsContext system d → IsContext system c → length xs ≡ context_count system → length ys ≡ context_count system
    → position_of system (placed system d q xs) c ≡ Some p
    → ((c ≡ d) × (q ≡ Some p) × (position_of system (placed system d r ys) c ≡ r))
    ⊎ ((position_of system xs c ≡ Some p) × (position_of system (placed system d r ys) c ≡ position_of system ys c))
placed_together system d c q r p xs ys is there count others e = elim (contexts_apart system c d there is) [
  | inl same ↦ inl (
    same,
    sym (placed_here system d q xs is count) ∙ (ap (position_of system (placed system d q xs)) (sym same) ∙ e),
    ap (position_of system (placed system d r ys)) same ∙ placed_here system d r ys is others,
  )
  | inr other ↦ inr (sym (placed_elsewhere system d c q xs other) ∙ e, placed_elsewhere system d c r ys other)
]

-- ---- A context starts

-- who stands somewhere has started, or stands where it stood
pub started_together : {P Q : Type 0} (system : System) (entry : Context → Option P) (other : Context → Option Q) (who : Option Context) (c : Context) (p : P)
    (xs : List (Option P)) (ys : List (Option Q))
    → ((d : Context) → who ≡ Some d → IsContext system d) → IsContext system c → length xs ≡ context_count system → length ys ≡ context_count system
    → position_of system (started system entry who xs) c ≡ Some p
    → ((entry c ≡ Some p) × (position_of system (started system other who ys) c ≡ other c))
    ⊎ ((position_of system xs c ≡ Some p) × (position_of system (started system other who ys) c ≡ position_of system ys c))
started_together system entry other None c p xs ys exist there count others e = inr (e, refl)
started_together system entry other (Some d) c p xs ys exist there count others e =
    elim (placed_together system d c (entry d) (other d) p xs ys (exist d refl) there count others e) [
      | inl here ↦ inl (ap entry here.0 ∙ here.1, here.2 ∙ ap other (sym here.0))
      | inr stood ↦ inr stood
    ]

-- ---- A service is answered

-- who stands somewhere has started, or is the caller that goes on, or stands where it stood
pub answered_together : {P Q : Type 0} (system : System) (entry : Context → Option P) (other : Context → Option Q) (caller : Context) (next : P)
    (block : Option Q)
    (reply : Reply) (c : Context) (p : P) (xs : List (Option P)) (ys : List (Option Q))
    → ((d : Context) → option_map contexts.Task reply.activated ≡ Some d → IsContext system d) → IsContext system caller → IsContext system c
    → length xs ≡ context_count system → length ys ≡ context_count system
    → position_of system (answered system entry caller (Some next) reply xs) c ≡ Some p
    → ((entry c ≡ Some p) × (position_of system (answered system other caller block reply ys) c ≡ other c))
    ⊎ (((c ≡ caller) × (reply.ended ≡ None) × (next ≡ p) × (position_of system (answered system other caller block reply ys) c ≡ block))
    ⊎ ((position_of system xs c ≡ Some p) × (position_of system (answered system other caller block reply ys) c ≡ position_of system ys c)))
answered_together {P} {Q} system entry other caller next block reply c p xs ys exist is there count others e =
    elim (started_together system entry other (option_map contexts.Task reply.activated) c p (placed system caller gone xs)
    (placed system caller gone_too ys) exist there
    (placed_count system caller gone xs ∙ count) (placed_count system caller gone_too ys ∙ others) e) [
      | inl begun ↦ inl begun
      | inr before ↦ inr (elim (placed_together system caller c gone gone_too p xs ys is there count others before.0) [
        | inl here ↦ inl (going reply.ended here.0 here.1 (before.1 ∙ here.2))
        | inr stood ↦ inr (stood.0, before.1 ∙ stood.1)
      ])
    ]
  where
    gone : Option P
    gone = cond (is_some reply.ended) None (Some next)

    gone_too : Option Q
    gone_too = cond (is_some reply.ended) None block

    now : Option Q
    now = position_of system (answered system other caller block reply ys) c

    going : (ended : Option Context) → c ≡ caller → cond (is_some ended) None (Some next) ≡ Some p → now ≡ cond (is_some ended) None block
        → (c ≡ caller) × (ended ≡ None) × (next ≡ p) × (now ≡ block)
    going None same h at = (same, refl, same_Some next p h, at)
    going (Some d) same h at = absurd (none-some p h)
