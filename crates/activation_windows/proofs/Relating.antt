-- What stands for each context in two lists at once, after the same change of both or a change of one.
use Rattle.std.proofs.Common.{◌≡◌, inl, inr, cond, List, length, Option, Some, None, refl, sym, ◌∙◌, subst, is_some, option_map}
use Rattle.oil_model.specs.declared.system.System.{System}
use Rattle.osek_kernel.specs.declared.context.Context.{Context}
use Rattle.osek_kernel.specs.declared.context.Context.TheVariants as contexts
use Rattle.osek_kernel.specs.declared.kernel.Reply.{Reply}
use Rattle.osek_kernel.specs.Contexts.{IsContext, context_count}
use Rattle.osek_kernel.specs.Positions.{position_of, placed, started, answered}
use Rattle.osek_machine.proofs.Placing.{contexts_apart, placed_here, placed_elsewhere, placed_count}

-- for each context, what stands for it in two lists
abbrev pub Relates : {P Q : Type 0} → System → (Context → Option P → Option Q → Type 0) → List (Option P) → List (Option Q) → Type 0
Relates system R xs ys = (c : Context) → IsContext system c → R c (position_of system xs c) (position_of system ys c)

-- both change at one context
pub both_placed : {P Q : Type 0} (system : System) (R : Context → Option P → Option Q → Type 0) (d : Context) (p : Option P) (q : Option Q)
    (xs : List (Option P)) (ys : List (Option Q))
    → IsContext system d → length xs ≡ context_count system → length ys ≡ context_count system → R d p q
    → Relates system R xs ys → Relates system R (placed system d p xs) (placed system d q ys)
both_placed {P} {Q} system R d p q xs ys is count others here relates = λ c there. elim (contexts_apart system c d there is) [
  | inl same ↦ subst (λ (e : Context). R e (position_of system (placed system d p xs) e) (position_of system (placed system d q ys) e)) (sym same)
      (subst (λ (x : Option P). R d x (position_of system (placed system d q ys) d)) (sym (placed_here system d p xs is count))
      (subst (R d p) (sym (placed_here system d q ys is others)) here))
  | inr other ↦ subst (λ (x : Option P). R c x (position_of system (placed system d q ys) c)) (sym (placed_elsewhere system d c p xs other))
      (subst (R c (position_of system xs c)) (sym (placed_elsewhere system d c q ys other)) (relates c there))
]

-- the first one changes
pub first_placed : {P Q : Type 0} (system : System) (R : Context → Option P → Option Q → Type 0) (d : Context) (p : Option P)
    (xs : List (Option P)) (ys : List (Option Q))
    → IsContext system d → length xs ≡ context_count system → R d p (position_of system ys d)
    → Relates system R xs ys → Relates system R (placed system d p xs) ys
first_placed {P} {Q} system R d p xs ys is count here relates = λ c there. elim (contexts_apart system c d there is) [
  | inl same ↦ subst (λ (e : Context). R e (position_of system (placed system d p xs) e) (position_of system ys e)) (sym same)
      (subst (λ (x : Option P). R d x (position_of system ys d)) (sym (placed_here system d p xs is count)) here)
  | inr other ↦ subst (λ (x : Option P). R c x (position_of system ys c)) (sym (placed_elsewhere system d c p xs other)) (relates c there)
]

-- the second one changes
pub second_placed : {P Q : Type 0} (system : System) (R : Context → Option P → Option Q → Type 0) (d : Context) (q : Option Q)
    (xs : List (Option P)) (ys : List (Option Q))
    → IsContext system d → length ys ≡ context_count system → R d (position_of system xs d) q
    → Relates system R xs ys → Relates system R xs (placed system d q ys)
second_placed {P} {Q} system R d q xs ys is count here relates = λ c there. elim (contexts_apart system c d there is) [
  | inl same ↦ subst (λ (e : Context). R e (position_of system xs e) (position_of system (placed system d q ys) e)) (sym same)
      (subst (R d (position_of system xs d)) (sym (placed_here system d q ys is count)) here)
  | inr other ↦ subst (R c (position_of system xs c)) (sym (placed_elsewhere system d c q ys other)) (relates c there)
]

-- a context starts in both
pub both_started : {P Q : Type 0} (system : System) (R : Context → Option P → Option Q → Type 0) (entry : Context → Option P) (other : Context → Option Q)
    (who : Option Context) (xs : List (Option P)) (ys : List (Option Q))
    → ((d : Context) → who ≡ Some d → IsContext system d) → length xs ≡ context_count system → length ys ≡ context_count system
    → ((d : Context) → who ≡ Some d → IsContext system d → R d (entry d) (other d))
    → Relates system R xs ys → Relates system R (started system entry who xs) (started system other who ys)
both_started system R entry other None xs ys exist count others here relates = relates
both_started system R entry other (Some d) xs ys exist count others here relates =
    both_placed system R d (entry d) (other d) xs ys (exist d refl) count others (here d refl (exist d refl)) relates

-- a service is answered in both
pub both_answered : {P Q : Type 0} (system : System) (R : Context → Option P → Option Q → Type 0) (entry : Context → Option P) (other : Context → Option Q)
    (caller : Context) (next : Option P) (then : Option Q) (reply : Reply) (xs : List (Option P)) (ys : List (Option Q))
    → ((d : Context) → option_map contexts.Task reply.activated ≡ Some d → IsContext system d) → IsContext system caller
    → length xs ≡ context_count system → length ys ≡ context_count system
    → ((d : Context) → option_map contexts.Task reply.activated ≡ Some d → IsContext system d → R d (entry d) (other d))
    → R caller (cond (is_some reply.ended) None next) (cond (is_some reply.ended) None then)
    → Relates system R xs ys → Relates system R (answered system entry caller next reply xs) (answered system other caller then reply ys)
both_answered system R entry other caller next then reply xs ys exist is count others here on relates =
    both_started system R entry other (option_map contexts.Task reply.activated)
    (placed system caller (cond (is_some reply.ended) None next) xs) (placed system caller (cond (is_some reply.ended) None then) ys)
    exist (placed_count system caller (cond (is_some reply.ended) None next) xs ∙ count)
    (placed_count system caller (cond (is_some reply.ended) None then) ys ∙ others) here
    (both_placed system R caller (cond (is_some reply.ended) None next) (cond (is_some reply.ended) None then) xs ys is count others on relates)
