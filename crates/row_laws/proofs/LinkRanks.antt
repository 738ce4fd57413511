-- How many nodes lie before a node, where for some nodes the one before is known.
use Rattle.std.proofs.Common.{◌≡◌, ℕ, suc, zero, ◌+◌, ◌<◌, ◌≤◌, Option, Some, None, inl, inr, refl, sym, ◌∙◌, ap, subst, arith}
use Rattle.std.specs.Option.{option_map_or}
use Rattle.std.proofs.lemmas.Bool.{cases_lt}

-- the number of nodes before the node, of which no more than so many are counted
abbrev pub nodes_before : (ℕ → Option ℕ) → ℕ → ℕ → ℕ
nodes_before before zero node = 0
nodes_before before (suc limit) node = option_map_or (λ other. suc (nodes_before before limit other)) (before node) 0

-- a higher limit gives the same number
pub record IsEnough (before : ℕ → Option ℕ) (limit node : ℕ) : Type 0 where
  pub same : (more : ℕ) → limit ≤ more → nodes_before before (suc more) node ≡ nodes_before before more node

abbrev pub HasLimit : (ℕ → Option ℕ) → ℕ → Type 0
HasLimit before node = (limit : ℕ) × IsEnough before limit node

-- ---- Each node has a limit

pub first_has_limit : (before : ℕ → Option ℕ) (node : ℕ) → before node ≡ None → HasLimit before node
first_has_limit before node none = (0, record { same = λ more above. zero_at (suc more) ∙ sym (zero_at more) })
  where
    zero_at : (limit : ℕ) → nodes_before before limit node ≡ 0
    zero_at zero = refl
    zero_at (suc limit) = ap (λ o. option_map_or (λ other. suc (nodes_before before limit other)) o 0) none

one_more : (before : ℕ → Option ℕ) (node other limit : ℕ) → before node ≡ Some other
    → nodes_before before (suc limit) node ≡ suc (nodes_before before limit other)
one_more before node other limit is = ap (λ o. option_map_or (λ m. suc (nodes_before before limit m)) o 0) is

pub next_has_limit : (before : ℕ → Option ℕ) (node other : ℕ) → before node ≡ Some other → HasLimit before other → HasLimit before node
next_has_limit before node other is has = (suc has.0, record { same = same })
  where
    same : (more : ℕ) → suc has.0 ≤ more → nodes_before before (suc more) node ≡ nodes_before before more node
    same zero above = absurd (omega arith)
    same (suc more) above =
        one_more before node other (suc more) is ∙ ap suc (has.1.same more (omega arith)) ∙ sym (one_more before node other more is)

-- ---- One limit for all

is_enough_above : (before : ℕ → Option ℕ) (limit higher node : ℕ) → limit ≤ higher → IsEnough before limit node → IsEnough before higher node
is_enough_above before limit higher node above enough = record { same = λ more over. enough.same more (omega arith) }

pub one_limit : (before : ℕ → Option ℕ) (count : ℕ) → ((node : ℕ) → node < count → HasLimit before node)
    → (limit : ℕ) × ((node : ℕ) → node < count → IsEnough before limit node)
one_limit before zero each = (0, λ node within. absurd (omega arith))
one_limit before (suc count) each =
    let others = one_limit before count (λ node within. each node (omega arith)) in
    let last = each count (omega arith) in (
      others.0 + last.0,
      λ node within. elim (cases_lt node count) [
        | inl below ↦ is_enough_above before others.0 (others.0 + last.0) node (omega arith) (others.1 node below)
        | inr above ↦ let same : count ≡ node = omega arith in
            subst (IsEnough before (others.0 + last.0)) same (is_enough_above before last.0 (others.0 + last.0) count (omega arith) last.1)
      ],
    )

-- the node before has fewer before it
pub fewer_before : (before : ℕ → Option ℕ) (limit node other : ℕ) → IsEnough before limit node → before node ≡ Some other
    → nodes_before before limit other < nodes_before before limit node
fewer_before before limit node other enough is =
    let more = one_more before node other limit is in
    let same = enough.same limit (omega arith) in
    omega (arith, more, same)
