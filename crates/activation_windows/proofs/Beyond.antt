-- Open calls beyond those of a loop's string: whether an invocation lies in the range of a loop.
use Rattle.std.proofs.Common.{◌≡◌, ℕ, Bool, true, false, cond, List, [], ◌∷◌, ◌++◌, ◌⊎◌, inl, inr, length, Option, Some, None, refl, sym, ◌∙◌, ap}
use Rattle.std.specs.Prelude.{nat_eq, ◌==◌, ◌&&◌, ◌||◌, slice_get}
use Rattle.std.specs.Cmp.Lexicographic.{pointwise}
use Rattle.std.specs.List.{starts_with}
use Rattle.std.specs.Option.{option_map_or}
use Rattle.std.proofs.lemmas.Option.{none-some, same_Some}
use Rattle.timing_file.specs.declared.timing.Loop.{Loop}
use Rattle.flow_graph.specs.declared.node.Node.{Node}
use Rattle.wcet_atomic_blocks.specs.Loops.{in_range, same_string, is_inside, is_called_inside, lies_within}

-- the open calls beyond the sites; none where they don't begin with them
abbrev pub beyond : List ℕ → List ℕ → Option (List ℕ)
beyond [] calls = Some calls
beyond (site ∷ sites) [] = None
beyond (site ∷ sites) (call ∷ calls) = cond (nat_eq site call) (beyond sites calls) None

abbrev pub is_string : Option (List ℕ) → Bool
is_string None = false
is_string (Some []) = true
is_string (Some (call ∷ calls)) = false

-- a call beyond the sites is in the range
abbrev pub called_by : Loop → Option (List ℕ) → Bool
called_by l None = false
called_by l (Some []) = false
called_by l (Some (call ∷ calls)) = in_range l call

-- the invocation of the sites is in the range: at its place, or at its call that is open
abbrev pub lies_by : Loop → ℕ → Option (List ℕ) → Bool
lies_by l address None = false
lies_by l address (Some []) = in_range l address
lies_by l address (Some (call ∷ calls)) = in_range l call

-- ---- What the tests of nodes say

first_apart : (here same : Bool) (rest : Option (List ℕ)) → same ≡ is_string rest → (here && same) ≡ is_string (cond here rest None)
first_apart true same rest e = e
first_apart false same rest e = refl

pub same_is : (sites calls : List ℕ) → pointwise nat_eq sites calls ≡ is_string (beyond sites calls)
same_is [] [] = refl
same_is [] (call ∷ calls) = refl
same_is (site ∷ sites) [] = refl
same_is (site ∷ sites) (call ∷ calls) =
    first_apart (nat_eq site call) (pointwise nat_eq sites calls) (beyond sites calls) (same_is sites calls)

and_true : (b : Bool) → (b && true) ≡ b
and_true true = refl
and_true false = refl

or_false : (b : Bool) → (b || false) ≡ b
or_false true = refl
or_false false = refl

and_false : (b : Bool) → (b && false) ≡ false
and_false true = refl
and_false false = refl

called_apart : (l : Loop) (at here begins : Bool) (rest : Option (List ℕ)) → (at && begins) ≡ called_by l rest
    → (at && (here && begins)) ≡ called_by l (cond here rest None)
called_apart l at true begins rest e = e
called_apart l at false begins rest e = and_false at

pub called_is : (l : Loop) (sites calls : List ℕ)
    → (option_map_or (in_range l) (slice_get calls (length sites)) false && starts_with nat_eq calls sites) ≡ called_by l (beyond sites calls)
called_is l [] [] = refl
called_is l [] (call ∷ calls) = and_true (in_range l call)
called_is l (site ∷ sites) [] = refl
called_is l (site ∷ sites) (call ∷ calls) =
    called_apart l (option_map_or (in_range l) (slice_get calls (length sites)) false) (nat_eq site call)
    (starts_with nat_eq calls sites) (beyond sites calls) (called_is l sites calls)

either_lies : (l : Loop) (address : ℕ) (rest : Option (List ℕ)) → ((is_string rest && in_range l address) || called_by l rest) ≡ lies_by l address rest
either_lies l address None = refl
either_lies l address (Some []) = or_false (in_range l address)
either_lies l address (Some (call ∷ calls)) = refl

-- where the contexts are one
pub string_is : (head node : Node) → (head.context == node.context) ≡ true → same_string head node ≡ is_string (beyond head.sites node.sites)
string_is head node same = rw same (same_is head.sites node.sites)

pub inside_is : (head : Node) (l : Loop) (node : Node) → (head.context == node.context) ≡ true
    → is_inside head l node ≡ (is_string (beyond head.sites node.sites) && in_range l node.address)
inside_is head l node same = ap (λ b. b && in_range l node.address) (string_is head node same)

called_inside_is : (head : Node) (l : Loop) (node : Node) → (head.context == node.context) ≡ true
    → is_called_inside head l node ≡ called_by l (beyond head.sites node.sites)
called_inside_is head l node same = rw same (called_is l head.sites node.sites)

pub within_is : (head : Node) (l : Loop) (node : Node) → (head.context == node.context) ≡ true
    → lies_within head l node ≡ lies_by l node.address (beyond head.sites node.sites)
within_is head l node same =
    ap (λ b. b || is_called_inside head l node) (inside_is head l node same)
    ∙ (ap (λ b. (is_string (beyond head.sites node.sites) && in_range l node.address) || b) (called_inside_is head l node same)
    ∙ either_lies l node.address (beyond head.sites node.sites))

-- ---- One more call

pub beyond_more : (sites calls rest : List ℕ) (call : ℕ) → beyond sites calls ≡ Some rest
    → beyond sites (calls ++ call ∷ []) ≡ Some (rest ++ call ∷ [])
beyond_more [] calls rest call e = ap (λ (cs : List ℕ). Some (cs ++ call ∷ [])) (same_Some calls rest e)
beyond_more (site ∷ sites) [] rest call e = absurd (none-some rest e)
beyond_more (site ∷ sites) (first ∷ calls) rest call e = more (nat_eq site first) e (beyond_more sites calls rest call)
  where
    more : (here : Bool) → cond here (beyond sites calls) None ≡ Some rest
        → (beyond sites calls ≡ Some rest → beyond sites (calls ++ call ∷ []) ≡ Some (rest ++ call ∷ []))
        → cond here (beyond sites (calls ++ call ∷ [])) None ≡ Some (rest ++ call ∷ [])
    more true is before = before is
    more false is before = absurd (none-some rest is)

pub beyond_none : (sites calls : List ℕ) (call : ℕ) → beyond sites calls ≡ None
    → (beyond sites (calls ++ call ∷ []) ≡ None) ⊎ (beyond sites (calls ++ call ∷ []) ≡ Some [])
beyond_none [] calls call e = absurd (none-some calls (sym e))
beyond_none (site ∷ sites) (first ∷ calls) call e = none (nat_eq site first) e (beyond_none sites calls call)
  where
    none : (here : Bool) → cond here (beyond sites calls) None ≡ None
        → (beyond sites calls ≡ None → (beyond sites (calls ++ call ∷ []) ≡ None) ⊎ (beyond sites (calls ++ call ∷ []) ≡ Some []))
        → (cond here (beyond sites (calls ++ call ∷ [])) None ≡ None) ⊎ (cond here (beyond sites (calls ++ call ∷ [])) None ≡ Some [])
    none true is before = before is
    none false is before = inl refl
beyond_none (site ∷ sites) [] call e = alone (nat_eq site call) sites
  where
    alone : (here : Bool) (others : List ℕ) → (cond here (beyond others []) None ≡ None) ⊎ (cond here (beyond others []) None ≡ Some [])
    alone true [] = inr refl
    alone true (other ∷ others) = inl refl
    alone false others = inl refl
