-- How a search goes on.
use Rattle.std.proofs.Common.{◌≡◌, ℕ, ◌+◌, ◌<◌, ◌≤◌, List, [], ◌∷◌, ◌++◌, length, get_or, refl, sym, ap, ◌∙◌, subst, inl, inr, append_assoc, arith}
use Rattle.std.specs.Prelude.{true, slice_get, All, Contains, Some, Ok, Err, Result, ◌⊎◌}
use Rattle.std.proofs.lemmas.List.{append-nil, get_or_append_left}
use Rattle.std.proofs.lemmas.List.Elements.{All-nil, All-append, All-weaker, All-contains, Contains-get_or, Contains-append_left, Contains-push, Contains-push_cases}
use Rattle.std.proofs.lemmas.Option.{get_or_from_slice_get, slice_get-get_or, slice_get_within}
use Rattle.listed.specs.declared.fault.Fault.{Fault}
use Rattle.listed.specs.declared.fault.Fault.TheVariants.{Kind, Memory}
use Rattle.listed.specs.Lists.{differ}
use Rattle.wcet_atomic_blocks.specs.Plants.{PlantData}
use Rattle.abstract_sched.specs.declared.states.AbsState.{AbsState}
use Rattle.abstract_sched.specs.States.{same_state}
use Rattle.scheduler_moves.specs.declared.moves.Misuse.{Misuse}
use Rattle.scheduler_moves.specs.declared.moves.Move.{Move}
use Rattle.scheduler_moves.specs.Closed.{AreListed, MovesStay, IsClosed}
use Rattle.scheduler_moves.specs.Moves.{initial, successors}
use Rattle.state_search.specs.Reached.{IsReached, starts, leads}
use Rattle.state_search.specs.declared.fault.SearchKind.{SearchKind}
use Rattle.state_search.specs.Least.{IsLeastWithin, IsCause}
use Rattle.state_search.specs.Searching.{SearchData, IsSearch, IsStep, Steps}
use Rattle.state_search.specs.Working.Found.{Adds, HasStarts, IsTargetOf, GrowsBy, IsLeftAlong, TellsMisuse}

below_or_at : (m n : ℕ) → m < n + 1 → (m < n) ⊎ (m ≡ n)
below_or_at m n lt = grind arith

-- ---- Where modes start

pub nothing_yet : (plant : PlantData) (search : SearchData) → search ≡ record { states = []; done = 0 } → HasStarts plant 0 search
nothing_yet plant search is = rw is (record { reached = All-nil _; starts = λ mode lt. absurd (omega arith); done = refl })

pub one_more_start : (plant : PlantData) (mode : ℕ) (state : AbsState) (before after : SearchData) → mode < length plant.system.modes
    → state ≡ initial plant mode → HasStarts plant mode before → Adds state before after → HasStarts plant (mode + 1) after
one_more_start plant mode state before after lt at has adds = record {
  reached = subst (λ xs. All (IsReached plant) xs) (sym adds.is)
      (All-append (IsReached plant) before.states adds.more has.reached
      (All-weaker (λ other. other ≡ state) (IsReached plant)
      (λ other is. subst (IsReached plant) (sym (is ∙ at)) (starts mode lt)) adds.more adds.only));
  starts = λ m below. one m (below_or_at m mode below);
  done = adds.done ∙ has.done;
}
  where
    one : (m : ℕ) → (m < mode) ⊎ (m ≡ mode) → Contains after.states (initial plant m)
    one m (inl below) = subst (λ xs. Contains xs (initial plant m)) (sym adds.is) (Contains-append_left before.states adds.more (initial plant m) (has.starts m below))
    one m (inr is) = subst (λ n. Contains after.states (initial plant n)) (sym is) (subst (Contains after.states) at adds.has)

pub begun : (plant : PlantData) (search : SearchData) → HasStarts plant (length plant.system.modes) search
    → differ same_state search.states ≡ true → IsSearch plant search
begun plant search has once = record {
  are = record { reached = has.reached; once = once };
  starts = has.starts;
  stays = λ place state lt at. absurd (omega (arith, has.done));
}

-- ---- States after moves

pub none_made : (search : SearchData) → GrowsBy [] search search
none_made search = record {
  more = [];
  is = sym (append-nil search.states);
  are = All-nil _;
  has = λ move made. let lt : made.0 < 0 = made.1 in absurd (omega arith);
  done = refl;
}

IsTargetOf-push : (moves : List Move) (move : Move) (state : AbsState) → IsTargetOf moves state → IsTargetOf (moves ++ move ∷ []) state
IsTargetOf-push moves move state target = record {
  move = target.move;
  made = Contains-append_left moves (move ∷ []) target.move target.made;
  to = target.to;
}

-- one move after others
pub one_more_made : (moves : List Move) (move : Move) (first before after : SearchData) → GrowsBy moves first before
    → Adds move.to before after → GrowsBy (moves ++ move ∷ []) first after
one_more_made moves move first before after grows adds = record {
  more = grows.more ++ adds.more;
  is = adds.is ∙ (ap (λ xs. xs ++ adds.more) grows.is ∙ append_assoc first.states grows.more adds.more);
  are = All-append (IsTargetOf (moves ++ move ∷ [])) grows.more adds.more
      (All-weaker (IsTargetOf moves) (IsTargetOf (moves ++ move ∷ [])) (IsTargetOf-push moves move) grows.more grows.are)
      (All-weaker (λ other. other ≡ move.to) (IsTargetOf (moves ++ move ∷ []))
      (λ other is. record { move = move; made = Contains-push moves move; to = sym is }) adds.more adds.only);
  has = λ other made. has other (Contains-push_cases moves move other made);
  done = adds.done ∙ grows.done;
}
  where
    has : (other : Move) → Contains moves other ⊎ (move ≡ other) → Contains after.states other.to
    has other (inl made) = subst (λ xs. Contains xs other.to) (sym adds.is) (Contains-append_left before.states adds.more other.to (grows.has other made))
    has other (inr is) = subst (λ m. Contains after.states m.to) is adds.has

-- ---- A step

pub same_some : {a b : AbsState} → Some a ≡ Some b → a ≡ b
same_some is = cc

found_reached : (plant : PlantData) (before : SearchData) (place : ℕ) (state : AbsState) → IsSearch plant before → slice_get before.states place ≡ Some state
    → IsReached plant state
found_reached plant before place state known at =
    All-contains (IsReached plant) before.states state known.are.reached
    (subst (Contains before.states) (get_or_from_slice_get before.states place state state at)
    (Contains-get_or before.states place state (slice_get_within before.states place state at)))

pub step_made : (plant : PlantData) (before after : SearchData) (state : AbsState) (moves : List Move) → IsSearch plant before
    → slice_get before.states before.done ≡ Some state → successors plant state ≡ Ok moves
    → IsLeftAlong moves before after → IsStep plant before after
step_made plant before after state moves known at moved left = record {
  search = record {
    are = record { reached = reached; once = left.once };
    starts = λ mode lt. kept (initial plant mode) (known.starts mode lt);
    stays = λ place other lt stands. stays place other stands (below_or_at place before.done (subst (λ n. place < n) done lt));
  };
  done = done;
}
  where
    grows : GrowsBy moves before left.grown
    grows = left.grows

    states : after.states ≡ before.states ++ grows.more
    states = ap (λ s. s.states) left.is ∙ grows.is

    done : after.done ≡ before.done + 1
    done = ap (λ s. s.done) left.is ∙ ap (λ n. n + 1) grows.done

    within : before.done < length before.states
    within = slice_get_within before.states before.done state at

    here : IsReached plant state
    here = found_reached plant before before.done state known at

    reached : All (IsReached plant) after.states
    reached = subst (λ xs. All (IsReached plant) xs) (sym states)
        (All-append (IsReached plant) before.states grows.more known.are.reached
        (All-weaker (IsTargetOf moves) (IsReached plant)
        (λ other target. leads state other here (record { moves = moves; moved = moved; move = target.move; made = target.made; to = target.to }))
        grows.more grows.are))

    kept : (other : AbsState) → Contains before.states other → Contains after.states other
    kept other has = subst (λ xs. Contains xs other) (sym states) (Contains-append_left before.states grows.more other has)

    listed : (result : Result (List Move) Misuse) → AreListed before.states result → AreListed after.states result
    listed (Ok ms) all = All-weaker (λ (m : Move). Contains before.states m.to) (λ (m : Move). Contains after.states m.to) (λ m has. kept m.to has) ms all
    listed (Err misuse) none = absurd none

    earlier : (k : ℕ) (other : AbsState) → k < length before.states → slice_get after.states k ≡ Some other → slice_get before.states k ≡ Some other
    earlier k other lt stands =
        slice_get-get_or before.states k other lt ∙ ap Some (sym (get_or_append_left before.states grows.more other k lt)
        ∙ (ap (λ xs. get_or xs k other) (sym states) ∙ get_or_from_slice_get after.states k other other stands))

    all : AreListed after.states (Ok moves)
    all = λ k (d : Move) lt. subst (λ xs. Contains xs (get_or moves k d).to) (sym (ap (λ s. s.states) left.is))
        (grows.has (get_or moves k d) (Contains-get_or moves k d lt))

    stays : (k : ℕ) (other : AbsState) → slice_get after.states k ≡ Some other → (k < before.done) ⊎ (k ≡ before.done) → MovesStay plant after.states other
    stays k other stands (inl lt) =
        listed (successors plant other) (known.stays k other lt (earlier k other (omega (arith, within, lt)) stands))
    stays k other stands (inr is) =
        let same : state ≡ other = same_some (sym at ∙ (ap (slice_get before.states) (sym is) ∙ earlier k other (omega (arith, within, is)) stands)) in
        subst (λ s. MovesStay plant after.states s) same (subst (AreListed after.states) (sym moved) all)

-- the misuse of a state that was found
pub misuse_told : (plant : PlantData) (before : SearchData) (place : ℕ) (state : AbsState) (misuse : Misuse) (fault : Fault SearchKind) → IsSearch plant before
    → slice_get before.states place ≡ Some state → successors plant state ≡ Err misuse → TellsMisuse state misuse fault → Steps plant before (Err fault)
misuse_told plant before place state misuse (Kind kind) known at misused is = λ limit.
    subst (IsCause plant limit) (sym is) (record { reached = found_reached plant before place state known at; misused = misused })
misuse_told plant before place state misuse Memory known at misused is = tt

-- ---- The end

pub all_done : (plant : PlantData) (limit : ℕ) (search : SearchData) → IsSearch plant search → length search.states ≤ limit
    → length search.states ≤ search.done → IsLeastWithin plant limit search.states
all_done plant limit search known within done = record {
  least = record {
    closed = record {
      starts = known.starts;
      stays = λ state has. known.stays has.0 state (omega (arith, has.1, done)) (slice_get-get_or search.states has.0 state has.1 ∙ ap Some has.2);
    };
    are = known.are;
  };
  within = within;
}

-- ---- The law

pub listed_where_reached : (plant : PlantData) (states : List AbsState) → IsClosed plant states → (state : AbsState) → IsReached plant state → Contains states state
listed_where_reached plant states closed state (starts mode lt) = closed.starts mode lt
listed_where_reached plant states closed state (leads before _ earlier led) =
    let stays : MovesStay plant states before = closed.stays before (listed_where_reached plant states closed before earlier) in
    let all : AreListed states (Ok led.moves) = subst (AreListed states) led.moved stays in
    subst (Contains states) led.to (All-contains (λ (move : Move). Contains states move.to) led.moves led.move all led.made)
