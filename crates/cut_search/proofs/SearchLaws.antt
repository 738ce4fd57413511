-- What the search from a node comes to, by what it comes to on the sides of its cut.
use Rattle.std.proofs.Common.{◌≡◌, ◌⊎◌, inl, inr, ℕ, zero, suc, ◌+◌, ◌-◌, ◌<◌, ◌≤◌, List, [], ◌∷◌, ◌++◌, map, length, take, Some, None, All, Result, Ok, Err, refl, sym, ap, subst, ◌∙◌, arith}
use Rattle.std.specs.Prelude.{IfErr, IfOk, unsigned_abs}
use Rattle.std.proofs.lemmas.Bool.{eq-eqb, ne_eqb}
use Rattle.std.proofs.lemmas.List.Elements.{All-append, All-cons, All-get_or, All-set}
use Rattle.listed.specs.Steps.{◌>>=◌}
use Rattle.whole_rows.specs.Rows.{RowsData}
use Rattle.whole_simplex.specs.declared.SolveFault.TheVariants as solving
use Rattle.split_trees.specs.Good.{IsColumn, IsGoodLeaf}
use Rattle.split_trees.specs.Tree.{Tree, Leaf, Cut, columns_cut, leaves_on}
use Rattle.split_trees.specs.declared.side.Side.{Side}
use Rattle.split_trees.specs.declared.side.Side.TheVariants.{AtMost, Above}
use Rattle.cut_search.specs.declared.fault.SplitFault.{SplitFault}
use Rattle.cut_search.specs.declared.fault.SplitFault.TheVariants as faults
use Rattle.cut_search.specs.declared.judging.Judged.TheVariants as ways
use Rattle.cut_search.specs.declared.limits.Limits.{Limits}
use Rattle.cut_search.specs.declared.searching.Part.{Part}
use Rattle.cut_search.specs.Answers.{SaysSearch}
use Rattle.cut_search.specs.Leaves.{sides_of}
use Rattle.cut_search.specs.Search.{Ending, Cuts, cut_at, cut_count, high_side, judged, limits_at, low_side, no_limits, searched}
use Rattle.cut_search.specs.Working.Limits.{HasSmallLimits, IsFirstOpen, IsFree}
use Rattle.cut_search.specs.Working.Searching.{AreLimits, HaveNoRay, IsGoodPart, IsLowPart, IsNoRay, IsNodeRay, SaysCut, SaysNode, SaysPart}
use Rattle.cut_search.proofs.Order.{high_side-order, high_side-sides, high_side-within, low-le-sides, low_side-order, low_side-sides, low_side-within}
use Rattle.cut_search.proofs.Rays.{ray_of_rows}

-- ---- A node

leaf_says : (d : RowsData) (bound cuts left : ℕ) (limits : List Limits) (denominator : ℕ) (multipliers : List ℕ) → SaysNode d bound limits (Ok (ways.Leaf denominator multipliers))
    → (depth : ℕ) → SaysPart cuts left (searched d bound depth left limits) (Ok (record { tree = Leaf denominator multipliers; left = left }))
unfolding searched
leaf_says d bound cuts left limits denominator multipliers says zero = (says (λ place. Err Cuts), omega arith)
leaf_says d bound cuts left limits denominator multipliers says (suc depth) = (says (cut_at (searched d bound depth) left limits), omega arith)

pub refused_says : (d : RowsData) (bound cuts left : ℕ) (limits : List Limits) (fault : SplitFault) → SaysNode d bound limits (Err fault)
    → (depth : ℕ) → SaysPart cuts left (searched d bound depth left limits) (Err fault)
unfolding searched
refused_says d bound cuts left limits fault says zero = says cuts (λ place. Err Cuts)
refused_says d bound cuts left limits fault says (suc depth) = says cuts (cut_at (searched d bound depth) left limits)

pub leaf_part : (d : RowsData) (bound cuts left : ℕ) (limits : List Limits) (denominator : ℕ) (multipliers : List ℕ) (part : Part) → SaysNode d bound limits (Ok (ways.Leaf denominator multipliers))
    → part ≡ record { tree = Leaf denominator multipliers; left = left } → (depth : ℕ) → SaysPart cuts left (searched d bound depth left limits) (Ok part)
leaf_part d bound cuts left limits denominator multipliers part says is depth =
    subst (λ (p : Part). SaysPart cuts left (searched d bound depth left limits) (Ok p)) (sym is) (leaf_says d bound cuts left limits denominator multipliers says depth)

-- where no cut is left
no_cut : (search : ℕ → List Limits → Result Tree Ending) (left : ℕ) (limits : List Limits) (place : ℕ) → left ≡ 0 → cut_at search left limits place ≡ Err Cuts
no_cut search left limits place e = rw (eq-eqb left 0 e) refl

pub cut_says : (d : RowsData) (bound cuts left : ℕ) (limits : List Limits) (place : ℕ) (answer : Result Part SplitFault) → SaysNode d bound limits (Ok (ways.Cut place)) → SaysCut d bound cuts left limits place answer
    → (depth : ℕ) → left ≤ depth → SaysPart cuts left (searched d bound depth left limits) answer
unfolding searched
cut_says d bound cuts left limits place answer says cut zero h =
    let same : cut_at (searched d bound zero) left limits place ≡ judged d bound limits (λ place. Err Cuts) = no_cut (searched d bound zero) left limits place (omega arith) ∙ sym (says.1 (λ place. Err Cuts)) in
    subst (λ (r : Result Tree Ending). SaysPart cuts left r answer) same (cut zero (omega arith))
cut_says d bound cuts left limits place answer says cut (suc depth) h =
    subst (λ (r : Result Tree Ending). SaysPart cuts left r answer) (sym (says.1 (cut_at (searched d bound depth) left limits))) (cut depth (omega arith))

-- ---- A cut

-- a step that says why there is no tree says so of what goes on from it
goes_on : (cuts : ℕ) (r : Result Tree Ending) (next : Tree → Result Tree Ending) (fault : SplitFault) → SaysSearch cuts r (Err fault) → SaysSearch cuts (r >>= next) (Err fault)
goes_on cuts (Err ending) next fault says = says
goes_on cuts (Ok tree) next faults.Memory says = tt
goes_on cuts (Ok tree) next faults.NoTree says = absurd says
goes_on cuts (Ok tree) next (faults.Cuts count) says = absurd says
goes_on cuts (Ok tree) next (faults.Solve (solving.Entries rows columns)) says = absurd says
goes_on cuts (Ok tree) next (faults.Solve (solving.Pivots count)) says = absurd says
goes_on cuts (Ok tree) next (faults.Solve (solving.Unbounded ray)) says = absurd says
goes_on cuts (Ok tree) next (faults.Solve (solving.Wide pivots a b)) says = absurd says
goes_on cuts (Ok tree) next (faults.Solve (solving.Multiplier value)) says = absurd says
goes_on cuts (Ok tree) next (faults.Solve solving.Memory) says = absurd says

-- where a cut is left
a_cut : (search : ℕ → List Limits → Result Tree Ending) (left : ℕ) (limits : List Limits) (place : ℕ) → (left ≡ 0 → ⊥)
    → cut_at search left limits place ≡ (search (left - 1) (low_side limits place) >>= (λ low. search (left - 1 - cut_count low) (high_side limits place) >>= (λ high. Ok (Cut (limits_at limits place).column (limits_at limits place).low low high))))
a_cut search left limits place some = rw (ne_eqb left 0 some) refl

pub low_fails : (d : RowsData) (bound cuts left : ℕ) (limits : List Limits) (place : ℕ) (fault : SplitFault) → (left ≡ 0 → ⊥)
    → ((depth : ℕ) → left - 1 ≤ depth → SaysPart cuts (left - 1) (searched d bound depth (left - 1) (low_side limits place)) (Err fault))
    → SaysCut d bound cuts left limits place (Err fault)
low_fails d bound cuts left limits place fault some low = λ depth h.
    subst (λ (r : Result Tree Ending). SaysSearch cuts r (Err fault)) (sym (a_cut (searched d bound depth) left limits place some))
    (goes_on cuts (searched d bound depth (left - 1) (low_side limits place)) (λ low. searched d bound depth (left - 1 - cut_count low) (high_side limits place) >>= (λ high. Ok (Cut (limits_at limits place).column (limits_at limits place).low low high))) fault (low depth (omega arith)))

-- after the low side
after_low : (d : RowsData) (bound left : ℕ) (limits : List Limits) (place : ℕ) (low : Part) → IsLowPart d bound left limits place low → (depth : ℕ) → left ≤ depth + 1
    → cut_at (searched d bound depth) left limits place ≡ (searched d bound depth low.left (high_side limits place) >>= (λ high. Ok (Cut (limits_at limits place).column (limits_at limits place).low low.tree high)))
after_low d bound left limits place low is depth h =
    let count = is.count in
    let rest : left - 1 - cut_count low.tree ≡ low.left = omega arith in
    a_cut (searched d bound depth) left limits place (λ e. absurd (omega arith))
    ∙ ap (λ (r : Result Tree Ending). r >>= (λ low. searched d bound depth (left - 1 - cut_count low) (high_side limits place) >>= (λ high. Ok (Cut (limits_at limits place).column (limits_at limits place).low low high)))) (is.found depth h)
    ∙ ap (λ (n : ℕ). searched d bound depth n (high_side limits place) >>= (λ high. Ok (Cut (limits_at limits place).column (limits_at limits place).low low.tree high))) rest

pub high_fails : (d : RowsData) (bound cuts left : ℕ) (limits : List Limits) (place : ℕ) (low : Part) (fault : SplitFault) → IsLowPart d bound left limits place low
    → ((depth : ℕ) → low.left ≤ depth → SaysPart cuts low.left (searched d bound depth low.left (high_side limits place)) (Err fault))
    → SaysCut d bound cuts left limits place (Err fault)
high_fails d bound cuts left limits place low fault is high = λ depth h.
    subst (λ (r : Result Tree Ending). SaysSearch cuts r (Err fault)) (sym (after_low d bound left limits place low is depth h))
    (goes_on cuts (searched d bound depth low.left (high_side limits place)) (λ high. Ok (Cut (limits_at limits place).column (limits_at limits place).low low.tree high)) fault
    (high depth (let count = is.count in omega arith)))

pub joined_says : (d : RowsData) (bound cuts left : ℕ) (limits : List Limits) (place : ℕ) (low high part : Part) → IsLowPart d bound left limits place low
    → ((depth : ℕ) → low.left ≤ depth → SaysPart cuts low.left (searched d bound depth low.left (high_side limits place)) (Ok high))
    → part ≡ record { tree = Cut (limits_at limits place).column (limits_at limits place).low low.tree high.tree; left = high.left }
    → SaysCut d bound cuts left limits place (Ok part)
joined_says d bound cuts left limits place low high part is says same = λ depth h.
    let count = is.count in
    let high_is = says depth (omega arith) in
    let uses = high_is.1 in
    subst (λ (p : Part). SaysPart cuts left (cut_at (searched d bound depth) left limits place) (Ok p)) (sym same) (
      after_low d bound left limits place low is depth h
          ∙ ap (λ (r : Result Tree Ending). r >>= (λ high. Ok (Cut (limits_at limits place).column (limits_at limits place).low low.tree high))) high_is.0,
      omega arith,
    )

-- and where memory was wanted for the cut
pub joined_answer : (d : RowsData) (bound cuts left : ℕ) (limits : List Limits) (place : ℕ) (low high : Part) (answer : Result Part SplitFault) → IsLowPart d bound left limits place low
    → ((depth : ℕ) → low.left ≤ depth → SaysPart cuts low.left (searched d bound depth low.left (high_side limits place)) (Ok high))
    → IfOk answer (λ part. part ≡ record { tree = Cut (limits_at limits place).column (limits_at limits place).low low.tree high.tree; left = high.left })
    → IfErr answer (λ fault. fault ≡ faults.Memory)
    → SaysCut d bound cuts left limits place answer
joined_answer d bound cuts left limits place low high (Ok part) is says same none = joined_says d bound cuts left limits place low high part is says same
joined_answer d bound cuts left limits place low high (Err fault) is says same none = λ depth h.
    subst (λ (f : SplitFault). SaysSearch cuts (cut_at (searched d bound depth) left limits place) (Err f)) (sym none) tt

-- ---- Good parts

pub joined_good : (d : RowsData) (bound : ℕ) (limits : List Limits) (place : ℕ) (low high part : Part) → AreLimits d limits → IsFirstOpen limits place
    → IsGoodPart d bound (sides_of (low_side limits place)) low.tree → IsGoodPart d bound (sides_of (high_side limits place)) high.tree
    → part ≡ record { tree = Cut (limits_at limits place).column (limits_at limits place).low low.tree high.tree; left = high.left }
    → IsGoodPart d bound (sides_of limits) part.tree
joined_good d bound limits place low high part are is low_good high_good same =
    let at = limits_at limits place in
    let there : IsColumn d at.column = All-get_or (λ l. l.column < length d.costs) limits place no_limits is.within are.within in
    let low_sides : sides_of (low_side limits place) ≡ sides_of limits ++ AtMost at.column at.low ∷ [] = low_side-sides limits place is are.order in
    let high_sides : sides_of (high_side limits place) ≡ sides_of limits ++ Above at.column at.low ∷ [] = high_side-sides limits place is are.order in
    subst (λ (p : Part). IsGoodPart d bound (sides_of limits) p.tree) (sym same)
    (record {
      columns = All-cons (IsColumn d) at.column (columns_cut low.tree ++ columns_cut high.tree) there (All-append (IsColumn d) (columns_cut low.tree) (columns_cut high.tree) low_good.columns high_good.columns);
      leaves = All-append (IsGoodLeaf d bound) (leaves_on (sides_of limits ++ AtMost at.column at.low ∷ []) low.tree) (leaves_on (sides_of limits ++ Above at.column at.low ∷ []) high.tree)
          (subst (λ (sides : List Side). All (IsGoodLeaf d bound) (leaves_on sides low.tree)) low_sides low_good.leaves)
          (subst (λ (sides : List Side). All (IsGoodLeaf d bound) (leaves_on sides high.tree)) high_sides high_good.leaves);
    })

-- ---- Limits of the sides

pub low_limits : (d : RowsData) (limits : List Limits) (place : ℕ) → AreLimits d limits → IsFirstOpen limits place → AreLimits d (low_side limits place)
low_limits d limits place are is =
    let at = limits_at limits place in
    let here : HasSmallLimits at = All-get_or HasSmallLimits limits place no_limits is.within are.small in
    record {
      within = low_side-within (length d.costs) limits place are.within;
      order = low_side-order limits place is are.order;
      small = All-set HasSmallLimits limits place (record { column = at.column; low = at.low; high = Some at.low }) (record { low = here.low; high = here.low }) are.small;
    }

pub high_limits : (d : RowsData) (limits : List Limits) (place : ℕ) → AreLimits d limits → IsFirstOpen limits place → length (sides_of limits) ≤ 100 → AreLimits d (high_side limits place)
high_limits d limits place are is few =
    let at = limits_at limits place in
    let low = low-le-sides limits place is.within in
    record {
      within = high_side-within (length d.costs) limits place are.within;
      order = high_side-order limits place is are.order;
      small = All-set HasSmallLimits limits place (record { column = at.column; low = at.low + 1; high = None }) (record { low = omega arith; high = tt }) are.small;
    }

-- ---- Rays

pub no_ray_of : (d : RowsData) (limits : List Limits) (fault : SplitFault) → HaveNoRay d → IsNodeRay d limits fault → IsNoRay fault
no_ray_of d limits (faults.Solve (solving.Unbounded ray)) bounded is =
    bounded.none (take (length d.costs) (map unsigned_abs ray)) (ray_of_rows d limits (map unsigned_abs ray) bounded.shape is.1.is_ray)
no_ray_of d limits (faults.Solve (solving.Entries rows columns)) bounded is = tt
no_ray_of d limits (faults.Solve (solving.Pivots count)) bounded is = tt
no_ray_of d limits (faults.Solve (solving.Wide pivots a b)) bounded is = tt
no_ray_of d limits (faults.Solve (solving.Multiplier value)) bounded is = tt
no_ray_of d limits (faults.Solve solving.Memory) bounded is = tt
no_ray_of d limits (faults.Cuts count) bounded is = tt
no_ray_of d limits faults.NoTree bounded is = tt
no_ray_of d limits faults.Memory bounded is = tt

pub bounded_or : (d : RowsData) (limits : List Limits) → (All IsFree limits) ⊎ HaveNoRay d → (All IsFree limits → HaveNoRay d) → HaveNoRay d
bounded_or d limits (inl free) root = root free
bounded_or d limits (inr bounded) root = bounded
