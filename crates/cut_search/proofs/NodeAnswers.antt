-- What a node is by the optimum of its rows, or by their refusal.
use Rattle.std.proofs.Common.{◌≡◌, ℕ, ◌+◌, ◌*◌, Bool, true, cond, List, map, ℤ, pos, Option, All, Result, Ok, Err, refl, sym, ap, subst, ◌∙◌, arith}
use Rattle.std.specs.Prelude.{IfErr, IfOk, unsigned_abs}
use Rattle.std.proofs.lemmas.Int.{ints}
use Rattle.whole_rows.specs.Duals.{CoversColumns}
use Rattle.whole_rows.specs.Rows.{RowsData, IsShaped, right_sum}
use Rattle.whole_rows.proofs.Duality.{uncovered_by_ray}
use Rattle.whole_simplex.specs.Answers.{IsSmall, IsUnboundedFault}
use Rattle.whole_simplex.specs.Outcome.{Outcome, TooLarge, Greatest, LargeMultiplier, Direction, Limit, TooWide, SaysOutcome, outcome_of}
use Rattle.whole_simplex.specs.declared.Optimum.{Optimum}
use Rattle.whole_simplex.specs.declared.SolveFault.{SolveFault}
use Rattle.whole_simplex.specs.declared.SolveFault.TheVariants as solving
use Rattle.split_trees.specs.Good.{IsGoodLeaf}
use Rattle.split_trees.specs.Sides.{split_rows}
use Rattle.split_trees.specs.Tree.{Tree, Leaf}
use Rattle.split_trees.specs.declared.side.Side.{Side}
use Rattle.cut_search.specs.declared.fault.SplitFault.{SplitFault}
use Rattle.cut_search.specs.declared.fault.SplitFault.TheVariants as faults
use Rattle.cut_search.specs.declared.judging.Judged.{Judged}
use Rattle.cut_search.specs.declared.judging.Judged.TheVariants as ways
use Rattle.cut_search.specs.declared.limits.Limits.{Limits}
use Rattle.cut_search.specs.Answers.{SaysSearch}
use Rattle.cut_search.specs.Leaves.{leaf_multipliers, sides_of}
use Rattle.cut_search.specs.Nodes.{node_rows}
use Rattle.cut_search.specs.Search.{Ending, Refused, cut_or_none, first_open, judged, judged_by, leaf_or, meets_bound, pivot_limit}
use Rattle.cut_search.specs.Working.Limits.{IsFree}
use Rattle.cut_search.specs.Working.Searching.{HaveNoRay, IsDecided, IsGoodNode, IsNodeOptimum, IsNodeRay, SaysNode, told_of}
use Rattle.std.specs.Int.{w128}
use mir.Val.{SFits}
use Rattle.whole_rows.proofs.Combinations.{fits_from_range}
use Rattle.cut_search.proofs.GoodLeaves.{is_below}
use Rattle.cut_search.proofs.LeafNumbers.{leaf_of_node}
use Rattle.cut_search.proofs.Rays.{root_rows}

-- ---- Refusals

refused : (d : RowsData) (cuts : ℕ) (o : Outcome) (fault : SolveFault) → SaysOutcome d pivot_limit o (Err fault) → SaysSearch cuts (Err (Refused d o)) (Err (told_of fault))
refused d cuts o (solving.Entries rows columns) says = says
refused d cuts o (solving.Pivots count) says = says
refused d cuts o (solving.Unbounded ray) says = says
refused d cuts o (solving.Wide pivots a b) says = says
refused d cuts o (solving.Multiplier value) says = says
refused d cuts o solving.Memory says = tt

-- an optimum is no refusal
no_refusal : (d : RowsData) (cuts number : ℕ) (ms : List ℤ) (denominator value : ℤ) (comes_to : Result Tree Ending) (fault : SolveFault)
    → SaysOutcome d pivot_limit (Greatest number ms denominator value) (Err fault) → SaysSearch cuts comes_to (Err (told_of fault))
no_refusal d cuts number ms denominator value comes_to (solving.Entries rows columns) says = absurd says
no_refusal d cuts number ms denominator value comes_to (solving.Pivots count) says = absurd says
no_refusal d cuts number ms denominator value comes_to (solving.Unbounded ray) says = absurd says
no_refusal d cuts number ms denominator value comes_to (solving.Wide pivots a b) says = absurd says
no_refusal d cuts number ms denominator value comes_to (solving.Multiplier v) says = absurd says
no_refusal d cuts number ms denominator value comes_to solving.Memory says = tt

-- a refused node ends the search by the outcome of its rows
refused_by : (d : RowsData) (bound cuts : ℕ) (limits : List Limits) (cut : ℕ → Result Tree Ending) (o : Outcome) (fault : SolveFault)
    → SaysOutcome (node_rows d limits) pivot_limit o (Err fault) → SaysSearch cuts (judged_by d bound limits cut o) (Err (told_of fault))
refused_by d bound cuts limits cut TooLarge fault says = refused (node_rows d limits) cuts TooLarge fault says
refused_by d bound cuts limits cut (Greatest number ms denominator value) fault says =
    no_refusal (node_rows d limits) cuts number ms denominator value (judged_by d bound limits cut (Greatest number ms denominator value)) fault says
refused_by d bound cuts limits cut (LargeMultiplier values) fault says = refused (node_rows d limits) cuts (LargeMultiplier values) fault says
refused_by d bound cuts limits cut (Direction ray) fault says = refused (node_rows d limits) cuts (Direction ray) fault says
refused_by d bound cuts limits cut Limit fault says = refused (node_rows d limits) cuts Limit fault says
refused_by d bound cuts limits cut (TooWide number pairs) fault says = refused (node_rows d limits) cuts (TooWide number pairs) fault says

pub refusal_says : (d : RowsData) (bound : ℕ) (limits : List Limits) (fault : SolveFault)
    → SaysOutcome (node_rows d limits) pivot_limit (outcome_of (node_rows d limits) pivot_limit) (Err fault) → SaysNode d bound limits (Err (told_of fault))
refusal_says d bound limits fault says = λ cuts cut. refused_by d bound cuts limits cut (outcome_of (node_rows d limits) pivot_limit) fault says

direction_is : (d : RowsData) (o : Outcome) (ray : List ℤ) → SaysOutcome d pivot_limit o (Err (solving.Unbounded ray)) → o ≡ Direction ray
direction_is d TooLarge ray says = absurd says
direction_is d (Greatest number ms denominator value) ray says = absurd says
direction_is d (LargeMultiplier values) ray says = absurd says
direction_is d (Direction direction) ray says = ap Direction (sym says)
direction_is d Limit ray says = absurd says
direction_is d (TooWide number pairs) ray says = absurd says

pub refusal_ray : (d : RowsData) (limits : List Limits) (fault : SolveFault)
    → SaysOutcome (node_rows d limits) pivot_limit (outcome_of (node_rows d limits) pivot_limit) (Err fault) → IsUnboundedFault (node_rows d limits) fault
    → IsNodeRay d limits (told_of fault)
refusal_ray d limits (solving.Entries rows columns) says is = tt
refusal_ray d limits (solving.Pivots count) says is = tt
refusal_ray d limits (solving.Unbounded ray) says is = (direction_is (node_rows d limits) (outcome_of (node_rows d limits) pivot_limit) ray says, is)
refusal_ray d limits (solving.Wide pivots a b) says is = tt
refusal_ray d limits (solving.Multiplier value) says is = tt
refusal_ray d limits solving.Memory says is = tt

-- ---- Optima

pub greatest_is : (d : RowsData) (o : Outcome) (optimum : Optimum) → SaysOutcome d pivot_limit o (Ok optimum) → o ≡ Greatest optimum.pivots optimum.multipliers optimum.denominator optimum.bound
greatest_is d TooLarge optimum says = absurd says
greatest_is d (Greatest number ms denominator value) optimum says = rw (says.0, says.1, says.2, says.3) refl
greatest_is d (LargeMultiplier values) optimum says = absurd says
greatest_is d (Direction ray) optimum says = absurd says
greatest_is d Limit optimum says = absurd says
greatest_is d (TooWide number pairs) optimum says = absurd says

-- the node by its leaf
optimum_is : (d : RowsData) (bound : ℕ) (limits : List Limits) (optimum : Optimum) → IsNodeOptimum d limits optimum → (cut : ℕ → Result Tree Ending)
    → judged d bound limits cut ≡ leaf_or d bound limits (unsigned_abs optimum.denominator) (leaf_multipliers d limits (map unsigned_abs optimum.multipliers)) (cut_or_none (first_open limits) cut)
optimum_is d bound limits optimum is cut = ap (judged_by d bound limits cut) (greatest_is (node_rows d limits) (outcome_of (node_rows d limits) pivot_limit) optimum is.outcome)

pub decided_says : (d : RowsData) (bound : ℕ) (limits : List Limits) (optimum : Optimum) (meets : Bool) (answer : Result Judged SplitFault) → IsNodeOptimum d limits optimum
    → meets ≡ meets_bound d bound limits (unsigned_abs optimum.denominator) (leaf_multipliers d limits (map unsigned_abs optimum.multipliers))
    → IsDecided meets (unsigned_abs optimum.denominator) (leaf_multipliers d limits (map unsigned_abs optimum.multipliers)) limits answer → SaysNode d bound limits answer
decided_says d bound limits optimum meets (Ok (ways.Leaf given listed)) is e decided = λ cut.
    optimum_is d bound limits optimum is cut
    ∙ ap (λ (t : Bool). cond t (Ok (Leaf (unsigned_abs optimum.denominator) (leaf_multipliers d limits (map unsigned_abs optimum.multipliers)))) (cut_or_none (first_open limits) cut)) (sym e ∙ decided.0)
    ∙ rw (decided.1, decided.2) refl
decided_says d bound limits optimum meets (Ok (ways.Cut place)) is e decided = (
  decided.1,
  λ cut.
      optimum_is d bound limits optimum is cut
      ∙ ap (λ (t : Bool). cond t (Ok (Leaf (unsigned_abs optimum.denominator) (leaf_multipliers d limits (map unsigned_abs optimum.multipliers)))) (cut_or_none (first_open limits) cut)) (sym e ∙ decided.0)
      ∙ ap (λ (o : Option ℕ). cut_or_none o cut) decided.1,
)
decided_says d bound limits optimum meets (Err faults.NoTree) is e decided = λ cuts cut.
    subst (λ (r : Result Tree Ending). SaysSearch cuts r (Err faults.NoTree))
    (sym (optimum_is d bound limits optimum is cut
    ∙ ap (λ (t : Bool). cond t (Ok (Leaf (unsigned_abs optimum.denominator) (leaf_multipliers d limits (map unsigned_abs optimum.multipliers)))) (cut_or_none (first_open limits) cut)) (sym e ∙ decided.0)
    ∙ ap (λ (o : Option ℕ). cut_or_none o cut) decided.1)) tt
decided_says d bound limits optimum meets (Err (faults.Solve fault)) is e decided = absurd decided
decided_says d bound limits optimum meets (Err (faults.Cuts count)) is e decided = absurd decided
decided_says d bound limits optimum meets (Err faults.Memory) is e decided = absurd decided

pub decided_ray : (d : RowsData) (limits : List Limits) (meets : Bool) (denominator : ℕ) (multipliers : List ℕ) (answer : Result Judged SplitFault)
    → IsDecided meets denominator multipliers limits answer → IfErr answer (IsNodeRay d limits)
decided_ray d limits meets denominator multipliers (Ok node) decided = tt
decided_ray d limits meets denominator multipliers (Err faults.NoTree) decided = tt
decided_ray d limits meets denominator multipliers (Err (faults.Solve fault)) decided = absurd decided
decided_ray d limits meets denominator multipliers (Err (faults.Cuts count)) decided = absurd decided
decided_ray d limits meets denominator multipliers (Err faults.Memory) decided = absurd decided

pub decided_good : (d : RowsData) (bound : ℕ) (sides : List Side) (limits : List Limits) (meets : Bool) (denominator : ℕ) (multipliers : List ℕ) (answer : Result Judged SplitFault)
    → IsDecided meets denominator multipliers limits answer
    → (meets ≡ true → IsGoodLeaf d bound (record { sides = sides; denominator = denominator; multipliers = multipliers }))
    → IfOk answer (IsGoodNode d bound sides)
decided_good d bound sides limits meets denominator multipliers (Ok (ways.Leaf given listed)) decided good = rw (decided.1, decided.2) (good decided.0)
decided_good d bound sides limits meets denominator multipliers (Ok (ways.Cut place)) decided good = tt
decided_good d bound sides limits meets denominator multipliers (Err fault) decided good = tt

-- where the root has an optimum, the rows have no ray
pub bounded_by : (d : RowsData) (limits : List Limits) (optimum : Optimum) (answer : Result Judged SplitFault) → IsShaped d → IsNodeOptimum d limits optimum
    → IfOk answer (λ node. All IsFree limits → HaveNoRay d)
bounded_by d limits optimum (Err fault) shape is = tt
bounded_by d limits optimum (Ok node) shape is = λ free. record {
  shape = shape;
  none = λ u ray.
      (let covers = subst (λ (e : RowsData). CoversColumns e (map unsigned_abs optimum.multipliers) (unsigned_abs optimum.denominator)) (root_rows d limits free) is.greatest.covers in
      let above = is.greatest.denominator_above in
      uncovered_by_ray d (map unsigned_abs optimum.multipliers) (unsigned_abs optimum.denominator) u shape (omega (arith, ints)) ray covers);
}

-- ---- The answer by what was computed

pub denominator_fits : (z : ℤ) → IsSmall z → SFits w128 z
denominator_fits z small = fits_from_range z (let above = small.0 in let below = small.1 in omega (arith, ints))

pub says_by : (d : RowsData) (bound : ℕ) (limits : List Limits) (optimum : Optimum) (meets : Bool) (answer : Result Judged SplitFault) (denominator : ℕ) (multipliers listed : List ℕ)
    → IsNodeOptimum d limits optimum → denominator ≡ unsigned_abs optimum.denominator → multipliers ≡ leaf_multipliers d limits (map unsigned_abs optimum.multipliers) → listed ≡ multipliers
    → meets ≡ meets_bound d bound limits denominator listed → IsDecided meets denominator multipliers limits answer → SaysNode d bound limits answer
says_by d bound limits optimum meets answer denominator multipliers listed is e f g h decided =
    let meets_it : meets ≡ meets_bound d bound limits (unsigned_abs optimum.denominator) (leaf_multipliers d limits (map unsigned_abs optimum.multipliers)) =
    h ∙ ap (meets_bound d bound limits denominator) (g ∙ f) ∙ ap (λ (n : ℕ). meets_bound d bound limits n (leaf_multipliers d limits (map unsigned_abs optimum.multipliers))) e in
    decided_says d bound limits optimum meets answer is meets_it
    (subst (λ (n : ℕ). IsDecided meets n (leaf_multipliers d limits (map unsigned_abs optimum.multipliers)) limits answer) e
    (subst (λ (ms : List ℕ). IsDecided meets denominator ms limits answer) f decided))

pub good_by : (d : RowsData) (bound : ℕ) (limits : List Limits) (optimum : Optimum) (meets : Bool) (answer : Result Judged SplitFault) (denominator : ℕ) (multipliers listed : List ℕ)
    → IsShaped d → IsNodeOptimum d limits optimum → denominator ≡ unsigned_abs optimum.denominator → multipliers ≡ leaf_multipliers d limits (map unsigned_abs optimum.multipliers) → listed ≡ multipliers
    → meets ≡ meets_bound d bound limits denominator listed → IsDecided meets denominator multipliers limits answer → IfOk answer (IsGoodNode d bound (sides_of limits))
good_by d bound limits optimum meets answer denominator multipliers listed shape is e f g h decided =
    let leaf = leaf_of_node d limits optimum shape is in
    let ms = leaf_multipliers d limits (map unsigned_abs optimum.multipliers) in
    let meets_it : meets ≡ meets_bound d bound limits (unsigned_abs optimum.denominator) ms =
    h ∙ ap (meets_bound d bound limits denominator) (g ∙ f) ∙ ap (λ (n : ℕ). meets_bound d bound limits n (leaf_multipliers d limits (map unsigned_abs optimum.multipliers))) e in
    decided_good d bound (sides_of limits) limits meets (unsigned_abs optimum.denominator) ms answer
    (subst (λ (n : ℕ). IsDecided meets n (leaf_multipliers d limits (map unsigned_abs optimum.multipliers)) limits answer) e
    (subst (λ (ms : List ℕ). IsDecided meets denominator ms limits answer) f decided))
    (λ true_is. record {
      counted = leaf.counted;
      covers = leaf.covers;
      below = is_below (right_sum (split_rows d (sides_of limits)) (leaf_multipliers d limits (map unsigned_abs optimum.multipliers))) (pos (unsigned_abs optimum.denominator * (bound + 1))) (sym meets_it ∙ true_is);
    })
