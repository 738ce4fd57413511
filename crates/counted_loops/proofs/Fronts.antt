-- What is asked of all edges is asked of the edges of each node.
use Rattle.std.proofs.Common.{◌≡◌, ℕ, ◌<◌, Bool, true, false, List, length, Option, Some, None, refl, sym, ◌∙◌, subst, arith}
use Rattle.std.specs.Prelude.{IfSome, slice_index_or, ◌==◌}
use Rattle.std.proofs.lemmas.Bool.Decides.{nat_tests}
use Rattle.timing_file.specs.Costs.{lies_in}
use Rattle.std.proofs.lemmas.Option.{slice_get_within}
use Rattle.flow_graph.specs.declared.edge.EdgeKind.{EdgeKind}
use Rattle.flow_graph.specs.declared.flow.Flow.{Flow}
use Rattle.counted_loops.specs.declared.entering.Front.{Front}
use Rattle.counted_loops.specs.Counted.{GoesOnTo, EntersAt, BeginsNowhere}
use Rattle.counted_loops.specs.Working.Entering.{NodeFits, Fits}

pub all_fit : (flow : Flow) (front : Front) → ((number : ℕ) → number < length flow.nodes → NodeFits flow front number) → Fits flow front
all_fit flow front each = λ source target kind edge here inner. subst (λ (k : EdgeKind). GoesOnTo front.first source.address k target.address) edge.kind_is
    ((((each edge.number (slice_get_within flow.nodes edge.number source edge.stands)).fits source edge.leaving edge.stands edge.leaves) edge.place edge.edge edge.is_edge).fits
    edge.next target edge.arrives edge.leads here inner)

pub each_fits : (flow : Flow) (front : Front) → Fits flow front → (number : ℕ) → NodeFits flow front number
each_fits flow front all number = record {
  fits = λ source leaving stands leaves place edge is_edge. record {
    fits = λ next target arrives leads here inner. all source target edge.kind (record {
      number = number;
      stands = stands;
      leaving = leaving;
      leaves = leaves;
      place = place;
      edge = edge;
      is_edge = is_edge;
      kind_is = refl;
      next = next;
      arrives = arrives;
      leads = leads;
    }) here inner;
  };
}

-- ---- Spans

-- the same tests ask the same of edges and entries
pub enters_same : (flow : Flow) (inner inner' here here' : ℕ → Bool) (first : ℕ) → ((a : ℕ) → inner' a ≡ inner a) → ((a : ℕ) → here' a ≡ here a)
    → EntersAt flow inner here first → EntersAt flow inner' here' first
enters_same flow inner inner' here here' first same same' enters = λ source target kind edge is apart.
    enters source target kind edge (sym (same' target.address) ∙ is) (sym (same source.address) ∙ apart)

pub begins_same : (entries : List (Option ℕ)) (here here' : ℕ → Bool) → ((a : ℕ) → here' a ≡ here a) → BeginsNowhere entries here → BeginsNowhere entries here'
begins_same entries here here' same nowhere = λ k d lt. one (slice_index_or entries k d) (nowhere k d lt)
  where
    one : (entry : Option ℕ) → IfSome entry (λ a. here a ≡ false) → IfSome entry (λ a. here' a ≡ false)
    one None h = tt
    one (Some a) h = same a ∙ h

-- a span of one address, and one of none
pub one_address : (p a : ℕ) → lies_in p p a ≡ (a == p)
one_address p a = grind (arith, nat_tests)

pub no_address : (a : ℕ) → lies_in 1 0 a ≡ false
no_address a = grind (arith, nat_tests)
