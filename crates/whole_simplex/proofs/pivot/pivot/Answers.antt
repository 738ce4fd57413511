-- The lines before, at and after the pivot line make up all lines.
use Rattle.std.proofs.Common.{◌≡◌, ◌∷◌, ◌++◌, length, ap, sym, ◌∙◌, arith}
use Rattle.whole_simplex.proofs.Splitting.{around, pivots_lines, pivots_row, pivots_narrow, fault_before, fault_after, fault_of_objective}
use Rattle.whole_simplex.proofs.pivot.pivot.Goals as goal

pub eliminate_all-requires-clause-same : goal.eliminate_all-requires-clause-same
eliminate_all-requires-clause-same c =
    let parts : c.args.lines.now ≡ c.split_at_mut-before.result.0.now ++ c.in-Some.parts.0.now ∷ c.in-Some.parts.1.now =
    c.split_at_mut-before.ensures.value ∙ ap (λ l. c.split_at_mut-before.result.0.now ++ l) c.in-Some.ensures.cases.0 in
    let lengths = around (λ l. length l.entries ≡ length c.args.objective.now) c.args.lines.now c.split_at_mut-before.result.0.now c.in-Some.parts.1.now c.in-Some.parts.0.now parts c.requires.same in
    λ k d h. lengths.0 k d h ∙ sym lengths.1

pub eliminate_all-requires-clause-place : goal.eliminate_all-requires-clause-place
eliminate_all-requires-clause-place c =
    let parts : c.args.lines.now ≡ c.split_at_mut-before.result.0.now ++ c.in-Some.parts.0.now ∷ c.in-Some.parts.1.now =
    c.split_at_mut-before.ensures.value ∙ ap (λ l. c.split_at_mut-before.result.0.now ++ l) c.in-Some.ensures.cases.0 in
    let lengths = around (λ l. length l.entries ≡ length c.args.objective.now) c.args.lines.now c.split_at_mut-before.result.0.now c.in-Some.parts.1.now c.in-Some.parts.0.now parts c.requires.same in
    let own : length c.in-Some.parts.0.now.entries ≡ length c.args.objective.now = lengths.1 in
    omega (arith, own, c.requires.place)

pub eliminate_all-requires-2-clause-same : goal.eliminate_all-requires-2-clause-same
eliminate_all-requires-2-clause-same c =
    let parts : c.args.lines.now ≡ c.split_at_mut-before.result.0.now ++ c.in-Some.parts.0.now ∷ c.in-Some.parts.1.now =
    c.split_at_mut-before.ensures.value ∙ ap (λ l. c.split_at_mut-before.result.0.now ++ l) c.in-Some.ensures.cases.0 in
    let lengths = around (λ l. length l.entries ≡ length c.args.objective.now) c.args.lines.now c.split_at_mut-before.result.0.now c.in-Some.parts.1.now c.in-Some.parts.0.now parts c.requires.same in
    λ k d h. lengths.2 k d h ∙ sym lengths.1

pub eliminate_all-requires-2-clause-place : goal.eliminate_all-requires-2-clause-place
eliminate_all-requires-2-clause-place c =
    let parts : c.args.lines.now ≡ c.split_at_mut-before.result.0.now ++ c.in-Some.parts.0.now ∷ c.in-Some.parts.1.now =
    c.split_at_mut-before.ensures.value ∙ ap (λ l. c.split_at_mut-before.result.0.now ++ l) c.in-Some.ensures.cases.0 in
    let lengths = around (λ l. length l.entries ≡ length c.args.objective.now) c.args.lines.now c.split_at_mut-before.result.0.now c.in-Some.parts.1.now c.in-Some.parts.0.now parts c.requires.same in
    let own : length c.in-Some.parts.0.now.entries ≡ length c.args.objective.now = lengths.1 in
    omega (arith, own, c.requires.place)

pub eliminate-requires-clause-same : goal.eliminate-requires-clause-same
eliminate-requires-clause-same c =
    let parts : c.args.lines.now ≡ c.split_at_mut-before.result.0.now ++ c.in-Some.parts.0.now ∷ c.in-Some.parts.1.now =
    c.split_at_mut-before.ensures.value ∙ ap (λ l. c.split_at_mut-before.result.0.now ++ l) c.in-Some.ensures.cases.0 in
    let lengths = around (λ l. length l.entries ≡ length c.args.objective.now) c.args.lines.now c.split_at_mut-before.result.0.now c.in-Some.parts.1.now c.in-Some.parts.0.now parts c.requires.same in
    sym lengths.1

pub eliminate-requires-clause-place : goal.eliminate-requires-clause-place
eliminate-requires-clause-place c =
    let parts : c.args.lines.now ≡ c.split_at_mut-before.result.0.now ++ c.in-Some.parts.0.now ∷ c.in-Some.parts.1.now =
    c.split_at_mut-before.ensures.value ∙ ap (λ l. c.split_at_mut-before.result.0.now ++ l) c.in-Some.ensures.cases.0 in
    let lengths = around (λ l. length l.entries ≡ length c.args.objective.now) c.args.lines.now c.split_at_mut-before.result.0.now c.in-Some.parts.1.now c.in-Some.parts.0.now parts c.requires.same in
    let own : length c.in-Some.parts.0.now.entries ≡ length c.args.objective.now = lengths.1 in
    omega (arith, own, c.requires.place)

pub returns-in-Err-eliminate_all : goal.returns-in-Err-eliminate_all
returns-in-Err-eliminate_all c = λ same at.
    let parts : c.args.lines.now ≡ c.split_at_mut-before.result.0.now ++ c.in-Some.parts.0.now ∷ c.in-Some.parts.1.now =
    c.split_at_mut-before.ensures.value ∙ ap (λ l. c.split_at_mut-before.result.0.now ++ l) c.in-Some.ensures.cases.0 in
    fault_before c.args.place c.args.lines.now c.split_at_mut-before.result.0.now c.in-Some.parts.1.now c.in-Some.parts.0.now same parts c.requires.distinct c.args.leaving at c.split_at_mut-before.ensures.front_len c.args.objective.now c.in-Err-eliminate_all.fault c.in-Err-eliminate_all.ensures

pub returns-in-Err-eliminate_all-2 : goal.returns-in-Err-eliminate_all-2
returns-in-Err-eliminate_all-2 c = λ same at.
    let parts : c.args.lines.now ≡ c.split_at_mut-before.result.0.now ++ c.in-Some.parts.0.now ∷ c.in-Some.parts.1.now =
    c.split_at_mut-before.ensures.value ∙ ap (λ l. c.split_at_mut-before.result.0.now ++ l) c.in-Some.ensures.cases.0 in
    fault_after c.args.place c.args.lines.now c.split_at_mut-before.result.0.now c.in-Some.parts.1.now c.in-Some.parts.0.now same parts c.requires.distinct c.args.leaving at c.split_at_mut-before.ensures.front_len c.args.objective.now c.in-Err-eliminate_all-2.fault c.in-Err-eliminate_all-2.ensures

pub returns-in-Err-eliminate : goal.returns-in-Err-eliminate
returns-in-Err-eliminate c = λ same at.
    let parts : c.args.lines.now ≡ c.split_at_mut-before.result.0.now ++ c.in-Some.parts.0.now ∷ c.in-Some.parts.1.now =
    c.split_at_mut-before.ensures.value ∙ ap (λ l. c.split_at_mut-before.result.0.now ++ l) c.in-Some.ensures.cases.0 in
    fault_of_objective c.args.place c.args.lines.now c.split_at_mut-before.result.0.now c.in-Some.parts.1.now c.in-Some.parts.0.now same parts c.requires.distinct c.args.leaving at c.split_at_mut-before.ensures.front_len c.args.objective.now c.in-Err-eliminate.fault c.in-Err-eliminate.ensures

pub returns : goal.returns
returns c = λ same at.
    let parts : c.args.lines.now ≡ c.split_at_mut-before.result.0.now ++ c.in-Some.parts.0.now ∷ c.in-Some.parts.1.now =
    c.split_at_mut-before.ensures.value ∙ ap (λ l. c.split_at_mut-before.result.0.now ++ l) c.in-Some.ensures.cases.0 in
    let before = c.split_at_mut-before.result.0.now in
    let after = c.in-Some.parts.1.now in
    let pivot = c.in-Some.parts.0.now in (
      pivots_lines c.args.place c.args.lines.now before after pivot same parts c.requires.distinct c.args.leaving at c.split_at_mut-before.ensures.front_len c.eliminate_all.new.lines c.eliminate_all-2.new.lines c.in-Ok-eliminate_all.ensures.0 c.in-Ok-eliminate_all-2.ensures.0,
      pivots_row c.args.place c.args.lines.now before after pivot same parts c.requires.distinct c.args.leaving at c.split_at_mut-before.ensures.front_len c.args.objective.now c.eliminate.new.row c.in-Ok-eliminate.ensures.0,
      pivots_narrow c.args.place c.args.lines.now before after pivot same parts c.requires.distinct c.args.leaving at c.split_at_mut-before.ensures.front_len c.args.objective.now c.in-Ok-eliminate_all.ensures.1 c.in-Ok-eliminate_all-2.ensures.1 c.in-Ok-eliminate.ensures.1,
    )
