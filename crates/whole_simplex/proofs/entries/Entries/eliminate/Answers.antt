-- Narrow entries lead to no wide pair.
use Rattle.std.proofs.Common.{◌≡◌, List, ℤ, ◌∙◌, ap, length, sym, rules}
use Rattle.std.specs.Prelude.{None}
use Rattle.std.specs.Vec.{with_items}
use Rattle.std.proofs.lemmas.List.{with_items_is}
use Rattle.whole_simplex.specs.Sizes.{entries_of}
use Rattle.whole_simplex.specs.Tables.{eliminated}
use Rattle.whole_simplex.proofs.Subtracting.{eliminates_within}
use Rattle.whole_simplex.proofs.entries.Entries.eliminate.Goals as goal

pub returns-in-Some : goal.returns-in-Some
returns-in-Some c =
    let none : c.self.inside.wide ≡ None = search rules in
    let long : length c.eliminate_narrow.new.row ≡ c.self.inside.narrow.len = c.eliminate_narrow.auto.row ∙ ap length c.deref_mut.ensures.value ∙ sym c.self.inside.narrow.ok.0 in
    let items : (with_items c.self.inside.narrow c.eliminate_narrow.new.row).items ≡ c.eliminate_narrow.new.row = with_items_is c.self.inside.narrow c.eliminate_narrow.new.row long in
    let done = eliminates_within c.args.place c.args.pivot.now.entries.items c.self.inside.narrow.items c.eliminate_narrow.new.row c.args.self.now c.self.inside.wide c.self.inside.bound c.args.pivot.now.bound
    none c.self.view_is c.self.invariant.0 c.self.invariant.1 c.requires.pivot.within c.requires.pivot.small c.requires.place c.requires.same
    (c.in-Some.ensures.0 ∙ ap (λ (l : List ℤ). eliminated c.args.place c.args.pivot.now.entries.items l) c.deref_mut.ensures.value) in
    (ap (λ (l : List ℤ). entries_of l c.self.inside.wide) items ∙ done.0, done.1)
