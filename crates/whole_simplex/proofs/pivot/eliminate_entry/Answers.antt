-- A row that stays as it was is eliminated the wide way.
use Rattle.std.proofs.Common.{List, ℤ, ap, ◌∙◌, sym, subst}
use Rattle.std.specs.Prelude.{Ok, Err}
use Rattle.whole_simplex.specs.Faults.{GivesEliminated}
use Rattle.whole_simplex.specs.Tables.{entry}
use Rattle.whole_simplex.proofs.pivot.eliminate_entry.Goals as goal

pub eliminated_entries-requires-clause-entry : goal.eliminated_entries-requires-clause-entry
eliminated_entries-requires-clause-entry c = λ e. c.requires.entry (ap (λ (r : List ℤ). entry r c.args.place) (sym c.if-eliminate_narrow.ensures) ∙ e)

pub returns-in-Ok : goal.returns-in-Ok
returns-in-Ok c = subst (λ (r : List ℤ). GivesEliminated c.args.place c.args.pivot.now r (Ok c.in-Ok.new)) c.if-eliminate_narrow.ensures c.in-Ok.ensures

pub returns-in-Err : goal.returns-in-Err
returns-in-Err c = subst (λ (r : List ℤ). GivesEliminated c.args.place c.args.pivot.now r (Err c.in-Err.fault)) c.if-eliminate_narrow.ensures c.in-Err.ensures
