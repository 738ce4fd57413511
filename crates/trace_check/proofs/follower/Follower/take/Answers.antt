use Rattle.std.proofs.Common.{sym, ◌∙◌, refl, false}
use Rattle.std.specs.Prelude.{slice_set}
use Rattle.trace_check.proofs.Following.{clears, take_goes}
use Rattle.trace_check.proofs.follower.Follower.take.Goals as goal

pub go-requires-clause-follower : goal.go-requires-clause-follower
go-requires-clause-follower c =
    let f = c.requires.follower.0 in (
      record f { pending = slice_set f.pending c.args.source false },
      clears c.args.plant.now c.args.cert.now.states c.args.self.now _ f c.args.source c.requires.follower.1 refl refl refl refl refl refl,
    )

pub returns : goal.returns
returns c = λ f follows step.
    take_goes c.args.plant.now c.args.cert.now c.args.place f c.args.start c.args.end c.args.source _ c.go.new.self c.go.result
    (rw (← follows.latest) (sym c.has_wrong_times.ensures ∙ c.if-has_wrong_times.false))
    (rw (← follows.pending, ← c.as_slice.ensures.value) (sym c.isnt_pending.ensures ∙ c.if-isnt_pending.false)) step.is
    (c.go.ensures (record f { pending = slice_set f.pending c.args.source false })
    (clears c.args.plant.now c.args.cert.now.states c.args.self.now _ f c.args.source follows refl refl refl refl refl refl))
