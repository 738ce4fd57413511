use Rattle.std.proofs.Common.{◌≡◌, length, arith, refl, add-one}
use Rattle.std.proofs.lemmas.Option.{slice_get_read}
use Rattle.wcet_io.proofs.FirstPlace.{passed_more, place_after_passed, none_after_all_passed}
use Rattle.wcet_io.proofs.named_files.place_of.Goals as goal

pub returns-then-eq-clause-first : goal.returns-then-eq-clause-first
returns-then-eq-clause-first c =
    place_after_passed _ _ _ c.index-files-place.result c.loop-place.invariant
    (slice_get_read _ _ _ _ refl c.loop-place-test.true c.index-files-place.is)
    cc

pub loop-place-preserved : goal.loop-place-preserved
loop-place-preserved c =
    rw add-one (passed_more _ _ _ c.index-files-place.result c.loop-place.invariant
    (slice_get_read _ _ _ _ refl c.loop-place-test.true c.index-files-place.is)
    cc)

pub returns-clause-none : goal.returns-clause-none
returns-clause-none c =
    let all : c.loop-place.place ≡ length c.args.files.now = omega arith in
    none_after_all_passed _ _ (rw all at c.loop-place.invariant)
