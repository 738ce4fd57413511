use Rattle.std.proofs.Common.{refl, ap, sym}
use Rattle.std.specs.Prelude.{Some}
use Rattle.std.proofs.lemmas.Option.{slice_get_read}
use Rattle.wcet_io.proofs.FirstPlace.{content_at_place, place_within}
use Rattle.wcet_io.proofs.named_files.find.Goals as goal

pub returns-in-Some : goal.returns-in-Some
returns-in-Some c =
    rw (content_at_place _ _ _ c.in-Some.ensures.first, slice_get_read _ _ c.in-Some.place c.index-files-place.result refl (place_within _ _ _ c.in-Some.ensures.first) c.index-files-place.is)
    (ap (λ file. Some file.content) (sym c.index-files-place.is))
