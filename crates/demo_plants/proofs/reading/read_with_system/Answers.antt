use Rattle.std.proofs.Common.{◌≡◌, ◌∙◌, Ok, sym, ap, subst}
use Rattle.elf_image.specs.Elf.{IsImageOf, elf_of}
use Rattle.demo_gen.specs.Demo.{the_image}
use Rattle.demo_plants.specs.Working.Sources.{tasks_in}
use Rattle.demo_plants.proofs.Given.{same_ok}
use Rattle.demo_plants.proofs.reading.read_with_system.Goals as goal

pub image_of-requires : goal.image_of-requires
image_of-requires c =
    let tasks = tasks_in c.args.source.now in
    (the_image tasks, subst (λ bytes. IsImageOf bytes (the_image tasks)) (sym c.as_slice.ensures) c.requires.whole.read.image)

pub read_with_image-requires-clause-image : goal.read_with_image-requires-clause-image
read_with_image-requires-clause-image c =
    let tasks = tasks_in c.args.source.now in
    same_ok _ _ (sym c.in_ok-image.ensures ∙ (ap elf_of c.as_slice.ensures ∙ c.requires.whole.read.image))
