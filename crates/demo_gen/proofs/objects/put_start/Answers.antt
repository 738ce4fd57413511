use Rattle.std.proofs.Common.{append_assoc}
use Rattle.demo_gen.proofs.objects.put_start.Goals as goal

pub returns : goal.returns
returns c =
    rw (c.in_ok-put_word.ensures, c.in_ok-put_number-2.ensures, c.from.ensures, c.in_ok-put_number.ensures, c.in_ok-put.ensures)
    (simp append_assoc)
