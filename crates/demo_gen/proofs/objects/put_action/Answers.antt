use Rattle.std.proofs.Common.{append_assoc}
use Rattle.demo_gen.proofs.objects.put_action.Goals as goal

pub returns : goal.returns
returns c =
    rw (c.in_ok-put.ensures, c.in_ok-task_name.ensures, c.in_ok-put_word-2.ensures, c.in_ok-put_word.ensures)
    (simp append_assoc)
