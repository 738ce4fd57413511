use Rattle.std.proofs.Common.{◌≡◌, [], take, drop}
use Rattle.oil_model.specs.Meaning.{fault_from}
use Rattle.oil_model.specs.Working.Taken.{Knows}
use Rattle.oil_model.proofs.judge.first_fault.Given as goal

abbrev pub invariant-loop-i : goal.invariant-loop-i
invariant-loop-i l = record {
  knows : Knows l.taken (take l.i l.objects);
  same : fault_from l.objects (take l.i l.objects) (drop l.i l.objects) ≡ fault_from l.objects [] l.objects;
}
