use Rattle.oil_grammar.proofs.Lines.{objects_step, objects_done}
use Rattle.oil_grammar.proofs.writing.put_objects.Goals as goal

pub loop-object-preserved : goal.loop-object-preserved
loop-object-preserved c =
    objects_step c.loop-object.out.items c.put_object.new.out.items _ c.loop-object.object-index c.args.objects.now c.object-item.result
    c.loop-object-test.true c.object-item.is c.in_ok-put_object.ensures c.loop-object.invariant

pub returns : goal.returns
returns c = objects_done c.loop-object.out.items _ c.loop-object.object-index c.args.objects.now c.loop-object-test.false c.loop-object.invariant
