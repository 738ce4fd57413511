use Rattle.command_steps.specs.Steps.{IsCall}
use Rattle.command_steps.proofs.Running.{ran}
use Rattle.syswcet.specs.Words.{command_of}
use Rattle.syswcet.specs.Commands.{files_of, StepsOf}
use Rattle.syswcet.proofs.Commands.{honest}
use Rattle.syswcet.proofs.Headline.{means}
use Rattle.syswcet.proofs.run.run.Goals as goal

pub returns-clause-ran : goal.returns-clause-ran
returns-clause-ran g c =
    let files = g.F.Files in
    let sink = g.O.Sink in
    let command = command_of c.args.words.now in
    ran files.outside sink.outside sink.writes (files_of command) (StepsOf (IsCall files.outside files.reads) command) c.args.files.now
    c.answer-answered.new.files c.args.out.now c.report.new.out c.answer-answered.result c.report.result (honest files.outside files.reads command)
    c.answer-answered.ensures c.report.ensures

pub returns-clause-headline : goal.returns-clause-headline
returns-clause-headline g c ok =
    let files = g.F.Files in
    let sink = g.O.Sink in
    means files.outside files.reads sink.outside sink.writes (command_of c.args.words.now) c.args.files.now c.answer-answered.new.files c.args.out.now
    c.report.new.out c.answer-answered.result c.report.result c.answer-answered.ensures c.report.ensures ok
