use Rattle.std.proofs.Common.{◌≡◌, true, Ok, sym, ap, ◌∙◌, append-nil}
use Rattle.serde_json.specs.View.{members_view}
use Rattle.timing_file.specs.Timing.{named, numbers_of}
use Rattle.timing_file.specs.Lawful.{names_of, ascend}
use Rattle.timing_file.proofs.Names.{names_ascend, ascending_once}
use Rattle.timing_file.proofs.Numbers.{numbers_go_on, numbers_in_range}
use Rattle.timing_file.proofs.reading.numbers_of.Goals as goal

pub loop-name-preserved : goal.loop-name-preserved
loop-name-preserved c =
    let number = c.in-Some-number_in.number in
    let entry = c.in_ok-named-in-Some-number_in.ensures ∙ ap (λ bytes. named bytes number) c.as_str.ensures.value in
    (rw (c.in_ok-push-in-Some-number_in.ensures.ok, entry) (numbers_go_on c.args.greatest c.loop-name.numbers c.loop-name.name-iterator c.next.new.self c.in-Some.name.now c.in-Some.value.now number _ c.in-Some.ensures.steps c.in-Some-number_in.ensures c.loop-name.invariant.0), tt, tt)

pub returns-clause-lawful : goal.returns-clause-lawful
returns-clause-lawful c =
    let entries = c.args.members.now.entries in
    let read : numbers_of c.args.greatest (members_view entries) ≡ Ok c.loop-name.numbers =
    sym c.loop-name.invariant.0 ∙ rw c.in-None.ensures.steps.0 (ap Ok (append-nil c.loop-name.numbers)) in
    let order : ascend (names_of c.loop-name.numbers) ≡ true = names_ascend c.args.greatest entries c.loop-name.numbers c.into_iter-name-iterator.ensures.into_iter_gives.5 read in
    record {
      range = numbers_in_range c.args.greatest (members_view entries) c.loop-name.numbers read;
      order = order;
      once = ascending_once (names_of c.loop-name.numbers) order;
    }
