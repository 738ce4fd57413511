use Rattle.std.proofs.Common.{◌≡◌, ◌+◌, ◌-◌, leb, get_or, take, sym, ◌∙◌, ap, arith}
use Rattle.std.proofs.lemmas.Bool.{lt-leb, le-ltb}
use Rattle.elf_image.specs.Working.Spans.{reach_of}
use Rattle.elf_image.specs.declared.headers.ProgramHeader.{ProgramHeader}
use Rattle.elf_image.proofs.SpanLemmas.{code_fits-in_order, within_by_reach}
use Rattle.elf_image.proofs.spans.is_within_one.Goals as goal

nothing : ProgramHeader
nothing = record { kind = 0; offset = 0; address = 0; filled = 0; size = 0 }

pub returns-then-count-gt0 : goal.returns-then-count-gt0
returns-then-count-gt0 c = λ loaded order some.
    let sum : c.from.result + c.from-then-count-gt0.result ≡ c.args.section.now.address + c.args.section.now.size =
    omega (arith, c.from.ensures, c.from-then-count-gt0.ensures) in
    let last : c.begun_by-count.result - 1 + 1 ≡ c.begun_by-count.result = omega arith in
    let reach : get_or c.args.reaches.now (c.begun_by-count.result - 1) 0 ≡ reach_of (take c.begun_by-count.result c.args.spans.now) =
    c.requires.each (c.begun_by-count.result - 1) (omega (arith, c.begun_by-count.ensures.bound)) ∙ ap (λ k. reach_of (take k c.args.spans.now)) last in
    ap (λ n. leb n (get_or c.args.reaches.now (c.begun_by-count.result - 1) 0)) sum
    ∙ ap (leb (c.args.section.now.address + c.args.section.now.size)) reach
    ∙ within_by_reach c.args.spans.now c.args.section.now c.begun_by-count.result nothing some c.begun_by-count.ensures.bound
    (c.begun_by-count.ensures.begun order.rises) (c.begun_by-count.ensures.later order.rises)
    ∙ code_fits-in_order loaded c.args.spans.now order c.args.section.now some

pub returns-else-count-gt0 : goal.returns-else-count-gt0
returns-else-count-gt0 c = λ loaded order some.
    let none : c.begun_by-count.result ≡ 0 = omega arith in
    let reach : reach_of (take c.begun_by-count.result c.args.spans.now) ≡ 0 = ap (λ k. reach_of (take k c.args.spans.now)) none in
    le-ltb 0 c.begun_by-count.result (omega arith)
    ∙ sym (lt-leb (c.args.section.now.address + c.args.section.now.size) _ (omega (arith, reach, some)))
    ∙ within_by_reach c.args.spans.now c.args.section.now c.begun_by-count.result nothing some c.begun_by-count.ensures.bound
    (c.begun_by-count.ensures.begun order.rises) (c.begun_by-count.ensures.later order.rises)
    ∙ code_fits-in_order loaded c.args.spans.now order c.args.section.now some
