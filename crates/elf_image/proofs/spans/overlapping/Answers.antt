use Rattle.std.proofs.Common.{◌≡◌, ◌<◌, ℕ, get_or, false, sym, ◌∙◌, ap, subst, inl, inr, arith}
use Rattle.std.proofs.lemmas.Bool.{cases_lt}
use Rattle.std.proofs.lemmas.List.{get_or_default}
use Rattle.elf_image.specs.Elf.{shares}
use Rattle.elf_image.specs.declared.headers.ProgramHeader.{ProgramHeader}
use Rattle.elf_image.proofs.SpanLemmas.{overlap_found, overlaps_none, overlaps-in_order, no_overlap, reach_more}
use Rattle.elf_image.proofs.spans.overlapping.Goals as goal

nothing : ProgramHeader
nothing = record { kind = 0; offset = 0; address = 0; filled = 0; size = 0 }

pub returns-then-from-reach : goal.returns-then-from-reach
unfolding nothing
returns-then-from-reach c = λ loaded order.
    sym
    (overlap_found loaded c.args.spans.now order c.loop-span.span-index nothing c.loop-span-test.true
    (omega (arith, c.if-from-reach.true, c.from.ensures, c.loop-span.invariant.reach)))

pub loop-span-preserved : goal.loop-span-preserved
unfolding nothing
loop-span-preserved c = record {
  reach =
      let more = reach_more c.args.spans.now c.loop-span.span-index nothing c.loop-span-test.true in
      omega (arith, more, c.max-reach.ensures, c.end.ensures, c.loop-span.invariant.reach);
  apart = λ j i d before below.
      elim (cases_lt i c.loop-span.span-index) [
        | inl earlier ↦ c.loop-span.invariant.apart j i d before earlier
        | inr here ↦
            let e : c.loop-span.span-index ≡ i = omega arith in
            let low : (get_or c.args.spans.now c.loop-span.span-index nothing).address ≡ (get_or c.args.spans.now c.loop-span.span-index d).address =
            ap (λ x. x.address) (get_or_default c.args.spans.now c.loop-span.span-index nothing d c.loop-span-test.true) in
            subst (λ k. (j : ℕ) → j < k → ◌≡◌ (shares (get_or c.args.spans.now j d) (get_or c.args.spans.now k d)) false) e
            (λ j before. no_overlap c.args.spans.now c.loop-span.span-index j d c.loop-span-test.true before
            (omega (arith, c.if-from-reach.false, c.from.ensures, c.loop-span.invariant.reach, low)))
            j before
      ];
}

pub returns : goal.returns
returns c = λ loaded order.
    sym (overlaps_none c.args.spans.now (λ j i d before below. c.loop-span.invariant.apart j i d before (omega arith)))
    ∙ overlaps-in_order loaded c.args.spans.now order
