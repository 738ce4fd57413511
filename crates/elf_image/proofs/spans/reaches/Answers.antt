use Rattle.std.proofs.Common.{◌≡◌, ◌+◌, length, get_or, take, sym, ◌∙◌, ap, inl, inr, arith}
use Rattle.std.proofs.lemmas.Bool.{cases_lt}
use Rattle.std.proofs.lemmas.List.{length_push, get_or_push}
use Rattle.std.proofs.Math.ListN.{get_or-append}
use Rattle.elf_image.specs.Working.Spans.{reach_of}
use Rattle.elf_image.specs.declared.headers.ProgramHeader.{ProgramHeader}
use Rattle.elf_image.proofs.SpanLemmas.{reach_more}
use Rattle.elf_image.proofs.spans.reaches.Goals as goal

nothing : ProgramHeader
nothing = record { kind = 0; offset = 0; address = 0; filled = 0; size = 0 }

pub loop-span-preserved : goal.loop-span-preserved
unfolding nothing
loop-span-preserved c =
    let more = reach_more c.args.spans.now c.loop-span.span-index nothing c.loop-span-test.true in
    let reach : c.max-reach.result ≡ reach_of (take (c.loop-span.span-index + 1) c.args.spans.now) =
    omega (arith, more, c.max-reach.ensures, c.end.ensures, c.loop-span.invariant.reach) in
    record {
      reach = reach;
      as_many = ap length c.in_ok-push.ensures.items ∙ length_push c.loop-span.reaches.items c.max-reach.result ∙ ap (λ n. n + 1) c.loop-span.invariant.as_many;
      each = λ k below.
          ap (λ xs. get_or xs k 0) c.in_ok-push.ensures.items
          ∙ elim (cases_lt k c.loop-span.span-index) [
            | inl earlier ↦ get_or-append c.loop-span.reaches.items _ 0 k (omega (arith, c.loop-span.invariant.as_many)) ∙ c.loop-span.invariant.each k earlier
            | inr here ↦
                let same : k ≡ c.loop-span.span-index = omega arith in
                get_or_push c.loop-span.reaches.items c.max-reach.result 0 k (omega (arith, c.loop-span.invariant.as_many, same))
                ∙ reach ∙ ap (λ n. reach_of (take (n + 1) c.args.spans.now)) (sym same)
          ];
    }
