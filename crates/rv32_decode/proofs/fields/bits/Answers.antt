-- A mask of low bits is a remainder.
use Rattle.std.proofs.Common.{◌≡◌, ◌+◌, ◌-◌, ◌/◌, ◌%◌, ◌^◌, arith, ap, ◌∙◌, bit_and}
use Rattle.std.proofs.lemmas.Nat.{one_shl, and_mask}
use Rattle.rv32_decode.proofs.fields.bits.Goals as goal

pub returns : goal.returns
returns c =
    let n = c.args.high - c.args.low + 1 in
    let shifted = c.args.word / 2 ^ c.args.low in
    let count : n ≡ c.args.high + 1 - c.args.low = omega arith in
    ap (λ k. bit_and shifted (k - 1)) (one_shl n 32 (omega arith)) ∙ and_mask shifted n ∙ ap (λ k. shifted % 2 ^ k) count
