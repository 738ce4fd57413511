use Rattle.std.proofs.Common.{◌++◌, ◌≤◌, ◌<◌, ◌^◌, length, sym, ◌∙◌, ap, subst, arith}
use Rattle.std.proofs.lemmas.List.Elements.{All-more}
use Rattle.elf_image.specs.Plain.{symbol_bytes}
use Rattle.elf_image.specs.declared.symbol.Symbol.{Symbol}
use Rattle.elf_image.proofs.PlainLemmas.{symbols-step}
use Rattle.elf_image.proofs.plain.put_symbols.Goals as goal

pub loop-symbol-preserved : goal.loop-symbol-preserved
loop-symbol-preserved c =
    let short : length (c.symbol-item.result).name ≤ 64 =
    subst (λ (s : Symbol). length s.name ≤ 64) (sym c.symbol-item.is) (c.requires.names c.loop-symbol.symbol-index c.symbol-item.result c.loop-symbol-test.true) in
    record {
      whole = rw c.len.ensures
          (symbols-step c.loop-symbol.file.items c.put_symbol.new.file.items c.loop-symbol.place c.loop-symbol.symbol-index c.args.symbols.now
          c.symbol-item.result c.loop-symbol-test.true c.symbol-item.is
          (c.in_ok-put_symbol.ensures ∙ ap (λ v. c.loop-symbol.file.items ++ symbol_bytes (record { place = c.loop-symbol.place; value = v })) c.value_of.ensures)
          ∙ c.loop-symbol.invariant.whole);
      near = omega (arith, short, c.len.ensures, c.loop-symbol.invariant.near);
      values = All-more (λ (s : Symbol). s.value < 2 ^ 32) c.args.symbols.now c.loop-symbol.symbol-index c.symbol-item.result c.loop-symbol-test.true c.loop-symbol.invariant.values
          (subst (λ (s : Symbol). s.value < 2 ^ 32) c.symbol-item.is (subst (λ v. v < 2 ^ 32) c.value_of.ensures c.value_of.type_inv));
    }
