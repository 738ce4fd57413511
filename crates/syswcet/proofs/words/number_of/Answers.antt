use Rattle.std.proofs.Common.{◌≡◌, true, sym, ap, ◌∙◌, refl}
use Rattle.std.specs.Result.{result_ok}
use Rattle.syswcet.specs.Words.{is_number}
use Rattle.syswcet.proofs.Numbers.{reads_number}
use Rattle.syswcet.proofs.words.number_of.Goals as goal

pub returns : goal.returns
returns c =
    let digits : is_number c.args.text.now ≡ true = rw (← c.as_bytes.ensures.value) (sym c.if-not-is_number.ensures) in
    c.ok.ensures.value ∙ ap result_ok (reads_number c.args.text.now c.parse.result c.parse.ensures.value.0 digits) ∙ sym (rw digits refl)
