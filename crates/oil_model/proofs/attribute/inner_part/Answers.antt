use Rattle.std.proofs.Common.{take, ap, ◌∙◌, length}
use Rattle.std.specs.Prelude.{unwrap_or}
use Rattle.oil_model.specs.Attributes.{is_own}
use Rattle.oil_model.proofs.Lists.{position_or_length}
use Rattle.oil_model.proofs.attribute.inner_part.Goals as goal

pub returns : goal.returns
returns c =
    ap (λ n. take n c.args.attributes.now)
    (c.unwrap_or-end.ensures ∙ (ap (λ o. unwrap_or o (length c.args.attributes.now)) c.next_own.ensures ∙ position_or_length is_own c.args.attributes.now))
