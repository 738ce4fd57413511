use Rattle.row_squeeze.proofs.Heads.{heads_are}
use Rattle.row_squeeze.proofs.laws.chains_have_heads.Goals as goal

pub returns : goal.returns
returns c = heads_are c.args.rows.now c.args.links.now c.requires
