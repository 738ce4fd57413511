use Rattle.scheduler_moves.proofs.Listings.{found_Decides}
use Rattle.scheduler_moves.proofs.listing.is_listed.Goals as goal

pub returns : goal.returns
returns c = rw (c.contains.ensures, c.requires c.args.state.now) (found_Decides c.args.states.now c.args.state.now)
