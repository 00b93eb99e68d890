use Rattle.factor_core.proofs.Listing.{inserted}
use Rattle.factor_core.proofs.orders.insert_axis.Goals as goal

pub returns : goal.returns
returns c = inserted _ c.args.axes.now c.args.n c.args.at c.args.axis c.requires.room c.requires.at.0 c.requires.at.1
