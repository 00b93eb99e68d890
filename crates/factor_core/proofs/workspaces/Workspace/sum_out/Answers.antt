use Rattle.factor_core.proofs.Conditions.{sum_fits_join}
use Rattle.factor_core.proofs.workspaces.Workspace.sum_out.Goals as goal

pub join_out-requires-clause-fits : goal.join_out-requires-clause-fits
join_out-requires-clause-fits g c =
    sum_fits_join g.met.C.Cell.one_fits c.args.diagram.now.nodes c.args.self.now.cells c.args.slot.now c.args.node c.requires.fits
