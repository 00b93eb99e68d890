use Rattle.maid_model.specs.Values.{IsDifferenceOfOptima}
use Rattle.optimum_gap.proofs.Optima.{near_law, shared_back, told}
use Rattle.optimum_gap.specs.Found.{reason_pass}
use Rattle.optimum_gap.proofs.baselines.Baseline.loss.Goals as goal

pub difference-requires : goal.difference-requires
difference-requires c =
    let d = c.args.self.now.diagram.now in
    let e = c.args.edited.now in
    shared_back c.in-Ok.less c.args.self.now.optimum
    (near_law d e c.args.self.now.agent c.args.self.now.optimum c.in-Ok.less c.count-before.ensures.diagram c.count-after.ensures.diagram c.requires.baseline c.requires.near c.requires.within c.in-Ok.ensures.rows.1.0 c.in-Ok.ensures.optimum)

pub returns-in-Err-clause-loss : goal.returns-in-Err-clause-loss
returns-in-Err-clause-loss c =
    let d = c.args.self.now.diagram.now in
    let e = c.args.edited.now in
    told (reason_pass e) (IsDifferenceOfOptima d.nodes e.nodes d.decimals c.args.self.now.agent) c.refused.result (c.refused.ensures e c.in-Err.ensures.rows)
