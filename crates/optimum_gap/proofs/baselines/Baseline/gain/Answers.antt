use Rattle.maid_model.specs.Values.{IsDifferenceOfOptima}
use Rattle.optimum_gap.proofs.Optima.{near_law, told}
use Rattle.optimum_gap.specs.Found.{reason_pass}
use Rattle.optimum_gap.proofs.baselines.Baseline.gain.Goals as goal

pub difference-requires : goal.difference-requires
difference-requires c =
    let d = c.args.self.now.diagram.now in
    let e = c.args.edited.now in
    near_law d e c.args.self.now.agent c.args.self.now.optimum c.in-Ok.more c.count-before.ensures.diagram c.count-after.ensures.diagram c.requires.baseline c.requires.near c.requires.within c.in-Ok.ensures.rows.1.0 c.in-Ok.ensures.optimum

pub returns-in-Err-clause-gain : goal.returns-in-Err-clause-gain
returns-in-Err-clause-gain c =
    let d = c.args.self.now.diagram.now in
    let e = c.args.edited.now in
    told (reason_pass e) (IsDifferenceOfOptima e.nodes d.nodes d.decimals c.args.self.now.agent) c.refused.result (c.refused.ensures e c.in-Err.ensures.rows)
