use Rattle.std.proofs.Common.{◌≡◌, ◌<◌, ◌≤◌, ◌++◌, [], length, get_or, rules, arith, ap}
use Rattle.maid_model.specs.Names.{labels_of}
use Rattle.maid_model.specs.Reports.{quoted}
use Rattle.net_print.specs.Parts.{gap}
use Rattle.net_print.proofs.Steps.{parted_first, parted_more, parted_all}
use Rattle.net_print.proofs.blocks.push_labels.Goals as goal

pub loop-state-init : goal.loop-state-init
loop-state-init c = ap (λ rest. c.args.out.now.items ++ rest) (parted_first quoted (labels_of c.args.names.now c.args.node))

pub loop-state-preserved : goal.loop-state-preserved
loop-state-preserved c =
    let labels = labels_of c.args.names.now c.args.node in
    let within : c.loop-state.state < length labels = omega (arith, c.requires.fit.states c.args.node c.requires.node c.requires.kind) in
    let step : c.push_quoted.new.out.items ≡ (c.loop-state.out.items ++ gap c.loop-state.state) ++ quoted (get_or labels c.loop-state.state []) = search rules in
    parted_more quoted c.loop-state.state labels c.loop-state.state [] within c.loop-state.out.items c.push_quoted.new.out.items _ step c.loop-state.invariant

pub returns : goal.returns
returns c =
    let labels = labels_of c.args.names.now c.args.node in
    let last : length labels ≤ c.loop-state.state = omega (arith, c.requires.fit.states c.args.node c.requires.node c.requires.kind) in
    parted_all quoted c.loop-state.state labels c.loop-state.state last c.loop-state.out.items _ c.loop-state.invariant
