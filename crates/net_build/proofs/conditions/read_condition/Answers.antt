-- Each row hands its fault on, those before having found nothing.
use Rattle.net_build.proofs.LinkLemmas.{condition_unknown, condition_repeat, condition_utility}
use Rattle.net_build.proofs.conditions.read_condition.Goals as goal

pub returns-in_err-node-clause-rows : goal.returns-in_err-node-clause-rows
returns-in_err-node-clause-rows c =
    condition_unknown c.args.text.now c.args.names.now c.args.heads.now c.args.earlier.now c.args.name.now _ _ c.from_residual.ensures c.in_err-node.ensures.row

pub returns-in_err-check_repeat-clause-rows : goal.returns-in_err-check_repeat-clause-rows
returns-in_err-check_repeat-clause-rows c =
    condition_repeat c.args.text.now c.args.names.now c.args.heads.now c.args.earlier.now c.args.name.now _ _ c.from_residual-in_err-check_repeat.ensures c.in_ok-node.ensures.row c.in_err-check_repeat.ensures

pub returns-in_err-check_kind-clause-rows : goal.returns-in_err-check_kind-clause-rows
returns-in_err-check_kind-clause-rows c =
    condition_utility c.args.text.now c.args.names.now c.args.heads.now c.args.earlier.now c.args.name.now c.in_ok-node.node _ _ c.from_residual-in_err-check_kind.ensures c.in_ok-node.ensures.row c.in_ok-check_repeat.ensures c.in_ok-node.ensures.node c.in_err-check_kind.ensures
