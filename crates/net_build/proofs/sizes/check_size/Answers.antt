-- The cells of a decision count with the rules before it.
use Rattle.std.proofs.Common.{arith}
use Rattle.std.proofs.lemmas.List.{get_or_default}
use Rattle.net_build.specs.Linking.{size_rows_over}
use Rattle.net_build.specs.Stages.{no_head}
use Rattle.first_fault.proofs.HandedOn.{hands_on}
use Rattle.net_build.specs.Passes.{build_fault}
use Rattle.net_build.proofs.SizeLemmas.{size_refused, size_kept}
use Rattle.std.proofs.lemmas.Result.{IfOk-from_err}
use Rattle.net_build.proofs.sizes.check_size.Goals as goal

pub returns-in_err-check_rules-in-Decision-clause-rows :
    goal.returns-in_err-check_rules-in-Decision-clause-rows
returns-in_err-check_rules-in-Decision-clause-rows c =
    hands_on build_fault (size_rows_over c.args.heads.now c.args.parents.now c.args.node c.args.rules) _ _ c.from_residual-in_err-check_rules-in-Decision.ensures
    (size_refused c.args.heads.now c.args.parents.now c.args.node c.args.rules _ _ _ c.in_ok-cells.ensures.cells c.in_ok-cells.ensures.row (get_or_default c.args.heads.now c.args.node _ no_head c.requires.within) c.in-Decision.is c.in_err-check_rules-in-Decision.ensures)

pub returns-in_ok-check_rules-in-Decision-clause-rows :
    goal.returns-in_ok-check_rules-in-Decision-clause-rows
returns-in_ok-check_rules-in-Decision-clause-rows c =
    size_kept c.args.heads.now c.args.parents.now c.args.node c.args.rules _ _ c.in_ok-cells.ensures.cells c.in_ok-cells.ensures.row (get_or_default c.args.heads.now c.args.node _ no_head c.requires.within) c.in-Decision.is c.in_ok-check_rules-in-Decision.ensures

pub check_cells-requires-clause-within : goal.check_cells-requires-clause-within
check_cells-requires-clause-within c = c.requires.within

pub check_cells-requires-clause-parents : goal.check_cells-requires-clause-parents
check_cells-requires-clause-parents c = c.requires.parents

pub returns-in_err-cells-clause-sum : goal.returns-in_err-cells-clause-sum
returns-in_err-cells-clause-sum c = IfOk-from_err _ _ c.from_residual.ensures.0

pub returns-in_err-cells-clause-few : goal.returns-in_err-cells-clause-few
returns-in_err-cells-clause-few c = IfOk-from_err _ _ c.from_residual.ensures.0

pub returns-in_err-cells-clause-cells : goal.returns-in_err-cells-clause-cells
returns-in_err-cells-clause-cells c = IfOk-from_err _ _ c.from_residual.ensures.0

pub bounds-heads-node : goal.bounds-heads-node
bounds-heads-node c = c.requires.within

pub returns-in_err-check_rules-in-Decision-clause-sum : goal.returns-in_err-check_rules-in-Decision-clause-sum
returns-in_err-check_rules-in-Decision-clause-sum c = IfOk-from_err _ _ c.from_residual-in_err-check_rules-in-Decision.ensures.0

pub returns-in_err-check_rules-in-Decision-clause-few : goal.returns-in_err-check_rules-in-Decision-clause-few
returns-in_err-check_rules-in-Decision-clause-few c = IfOk-from_err _ _ c.from_residual-in_err-check_rules-in-Decision.ensures.0

pub returns-in_err-check_rules-in-Decision-clause-cells : goal.returns-in_err-check_rules-in-Decision-clause-cells
returns-in_err-check_rules-in-Decision-clause-cells c = IfOk-from_err _ _ c.from_residual-in_err-check_rules-in-Decision.ensures.0

pub overflow_add-rules : goal.overflow_add-rules
overflow_add-rules c = omega (arith, c.requires.rules, c.in_ok-cells.ensures.few)
