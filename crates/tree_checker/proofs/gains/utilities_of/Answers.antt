use Rattle.std.proofs.Common.{◌∙◌, sym}
use Rattle.maid_model.specs.Nodes.{is_utility_of}
use Rattle.finite_sums.proofs.Ranges.{filter_yes, filter_no}
use Rattle.tree_checker.proofs.gains.utilities_of.Goals as goal
use Rattle.tree_checker.proofs.gains.utilities_of.Goals.{then-is_utility_of+in_ok-push, else-is_utility_of}

pub loop-v-preserved : goal.loop-v-preserved
loop-v-preserved c =
    elim c.if-is_utility_of.branch [
      | then-is_utility_of+in_ok-push w ↦ cc (filter_yes (is_utility_of c.args.diagram.now.nodes c.args.agent) c.loop-v.v (sym c.is_utility_of.ensures.test ∙ w.if-is_utility_of.true), w.in_ok-push.ensures.items)
      | else-is_utility_of w ↦ cc (filter_no (is_utility_of c.args.diagram.now.nodes c.args.agent) c.loop-v.v (sym c.is_utility_of.ensures.test ∙ w.if-is_utility_of.false))
    ]
