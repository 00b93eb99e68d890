use Rattle.maid_model.proofs.Found.{eqb_yes, eqb_no}
use Rattle.std.proofs.Common.{◌≡◌, ◌∙◌, ℕ, ◌+◌, ◌*◌, arith, cond, sym}
use Rattle.tree_checker.proofs.strides.cell_step.Goals as goal

none : (k : ℕ) → k ≡ k + 0
none k = omega arith

pub row_step-requires : goal.row_step-requires
row_step-requires c = omega (arith, c.requires.node, c.if-node-count.false, c.count.ensures.count)

pub states-requires : goal.states-requires
states-requires c = omega (arith, c.requires.node, c.if-node-count.false, c.count.ensures.count)

pub returns-then-node-by : goal.returns-then-node-by
returns-then-node-by c = (λ i. c.row_step.ensures.step i * c.states.ensures.states i + cond (sym (eqb_yes c.args.node c.args.by c.if-node-by.true) i) 1 0)

pub returns-else-node-by : goal.returns-else-node-by
returns-else-node-by c = none (c.row_step.result * c.states.result) ∙ (λ i. c.row_step.ensures.step i * c.states.ensures.states i + cond (sym (eqb_no c.args.node c.args.by c.if-node-by.false) i) 1 0)
