use Rattle.std.proofs.lemmas.List.{append-nil}
use Rattle.std.proofs.Common.{◌-◌, arith, length}
use Rattle.tree_checker.proofs.lasts.split_before.Goals as goal

pub overflow_sub-v : goal.overflow_sub-v
overflow_sub-v c = c.in-len1-up.len_at_least

pub kind-requires : goal.kind-requires
kind-requires c = c.requires.order (length c.args.order.now - 1) (omega (arith, c.in-len1-up.len_at_least))

pub returns-in-Utility-clause-whole : goal.returns-in-Utility-clause-whole
returns-in-Utility-clause-whole c = append-nil c.args.order.now

pub returns-in-Utility-clause-before : goal.returns-in-Utility-clause-before
returns-in-Utility-clause-before c = tt

pub cell_step-requires : goal.cell_step-requires
cell_step-requires c = record { node = omega (arith, c.requires.last); by = c.requires.order (length c.args.order.now - 1) (omega (arith, c.in-len1-up.len_at_least)) }

pub row_step-requires : goal.row_step-requires
row_step-requires c = c.requires.utility

pub cell_step-requires-in-Chance : goal.cell_step-requires-in-Chance
cell_step-requires-in-Chance c = record { node = c.requires.decision; by = c.requires.order (length c.args.order.now - 1) (omega (arith, c.in-len1-up.len_at_least)) }

pub returns-clause-whole : goal.returns-clause-whole
returns-clause-whole c = append-nil c.args.order.now

pub returns-clause-before : goal.returns-clause-before
returns-clause-before c = tt
