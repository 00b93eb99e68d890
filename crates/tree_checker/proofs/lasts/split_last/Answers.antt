use Rattle.std.proofs.Common.{rules, ◌∙◌, [], ◌∷◌, ◌-◌, arith, length, sym, take, slice_index_or, refl}
use Rattle.tree_checker.proofs.LastSplit.{before_whole, ends_whole, front_inside, last_inside, tail_inside}
use Rattle.tree_checker.proofs.lasts.split_last.Goals as goal

pub kind-requires : goal.kind-requires
kind-requires c = last_inside c.args.diagram.now.nodes c.args.order.now c.args.tail.now c.in-len1-up.len_at_least c.requires.order

pub holds-requires : goal.holds-requires
holds-requires c = omega (arith, tail_inside c.args.diagram.now.nodes c.args.order.now c.args.tail.now c.in-len1.len_at_least c.requires.order, c.kind.ensures.diagram.limits.nodes)

pub row_step-requires : goal.row_step-requires
row_step-requires c = tail_inside c.args.diagram.now.nodes c.args.order.now c.args.tail.now c.in-len1.len_at_least c.requires.order

pub split_before-before-requires : goal.split_before-before-requires
split_before-before-requires c = record {
  decision = c.requires.decision;
  last = last_inside c.args.diagram.now.nodes c.args.order.now c.args.tail.now c.in-len1-up.len_at_least c.requires.order;
  utility = tail_inside c.args.diagram.now.nodes c.args.order.now c.args.tail.now c.in-len1.len_at_least c.requires.order;
  order = front_inside c.args.diagram.now.nodes c.args.order.now c.args.tail.now (length c.args.order.now - 1) c.requires.order;
}

pub returns-in-Chance : goal.returns-in-Chance
returns-in-Chance c = record {
  whole =
      before_whole c.split_before-before.result.0.now (take (length c.args.order.now - 1) c.args.order.now) c.split_before-before.result.1
      (slice_index_or c.args.order.now (length c.args.order.now - 1) 0 ∷ slice_index_or c.args.tail.now 0 0 ∷ []) c.split_before-before.ensures.whole
      ∙ ends_whole c.args.order.now c.args.tail.now c.in-len1-up.len_at_least c.in-len1.len_at_least (omega (arith, c.in-len1.len_below));
  ending = record {
    weighs = search rules;
    utility = c.requires.tail 0 c.in-len1.len_at_least;
    marked = sym c.holds.ensures ∙ c.if-not-holds.false;
    row = c.row_step.ensures.step;
    cell = c.cell_step.ensures;
    before = c.split_before-before.ensures.before;
  };
}

pub overflow_sub-v : goal.overflow_sub-v
overflow_sub-v c = c.in-len1-up.len_at_least

pub returns-in-Utility-clause-whole : goal.returns-in-Utility-clause-whole
returns-in-Utility-clause-whole c = refl

pub returns-in-Utility-clause-ending : goal.returns-in-Utility-clause-ending
returns-in-Utility-clause-ending c = c.requires.tail

pub returns-then-not-holds : goal.returns-then-not-holds
returns-then-not-holds c = record { whole = refl; ending = c.requires.tail }

pub cell_step-requires : goal.cell_step-requires
cell_step-requires c = record { node = c.requires.decision; by = last_inside c.args.diagram.now.nodes c.args.order.now c.args.tail.now c.in-len1-up.len_at_least c.requires.order }

pub returns-clause-whole : goal.returns-clause-whole
returns-clause-whole c = refl

pub returns-clause-ending : goal.returns-clause-ending
returns-clause-ending c = c.requires.tail
