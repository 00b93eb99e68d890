use Rattle.std.proofs.Common.{◌∙◌, ap, sym, arith, ℕ}
use Rattle.size_precheck.specs.Joints.{counted_over}
use Rattle.maid_model.specs.Bounds.{stopped}
use Rattle.size_precheck.proofs.Counting.{counted_more, factors_to}
use Rattle.size_precheck.proofs.counts.count_cells.Goals as goal

pub members-preserved : goal.members-preserved
members-preserved c = record {
  within = let a = c.in-Some.ensures.small in omega arith;
  counted = counted_more c.args.set.now c.args.states.now _ c.in-Some.v _ _ (omega (arith, c.requires, c.in-Some.ensures.small)) c.in-Some.ensures c.members.invariant.counted c.multiply-cells.ensures;
}

pub returns : goal.returns
unfolding counted_over
returns c = c.members.invariant.counted ∙ ap (λ (n : ℕ). stopped n) (sym (factors_to c.args.set.now c.args.states.now _ _ c.members.invariant.within (λ w l m. c.in_default.ensures w l)))
