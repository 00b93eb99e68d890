use Rattle.std.proofs.Common.{◌∙◌, ap, sym, ◌+◌, arith, ℕ}
use Rattle.size_precheck.specs.Joints.{member_count}
use Rattle.size_precheck.proofs.Counting.{members_with, members_to}
use Rattle.size_precheck.proofs.counts.count_members.Goals as goal

pub members-preserved : goal.members-preserved
members-preserved c = record {
  within = let a = c.in-Some.ensures.small in omega arith;
  counted = ap (λ (n : ℕ). n + 1) c.members.invariant.counted ∙ sym (members_with c.args.set.now _ _ c.in-Some.ensures);
  few = let a = c.in-Some.ensures.not_before in let b = c.members.invariant.few in omega arith;
}

pub returns : goal.returns
unfolding member_count
returns c = c.members.invariant.counted ∙ sym (members_to c.args.set.now _ _ c.members.invariant.within (λ w l m. c.in_default.ensures w l))
