use Rattle.std.proofs.Common.{ℕ, List, subst, sym, ◌+◌, arith}
use Rattle.size_precheck.proofs.Lists.{IsListTo, list_more, list_done}
use Rattle.size_precheck.proofs.simulation.list_members.Goals as goal

pub members-preserved : goal.members-preserved
members-preserved c = record {
  within = let a = c.in-Some.ensures.small in omega arith;
  listed = subst (λ (xs : List ℕ). IsListTo c.args.set.now (c.in-Some.v + 1) xs) (sym c.in_ok-push.ensures.items) (list_more c.args.set.now _ c.in-Some.v _ c.in-Some.ensures c.members.invariant.listed);
}

pub returns : goal.returns
returns c = list_done c.args.set.now _ _ c.members.invariant.listed c.in_default.ensures
