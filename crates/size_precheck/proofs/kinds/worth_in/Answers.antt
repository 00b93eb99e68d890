use Rattle.std.proofs.Common.{ℕ, List, None, Some, IfOk, subst, sym}
use Rattle.size_precheck.specs.Sizes.{plan_of, CanBePlanned, IsMade}
use Rattle.size_precheck.proofs.Measuring.{worth_planned, on_ok}
use Rattle.size_precheck.proofs.kinds.worth_in.Goals as goal

pub returns-clause-made : goal.returns-clause-made
returns-clause-made c = subst (λ (xs : List ℕ). IfOk c.plan_in.result (IsMade c.args.diagram.now.nodes (plan_of xs None (Some c.args.utility)))) c.new-keep.ensures.items c.plan_in.ensures

pub plan_in-requires-clause-asked : goal.plan_in-requires-clause-asked
plan_in-requires-clause-asked c =
    subst (λ (xs : List ℕ). CanBePlanned c.args.diagram.now.nodes (plan_of xs None (Some c.args.utility))) (sym {A = List ℕ} c.new-keep.ensures.items) (worth_planned c.args.diagram.now.nodes c.args.utility c.requires.within c.requires.kind)

pub returns-clause-asked : goal.returns-clause-asked
returns-clause-asked c = on_ok c.plan_in.result (worth_planned c.args.diagram.now.nodes c.args.utility c.requires.within c.requires.kind)
