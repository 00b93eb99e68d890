use Rattle.std.proofs.Common.{◌∙◌, ℕ, List, IfOk, subst, sym}
use Rattle.size_precheck.specs.Sizes.{CanBePlanned, IsMade}
use Rattle.size_precheck.proofs.Measuring.{keeps, row_planned, on_ok}
use Rattle.size_precheck.proofs.kinds.rows_in.Goals as goal

pub returns-clause-made : goal.returns-clause-made
returns-clause-made c = subst (λ (xs : List ℕ). IfOk c.plan_in.result (IsMade c.args.diagram.now.nodes (keeps xs))) (c.in_ok-keep.ensures.items ∙ c.parents-parents.ensures.parents) c.plan_in.ensures

pub plan_in-requires-clause-asked : goal.plan_in-requires-clause-asked
plan_in-requires-clause-asked c =
    subst (λ (xs : List ℕ). CanBePlanned c.args.diagram.now.nodes (keeps xs)) (sym {A = List ℕ} (c.in_ok-keep.ensures.items ∙ c.parents-parents.ensures.parents)) (row_planned c.args.diagram.now.nodes c.args.decision c.parents-parents.ensures.diagram.graph)

pub returns-clause-asked : goal.returns-clause-asked
returns-clause-asked c = on_ok c.plan_in.result (row_planned c.args.diagram.now.nodes c.args.decision c.parents-parents.ensures.diagram.graph)
