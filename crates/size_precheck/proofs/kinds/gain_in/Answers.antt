use Rattle.std.proofs.Common.{◌≡◌, ◌∙◌, ℕ, List, [], ◌∷◌, ◌++◌, Some, IfOk, subst, sym, ap}
use Rattle.maid_model.specs.Nodes.{parents_of}
use Rattle.size_precheck.specs.Sizes.{CanBePlanned, IsMade}
use Rattle.size_precheck.proofs.Measuring.{gain_planned, on_ok}
use Rattle.size_precheck.proofs.kinds.gain_in.Goals as goal

pub returns-clause-made : goal.returns-clause-made
returns-clause-made c =
    let nodes = c.args.diagram.now.nodes in
    let keep : c.extend_from_slice.new.self.items ≡ c.args.decision ∷ parents_of nodes c.args.decision = c.in_ok-extend_from_slice.ensures.items ∙ ap (λ (xs : List ℕ). xs ++ c.parents-parents.result.now) (c.in_ok-push.ensures.items ∙ ap (λ (xs : List ℕ). xs ++ c.args.decision ∷ []) c.in_ok-keep.ensures.items) ∙ ap (λ (xs : List ℕ). c.args.decision ∷ xs) c.parents-parents.ensures.parents in
    subst (λ (xs : List ℕ). IfOk c.plan_in.result (IsMade nodes (record { keep = xs; without = Some c.args.decision; utility = Some c.args.goal }))) keep c.plan_in.ensures

pub plan_in-requires-clause-asked : goal.plan_in-requires-clause-asked
plan_in-requires-clause-asked c =
    let nodes = c.args.diagram.now.nodes in
    let keep : c.extend_from_slice.new.self.items ≡ c.args.decision ∷ parents_of nodes c.args.decision = c.in_ok-extend_from_slice.ensures.items ∙ ap (λ (xs : List ℕ). xs ++ c.parents-parents.result.now) (c.in_ok-push.ensures.items ∙ ap (λ (xs : List ℕ). xs ++ c.args.decision ∷ []) c.in_ok-keep.ensures.items) ∙ ap (λ (xs : List ℕ). c.args.decision ∷ xs) c.parents-parents.ensures.parents in
    subst (λ (xs : List ℕ). CanBePlanned nodes (record { keep = xs; without = Some c.args.decision; utility = Some c.args.goal })) (sym {A = List ℕ} keep)
    (gain_planned nodes c.args.decision c.args.goal c.parents-parents.ensures.diagram.graph c.requires.decision c.requires.goal)

pub returns-clause-asked : goal.returns-clause-asked
returns-clause-asked c = on_ok c.plan_in.result (gain_planned c.args.diagram.now.nodes c.args.decision c.args.goal c.parents-parents.ensures.diagram.graph c.requires.decision c.requires.goal)
