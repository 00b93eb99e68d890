-- What a diagram keeps of a node's parents.
use Rattle.std.proofs.Common.{◌≢◌, ℕ, ◌<◌, length, All, get_or, subst, sym}
use Rattle.std.proofs.lemmas.List.Elements.{All-contains_itself, All-map}
use Rattle.maid_model.specs.declared.diagrams.Kind.TheVariants.{Utility}
use Rattle.maid_model.specs.Views.{DiagramView, AnswerView, SolvedView}
use Rattle.maid_model.specs.Answers.{FitsDiagram}
use Rattle.maid_model.specs.Names.{NamesView, NamesFit}
use Rattle.maid_model.specs.Diagrams.{IsDiagram}
use Rattle.maid_model.specs.Nodes.{node_at, parents_of}

-- each parent is a node, and no utility
pub parents_known : (d : DiagramView) → IsDiagram d → (v : ℕ) → All (λ u. (u < length d.nodes) × ((node_at d.nodes u).kind ≢ Utility)) (parents_of d.nodes v)
parents_known d is v k e h =
    let among = All-contains_itself (parents_of d.nodes v) k e h in
    (is.graph.parents_known _ v among, is.graph.no_utility_parent _ v among)

-- each decision of the order has a name
pub order_named : (d : DiagramView) (names : NamesView) (solved : SolvedView) → NamesFit d names → FitsDiagram d solved → All (λ v. v < length names.nodes) solved.order
order_named d names solved named fits =
    subst (λ order. All (λ v. v < length names.nodes) order) fits.follow
    (All-map (λ v. v < length names.nodes) (λ (a : AnswerView). a.decision) solved.answers
    (λ k e h. subst (λ n. (get_or solved.answers k e).decision < n) (sym named.nodes) (fits.answers k e h).decision.within))
