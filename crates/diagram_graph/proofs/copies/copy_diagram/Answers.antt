use Rattle.maid_model.specs.Diagrams.{IsDiagram}
use Rattle.std.proofs.Common.{◌≡◌, IfOk, sym, subst}
use Rattle.std.proofs.lemmas.Result.{IfOk-from_err}
use Rattle.diagram_graph.proofs.copies.copy_diagram.Goals as goal

pub returns-in_err-nodes : goal.returns-in_err-nodes
returns-in_err-nodes c = IfOk-from_err _ _ c.from_residual.ensures.0

pub from_nodes-requires : goal.from_nodes-requires
from_nodes-requires c =
    subst IsDiagram (λ i. record { nodes = sym c.in_ok-nodes.ensures i; agents = sym c.agents.ensures.agents i; decimals = sym c.decimals.ensures.decimals i }) c.agents.ensures.diagram

pub returns : goal.returns
returns c =
    subst (λ d. IfOk c.from_nodes.result (λ copy. copy ≡ d)) (λ i. record { nodes = c.in_ok-nodes.ensures i; agents = c.agents.ensures.agents i; decimals = c.decimals.ensures.decimals i }) c.from_nodes.ensures
