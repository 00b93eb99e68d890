-- Why an arc into a decision has no information value: the first reason that applies, in the
-- diagram in which only one agent decides.
use Rattle.std.specs.Prelude.{ℕ, List}
use Rattle.maid_model.specs.Edits.{with_arc, without_arc}
use Rattle.maid_model.specs.Relevance.{IsRequisite}
use Rattle.maid_model.specs.Views.{NodeView, DiagramView}
use Rattle.diagram_graph.specs.Edited.{with_nodes}
use Rattle.diagram_graph.specs.Room.{IsArcTooLarge}
use Rattle.first_fault.specs.Passes.{Pass, ◌▸◌, rule}
use Rattle.optimum_gap.specs.Found.{Reason, TooLarge, Worthless, reason_pass, unless}

-- the diagram with the arc
abbrev pub diagram_with_arc : DiagramView → ℕ → ℕ → DiagramView
diagram_with_arc d x to = with_nodes d (with_arc d.nodes x to)

-- the diagram without the arc
abbrev pub missing : DiagramView → ℕ → ℕ → DiagramView
missing d x to = with_nodes d (without_arc d.nodes x to)

-- the node would be requisite, if the decision saw it
abbrev pub WouldBeRequisite : List NodeView → ℕ → ℕ → Type 0
WouldBeRequisite nodes x to = IsRequisite (with_arc nodes x to) to x

-- an arc that is there: worthless unless it is requisite, or the diagram without it is refused by
-- the solver
abbrev pub of_seen : DiagramView → ℕ → ℕ → Pass Reason
of_seen d x to = unless (IsRequisite d.nodes to x) Worthless ▸ reason_pass (missing d x to)

-- an arc that is not there: it makes too much of the rules, is worthless unless it would be
-- requisite, or the diagram with it is refused by the solver
abbrev pub of_unseen : DiagramView → ℕ → ℕ → Pass Reason
of_unseen d x to = rule (IsArcTooLarge d.nodes x to) TooLarge
    ▸ unless (WouldBeRequisite d.nodes x to) Worthless ▸ reason_pass (diagram_with_arc d x to)
