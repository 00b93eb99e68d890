-- What control of chance nodes is worth to an agent, and which incentives it has there: a line for
-- each (Everitt et al. 2021).
use Rattle.std.specs.Prelude.{◌≡◌, ◌↔◌, ℕ, List, All, filter, map, pos, ◌≤ℤ◌, IsTrue, IfSome}
use Rattle.maid_model.specs.declared.diagrams.Kind.TheVariants.{Decision, Utility}
use Rattle.maid_model.specs.Edits.{as_decision, one_agent}
use Rattle.maid_model.specs.Nodes.{is_chance, node_at, numbers_of}
use Rattle.maid_model.specs.Trimming.{IsTrimmed}
use Rattle.maid_model.specs.Values.{IsValueOfControl}
use Rattle.maid_model.specs.Views.{NodeView, DiagramView, AnswerView, SolvedView}
use Rattle.diagram_graph.specs.Edited.{with_nodes}
use Rattle.diagram_graph.specs.Room.{IsTooLargeAsDecision}
use Rattle.first_fault.specs.Outcomes.{◌▸▸◌, gives}
use Rattle.first_fault.specs.Passes.{Pass, ◌▸◌, rule}
use Rattle.optimum_gap.specs.Baselines.{alone}
use Rattle.optimum_gap.specs.Found.{Reason, TooLarge, Worthless, found_of, reason_pass, unless, worth_of}
use Rattle.control_incentive.specs.declared.lines.ControlLine.{ControlLine}
use Rattle.control_incentive.specs.Paths.{IsInstrumental, LeadsToOwn}

-- the chance nodes, in text order
abbrev pub chance_nodes : List NodeView → List ℕ
chance_nodes nodes = filter (λ v. is_chance (node_at nodes v).kind) (numbers_of nodes)

-- the diagram in which the agent decides at the node too
abbrev pub controlling : DiagramView → ℕ → ℕ → DiagramView
controlling d agent x = with_nodes d (as_decision d.nodes agent x)

-- why control has no value: it is worthless unless that holds, it makes too much of the rules, or
-- the solver refuses the diagram with it
abbrev pub of_control : DiagramView → ℕ → ℕ → Type 0 → Pass Reason
of_control d agent x Matters = unless Matters Worthless
    ▸ rule (IsTooLargeAsDecision d.nodes agent x) TooLarge
    ▸ reason_pass (controlling d agent x)

-- a line's node
abbrev pub line_node : ControlLine → ℕ
line_node line = line.node

-- A line says whether in the trimmed diagram a path leads from the node to a decision of the agent,
-- whether one leads from such a decision through the node to a utility of the agent, and what is
-- found of its control: the first reason that applies, which is that no path leads from it to a
-- utility of the agent in the trimmed diagram, or a limit, or the solver's; or else the control
-- value.
pub record IsControlLine
    (d : DiagramView) (answers : List AnswerView) (agent : ℕ) (trimmed : List NodeView)
    (line : ControlLine) : Type 0 where
  pub response : IsTrue line.response ↔ LeadsToOwn trimmed Decision agent line.node
  pub instrumental :
      IsTrue line.instrumental ↔ IsInstrumental (one_agent d.nodes agent answers) agent line.node
  pub found : (of_control (alone d answers agent) agent line.node
      (LeadsToOwn trimmed Utility agent line.node)
      ▸▸ gives (IsValueOfControl d.nodes d.decimals answers agent line.node))
      (found_of line.found)

-- the trimmed diagram in which only the agent decides
pub record IsTrimmedAlone
    (d : DiagramView) (answers : List AnswerView) (agent : ℕ) (trimmed : List NodeView) : Type 0
  where
    pub removed : List (ℕ × ℕ)
    pub is : IsTrimmed (one_agent d.nodes agent answers) removed trimmed

-- all lines look at one trimmed diagram
abbrev pub AreControlLines : DiagramView → List AnswerView → ℕ → List ControlLine → Type 0
AreControlLines d answers agent lines = (trimmed : List NodeView)
    × IsTrimmedAlone d answers agent trimmed × All (IsControlLine d answers agent trimmed) lines

-- such lines of the diagram and its answer
abbrev pub TellIncentives : DiagramView → SolvedView → ℕ → List ControlLine → Type 0
TellIncentives d solved agent lines = AreControlLines d solved.answers agent lines

-- a line for each chance node
abbrev pub HasChanceNodes : List NodeView → List ControlLine → Type 0
HasChanceNodes nodes lines = map line_node lines ≡ chance_nodes nodes

-- the worth that a line tells is the control value, and not below nought; a worthless line tells of
-- two equal optima
abbrev pub TellsControl : DiagramView → List AnswerView → ℕ → ControlLine → Type 0
TellsControl d answers agent line = IfSome (worth_of line.found) (λ r.
    IsValueOfControl d.nodes d.decimals answers agent line.node r × (pos 0 ≤ℤ r.num))

-- so do all lines
abbrev pub TellControls : DiagramView → SolvedView → ℕ → List ControlLine → Type 0
TellControls d solved agent lines = All (TellsControl d solved.answers agent) lines
