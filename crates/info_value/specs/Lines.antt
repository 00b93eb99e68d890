-- What information is worth to an agent: a line for each arc into one of its decisions (Everitt et
-- al. 2021).
use Rattle.std.specs.Prelude.{◌≡◌, ◌⊎◌, ◌↔◌, ◌==◌, ◌&&◌, not, ℕ, Bool, true, false, List, All, map, filter, pos, ◌≤ℤ◌, IsTrue, IfSome}
use Rattle.std.specs.List.{flat_map}
use Rattle.maid_model.specs.declared.answers.Ratio.{Ratio}
use Rattle.maid_model.specs.Graph.{Arc, descends}
use Rattle.maid_model.specs.Nodes.{agent_of, is_decision, is_utility, node_at, numbers_of}
use Rattle.maid_model.specs.Values.{IsValueOfSeen, IsValueOfUnseen}
use Rattle.maid_model.specs.Views.{NodeView, DiagramView, AnswerView, SolvedView}
use Rattle.first_fault.specs.Outcomes.{◌▸▸◌, gives}
use Rattle.optimum_gap.specs.Baselines.{alone}
use Rattle.optimum_gap.specs.declared.found.Found.{Found}
use Rattle.optimum_gap.specs.Found.{found_of, worth_of}
use Rattle.info_value.specs.declared.lines.InfoLine.{InfoLine}
use Rattle.info_value.specs.Finding.{of_seen, of_unseen}

-- a decision of the agent
abbrev pub decides : List NodeView → ℕ → ℕ → Bool
decides nodes agent d = is_decision (node_at nodes d).kind && (agent_of nodes d == agent)

-- another chance node or decision, which does not descend from d: d may see it
abbrev pub may_see : List NodeView → ℕ → ℕ → Bool
may_see nodes d x =
    not (is_utility (node_at nodes x).kind) && (not (x == d) && not (descends nodes d x))

-- the arcs into d, as tail and head: from each node that it may see, in text order
abbrev pub arcs_into : List NodeView → ℕ → List (ℕ × ℕ)
arcs_into nodes d = map (λ x. (x, d)) (filter (may_see nodes d) (numbers_of nodes))

-- the arcs that are asked about: those into each decision of the agent, in text order
abbrev pub asked_arcs : List NodeView → ℕ → List (ℕ × ℕ)
asked_arcs nodes agent =
    flat_map (arcs_into nodes) (filter (decides nodes agent) (numbers_of nodes))

-- the first reason that applies, or else the information value: of an arc that is there, or of one
-- that is not
abbrev pub IsFound : DiagramView → List AnswerView → ℕ → ℕ → ℕ → Bool → Found → Type 0
IsFound d answers agent x to true found = (of_seen (alone d answers agent) x to
    ▸▸ gives (IsValueOfSeen d.nodes d.decimals answers agent x to)) (found_of found)
IsFound d answers agent x to false found = (of_unseen (alone d answers agent) x to
    ▸▸ gives (IsValueOfUnseen d.nodes d.decimals answers agent x to)) (found_of found)

-- a line's arc, tail and head
abbrev pub arc_of : InfoLine → ℕ × ℕ
arc_of line = (line.from, line.to)

-- a line for each arc that is asked about
abbrev pub HasAskedArcs : List NodeView → ℕ → List InfoLine → Type 0
HasAskedArcs nodes agent lines = map arc_of lines ≡ asked_arcs nodes agent

-- a line says whether the arc is there, and what is found of it
pub record IsInfoLine
    (d : DiagramView) (answers : List AnswerView) (agent : ℕ) (line : InfoLine) : Type 0 where
  pub has : IsTrue line.has ↔ Arc d.nodes line.from line.to
  pub found : IsFound d answers agent line.from line.to line.has line.found

-- so do all lines, of the diagram and its answer
abbrev pub AreInfoLines : DiagramView → SolvedView → ℕ → List InfoLine → Type 0
AreInfoLines d solved agent lines = All (IsInfoLine d solved.answers agent) lines

-- the information value of the arc, there or not
abbrev pub IsInfoValue : DiagramView → List AnswerView → ℕ → ℕ → ℕ → Ratio → Type 0
IsInfoValue d answers agent x to r = IsValueOfSeen d.nodes d.decimals answers agent x to r
    ⊎ IsValueOfUnseen d.nodes d.decimals answers agent x to r

-- the worth that a line tells is the information value, and not below nought; a worthless line
-- tells of two equal optima
abbrev pub TellsWorth : DiagramView → List AnswerView → ℕ → InfoLine → Type 0
TellsWorth d answers agent line = IfSome (worth_of line.found) (λ r.
    IsInfoValue d answers agent line.from line.to r × (pos 0 ≤ℤ r.num))

-- so do all lines
abbrev pub TellWorths : DiagramView → SolvedView → ℕ → List InfoLine → Type 0
TellWorths d solved agent lines = All (TellsWorth d solved.answers agent) lines
