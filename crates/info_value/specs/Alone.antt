-- What the steps promise one another of an arc, in the diagram in which one agent decides alone.
-- Only private functions cite it.
use Rattle.std.specs.Prelude.{◌≡◌, ◌≢◌, ◌++◌, ◌↔◌, ℕ, ◌<◌, Bool, true, false, List, All, length, map, IsTrue, IsFalse, IsSome}
use Rattle.maid_model.specs.declared.diagrams.Kind.TheVariants.{Utility}
use Rattle.maid_model.specs.Edits.{with_arc, without_arc}
use Rattle.maid_model.specs.Graph.{Arc, IsGraph, IsPath}
use Rattle.maid_model.specs.Nodes.{IsDecision, node_at}
use Rattle.maid_model.specs.Values.{IsDifferenceOfOptima}
use Rattle.maid_model.specs.Views.{NodeView, DiagramView}
use Rattle.first_fault.specs.Outcomes.{◌▸▸◌, gives}
use Rattle.optimum_gap.specs.declared.baselines.Baseline.{Baseline}
use Rattle.optimum_gap.specs.declared.found.Found.{Found}
use Rattle.optimum_gap.specs.Found.{found_of, worth_of}
use Rattle.info_value.specs.declared.lines.InfoLine.{InfoLine}
use Rattle.info_value.specs.Finding.{WouldBeRequisite, of_seen, of_unseen}
use Rattle.info_value.specs.Lines.{HasAskedArcs, arc_of, arcs_into, decides, may_see}

-- an arc into a decision, from another node that is no utility and does not descend from it
pub record CanAsk (nodes : List NodeView) (arc : ℕ × ℕ) : Type 0 where
  pub decision : IsDecision nodes arc.1
  pub within : arc.0 < length nodes
  pub no_utility : (node_at nodes arc.0).kind ≢ Utility
  pub above : IsPath (Arc nodes) arc.1 arc.0 → ⊥

-- d decides in the diagram in which one agent decides alone, and there each node that it may see
-- can be asked about
pub record CanAskAll (nodes alone : List NodeView) (d : ℕ) : Type 0 where
  pub decision : IsDecision alone d
  pub arcs :
      (x : ℕ) → x < length nodes → IsTrue (may_see nodes d x) → CanAsk alone (x, d)

-- so it is with each decision of the agent of a baseline
abbrev pub CanAskEach : List NodeView → Baseline → Type 0
CanAskEach nodes b = (d : ℕ) → d < length nodes → IsTrue (decides nodes b.agent d)
    → CanAskAll nodes b.diagram.now.nodes d

-- the first reason that applies, or the difference of the two optima: of an arc that is there,
abbrev pub IsFoundOfSeen : DiagramView → ℕ → ℕ → ℕ → Found → Type 0
IsFoundOfSeen d agent x to found = (of_seen d x to
    ▸▸ gives (IsDifferenceOfOptima d.nodes (without_arc d.nodes x to) d.decimals agent))
    (found_of found)

-- and of one that is not
abbrev pub IsFoundOfUnseen : DiagramView → ℕ → ℕ → ℕ → Found → Type 0
IsFoundOfUnseen d agent x to found = (of_unseen d x to
    ▸▸ gives (IsDifferenceOfOptima (with_arc d.nodes x to) d.nodes d.decimals agent))
    (found_of found)

-- the same of an arc that is there, or of one that is not
abbrev pub IsInfoFoundAlone : DiagramView → ℕ → ℕ → ℕ → Bool → Found → Type 0
IsInfoFoundAlone d agent x to true found = IsFoundOfSeen d agent x to found
IsInfoFoundAlone d agent x to false found = IsFoundOfUnseen d agent x to found

-- the same in the diagram and for the agent of a baseline
abbrev pub IsUnseenFoundOf : Baseline → ℕ → ℕ → Found → Type 0
IsUnseenFoundOf b x to found = IsFoundOfUnseen b.diagram.now b.agent x to found

-- in the diagram of a baseline the node would be requisite, if the decision saw it
abbrev pub WouldBeNeeded : Baseline → ℕ → ℕ → Type 0
WouldBeNeeded b x to = WouldBeRequisite b.diagram.now.nodes x to

-- where something is told of its worth, the diagram with the arc is one
abbrev pub HasRoomForArc : DiagramView → ℕ → ℕ → Found → Type 0
HasRoomForArc d x to found = IsSome (worth_of found) → IsGraph (with_arc d.nodes x to)

-- a line of an arc
pub record IsInfoLineAlone (d : DiagramView) (agent : ℕ) (line : InfoLine) : Type 0 where
  pub decision : IsDecision d.nodes line.to
  pub has : IsTrue line.has ↔ Arc d.nodes line.from line.to
  pub found : IsInfoFoundAlone d agent line.from line.to line.has line.found
  pub graph : IsFalse line.has → HasRoomForArc d line.from line.to line.found

-- such lines, in the diagram and for the agent of a baseline
abbrev pub AreInfoLinesOf : Baseline → List InfoLine → Type 0
AreInfoLinesOf b lines = All (IsInfoLineAlone b.diagram.now b.agent) lines

-- where the lines before are such lines, so are those after
abbrev pub StayLinesOf : Baseline → List InfoLine → List InfoLine → Type 0
StayLinesOf b before after = AreInfoLinesOf b before → AreInfoLinesOf b after

-- the arcs of the lines are those that are asked about for the agent of a baseline
abbrev pub AskFor : List NodeView → Baseline → List InfoLine → Type 0
AskFor nodes b lines = HasAskedArcs nodes b.agent lines

-- behind the arcs of the lines before come those into v
abbrev pub AppendsArcs : DiagramView → ℕ → List InfoLine → List InfoLine → Type 0
AppendsArcs d v before after = map arc_of after ≡ map arc_of before ++ arcs_into d.nodes v
