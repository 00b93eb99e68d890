-- What the steps promise one another, in the diagram in which one agent decides alone. Only private
-- functions cite it.
use Rattle.std.specs.Prelude.{◌≡◌, ◌↔◌, ℕ, Bool, List, All, Option, MatchOption, IsTrue}
use Rattle.maid_model.specs.declared.diagrams.Kind.TheVariants.{Chance, Decision, Utility}
use Rattle.maid_model.specs.Nodes.{node_at}
use Rattle.maid_model.specs.Values.{IsDifferenceOfOptima}
use Rattle.maid_model.specs.Views.{NodeView, DiagramView}
use Rattle.node_sets.specs.declared.sets.NodeSet.{NodeSet}
use Rattle.node_sets.specs.Sets.{IsIn, holds}
use Rattle.first_fault.specs.Outcomes.{◌▸▸◌, gives}
use Rattle.optimum_gap.specs.declared.baselines.Baseline.{Baseline}
use Rattle.optimum_gap.specs.declared.found.Found.{Found}
use Rattle.optimum_gap.specs.Found.{found_of}
use Rattle.rule_solver.specs.declared.keeping.KeptDiagram.{KeptDiagram}
use Rattle.control_incentive.specs.declared.lines.ControlLine.{ControlLine}
use Rattle.control_incentive.specs.declared.paths.Paths.{Paths}
use Rattle.control_incentive.specs.Lines.{controlling, of_control}
use Rattle.control_incentive.specs.Paths.{IsInstrumental, LeadsToOwn}

-- each of the nodes is a chance node
abbrev pub AreChanceNodes : List NodeView → List ℕ → Type 0
AreChanceNodes nodes vs = All (λ v. (node_at nodes v).kind ≡ Chance) vs

-- the sets have the nodes that the paths make
pub record HasPaths (nodes trimmed : List NodeView) (agent : ℕ) (paths : Paths) : Type 0 where
  pub respond : (v : ℕ) → IsIn paths.respond v ↔ LeadsToOwn trimmed Decision agent v
  pub matter : (v : ℕ) → IsIn paths.matter v ↔ LeadsToOwn trimmed Utility agent v
  pub instruments : (v : ℕ) → IsIn paths.instruments v ↔ IsInstrumental nodes agent v

-- the first reason that applies where the node matters or not, or the difference of the two optima
abbrev pub IsControlFoundAlone : DiagramView → ℕ → ℕ → Bool → Found → Type 0
IsControlFoundAlone d agent x matters found = (of_control d agent x (IsTrue matters)
    ▸▸ gives (IsDifferenceOfOptima (controlling d agent x).nodes d.nodes d.decimals agent))
    (found_of found)

-- the same in the diagram and for the agent of a baseline
abbrev pub IsControlFoundOf : Baseline → ℕ → Bool → Found → Type 0
IsControlFoundOf b x matters found = IsControlFoundAlone b.diagram.now b.agent x matters found

-- a line, by the sets of nodes
pub record IsControlLineAlone
    (d : DiagramView) (agent : ℕ) (paths : Paths) (line : ControlLine) : Type 0 where
  pub response : line.response ≡ holds paths.respond line.node
  pub instrumental : line.instrumental ≡ holds paths.instruments line.node
  pub found : IsControlFoundAlone d agent line.node (holds paths.matter line.node) line.found

-- such a line in the diagram and for the agent of a baseline
abbrev pub IsControlLineOf : Baseline → Paths → ControlLine → Type 0
IsControlLineOf b paths line = IsControlLineAlone b.diagram.now b.agent paths line

-- such lines
abbrev pub AreControlLinesOf : Baseline → Paths → List ControlLine → Type 0
AreControlLinesOf b paths lines = All (IsControlLineOf b paths) lines

-- something is kept exactly where a node matters
abbrev pub IsKeptIfSome : NodeSet → Option KeptDiagram → Type 0
IsKeptIfSome matter kept =
    MatchOption kept ((v : ℕ) → IsIn matter v → ⊥) (λ known. (v : ℕ) × IsIn matter v)
