-- What is asked of one agent: `info` and `control`.
use Rattle.std.specs.Prelude.{ℕ, List, ◌∷◌, ◌++◌}
use Rattle.maid_model.specs.Names.{NamesView}
use Rattle.maid_model.specs.Reports.{line, quoted}
use Rattle.maid_model.specs.Views.{DiagramView}
use Rattle.app_forms.specs.Solve.{IsSolvable, solver_stages}
use Rattle.app_forms.specs.Stages.{Stage, IsAgent, text_fault, unknown_agent}

-- the diagram has the agent, and the solver answers it
pub record CanBeAsked (agent : List ℕ) (d : DiagramView) (names : NamesView) : Type 0 where
  pub is_agent : IsAgent names agent
  pub solvable : IsSolvable d

-- an agent that no node has, and then the solver's
abbrev pub agent_stages : List ℕ → List Stage
agent_stages agent = unknown_agent agent ∷ solver_stages

-- the text's fault, and then these
abbrev pub asking_stages : List ℕ → List Stage
asking_stages agent = text_fault ∷ agent_stages agent

-- the first line: what is asked, and of which agent
abbrev pub asked_line : List ℕ → List ℕ → List ℕ
asked_line word agent = line (word ++ 32 ∷ quoted agent)
