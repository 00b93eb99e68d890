-- Edited diagrams: an arc more or less, a chance node under an agent's control, decisions of others
-- as chance nodes.
use Rattle.std.specs.Prelude.{◌≡◌, ℕ, List, [], ◌∷◌, ◌++◌, map, filter, ◌==◌, not, pos, if◌then◌else◌, slice_set}
use Rattle.maid_model.specs.declared.diagrams.Kind.{Kind}
use Rattle.maid_model.specs.declared.diagrams.Kind.TheVariants.{Chance, Decision, Utility}
use Rattle.maid_model.specs.Views.{NodeView, AnswerView, DiagramView, diagram_of}
use Rattle.maid_model.specs.Nodes.{agent_of, is_utility, node_at, states_of, numbers_of}
use Rattle.maid_model.specs.Profiles.{pure_rule}
use Rattle.maid_model.specs.Answers.{rows_at}

-- d sees x no more; its other parents keep their order
abbrev pub without_arc : List NodeView → ℕ → ℕ → List NodeView
without_arc nodes x d =
    let node = node_at nodes d in
    slice_set nodes d (record {
      kind = node.kind;
      owner = node.owner;
      more = node.more;
      states = node.states;
      parents = filter (λ u. not (u == x)) node.parents;
      cells = node.cells;
    })

-- d sees x too, as its last parent
abbrev pub with_arc : List NodeView → ℕ → ℕ → List NodeView
with_arc nodes x d =
    let node = node_at nodes d in
    slice_set nodes d (record {
      kind = node.kind;
      owner = node.owner;
      more = node.more;
      states = node.states;
      parents = node.parents ++ x ∷ [];
      cells = node.cells;
    })

-- the second node has as many states as the first, and is a utility just where that is one
pub record AreAlike (one two : NodeView) : Type 0 where
  pub states : two.states ≡ one.states
  pub utilities : is_utility two.kind ≡ is_utility one.kind

-- the diagram with that node in the place of v
abbrev pub with_node : DiagramView → ℕ → NodeView → DiagramView
with_node d v node = diagram_of (slice_set d.nodes v node) d.agents d.decimals

-- the node x as a decision of the agent over its own parents
abbrev pub made_decision : List NodeView → ℕ → ℕ → NodeView
made_decision nodes agent x =
    let node = node_at nodes x in
    record {
      kind = Decision;
      owner = agent;
      more = [];
      states = node.states;
      parents = node.parents;
      cells = [];
    }

-- the diagram in which the node x is that decision
abbrev pub as_decision : List NodeView → ℕ → ℕ → List NodeView
as_decision nodes agent x = slice_set nodes x (made_decision nodes agent x)

-- a decision that has become a chance node: in each row weight 1 on the answered choice
abbrev pub as_chance : List NodeView → List AnswerView → ℕ → NodeView
as_chance nodes answers v = record {
  kind = Chance;
  owner = 0;
  more = [];
  states = states_of nodes v;
  parents = (node_at nodes v).parents;
  cells = map pos (pure_rule nodes v (map (λ r. r.choice) (rows_at answers v))).weights;
}

-- the node where only the agent decides: another agent's decision becomes a chance node
abbrev pub fixed_by : Kind → List NodeView → ℕ → List AnswerView → ℕ → NodeView
fixed_by Decision nodes agent answers v =
    if agent_of nodes v == agent then node_at nodes v else as_chance nodes answers v
fixed_by Chance nodes agent answers v = node_at nodes v
fixed_by Utility nodes agent answers v = node_at nodes v

-- the diagram in which only the agent decides: the other agents' decisions are chance nodes that
-- take the answered choices
abbrev pub one_agent : List NodeView → ℕ → List AnswerView → List NodeView
one_agent nodes agent answers =
    map (λ v. fixed_by (node_at nodes v).kind nodes agent answers v) (numbers_of nodes)
