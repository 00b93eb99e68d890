-- The form that names have in a text.
use Rattle.std.specs.Prelude.{◌≡◌, ◌≢◌, ◌≤◌, ℕ, true, not, List, [], ◌∷◌, map, filter, length, All, AllPairs}
use Rattle.std.specs.List.{flat_map}
use Rattle.maid_model.specs.declared.limits.TheConstants.{MOST_NAME_BYTES}
use Rattle.maid_model.specs.declared.diagrams.Kind.TheVariants.{Utility}
use Rattle.maid_model.specs.Names.{NamesView, labels_of, agent_name}
use Rattle.maid_model.specs.Nodes.{node_at, is_chance}
use Rattle.maid_model.specs.Views.{DiagramView}
use Rattle.net_lexer.specs.Token.{is_name}
use Rattle.net_build.specs.Blocks.{is_label, first_sights}

-- a node's name: a word without a sign, of at most 255 bytes
pub record IsNodeName (name : List ℕ) : Type 0 where
  pub unsigned : is_name name ≡ true
  pub size : length name ≤ MOST_NAME_BYTES

-- The node names differ and are such words, labels and agents have a label's form, a utility has no
-- label, and the agents are those of the decisions and utilities in order of first sight.
pub record HasTextForm (d : DiagramView) (names : NamesView) : Type 0 where
  pub distinct : AllPairs (λ name later. name ≢ later) names.nodes
  pub words : All IsNodeName names.nodes
  pub labels : All (All (λ label. is_label label ≡ true)) names.labels
  pub utility_labels : (v : ℕ) → (node_at d.nodes v).kind ≡ Utility → labels_of names v ≡ []
  pub agents : All (λ agent. is_label agent ≡ true) names.agents
  pub numbered : names.agents ≡ first_sights (flat_map
      (λ n. map (agent_name names) (n.owner ∷ n.more))
      (filter (λ n. not (is_chance n.kind)) d.nodes))
