-- A decision in the part of its scope: its rows and states are those that it has in the whole.
use Rattle.std.proofs.Common.{◌≡◌, ◌∙◌, ℕ, List, ap}
use Rattle.maid_model.specs.Graph.{IsGraph}
use Rattle.maid_model.specs.Nodes.{IsDecision, rows_of, states_of}
use Rattle.maid_model.specs.Scopes.{scope_of, place_in_scope, scope_part}
use Rattle.maid_model.specs.Views.{NodeView}
use Rattle.part_laws.specs.PartLaws.{IsNodeOfPart, NodesOfParts}
use Rattle.part_laws.specs.ScopeLaws.{ScopesAreParts}

module _ (nodes : List NodeView) (v : ℕ) (g : IsGraph nodes) (k : IsDecision nodes v) (parts : NodesOfParts) (scopes : ScopesAreParts) where
  there : IsNodeOfPart nodes (scope_of nodes v) v
  there = let s = scopes nodes v g k in (parts nodes (scope_of nodes v) v s.0 s.2).0

  pub decision_there : IsDecision (scope_part nodes v) (place_in_scope nodes v)
  decision_there = record { within = there.within; kind = ap (λ (n : NodeView). n.kind) there.node ∙ k.kind }

  pub rows_there : rows_of (scope_part nodes v) (place_in_scope nodes v) ≡ rows_of nodes v
  rows_there = there.rows

  pub states_there : states_of (scope_part nodes v) (place_in_scope nodes v) ≡ states_of nodes v
  states_there = ap (λ (n : NodeView). n.states) there.node
