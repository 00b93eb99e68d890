-- The law of irrelevance, and the mass of a row.
use Rattle.std.specs.Prelude.{◌≡◌, ℕ, ◌<◌, List, ℤ, pos, ◌*ℤ◌, if◌then◌else◌}
use Rattle.maid_model.specs.Views.{NodeView, RuleView}
use Rattle.maid_model.specs.Nodes.{IsDecision, states_of}
use Rattle.maid_model.specs.Graph.{IsGraph}
use Rattle.maid_model.specs.Tables.{HasChanceTables, weights_of}
use Rattle.maid_model.specs.Profiles.{IsProfile}
use Rattle.maid_model.specs.Gains.{sum_worlds, is_at, weight_without, gain_at, mass_at}
use Rattle.maid_model.specs.Relevance.{IsLive, ReliesOn}

-- the two profiles have the same weights at each decision that d relies on
abbrev pub AgreeWhereRelied : List NodeView → ℕ → List RuleView → List RuleView → Type 0
AgreeWhereRelied nodes d s t = (e : ℕ) → ReliesOn nodes d e → weights_of s e ≡ weights_of t e

-- Rules on which a decision does not rely don't matter to it: where two profiles agree at the
-- decisions that d relies on, the gains of d's states and the mass are in one proportion in each
-- row, also where a mass is nought.
abbrev pub Irrelevance : Type 0
Irrelevance = (nodes : List NodeView) (s t : List RuleView) (d state row : ℕ) → IsGraph nodes
    → HasChanceTables nodes → IsProfile nodes s → IsProfile nodes t → IsDecision nodes d
    → IsLive nodes d → AgreeWhereRelied nodes d s t
    → gain_at nodes s d state row *ℤ mass_at nodes t d row
    ≡ gain_at nodes t d state row *ℤ mass_at nodes s d row

-- the sum of the weights without d's rule, over the worlds in which d has this state and its
-- parents have the states of this row
abbrev pub mass_at_state : List NodeView → List RuleView → ℕ → ℕ → ℕ → ℤ
mass_at_state nodes p d state row =
    sum_worlds nodes (λ w. if is_at nodes d state row w then weight_without nodes p d w else pos 0)

-- The mass of a row is the same at every state of the decision.
abbrev pub MassAtEachState : Type 0
MassAtEachState = (nodes : List NodeView) (p : List RuleView) (d state row : ℕ) → IsGraph nodes
    → HasChanceTables nodes → IsProfile nodes p → IsDecision nodes d → state < states_of nodes d
    → mass_at_state nodes p d state row ≡ mass_at nodes p d row

-- Where a row has no mass, no state of the decision gains anything in it.
abbrev pub NoGainWithoutMass : Type 0
NoGainWithoutMass =
    (nodes : List NodeView) (p : List RuleView) (d state row : ℕ)
    → IsGraph nodes → HasChanceTables nodes → IsProfile nodes p → IsDecision nodes d
    → mass_at nodes p d row ≡ pos 0 → gain_at nodes p d state row ≡ pos 0
