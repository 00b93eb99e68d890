-- Nodes of small diagrams, and what their tests ask.
use Rattle.std.specs.Prelude.{◌≡◌, ℕ, true, List, [], ℤ}
use Rattle.maid_model.specs.declared.diagrams.Kind.TheVariants.{Chance, Decision, Utility}
use Rattle.maid_model.specs.Tested.{all_true, diagram_tests}
use Rattle.maid_model.specs.Views.{NodeView, diagram_of}

-- a chance node of so many states, by its parents and its weights
abbrev pub chance_node : ℕ → List ℕ → List ℤ → NodeView
chance_node states parents cells =
    record { kind = Chance; owner = 0; more = []; states = states; parents = parents; cells = cells }

-- an agent's decision of so many states, by what it sees
abbrev pub decision_node : ℕ → ℕ → List ℕ → NodeView
decision_node owner states parents =
    record { kind = Decision; owner = owner; more = []; states = states; parents = parents; cells = [] }

-- a utility of an agent and of the further ones, by its parents and its values
abbrev pub shared_node : ℕ → List ℕ → List ℕ → List ℤ → NodeView
shared_node owner more parents cells =
    record { kind = Utility; owner = owner; more = more; states = 1; parents = parents; cells = cells }

-- a utility of one agent, by its parents and its values
abbrev pub utility_node : ℕ → List ℕ → List ℤ → NodeView
utility_node owner parents cells = shared_node owner [] parents cells

-- the nodes pass the tests of a diagram, which compute
abbrev pub PassesTests : List NodeView → ℕ → ℕ → Type 0
PassesTests nodes agents decimals =
    all_true (diagram_tests (diagram_of nodes agents decimals)) ≡ true
