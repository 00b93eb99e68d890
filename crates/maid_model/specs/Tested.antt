-- Tests for a small diagram, written as a literal, and for its rules. That what passes is a
-- diagram, a rule or a profile is a law (`Laws`).
use Rattle.std.specs.Prelude.{ℕ, ◌+◌, ◌*◌, Bool, true, false, ◌&&◌, not, eqb, ltb, leb, List, [], ◌∷◌, map, length, slice_index_or, ℤ, pos, negsuc, nat_abs}
use Rattle.std.specs.List.{list_all, range_with_len}
use Rattle.node_sets.specs.declared.sets.TheConstants.{MOST_NODES}
use Rattle.maid_model.specs.declared.limits.TheConstants.{MOST_STATES, MOST_PARENTS, MOST_CELLS, MOST_RULE_CELLS, MOST_AGENTS, MOST_DECIMALS}
use Rattle.maid_model.specs.declared.diagrams.Kind.{Kind}
use Rattle.maid_model.specs.declared.diagrams.Kind.TheVariants.{Chance, Decision, Utility}
use Rattle.maid_model.specs.Views.{NodeView, DiagramView, RuleView}
use Rattle.maid_model.specs.Nodes.{node_at, states_of, parents_of, owners_of, numbers_of, rows_of, decisions_of, is_utility}
use Rattle.finite_sums.specs.Sums.{sum_below, nat_sum_over}
use Rattle.maid_model.specs.Tables.{chance_total, weights_of, rule_total}
use Rattle.maid_model.specs.Diagrams.{greatest_number}

-- each of the tests is passed
abbrev pub all_true : List Bool → Bool
all_true tests = list_all (λ test. test) tests

-- no number stands twice
abbrev pub differ : List ℕ → Bool
differ [] = true
differ (x ∷ xs) = list_all (λ y. not (eqb x y)) xs && differ xs

-- the number is not below nought
abbrev pub from_nought : ℤ → Bool
from_nought (pos n) = true
from_nought (negsuc n) = false

-- the number is that total
abbrev pub comes_to : ℤ → ℕ → Bool
comes_to (pos n) total = eqb n total
comes_to (negsuc n) total = false

-- the cells are one for each row and state, none is below nought, and each row has the total
abbrev pub table_tests : List ℤ → ℕ → ℕ → ℕ → List Bool
table_tests cells rows states total = eqb (length cells) (rows * states)
    ∷ list_all from_nought cells
    ∷ list_all
    (λ r.
    comes_to (sum_below states (λ s. slice_index_or cells (r * states + s) (pos 0))) total)
    (range_with_len 0 rows) ∷ []

-- A chance node has the owner 0 and no more, a total from 1 to the greatest number, and a table.
-- A decision has one agent and no cells.
-- A utility has agents, each once, one state, and a number for each row, none past the greatest.
abbrev pub kind_tests : Kind → DiagramView → ℕ → List Bool
kind_tests Chance d v = eqb (node_at d.nodes v).owner 0 ∷ ltb 0 (chance_total d.nodes v)
    ∷ leb (chance_total d.nodes v) greatest_number
    ∷ all_true (table_tests (node_at d.nodes v).cells (rows_of d.nodes v) (states_of d.nodes v)
    (chance_total d.nodes v)) ∷ eqb (length (node_at d.nodes v).more) 0 ∷ []
kind_tests Decision d v =
    ltb (node_at d.nodes v).owner d.agents
    ∷ eqb (length (node_at d.nodes v).cells) 0
    ∷ eqb (length (node_at d.nodes v).more) 0
    ∷ []
kind_tests Utility d v =
    list_all (λ a. ltb a d.agents) (owners_of d.nodes v)
    ∷ eqb (states_of d.nodes v) 1
    ∷ eqb (length (node_at d.nodes v).cells) (rows_of d.nodes v)
    ∷ list_all (λ x. leb (nat_abs x) greatest_number) (node_at d.nodes v).cells
    ∷ differ (owners_of d.nodes v)
    ∷ []

-- the parents stand before the node, are no utilities and differ; there is a state; states, parents
-- and cells are not too many; and what its kind asks for
abbrev pub node_tests : DiagramView → ℕ → List Bool
node_tests d v =
    list_all (λ u. ltb u v) (parents_of d.nodes v)
    ∷ list_all (λ u. not (is_utility (node_at d.nodes u).kind)) (parents_of d.nodes v)
    ∷ differ (parents_of d.nodes v)
    ∷ ltb 0 (states_of d.nodes v)
    ∷ leb (states_of d.nodes v) MOST_STATES
    ∷ leb (length (parents_of d.nodes v)) MOST_PARENTS
    ∷ leb (rows_of d.nodes v * states_of d.nodes v) MOST_CELLS
    ∷ all_true (kind_tests (node_at d.nodes v).kind d v)
    ∷ []

-- each node passes, and nodes, cells of rules, agents and decimals are not too many
abbrev pub diagram_tests : DiagramView → List Bool
diagram_tests d = list_all (λ v. all_true (node_tests d v)) (numbers_of d.nodes)
    ∷ leb (length d.nodes) MOST_NODES
    ∷ leb (nat_sum_over (λ v. rows_of d.nodes v * states_of d.nodes v) (decisions_of d.nodes))
    MOST_RULE_CELLS ∷ leb d.agents MOST_AGENTS ∷ leb d.decimals MOST_DECIMALS ∷ []

-- the total is positive, and the weights are a table
abbrev pub rule_tests : List NodeView → RuleView → List Bool
rule_tests nodes r = ltb 0 r.total
    ∷ all_true (table_tests (map pos r.weights) (rows_of nodes r.decision)
    (states_of nodes r.decision) r.total) ∷ []

-- the rule that the profile has at a decision
abbrev pub rule_at : List RuleView → ℕ → RuleView
rule_at p v = record { decision = v; total = rule_total p v; weights = weights_of p v }
