-- The weight of a world, and the sums over worlds: expected utilities, and what a decision's states
-- are worth in a row.
use Rattle.std.specs.Prelude.{◌≡◌, ℕ, ◌+◌, ◌*◌, ◌<◌, ◌≤◌, Bool, ◌&&◌, List, [], ◌∷◌, length, slice_index, slice_index_or, ℤ, pos, ◌*ℤ◌, ◌==◌, if◌then◌else◌, nat_abs, max}
use Rattle.maid_model.specs.Views.{NodeView, RuleView}
use Rattle.maid_model.specs.Nodes.{agent_of, node_at, states_of, rows_of, numbers_of, is_utility, is_utility_of}
use Rattle.maid_model.specs.Diagrams.{greatest_number}
use Rattle.maid_model.specs.Graph.{descends}
use Rattle.finite_sums.specs.Sums.{World, sum_over, sum_each, product_over, nat_product_over, nat_sum_over}
use Rattle.maid_model.specs.Tables.{row_of, table, weight_total}

-- the sum of f over all worlds
abbrev pub sum_worlds : List NodeView → (World → ℤ) → ℤ
sum_worlds nodes f = sum_over (states_of nodes) (numbers_of nodes) f (λ v. 0)

-- the weight of a world: the product of the chance cells and rule weights that it picks
abbrev pub weight : List NodeView → List RuleView → World → ℤ
weight nodes p w = product_over (λ v. table nodes p v w) (numbers_of nodes)

-- the mass of a profile: the product of all tables' and rules' totals
abbrev pub mass : List NodeView → List RuleView → ℕ
mass nodes p = nat_product_over (weight_total nodes p) (numbers_of nodes)

-- the cell that the world picks in the utility v, if v is a utility of the agent
abbrev pub value_for : List NodeView → ℕ → ℕ → World → ℤ
value_for nodes agent v w = if is_utility_of nodes agent v
    then slice_index_or (node_at nodes v).cells (row_of nodes v w) (pos 0)
    else pos 0

-- the summed utilities of an agent in a world
abbrev pub utility : List NodeView → ℕ → World → ℤ
utility nodes agent w = sum_each (λ v. value_for nodes agent v w) (numbers_of nodes)

-- N: the sum, over all worlds, of the world's weight times the agent's utilities
abbrev pub gain_of : List NodeView → List RuleView → ℕ → ℤ
gain_of nodes p agent = sum_worlds nodes (λ w. weight nodes p w *ℤ utility nodes agent w)

-- the gain of a row's state in a list with a number for each row and state, the state fastest
abbrev pub gain_in : List ℤ → ℕ → ℕ → ℕ → ℤ
gain_in gains states s row = slice_index_or gains (row * states + s) (pos 0)

-- no gain's size is above the greatest number
abbrev pub AreSmallGains : List ℤ → Type 0
AreSmallGains gains = (i : ℕ) → nat_abs (slice_index_or gains i (pos 0)) ≤ greatest_number

-- v's factor, but 1 at the decision d
abbrev pub table_without : List NodeView → List RuleView → ℕ → ℕ → World → ℤ
table_without nodes p d v w = if v == d then pos 1 else table nodes p v w

-- the weight of a world without the rule of the decision d
abbrev pub weight_without : List NodeView → List RuleView → ℕ → World → ℤ
weight_without nodes p d w = product_over (λ v. table_without nodes p d v w) (numbers_of nodes)

-- the cell that the world picks in v, if v is a utility of the decision's agent that descends from
-- the decision
abbrev pub value_below : List NodeView → ℕ → ℕ → World → ℤ
value_below nodes d v w =
    if descends nodes d v then value_for nodes (agent_of nodes d) v w else pos 0

-- the summed utilities of the decision's agent that descend from the decision
abbrev pub utility_below : List NodeView → ℕ → World → ℤ
utility_below nodes d w = sum_each (λ v. value_below nodes d v w) (numbers_of nodes)

-- in the world the decision d has this state and its parents have the states of this row
abbrev pub is_at : List NodeView → ℕ → ℕ → ℕ → World → Bool
is_at nodes d state row w = (w d == state) && (row_of nodes d w == row)

-- G: the sum, over the worlds in which d has this state and its parents have the states of this
-- row, of the weight without d's rule times the utilities below d
abbrev pub gain_at : List NodeView → List RuleView → ℕ → ℕ → ℕ → ℤ
gain_at nodes p d state row = sum_worlds nodes (λ w.
    if is_at nodes d state row w
    then weight_without nodes p d w *ℤ utility_below nodes d w
    else pos 0)

-- R: that sum at the first state, without the utilities
abbrev pub mass_at : List NodeView → List RuleView → ℕ → ℕ → ℤ
mass_at nodes p d row =
    sum_worlds nodes (λ w. if is_at nodes d 0 row w then weight_without nodes p d w else pos 0)

-- a cell for each state in each row of the decision
abbrev pub HasGainCells : List NodeView → ℕ → List ℤ → Type 0
HasGainCells nodes d gains = length gains ≡ rows_of nodes d * states_of nodes d

-- the gain of each state in each row of the decision, row by row and the state fastest
abbrev pub AreGainsAt : List NodeView → List RuleView → ℕ → List ℤ → Type 0
AreGainsAt nodes p d gains = (s row : ℕ) → s < states_of nodes d → row < rows_of nodes d
    → slice_index_or gains (row * states_of nodes d + s) (pos 0) ≡ gain_at nodes p d s row

-- the mass of each row of the decision
abbrev pub AreMassesAt : List NodeView → List RuleView → ℕ → List ℕ → Type 0
AreMassesAt nodes p d masses =
    (row : ℕ) → row < rows_of nodes d → pos (slice_index masses row) ≡ mass_at nodes p d row

-- the greatest absolute value of a list
abbrev pub greatest_abs : List ℤ → ℕ
greatest_abs [] = 0
greatest_abs (x ∷ xs) = max (nat_abs x) (greatest_abs xs)

-- S: the greatest absolute value of each utility, added up
abbrev pub greatest_utility : List NodeView → ℕ
greatest_utility nodes = nat_sum_over
    (λ v. if is_utility (node_at nodes v).kind then greatest_abs (node_at nodes v).cells else 0)
    (numbers_of nodes)

-- v's total, but at the decision d the count of its states
abbrev pub base_total : List NodeView → List RuleView → ℕ → ℕ → ℕ
base_total nodes p d v = if v == d then states_of nodes d else weight_total nodes p v

-- the product of all tables' and rules' totals, with the count of d's states in the place of its
-- rule's total
abbrev pub base_mass : List NodeView → List RuleView → ℕ → ℕ
base_mass nodes p d = nat_product_over (base_total nodes p d) (numbers_of nodes)
