-- The weight bound, under which every sum and fraction has room in 128 bits.
use Rattle.std.specs.Prelude.{ℕ, ◌≤◌, ◌*◌, ◌^◌, min, max, List}
use Rattle.maid_model.specs.declared.limits.TheConstants.{COUNT_END}
use Rattle.maid_model.specs.declared.diagrams.Kind.{Kind}
use Rattle.maid_model.specs.declared.diagrams.Kind.TheVariants.{Chance, Decision, Utility}
use Rattle.maid_model.specs.Views.{NodeView, DiagramView, RuleView}
use Rattle.maid_model.specs.Nodes.{node_at, states_of, numbers_of}
use Rattle.finite_sums.specs.Sums.{nat_product_over}
use Rattle.maid_model.specs.Tables.{chance_total}
use Rattle.maid_model.specs.Gains.{base_mass, greatest_utility}
use Rattle.maid_model.specs.Diagrams.{greatest_number}

-- how a node of that kind counts: by its total, by its states' count, or not at all
abbrev pub bound_by : Kind → ℕ → ℕ → ℕ
bound_by Chance total states = total
bound_by Decision total states = states
bound_by Utility total states = 1

-- a chance node counts with its total, a decision with the count of its states
abbrev pub bound_factor : List NodeView → ℕ → ℕ
bound_factor nodes v = bound_by (node_at nodes v).kind (chance_total nodes v) (states_of nodes v)

-- the product over all nodes
abbrev pub bound_product : List NodeView → ℕ
bound_product nodes = nat_product_over (bound_factor nodes) (numbers_of nodes)

-- the weight has room: times the greatest of the utilities' scale and their summed greatest values
abbrev pub HasRoomForWeight : DiagramView → ℕ → Type 0
HasRoomForWeight d weight =
    weight * max (10 ^ d.decimals) (greatest_utility d.nodes) ≤ greatest_number

-- the mass of the decision's base has room
abbrev pub HasRoomForBase : DiagramView → List RuleView → ℕ → Type 0
HasRoomForBase d p decision = HasRoomForWeight d (base_mass d.nodes p decision)

-- the product over all nodes has room
abbrev pub KeepsBound : DiagramView → Type 0
KeepsBound d = HasRoomForWeight d (bound_product d.nodes)

-- how many worlds there are: the product of the state counts of all chance nodes and decisions,
-- since a utility has one state
abbrev pub world_count : List NodeView → ℕ
world_count nodes = nat_product_over (states_of nodes) (numbers_of nodes)

-- a count, which stops at its end
abbrev pub stopped : ℕ → ℕ
stopped count = min count COUNT_END
