-- Histories on the tree that draws all branches, subgame starts, and profiles from which no agent
-- gains in any subgame.
use Rattle.std.specs.Prelude.{◌≡◌, ◌≢◌, ℕ, ◌<◌, ◌≤◌, Bool, true, ◌&&◌, List, [], ◌∷◌, length, take, drop, Contains, slice_index, ℤ, pos, ◌*ℤ◌, ◌≤ℤ◌, ◌<ℤ◌, ◌==◌, if◌then◌else◌}
use Rattle.maid_model.specs.declared.diagrams.Kind.TheVariants.{Chance, Utility}
use Rattle.maid_model.specs.Views.{NodeView, RuleView}
use Rattle.maid_model.specs.Nodes.{IsDecision, agent_of, node_at, states_of}
use Rattle.maid_model.specs.Graph.{Arc, AllDifferent}
use Rattle.finite_sums.specs.Sums.{World, product_over, nat_product_over}
use Rattle.maid_model.specs.Tables.{table, weight_total}
use Rattle.maid_model.specs.Profiles.{IsProfile, SameRule}
use Rattle.maid_model.specs.Gains.{sum_worlds, utility, gain_of, mass}

-- a list of all chance nodes and decisions, each once, in which each stands after its parents
pub record IsListing (nodes : List NodeView) (order : List ℕ) : Type 0 where
  pub all : (v : ℕ) → v < length nodes → (node_at nodes v).kind ≢ Utility → Contains order v
  pub within : (v : ℕ) → Contains order v → (v < length nodes) × ((node_at nodes v).kind ≢ Utility)
  pub once : AllDifferent order
  pub parents_first :
      (i u : ℕ) → i < length order → Arc nodes u (slice_index order i) → Contains (take i order) u

-- states of the first nodes of the list
pub record IsHistory (nodes : List NodeView) (order history : List ℕ) : Type 0 where
  pub within : length history ≤ length order
  pub each :
      (i : ℕ) → i < length history → slice_index history i < states_of nodes (slice_index order i)

-- a longer history begins with a shorter one
abbrev pub Extends : List ℕ → List ℕ → Type 0
Extends long short = take (length short) long ≡ short

-- the world has the history's states at the first nodes of the list
abbrev pub agrees : List ℕ → List ℕ → World → Bool
agrees order [] w = true
agrees [] (x ∷ history) w = true
agrees (v ∷ order) (x ∷ history) w = (w v == x) && agrees order history w

-- the world that has the history's states, and first states elsewhere
abbrev pub world_of_history : List ℕ → List ℕ → World
world_of_history order [] v = 0
world_of_history [] (x ∷ history) v = 0
world_of_history (u ∷ order) (x ∷ history) v =
    if u == v then x else world_of_history order history v

-- the gain from a history: the sum, over the worlds that extend it, of the product of the weights
-- of the later nodes times the agent's utilities
abbrev pub gain_from : List NodeView → List ℕ → List ℕ → List RuleView → ℕ → ℤ
gain_from nodes order history p agent = sum_worlds nodes (λ w.
    if agrees order history w
    then product_over (λ v. table nodes p v w) (drop (length history) order)
    *ℤ utility nodes agent w
    else pos 0)

-- the mass from a history: the product of the totals of the later nodes
abbrev pub mass_from : List NodeView → List ℕ → List ℕ → List RuleView → ℕ
mass_from nodes order history p =
    nat_product_over (weight_total nodes p) (drop (length history) order)

-- chance can reach the history: each chance node in it has a positive cell
abbrev pub IsReachable : List NodeView → List ℕ → List ℕ → Type 0
IsReachable nodes order history = (i : ℕ) → i < length history
    → (node_at nodes (slice_index order i)).kind ≡ Chance
    → pos 0 <ℤ table nodes [] (slice_index order i) (world_of_history order history)

-- two histories agree on the parents of d
abbrev pub AgreeOnParents : List NodeView → List ℕ → ℕ → List ℕ → List ℕ → Type 0
AgreeOnParents nodes order d g h =
    (i : ℕ) → i < length g → Arc nodes (slice_index order i) d → slice_index g i ≡ slice_index h i

-- for each decision at the history's end or later, and each information set of it, all of its
-- histories extend this one or none does
abbrev pub KeepsInformation : List NodeView → List ℕ → List ℕ → Type 0
KeepsInformation nodes order start = (i : ℕ) (g h : List ℕ) → length start ≤ i → i < length order
    → IsDecision nodes (slice_index order i) → IsHistory nodes order g → IsHistory nodes order h
    → length g ≡ i → length h ≡ i → AgreeOnParents nodes order (slice_index order i) g h
    → Extends g start → Extends h start

-- a subgame starts at a history that chance can reach and that no later information set straddles
pub record IsSubgameStart (nodes : List NodeView) (order start : List ℕ) : Type 0 where
  pub history : IsHistory nodes order start
  pub reachable : IsReachable nodes order start
  pub keeps : KeepsInformation nodes order start

-- t differs from s in rules of the agent's decisions alone
abbrev pub DiffersOnlyFor : List NodeView → ℕ → List RuleView → List RuleView → Type 0
DiffersOnlyFor nodes agent s t =
    (v : ℕ) → IsDecision nodes v → agent_of nodes v ≢ agent → SameRule t s v

-- from the start the profile t is worth no more to the agent than s: fractions are compared by
-- cross products
abbrev pub IsNoBetterFrom :
    List NodeView → List ℕ → List ℕ → ℕ → List RuleView → List RuleView → Type 0
IsNoBetterFrom nodes order start agent s t = (gain_from nodes order start t agent
    *ℤ pos (mass_from nodes order start s))
    ≤ℤ (gain_from nodes order start s agent *ℤ pos (mass_from nodes order start t))

-- A profile such that for every list with parents first, every subgame start, every agent and every
-- profile that differs in that agent's rules alone, the other profile is worth no more to the agent
-- from the start.
pub record IsSubgamePerfect (nodes : List NodeView) (s : List RuleView) : Type 0 where
  pub profile : IsProfile nodes s
  pub from_each_start : (order start : List ℕ) → IsListing nodes order
      → IsSubgameStart nodes order start → (agent : ℕ) (t : List RuleView) → IsProfile nodes t
      → DiffersOnlyFor nodes agent s t → IsNoBetterFrom nodes order start agent s t

-- one agent owns all decisions
abbrev pub OwnsAll : List NodeView → ℕ → Type 0
OwnsAll nodes agent = (v : ℕ) → IsDecision nodes v → agent_of nodes v ≡ agent

-- t gives the agent no greater expected utility than s: fractions are compared by cross products
abbrev pub IsNoBetter : List NodeView → ℕ → List RuleView → List RuleView → Type 0
IsNoBetter nodes agent s t =
    (gain_of nodes t agent *ℤ pos (mass nodes s)) ≤ℤ (gain_of nodes s agent *ℤ pos (mass nodes t))

-- a profile such that no profile gives the agent a greater expected utility
pub record IsOptimal (nodes : List NodeView) (s : List RuleView) (agent : ℕ) : Type 0 where
  pub profile : IsProfile nodes s
  pub greatest : (t : List RuleView) → IsProfile nodes t → IsNoBetter nodes agent s t
