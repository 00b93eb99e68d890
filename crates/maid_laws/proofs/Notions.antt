-- What the proofs go over: arcs by members of lists, a diagram with one list of its nodes, and
-- starts as sets of nodes.
use Rattle.std.specs.Prelude.{◌≡◌, ◌≢◌, ℕ, ◌<◌, ◌+◌, ◌*◌, Bool, true, false, ◌||◌, not, List, [], ◌∷◌, length, slice_index, ℤ, pos, ◌*ℤ◌, ◌≤ℤ◌, ◌<ℤ◌, ◌==◌, if◌then◌else◌}
use Rattle.std.specs.List.{list_all}
use Rattle.maid_model.specs.declared.diagrams.Kind.TheVariants.{Chance, Decision}
use Rattle.maid_model.specs.Views.{NodeView, RuleView}
use Rattle.maid_model.specs.Nodes.{node_at, states_of, parents_of, numbers_of, rows_of, agent_of}
use Rattle.maid_model.specs.Graph.{IsGraph}
use Rattle.finite_sums.specs.Sums.{World, InRange, product_over}
use Rattle.maid_model.specs.Tables.{table, weights_of, rule_total, weight_total}
use Rattle.maid_model.specs.Gains.{utility, sum_worlds, gain_at, mass_at}
use Rattle.maid_model.specs.Relevance.{IsLive, ReliesOn}
use Rattle.finite_sums.specs.Members.{Among, Shuffled}
use Rattle.maid_model.proofs.Setting.{ParentsFirst, HasTables}

-- u is one of v's parents
abbrev pub IsParent : List NodeView → ℕ → ℕ → Type 0
IsParent nodes u v = Among u (parents_of nodes v)

-- a graph, with a list of its nodes in which each stands after its parents
pub record OrderedGraph (nodes : List NodeView) : Type 0 where
  pub graph : IsGraph nodes
  pub order : List ℕ
  pub shuffled : Shuffled (numbers_of nodes) order
  pub parents_first : ParentsFirst nodes order

-- the world has q's states at the nodes of the start
abbrev pub extends : List NodeView → (ℕ → Bool) → World → World → Bool
extends nodes started q w = list_all (λ v. not (started v) || (w v == q v)) (numbers_of nodes)

-- the gain of the agent from a start: the sum, over the worlds that extend it, of the product of
-- the tables of the other nodes times the agent's utilities
abbrev pub gain_from_start : List NodeView → (ℕ → Bool) → World → List RuleView → ℕ → ℤ
gain_from_start nodes started q p agent = sum_worlds nodes (λ w. if extends nodes started q w then product_over (λ v. if started v then pos 1 else table nodes p v w) (numbers_of nodes) *ℤ utility nodes agent w else pos 0)

-- the mass from a start: the product of the totals of the other nodes
abbrev pub mass_from_start : List NodeView → (ℕ → Bool) → List RuleView → ℤ
mass_from_start nodes started p = product_over (λ v. if started v then pos 1 else pos (weight_total nodes p v)) (numbers_of nodes)

-- A start as a set of nodes, with the parents of each, and their states, which chance can reach. No
-- information set of a decision outside it has both worlds that extend it and others.
pub record IsStart (nodes : List NodeView) (started : ℕ → Bool) (q : World) : Type 0 where
  pub range : InRange (states_of nodes) q
  pub started_inside : (v : ℕ) → started v ≡ true → v < length nodes
  pub closed_up : (u v : ℕ) → IsParent nodes u v → started v ≡ true → started u ≡ true
  pub reached : (v : ℕ) → started v ≡ true → (node_at nodes v).kind ≡ Chance → pos 0 <ℤ table nodes [] v q
  pub closed : (d : ℕ) → started d ≡ false → (node_at nodes d).kind ≡ Decision → (w x : World) → InRange (states_of nodes) w → InRange (states_of nodes) x → ((u : ℕ) → IsParent nodes u d → w u ≡ x u) → ((v : ℕ) → started v ≡ true → w v ≡ q v) → ((v : ℕ) → started v ≡ true → x v ≡ q v)

-- the profiles have the same rules at the decisions of the other agents
abbrev pub SameForOthers : List NodeView → ℕ → List RuleView → List RuleView → Type 0
SameForOthers nodes agent s t = (v : ℕ) → (node_at nodes v).kind ≡ Decision → agent_of nodes v ≢ agent → (weights_of t v ≡ weights_of s v) × (rule_total t v ≡ rule_total s v)

-- s is pure, with these choices; base gives each decision a profile with s's weights where the
-- decision relies and weights of 1 elsewhere; and at each row with mass in the base no state has a
-- greater gain than the choice
pub record IsBest (nodes : List NodeView) (s : List RuleView) (choice : ℕ → ℕ → ℕ) (base : ℕ → List RuleView) : Type 0 where
  pub tables : HasTables nodes s
  pub total : (v : ℕ) → (node_at nodes v).kind ≡ Decision → rule_total s v ≡ 1
  pub inside : (v row : ℕ) → (node_at nodes v).kind ≡ Decision → row < rows_of nodes v → choice v row < states_of nodes v
  pub pure : (v row x : ℕ) → (node_at nodes v).kind ≡ Decision → row < rows_of nodes v → x < states_of nodes v → pos (slice_index (weights_of s v) (row * states_of nodes v + x)) ≡ (if x == choice v row then pos 1 else pos 0)
  pub base_tables : (d : ℕ) → HasTables nodes (base d)
  pub base_relied : (d e : ℕ) → ReliesOn nodes d e → weights_of (base d) e ≡ weights_of s e
  pub base_else : (d e : ℕ) → (ReliesOn nodes d e → ⊥) → e ≢ d → (node_at nodes e).kind ≡ Decision → (w : World) → InRange (states_of nodes) w → table nodes (base d) e w ≡ pos 1
  pub best : (d row x : ℕ) → IsLive nodes d → (node_at nodes d).kind ≡ Decision → row < rows_of nodes d → x < states_of nodes d → pos 0 <ℤ mass_at nodes (base d) d row → gain_at nodes (base d) d x row ≤ℤ gain_at nodes (base d) d (choice d row) row

-- each decision of the list stands after those that it relies on; done are those before the list
abbrev pub InOrder : List NodeView → List ℕ → List ℕ → Type 0
InOrder nodes done [] = Unit {0}
InOrder nodes done (d ∷ ds) = (d < length nodes) × ((node_at nodes d).kind ≡ Decision) × ((e : ℕ) → ReliesOn nodes d e → Among e done) × InOrder nodes (d ∷ done) ds
