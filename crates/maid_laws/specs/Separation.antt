-- The separation of tables by active walks, given any fixed nodes (Shachter 1998).
use Rattle.std.specs.Prelude.{◌≡◌, ◌⊎◌, ◌↔◌, ℕ, ◌<◌, Bool, true, false, ◌||◌, not, List, length, filter, ℤ, pos, ◌*ℤ◌, ◌==◌, if◌then◌else◌}
use Rattle.std.specs.List.{list_all}
use Rattle.maid_model.specs.Views.{NodeView, RuleView}
use Rattle.maid_model.specs.Nodes.{IsUtility, states_of, numbers_of}
use Rattle.maid_model.specs.Graph.{Arc, IsPath, IsGraph}
use Rattle.finite_sums.specs.Looks.{Ignores}
use Rattle.finite_sums.specs.Sums.{World, InRange, sum_over, product_over, nat_product_over}
use Rattle.maid_model.specs.Tables.{HasChanceTables, weight_total}
use Rattle.maid_model.specs.Profiles.{IsProfile}
use Rattle.maid_model.specs.Gains.{sum_worlds, table_without, weight_without}
use Rattle.maid_model.specs.Walks.{IsReachedFromParent}
use Rattle.maid_model.specs.Relevance.{IsLive}

-- the fixed nodes, by a test
abbrev pub IsFixedBy : (ℕ → Bool) → ℕ → Type 0
IsFixedBy fixed v = fixed v ≡ true

-- a live node, from which a path of live nodes leads to a fixed node or to the goal
pub record Matters (nodes : List NodeView) (fixed : ℕ → Bool) (goal v : ℕ) : Type 0 where
  pub live : IsLive nodes v
  pub target : ℕ
  pub path : IsPath (λ x y. Arc nodes x y × IsLive nodes y) v target
  pub reached : IsFixedBy fixed target ⊎ (target ≡ goal)

-- given the fixed nodes, an active walk leads from an extra parent of v to the goal
abbrev pub HasWalk : List NodeView → (ℕ → Bool) → ℕ → ℕ → Type 0
HasWalk nodes fixed goal v =
    IsReachedFromParent (Arc nodes) (IsLive nodes) (IsFixedBy fixed) (length nodes) v goal

-- the table of v looks at the state of x
abbrev pub LooksAt : List NodeView → ℕ → ℕ → Type 0
LooksAt nodes v x = (x ≡ v) ⊎ Arc nodes x v

-- Where the tables of two nodes look at one live node that is not fixed, an active walk leads from
-- an extra parent of both or of neither, as far as both matter.
abbrev pub SharedNodeJoins : Type 0
SharedNodeJoins = (nodes : List NodeView) (fixed : ℕ → Bool) (goal v y x : ℕ) → IsGraph nodes
    → IsUtility nodes goal → IsLive nodes v → Matters nodes fixed goal y → IsLive nodes x
    → fixed x ≡ false → LooksAt nodes v x → LooksAt nodes y x → HasWalk nodes fixed goal v
    → HasWalk nodes fixed goal y

-- tests that tell which nodes matter, and which of these have a walk
pub record IsSplit
    (nodes : List NodeView) (fixed : ℕ → Bool) (goal : ℕ) (matters joined : ℕ → Bool) : Type 0 where
  pub matters_is : (v : ℕ) → v < length nodes → (matters v ≡ true) ↔ Matters nodes fixed goal v
  pub joined_is :
      (v : ℕ) → Matters nodes fixed goal v → (joined v ≡ true) ↔ HasWalk nodes fixed goal v

-- Such tests cannot be lacking: what follows from them and can be told by a test, as an equation of
-- numbers can, holds.
abbrev pub SplitExists : Type 0
SplitExists = (nodes : List NodeView) (fixed : ℕ → Bool) (goal : ℕ)
    → ((matters joined : ℕ → Bool) → IsSplit nodes fixed goal matters joined → ⊥) → ⊥

-- the world has q's states at the fixed nodes
abbrev pub agrees_at_fixed : List NodeView → (ℕ → Bool) → World → World → Bool
agrees_at_fixed nodes fixed q w = list_all (λ v. not (fixed v) || (w v == q v)) (numbers_of nodes)

-- what the factors of v add up to over its states: at d, whose rule is left out, a 1 for each
abbrev pub total_without : List NodeView → List RuleView → ℕ → ℕ → ℕ
total_without nodes p d v = if v == d then states_of nodes v else weight_total nodes p v

-- the product of the factors of these nodes, without d's rule
abbrev pub product_without : List NodeView → List RuleView → ℕ → List ℕ → World → ℤ
product_without nodes p d vs w = product_over (λ v. table_without nodes p d v w) vs

-- The law of separation: given q's states at the fixed nodes, a sum over worlds of the weight
-- without d's rule, times a factor that looks at the goal's parents alone, is the product of the
-- totals of the nodes that don't matter, of a sum over the free nodes that have a walk, and of a
-- sum over the other free nodes.
abbrev pub SumsSeparate : Type 0
SumsSeparate = (nodes : List NodeView) (p : List RuleView) (d : ℕ) (fixed : ℕ → Bool) (goal : ℕ)
    (matters joined : ℕ → Bool) (f : World → ℤ) (q : World) → IsGraph nodes
    → HasChanceTables nodes → IsProfile nodes p → IsUtility nodes goal
    → IsSplit nodes fixed goal matters joined
    → ((u : ℕ) → (Arc nodes u goal → ⊥) → Ignores (states_of nodes) f u)
    → InRange (states_of nodes) q
    → sum_worlds nodes (λ w.
    if agrees_at_fixed nodes fixed q w then weight_without nodes p d w *ℤ f w else pos 0)
    ≡ pos (nat_product_over (total_without nodes p d)
    (filter (λ v. not (matters v)) (numbers_of nodes)))
    *ℤ (sum_over (states_of nodes)
    (filter joined (filter (λ v. not (fixed v))
    (filter matters (numbers_of nodes))))
    (λ w.
    f w
    *ℤ product_without nodes p d
    (filter joined (filter matters (numbers_of nodes))) w)
    q
    *ℤ sum_over (states_of nodes)
    (filter (λ v. not (joined v)) (filter (λ v. not (fixed v))
    (filter matters (numbers_of nodes))))
    (product_without nodes p d (filter (λ v. not (joined v))
    (filter matters (numbers_of nodes)))) q)
