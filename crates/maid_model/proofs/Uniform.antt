-- The uniform rule and the uniform profile.
use Rattle.std.proofs.Common.{◌≡◌, ◌∙◌, ℕ, zero, suc, ◌+◌, ◌*◌, ◌<◌, List, map, replicate, refl, arith, ℤ, pos, ◌≤ℤ◌, slice_index_or}
use Rattle.std.proofs.lemmas.Int.{ints}
use Rattle.std.proofs.Math.ListN.{length-replicate}
use Rattle.std.proofs.lemmas.List.{length-map}
use Rattle.std.proofs.Math.Nat.{mul-le-mul_right}
use Rattle.maid_model.specs.Graph.{IsGraph}
use Rattle.maid_model.specs.Nodes.{states_of, rows_of}
use Rattle.maid_model.specs.Profiles.{IsProfile, IsRule, uniform_rule, uniform_profile}
use Rattle.finite_sums.specs.Sums.{sum_below}
use Rattle.maid_model.specs.Tables.{IsTable}
use Rattle.maid_model.specs.Views.{NodeView}
use Rattle.maid_model.proofs.Made.{made_is_profile}

ones_at : (n i : ℕ) → i < n → slice_index_or (map pos (replicate n 1)) i (pos 0) ≡ pos 1
ones_at zero i h = absurd (omega arith)
ones_at (suc n) zero h = refl
ones_at (suc n) (suc i) h = ones_at n i (omega arith)

ones_not_negative : (n i : ℕ) → pos 0 ≤ℤ slice_index_or (map pos (replicate n 1)) i (pos 0)
ones_not_negative zero i = omega (arith, ints)
ones_not_negative (suc n) zero = omega (arith, ints)
ones_not_negative (suc n) (suc i) = ones_not_negative n i

pub sum_ones : (n : ℕ) (f : ℕ → ℤ) → ((i : ℕ) → i < n → f i ≡ pos 1) → sum_below n f ≡ pos n
sum_ones zero f h = refl
sum_ones (suc n) f h = let a : sum_below n f ≡ pos n = sum_ones n f (λ i l. h i (omega arith)) in let b : f n ≡ pos 1 = h n (omega arith) in omega (arith, ints)

uniform_table : (rows states : ℕ) → IsTable (map pos (replicate (rows * states) 1)) rows states states
uniform_table rows states = record {
  len = length-map (replicate (rows * states) 1) pos ∙ length-replicate (rows * states) 1;
  not_negative = ones_not_negative (rows * states);
  row = λ r l. sum_ones states (λ s. slice_index_or (map pos (replicate (rows * states) 1)) (r * states + s) (pos 0)) (λ s k. ones_at (rows * states) (r * states + s) (inside r s l k));
}
  where
    inside : (r s : ℕ) → r < rows → s < states → r * states + s < rows * states
    inside r s l k = omega (arith, mul-le-mul_right states l)

-- the uniform rule is a rule
uniform_is_rule : (nodes : List NodeView) (v : ℕ) → IsGraph nodes → IsRule nodes (uniform_rule nodes v)
uniform_is_rule nodes v g = record { positive = g.has_state v; table = uniform_table (rows_of nodes v) (states_of nodes v) }

pub uniform_is_profile : (nodes : List NodeView) → IsGraph nodes → IsProfile nodes (uniform_profile nodes)
uniform_is_profile nodes g = made_is_profile nodes (uniform_rule nodes) (λ v. refl) (λ v d. uniform_is_rule nodes v g)
