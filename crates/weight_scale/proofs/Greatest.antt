-- The greatest absolute values of a scope's utilities, added up node by node.
use Rattle.std.proofs.Common.{◌≡◌, ◌<◌, ◌+◌, ◌-◌, ◌∙◌, ℕ, zero, suc, Bool, true, false, cond, filter, List, [], ◌∷◌, length, refl, sym, ap, add_assoc, arith, ◌≤◌}
use Rattle.std.specs.List.{range_with_len}
use Rattle.node_sets.specs.declared.sets.NodeSet.{NodeSet}
use Rattle.node_sets.specs.Sets.{holds, IsIn, IsFirstFrom, HasNoneBetween}
use Rattle.maid_model.specs.Views.{NodeView}
use Rattle.maid_model.specs.Nodes.{node_at, numbers_of}
use Rattle.finite_sums.specs.Sums.{nat_sum_over}
use Rattle.maid_model.specs.Gains.{greatest_abs}
use Rattle.maid_model.specs.Scopes.{greatest_of}
use Rattle.weight_scale.specs.ScopePlaces.{members_of}

-- what the node adds
abbrev pub value_at : List NodeView → NodeSet → ℕ → ℕ
value_at nodes set v = cond (holds set v) (greatest_abs (node_at nodes v).cells) 0

-- the sum over these nodes
abbrev pub greatest_over : List NodeView → NodeSet → List ℕ → ℕ
greatest_over nodes set vs = nat_sum_over (value_at nodes set) vs

not_held : (set : NodeSet) (v : ℕ) → (IsIn set v → ⊥) → holds set v ≡ false
not_held set v n = go (holds set v) refl
  where
    go : (b : Bool) → holds set v ≡ b → b ≡ false
    go true e = absurd (n e)
    go false e = refl

-- a sum over those that pass a test
sum_filter : (g : ℕ → ℕ) (p : ℕ → Bool) (xs : List ℕ) → nat_sum_over (λ v. cond (p v) (g v) 0) xs ≡ nat_sum_over g (filter p xs)
sum_filter g p [] = refl
sum_filter g p (x ∷ xs) = go (p x) (sum_filter g p xs)
  where
    nought : (n : ℕ) → 0 + n ≡ n
    nought n = omega arith

    go : (b : Bool) → nat_sum_over (λ v. cond (p v) (g v) 0) xs ≡ nat_sum_over g (filter p xs) → cond b (g x) 0 + nat_sum_over (λ v. cond (p v) (g v) 0) xs ≡ nat_sum_over g (cond b (x ∷ filter p xs) (filter p xs))
    go true e = ap (λ s. g x + s) e
    go false e = nought (nat_sum_over (λ v. cond (p v) (g v) 0) xs) ∙ e

pub greatest_is : (nodes : List NodeView) (set : NodeSet) → greatest_over nodes set (numbers_of nodes) ≡ greatest_of nodes (members_of nodes set)
greatest_is nodes set = sum_filter (λ u. greatest_abs (node_at nodes u).cells) (holds set) (numbers_of nodes)

-- nodes that add nothing
noughts : (g : ℕ → ℕ) (a d k : ℕ) → ((w : ℕ) → a ≤ w → w < a + d → g w ≡ 0) → nat_sum_over g (range_with_len a (d + k)) ≡ nat_sum_over g (range_with_len (a + d) k)
noughts g a zero k h =
    let e : a ≡ a + 0 = omega arith in
    let n : 0 + k ≡ k = omega arith in
    ap (λ m. nat_sum_over g (range_with_len a m)) n ∙ ap (λ x. nat_sum_over g (range_with_len x k)) e
noughts g a (suc d) k h =
    let e : a + 1 + d ≡ a + suc d = omega arith in
    let n : suc d + k ≡ suc (d + k) = omega arith in
    let rest = nat_sum_over g (range_with_len (a + 1) (d + k)) in
    let none : 0 + rest ≡ rest = omega arith in
    ap (λ m. nat_sum_over g (range_with_len a m)) n
    ∙ ap (λ m. m + rest) (h a (omega arith) (omega arith))
    ∙ none
    ∙ noughts g (a + 1) d k (λ w x y. h w (omega arith) (omega arith))
    ∙ ap (λ x. nat_sum_over g (range_with_len x k)) e

module _ (nodes : List NodeView) (set : NodeSet) (from sum whole : ℕ) where
  lacking : (w : ℕ) → (IsIn set w → ⊥) → value_at nodes set w ≡ 0
  lacking w n = ap (λ b. cond b (greatest_abs (node_at nodes w).cells) 0) (not_held set w n)

  -- the set's next node
  pub greatest_step : (v : ℕ) → IsFirstFrom set from v → v < length nodes → sum + greatest_over nodes set (range_with_len from (length nodes - from)) ≡ whole
      → (sum + greatest_abs (node_at nodes v).cells) + greatest_over nodes set (range_with_len (v + 1) (length nodes - (v + 1))) ≡ whole
  greatest_step v first l e =
      let value = greatest_abs (node_at nodes v).cells in
      let rest = greatest_over nodes set (range_with_len (v + 1) (length nodes - (v + 1))) in
      let to_come : length nodes - from ≡ (v - from) + suc (length nodes - (v + 1)) = let m = first.not_before in omega (arith, m, l) in
      let here : from + (v - from) ≡ v = let m = first.not_before in omega (arith, m) in
      add_assoc sum value rest
      ∙ ap (λ n. sum + (n + rest)) (sym (ap (λ b. cond b value 0) first.inside))
      ∙ ap (λ n. sum + n) (sym (
      ap (λ n. greatest_over nodes set (range_with_len from n)) to_come
      ∙ noughts (value_at nodes set) from (v - from) (suc (length nodes - (v + 1))) (λ w a b. lacking w (first.first w a (omega (arith, b, here))))
      ∙ ap (λ x. greatest_over nodes set (range_with_len x (suc (length nodes - (v + 1))))) here))
      ∙ e

  -- no more nodes
  pub greatest_end : HasNoneBetween set from (length nodes) → from ≤ length nodes → sum + greatest_over nodes set (range_with_len from (length nodes - from)) ≡ whole → sum ≡ whole
  greatest_end none l e =
      let to_come : length nodes - from ≡ (length nodes - from) + 0 = omega arith in
      let no_more : sum ≡ sum + 0 = omega arith in
      no_more
      ∙ ap (λ n. sum + n) (sym (
      ap (λ n. greatest_over nodes set (range_with_len from n)) to_come
      ∙ noughts (value_at nodes set) from (length nodes - from) 0 (λ w a b. lacking w (none w a (omega (arith, b, l))))))
      ∙ e
