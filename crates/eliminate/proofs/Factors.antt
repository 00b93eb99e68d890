-- The cells of a scope, counted along a walk through it: what is counted so far, times what is to
-- come.
use Rattle.std.proofs.Common.{◌≡◌, ◌∙◌, ℕ, zero, suc, ◌+◌, ◌-◌, ◌*◌, ◌<◌, ◌≤◌, Bool, cond, List, length, get_or, refl, sym, ap, arith}
use Rattle.std.specs.List.{range_with_len}
use Rattle.finite_sums.specs.Sums.{nat_product_over}
use Rattle.maid_model.specs.declared.limits.TheConstants.{COUNT_END}
use Rattle.maid_model.specs.Bounds.{stopped}
use Rattle.maid_model.specs.Nodes.{states_of, counts_of}
use Rattle.maid_model.specs.Views.{NodeView}
use Rattle.node_sets.specs.declared.sets.NodeSet.{NodeSet}
use Rattle.node_sets.specs.Sets.{holds, IsIn, IsFirstFrom}
use Rattle.size_precheck.specs.Counts.{counted_cells}
use Rattle.std.proofs.lemmas.List.{get_or_default}
use Rattle.maid_model.specs.Nodes.{no_node}
use Rattle.factor_core.proofs.Counts.{states_is}
use Rattle.size_precheck.proofs.Counting.{stop_first}
use Rattle.eliminate.proofs.Standing.{map_length}
use Rattle.eliminate.proofs.Placing.{not_true}

module _ (f : ℕ → ℕ) where
  -- factors of one change no product
  ones : (a k : ℕ) → ((w : ℕ) → a ≤ w → w < a + k → f w ≡ 1) → nat_product_over f (range_with_len a k) ≡ 1
  ones a zero h = refl
  ones a (suc k) h =
      let one : 1 * 1 ≡ 1 = omega arith in
      (λ i. h a (omega arith) (omega arith) i * ones (a + 1) k (λ w x y. h w (omega arith) (omega arith)) i) ∙ one

  -- the next factor that may be another
  next_factor : (a d k : ℕ) → ((w : ℕ) → a ≤ w → w < a + d → f w ≡ 1) → nat_product_over f (range_with_len a (d + suc k)) ≡ f (a + d) * nat_product_over f (range_with_len (a + d + 1) k)
  next_factor a zero k h =
      let e : a ≡ a + 0 = omega arith in
      let n : 0 + suc k ≡ suc k = omega arith in
      ap (λ m. nat_product_over f (range_with_len a m)) n ∙ ap (λ x. f x * nat_product_over f (range_with_len (x + 1) k)) e
  next_factor a (suc d) k h =
      let e : a + 1 + d ≡ a + suc d = omega arith in
      let one = nat_product_over f (range_with_len (a + 1) (d + suc k)) in
      let n : suc d + suc k ≡ suc (d + suc k) = omega arith in
      ap (λ m. nat_product_over f (range_with_len a m)) n
      ∙ ap (λ n. n * one) (h a (omega arith) (omega arith))
      ∙ times_one one
      ∙ next_factor (a + 1) d k (λ w x y. h w (omega arith) (omega arith))
      ∙ ap (λ x. f x * nat_product_over f (range_with_len (x + 1) k)) e
    where
      times_one : (n : ℕ) → 1 * n ≡ n
      times_one n = omega arith

  pub to_come : (a v n : ℕ) → a ≤ v → v < n → ((w : ℕ) → a ≤ w → w < v → f w ≡ 1) → nat_product_over f (range_with_len a (n - a)) ≡ f v * nat_product_over f (range_with_len (v + 1) (n - (v + 1)))
  to_come a v n l m h =
      let whole : n - a ≡ (v - a) + suc (n - (v + 1)) = omega arith in
      let here : a + (v - a) ≡ v = omega arith in
      ap (λ k. nat_product_over f (range_with_len a k)) whole
      ∙ next_factor a (v - a) (n - (v + 1)) (λ w x y. h w x (omega arith))
      ∙ ap (λ x. f x * nat_product_over f (range_with_len (x + 1) (n - (v + 1)))) here

  pub none_to_come : (a n : ℕ) → ((w : ℕ) → a ≤ w → w < n → f w ≡ 1) → nat_product_over f (range_with_len a (n - a)) ≡ 1
  none_to_come a n h = ones a (n - a) (λ w x y. h w x (omega arith))

-- the count so far, times the factors of the nodes from here on, is the count of all
abbrev pub factor_of : List NodeView → (ℕ → Bool) → ℕ → ℕ
factor_of nodes h u = cond (h u) (states_of nodes u) 1

pub record CountsOn (nodes : List NodeView) (h : ℕ → Bool) (next cells : ℕ) : Type 0 where
  pub whole : stopped (cells * nat_product_over (factor_of nodes h) (range_with_len next (length nodes - next))) ≡ counted_cells nodes h
  pub few : cells ≤ COUNT_END

module _ (nodes : List NodeView) (set : NodeSet) where
  pub counts_start : CountsOn nodes (holds set) 0 1
  counts_start = record {
    whole = ap stopped (times_one (nat_product_over (factor_of nodes (holds set)) (range_with_len 0 (length nodes - 0)))) ∙ ap (λ n. stopped (nat_product_over (factor_of nodes (holds set)) (range_with_len 0 n))) (no_less (length nodes));
    few = omega arith;
  }
    where
      no_less : (n : ℕ) → n - 0 ≡ n
      no_less n = omega arith

      times_one : (n : ℕ) → 1 * n ≡ n
      times_one n = omega arith

  lacking : (w : ℕ) → (IsIn set w → ⊥) → factor_of nodes (holds set) w ≡ 1
  lacking w n = ap (λ b. cond b (states_of nodes w) 1) (not_true (holds set w) n)

  states_at : (v d : ℕ) → v < length nodes → get_or (counts_of nodes) v d ≡ states_of nodes v
  states_at v d l = get_or_default (counts_of nodes) v d no_node.states (let k = map_length (λ (n : NodeView). n.states) nodes in omega (arith, k, l)) ∙ ap (λ f. f v) (states_is nodes)

  pub counts_more : (next v cells new d : ℕ) → IsFirstFrom set next v → v < length nodes → CountsOn nodes (holds set) next cells
      → new ≡ stopped (cells * get_or (counts_of nodes) v d) → CountsOn nodes (holds set) (v + 1) new
  counts_more next v cells new d first l c is =
      let f = factor_of nodes (holds set) in
      let rest = nat_product_over f (range_with_len (v + 1) (length nodes - (v + 1))) in
      let s = get_or (counts_of nodes) v d in
      let here : s ≡ f v = states_at v d l ∙ sym (ap (λ b. cond b (states_of nodes v) 1) first.inside) in
      record {
        whole = ap (λ n. stopped (n * rest)) is
            ∙ stop_first COUNT_END (cells * s) rest
            ∙ ap stopped (regroup cells s rest ∙ ap (λ n. cells * n) (ap (λ n. n * rest) here ∙ sym (to_come f next v (length nodes) first.not_before l (λ w x y. lacking w (first.first w x y)))))
            ∙ c.whole;
        few = few_of new (cells * s) is;
      }
    where
      regroup : (a b c : ℕ) → (a * b) * c ≡ a * (b * c)
      regroup a b c = grind arith

      few_of : (n m : ℕ) → n ≡ stopped m → n ≤ COUNT_END
      few_of n m e = omega (arith, e)

  pub counts_end : (next cells : ℕ) → ((w : ℕ) → next ≤ w → w < length nodes → IsIn set w → ⊥) → CountsOn nodes (holds set) next cells → cells ≡ counted_cells nodes (holds set)
  counts_end next cells none c =
      let one : cells ≡ stopped (cells * 1) = let l = c.few in omega arith in
      one ∙ ap (λ n. stopped (cells * n)) (sym (none_to_come (factor_of nodes (holds set)) next (length nodes) (λ w x y. lacking w (none w x y)))) ∙ c.whole
