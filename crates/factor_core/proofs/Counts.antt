-- Places and sizes over a list of counts are those over the nodes that have these counts.
use Rattle.std.proofs.Common.{◌≡◌, ◌∙◌, ℕ, zero, suc, ◌+◌, ◌*◌, ◌<◌, ◌≤◌, Bool, true, false, cond, List, [], ◌∷◌, ◌++◌, length, filter, refl, sym, ap, subst, arith}
use Rattle.std.specs.List.{range_with_len}
use Rattle.std.proofs.Math.Path.{fun_ext}
use Rattle.std.proofs.Math.ListN.{get_or-map}
use Rattle.std.proofs.lemmas.List.{length-map}
use Rattle.finite_sums.specs.Sums.{World, InRange}
use Rattle.maid_model.specs.Views.{NodeView, DiagramView}
use Rattle.maid_model.specs.Diagrams.{IsDiagram}
use Rattle.maid_model.specs.Nodes.{no_node, states_of, counts_of, rows_under}
use Rattle.maid_model.specs.Tables.{row_from}
use Rattle.factor_core.specs.Slots.{nodes_in, cells_over}
use Rattle.factor_core.specs.Tables.{AreCounts, listed, size_from, place_from, states_in}

-- the row over the nodes to come stands behind the row so far
pub row_from_split : (count : ℕ → ℕ) (w : World) (r : ℕ) (us : List ℕ) → row_from count w r us ≡ r * rows_under count us + row_from count w 0 us
row_from_split count w r [] = omega arith
row_from_split count w r (u ∷ us) =
    let here = row_from_split count w (r * count u + w u) us in
    let there = row_from_split count w (0 * count u + w u) us in
    regroup r (count u) (w u) (rows_under count us) (row_from count w 0 us) (row_from count w (r * count u + w u) us) (row_from count w (0 * count u + w u) us) here there
  where
    regroup : (r c s m q a b : ℕ) → a ≡ (r * c + s) * m + q → b ≡ (0 * c + s) * m + q → a ≡ r * (c * m) + b
    regroup r c s m q a b h k = omega arith

module _ (count : ℕ → ℕ) (h : ℕ → Bool) where
  pub listed_is : (k v : ℕ) → listed h v k ≡ filter h (range_with_len v k)
  listed_is zero v = refl
  listed_is (suc k) v = go (h v) (listed_is k (suc v) ∙ ap (λ u. filter h (range_with_len u k)) (let e : suc v ≡ v + 1 = omega arith in e))
    where
      go : (b : Bool) → listed h (suc v) k ≡ filter h (range_with_len (v + 1) k) → cond b (v ∷ []) [] ++ listed h (suc v) k ≡ cond b (v ∷ filter h (range_with_len (v + 1) k)) (filter h (range_with_len (v + 1) k))
      go true e = ap (λ l. v ∷ l) e
      go false e = e

  pub size_is : (k v : ℕ) → size_from count h v k ≡ rows_under count (listed h v k)
  size_is zero v = refl
  size_is (suc k) v = go (h v) (size_is k (suc v))
    where
      go : (b : Bool) → size_from count h (suc v) k ≡ rows_under count (listed h (suc v) k) → cond b (count v) 1 * size_from count h (suc v) k ≡ rows_under count (cond b (v ∷ []) [] ++ listed h (suc v) k)
      go true e = ap (λ m. count v * m) e
      go false e = (let one : 1 * size_from count h (suc v) k ≡ size_from count h (suc v) k = omega arith in one) ∙ e

  pub place_is : (w : World) (k v : ℕ) → place_from count h w v k ≡ row_from count w 0 (listed h v k)
  place_is w zero v = refl
  place_is w (suc k) v = go (h v) (place_is w k (suc v)) (size_is k (suc v))
    where
      go : (b : Bool) → place_from count h w (suc v) k ≡ row_from count w 0 (listed h (suc v) k) → size_from count h (suc v) k ≡ rows_under count (listed h (suc v) k)
          → cond b (w v * size_from count h (suc v) k) 0 + place_from count h w (suc v) k ≡ row_from count w 0 (cond b (v ∷ []) [] ++ listed h (suc v) k)
      go true e f =
          let s = row_from_split count w (0 * count v + w v) (listed h (suc v) k) in
          here (w v) (count v) (size_from count h (suc v) k) (rows_under count (listed h (suc v) k)) (place_from count h w (suc v) k) (row_from count w 0 (listed h (suc v) k)) (row_from count w (0 * count v + w v) (listed h (suc v) k)) f e s
        where
          here : (s c m n p q a : ℕ) → m ≡ n → p ≡ q → a ≡ (0 * c + s) * n + q → s * m + p ≡ a
          here s c m n p q a f e g = omega (arith, ap (λ x. s * x) f)
      go false e f = (let none : 0 + place_from count h w (suc v) k ≡ place_from count h w (suc v) k = omega arith in none) ∙ e

module _ (nodes : List NodeView) where
  pub states_is : states_in (counts_of nodes) ≡ states_of nodes
  states_is = fun_ext (λ v. get_or-map (λ (n : NodeView). n.states) nodes v no_node)

  pub counts_length : length (counts_of nodes) ≡ length nodes
  counts_length = length-map nodes (λ (n : NodeView). n.states)

  pub nodes_are : (h : ℕ → Bool) → listed h 0 (length (counts_of nodes)) ≡ nodes_in nodes h
  nodes_are h = ap (listed h 0) counts_length ∙ listed_is (states_of nodes) h (length nodes) 0

  pub cells_are : (h : ℕ → Bool) → size_from (states_in (counts_of nodes)) h 0 (length (counts_of nodes)) ≡ cells_over nodes h
  cells_are h =
      ap (λ c. size_from c h 0 (length (counts_of nodes))) states_is
      ∙ size_is (states_of nodes) h (length (counts_of nodes)) 0
      ∙ ap (rows_under (states_of nodes)) (nodes_are h)

  pub place_among : (h : ℕ → Bool) (w : World) → place_from (states_in (counts_of nodes)) h w 0 (length (counts_of nodes)) ≡ row_from (states_of nodes) w 0 (nodes_in nodes h)
  place_among h w =
      ap (λ c. place_from c h w 0 (length (counts_of nodes))) states_is
      ∙ place_is (states_of nodes) h w (length (counts_of nodes)) 0
      ∙ ap (row_from (states_of nodes) w 0) (nodes_are h)

  pub range_is : (w : World) → InRange (states_of nodes) w → InRange (states_in (counts_of nodes)) w
  range_is w i = subst (λ c. InRange c w) (sym states_is) i

  pub range_back : (w : World) → InRange (states_in (counts_of nodes)) w → InRange (states_of nodes) w
  range_back w i = subst (λ c. InRange c w) states_is i

-- the counts of a diagram
pub are_counts : (d : DiagramView) → IsDiagram d → AreCounts (counts_of d.nodes)
are_counts d is = record {
  few = (let l = is.limits.nodes in let e = counts_length d.nodes in omega arith);
  some = λ v. subst (λ c. 0 < c v) (sym (states_is d.nodes)) (is.graph.has_state v);
  small = λ v. subst (λ c. c v ≤ 256) (sym (states_is d.nodes)) (is.limits.states v);
}
