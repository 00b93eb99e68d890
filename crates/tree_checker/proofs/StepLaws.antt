-- Rows and cells that differ by one state of a node: how far apart they are.
use Rattle.std.proofs.Common.{◌≡◌, ◌∙◌, ℕ, ◌+◌, ◌*◌, ◌<◌, ◌≤◌, Bool, true, false, cond, eqb, List, [], ◌∷◌, length, get_or, drop, refl, sym, ap, subst, inl, inr, zero, suc, arith}
use Rattle.std.proofs.Math.Decide.{ℕ_discrete}
use Rattle.std.proofs.Math.Nat.{mul-le-mul_left, mul-le-mul_right}
use Rattle.finite_sums.specs.Members.{Among}
use Rattle.finite_sums.specs.Sums.{World, with_state}
use Rattle.maid_laws.proofs.Members.{contains_of}
use Rattle.maid_model.specs.Diagrams.{IsDiagram}
use Rattle.maid_model.specs.Graph.{AllDifferent}
use Rattle.maid_model.specs.Nodes.{parents_of, rows_of, rows_under, states_of}
use Rattle.maid_model.specs.Tables.{cell_of, row_from, row_of}
use Rattle.maid_model.specs.Views.{DiagramView, NodeView}
use Rattle.maid_model.proofs.Cells.{drop_at}
use Rattle.maid_model.proofs.Found.{eqb_yes, eqb_no}
use Rattle.maid_model.proofs.Picked.{RowSoFar, row_from-ge}
use Rattle.tree_checker.specs.Walks.{cell_step, row_step}

-- 1 at v and 0 elsewhere
abbrev pub one_at : ℕ → World
one_at v x = cond (eqb x v) 1 0

rows_apart : (count : ℕ → ℕ) (w : World) (v s : ℕ) (us : List ℕ) (a b : ℕ) → row_from count (with_state w v s) (a + s * b) us ≡ row_from count (with_state w v 0) a us + s * row_from count (one_at v) b us
rows_apart count w v s [] a b = refl
rows_apart count w v s (u ∷ us) a b =
    ap (λ r. row_from count (with_state w v s) r us) (next (eqb u v))
    ∙ rows_apart count w v s us (a * count u + with_state w v 0 u) (b * count u + one_at v u)
  where
    next : (t : Bool) → (a + s * b) * count u + cond t s (w u) ≡ (a * count u + cond t 0 (w u)) + s * (b * count u + cond t 1 0)
    next true = omega arith
    next false = omega arith

module _ (nodes : List NodeView) (u v s : ℕ) (w : World) where
  pub row_apart : row_of nodes u (with_state w v s) ≡ row_of nodes u (with_state w v 0) + s * row_step nodes u v
  row_apart = ap (λ r. row_from (states_of nodes) (with_state w v s) r (parents_of nodes u)) start ∙ rows_apart (states_of nodes) w v s (parents_of nodes u) 0 0
    where
      start : 0 ≡ 0 + s * 0
      start = omega arith

  pub cell_apart : cell_of nodes u (with_state w v s) ≡ cell_of nodes u (with_state w v 0) + s * cell_step nodes u v
  cell_apart = ap (λ r. r * states_of nodes u + with_state w v s u) row_apart ∙ go (row_of nodes u (with_state w v 0)) (row_step nodes u v) (states_of nodes u) (eqb u v)
    where
      go : (r t n : ℕ) (b : Bool) → (r + s * t) * n + cond b s (w u) ≡ (r * n + cond b 0 (w u)) + s * (t * n + cond b 1 0)
      go r t n true = omega arith
      go r t n false = omega arith

-- ---- the step is no more than there are rows
none_further : (count : ℕ → ℕ) (v : ℕ) (us : List ℕ) → (Among v us → ⊥) → (b : ℕ) → row_from count (one_at v) b us ≡ b * rows_under count us
none_further count v [] h b = omega arith
none_further count v (u ∷ us) h b =
    ap (λ t. row_from count (one_at v) (b * count u + cond t 1 0) us) (eqb_no u v (λ e. h (inl (sym e))))
    ∙ none_further count v us (λ m. h (inr m)) (b * count u + 0)
    ∙ regroup b (count u) (rows_under count us)
  where
    regroup : (b n r : ℕ) → (b * n + 0) * r ≡ b * (n * r)
    regroup b n r = omega arith

step_le : (count : ℕ → ℕ) → ((v : ℕ) → 0 < count v) → (v : ℕ) (us : List ℕ) → AllDifferent us → row_from count (one_at v) 0 us ≤ rows_under count us
step_le count h v [] d = omega arith
step_le count h v (u ∷ us) d = go (ℕ_discrete u v) (step_le count h v us d.1)
  where
    more : (n r : ℕ) → 0 < n → r ≤ n * r
    more n r l = omega (arith, mul-le-mul_right r l)

    start : (n k : ℕ) → 0 * n + k ≡ k
    start n k = omega arith

    grown : (x n r : ℕ) → 0 < n → x ≤ r → x ≤ n * r
    grown x n r l k = omega (arith, more n r l)

    go : Dec (u ≡ v) → row_from count (one_at v) 0 us ≤ rows_under count us → row_from count (one_at v) (0 * count u + one_at v u) us ≤ count u * rows_under count us
    go (yes e) rec =
        subst (λ k. row_from count (one_at v) k us ≤ count u * rows_under count us) (sym (ap (λ t. 0 * count u + cond t 1 0) (eqb_yes u v e) ∙ start (count u) 1))
        (subst (λ x. x ≤ count u * rows_under count us) (sym (none_further count v us (λ m. d.0 (contains_of u us (subst (λ x. Among x us) (sym e) m))) 1)) (grown (1 * rows_under count us) (count u) (rows_under count us) (h u) (one (rows_under count us))))
      where
        one : (r : ℕ) → 1 * r ≤ r
        one r = omega arith
    go (no n) rec =
        subst (λ k. row_from count (one_at v) k us ≤ count u * rows_under count us) (sym (ap (λ t. 0 * count u + cond t 1 0) (eqb_no u v n) ∙ start (count u) 0))
        (grown (row_from count (one_at v) 0 us) (count u) (rows_under count us) (h u) rec)

module _ (d : DiagramView) (is : IsDiagram d) (node : ℕ) (inside : node < length d.nodes) (v : ℕ) where
  pub step_within : row_step d.nodes node v ≤ rows_of d.nodes node
  step_within = step_le (states_of d.nodes) is.graph.has_state v (parents_of d.nodes node) (is.graph.parents_differ node)

  -- ---- parent by parent
  module _ (step i c : ℕ) (us : List ℕ) (s : RowSoFar d.nodes node (one_at v) step us i) (i_in : i < length us) (c_is : c ≡ states_of d.nodes (get_or us i 0)) where
    next : row_from (states_of d.nodes) (one_at v) (step * c + one_at v (get_or us i 0)) (drop (i + 1) us) ≡ row_step d.nodes node v
    next =
        (λ j. row_from (states_of d.nodes) (one_at v) (step * c_is j + one_at v (get_or us i 0)) (drop (i + 1) us))
        ∙ sym (ap (row_from (states_of d.nodes) (one_at v) step) (drop_at us i i_in)) ∙ s.rest

    pub step_fits : step * c ≤ 65536
    step_fits = go (step * c) (one_at v (get_or us i 0)) (row_from (states_of d.nodes) (one_at v) (step * c + one_at v (get_or us i 0)) (drop (i + 1) us)) (row_step d.nodes node v) (rows_of d.nodes node) (states_of d.nodes node)
        (row_from-ge (states_of d.nodes) (one_at v) is.graph.has_state (drop (i + 1) us) (step * c + one_at v (get_or us i 0))) next step_within (is.graph.has_state node) (is.limits.cells node inside)
      where
        go : (a x y z r k : ℕ) → a + x ≤ y → y ≡ z → z ≤ r → 0 < k → r * k ≤ 65536 → a ≤ 65536
        go a x y z r k h e j l m = omega (arith, mul-le-mul_left r l)

    -- to the next parent, which is v or another
    pub step_same : (t : ℕ) → get_or us i 0 ≡ v → t ≡ step * c + 1 → RowSoFar d.nodes node (one_at v) t us (i + 1)
    step_same t e is = record {
      parents = s.parents;
      rest = ap (λ k. row_from (states_of d.nodes) (one_at v) k (drop (i + 1) us)) (is ∙ ap (λ b. step * c + cond b 1 0) (sym (eqb_yes (get_or us i 0) v e))) ∙ next;
    }

    pub step_other : (t : ℕ) → (get_or us i 0 ≡ v → ⊥) → t ≡ step * c → RowSoFar d.nodes node (one_at v) t us (i + 1)
    step_other t n is = record {
      parents = s.parents;
      rest = ap (λ k. row_from (states_of d.nodes) (one_at v) k (drop (i + 1) us)) (is ∙ none (step * c) ∙ ap (λ b. step * c + cond b 1 0) (sym (eqb_no (get_or us i 0) v n))) ∙ next;
    }
      where
        none : (k : ℕ) → k ≡ k + 0
        none k = omega arith

  drop_past : (us : List ℕ) (i : ℕ) → length us ≤ i → drop i us ≡ []
  drop_past [] zero h = refl
  drop_past [] (suc i) h = refl
  drop_past (u ∷ us) zero h = absurd (omega arith)
  drop_past (u ∷ us) (suc i) h = drop_past us i (omega arith)

  -- after the last parent
  pub step_end : (step i : ℕ) (us : List ℕ) → RowSoFar d.nodes node (one_at v) step us i → length us ≤ i → step ≡ row_step d.nodes node v
  step_end step i us s h = ap (row_from (states_of d.nodes) (one_at v) step) (sym (drop_past us i h)) ∙ s.rest

  pub step_whole : (step i : ℕ) (us : List ℕ) → RowSoFar d.nodes node (one_at v) step us i → length us ≤ i → step ≤ rows_of d.nodes node
  step_whole step i us s h = subst (λ k. k ≤ rows_of d.nodes node) (sym (step_end step i us s h)) step_within
