-- What a state is worth from a start, and against the base.
use Rattle.std.proofs.Common.{◌≡◌, ◌≢◌, ◌∙◌, ℕ, ◌+◌, ◌*◌, ◌<◌, Bool, true, false, cond, ◌&&◌, eqb, List, length, refl, sym, ap, subst, ℤ, pos, ◌*ℤ◌, ◌≤ℤ◌, ◌<ℤ◌, arith}
use Rattle.std.proofs.lemmas.Int.{ints}
use Rattle.std.proofs.lemmas.Bool.Decides.{nat_tests}
use Rattle.std.proofs.Math.Path.{fun_ext}
use Rattle.std.proofs.Math.Decide.{ℕ_discrete}
use Rattle.finite_sums.specs.Members.{Among}
use Rattle.maid_model.specs.Gains.{weight_without, utility_below, gain_at, is_at}
use Rattle.maid_model.specs.Nodes.{node_at, states_of, rows_under}
use Rattle.finite_sums.specs.Sums.{World, sum_over, product_over, InRange}
use Rattle.maid_model.specs.Tables.{row_of, row_from, cell_of, table, table_by, weights_of}
use Rattle.maid_model.specs.Views.{NodeView, RuleView}
use Rattle.finite_sums.proofs.Ints.{mul_comm, mul_assoc, zero_mul, one_mul, mul_one, mul_zero}
use Rattle.finite_sums.proofs.Sums.{sum_over_cong, sum_over_mul}
use Rattle.finite_sums.proofs.Lists.{sum_over-shuffled, product_over-shuffled}
use Rattle.maid_laws.proofs.Booleans.{eqb_yes, eqb_no}
use Rattle.maid_laws.proofs.Basis.{Setup}
use Rattle.maid_laws.proofs.Best.{product_over-times, product_zero_at, products_positive, cancel_le}
use Rattle.maid_laws.proofs.Collapse.{one_if, agree_rows, rows_agree}
use Rattle.maid_laws.proofs.Decided.{not_not_dec, by_contradiction, le_stable}
use Rattle.maid_laws.proofs.Proportions.{sum_over_zero}
use Rattle.maid_laws.proofs.Notions.{IsParent}
use Rattle.maid_laws.proofs.Rows.{world_at_row}
use Rattle.maid_laws.proofs.Step.{table_from}

module _ (nodes : List NodeView) (order : List ℕ) (setup : Setup nodes order) (d : ℕ) (d_in : d < length nodes) (started : ℕ → Bool) (q : World) (d_later : started d ≡ false)
    (started_inside : (v : ℕ) → started v ≡ true → v < length nodes)
    (closed_up : (u v : ℕ) → IsParent nodes u v → started v ≡ true → started u ≡ true)
    (r r0 : List RuleView) (else_same : (v : ℕ) → started v ≡ false → weights_of r0 v ≡ weights_of r v)
    (positive : (v : ℕ) → started v ≡ true → pos 0 <ℤ table nodes r0 v q) where
  -- the world agrees with the start
  abbrev pub Extends : World → Type 0
  Extends w = (v : ℕ) → started v ≡ true → w v ≡ q v

  -- the weight of the start itself
  abbrev start_table : ℕ → ℤ
  start_table v = cond (started v) (table nodes r0 v q) (pos 1)

  -- the factors from the start without d's
  abbrev but_from : ℕ → World → ℤ
  but_from v w = cond (eqb v d) (pos 1) (table_from nodes started q r v w)

  -- chance can reach the start
  start_positive : pos 0 <ℤ product_over start_table order
  start_positive = products_positive start_table order (λ v. go v (started v) refl)
    where
      go : (v : ℕ) (b : Bool) → started v ≡ b → pos 0 <ℤ cond b (table nodes r0 v q) (pos 1)
      go v true e = positive v e
      go v false e = omega (arith, ints)

  -- in a world that extends the start its nodes have its factors
  table_at_start : (w : World) → Extends w → (v : ℕ) → started v ≡ true → table nodes r0 v w ≡ table nodes r0 v q
  table_at_start w h v e = ap (table_by (node_at nodes v).kind (node_at nodes v).cells (weights_of r0 v))
      (λ i. agree_rows (states_of nodes) w q (node_at nodes v).parents 0 (λ u m. h u (closed_up u v m e)) i * states_of nodes v + h v e i)

  -- each factor is one of the start times one after it
  factor : (w : World) → Extends w → (v : ℕ) → cond (eqb v d) (pos 1) (table nodes r0 v w) ≡ start_table v *ℤ but_from v w
  factor w h v = go (ℕ_discrete v d) (started v) refl
    where
      go : Dec (v ≡ d) → (b : Bool) → started v ≡ b → cond (eqb v d) (pos 1) (table nodes r0 v w) ≡ start_table v *ℤ but_from v w
      go (yes k) b e =
          ap (λ c. cond c (pos 1) (table nodes r0 v w)) (eqb_yes v d k)
          ∙ sym (λ i. cond ((ap started k ∙ d_later) i) (table nodes r0 v q) (pos 1) *ℤ cond (eqb_yes v d k i) (pos 1) (table_from nodes started q r v w))
      go (no n) true e =
          ap (λ c. cond c (pos 1) (table nodes r0 v w)) (eqb_no v d n)
          ∙ table_at_start w h v e
          ∙ sym (mul_one (table nodes r0 v q))
          ∙ sym ((λ i. cond (e i) (table nodes r0 v q) (pos 1) *ℤ cond (eqb_no v d n i) (pos 1) (cond (e i) (one_if (eqb (w v) (q v))) (table nodes r v w))) ∙ ap (λ c. table nodes r0 v q *ℤ one_if c) (eqb_yes (w v) (q v) (h v e)))
      go (no n) false e =
          ap (λ c. cond c (pos 1) (table nodes r0 v w)) (eqb_no v d n)
          ∙ ap (λ ws. table_by (node_at nodes v).kind (node_at nodes v).cells ws (cell_of nodes v w)) (else_same v e)
          ∙ sym (one_mul (table nodes r v w))
          ∙ sym (λ i. cond (e i) (table nodes r0 v q) (pos 1) *ℤ cond (eqb_no v d n i) (pos 1) (cond (e i) (one_if (eqb (w v) (q v))) (table nodes r v w)))

  -- so the weight is that of the start times what follows
  without_is : (w : World) → Extends w → weight_without nodes r0 d w ≡ product_over start_table order *ℤ product_over (λ v. but_from v w) order
  without_is w h =
      product_over-shuffled (λ v. cond (eqb v d) (pos 1) (table nodes r0 v w)) setup.shuffled
      ∙ ap (λ f. product_over f order) (fun_ext (factor w h))
      ∙ product_over-times start_table (λ v. but_from v w) order

  -- what d's state s at the row is worth from the start
  abbrev worth : (World → ℤ) → ℕ → ℕ → ℤ
  worth f row s = sum_over (states_of nodes) order (λ x. one_if (is_at nodes d s row x) *ℤ (f x *ℤ product_over (λ v. but_from v x) order)) (λ v. 0)

  -- the world of first states
  zero_in : InRange (states_of nodes) (λ v. 0)
  zero_in = record { state = setup.has_state }

  -- the row of a test that holds
  true_parts : (a b c e : ℕ) → (eqb a b && eqb c e) ≡ true → c ≡ e
  true_parts a b c e h = grind (arith, nat_tests)

  -- a row whose worlds extend the start
  gain_is : (row s : ℕ) → ((w : World) → InRange (states_of nodes) w → row_of nodes d w ≡ row → Extends w)
      → gain_at nodes r0 d s row ≡ product_over start_table order *ℤ worth (utility_below nodes d) row s
  gain_is row s ext =
      sum_over-shuffled (states_of nodes) (λ w. cond (is_at nodes d s row w) (weight_without nodes r0 d w *ℤ utility_below nodes d w) (pos 0)) setup.shuffled (λ v. 0)
      ∙ sum_over_cong (states_of nodes) order (λ w. cond (is_at nodes d s row w) (weight_without nodes r0 d w *ℤ utility_below nodes d w) (pos 0))
      (λ w. product_over start_table order *ℤ (one_if (is_at nodes d s row w) *ℤ (utility_below nodes d w *ℤ product_over (λ v. but_from v w) order)))
      (λ w i. go w i (is_at nodes d s row w) refl) (λ v. 0) zero_in
      ∙ sum_over_mul (states_of nodes) order (product_over start_table order) (λ x. one_if (is_at nodes d s row x) *ℤ (utility_below nodes d x *ℤ product_over (λ v. but_from v x) order)) (λ v. 0)
    where
      regroup : (c p u : ℤ) → (c *ℤ p) *ℤ u ≡ c *ℤ (pos 1 *ℤ (u *ℤ p))
      regroup c p u = ap (λ x. x) (mul_assoc c p u ∙ ap (λ x. c *ℤ x) (mul_comm p u ∙ sym (one_mul (u *ℤ p))))

      nothing : (c x : ℤ) → pos 0 ≡ c *ℤ (pos 0 *ℤ x)
      nothing c x = sym (ap (λ y. c *ℤ y) (zero_mul x) ∙ mul_zero c)

      go : (w : World) → InRange (states_of nodes) w → (c : Bool) → is_at nodes d s row w ≡ c
          → cond (is_at nodes d s row w) (weight_without nodes r0 d w *ℤ utility_below nodes d w) (pos 0) ≡ product_over start_table order *ℤ (one_if (is_at nodes d s row w) *ℤ (utility_below nodes d w *ℤ product_over (λ v. but_from v w) order))
      go w i true e =
          ap (λ c. cond c (weight_without nodes r0 d w *ℤ utility_below nodes d w) (pos 0)) e
          ∙ ap (λ x. x *ℤ utility_below nodes d w) (without_is w (ext w i (true_parts (w d) s (row_of nodes d w) row e)))
          ∙ regroup (product_over start_table order) (product_over (λ v. but_from v w) order) (utility_below nodes d w)
          ∙ sym (ap (λ c. product_over start_table order *ℤ (one_if c *ℤ (utility_below nodes d w *ℤ product_over (λ v. but_from v w) order))) e)
      go w i false e =
          ap (λ c. cond c (weight_without nodes r0 d w *ℤ utility_below nodes d w) (pos 0)) e
          ∙ nothing (product_over start_table order) (utility_below nodes d w *ℤ product_over (λ v. but_from v w) order)
          ∙ sym (ap (λ c. product_over start_table order *ℤ (one_if c *ℤ (utility_below nodes d w *ℤ product_over (λ v. but_from v w) order))) e)

  -- a row none of whose worlds extends the start
  worth_none : (f : World → ℤ) (row s : ℕ) → ((w : World) → InRange (states_of nodes) w → row_of nodes d w ≡ row → ¬ (Extends w)) → worth f row s ≡ pos 0
  worth_none f row s ext =
      sum_over_cong (states_of nodes) order (λ x. one_if (is_at nodes d s row x) *ℤ (f x *ℤ product_over (λ v. but_from v x) order)) (λ x. pos 0) (λ x i. go x i (is_at nodes d s row x) refl) (λ v. 0) zero_in
      ∙ sum_over_zero (states_of nodes) order (λ v. 0)
    where
      off : (x : World) → ¬ (Extends x) → product_over (λ v. but_from v x) order ≡ pos 0
      off x n = by_contradiction (product_over (λ v. but_from v x) order) (pos 0) (λ k. n (λ v e. same x k v e (ℕ_discrete (x v) (q v))))
        where
          not_d : (v : ℕ) → started v ≡ true → v ≢ d
          not_d v e f = let g : true ≡ false = sym e ∙ ap started f ∙ d_later in cc

          same : (x : World) → ¬ (product_over (λ v. but_from v x) order ≡ pos 0) → (v : ℕ) → started v ≡ true → Dec (x v ≡ q v) → x v ≡ q v
          same x k v e (yes f) = f
          same x k v e (no m) = absurd (k (product_zero_at (λ v. but_from v x) v order (setup.all v (started_inside v e))
              ((λ i. cond (eqb_no v d (not_d v e) i) (pos 1) (cond (e i) (one_if (eqb (x v) (q v))) (table nodes r v x))) ∙ ap one_if (eqb_no (x v) (q v) m))))

      go : (x : World) → InRange (states_of nodes) x → (c : Bool) → is_at nodes d s row x ≡ c → one_if (is_at nodes d s row x) *ℤ (f x *ℤ product_over (λ v. but_from v x) order) ≡ pos 0
      go x i true e = ap (λ y. one_if (is_at nodes d s row x) *ℤ (f x *ℤ y)) (off x (ext x i (true_parts (x d) s (row_of nodes d x) row e))) ∙ ap (λ y. one_if (is_at nodes d s row x) *ℤ y) (mul_zero (f x)) ∙ mul_zero (one_if (is_at nodes d s row x))
      go x i false e = ap (λ c. one_if c *ℤ (f x *ℤ product_over (λ v. but_from v x) order)) e ∙ zero_mul (f x *ℤ product_over (λ v. but_from v x) order)

  -- best against the base is best from the start
  pub worth_best : (closed : (w x : World) → InRange (states_of nodes) w → InRange (states_of nodes) x → ((u : ℕ) → IsParent nodes u d → w u ≡ x u) → Extends w → Extends x)
      → (row s c : ℕ) → row < rows_under (states_of nodes) (node_at nodes d).parents → gain_at nodes r0 d s row ≤ℤ gain_at nodes r0 d c row
      → worth (utility_below nodes d) row s ≤ℤ worth (utility_below nodes d) row c
  worth_best closed row s c l best = le_stable (worth (utility_below nodes d) row s) (worth (utility_below nodes d) row c) (λ n. not_not_dec (Extends rep.0) (λ e. n (go e)))
    where
      rep : (q : World) × InRange (states_of nodes) q × ((v : ℕ) → ¬ (Among v (node_at nodes d).parents) → 0 ≡ q v) × ((k : ℕ) → row_from (states_of nodes) q k (node_at nodes d).parents ≡ k * rows_under (states_of nodes) (node_at nodes d).parents + row)
      rep = world_at_row (states_of nodes) setup.has_state (node_at nodes d).parents (setup.parents_apart d) row l

      rep_row : row_of nodes d rep.0 ≡ row
      rep_row = rep.3 0 ∙ omega arith

      alike : (w : World) → InRange (states_of nodes) w → row_of nodes d w ≡ row → (u : ℕ) → IsParent nodes u d → w u ≡ rep.0 u
      alike w i e u m = (rows_agree (states_of nodes) w rep.0 i rep.1 (node_at nodes d).parents 0 0 (e ∙ sym rep_row)).1 u m

      go : Dec (Extends rep.0) → worth (utility_below nodes d) row s ≤ℤ worth (utility_below nodes d) row c
      go (yes x) =
          let ext : (w : World) → InRange (states_of nodes) w → row_of nodes d w ≡ row → Extends w = (λ w i e. closed rep.0 w rep.1 i (λ u m. sym (alike w i e u m)) x) in
          cancel_le (worth (utility_below nodes d) row s) (worth (utility_below nodes d) row c) (product_over start_table order) start_positive
          (subst (λ y. y ≤ℤ (worth (utility_below nodes d) row c *ℤ product_over start_table order)) (gain_is row s ext ∙ mul_comm (product_over start_table order) (worth (utility_below nodes d) row s))
          (subst (λ y. gain_at nodes r0 d s row ≤ℤ y) (gain_is row c ext ∙ mul_comm (product_over start_table order) (worth (utility_below nodes d) row c)) best))
      go (no n) =
          let ext : (w : World) → InRange (states_of nodes) w → row_of nodes d w ≡ row → ¬ (Extends w) = (λ w i e x. n (closed w rep.0 i rep.1 (alike w i e) x)) in
          let a : worth (utility_below nodes d) row s ≡ pos 0 = worth_none (utility_below nodes d) row s ext in
          let b : worth (utility_below nodes d) row c ≡ pos 0 = worth_none (utility_below nodes d) row c ext in
          omega (arith, ints)
