-- One rule is put back: the gain from a start does not fall.
use Rattle.std.proofs.Common.{◌≡◌, ◌≢◌, ◌∙◌, ℕ, zero, suc, ◌+◌, ◌*◌, ◌<◌, Bool, true, false, cond, not, eqb, filter, List, slice_index, refl, sym, ap, subst, inl, ℤ, pos, ◌+ℤ◌, ◌-ℤ◌, ◌*ℤ◌, ◌≤ℤ◌, arith}
use Rattle.std.proofs.lemmas.Int.{ints}
use Rattle.std.proofs.Math.Path.{fun_ext}
use Rattle.std.proofs.Math.Decide.{ℕ_discrete}
use Rattle.maid_model.specs.declared.diagrams.Kind.TheVariants.{Decision}
use Rattle.finite_sums.specs.Members.{Among}
use Rattle.finite_sums.specs.Looks.{Ignores, HasTotal}
use Rattle.maid_model.specs.Gains.{is_at}
use Rattle.maid_model.specs.Nodes.{node_at, states_of, rows_under}
use Rattle.finite_sums.specs.Sums.{World, with_state, sum_below, sum_over, product_over, InRange}
use Rattle.maid_model.specs.Tables.{row_of, cell_of, table, table_by, weights_of}
use Rattle.maid_model.specs.Views.{NodeView, RuleView}
use Rattle.finite_sums.proofs.Ints.{mul_comm, mul_one, mul_add, add_mul, products}
use Rattle.finite_sums.proofs.Sums.{sum_below_cong, sum_below_mul, sum_over_cong, sum_over_mul, with_same, with_other}
use Rattle.maid_model.proofs.Tables.{row_of-below, table_ignores, table-total}
use Rattle.maid_model.proofs.Adding.{product_not_negative}
use Rattle.finite_sums.proofs.Lists.{avoids, among_filter}
use Rattle.maid_laws.proofs.Booleans.{eqb_yes, eqb_no}
use Rattle.maid_laws.proofs.Basis.{Setup, Tells, Totals, among_filter_in, product_over-cong, table_same, LooksAtParents}
use Rattle.maid_laws.proofs.Collapse.{one_if, sum_below_at}
use Rattle.maid_laws.proofs.Rearranged.{apart_filter}
use Rattle.maid_laws.proofs.Summed.{FromD, summed_out, product_changed, sum_over_below, picked}

-- the tables from a start: where the start has the node, 1 at the start's state and else 0
abbrev pub table_from : List NodeView → (ℕ → Bool) → World → List RuleView → ℕ → World → ℤ
table_from nodes started q p v w = cond (started v) (one_if (eqb (w v) (q v))) (table nodes p v w)

-- their totals: 1 in the start
abbrev pub total_from : (ℕ → Bool) → (ℕ → ℤ) → ℕ → ℤ
total_from started total v = cond (started v) (pos 1) (total v)

-- the sum, over the worlds that extend the start, of the weights of the nodes after it times f
abbrev pub gain_from : List NodeView → List ℕ → (ℕ → Bool) → World → List RuleView → (World → ℤ) → ℤ
gain_from nodes order started q p f = sum_over (states_of nodes) order (λ x. f x *ℤ product_over (λ v. table_from nodes started q p v x) order) (λ v. 0)

-- ---- sums weighed
pub times_le : (a x y : ℤ) → pos 0 ≤ℤ a → x ≤ℤ y → (a *ℤ x) ≤ℤ (a *ℤ y)
times_le a x y h k =
    let c : pos 0 ≤ℤ (y -ℤ x) = omega (arith, ints) in
    let p : pos 0 ≤ℤ (a *ℤ (y -ℤ x)) = product_not_negative a (y -ℤ x) h c in
    let e : a *ℤ y ≡ (a *ℤ x) +ℤ (a *ℤ (y -ℤ x)) = ap (λ z. a *ℤ z) (parts x y) ∙ mul_add a x (y -ℤ x) in
    omega (arith, ints)
  where
    parts : (x y : ℤ) → y ≡ x +ℤ (y -ℤ x)
    parts x y = omega (arith, ints)

-- a factor of all terms
spread : (n : ℕ) (a b : ℕ → ℤ) (f m : ℤ) → f *ℤ (sum_below n (λ s. a s *ℤ b s) *ℤ m) ≡ sum_below n (λ s. b s *ℤ (a s *ℤ (f *ℤ m)))
spread n a b f m =
    regroup f (sum_below n (λ s. a s *ℤ b s)) m ∙ sym (sum_below_mul n (f *ℤ m) (λ s. a s *ℤ b s))
    ∙ sum_below_cong n (λ s. (f *ℤ m) *ℤ (a s *ℤ b s)) (λ s. b s *ℤ (a s *ℤ (f *ℤ m))) (λ s l. move (f *ℤ m) (a s) (b s))
  where
    regroup : (f x m : ℤ) → f *ℤ (x *ℤ m) ≡ (f *ℤ m) *ℤ x
    regroup f x m = simp products

    move : (k a b : ℤ) → k *ℤ (a *ℤ b) ≡ b *ℤ (a *ℤ k)
    move k a b = simp products

-- the same by rows
spread_rows : (rows : ℕ) (g : ℕ → ℤ) (f m : ℤ) → f *ℤ (sum_below rows g *ℤ m) ≡ sum_below rows (λ r. f *ℤ (g r *ℤ m))
spread_rows rows g f m =
    regroup f (sum_below rows g) m ∙ sym (sum_below_mul rows (f *ℤ m) g) ∙ sum_below_cong rows (λ r. (f *ℤ m) *ℤ g r) (λ r. f *ℤ (g r *ℤ m)) (λ r l. sym (regroup f (g r) m))
  where
    regroup : (f x m : ℤ) → f *ℤ (x *ℤ m) ≡ (f *ℤ m) *ℤ x
    regroup f x m = simp products

-- a weighed sum is at most the total weight times the best
weighed_le : (n : ℕ) (a h : ℕ → ℤ) (m : ℤ) → ((i : ℕ) → i < n → pos 0 ≤ℤ a i) → ((i : ℕ) → i < n → h i ≤ℤ m) → sum_below n (λ i. a i *ℤ h i) ≤ℤ (sum_below n a *ℤ m)
weighed_le zero a h m ha hh = omega (arith, ints)
weighed_le (suc n) a h m ha hh =
    let r : sum_below n (λ i. a i *ℤ h i) ≤ℤ (sum_below n a *ℤ m) = weighed_le n a h m (λ i l. ha i (omega arith)) (λ i l. hh i (omega arith)) in
    let s : (a n *ℤ h n) ≤ℤ (a n *ℤ m) = times_le (a n) (h n) m (ha n (omega arith)) (hh n (omega arith)) in
    let e : (sum_below n a +ℤ a n) *ℤ m ≡ (sum_below n a *ℤ m) +ℤ (a n *ℤ m) = add_mul m (sum_below n a) (a n) in
    omega (arith, ints)

-- term by term
pub sum_le : (n : ℕ) (f g : ℕ → ℤ) → ((i : ℕ) → i < n → f i ≤ℤ g i) → sum_below n f ≤ℤ sum_below n g
sum_le zero f g h = omega (arith, ints)
sum_le (suc n) f g h = let r : sum_below n f ≤ℤ sum_below n g = sum_le n f g (λ i l. h i (omega arith)) in let s : f n ≤ℤ g n = h n (omega arith) in omega (arith, ints)

module _ (nodes : List NodeView) (order : List ℕ) (setup : Setup nodes order) (started : ℕ → Bool) (q : World) (iq : InRange (states_of nodes) q) where
  -- the world of first states
  zero_in : InRange (states_of nodes) (λ v. 0)
  zero_in = record { state = setup.has_state }

  -- such factors look at their parents alone
  pub from_looks : (p : List RuleView) → LooksAtParents nodes (table_from nodes started q p)
  from_looks p = record {
    others = λ v u n a. record {
      same = λ w i s l.
          (λ z. cond (started v) (one_if (eqb (with_other w u s v n z) (q v))) ((table_ignores nodes p v u n (avoids u (node_at nodes v).parents a)).same w i s l z));
    };
  }

  -- and have totals
  pub from_total : (p : List RuleView) (total : ℕ → ℤ) → Totals nodes p total → (v : ℕ) → Among v order → HasTotal (states_of nodes) (table_from nodes started q p) (total_from started total) v
  from_total p total t v m = record { sums = λ w i. go (started v) w i }
    where
      one : (w : World) → InRange (states_of nodes) w → sum_below (states_of nodes v) (λ s. one_if (eqb (with_state w v s v) (q v))) ≡ pos 1
      one w i =
          sum_below_cong (states_of nodes v) (λ s. one_if (eqb (with_state w v s v) (q v))) (λ s. one_if (eqb s (q v)) *ℤ pos 1) (λ s l. ap (λ x. one_if (eqb x (q v))) (with_same w v s) ∙ sym (mul_one (one_if (eqb s (q v)))))
          ∙ sum_below_at (states_of nodes v) (q v) (λ s. pos 1) (iq.state v)

      go : (b : Bool) (w : World) → InRange (states_of nodes) w → sum_below (states_of nodes v) (λ s. cond b (one_if (eqb (with_state w v s v) (q v))) (table nodes p v (with_state w v s))) ≡ cond b (pos 1) (total v)
      go true w i = one w i
      go false w i = (table-total nodes p total v (avoids v (node_at nodes v).parents (setup.not_own_parent v)) (t.at v (setup.inside v m))).sums w i

  module _ (d : ℕ) (d_in : Among d order) (d_kind : (node_at nodes d).kind ≡ Decision) (d_later : started d ≡ false) (r t : List RuleView) (total_r total_t : ℕ → ℤ) (hr : Totals nodes r total_r) (ht : Totals nodes t total_t)
      (else_same : (v : ℕ) → v ≢ d → weights_of r v ≡ weights_of t v) (else_total : (v : ℕ) → v ≢ d → total_r v ≡ total_t v) where
    table_else : (v : ℕ) → v ≢ d → (w : World) → table_from nodes started q r v w ≡ table_from nodes started q t v w
    table_else v n w = ap (cond (started v) (one_if (eqb (w v) (q v)))) (table_same (node_at nodes v).kind (node_at nodes v).cells (weights_of r v) (weights_of t v) (cell_of nodes v w) (λ k. else_same v n))

    -- what does not lie below d does not see d's rule
    pub rest_same : (keep : ℕ → Bool) → Tells keep (λ v. ¬ (FromD nodes d v)) order → (f : World → ℤ) → ((u : ℕ) → ¬ ¬ (FromD nodes d u) → Ignores (states_of nodes) f u)
        → gain_from nodes order started q r f *ℤ total_t d ≡ gain_from nodes order started q t f *ℤ total_r d
    rest_same keep tells f hf =
        (λ i. summed_out nodes order setup d keep tells (table_from nodes started q r) (total_from started total_r) f (from_looks r) (from_total r total_r hr) hf (λ v. 0) zero_in i *ℤ at_d total_t i)
        ∙ swap (product_over (total_from started total_r) outs) (kept_sum r) (total_from started total_t d)
        ∙ (λ i. product_changed (total_from started total_r) (total_from started total_t) d outs (λ v n. ap (cond (started v) (pos 1)) (else_total v n)) (apart_filter (λ v. not (keep v)) order setup.apart) d_out i *ℤ kept_same i)
        ∙ sym (swap (product_over (total_from started total_t) outs) (kept_sum t) (total_from started total_r d))
        ∙ sym (λ i. summed_out nodes order setup d keep tells (table_from nodes started q t) (total_from started total_t) f (from_looks t) (from_total t total_t ht) hf (λ v. 0) zero_in i *ℤ at_d total_r i)
      where
        outs : List ℕ
        outs = filter (λ v. not (keep v)) order

        kept_sum : List RuleView → ℤ
        kept_sum p = sum_over (states_of nodes) (filter keep order) (λ x. f x *ℤ product_over (λ v. table_from nodes started q p v x) (filter keep order)) (λ v. 0)

        at_d : (total : ℕ → ℤ) → total d ≡ total_from started total d
        at_d total = sym (ap (λ b. cond b (pos 1) (total d)) d_later)

        swap : (x y z : ℤ) → (x *ℤ y) *ℤ z ≡ (x *ℤ z) *ℤ y
        swap x y z = simp products

        not_kept : (b : Bool) → keep d ≡ b → not b ≡ true
        not_kept true e = absurd (tells.yes d d_in e (inl refl))
        not_kept false e = refl

        d_out : Among d outs
        d_out = among_filter_in (λ v. not (keep v)) d order d_in (not_kept (keep d) refl)

        kept_same : kept_sum r ≡ kept_sum t
        kept_same = ap (λ g. sum_over (states_of nodes) (filter keep order) g (λ v. 0)) (fun_ext (λ x. ap (λ y. f x *ℤ y) (product_over-cong (λ v. table_from nodes started q r v x) (λ v. table_from nodes started q t v x) (filter keep order)
            (λ v m. table_else v (λ e. tells.yes v (among_filter keep v order m).0 (among_filter keep v order m).1 (inl e)) x))))

    -- the tables without d's own
    abbrev pub but_from : List RuleView → ℕ → World → ℤ
    but_from p v w = cond (eqb v d) (pos 1) (table_from nodes started q p v w)

    -- what d's state s at row r is worth
    abbrev pub worth : List RuleView → (World → ℤ) → ℕ → ℕ → ℤ
    worth p f row s = sum_over (states_of nodes) order (λ x. one_if (is_at nodes d s row x) *ℤ (f x *ℤ product_over (λ v. but_from p v x) order)) (λ v. 0)

    pull : (p : List RuleView) (w : World) → product_over (λ v. table_from nodes started q p v w) order ≡ table_from nodes started q p d w *ℤ product_over (λ v. but_from p v w) order
    pull p w =
        sym (mul_one (product_over (λ v. table_from nodes started q p v w) order))
        ∙ ap (λ x. product_over (λ v. table_from nodes started q p v w) order *ℤ x) (sym (ap (λ b. cond b (pos 1) (table_from nodes started q p d w)) (eqb_yes d d refl)))
        ∙ product_changed (λ v. table_from nodes started q p v w) (λ v. but_from p v w) d order (λ v n. sym (ap (λ b. cond b (pos 1) (table_from nodes started q p v w)) (eqb_no v d n))) setup.apart d_in
        ∙ mul_comm (product_over (λ v. but_from p v w) order) (table_from nodes started q p d w)

    own_table : (p : List RuleView) (w : World) → table_from nodes started q p d w ≡ pos (slice_index (weights_of p d) (row_of nodes d w * states_of nodes d + w d))
    own_table p w = ap (λ b. cond b (one_if (eqb (w d) (q d))) (table nodes p d w)) d_later ∙ ap (λ k. table_by k (node_at nodes d).cells (weights_of p d) (cell_of nodes d w)) d_kind

    abbrev rows : ℕ
    rows = rows_under (states_of nodes) (node_at nodes d).parents

    -- the gain by row and state
    pub by_rows : (p : List RuleView) (f : World → ℤ) → gain_from nodes order started q p f
        ≡ sum_below (rows_under (states_of nodes) (node_at nodes d).parents) (λ row. sum_below (states_of nodes d) (λ s. pos (slice_index (weights_of p d) (row * states_of nodes d + s)) *ℤ worth p f row s))
    by_rows p f =
        sum_over_cong (states_of nodes) order (λ x. f x *ℤ product_over (λ v. table_from nodes started q p v x) order)
        (λ x. sum_below (rows_under (states_of nodes) (node_at nodes d).parents) (λ row. sum_below (states_of nodes d) (λ s. pos (slice_index (weights_of p d) (row * states_of nodes d + s)) *ℤ (one_if (is_at nodes d s row x) *ℤ (f x *ℤ product_over (λ v. but_from p v x) order)))))
        (λ x i. ap (λ y. f x *ℤ y) (pull p x ∙ ap (λ y. y *ℤ product_over (λ v. but_from p v x) order) (own_table p x ∙ sym (picked nodes d (λ c. pos (slice_index (weights_of p d) c)) x i (rows_under (states_of nodes) (node_at nodes d).parents) (row_of-below nodes d x i))))
        ∙ inside x)
        (λ v. 0) zero_in
        ∙ sum_over_below (states_of nodes) order (rows_under (states_of nodes) (node_at nodes d).parents) (λ row x. sum_below (states_of nodes d) (λ s. pos (slice_index (weights_of p d) (row * states_of nodes d + s)) *ℤ (one_if (is_at nodes d s row x) *ℤ (f x *ℤ product_over (λ v. but_from p v x) order)))) (λ v. 0)
        ∙ sum_below_cong (rows_under (states_of nodes) (node_at nodes d).parents)
        (λ row. sum_over (states_of nodes) order (λ x. sum_below (states_of nodes d) (λ s. pos (slice_index (weights_of p d) (row * states_of nodes d + s)) *ℤ (one_if (is_at nodes d s row x) *ℤ (f x *ℤ product_over (λ v. but_from p v x) order)))) (λ v. 0))
        (λ row. sum_below (states_of nodes d) (λ s. pos (slice_index (weights_of p d) (row * states_of nodes d + s)) *ℤ worth p f row s))
        (λ row l. sum_over_below (states_of nodes) order (states_of nodes d) (λ s x. pos (slice_index (weights_of p d) (row * states_of nodes d + s)) *ℤ (one_if (is_at nodes d s row x) *ℤ (f x *ℤ product_over (λ v. but_from p v x) order))) (λ v. 0)
        ∙ sum_below_cong (states_of nodes d) (λ s. sum_over (states_of nodes) order (λ x. pos (slice_index (weights_of p d) (row * states_of nodes d + s)) *ℤ (one_if (is_at nodes d s row x) *ℤ (f x *ℤ product_over (λ v. but_from p v x) order))) (λ v. 0)) (λ s. pos (slice_index (weights_of p d) (row * states_of nodes d + s)) *ℤ worth p f row s)
        (λ s k. sum_over_mul (states_of nodes) order (pos (slice_index (weights_of p d) (row * states_of nodes d + s))) (λ x. one_if (is_at nodes d s row x) *ℤ (f x *ℤ product_over (λ v. but_from p v x) order)) (λ v. 0)))
      where
        move : (f a b m : ℤ) → (a *ℤ b) *ℤ (f *ℤ m) ≡ b *ℤ (a *ℤ (f *ℤ m))
        move f a b m = simp products

        inside : (x : World) → f x *ℤ (sum_below (rows_under (states_of nodes) (node_at nodes d).parents) (λ row. sum_below (states_of nodes d) (λ s. one_if (is_at nodes d s row x) *ℤ pos (slice_index (weights_of p d) (row * states_of nodes d + s)))) *ℤ product_over (λ v. but_from p v x) order)
            ≡ sum_below (rows_under (states_of nodes) (node_at nodes d).parents) (λ row. sum_below (states_of nodes d) (λ s. pos (slice_index (weights_of p d) (row * states_of nodes d + s)) *ℤ (one_if (is_at nodes d s row x) *ℤ (f x *ℤ product_over (λ v. but_from p v x) order))))
        inside x =
            spread_rows (rows_under (states_of nodes) (node_at nodes d).parents) (λ row. sum_below (states_of nodes d) (λ s. one_if (is_at nodes d s row x) *ℤ pos (slice_index (weights_of p d) (row * states_of nodes d + s)))) (f x) (product_over (λ v. but_from p v x) order)
            ∙ sum_below_cong (rows_under (states_of nodes) (node_at nodes d).parents)
            (λ row. f x *ℤ (sum_below (states_of nodes d) (λ s. one_if (is_at nodes d s row x) *ℤ pos (slice_index (weights_of p d) (row * states_of nodes d + s))) *ℤ product_over (λ v. but_from p v x) order))
            (λ row. sum_below (states_of nodes d) (λ s. pos (slice_index (weights_of p d) (row * states_of nodes d + s)) *ℤ (one_if (is_at nodes d s row x) *ℤ (f x *ℤ product_over (λ v. but_from p v x) order))))
            (λ row l. spread (states_of nodes d) (λ s. one_if (is_at nodes d s row x)) (λ s. pos (slice_index (weights_of p d) (row * states_of nodes d + s))) (f x) (product_over (λ v. but_from p v x) order))

    -- d's rule does not matter to what its states are worth
    worth_same : (f : World → ℤ) (row s : ℕ) → worth r f row s ≡ worth t f row s
    worth_same f row s = ap (λ g. sum_over (states_of nodes) order g (λ v. 0)) (fun_ext (λ x. ap (λ y. one_if (is_at nodes d s row x) *ℤ (f x *ℤ y))
        (product_over-cong (λ v. but_from r v x) (λ v. but_from t v x) order (λ v m. go x v (ℕ_discrete v d)))))
      where
        go : (x : World) (v : ℕ) → Dec (v ≡ d) → but_from r v x ≡ but_from t v x
        go x v (yes e) = ap (λ b. cond b (pos 1) (table_from nodes started q r v x)) (eqb_yes v d e) ∙ sym (ap (λ b. cond b (pos 1) (table_from nodes started q t v x)) (eqb_yes v d e))
        go x v (no n) = ap (cond (eqb v d) (pos 1)) (table_else v n x)

    -- where each row of t's rule is a best state, and r's rows sum to total
    pub best_gain : (f : World → ℤ) (total : ℤ) (choice : ℕ → ℕ)
        → ((row : ℕ) → row < rows_under (states_of nodes) (node_at nodes d).parents → sum_below (states_of nodes d) (λ s. pos (slice_index (weights_of r d) (row * states_of nodes d + s))) ≡ total)
        → ((row : ℕ) → row < rows_under (states_of nodes) (node_at nodes d).parents → choice row < states_of nodes d)
        → ((row s : ℕ) → row < rows_under (states_of nodes) (node_at nodes d).parents → s < states_of nodes d → pos (slice_index (weights_of t d) (row * states_of nodes d + s)) ≡ one_if (eqb s (choice row)))
        → ((row s : ℕ) → row < rows_under (states_of nodes) (node_at nodes d).parents → s < states_of nodes d → worth r f row s ≤ℤ worth r f row (choice row))
        → gain_from nodes order started q r f ≤ℤ (total *ℤ gain_from nodes order started q t f)
    best_gain f total choice sums inside pure best =
        subst (λ x. x ≤ℤ (total *ℤ gain_from nodes order started q t f)) (sym (by_rows r f))
        (subst (λ x. sum_below rows (λ row. sum_below (states_of nodes d) (λ s. pos (slice_index (weights_of r d) (row * states_of nodes d + s)) *ℤ worth r f row s)) ≤ℤ x) (sum_below_mul rows total (λ row. worth r f row (choice row)) ∙ ap (λ x. total *ℤ x) (sym pure_gain))
        (sum_le rows (λ row. sum_below (states_of nodes d) (λ s. pos (slice_index (weights_of r d) (row * states_of nodes d + s)) *ℤ worth r f row s)) (λ row. total *ℤ worth r f row (choice row))
        (λ row l. subst (λ x. sum_below (states_of nodes d) (λ s. pos (slice_index (weights_of r d) (row * states_of nodes d + s)) *ℤ worth r f row s) ≤ℤ (x *ℤ worth r f row (choice row))) (sums row l)
        (weighed_le (states_of nodes d) (λ s. pos (slice_index (weights_of r d) (row * states_of nodes d + s))) (λ s. worth r f row s) (worth r f row (choice row)) (λ s k. omega (arith, ints)) (λ s k. best row s l k)))))
      where
        pure_gain : gain_from nodes order started q t f ≡ sum_below (rows_under (states_of nodes) (node_at nodes d).parents) (λ row. worth r f row (choice row))
        pure_gain = by_rows t f ∙ sum_below_cong (rows_under (states_of nodes) (node_at nodes d).parents)
            (λ row. sum_below (states_of nodes d) (λ s. pos (slice_index (weights_of t d) (row * states_of nodes d + s)) *ℤ worth t f row s)) (λ row. worth r f row (choice row))
            (λ row l. sum_below_cong (states_of nodes d) (λ s. pos (slice_index (weights_of t d) (row * states_of nodes d + s)) *ℤ worth t f row s) (λ s. one_if (eqb s (choice row)) *ℤ worth r f row s)
            (λ s k. λ i. pure row s l k i *ℤ sym (worth_same f row s) i)
            ∙ sum_below_at (states_of nodes d) (choice row) (λ s. worth r f row s) (inside row l))
