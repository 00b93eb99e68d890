-- A parent that a decision does not need: given the decision and its other parents, sums over
-- worlds are a factor that looks at the parent and not at the decision, times one that looks at the
-- decision and not at the parent.
use Rattle.std.proofs.Common.{◌≡◌, ◌≢◌, ◌⊎◌, ◌↔◌, ◌∙◌, ℕ, ◌<◌, Bool, true, false, cond, not, eqb, filter, List, [], ◌∷◌, length, refl, sym, ap, subst, inl, inr, ℤ, pos, ◌*ℤ◌, arith}
use Rattle.std.proofs.Math.Path.{fun_ext}
use Rattle.std.proofs.Math.Decide.{ℕ_discrete, dec_lt}
use Rattle.maid_model.specs.declared.diagrams.Kind.TheVariants.{Decision, Utility}
use Rattle.maid_model.specs.Gains.{weight_without, sum_worlds, is_at, gain_at, mass_at}
use Rattle.maid_model.specs.Graph.{Arc, IsGraph}
use Rattle.maid_model.specs.Nodes.{IsDecision, node_at, states_of, numbers_of}
use Rattle.maid_model.specs.Relevance.{IsLive, IsGoal, IsInFamilyBut, IsRequisite}
use Rattle.finite_sums.specs.Sums.{World, InRange, with_state, sum_over, product_over}
use Rattle.maid_model.specs.Tables.{row_of, weight_total}
use Rattle.maid_model.specs.Views.{NodeView, RuleView}
use Rattle.finite_sums.specs.Members.{Among}
use Rattle.finite_sums.specs.Looks.{Ignores, EachIgnoresAll, HasTotal}
use Rattle.maid_model.proofs.Setting.{HasTables}
use Rattle.finite_sums.proofs.Ints.{mul_one, one_mul, zero_mul, mul_zero, products}
use Rattle.finite_sums.proofs.Lists.{avoids, decide_among, each_ignored, product_over-shuffled, sum_over-shuffled}
use Rattle.finite_sums.proofs.Sums.{sum_below_cong, sum_over_cong, sum_over_ignores, with_same, with_other, with_in, with_own, Ignores-mul}
use Rattle.finite_sums.specs.Members.{Avoids}
use Rattle.maid_model.proofs.Tables.{table-total}
use Rattle.finite_sums.proofs.Totals.{Ignores-product}
use Rattle.arc_laws.specs.Requisite.{NoWalkPastUnneeded, UnneededParent}
use Rattle.maid_laws.proofs.Basis.{Setup, Totals, Tells, LooksAtParents, product_over-cong}
use Rattle.maid_laws.proofs.Best.{product_over-times}
use Rattle.maid_laws.proofs.Booleans.{eqb_yes, eqb_no}
use Rattle.maid_laws.proofs.Collapse.{one_if, one_if-cond, agree, Apart, rows_agree, agree_rows}
use Rattle.maid_laws.proofs.Decided.{tests, by_contradiction}
use Rattle.maid_laws.proofs.Grouped.{cross}
use Rattle.maid_laws.proofs.Leads.{Leads, ends, head_down, head_up, tail_down, tail_up, more_arcs, separated, Reaches, at_given, onward, Below, child, below_leads}
use Rattle.maid_laws.proofs.Members.{arc_of, parent_of, not_among}
use Rattle.maid_laws.proofs.Notions.{IsParent, OrderedGraph}
use Rattle.maid_laws.proofs.OneUtility.{table_but, but_looks, but_ignores, but_total, agree_cases, both_true, both_false}
use Rattle.maid_laws.proofs.Ordered.{setup_of, totals_of}
use Rattle.maid_laws.proofs.Orders.{ordered}
use Rattle.maid_laws.proofs.Proportions.{gains_by_goals, cell_in, cell_ignores}
use Rattle.maid_laws.proofs.Ranks.{none_given, one_way, past_end}
use Rattle.maid_laws.proofs.Rearranged.{number, apart_filter}
use Rattle.maid_laws.proofs.Relies.{no_utility_child, steps_of_walk}
use Rattle.maid_laws.proofs.RowLaws.{gain_past}
use Rattle.maid_laws.proofs.SeparationLaws.{sum_from}
use Rattle.maid_laws.proofs.Summed.{product_changed}
use Rattle.maid_laws.proofs.Tied.{tables_of}
use Rattle.maid_laws.proofs.TwoSums.{live_in_F, in_F, in_K, in_O, in_T1, in_T2, sum_separated}
use Rattle.maid_laws.proofs.Walks.{goes_on}

-- ---- walks
module _ (Arc : ℕ → ℕ → Type 0) (Live : ℕ → Type 0) (goal d x : ℕ) (goal_not_d : goal ≢ d) where
  -- a walk does not stop at a node that it leaves by the tail of an arrow
  left_free : {z : ℕ} → Leads Arc Live (IsInFamilyBut Arc d x) goal false z → ¬ (IsInFamilyBut Arc d x z)
  left_free (tail_down n a l h) = n
  left_free (tail_up n a l h) = n

  -- a parent of d by which a walk leaves d is x
  only_x : (z : ℕ) → Arc z d → Leads Arc Live (IsInFamilyBut Arc d x) goal false z → Leads Arc Live (IsInFamilyBut Arc d x) goal false x
  only_x z a h = go (ℕ_discrete z x)
    where
      go : Dec (z ≡ x) → Leads Arc Live (IsInFamilyBut Arc d x) goal false x
      go (yes e) = subst (Leads Arc Live (IsInFamilyBut Arc d x) goal false) e h
      go (no n) = absurd (left_free h (inr (a, n)))

  -- a walk that enters d, which is given, goes back to a parent that is not: to x
  pub from_x : {v : ℕ} → Leads Arc Live (IsInFamilyBut Arc d x) goal true v → v ≡ d → Leads Arc Live (IsInFamilyBut Arc d x) goal false x
  from_x ends e = absurd (goal_not_d e)
  from_x (head_down n a l h) e = absurd (n (inl e))
  from_x (head_up {z = z} g a l h) e = only_x z (subst (λ y. Arc z y) e a) h

-- the given nodes, by arcs and by members
pub other_fixed : (nodes : List NodeView) (d x y : ℕ) → IsInFamilyBut (IsParent nodes) d x y ↔ IsInFamilyBut (Arc nodes) d x y
other_fixed nodes d x y = (there, back)
  where
    there : IsInFamilyBut (IsParent nodes) d x y → IsInFamilyBut (Arc nodes) d x y
    there (inl e) = inl e
    there (inr a) = inr (arc_of nodes y d a.0, a.1)

    back : IsInFamilyBut (Arc nodes) d x y → IsInFamilyBut (IsParent nodes) d x y
    back (inl e) = inl e
    back (inr a) = inr (parent_of nodes y d a.0, a.1)

-- no walk enters d where x is not requisite
module _ (nodes : List NodeView) (order : List ℕ) (setup : Setup nodes order) (d x : ℕ) (d_kind : (node_at nodes d).kind ≡ Decision) (x_live : IsLive nodes x) (unneeded : IsRequisite nodes d x → ⊥) where
  pub none_enters : (goal : ℕ) → IsGoal nodes d goal → ¬ (Leads (IsParent nodes) (IsLive nodes) (IsInFamilyBut (IsParent nodes) d x) goal true d)
  none_enters goal is_goal h =
      let w = goes_on (Arc nodes) (IsLive nodes) (IsInFamilyBut (Arc nodes) d x) goal (λ u v a b. one_way nodes order setup u v (parent_of nodes u v a) (parent_of nodes v u b))
      (more_arcs (IsParent nodes) (Arc nodes) (IsLive nodes) (IsLive nodes) (IsInFamilyBut (IsParent nodes) d x) (IsInFamilyBut (Arc nodes) d x) goal (arc_of nodes) (λ y l. l) (other_fixed nodes d x)
      (from_x (IsParent nodes) (IsLive nodes) goal d x not_d h refl)) x_live in
      unneeded (record { live = x_live; goal = goal; is_goal = is_goal; walk = record { rest = w.rest; active = w.active; ends = w.ends } })
    where
      kinds : Utility ≡ Decision → ⊥
      kinds e = cc

      not_d : goal ≢ d
      not_d e = kinds (sym is_goal.kind ∙ ap (λ v. (node_at nodes v).kind) e ∙ d_kind)

-- for every diagram
pub no_walk_law : NoWalkPastUnneeded
no_walk_law nodes d x goal g k a l n is_goal w =
    let o : OrderedGraph nodes = ordered nodes g in
    none_enters nodes o.order (setup_of nodes o) d x k.kind l n goal is_goal
    (steps_of_walk nodes o.order (setup_of nodes o) (IsInFamilyBut (IsParent nodes) d x) (IsInFamilyBut (Arc nodes) d x) (other_fixed nodes d x) goal d is_goal.within is_goal.kind k.within w)

-- ---- one factor at x
-- a product of which one factor alone is not 1
pub product_single : (f : ℕ → ℤ) (x : ℕ) (vs : List ℕ) → ((v : ℕ) → v ≢ x → f v ≡ pos 1) → Apart vs → Among x vs → product_over f vs ≡ f x
product_single f x vs h a m =
    sym (mul_one (product_over f vs)) ∙ product_changed f (λ v. pos 1) x vs h a m ∙ ap (λ y. y *ℤ f x) (ones vs) ∙ one_mul (f x)
  where
    ones : (vs : List ℕ) → product_over (λ v. pos 1) vs ≡ pos 1
    ones [] = refl
    ones (v ∷ vs) = ap (λ y. pos 1 *ℤ y) (ones vs)

-- ---- one goal
module _ (nodes : List NodeView) (order : List ℕ) (setup : Setup nodes order) (p : List RuleView) (total : ℕ → ℤ) (hp : Totals nodes p total)
    (d x goal : ℕ) (d_live : IsLive nodes d) (x_live : IsLive nodes x) (x_parent : IsParent nodes x d) (goal_live : IsLive nodes goal) (goal_kind : (node_at nodes goal).kind ≡ Utility)
    (none : ¬ (Leads (IsParent nodes) (IsLive nodes) (IsInFamilyBut (IsParent nodes) d x) goal true d))
    (keep given first : ℕ → Bool)
    (tells_keep : Tells keep (λ v. IsLive nodes v × Reaches (IsParent nodes) (IsLive nodes) (IsInFamilyBut (IsParent nodes) d x) goal v) order)
    (tells_given : Tells given (IsInFamilyBut (IsParent nodes) d x) order)
    (tells_first : Tells first (Leads (IsParent nodes) (IsLive nodes) (IsInFamilyBut (IsParent nodes) d x) goal true) (filter keep order)) where
  -- what is given: d and its parents other than x
  abbrev Fixed : ℕ → Type 0
  Fixed = IsInFamilyBut (IsParent nodes) d x

  -- the nodes that reach, and the others
  abbrev K : List ℕ
  K = filter keep order

  abbrev O : List ℕ
  O = filter (λ v. not (keep v)) order

  -- the given ones
  abbrev F : List ℕ
  F = filter given K

  -- the free ones with a walk, and without
  abbrev V1 : List ℕ
  V1 = filter first (filter (λ v. not (given v)) K)

  abbrev V2 : List ℕ
  V2 = filter (λ v. not (first v)) (filter (λ v. not (given v)) K)

  -- the tables with a walk, and without
  abbrev T1 : List ℕ
  T1 = filter first K

  abbrev T2 : List ℕ
  T2 = filter (λ v. not (first v)) K

  x_not_d : x ≢ d
  x_not_d e = setup.not_own_parent d (subst (λ y. IsParent nodes y d) e x_parent)

  x_free : ¬ (Fixed x)
  x_free (inl e) = x_not_d e
  x_free (inr a) = a.1 refl

  -- d and its parents can be told
  decide : (y : ℕ) → Dec (IsInFamilyBut (IsParent nodes) d x y)
  decide y = go (ℕ_discrete y d) (decide_among y (node_at nodes d).parents) (ℕ_discrete y x)
    where
      neither : y ≢ d → (IsParent nodes y d → ¬ (y ≢ x)) → ¬ (IsInFamilyBut (IsParent nodes) d x y)
      neither n h (inl e) = n e
      neither n h (inr a) = h a.0 a.1

      go : Dec (y ≡ d) → Dec (IsParent nodes y d) → Dec (y ≡ x) → Dec (IsInFamilyBut (IsParent nodes) d x y)
      go (yes e) a b = yes (inl e)
      go (no n) (yes a) (yes e) = no (neither n (λ b k. k e))
      go (no n) (yes a) (no k) = yes (inr (a, k))
      go (no n) (no m) b = no (neither n (λ a k. m a))

  -- a path leads from x to d
  x_reaches : Reaches (IsParent nodes) (IsLive nodes) (IsInFamilyBut (IsParent nodes) d x) goal x
  x_reaches = onward x_parent d_live (at_given (inl refl))

  -- no walk enters x: with x free its table and d's would hang together
  x_apart : ¬ (Leads (IsParent nodes) (IsLive nodes) (IsInFamilyBut (IsParent nodes) d x) goal true x)
  x_apart h = none (separated (IsParent nodes) (IsLive nodes) (IsInFamilyBut (IsParent nodes) d x) goal decide (no_utility_child nodes order setup goal goal_kind) x d x h x_live x_live x_free (inl refl) (inr x_parent) d_live (at_given (inl refl)))

  -- no node below d is given
  none_below : (v : ℕ) → Below (IsParent nodes) d v → ¬ (IsInFamilyBut (IsParent nodes) d x v)
  none_below v b (inl e) = none_given nodes order setup d v b (inl e)
  none_below v b (inr a) = none_given nodes order setup d v b (inr a.0)

  -- what the lists have
  kept : (v : ℕ) → Among v K → Among v order × (IsLive nodes v) × (Reaches (IsParent nodes) (IsLive nodes) (IsInFamilyBut (IsParent nodes) d x) goal v)
  kept = in_K nodes order setup (IsInFamilyBut (IsParent nodes) d x) decide goal goal_live goal_kind keep given first tells_keep tells_given tells_first

  first_in : (v : ℕ) → Among v T1 → Among v K × (Leads (IsParent nodes) (IsLive nodes) (IsInFamilyBut (IsParent nodes) d x) goal true v)
  first_in = in_T1 nodes order setup (IsInFamilyBut (IsParent nodes) d x) decide goal goal_live goal_kind keep given first tells_keep tells_given tells_first

  second_in : (v : ℕ) → Among v T2 → Among v K × ¬ (Leads (IsParent nodes) (IsLive nodes) (IsInFamilyBut (IsParent nodes) d x) goal true v)
  second_in = in_T2 nodes order setup (IsInFamilyBut (IsParent nodes) d x) decide goal goal_live goal_kind keep given first tells_keep tells_given tells_first

  out_in : (v : ℕ) → Among v O → Among v order × ¬ (IsLive nodes v × Reaches (IsParent nodes) (IsLive nodes) (IsInFamilyBut (IsParent nodes) d x) goal v)
  out_in = in_O nodes order setup (IsInFamilyBut (IsParent nodes) d x) decide goal goal_live goal_kind keep given first tells_keep tells_given tells_first

  fixed_in : (v : ℕ) → Among v F → IsInFamilyBut (IsParent nodes) d x v
  fixed_in = in_F nodes order setup (IsInFamilyBut (IsParent nodes) d x) decide goal goal_live goal_kind keep given first tells_keep tells_given tells_first

  live_fixed : (v : ℕ) → IsLive nodes v → IsInFamilyBut (IsParent nodes) d x v → Among v F
  live_fixed = live_in_F nodes order setup (IsInFamilyBut (IsParent nodes) d x) decide goal goal_live goal_kind keep given first tells_keep tells_given tells_first

  -- ---- tables that are nought where x has another state
  abbrev test_at : ℕ → ℕ → World → ℤ
  test_at s v w = cond (eqb v x) (one_if (eqb (w v) s)) (pos 1)

  abbrev at_x : ℕ → ℕ → World → ℤ
  at_x s v w = table_but nodes d p v w *ℤ test_at s v w

  -- the test is one at other nodes
  test_else : (s v : ℕ) → v ≢ x → (w : World) → cond (eqb v x) (one_if (eqb (w v) s)) (pos 1) ≡ pos 1
  test_else s v n w = ap (λ b. cond b (one_if (eqb (w v) s)) (pos 1)) (eqb_no v x n)

  else_same : (s v : ℕ) → v ≢ x → (w : World) → at_x s v w ≡ table_but nodes d p v w
  else_same s v n w = ap (λ y. table_but nodes d p v w *ℤ y) (test_else s v n w) ∙ mul_one (table_but nodes d p v w)

  -- they look at their own nodes and these nodes' parents
  test_ignores : (s v u : ℕ) → v ≢ u → Ignores (states_of nodes) (λ w. test_at s v w) u
  test_ignores s v u n = record { same = λ w i y l z. cond (eqb v x) (one_if (eqb (with_other w u y v n z) s)) (pos 1) }

  at_x_looks : (s : ℕ) → LooksAtParents nodes (at_x s)
  at_x_looks s = record { others = λ v u n a. Ignores-mul (states_of nodes) (table_but nodes d p v) (λ w. test_at s v w) u ((but_looks nodes d p).others v u n a) (test_ignores s v u n) }

  -- the product is that of the tables where x has the state s
  product_at : (s : ℕ) (w : World) → product_over (λ v. at_x s v w) order ≡ one_if (eqb (w x) s) *ℤ weight_without nodes p d w
  product_at s w =
      product_over-times (λ v. table_but nodes d p v w) (λ v. test_at s v w) order
      ∙ (λ i. sym (product_over-shuffled (λ v. table_but nodes d p v w) setup.shuffled) i *ℤ single i)
      ∙ flip (weight_without nodes p d w) (one_if (eqb (w x) s))
    where
      single : product_over (λ v. test_at s v w) order ≡ one_if (eqb (w x) s)
      single = product_single (λ v. test_at s v w) x order (λ v n. test_else s v n w) setup.apart (setup.all x x_live.within)
          ∙ ap (λ b. cond b (one_if (eqb (w x) s)) (pos 1)) (eqb_yes x x refl)

      flip : (a b : ℤ) → a *ℤ b ≡ b *ℤ a
      flip a b = simp products

  -- tables that reach nothing have their totals
  out_totals : (s v : ℕ) → Among v O → HasTotal (states_of nodes) (at_x s) total v
  out_totals s v m =
      let a = out_in v m in
      let v_not_d : v ≢ d = (λ e. a.1 (subst (λ y. IsLive nodes y × Reaches (IsParent nodes) (IsLive nodes) (IsInFamilyBut (IsParent nodes) d x) goal y) (sym e) (d_live, at_given (inl refl)))) in
      let v_not_x : v ≢ x = (λ e. a.1 (subst (λ y. IsLive nodes y × Reaches (IsParent nodes) (IsLive nodes) (IsInFamilyBut (IsParent nodes) d x) goal y) (sym e) (x_live, x_reaches))) in
      let t = but_total nodes d p total v v_not_d (table-total nodes p total v (avoids v (node_at nodes v).parents (setup.not_own_parent v)) (hp.at v (setup.inside v a.0))) in
      record { sums = λ w i. sum_below_cong (states_of nodes v) (λ y. at_x s v (with_state w v y)) (λ y. table_but nodes d p v (with_state w v y)) (λ y l. else_same s v v_not_x (with_state w v y)) ∙ t.sums w i }

  -- ---- the worlds of a row
  -- with q's states at what is given, a world has q's states at all parents of d other than x
  parents_agree : (w q : World) → InRange (states_of nodes) w → InRange (states_of nodes) q → ((o : ℕ) → Among o F → w o ≡ q o) → (u : ℕ) → IsParent nodes u d → u ≢ x → w u ≡ q u
  parents_agree w q iw iq h u m n = go (dec_lt 1 (states_of nodes u))
    where
      both_zero : (a b c : ℕ) → a < c → b < c → ¬ (1 < c) → a ≡ b
      both_zero a b c y z k = omega arith

      go : Dec (1 < states_of nodes u) → w u ≡ q u
      go (yes k) = h u (live_fixed u (record { within = setup.parent_inside u d m; states = inr k }) (inr (m, n)))
      go (no k) = both_zero (w u) (q u) (states_of nodes u) (iw.state u) (iq.state u) k

  -- the test for d's state and row is the one at what is given, with x in the state s
  at_agree : (q w : World) (s : ℕ) → InRange (states_of nodes) q → s < states_of nodes x → InRange (states_of nodes) w
      → one_if (is_at nodes d (q d) (row_of nodes d (with_state q x s)) w) ≡ agree F q w *ℤ one_if (eqb (w x) s)
  at_agree q w s iq ls iw = go (agree_cases F q w) (ℕ_discrete (w x) s)
    where
      iqs : InRange (states_of nodes) (with_state q x s)
      iqs = with_in (states_of nodes) q x s iq ls

      row_same : ((o : ℕ) → Among o F → w o ≡ q o) → w x ≡ s → row_of nodes d w ≡ row_of nodes d (with_state q x s)
      row_same h e = agree_rows (states_of nodes) w (with_state q x s) (node_at nodes d).parents 0 (λ u m. at u m (ℕ_discrete u x))
        where
          at : (u : ℕ) → IsParent nodes u d → Dec (u ≡ x) → w u ≡ with_state q x s u
          at u m (yes k) = ap w k ∙ e ∙ sym (with_same q x s) ∙ ap (with_state q x s) (sym k)
          at u m (no n) = parents_agree w q iw iq h u m n ∙ sym (with_other q x s u n)

      states_same : row_of nodes d w ≡ row_of nodes d (with_state q x s) → (u : ℕ) → IsParent nodes u d → w u ≡ with_state q x s u
      states_same e = (rows_agree (states_of nodes) w (with_state q x s) iw iqs (node_at nodes d).parents 0 0 e).1

      given_all : w d ≡ q d → row_of nodes d w ≡ row_of nodes d (with_state q x s) → (o : ℕ) → Among o F → w o ≡ q o
      given_all e r o m = elim (fixed_in o m) [
        | inl f ↦ ap w f ∙ e ∙ ap q (sym f)
        | inr k ↦ states_same r o k.0 ∙ with_other q x s o k.1
      ]

      go : ((agree F q w ≡ pos 1) × ((o : ℕ) → Among o F → w o ≡ q o)) ⊎ ((agree F q w ≡ pos 0) × ¬ ((o : ℕ) → Among o F → w o ≡ q o)) → Dec (w x ≡ s)
          → one_if (is_at nodes d (q d) (row_of nodes d (with_state q x s)) w) ≡ agree F q w *ℤ one_if (eqb (w x) s)
      go (inl r) (yes e) =
          ap one_if (both_true (w d) (q d) (row_of nodes d w) (row_of nodes d (with_state q x s)) (r.1 d (live_fixed d d_live (inl refl))) (row_same r.1 e))
          ∙ sym (λ i. r.0 i *ℤ one_if (eqb_yes (w x) s e i))
      go (inl r) (no n) =
          ap one_if (both_false (w d) (q d) (row_of nodes d w) (row_of nodes d (with_state q x s)) (λ e k. n (states_same k x x_parent ∙ with_same q x s)))
          ∙ sym (ap (λ b. agree F q w *ℤ one_if b) (eqb_no (w x) s n) ∙ mul_zero (agree F q w))
      go (inr r) c =
          ap one_if (both_false (w d) (q d) (row_of nodes d w) (row_of nodes d (with_state q x s)) (λ e k. r.1 (given_all e k)))
          ∙ sym (ap (λ y. y *ℤ one_if (eqb (w x) s)) r.0 ∙ zero_mul (one_if (eqb (w x) s)))

  -- past the last node q has state 0
  off_nodes : (q : World) → InRange (states_of nodes) q → (v : ℕ) → Avoids v (numbers_of nodes) → 0 ≡ q v
  off_nodes q iq v a = go (dec_lt v (length nodes))
    where
      less_one : (n c : ℕ) → n < c → c ≡ 1 → 0 ≡ n
      less_one n c l e = omega arith

      go : Dec (v < length nodes) → 0 ≡ q v
      go (yes l) = absurd (not_among v (numbers_of nodes) a (number nodes v l))
      go (no n) = less_one (q v) (states_of nodes v) (iq.state v) (ap (λ y. y.states) (past_end nodes v (omega arith)))

  -- ---- the two factors
  -- it looks at d, and not at x
  abbrev near : (World → ℤ) → World → ℤ
  near f q = sum_over (states_of nodes) V1 (λ w. f w *ℤ product_over (λ v. table_but nodes d p v w) T1) q

  -- it looks at x, and not at d
  abbrev far : ℕ → World → ℤ
  far s q = sum_over (states_of nodes) V2 (λ w. product_over (λ v. at_x s v w) T2) q

  module _ (apart_F : Apart F) where
    sum_parts : (f : World → ℤ) → ((u : ℕ) → ¬ (IsParent nodes u goal) → Ignores (states_of nodes) f u) → (q : World) (s : ℕ) → InRange (states_of nodes) q → s < states_of nodes x
        → sum_worlds nodes (λ w. cond (is_at nodes d (q d) (row_of nodes d (with_state q x s)) w) (weight_without nodes p d w *ℤ f w) (pos 0)) ≡ product_over total O *ℤ (near f q *ℤ far s q)
    sum_parts f f_looks q s iq ls =
        sum_from (states_of nodes) (numbers_of nodes) (λ w. cond (is_at nodes d (q d) (row_of nodes d (with_state q x s)) w) (weight_without nodes p d w *ℤ f w) (pos 0)) (λ v. 0) q (off_nodes q iq)
        ∙ sum_over-shuffled (states_of nodes) (λ w. cond (is_at nodes d (q d) (row_of nodes d (with_state q x s)) w) (weight_without nodes p d w *ℤ f w) (pos 0)) setup.shuffled q
        ∙ sum_over_cong (states_of nodes) order (λ w. cond (is_at nodes d (q d) (row_of nodes d (with_state q x s)) w) (weight_without nodes p d w *ℤ f w) (pos 0)) (λ w. agree F q w *ℤ (product_over (λ v. at_x s v w) order *ℤ f w))
        (λ w iw. one_if-cond (is_at nodes d (q d) (row_of nodes d (with_state q x s)) w) (weight_without nodes p d w *ℤ f w)
        ∙ ap (λ y. y *ℤ (weight_without nodes p d w *ℤ f w)) (at_agree q w s iq ls iw)
        ∙ regroup (agree F q w) (one_if (eqb (w x) s)) (weight_without nodes p d w) (f w)
        ∙ ap (λ y. agree F q w *ℤ (y *ℤ f w)) (sym (product_at s w)))
        q iq
        ∙ sum_separated nodes order setup (IsInFamilyBut (IsParent nodes) d x) decide goal goal_live goal_kind keep given first tells_keep tells_given tells_first
        (at_x s) (at_x_looks s) f f_looks total (out_totals s) apart_F q iq q iq (λ v a. refl)
        ∙ ap (λ y. product_over total O *ℤ (y *ℤ far s q)) near_same
      where
        regroup : (a t w f : ℤ) → (a *ℤ t) *ℤ (w *ℤ f) ≡ a *ℤ ((t *ℤ w) *ℤ f)
        regroup a t w f = simp products

        near_same : sum_over (states_of nodes) V1 (λ w. f w *ℤ product_over (λ v. at_x s v w) T1) q ≡ near f q
        near_same = ap (λ h. sum_over (states_of nodes) V1 h q) (fun_ext (λ w. ap (λ y. f w *ℤ y) (product_over-cong (λ v. at_x s v w) (λ v. table_but nodes d p v w) T1
            (λ v m. else_same s v (λ e. x_apart (subst (Leads (IsParent nodes) (IsLive nodes) (IsInFamilyBut (IsParent nodes) d x) goal true) e (first_in v m).1)) w))))

    -- no table of the far group looks at d
    far_not_d : (s : ℕ) → EachIgnoresAll (states_of nodes) (at_x s) T2 (d ∷ [])
    far_not_d s = each_ignored (states_of nodes) (at_x s) T2 (d ∷ []) (λ v m u k. elim k [
      | inl e ↦ subst (λ y. Ignores (states_of nodes) (at_x s v) y) (sym e) (at v m (ℕ_discrete v d))
      | inr z ↦ absurd z
    ])
      where
        looks_not : (v : ℕ) → Among v T2 → ¬ (IsParent nodes d v)
        looks_not v m c = let a = second_in v m in a.1 (below_leads (IsParent nodes) (IsLive nodes) (IsInFamilyBut (IsParent nodes) d x) goal d none_below (kept v a.0).2 (child c))

        at : (v : ℕ) → Among v T2 → Dec (v ≡ d) → Ignores (states_of nodes) (at_x s v) d
        at v m (yes e) = Ignores-mul (states_of nodes) (table_but nodes d p v) (λ w. test_at s v w) d
            (but_ignores nodes d p v d (λ n. absurd (n e)))
            (record { same = λ w i y l. test_else s v (λ f. x_not_d (sym f ∙ e)) (with_state w d y) ∙ sym (test_else s v (λ f. x_not_d (sym f ∙ e)) w) })
        at v m (no n) = (at_x_looks s).others v d n (looks_not v m)

    far_same : (s : ℕ) (q : World) → InRange (states_of nodes) q → far s (with_state q d 0) ≡ far s q
    far_same s q iq =
        let h : Ignores (states_of nodes) (λ w. product_over (λ v. at_x s v w) T2) d = Ignores-product (states_of nodes) (at_x s) T2 d (far_not_d s) in
        let k : Ignores (states_of nodes) (sum_over (states_of nodes) V2 (λ w. product_over (λ v. at_x s v w) T2)) d = sum_over_ignores (states_of nodes) V2 (λ w. product_over (λ v. at_x s v w) T2) d h in
        k.same q iq 0 (setup.has_state d)

    -- the mass is such a sum with d in its first state
    mass_parts : (q : World) (s : ℕ) → InRange (states_of nodes) q → s < states_of nodes x
        → mass_at nodes p d (row_of nodes d (with_state q x s)) ≡ product_over total O *ℤ (near (λ w. pos 1) (with_state q d 0) *ℤ far s q)
    mass_parts q s iq ls =
        (λ i. sum_worlds nodes (λ w. cond (is_at nodes d (sym (with_same q d 0) i) (sym same_row i) w) (sym (mul_one (weight_without nodes p d w)) i) (pos 0)))
        ∙ sum_parts (λ w. pos 1) (λ u n. record { same = λ w i y l. refl }) (with_state q d 0) s (with_in (states_of nodes) q d 0 iq (setup.has_state d)) ls
        ∙ ap (λ y. product_over total O *ℤ (near (λ w. pos 1) (with_state q d 0) *ℤ y)) (far_same s q iq)
      where
        same_row : row_of nodes d (with_state (with_state q d 0) x s) ≡ row_of nodes d (with_state q x s)
        same_row = agree_rows (states_of nodes) (with_state (with_state q d 0) x s) (with_state q x s) (node_at nodes d).parents 0 (λ u m. at u m (ℕ_discrete u x))
          where
            at : (u : ℕ) → IsParent nodes u d → Dec (u ≡ x) → with_state (with_state q d 0) x s u ≡ with_state q x s u
            at u m (yes e) = ap (with_state (with_state q d 0) x s) e ∙ with_same (with_state q d 0) x s ∙ sym (ap (with_state q x s) e ∙ with_same q x s)
            at u m (no n) = with_other (with_state q d 0) x s u n ∙ with_other q d 0 u (λ e. setup.not_own_parent d (subst (λ y. IsParent nodes y d) e m)) ∙ sym (with_other q x s u n)

    -- so sums and masses are in one proportion
    pub one_proportion : (f : World → ℤ) → ((u : ℕ) → ¬ (IsParent nodes u goal) → Ignores (states_of nodes) f u) → (q : World) (s t : ℕ) → InRange (states_of nodes) q → s < states_of nodes x → t < states_of nodes x
        → sum_worlds nodes (λ w. cond (is_at nodes d (q d) (row_of nodes d (with_state q x s)) w) (weight_without nodes p d w *ℤ f w) (pos 0)) *ℤ mass_at nodes p d (row_of nodes d (with_state q x t))
        ≡ sum_worlds nodes (λ w. cond (is_at nodes d (q d) (row_of nodes d (with_state q x t)) w) (weight_without nodes p d w *ℤ f w) (pos 0)) *ℤ mass_at nodes p d (row_of nodes d (with_state q x s))
    one_proportion f f_looks q s t iq ls lt =
        (λ i. sum_parts f f_looks q s iq ls i *ℤ mass_parts q t iq lt i)
        ∙ cross (product_over total O) (product_over total O) (near f q) (near (λ w. pos 1) (with_state q d 0)) (far s q) (far t q)
        ∙ sym (λ i. sum_parts f f_looks q t iq lt i *ℤ mass_parts q s iq ls i)

-- ---- all goals
module _ (nodes : List NodeView) (g : OrderedGraph nodes) (p : List RuleView) (hp : HasTables nodes p) (d x : ℕ) (d_live : IsLive nodes d) (d_kind : (node_at nodes d).kind ≡ Decision)
    (x_live : IsLive nodes x) (x_parent : IsParent nodes x d) (unneeded : IsRequisite nodes d x → ⊥) where
  -- what the sums use
  setup : Setup nodes g.order
  setup = setup_of nodes g

  -- as long as the equation is false, the facts of reach and walks may be decided
  pub rows_proportion : (q : World) (s t : ℕ) → InRange (states_of nodes) q → s < states_of nodes x → t < states_of nodes x
      → gain_at nodes p d (q d) (row_of nodes d (with_state q x s)) *ℤ mass_at nodes p d (row_of nodes d (with_state q x t))
      ≡ gain_at nodes p d (q d) (row_of nodes d (with_state q x t)) *ℤ mass_at nodes p d (row_of nodes d (with_state q x s))
  rows_proportion q s t iq ls lt =
      gains_by_goals nodes d p p (q d) (row_of nodes d (with_state q x s)) (q d) (row_of nodes d (with_state q x t)) (mass_at nodes p d (row_of nodes d (with_state q x t))) (mass_at nodes p d (row_of nodes d (with_state q x s)))
      (λ goal is_goal.
      by_contradiction (left goal s *ℤ mass_at nodes p d (row_of nodes d (with_state q x t))) (left goal t *ℤ mass_at nodes p d (row_of nodes d (with_state q x s))) (λ n.
      tests (λ v. IsLive nodes v × Reaches (IsParent nodes) (IsLive nodes) (IsInFamilyBut (IsParent nodes) d x) goal v) g.order (λ keep.
      tests (IsInFamilyBut (IsParent nodes) d x) g.order (λ given.
      tests (Leads (IsParent nodes) (IsLive nodes) (IsInFamilyBut (IsParent nodes) d x) goal true) (filter keep.0 g.order) (λ first. n
      (one_proportion nodes g.order setup p (λ v. pos (weight_total nodes p v)) (totals_of nodes p hp) d x goal d_live x_live x_parent (record { within = is_goal.within; states = inl is_goal.kind }) is_goal.kind
      (none_enters nodes g.order setup d x d_kind x_live unneeded goal is_goal) keep.0 given.0 first.0 keep.1 given.1 first.1
      (apart_filter given.0 (filter keep.0 g.order) (apart_filter keep.0 g.order setup.apart))
      (cell_in nodes d goal) (cell_ignores nodes d goal) q s t iq ls lt))))))
    where
      left : ℕ → ℕ → ℤ
      left goal y = sum_worlds nodes (λ w. cond (is_at nodes d (q d) (row_of nodes d (with_state q x y)) w) (weight_without nodes p d w *ℤ cell_in nodes d goal w) (pos 0))

-- Rows that differ at an unneeded parent, live or not, weigh each state alike.
pub unneeded_rows : (nodes : List NodeView) (p : List RuleView) (d x state other : ℕ) (q : World) → IsGraph nodes → HasTables nodes p → IsDecision nodes d → IsLive nodes d → IsParent nodes x d → (IsRequisite nodes d x → ⊥)
    → InRange (states_of nodes) q → other < states_of nodes x
    → gain_at nodes p d state (row_of nodes d q) *ℤ mass_at nodes p d (row_of nodes d (with_state q x other)) ≡ gain_at nodes p d state (row_of nodes d (with_state q x other)) *ℤ mass_at nodes p d (row_of nodes d q)
unneeded_rows nodes p d x state other q g hp k d_live a unneeded iq lo = go (dec_lt state (states_of nodes d)) (dec_lt 1 (states_of nodes x))
  where
    row_own : row_of nodes d (with_state q x (q x)) ≡ row_of nodes d q
    row_own = ap (row_of nodes d) (with_own q x (q x) refl)

    one_state : (a b c : ℕ) → a < c → b < c → ¬ (1 < c) → a ≡ b
    one_state a b c y z n = omega arith

    at_state : World
    at_state = with_state q d state

    row_d : (y : ℕ) → row_of nodes d (with_state at_state x y) ≡ row_of nodes d (with_state q x y)
    row_d y = agree_rows (states_of nodes) (with_state at_state x y) (with_state q x y) (node_at nodes d).parents 0 (λ u m. at u m (ℕ_discrete u x))
      where
        o : OrderedGraph nodes
        o = ordered nodes g

        at : (u : ℕ) → IsParent nodes u d → Dec (u ≡ x) → with_state at_state x y u ≡ with_state q x y u
        at u m (yes e) = ap (with_state at_state x y) e ∙ with_same at_state x y ∙ sym (ap (with_state q x y) e ∙ with_same q x y)
        at u m (no n) = with_other at_state x y u n ∙ with_other q d state u (λ e. (setup_of nodes o).not_own_parent d (subst (λ z. IsParent nodes z d) e m)) ∙ sym (with_other q x y u n)

    go : Dec (state < states_of nodes d) → Dec (1 < states_of nodes x)
        → gain_at nodes p d state (row_of nodes d q) *ℤ mass_at nodes p d (row_of nodes d (with_state q x other)) ≡ gain_at nodes p d state (row_of nodes d (with_state q x other)) *ℤ mass_at nodes p d (row_of nodes d q)
    go (no n) c =
        ap (λ y. y *ℤ mass_at nodes p d (row_of nodes d (with_state q x other))) (gain_past nodes g p d state (row_of nodes d q) n) ∙ zero_mul (mass_at nodes p d (row_of nodes d (with_state q x other)))
        ∙ sym (ap (λ y. y *ℤ mass_at nodes p d (row_of nodes d q)) (gain_past nodes g p d state (row_of nodes d (with_state q x other)) n) ∙ zero_mul (mass_at nodes p d (row_of nodes d q)))
    go (yes l) (no n) =
        let e : row_of nodes d (with_state q x other) ≡ row_of nodes d q = ap (λ y. row_of nodes d (with_state q x y)) (one_state other (q x) (states_of nodes x) lo (iq.state x) n) ∙ row_own in
        (λ i. gain_at nodes p d state (sym e i) *ℤ mass_at nodes p d (e i))
    go (yes l) (yes m) =
        let h = rows_proportion nodes (ordered nodes g) p hp d x d_live k.kind (record { within = g.parents_known x d (arc_of nodes x d a); states = inr m }) a unneeded at_state (q x) other (with_in (states_of nodes) q d state iq l) (iq.state x) lo in
        (λ i. gain_at nodes p d (sym (with_same q d state) i) (sym (row_d (q x) ∙ row_own) i) *ℤ mass_at nodes p d (sym (row_d other) i))
        ∙ h
        ∙ (λ i. gain_at nodes p d (with_same q d state i) (row_d other i) *ℤ mass_at nodes p d ((row_d (q x) ∙ row_own) i))

-- for every diagram
pub unneeded_law : UnneededParent
unneeded_law nodes p d x state other q g c h k l a n iq lo = unneeded_rows nodes p d x state other q g (tables_of nodes p g c h) k l (parent_of nodes x d a) n iq lo
