-- The law of separation, for every diagram.
use Rattle.std.proofs.Common.{◌≡◌, ◌⊎◌, ◌↔◌, ◌∙◌, ℕ, ◌<◌, ◌≤◌, Bool, true, false, cond, not, ◌||◌, eqb, filter, List, [], ◌∷◌, length, refl, sym, ap, subst, inl, inr, arith, ℤ, pos, ◌*ℤ◌}
use Rattle.std.proofs.Math.Decide.{ℕ_discrete, dec_lt}
use Rattle.std.proofs.Math.Path.{fun_ext}
use Rattle.maid_model.specs.Gains.{sum_worlds, weight_without}
use Rattle.maid_model.specs.Graph.{Arc, IsPath, Here, Along, IsGraph}
use Rattle.maid_model.specs.Nodes.{IsUtility, states_of, numbers_of}
use Rattle.maid_model.specs.Relevance.{IsLive}
use Rattle.finite_sums.specs.Sums.{World, InRange, with_state, sum_below, sum_over, product_over, nat_product_over}
use Rattle.maid_model.specs.Tables.{weight_total}
use Rattle.maid_model.specs.Views.{NodeView, RuleView}
use Rattle.finite_sums.specs.Members.{Among, Shuffled}
use Rattle.finite_sums.specs.Looks.{Ignores, HasTotal}
use Rattle.maid_model.proofs.Setting.{HasTables}
use Rattle.finite_sums.proofs.Lists.{among_filter, product_over-shuffled, sum_over-shuffled}
use Rattle.finite_sums.proofs.Sums.{sum_below_cong, sum_over_cong, with_same, with_other}
use Rattle.finite_sums.specs.Members.{Avoids}
use Rattle.maid_laws.specs.Separation.{IsFixedBy, Matters, HasWalk, LooksAt, SharedNodeJoins, IsSplit, SplitExists, agrees_at_fixed, total_without, product_without, SumsSeparate}
use Rattle.maid_laws.proofs.Booleans.{eqb_yes, eqb_no, eqb_same, not_both, all_at, at_all}
use Rattle.maid_laws.proofs.Basis.{Setup, Tells, tells_true}
use Rattle.maid_laws.proofs.Collapse.{one_if, one_if-cond, agree, Apart}
use Rattle.maid_laws.proofs.Decided.{tests}
use Rattle.maid_laws.proofs.Leads.{Leads, Reaches, at_given, at_goal, onward, separated}
use Rattle.maid_laws.proofs.Members.{arc_of, parent_of, not_among}
use Rattle.maid_laws.proofs.Notions.{IsParent, OrderedGraph}
use Rattle.maid_laws.proofs.OneUtility.{table_but, but_own, but_looks, but_total, agree_cases}
use Rattle.maid_laws.proofs.Ordered.{setup_of}
use Rattle.maid_laws.proofs.Orders.{ordered}
use Rattle.maid_laws.proofs.Profiles.{sum_ones}
use Rattle.maid_laws.proofs.Ranks.{past_end}
use Rattle.maid_laws.proofs.Rearranged.{number, numbered, apart_filter, range_apart, shuffled_filter}
use Rattle.maid_laws.proofs.Relies.{no_utility_child, walk_of_steps, steps_of_walk}
use Rattle.maid_laws.proofs.TwoSums.{live_in_F, sum_separated}
use Rattle.maid_laws.proofs.Signs.{pos_product}
use Rattle.maid_laws.proofs.Tied.{tables_of}
use Rattle.maid_laws.proofs.TotalLaws.{has_total}

-- fixed nodes can be told
fixed_dec : (fixed : ℕ → Bool) (x : ℕ) → Dec (fixed x ≡ true)
fixed_dec fixed x = go (fixed x)
  where
    no_true : false ≡ true → ⊥
    no_true e = cc

    go : (b : Bool) → Dec (b ≡ true)
    go true = yes refl
    go false = no no_true

-- ---- what matters, by paths and by steps
module _ (nodes : List NodeView) (fixed : ℕ → Bool) (goal : ℕ) where
  -- along the path
  pub reaches_of : (target : ℕ) {v : ℕ} → IsPath (λ x y. Arc nodes x y × IsLive nodes y) v target → IsFixedBy fixed target ⊎ (target ≡ goal) → Reaches (IsParent nodes) (IsLive nodes) (IsFixedBy fixed) goal v
  reaches_of target Here (inl g) = at_given g
  reaches_of target Here (inr e) = subst (λ z. Reaches (IsParent nodes) (IsLive nodes) (IsFixedBy fixed) goal z) (sym e) at_goal
  reaches_of target (Along {u = u} {v = v} a p) h = onward (parent_of nodes u v a.0) a.1 (reaches_of target p h)

  -- and back
  pub matters_of : {v : ℕ} → IsLive nodes v → Reaches (IsParent nodes) (IsLive nodes) (IsFixedBy fixed) goal v → Matters nodes fixed goal v
  matters_of {v} l (at_given g) = record { live = l; target = v; path = Here; reached = inl g }
  matters_of {v} l at_goal = record { live = l; target = v; path = Here; reached = inr refl }
  matters_of {v} l (onward {c = c} a lc r) =
      let m = matters_of lc r in
      record { live = l; target = m.target; path = Along (arc_of nodes v c a, lc) m.path; reached = m.reached }

  -- what matters reaches
  pub matters_steps : {v : ℕ} → Matters nodes fixed goal v → Reaches (IsParent nodes) (IsLive nodes) (IsFixedBy fixed) goal v
  matters_steps m = reaches_of m.target m.path m.reached

-- the same nodes are fixed
same_fixed : (fixed : ℕ → Bool) (x : ℕ) → (fixed x ≡ true) ↔ (fixed x ≡ true)
same_fixed fixed x = ((λ k. k), (λ k. k))

-- by steps
pub shared_law : SharedNodeJoins
shared_law nodes fixed goal v y x g u lv my lx free sv sy h =
    walk_of_steps nodes o.order setup (IsFixedBy fixed) (IsFixedBy fixed) (same_fixed fixed) goal y u.within u.kind my.live.within my.live
    (separated (IsParent nodes) (IsLive nodes) (IsFixedBy fixed) goal (fixed_dec fixed) (no_utility_child nodes o.order setup goal u.kind) v y x
    (steps_of_walk nodes o.order setup (IsFixedBy fixed) (IsFixedBy fixed) (same_fixed fixed) goal v u.within u.kind lv.within h)
    lv lx (λ e. not_both (fixed x) e free) (looks sv) (looks sy) my.live (matters_steps nodes fixed goal my))
  where
    o : OrderedGraph nodes
    o = ordered nodes g

    -- what the sums use
    setup : Setup nodes o.order
    setup = setup_of nodes o

    looks : {z : ℕ} → LooksAt nodes z x → (x ≡ z) ⊎ IsParent nodes x z
    looks (inl e) = inl e
    looks {z} (inr a) = inr (parent_of nodes x z a)

-- ---- sums
-- where the summed nodes stand doesn't matter
pub sum_from : (count : ℕ → ℕ) (vs : List ℕ) (f : World → ℤ) (w x : World) → ((v : ℕ) → Avoids v vs → w v ≡ x v) → sum_over count vs f w ≡ sum_over count vs f x
sum_from count [] f w x h = ap f (fun_ext (λ v. h v tt))
sum_from count (v ∷ vs) f w x h =
    sum_below_cong (count v) (λ s. sum_over count vs f (with_state w v s)) (λ s. sum_over count vs f (with_state x v s))
    (λ s l. sum_from count vs f (with_state w v s) (with_state x v s) (λ u a. at u s a (ℕ_discrete u v)))
  where
    at : (u s : ℕ) → Avoids u vs → Dec (u ≡ v) → with_state w v s u ≡ with_state x v s u
    at u s a (yes e) = ap (with_state w v s) e ∙ with_same w v s ∙ sym (ap (with_state x v s) e ∙ with_same x v s)
    at u s a (no n) = with_other w v s u n ∙ h u ((λ e. n (sym e)), a) ∙ sym (with_other x v s u n)

module _ (nodes : List NodeView) (p : List RuleView) (d : ℕ) (fixed : ℕ → Bool) (goal : ℕ) (matters joined : ℕ → Bool) (f : World → ℤ) (q : World)
    (g : IsGraph nodes) (t : HasTables nodes p) (u : IsUtility nodes goal) (split : IsSplit nodes fixed goal matters joined)
    (f_looks : (u : ℕ) → (Arc nodes u goal → ⊥) → Ignores (states_of nodes) f u) (iq : InRange (states_of nodes) q) where
  -- a list with parents first
  abbrev order : List ℕ
  order = (ordered nodes g).order

  setup : Setup nodes (ordered nodes g).order
  setup = setup_of nodes (ordered nodes g)

  -- a utility is live
  goal_live : IsLive nodes goal
  goal_live = record { within = u.within; states = inl u.kind }

  -- what matters, by steps
  live_steps : (v : ℕ) → Matters nodes fixed goal v → IsLive nodes v × Reaches (IsParent nodes) (IsLive nodes) (IsFixedBy fixed) goal v
  live_steps v m = (m.live, matters_steps nodes fixed goal m)

  -- the tests tell what the sums ask: what matters
  tells_keep : Tells matters (λ v. IsLive nodes v × Reaches (IsParent nodes) (IsLive nodes) (IsFixedBy fixed) goal v) (ordered nodes g).order
  tells_keep = record {
    yes = λ v m e. live_steps v ((split.matters_is v (setup.inside v m)).0 e);
    no = λ v m e h. not_both (matters v) ((split.matters_is v (setup.inside v m)).1 (matters_of nodes fixed goal h.0 h.1)) e;
  }

  -- what is fixed
  tells_given : Tells fixed (IsFixedBy fixed) (ordered nodes g).order
  tells_given = record { yes = λ v m e. e; no = λ v m e h. not_both (fixed v) h e }

  -- walks as steps
  steps_of : (v : ℕ) → Matters nodes fixed goal v → HasWalk nodes fixed goal v → Leads (IsParent nodes) (IsLive nodes) (IsFixedBy fixed) goal true v
  steps_of v m h = steps_of_walk nodes (ordered nodes g).order setup (IsFixedBy fixed) (IsFixedBy fixed) (same_fixed fixed) goal v u.within u.kind m.live.within h

  -- steps as walks
  walk_of : (v : ℕ) → Matters nodes fixed goal v → Leads (IsParent nodes) (IsLive nodes) (IsFixedBy fixed) goal true v → HasWalk nodes fixed goal v
  walk_of v m h = walk_of_steps nodes (ordered nodes g).order setup (IsFixedBy fixed) (IsFixedBy fixed) (same_fixed fixed) goal v u.within u.kind m.live.within m.live h

  -- what is kept matters
  kept : (v : ℕ) → Among v (filter matters (ordered nodes g).order) → Matters nodes fixed goal v
  kept v m = let k = among_filter matters v (ordered nodes g).order m in (split.matters_is v (setup.inside v k.0)).0 k.1

  -- what has a walk
  tells_first : Tells joined (Leads (IsParent nodes) (IsLive nodes) (IsFixedBy fixed) goal true) (filter matters (ordered nodes g).order)
  tells_first = record {
    yes = λ v m e. steps_of v (kept v m) ((split.joined_is v (kept v m)).0 e);
    no = λ v m e h. not_both (joined v) ((split.joined_is v (kept v m)).1 (walk_of v (kept v m) h)) e;
  }

  -- ---- the two sides
  abbrev F : List ℕ
  F = filter fixed (filter matters (ordered nodes g).order)

  -- a fixed node that is not live has one state
  fixed_agree : (w : World) → InRange (states_of nodes) w → ((o : ℕ) → Among o (filter fixed (filter matters (ordered nodes g).order)) → w o ≡ q o) → (v : ℕ) → v < length nodes → fixed v ≡ true → w v ≡ q v
  fixed_agree w iw h v l e = go (dec_lt 1 (states_of nodes v))
    where
      one_state : (a b c : ℕ) → a < c → b < c → ¬ (1 < c) → a ≡ b
      one_state a b c x y n = omega arith

      go : Dec (1 < states_of nodes v) → w v ≡ q v
      go (yes k) = h v (live_in_F nodes (ordered nodes g).order setup (IsFixedBy fixed) (fixed_dec fixed) goal goal_live u.kind matters fixed joined tells_keep tells_given tells_first v (record { within = l; states = inr k }) e)
      go (no n) = one_state (w v) (q v) (states_of nodes v) (iw.state v) (iq.state v) n

  -- a world with q's states at fixed nodes passes
  agrees_all : (w : World) → ((v : ℕ) → v < length nodes → fixed v ≡ true → w v ≡ q v) → agrees_at_fixed nodes fixed q w ≡ true
  agrees_all w h = at_all (λ v. not (fixed v) || eqb (w v) (q v)) (numbers_of nodes) (λ v m. go v (numbered nodes v m) (fixed v) refl)
    where
      go : (v : ℕ) → v < length nodes → (b : Bool) → fixed v ≡ b → (not b || eqb (w v) (q v)) ≡ true
      go v l true e = eqb_yes (w v) (q v) (h v l e)
      go v l false e = refl

  -- and only such a world
  agrees_each : (w : World) → agrees_at_fixed nodes fixed q w ≡ true → (v : ℕ) → v < length nodes → fixed v ≡ true → w v ≡ q v
  agrees_each w h v l e = eqb_same (w v) (q v) (part (fixed v) (eqb (w v) (q v)) e (all_at (λ v. not (fixed v) || eqb (w v) (q v)) (numbers_of nodes) h v (number nodes v l)))
    where
      part : (a b : Bool) → a ≡ true → (not a || b) ≡ true → b ≡ true
      part true b x y = y
      part false b x y = absurd (not_both false x refl)

  -- the two tests are one
  agree_same : (w : World) → InRange (states_of nodes) w → one_if (agrees_at_fixed nodes fixed q w) ≡ agree F q w
  agree_same w iw = go (agree_cases (filter fixed (filter matters (ordered nodes g).order)) q w) (agrees_at_fixed nodes fixed q w) refl
    where
      in_fixed : (o : ℕ) → Among o (filter fixed (filter matters (ordered nodes g).order)) → (o < length nodes) × (fixed o ≡ true)
      in_fixed o m = let a = among_filter fixed o (filter matters (ordered nodes g).order) m in (setup.inside o (among_filter matters o (ordered nodes g).order a.0).0, a.1)

      go : ((agree F q w ≡ pos 1) × ((o : ℕ) → Among o F → w o ≡ q o)) ⊎ ((agree F q w ≡ pos 0) × ¬ ((o : ℕ) → Among o F → w o ≡ q o)) → (b : Bool) → agrees_at_fixed nodes fixed q w ≡ b → one_if (agrees_at_fixed nodes fixed q w) ≡ agree F q w
      go (inl r) b e = ap one_if (agrees_all w (fixed_agree w iw r.1)) ∙ sym r.0
      go (inr r) true e = absurd (r.1 (λ o m. let k = in_fixed o m in agrees_each w e o k.0 k.1))
      go (inr r) false e = ap one_if e ∙ sym r.0

  -- at d each state counts 1
  totals : (v : ℕ) → HasTotal (states_of nodes) (table_but nodes d p) (λ v. pos (total_without nodes p d v)) v
  totals v = go (ℕ_discrete v d)
    where
      go : Dec (v ≡ d) → HasTotal (states_of nodes) (table_but nodes d p) (λ v. pos (total_without nodes p d v)) v
      go (yes e) = record {
        sums = λ w i.
            (λ j. sum_below (states_of nodes v) (λ s. but_own nodes d p v e j (with_state w v s)))
            ∙ sum_ones nodes (states_of nodes v) ∙ ap pos (sym (ap (λ b. cond b (states_of nodes v) (weight_total nodes p v)) (eqb_yes v d e)));
      }
      go (no n) = record {
        sums = λ w i.
            (but_total nodes d p (λ v. pos (weight_total nodes p v)) v n (has_total nodes p g t v)).sums w i
            ∙ ap pos (sym (ap (λ b. cond b (states_of nodes v) (weight_total nodes p v)) (eqb_no v d n)));
      }

  -- f looks at the goal's parents alone
  goal_looks : (u : ℕ) → ¬ (IsParent nodes u goal) → Ignores (states_of nodes) f u
  goal_looks x n = f_looks x (λ a. n (parent_of nodes x goal a))

  -- no number stands twice
  apart : Apart (numbers_of nodes)
  apart = range_apart 0 (length nodes)

  -- no number stands twice there
  apart_K : Apart (filter matters (numbers_of nodes))
  apart_K = apart_filter matters (numbers_of nodes) apart

  -- the same nodes in the list's order
  moved_K : Shuffled (filter matters (numbers_of nodes)) (filter matters (ordered nodes g).order)
  moved_K = shuffled_filter matters (numbers_of nodes) (ordered nodes g).order apart (ordered nodes g).shuffled

  -- the same of those that pass a test
  moved_T : (r : ℕ → Bool) → Shuffled (filter r (filter matters (numbers_of nodes))) (filter r (filter matters (ordered nodes g).order))
  moved_T r = shuffled_filter r (filter matters (numbers_of nodes)) (filter matters (ordered nodes g).order) apart_K moved_K

  -- and of the free ones
  moved_V : (r : ℕ → Bool) → Shuffled (filter r (filter (λ v. not (fixed v)) (filter matters (numbers_of nodes)))) (filter r (filter (λ v. not (fixed v)) (filter matters (ordered nodes g).order)))
  moved_V r =
      shuffled_filter r (filter (λ v. not (fixed v)) (filter matters (numbers_of nodes))) (filter (λ v. not (fixed v)) (filter matters (ordered nodes g).order))
      (apart_filter (λ v. not (fixed v)) (filter matters (numbers_of nodes)) apart_K) (moved_T (λ v. not (fixed v)))

  -- past the last node q has state 0
  off_nodes : (v : ℕ) → Avoids v (numbers_of nodes) → 0 ≡ q v
  off_nodes v a = go (dec_lt v (length nodes))
    where
      past : ¬ (v < length nodes) → length nodes ≤ v
      past n = omega arith

      less_one : (x c : ℕ) → x < c → c ≡ 1 → 0 ≡ x
      less_one x c l e = omega arith

      go : Dec (v < length nodes) → 0 ≡ q v
      go (yes l) = absurd (not_among v (numbers_of nodes) a (number nodes v l))
      go (no n) = less_one (q v) (states_of nodes v) (iq.state v) (ap (λ y. y.states) (past_end nodes v (past n)))

  -- one group's sum, with the nodes in text order
  group_sum : (h : World → ℤ) (r : ℕ → Bool)
      → sum_over (states_of nodes) (filter r (filter (λ v. not (fixed v)) (filter matters (ordered nodes g).order))) (λ x. h x *ℤ product_over (λ v. table_but nodes d p v x) (filter r (filter matters (ordered nodes g).order))) q
      ≡ sum_over (states_of nodes) (filter r (filter (λ v. not (fixed v)) (filter matters (numbers_of nodes)))) (λ x. h x *ℤ product_without nodes p d (filter r (filter matters (numbers_of nodes))) x) q
  group_sum h r =
      ap (λ k. sum_over (states_of nodes) (filter r (filter (λ v. not (fixed v)) (filter matters (ordered nodes g).order))) k q) (fun_ext (λ x. ap (λ y. h x *ℤ y) (sym (product_over-shuffled (λ v. table_but nodes d p v x) (moved_T r)))))
      ∙ sym (sum_over-shuffled (states_of nodes) (λ x. h x *ℤ product_without nodes p d (filter r (filter matters (numbers_of nodes))) x) (moved_V r) q)

  -- and the other group's
  other_sum : (r : ℕ → Bool)
      → sum_over (states_of nodes) (filter r (filter (λ v. not (fixed v)) (filter matters (ordered nodes g).order))) (λ x. product_over (λ v. table_but nodes d p v x) (filter r (filter matters (ordered nodes g).order))) q
      ≡ sum_over (states_of nodes) (filter r (filter (λ v. not (fixed v)) (filter matters (numbers_of nodes)))) (product_without nodes p d (filter r (filter matters (numbers_of nodes)))) q
  other_sum r =
      ap (λ k. sum_over (states_of nodes) (filter r (filter (λ v. not (fixed v)) (filter matters (ordered nodes g).order))) k q) (fun_ext (λ x. sym (product_over-shuffled (λ v. table_but nodes d p v x) (moved_T r))))
      ∙ sym (sum_over-shuffled (states_of nodes) (product_without nodes p d (filter r (filter matters (numbers_of nodes)))) (moved_V r) q)

  -- the totals in text order
  out_totals : product_over (λ v. pos (total_without nodes p d v)) (filter (λ v. not (matters v)) (ordered nodes g).order) ≡ pos (nat_product_over (total_without nodes p d) (filter (λ v. not (matters v)) (numbers_of nodes)))
  out_totals =
      sym (product_over-shuffled (λ v. pos (total_without nodes p d v)) (shuffled_filter (λ v. not (matters v)) (numbers_of nodes) (ordered nodes g).order apart (ordered nodes g).shuffled))
      ∙ pos_product (total_without nodes p d) (filter (λ v. not (matters v)) (numbers_of nodes))

  -- from text order to the list, apart, and back
  pub sums_separate : sum_worlds nodes (λ w. cond (agrees_at_fixed nodes fixed q w) (weight_without nodes p d w *ℤ f w) (pos 0))
      ≡ pos (nat_product_over (total_without nodes p d) (filter (λ v. not (matters v)) (numbers_of nodes)))
      *ℤ (sum_over (states_of nodes) (filter joined (filter (λ v. not (fixed v)) (filter matters (numbers_of nodes)))) (λ w. f w *ℤ product_without nodes p d (filter joined (filter matters (numbers_of nodes))) w) q
      *ℤ sum_over (states_of nodes) (filter (λ v. not (joined v)) (filter (λ v. not (fixed v)) (filter matters (numbers_of nodes)))) (product_without nodes p d (filter (λ v. not (joined v)) (filter matters (numbers_of nodes)))) q)
  sums_separate =
      sum_from (states_of nodes) (numbers_of nodes) (λ w. cond (agrees_at_fixed nodes fixed q w) (weight_without nodes p d w *ℤ f w) (pos 0)) (λ v. 0) q off_nodes
      ∙ sum_over-shuffled (states_of nodes) (λ w. cond (agrees_at_fixed nodes fixed q w) (weight_without nodes p d w *ℤ f w) (pos 0)) (ordered nodes g).shuffled q
      ∙ sum_over_cong (states_of nodes) (ordered nodes g).order (λ w. cond (agrees_at_fixed nodes fixed q w) (weight_without nodes p d w *ℤ f w) (pos 0))
      (λ w. agree F q w *ℤ (product_over (λ v. table_but nodes d p v w) (ordered nodes g).order *ℤ f w))
      (λ w iw. one_if-cond (agrees_at_fixed nodes fixed q w) (weight_without nodes p d w *ℤ f w)
      ∙ (λ i. agree_same w iw i *ℤ (product_over-shuffled (λ v. table_but nodes d p v w) (ordered nodes g).shuffled i *ℤ f w)))
      q iq
      ∙ sum_separated nodes (ordered nodes g).order setup (IsFixedBy fixed) (fixed_dec fixed) goal goal_live u.kind matters fixed joined tells_keep tells_given tells_first
      (table_but nodes d p) (but_looks nodes d p) f goal_looks (λ v. pos (total_without nodes p d v)) (λ v m. totals v)
      (apart_filter fixed (filter matters (ordered nodes g).order) (apart_filter matters (ordered nodes g).order setup.apart)) q iq q iq (λ v a. refl)
      ∙ (λ i. out_totals i *ℤ (group_sum f joined i *ℤ other_sum (λ v. not (joined v)) i))

-- for every diagram
pub separate_law : SumsSeparate
separate_law nodes p d fixed goal matters joined f q g c h u split looks iq = sums_separate nodes p d fixed goal matters joined f q g (tables_of nodes p g c h) u split looks iq

-- the facts may be decided for finitely many nodes
pub split_law : SplitExists
split_law nodes fixed goal none =
    tests (Matters nodes fixed goal) (numbers_of nodes) (λ matters.
    tests (HasWalk nodes fixed goal) (numbers_of nodes) (λ joined.
    none matters.0 joined.0 (record {
      matters_is = λ v l. told matters.0 (Matters nodes fixed goal) matters.1 v l;
      joined_is = λ v m. told joined.0 (HasWalk nodes fixed goal) joined.1 v m.live.within;
    })))
  where
    told : (r : ℕ → Bool) (P : ℕ → Type 0) → Tells r P (numbers_of nodes) → (v : ℕ) → v < length nodes → (r v ≡ true) ↔ P v
    told r P t v l = let m = number nodes v l in (t.yes v m, tells_true r P (numbers_of nodes) t v m)
