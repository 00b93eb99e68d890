-- The law of separation: given any fixed nodes, the tables from which an active walk leads to a
-- utility and the others share no free node, so a sum over worlds is a product of two sums.
use Rattle.std.proofs.Common.{◌≡◌, ◌⊎◌, ℕ, Bool, true, not, filter, List, refl, sym, subst, inl, inr, ℤ, ◌*ℤ◌}
use Rattle.maid_model.specs.declared.diagrams.Kind.TheVariants.{Utility}
use Rattle.maid_model.specs.Relevance.{IsLive}
use Rattle.maid_model.specs.Nodes.{node_at, states_of}
use Rattle.finite_sums.specs.Sums.{World, sum_over, product_over, InRange}
use Rattle.maid_model.specs.Views.{NodeView}
use Rattle.finite_sums.specs.Members.{Among}
use Rattle.finite_sums.specs.Looks.{Ignores, IgnoresAll, EachIgnoresAll, HasTotal}
use Rattle.finite_sums.specs.Members.{Avoids}
use Rattle.finite_sums.proofs.Lists.{among_filter, all_ignored, each_ignored}
use Rattle.maid_laws.proofs.Notions.{IsParent}
use Rattle.maid_laws.proofs.Basis.{Setup, Tells, LooksAtParents, later_general, have_totals, unless_live, among_filter_in, tells_true}
use Rattle.maid_laws.proofs.Collapse.{agree, Apart}
use Rattle.maid_laws.proofs.Leads.{Leads, ends, Reaches, at_given, at_goal, onward, separated}
use Rattle.maid_laws.proofs.Grouped.{grouped, passes_not}
use Rattle.maid_laws.proofs.Relies.{no_utility_child}

module _ (nodes : List NodeView) (order : List ℕ) (setup : Setup nodes order) (Fixed : ℕ → Type 0) (decide : (x : ℕ) → Dec (Fixed x))
    (goal : ℕ) (goal_live : IsLive nodes goal) (goal_kind : (node_at nodes goal).kind ≡ Utility)
    (keep given first : ℕ → Bool)
    (tells_keep : Tells keep (λ v. IsLive nodes v × Reaches (IsParent nodes) (IsLive nodes) Fixed goal v) order)
    (tells_given : Tells given Fixed order)
    (tells_first : Tells first (Leads (IsParent nodes) (IsLive nodes) Fixed goal true) (filter keep order)) where
  -- the live nodes from which a path leads to a fixed node or to the goal, and the others
  abbrev pub K : List ℕ
  K = filter keep order

  abbrev pub O : List ℕ
  O = filter (λ v. not (keep v)) order

  -- the fixed ones, and the free ones
  abbrev pub F : List ℕ
  F = filter given K

  abbrev pub V : List ℕ
  V = filter (λ v. not (given v)) K

  -- the free ones from which a walk leads, and the other free ones
  abbrev pub V1 : List ℕ
  V1 = filter first V

  abbrev pub V2 : List ℕ
  V2 = filter (λ v. not (first v)) V

  -- the tables from which a walk leads, and the others
  abbrev pub T1 : List ℕ
  T1 = filter first K

  abbrev pub T2 : List ℕ
  T2 = filter (λ v. not (first v)) K

  -- a path reaches, and a walk leads
  abbrev R : ℕ → Type 0
  R v = Reaches (IsParent nodes) (IsLive nodes) Fixed goal v

  abbrev G : ℕ → Type 0
  G v = Leads (IsParent nodes) (IsLive nodes) Fixed goal true v

  -- what the lists have
  pub in_K : (v : ℕ) → Among v K → Among v order × (IsLive nodes v) × (R v)
  in_K v m = let a = among_filter keep v order m in let b = tells_keep.yes v a.0 a.1 in (a.0, b.0, b.1)

  pub in_O : (v : ℕ) → Among v O → Among v order × ¬ (IsLive nodes v × R v)
  in_O v m = let a = among_filter (λ u. not (keep u)) v order m in (a.0, tells_keep.no v a.0 (passes_not keep v a.1))

  in_V : (v : ℕ) → Among v V → Among v K × ¬ (Fixed v)
  in_V v m = let a = among_filter (λ u. not (given u)) v K m in (a.0, tells_given.no v (in_K v a.0).0 (passes_not given v a.1))

  pub in_T1 : (v : ℕ) → Among v T1 → Among v K × G v
  in_T1 v m = let a = among_filter first v K m in (a.0, tells_first.yes v a.0 a.1)

  pub in_T2 : (v : ℕ) → Among v T2 → Among v K × ¬ (G v)
  in_T2 v m = let a = among_filter (λ u. not (first u)) v K m in (a.0, tells_first.no v a.0 (passes_not first v a.1))

  in_V1 : (v : ℕ) → Among v V1 → Among v V × G v
  in_V1 v m = let a = among_filter first v V m in (a.0, tells_first.yes v (in_V v a.0).0 a.1)

  in_V2 : (v : ℕ) → Among v V2 → Among v V × ¬ (G v)
  in_V2 v m = let a = among_filter (λ u. not (first u)) v V m in (a.0, tells_first.no v (in_V v a.0).0 (passes_not first v a.1))

  pub in_F : (o : ℕ) → Among o F → Fixed o
  in_F o m = let a = among_filter given o K m in tells_given.yes o (in_K o a.0).0 a.1

  -- each live fixed node is summed over nowhere
  pub live_in_F : (u : ℕ) → IsLive nodes u → Fixed u → Among u F
  live_in_F u lu g =
      let m = setup.all u lu.within in
      among_filter_in given u K (among_filter_in keep u order m (tells_true keep (λ v. IsLive nodes v × R v) order tells_keep u m (lu, at_given g)))
      (tells_true given Fixed order tells_given u m g)

  -- a utility has no children
  pub no_child : (c : ℕ) → ¬ (IsParent nodes goal c)
  no_child = no_utility_child nodes order setup goal goal_kind

  -- a free node that two kept tables look at puts both into one group
  apart : (x y z : ℕ) → G x → IsLive nodes x → Among z V → (z ≡ x) ⊎ IsParent nodes z x → (z ≡ y) ⊎ IsParent nodes z y → IsLive nodes y → R y → G y
  apart x y z h lx m sx sy ly r =
      let b = in_V z m in
      separated (IsParent nodes) (IsLive nodes) Fixed goal decide no_child x y z h lx (in_K z b.0).1 b.1 sx sy ly r

  module _ (table : ℕ → World → ℤ) (looks : LooksAtParents nodes table) where
    closed : EachIgnoresAll (states_of nodes) table K O
    closed = each_ignored (states_of nodes) table K O (λ v m u k.
        let a = in_K v m in
        let b = in_O u k in
        unless_live nodes (table v) u (setup.inside u b.0) (λ lu.
        looks.others v u (λ e. b.1 (lu, subst R e a.2)) (λ c. b.1 (lu, onward c a.1 a.2))))

    first_ignores : EachIgnoresAll (states_of nodes) table T1 V2
    first_ignores = each_ignored (states_of nodes) table T1 V2 (λ v m u k.
        let a = in_T1 v m in
        let b = in_V2 u k in
        let bk = in_K u (in_V u b.0).0 in
        looks.others v u (λ e. b.1 (subst G e a.1)) (λ c. b.1 (apart v u u a.1 (in_K v a.0).1 b.0 (inr c) (inl refl) bk.1 bk.2)))

    second_ignores : EachIgnoresAll (states_of nodes) table T2 V1
    second_ignores = each_ignored (states_of nodes) table T2 V1 (λ v m u k.
        let a = in_T2 v m in
        let ak = in_K v a.0 in
        let b = in_V1 u k in
        looks.others v u (λ e. a.1 (subst G (sym e) b.1)) (λ c. a.1 (apart u v u b.1 (in_K u (in_V u b.0).0).1 b.0 (inl refl) (inr c) ak.1 ak.2)))

    -- f looks at the goal's parents alone
    module _ (f : World → ℤ) (f_looks : (u : ℕ) → ¬ (IsParent nodes u goal) → Ignores (states_of nodes) f u) where
      f_out : IgnoresAll (states_of nodes) f O
      f_out = all_ignored (states_of nodes) f O (λ u m.
          let b = in_O u m in
          unless_live nodes f u (setup.inside u b.0) (λ lu. f_looks u (λ c. b.1 (lu, onward c goal_live at_goal))))

      f_second : IgnoresAll (states_of nodes) f V2
      f_second = all_ignored (states_of nodes) f V2 (λ u m.
          let b = in_V2 u m in
          let bk = in_K u (in_V u b.0).0 in
          f_looks u (λ c. b.1 (apart goal u u ends goal_live b.0 (inr c) (inl refl) bk.1 bk.2)))

      -- The sum over the worlds with q's states at the fixed nodes.
      pub sum_separated : (total : ℕ → ℤ) → ((v : ℕ) → Among v O → HasTotal (states_of nodes) table total v) → Apart F
          → (q : World) → InRange (states_of nodes) q → (w : World) → InRange (states_of nodes) w → ((v : ℕ) → Avoids v F → w v ≡ q v)
          → sum_over (states_of nodes) order (λ x. agree F q x *ℤ (product_over (λ v. table v x) order *ℤ f x)) w
          ≡ product_over total O *ℤ (sum_over (states_of nodes) V1 (λ x. f x *ℤ product_over (λ v. table v x) T1) q *ℤ sum_over (states_of nodes) V2 (λ x. product_over (λ v. table v x) T2) q)
      sum_separated total totals apart_F q iq w iw elsewhere =
          grouped (states_of nodes) table total keep given first order f q w
          closed f_out (later_general nodes table looks (λ v. not (keep v)) order setup.parents_first) (have_totals (states_of nodes) table total O totals)
          first_ignores f_second second_ignores apart_F iq iw elsewhere
