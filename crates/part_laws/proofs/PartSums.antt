-- A sum over the worlds of a diagram as one over the worlds of a part.
use Rattle.std.proofs.Common.{◌≡◌, ◌⊎◌, ◌∙◌, ℕ, ◌+◌, ◌<◌, Bool, true, false, not, cond, ◌&&◌, eqb, filter, List, [], ◌∷◌, ◌++◌, length, slice_index, slice_index_or, refl, sym, ap, subst, inl, inr, arith, ℤ, pos, ◌+ℤ◌, ◌*ℤ◌, ◌==◌}
use Rattle.std.proofs.Math.IntN.{+ℤ_idl}
use Rattle.std.proofs.lemmas.Int.{ints}
use Rattle.std.proofs.Math.Path.{fun_ext}
use Rattle.std.specs.List.{range_with_len, list_any}
use Rattle.maid_model.specs.Gains.{sum_worlds, weight, value_for, utility, gain_of, table_without, weight_without, value_below, utility_below, is_at, gain_at, mass_at}
use Rattle.maid_model.specs.Graph.{Arc, Descends, IsGraph, descends}
use Rattle.maid_model.specs.Nodes.{node_at, states_of, numbers_of, is_utility, is_utility_of, agent_of}
use Rattle.finite_sums.specs.Sums.{World, with_state, sum_over, sum_each, product_over}
use Rattle.maid_model.specs.Tables.{table, row_of}
use Rattle.maid_model.specs.Views.{NodeView, RuleView}
use Rattle.finite_sums.proofs.Counts.{true_or_false}
use Rattle.maid_model.proofs.Descent.{any_has, any_of, equal_from_test, path_from_test, test_from_path}
use Rattle.finite_sums.proofs.Ints.{mul_assoc, mul_comm, one_mul, zero_mul}
use Rattle.maid_model.proofs.Leaves.{sum_each_cong}
use Rattle.finite_sums.proofs.Lists.{avoids, among_filter, all_ignored, each_ignored, product_over-shuffled, sum_over-shuffled}
use Rattle.finite_sums.specs.Members.{Among, Shuffled, none, put}
use Rattle.finite_sums.specs.Looks.{Ignores}
use Rattle.maid_model.proofs.Setting.{HasTables}
use Rattle.finite_sums.proofs.Sums.{sum_over_cong, sum_over_append, sum_over_split, sum_over_mul, with_other, Ignores-mul, Ignores-add}
use Rattle.maid_model.proofs.Tables.{row_from_other}
use Rattle.finite_sums.proofs.Totals.{product_over-split, Ignores-product}
use Rattle.maid_model.specs.Parts.{is_in, place_in, part_of, rules_in, left_out, mass_left_out}
use Rattle.maid_laws.proofs.Basis.{LooksAtParents, table_looks, product_over-cong, among_filter_in}
use Rattle.maid_laws.proofs.Booleans.{not_both, bool_same, eqb_yes, eqb_no, eqb_same}
use Rattle.maid_laws.proofs.Grouped.{passes_not}
use Rattle.maid_laws.proofs.OneUtility.{table_but, but_looks}
use Rattle.part_laws.proofs.PartNodes.{Closed, length_part, node_is, node_new, states_is, row_is, table_is, descends_old, descends_new}
use Rattle.part_laws.proofs.Places.{at_place, place_below, place_at, among_at, all_places, product_over-map, sum_each-map, spread, sum_over_places}
use Rattle.maid_laws.proofs.Rearranged.{apart_filter, range_apart, shuffled_of, number, numbered, among_range}
use Rattle.maid_laws.proofs.TotalLaws.{totals_at}

-- ---- sums of which only some terms count
sum_each-front : (f : ℕ → ℤ) (us : List ℕ) (v : ℕ) (vs : List ℕ) → sum_each f (us ++ v ∷ vs) ≡ f v +ℤ sum_each f (us ++ vs)
sum_each-front f [] v vs = refl
sum_each-front f (u ∷ us) v vs = omega (arith, ints, sum_each-front f us v vs)

pub sum_each-shuffled : (f : ℕ → ℤ) {xs ys : List ℕ} → Shuffled xs ys → sum_each f xs ≡ sum_each f ys
sum_each-shuffled f none = refl
sum_each-shuffled f (put {x} front back s) = ap (λ y. f x +ℤ y) (sum_each-shuffled f s) ∙ sym (sum_each-front f front x back)

pub sum_each-some : (f : ℕ → ℤ) (p : ℕ → Bool) (vs : List ℕ) → ((v : ℕ) → Among v vs → p v ≡ false → f v ≡ pos 0) → sum_each f vs ≡ sum_each f (filter p vs)
sum_each-some f p [] h = refl
sum_each-some f p (v ∷ vs) h = go (p v) refl (sum_each-some f p vs (λ u m. h u (inr m)))
  where
    go : (b : Bool) → p v ≡ b → sum_each f vs ≡ sum_each f (filter p vs) → f v +ℤ sum_each f vs ≡ sum_each f (cond b (v ∷ filter p vs) (filter p vs))
    go true e r = ap (λ y. f v +ℤ y) r
    go false e r = (λ i. h v (inl refl) e i +ℤ r i) ∙ +ℤ_idl (sum_each f (filter p vs))

-- a test may be asked of a factor
pub cond_first : (b : Bool) (a u : ℤ) → cond b (a *ℤ u) (pos 0) ≡ cond b u (pos 0) *ℤ a
cond_first true a u = mul_comm a u
cond_first false a u = sym (zero_mul a)

-- both tests hold
pub and_both : (a b : Bool) → (a && b) ≡ true → (a ≡ true) × (b ≡ true)
and_both true b h = (refl, h)
and_both false b h = absurd (not_both false h refl)

-- the test of membership
pub in_test : (vs : List ℕ) (v : ℕ) → Among v vs → is_in vs v ≡ true
in_test vs v m = any_of (λ u. eqb u v) vs v m (eqb_yes v v refl)

pub test_in : (vs : List ℕ) (v : ℕ) → is_in vs v ≡ true → Among v vs
test_in vs v h = let r = any_has (λ u. eqb u v) vs h in subst (λ z. Among z vs) (equal_from_test r.0 v r.2) r.1

module _ (nodes : List NodeView) (kept : List ℕ) (c : Closed nodes kept) where
  abbrev pub ins : List ℕ
  ins = filter (is_in kept) (numbers_of nodes)

  pub ins_shuffled : Shuffled ins kept
  ins_shuffled =
      shuffled_of ins kept (apart_filter (is_in kept) (numbers_of nodes) (range_apart 0 (length nodes))) c.apart
      (λ v m. test_in kept v (among_filter (is_in kept) v (numbers_of nodes) m).1)
      (λ v m. among_filter_in (is_in kept) v (numbers_of nodes) (number nodes v (c.within v m)) (in_test kept v m))

  pub is_out : (v : ℕ) → Among v (left_out nodes kept) → ¬ (Among v kept)
  is_out v m k = not_both (is_in kept v) (in_test kept v k) (passes_not (is_in kept) v (among_filter (λ u. not (is_in kept u)) v (numbers_of nodes) m).1)

  is_member : (v : ℕ) → Among v ins → Among v kept
  is_member v m = test_in kept v (among_filter (is_in kept) v (numbers_of nodes) m).1

  -- the numbers of the part are the places
  pub place_in_range : (k : ℕ) → Among k (range_with_len 0 (length kept)) → k < length kept
  place_in_range k m = let l : k < 0 + length kept = among_range 0 (length kept) k m in omega arith

  pub numbers_part : numbers_of (part_of nodes kept) ≡ range_with_len 0 (length kept)
  numbers_part = ap (range_with_len 0) (length_part nodes kept c)

  -- sums and products over kept nodes
  pub product_of_part : (f g : ℕ → ℤ) → ((k : ℕ) → k < length kept → g k ≡ f (slice_index kept k)) → product_over f kept ≡ product_over g (numbers_of (part_of nodes kept))
  product_of_part f g h =
      ap (product_over f) (sym (all_places kept))
      ∙ product_over-map f (slice_index kept) (range_with_len 0 (length kept))
      ∙ product_over-cong (λ k. f (slice_index kept k)) g (range_with_len 0 (length kept)) (λ k m. sym (h k (place_in_range k m)))
      ∙ ap (product_over g) (sym numbers_part)

  pub sum_of_part : (f g : ℕ → ℤ) → ((k : ℕ) → k < length kept → g k ≡ f (slice_index kept k)) → sum_each f kept ≡ sum_each g (numbers_of (part_of nodes kept))
  sum_of_part f g h =
      ap (sum_each f) (sym (all_places kept))
      ∙ sum_each-map f (slice_index kept) (range_with_len 0 (length kept))
      ∙ sum_each_cong (λ k. f (slice_index kept k)) g (range_with_len 0 (length kept)) (λ k m. sym (h k (place_in_range k m)))
      ∙ ap (sum_each g) (sym numbers_part)

  -- a sum over all nodes of which those left out are nought
  pub sum_in : (f : ℕ → ℤ) → ((v : ℕ) → v < length nodes → ¬ (Among v kept) → f v ≡ pos 0) → sum_each f (numbers_of nodes) ≡ sum_each f kept
  sum_in f h =
      sum_each-some f (is_in kept) (numbers_of nodes) (λ v m e. h v (numbered nodes v m) (λ k. not_both (is_in kept v) (in_test kept v k) e))
      ∙ sum_each-shuffled f ins_shuffled

  -- a sum over the kept nodes' states is one over the worlds of the part
  pub worlds_of_part : (f : World → ℤ) → sum_over (states_of nodes) kept f (λ v. 0) ≡ sum_worlds (part_of nodes kept) (λ x. f (spread kept x))
  worlds_of_part f =
      ap (λ l. sum_over (states_of nodes) l f (λ v. 0)) (sym (all_places kept))
      ∙ sum_over_places kept c.apart (states_of nodes) (states_of (part_of nodes kept)) (states_is nodes kept c) (range_with_len 0 (length kept)) place_in_range f (λ v. 0)
      ∙ ap (λ l. sum_over (states_of (part_of nodes kept)) l (λ x. f (spread kept x)) (λ v. 0)) (sym numbers_part)

  module _ (g : IsGraph nodes) (p : List RuleView) (t : HasTables nodes p) where
    -- the tables of the nodes left out add up to their totals
    pub kept_sum : (tab : ℕ → World → ℤ) → LooksAtParents nodes tab → ((v : ℕ) → ¬ (Among v kept) → tab v ≡ table nodes p v)
        → (f : World → ℤ) → ((u : ℕ) → ¬ (Among u kept) → Ignores (states_of nodes) f u)
        → sum_worlds nodes (λ x. f x *ℤ product_over (λ v. tab v x) (numbers_of nodes))
        ≡ pos (mass_left_out nodes p kept) *ℤ sum_over (states_of nodes) kept (λ x. f x *ℤ product_over (λ v. tab v x) kept) (λ v. 0)
    kept_sum tab looks same f blind =
        sum_over_split (states_of nodes) (is_in kept) (numbers_of nodes) (λ x. f x *ℤ product_over (λ v. tab v x) (numbers_of nodes)) (λ v. 0)
        ∙ sum_over_append (states_of nodes) ins (left_out nodes kept) (λ x. f x *ℤ product_over (λ v. tab v x) (numbers_of nodes)) (λ v. 0)
        ∙ sum_over_cong (states_of nodes) ins (sum_over (states_of nodes) (left_out nodes kept) (λ x. f x *ℤ product_over (λ v. tab v x) (numbers_of nodes))) (λ x. pos (mass_left_out nodes p kept) *ℤ inner x)
        (λ x i. ap (λ h. sum_over (states_of nodes) (left_out nodes kept) h x) (fun_ext regroup)
        ∙ totals_at nodes p g t (left_out nodes kept) inner x (apart_filter (λ v. not (is_in kept v)) (numbers_of nodes) (range_apart 0 (length nodes)))
        (all_ignored (states_of nodes) inner (left_out nodes kept) (λ u m. inner_ignores u (is_out u m))) i
        ∙ mul_comm (inner x) (pos (mass_left_out nodes p kept)))
        (λ v. 0) (record { state = g.has_state })
        ∙ sum_over_mul (states_of nodes) ins (pos (mass_left_out nodes p kept)) inner (λ v. 0)
        ∙ ap (λ y. pos (mass_left_out nodes p kept) *ℤ y)
        (sum_over-shuffled (states_of nodes) inner ins_shuffled (λ v. 0)
        ∙ ap (λ h. sum_over (states_of nodes) kept h (λ v. 0)) (fun_ext (λ x. ap (λ y. f x *ℤ y) (product_over-shuffled (λ v. tab v x) ins_shuffled))))
      where
        inner : World → ℤ
        inner x = f x *ℤ product_over (λ v. tab v x) ins

        regroup : (x : World) → f x *ℤ product_over (λ v. tab v x) (numbers_of nodes) ≡ (f x *ℤ product_over (λ v. tab v x) ins) *ℤ product_over (λ v. table nodes p v x) (left_out nodes kept)
        regroup x =
            ap (λ y. f x *ℤ y) (product_over-split (λ v. tab v x) (is_in kept) (numbers_of nodes))
            ∙ sym (mul_assoc (f x) (product_over (λ v. tab v x) ins) (product_over (λ v. tab v x) (left_out nodes kept)))
            ∙ ap (λ y. (f x *ℤ product_over (λ v. tab v x) ins) *ℤ y) (product_over-cong (λ v. tab v x) (λ v. table nodes p v x) (left_out nodes kept) (λ v m. ap (λ h. h x) (same v (is_out v m))))

        inner_ignores : (u : ℕ) → ¬ (Among u kept) → Ignores (states_of nodes) (λ x. f x *ℤ product_over (λ v. tab v x) ins) u
        inner_ignores u n =
            Ignores-mul (states_of nodes) f (λ x. product_over (λ v. tab v x) ins) u (blind u n)
            (Ignores-product (states_of nodes) tab ins u (each_ignored (states_of nodes) tab ins (u ∷ []) (λ v m y k. subst (Ignores (states_of nodes) (tab v)) (sym (only y k)) (looks.others v u (λ e. n (subst (λ z. Among z kept) e (is_member v m))) (λ a. n (c.parents u v a (is_member v m)))))))
          where
            only : (y : ℕ) → Among y (u ∷ []) → y ≡ u
            only y (inl e) = e
            only y (inr k) = absurd k

    -- and what is left is a sum over the worlds of the part
    pub part_sum : (tab tabs : ℕ → World → ℤ) → LooksAtParents nodes tab → ((v : ℕ) → ¬ (Among v kept) → tab v ≡ table nodes p v)
        → ((k : ℕ) → k < length kept → (x : World) → tabs k x ≡ tab (slice_index kept k) (spread kept x))
        → (f fs : World → ℤ) → ((u : ℕ) → ¬ (Among u kept) → Ignores (states_of nodes) f u) → ((x : World) → fs x ≡ f (spread kept x))
        → sum_worlds nodes (λ x. f x *ℤ product_over (λ v. tab v x) (numbers_of nodes))
        ≡ pos (mass_left_out nodes p kept) *ℤ sum_worlds (part_of nodes kept) (λ x. fs x *ℤ product_over (λ k. tabs k x) (numbers_of (part_of nodes kept)))
    part_sum tab tabs looks same tabs_is f fs blind fs_is =
        kept_sum tab looks same f blind
        ∙ ap (λ y. pos (mass_left_out nodes p kept) *ℤ y)
        (worlds_of_part (λ x. f x *ℤ product_over (λ v. tab v x) kept)
        ∙ ap (sum_worlds (part_of nodes kept)) (fun_ext (λ x. λ i. sym (fs_is x) i *ℤ product_of_part (λ v. tab v (spread kept x)) (λ k. tabs k x) (λ k l. tabs_is k l x) i)))

    -- ---- utilities
    pub value_is : (agent k : ℕ) (x : World) → k < length kept → value_for (part_of nodes kept) agent k x ≡ value_for nodes agent (slice_index kept k) (spread kept x)
    value_is agent k x l = λ i. cond (is_utility (node_is nodes kept c k l i).kind && list_any (λ a. a == agent) ((node_is nodes kept c k l i).owner ∷ (node_is nodes kept c k l i).more)) (slice_index_or (node_is nodes kept c k l i).cells (row_is nodes kept c x k l i) (pos 0)) (pos 0)

    value_blind : (agent v u : ℕ) → Among v kept → ¬ (Among u kept) → Ignores (states_of nodes) (value_for nodes agent v) u
    value_blind agent v u m n = record {
      same = λ w i s l. ap (λ r. cond (is_utility_of nodes agent v) (slice_index_or (node_at nodes v).cells r (pos 0)) (pos 0)) (row_from_other (states_of nodes) w u s (node_at nodes v).parents (avoids u (node_at nodes v).parents (λ a. n (c.parents u v a m))) 0);
    }

    sum_blind : (h : ℕ → World → ℤ) (vs : List ℕ) (u : ℕ) → ((v : ℕ) → Among v vs → Ignores (states_of nodes) (h v) u) → Ignores (states_of nodes) (λ w. sum_each (λ v. h v w) vs) u
    sum_blind h [] u b = record { same = λ w i s l. refl }
    sum_blind h (v ∷ vs) u b = Ignores-add (states_of nodes) (h v) (λ w. sum_each (λ v. h v w) vs) u (b v (inl refl)) (sum_blind h vs u (λ y m. b y (inr m)))

    -- N of an agent all of whose utilities are kept
    pub gain_of_part : (agent : ℕ) → ((u : ℕ) → u < length nodes → is_utility_of nodes agent u ≡ true → Among u kept)
        → gain_of nodes p agent ≡ pos (mass_left_out nodes p kept) *ℤ gain_of (part_of nodes kept) (rules_in nodes p kept) agent
    gain_of_part agent all =
        ap (sum_worlds nodes) (fun_ext (λ x. mul_comm (weight nodes p x) (utility nodes agent x) ∙ ap (λ y. y *ℤ weight nodes p x) (in_kept x)))
        ∙ part_sum (table nodes p) (table (part_of nodes kept) (rules_in nodes p kept)) (table_looks nodes p) (λ v n. refl) (λ k l x. table_is nodes kept c p x k l)
        (λ w. sum_each (λ v. value_for nodes agent v w) kept) (utility (part_of nodes kept) agent)
        (λ u n. sum_blind (value_for nodes agent) kept u (λ v m. value_blind agent v u m n))
        (λ x. sym (sum_of_part (λ v. value_for nodes agent v (spread kept x)) (λ k. value_for (part_of nodes kept) agent k x) (λ k l. value_is agent k x l)))
        ∙ ap (λ h. pos (mass_left_out nodes p kept) *ℤ sum_worlds (part_of nodes kept) h) (fun_ext (λ x. mul_comm (utility (part_of nodes kept) agent x) (weight (part_of nodes kept) (rules_in nodes p kept) x)))
      where
        in_kept : (x : World) → utility nodes agent x ≡ sum_each (λ v. value_for nodes agent v x) kept
        in_kept x = sum_in (λ v. value_for nodes agent v x) (λ v l n. none v l n (true_or_false (is_utility_of nodes agent v)))
          where
            none : (v : ℕ) → v < length nodes → ¬ (Among v kept) → (is_utility_of nodes agent v ≡ true) ⊎ (is_utility_of nodes agent v ≡ false) → value_for nodes agent v x ≡ pos 0
            none v l n (inl e) = absurd (n (all v l e))
            none v l n (inr e) = ap (λ b. cond b (slice_index_or (node_at nodes v).cells (row_of nodes v x) (pos 0)) (pos 0)) e

    -- ---- at a decision
    module _ (d : ℕ) (d_in : Among d kept) where
      new_at : slice_index kept (place_in kept d) ≡ d
      new_at = at_place kept d d_in

      at_is : (state row : ℕ) (x : World) → is_at (part_of nodes kept) (place_in kept d) state row x ≡ is_at nodes d state row (spread kept x)
      at_is state row x = ap (λ r. eqb (x (place_in kept d)) state && eqb r row) (row_is nodes kept c x (place_in kept d) (place_below kept d d_in) ∙ ap (λ v. row_of nodes v (spread kept x)) new_at)

      at_blind : (state row u : ℕ) → ¬ (Among u kept) → (w : World) (s : ℕ) → is_at nodes d state row (with_state w u s) ≡ is_at nodes d state row w
      at_blind state row u n w s =
          λ i. eqb (with_other w u s d (λ e. n (subst (λ z. Among z kept) e d_in)) i) state && eqb (row_from_other (states_of nodes) w u s (node_at nodes d).parents (avoids u (node_at nodes d).parents (λ a. n (c.parents u d a d_in))) 0 i) row

      same_place : (k : ℕ) → k < length kept → eqb k (place_in kept d) ≡ eqb (slice_index kept k) d
      same_place k l =
          bool_same (eqb k (place_in kept d)) (eqb (slice_index kept k) d)
          (λ e. eqb_yes (slice_index kept k) d (ap (slice_index kept) (eqb_same k (place_in kept d) e) ∙ new_at))
          (λ e. eqb_yes k (place_in kept d) (sym (place_at kept c.apart k l) ∙ ap (place_in kept) (eqb_same (slice_index kept k) d e)))

      without_is : (k : ℕ) → k < length kept → (x : World) → table_without (part_of nodes kept) (rules_in nodes p kept) (place_in kept d) k x ≡ table_without nodes p d (slice_index kept k) (spread kept x)
      without_is k l x = λ i. cond (same_place k l i) (pos 1) (table_is nodes kept c p x k l i)

      without_out : (v : ℕ) → ¬ (Among v kept) → table_but nodes d p v ≡ table nodes p v
      without_out v n = ap (λ b. λ (w : World). cond b (pos 1) (table nodes p v w)) (eqb_no v d (λ e. n (subst (λ z. Among z kept) (sym e) d_in)))

      -- R of a kept decision
      pub mass_at_part : (row : ℕ) → mass_at nodes p d row ≡ pos (mass_left_out nodes p kept) *ℤ mass_at (part_of nodes kept) (rules_in nodes p kept) (place_in kept d) row
      mass_at_part row =
          ap (sum_worlds nodes) (fun_ext (λ x. as_factor (is_at nodes d 0 row x) (weight_without nodes p d x)))
          ∙ part_sum (table_but nodes d p) (table_without (part_of nodes kept) (rules_in nodes p kept) (place_in kept d)) (but_looks nodes d p) without_out without_is
          (λ w. cond (is_at nodes d 0 row w) (pos 1) (pos 0)) (λ x. cond (is_at (part_of nodes kept) (place_in kept d) 0 row x) (pos 1) (pos 0))
          (λ u n. record { same = λ w i s l. ap (λ b. cond b (pos 1) (pos 0)) (at_blind 0 row u n w s) })
          (λ x. ap (λ b. cond b (pos 1) (pos 0)) (at_is 0 row x))
          ∙ ap (λ h. pos (mass_left_out nodes p kept) *ℤ sum_worlds (part_of nodes kept) h) (fun_ext (λ x. sym (as_factor (is_at (part_of nodes kept) (place_in kept d) 0 row x) (weight_without (part_of nodes kept) (rules_in nodes p kept) (place_in kept d) x))))
        where
          as_factor : (b : Bool) (a : ℤ) → cond b a (pos 0) ≡ cond b (pos 1) (pos 0) *ℤ a
          as_factor true a = sym (one_mul a)
          as_factor false a = sym (zero_mul a)

      owner_is : agent_of (part_of nodes kept) (place_in kept d) ≡ agent_of nodes d
      owner_is = ap (λ n. n.owner) (node_new nodes kept c d d_in)

      below_same : (k : ℕ) → k < length kept → descends (part_of nodes kept) (place_in kept d) k ≡ descends nodes d (slice_index kept k)
      below_same k l =
          bool_same (descends (part_of nodes kept) (place_in kept d) k) (descends nodes d (slice_index kept k))
          (λ e. test_from_path nodes d (slice_index kept k) (subst (λ z. Descends (Arc nodes) z (slice_index kept k)) new_at (descends_old nodes kept c (place_in kept d) k (path_from_test (part_of nodes kept) (place_in kept d) k e))))
          (λ e. test_from_path (part_of nodes kept) (place_in kept d) k (subst (λ z. Descends (Arc (part_of nodes kept)) (place_in kept d) z) (place_at kept c.apart k l) (descends_new nodes kept c d (slice_index kept k) (path_from_test nodes d (slice_index kept k) e) (among_at kept k l))))

      below_is : (k : ℕ) (x : World) → k < length kept → value_below (part_of nodes kept) (place_in kept d) k x ≡ value_below nodes d (slice_index kept k) (spread kept x)
      below_is k x l =
          (λ i. cond (below_same k l i) (value_for (part_of nodes kept) (owner_is i) k x) (pos 0))
          ∙ ap (λ y. cond (descends nodes d (slice_index kept k)) y (pos 0)) (value_is (agent_of nodes d) k x l)

      below_blind : (v u : ℕ) → Among v kept → ¬ (Among u kept) → Ignores (states_of nodes) (value_below nodes d v) u
      below_blind v u m n = record { same = λ w i s l. ap (λ y. cond (descends nodes d v) y (pos 0)) ((value_blind (agent_of nodes d) v u m n).same w i s l) }

      -- G of a kept decision all of whose goals are kept
      pub gain_at_part : ((u : ℕ) → u < length nodes → is_utility_of nodes (agent_of nodes d) u ≡ true → descends nodes d u ≡ true → Among u kept) → (state row : ℕ)
          → gain_at nodes p d state row ≡ pos (mass_left_out nodes p kept) *ℤ gain_at (part_of nodes kept) (rules_in nodes p kept) (place_in kept d) state row
      gain_at_part all state row =
          ap (sum_worlds nodes) (fun_ext (λ x. cond_first (is_at nodes d state row x) (weight_without nodes p d x) (utility_below nodes d x) ∙ ap (λ y. cond (is_at nodes d state row x) y (pos 0) *ℤ weight_without nodes p d x) (in_kept x)))
          ∙ part_sum (table_but nodes d p) (table_without (part_of nodes kept) (rules_in nodes p kept) (place_in kept d)) (but_looks nodes d p) without_out without_is
          (λ w. cond (is_at nodes d state row w) (sum_each (λ v. value_below nodes d v w) kept) (pos 0)) (λ x. cond (is_at (part_of nodes kept) (place_in kept d) state row x) (utility_below (part_of nodes kept) (place_in kept d) x) (pos 0))
          (λ u n. record { same = λ w i s l. λ j. cond (at_blind state row u n w s j) ((sum_blind (value_below nodes d) kept u (λ v m. below_blind v u m n)).same w i s l j) (pos 0) })
          (λ x. λ j. cond (at_is state row x j) (sym (sum_of_part (λ v. value_below nodes d v (spread kept x)) (λ k. value_below (part_of nodes kept) (place_in kept d) k x) (λ k l. below_is k x l)) j) (pos 0))
          ∙ ap (λ h. pos (mass_left_out nodes p kept) *ℤ sum_worlds (part_of nodes kept) h)
          (fun_ext (λ x. sym (cond_first (is_at (part_of nodes kept) (place_in kept d) state row x) (weight_without (part_of nodes kept) (rules_in nodes p kept) (place_in kept d) x) (utility_below (part_of nodes kept) (place_in kept d) x))))
        where
          in_kept : (x : World) → utility_below nodes d x ≡ sum_each (λ v. value_below nodes d v x) kept
          in_kept x = sum_in (λ v. value_below nodes d v x) (λ v l n. none v l n (true_or_false (descends nodes d v)) (true_or_false (is_utility_of nodes (agent_of nodes d) v)))
            where
              none : (v : ℕ) → v < length nodes → ¬ (Among v kept) → (descends nodes d v ≡ true) ⊎ (descends nodes d v ≡ false) → (is_utility_of nodes (agent_of nodes d) v ≡ true) ⊎ (is_utility_of nodes (agent_of nodes d) v ≡ false) → value_below nodes d v x ≡ pos 0
              none v l n (inr e) k = ap (λ b. cond b (value_for nodes (agent_of nodes d) v x) (pos 0)) e
              none v l n (inl e) (inl k) = absurd (n (all v l k e))
              none v l n (inl e) (inr k) = ap (λ b. cond b (value_for nodes (agent_of nodes d) v x) (pos 0)) e ∙ ap (λ b. cond b (slice_index_or (node_at nodes v).cells (row_of nodes v x) (pos 0)) (pos 0)) k
