-- No sum over a scope's part exceeds its bound.
use Rattle.std.proofs.Common.{◌≡◌, ◌≢◌, ◌∙◌, ℕ, zero, suc, ◌+◌, ◌*◌, ◌^◌, ◌<◌, ◌≤◌, max, Bool, true, false, cond, ◌&&◌, eqb, filter, List, [], ◌∷◌, length, slice_index, slice_index_or, refl, sym, ap, subst, inl, inr, arith, ℤ, pos, negsuc, ◌+ℤ◌, ◌*ℤ◌, ◌≤ℤ◌, nat_abs}
use Rattle.std.proofs.lemmas.Int.{ints, unsigned_abs-mul}
use Rattle.std.proofs.Math.Decide.{ℕ_discrete}
use Rattle.std.proofs.Math.Nat.{mul-le-mul_left, mul-le-mul_right, one-le-pow}
use Rattle.std.proofs.Math.Path.{fun_ext}
use Rattle.std.specs.List.{range_with_len}
use Rattle.maid_model.specs.declared.diagrams.Kind.{Kind}
use Rattle.maid_model.specs.declared.diagrams.Kind.TheVariants.{Chance, Decision, Utility}
use Rattle.maid_model.specs.Bounds.{bound_by, bound_factor}
use Rattle.maid_model.specs.Gains.{sum_worlds, weight, mass, value_for, utility, gain_of, table_without, weight_without, value_below, utility_below, is_at, gain_at, mass_at, greatest_abs, greatest_utility, base_total, base_mass}
use Rattle.maid_model.specs.Graph.{Arc, IsPath, Here, Along, IsGraph, descends}
use Rattle.maid_model.specs.Nodes.{IsDecision, node_at, states_of, numbers_of, is_utility, is_utility_of, owns, agent_of}
use Rattle.maid_model.specs.Profiles.{IsProfile}
use Rattle.finite_sums.specs.Sums.{World, InRange, with_state, sum_below, sum_over, sum_each, nat_product_over, nat_sum_over}
use Rattle.maid_model.specs.Tables.{HasChanceTables, table, row_of, weight_total, total_by, chance_total, rule_total}
use Rattle.maid_model.specs.Views.{NodeView, RuleView}
use Rattle.maid_model.proofs.Weighing.{product_positive}
use Rattle.finite_sums.proofs.Lists.{among_filter, product_over-shuffled, sum_over-shuffled}
use Rattle.finite_sums.specs.Members.{Among}
use Rattle.finite_sums.specs.Looks.{HasTotal}
use Rattle.maid_model.proofs.Setting.{HasTables}
use Rattle.maid_model.proofs.Summing.{abs_add}
use Rattle.finite_sums.proofs.Sums.{sum_over_mul, with_in}
use Rattle.finite_sums.proofs.Totals.{sum_over_totals}
use Rattle.maid_model.specs.Parts.{leads_to, with_ancestors, place_in, part_of, rules_in}
use Rattle.maid_model.specs.Scopes.{goals_of, utilities_for, scope_of, scope_for, scope_product, scope_product_for, chance_factor_by, greatest_of, scope_bound, scope_bound_for}
use Rattle.maid_model.proofs.Adding.{products_not_negative}
use Rattle.part_laws.specs.ScopeLaws.{SumsOfScopesFit, SumsOfAgentsScopesFit}
use Rattle.maid_laws.proofs.Basis.{have_totals, among_filter_in}
use Rattle.maid_laws.proofs.Booleans.{bool_same, eqb_yes, eqb_no}
use Rattle.part_laws.proofs.NaturalSums.{some_sum, same_sum, product_le}
use Rattle.maid_laws.proofs.OneUtility.{table_but, but_looks}
use Rattle.maid_laws.proofs.Orders.{ordered}
use Rattle.part_laws.proofs.PartNodes.{Closed, closed_of, node_is, states_new, weight_total_is, graph_is, tables_are, profile_is}
use Rattle.part_laws.proofs.PartSums.{and_both, place_in_range, numbers_part}
use Rattle.part_laws.proofs.PartLaws.{path_of_test, test_of_path}
use Rattle.part_laws.proofs.ScopeLaws.{scope_closed, scope_has, scope_for_closed}
use Rattle.part_laws.proofs.Places.{at_place, place_at, all_places, nat_product_over-map, nat_sum_over-map}
use Rattle.maid_laws.proofs.Proportions.{kind_of_utility}
use Rattle.maid_laws.proofs.Rearranged.{number, numbered}
use Rattle.maid_laws.proofs.Tied.{decision_of, tables_of}
use Rattle.maid_laws.proofs.Profiles.{sum_ones}
use Rattle.maid_laws.proofs.Signs.{table_not_negative, pos_product}
use Rattle.maid_laws.proofs.Summed.{later_all}
use Rattle.maid_laws.proofs.TotalLaws.{has_total, weights_law}

-- ---- sizes of sums
-- a sum is at most the sum of greater terms
below_le : (n : ℕ) (f g : ℕ → ℤ) → ((i : ℕ) → i < n → pos (nat_abs (f i)) ≤ℤ g i) → pos (nat_abs (sum_below n f)) ≤ℤ sum_below n g
below_le zero f g h = omega (arith, ints)
below_le (suc n) f g h =
    let a : pos (nat_abs (sum_below n f)) ≤ℤ sum_below n g = below_le n f g (λ i l. h i (omega arith)) in
    let b : pos (nat_abs (f n)) ≤ℤ g n = h n (omega arith) in
    go (nat_abs (sum_below n f +ℤ f n)) (nat_abs (sum_below n f)) (nat_abs (f n)) (sum_below n g) (g n) (abs_add (sum_below n f) (f n)) a b
  where
    go : (z x y : ℕ) (s t : ℤ) → z ≤ x + y → pos x ≤ℤ s → pos y ≤ℤ t → pos z ≤ℤ (s +ℤ t)
    go z x y s t h j k = omega (arith, ints)

pub over_le : (count : ℕ → ℕ) (vs : List ℕ) (f g : World → ℤ) → ((w : World) → InRange count w → pos (nat_abs (f w)) ≤ℤ g w) → (w : World) → InRange count w → pos (nat_abs (sum_over count vs f w)) ≤ℤ sum_over count vs g w
over_le count [] f g h w i = h w i
over_le count (v ∷ vs) f g h w i =
    below_le (count v) (λ s. sum_over count vs f (with_state w v s)) (λ s. sum_over count vs g (with_state w v s))
    (λ s l. over_le count vs f g h (with_state w v s) (with_in count w v s i l))

each_le : (f : ℕ → ℤ) (t : ℕ → ℕ) (vs : List ℕ) → ((v : ℕ) → nat_abs (f v) ≤ t v) → nat_abs (sum_each f vs) ≤ nat_sum_over t vs
each_le f t [] h = omega arith
each_le f t (v ∷ vs) h = go (nat_abs (f v +ℤ sum_each f vs)) (nat_abs (f v)) (nat_abs (sum_each f vs)) (t v) (nat_sum_over t vs) (abs_add (f v) (sum_each f vs)) (h v) (each_le f t vs h)
  where
    go : (y a b c e : ℕ) → y ≤ a + b → a ≤ c → b ≤ e → y ≤ c + e
    go y a b c e h j k = omega arith

-- a cell is at most the greatest
cell_le : (cells : List ℤ) (r : ℕ) → nat_abs (slice_index_or cells r (pos 0)) ≤ greatest_abs cells
cell_le [] r = omega arith
cell_le (x ∷ xs) zero = omega arith
cell_le (x ∷ xs) (suc r) = let h : nat_abs (slice_index_or xs r (pos 0)) ≤ greatest_abs xs = cell_le xs r in omega arith

-- a weight times a value of at most s
weighted_le : (a u : ℤ) (s : ℕ) → pos 0 ≤ℤ a → nat_abs u ≤ s → pos (nat_abs (a *ℤ u)) ≤ℤ (pos s *ℤ a)
weighted_le (negsuc a) u s h k = absurd (omega (arith, ints))
weighted_le (pos a) u s h k =
    let e : nat_abs (pos a *ℤ u) ≡ a * nat_abs u = unsigned_abs-mul (pos a) u in
    let l : a * nat_abs u ≤ a * s = mul-le-mul_left a k in
    go (nat_abs (pos a *ℤ u)) (a * nat_abs u) (a * s) e l (product_is_nat a s)
  where
    product_is_nat : (a s : ℕ) → pos s *ℤ pos a ≡ pos (a * s)
    product_is_nat a s = omega (arith, ints)

    go : (x y z : ℕ) → x ≡ y → y ≤ z → pos s *ℤ pos a ≡ pos z → pos x ≤ℤ (pos s *ℤ pos a)
    go x y z e l f = omega (arith, ints)

-- a term that counts only in some worlds
some_le : (b : Bool) (x y : ℤ) → pos 0 ≤ℤ y → pos (nat_abs x) ≤ℤ y → pos (nat_abs (cond b x (pos 0))) ≤ℤ y
some_le true x y h k = k
some_le false x y h k = h

-- a scaled weight is not below nought
scaled_positive : (s : ℕ) (a : ℤ) → pos 0 ≤ℤ a → pos 0 ≤ℤ (pos s *ℤ a)
scaled_positive s (pos a) h = omega (arith, ints)
scaled_positive s (negsuc a) h = absurd (omega (arith, ints))

-- what is not below nought is its own size
own_size : (a : ℤ) → pos 0 ≤ℤ a → pos (nat_abs a) ≤ℤ a
own_size (pos a) h = omega (arith, ints)
own_size (negsuc a) h = absurd (omega (arith, ints))

-- from whole numbers to numbers
as_number : (x b s : ℕ) → pos x ≤ℤ (pos s *ℤ pos b) → x ≤ b * s
as_number x b s h = omega (arith, ints)

as_one : (x b : ℕ) → pos x ≤ℤ pos b → x ≤ b
as_one x b h = omega (arith, ints)

module _ (nodes : List NodeView) (g : IsGraph nodes) (p : List RuleView) (t : HasTables nodes p) where
  value_le : (agent v : ℕ) (w : World) → nat_abs (value_for nodes agent v w) ≤ cond (is_utility (node_at nodes v).kind) (greatest_abs (node_at nodes v).cells) 0
  value_le agent v w = go (is_utility (node_at nodes v).kind) (owns nodes agent v)
    where
      go : (a b : Bool) → nat_abs (cond (a && b) (slice_index_or (node_at nodes v).cells (row_of nodes v w) (pos 0)) (pos 0)) ≤ cond a (greatest_abs (node_at nodes v).cells) 0
      go true true = cell_le (node_at nodes v).cells (row_of nodes v w)
      go true false = omega arith
      go false b = omega arith

  utility_le : (agent : ℕ) (w : World) → nat_abs (utility nodes agent w) ≤ greatest_utility nodes
  utility_le agent w = each_le (λ v. value_for nodes agent v w) (λ v. cond (is_utility (node_at nodes v).kind) (greatest_abs (node_at nodes v).cells) 0) (numbers_of nodes) (λ v. value_le agent v w)

  below_utility_le : (d : ℕ) (w : World) → nat_abs (utility_below nodes d w) ≤ greatest_utility nodes
  below_utility_le d w = each_le (λ v. value_below nodes d v w) (λ v. cond (is_utility (node_at nodes v).kind) (greatest_abs (node_at nodes v).cells) 0) (numbers_of nodes) (λ v. go (descends nodes d v) v)
    where
      go : (b : Bool) (v : ℕ) → nat_abs (cond b (value_for nodes (agent_of nodes d) v w) (pos 0)) ≤ cond (is_utility (node_at nodes v).kind) (greatest_abs (node_at nodes v).cells) 0
      go true v = value_le (agent_of nodes d) v w
      go false v = omega arith

  range : InRange (states_of nodes) (λ v. 0)
  range = record { state = g.has_state }

  without_positive : (d : ℕ) (w : World) → pos 0 ≤ℤ weight_without nodes p d w
  without_positive d w = products_not_negative (λ v. table_without nodes p d v w) (numbers_of nodes) (λ v m. go (eqb v d) v)
    where
      go : (b : Bool) (v : ℕ) → pos 0 ≤ℤ cond b (pos 1) (table nodes p v w)
      go true v = omega (arith, ints)
      go false v = table_not_negative nodes p t v w

  weight_positive : (w : World) → pos 0 ≤ℤ weight nodes p w
  weight_positive w = products_not_negative (λ v. table nodes p v w) (numbers_of nodes) (λ v m. table_not_negative nodes p t v w)

  -- the weights without d's rule add up
  but_has_total : (d v : ℕ) → HasTotal (states_of nodes) (table_but nodes d p) (λ v. pos (base_total nodes p d v)) v
  but_has_total d v = go (ℕ_discrete v d)
    where
      go : Dec (v ≡ d) → HasTotal (states_of nodes) (table_but nodes d p) (λ v. pos (base_total nodes p d v)) v
      go (yes e) = record {
        sums = λ w i.
            ap (λ b. sum_below (states_of nodes v) (λ s. cond b (pos 1) (table nodes p v (with_state w v s)))) (eqb_yes v d e)
            ∙ sum_ones nodes (states_of nodes v) ∙ ap (λ u. pos (states_of nodes u)) e
            ∙ sym (ap (λ b. pos (cond b (states_of nodes d) (weight_total nodes p v))) (eqb_yes v d e));
      }
      go (no n) = record {
        sums = λ w i.
            ap (λ b. sum_below (states_of nodes v) (λ s. cond b (pos 1) (table nodes p v (with_state w v s)))) (eqb_no v d n)
            ∙ (has_total nodes p g t v).sums w i
            ∙ sym (ap (λ b. pos (cond b (states_of nodes d) (weight_total nodes p v))) (eqb_no v d n));
      }

  pub without_sum : (d : ℕ) → sum_worlds nodes (weight_without nodes p d) ≡ pos (base_mass nodes p d)
  without_sum d =
      let o = ordered nodes g in
      sum_over-shuffled (states_of nodes) (weight_without nodes p d) o.shuffled (λ v. 0)
      ∙ ap (λ h. sum_over (states_of nodes) o.order h (λ v. 0)) (fun_ext (λ w. product_over-shuffled (λ v. table_but nodes d p v w) o.shuffled))
      ∙ sum_over_totals (states_of nodes) (table_but nodes d p) (λ v. pos (base_total nodes p d v)) o.order (later_all nodes (table_but nodes d p) (but_looks nodes d p) o.order o.parents_first)
      (have_totals (states_of nodes) (table_but nodes d p) (λ v. pos (base_total nodes p d v)) o.order (λ v m. but_has_total d v)) (λ v. 0) range
      ∙ sym (product_over-shuffled (λ v. pos (base_total nodes p d v)) o.shuffled)
      ∙ pos_product (base_total nodes p d) (numbers_of nodes)

  -- G, R and N are at most the mass times the greatest utility
  pub gain_at_le : (d state row : ℕ) → nat_abs (gain_at nodes p d state row) ≤ base_mass nodes p d * greatest_utility nodes
  gain_at_le d state row =
      as_number (nat_abs (gain_at nodes p d state row)) (base_mass nodes p d) (greatest_utility nodes)
      (subst (λ z. pos (nat_abs (gain_at nodes p d state row)) ≤ℤ z)
      (sum_over_mul (states_of nodes) (numbers_of nodes) (pos (greatest_utility nodes)) (weight_without nodes p d) (λ v. 0) ∙ ap (λ z. pos (greatest_utility nodes) *ℤ z) (without_sum d))
      (over_le (states_of nodes) (numbers_of nodes) (λ w. cond (is_at nodes d state row w) (weight_without nodes p d w *ℤ utility_below nodes d w) (pos 0)) (λ w. pos (greatest_utility nodes) *ℤ weight_without nodes p d w)
      (λ w i. some_le (is_at nodes d state row w) (weight_without nodes p d w *ℤ utility_below nodes d w) (pos (greatest_utility nodes) *ℤ weight_without nodes p d w)
      (scaled_positive (greatest_utility nodes) (weight_without nodes p d w) (without_positive d w))
      (weighted_le (weight_without nodes p d w) (utility_below nodes d w) (greatest_utility nodes) (without_positive d w) (below_utility_le d w)))
      (λ v. 0) range))

  pub mass_at_le : (d row : ℕ) → nat_abs (mass_at nodes p d row) ≤ base_mass nodes p d
  mass_at_le d row =
      as_one (nat_abs (mass_at nodes p d row)) (base_mass nodes p d)
      (subst (λ z. pos (nat_abs (mass_at nodes p d row)) ≤ℤ z) (without_sum d)
      (over_le (states_of nodes) (numbers_of nodes) (λ w. cond (is_at nodes d 0 row w) (weight_without nodes p d w) (pos 0)) (weight_without nodes p d)
      (λ w i. some_le (is_at nodes d 0 row w) (weight_without nodes p d w) (weight_without nodes p d w) (without_positive d w) (own_size (weight_without nodes p d w) (without_positive d w)))
      (λ v. 0) range))

  pub gain_of_le : (agent : ℕ) → sum_worlds nodes (weight nodes p) ≡ pos (mass nodes p) → nat_abs (gain_of nodes p agent) ≤ mass nodes p * greatest_utility nodes
  gain_of_le agent total =
      as_number (nat_abs (gain_of nodes p agent)) (mass nodes p) (greatest_utility nodes)
      (subst (λ z. pos (nat_abs (gain_of nodes p agent)) ≤ℤ z)
      (sum_over_mul (states_of nodes) (numbers_of nodes) (pos (greatest_utility nodes)) (weight nodes p) (λ v. 0) ∙ ap (λ z. pos (greatest_utility nodes) *ℤ z) total)
      (over_le (states_of nodes) (numbers_of nodes) (λ w. weight nodes p w *ℤ utility nodes agent w) (λ w. pos (greatest_utility nodes) *ℤ weight nodes p w)
      (λ w i. weighted_le (weight nodes p w) (utility nodes agent w) (greatest_utility nodes) (weight_positive w) (utility_le agent w))
      (λ v. 0) range))

-- ---- the numbers of a part against those of the whole
both_tests : (a b : Bool) (x : ℕ) → cond a (cond b x 0) 0 ≡ cond (a && b) x 0
both_tests true b x = refl
both_tests false b x = refl

module _ (nodes : List NodeView) (g : IsGraph nodes) (of : List ℕ) (goal : ℕ → Bool)
    (toward : (v : ℕ) → Among v of → (node_at nodes v).kind ≡ Utility → goal v ≡ true)
    (back : (v : ℕ) → v < length nodes → goal v ≡ true → Among v of × (is_utility (node_at nodes v).kind ≡ true)) where
  -- a utility is kept only where it is listed: no path leads on from it
  utility_kept : (v : ℕ) → (leads_to nodes of v && is_utility (node_at nodes v).kind) ≡ true → goal v ≡ true
  utility_kept v h =
      let a = and_both (leads_to nodes of v) (is_utility (node_at nodes v).kind) h in
      let r = path_of_test nodes of v a.0 in
      go r.0 v (kind_of_utility (node_at nodes v).kind a.1) r.1 r.2
    where
      go : (u v : ℕ) → (node_at nodes v).kind ≡ Utility → Among u of → IsPath (Arc nodes) v u → goal v ≡ true
      go u v k m Here = toward v m k
      go u v k m (Along {v = n} a h) = absurd (g.no_utility_parent v n a k)

  goal_kept : (v : ℕ) → v < length nodes → goal v ≡ true → (leads_to nodes of v && is_utility (node_at nodes v).kind) ≡ true
  goal_kept v l h = let r = back v l h in λ i. test_of_path nodes of v v r.0 Here i && r.1 i

  kept_utilities : nat_sum_over (λ v. cond (is_utility (node_at nodes v).kind) (greatest_abs (node_at nodes v).cells) 0) (with_ancestors nodes of) ≡ greatest_of nodes (filter goal (numbers_of nodes))
  kept_utilities =
      some_sum (λ v. cond (is_utility (node_at nodes v).kind) (greatest_abs (node_at nodes v).cells) 0) (leads_to nodes of) (numbers_of nodes)
      ∙ same_sum (λ v. cond (leads_to nodes of v) (cond (is_utility (node_at nodes v).kind) (greatest_abs (node_at nodes v).cells) 0) 0) (λ v. cond (goal v) (greatest_abs (node_at nodes v).cells) 0) (numbers_of nodes)
      (λ v m. both_tests (leads_to nodes of v) (is_utility (node_at nodes v).kind) (greatest_abs (node_at nodes v).cells)
      ∙ ap (λ b. cond b (greatest_abs (node_at nodes v).cells) 0) (bool_same (leads_to nodes of v && is_utility (node_at nodes v).kind) (goal v) (utility_kept v) (goal_kept v (numbered nodes v m))))
      ∙ sym (some_sum (λ v. greatest_abs (node_at nodes v).cells) goal (numbers_of nodes))

module _ (nodes : List NodeView) (kept : List ℕ) (c : Closed nodes kept) where
  part_number : (k : ℕ) → Among k (numbers_of (part_of nodes kept)) → k < length kept
  part_number k m = place_in_range nodes kept c k (subst (Among k) (numbers_part nodes kept c) m)

  product_part : (f : ℕ → ℕ) → nat_product_over (λ k. f (slice_index kept k)) (numbers_of (part_of nodes kept)) ≡ nat_product_over f kept
  product_part f =
      ap (nat_product_over (λ k. f (slice_index kept k))) (numbers_part nodes kept c)
      ∙ sym (nat_product_over-map f (slice_index kept) (range_with_len 0 (length kept)))
      ∙ ap (nat_product_over f) (all_places kept)

  -- S of the part
  pub utility_part : greatest_utility (part_of nodes kept) ≡ nat_sum_over (λ v. cond (is_utility (node_at nodes v).kind) (greatest_abs (node_at nodes v).cells) 0) kept
  utility_part =
      same_sum (λ k. cond (is_utility (node_at (part_of nodes kept) k).kind) (greatest_abs (node_at (part_of nodes kept) k).cells) 0) (λ k. cond (is_utility (node_at nodes (slice_index kept k)).kind) (greatest_abs (node_at nodes (slice_index kept k)).cells) 0) (numbers_of (part_of nodes kept))
      (λ k m. ap (λ n. cond (is_utility n.kind) (greatest_abs n.cells) 0) (node_is nodes kept c k (part_number k m)))
      ∙ ap (nat_sum_over (λ k. cond (is_utility (node_at nodes (slice_index kept k)).kind) (greatest_abs (node_at nodes (slice_index kept k)).cells) 0)) (numbers_part nodes kept c)
      ∙ sym (nat_sum_over-map (λ v. cond (is_utility (node_at nodes v).kind) (greatest_abs (node_at nodes v).cells) 0) (slice_index kept) (range_with_len 0 (length kept)))
      ∙ ap (nat_sum_over (λ v. cond (is_utility (node_at nodes v).kind) (greatest_abs (node_at nodes v).cells) 0)) (all_places kept)

  module _ (p : List RuleView) where
    total_le : (k : Kind) (chance rule states : ℕ) → (k ≡ Decision → rule ≤ states) → total_by k chance rule ≤ bound_by k chance states
    total_le Chance chance rule states h = omega arith
    total_le Decision chance rule states h = h refl
    total_le Utility chance rule states h = omega arith

    -- P of a decision
    pub base_part : (d : ℕ) → Among d kept → (node_at nodes d).kind ≡ Decision → ((e : ℕ) → IsDecision nodes e → e ≢ d → rule_total p e ≤ states_of nodes e)
        → base_mass (part_of nodes kept) (rules_in nodes p kept) (place_in kept d) ≤ nat_product_over (bound_factor nodes) kept
    base_part d m kind small =
        subst (λ x. base_mass (part_of nodes kept) (rules_in nodes p kept) (place_in kept d) ≤ x) (product_part (bound_factor nodes))
        (product_le (base_total (part_of nodes kept) (rules_in nodes p kept) (place_in kept d)) (λ k. bound_factor nodes (slice_index kept k)) (numbers_of (part_of nodes kept)) (λ k j. factor k (part_number k j) (ℕ_discrete k (place_in kept d))))
      where
        own : bound_factor nodes d ≡ states_of nodes d
        own = ap (λ k. bound_by k (chance_total nodes d) (states_of nodes d)) kind

        at_most : (x y z : ℕ) → x ≡ z → y ≡ z → x ≤ y
        at_most x y z e f = omega arith

        factor : (k : ℕ) → k < length kept → Dec (k ≡ place_in kept d) → base_total (part_of nodes kept) (rules_in nodes p kept) (place_in kept d) k ≤ bound_factor nodes (slice_index kept k)
        factor k l (yes e) =
            at_most (base_total (part_of nodes kept) (rules_in nodes p kept) (place_in kept d) k) (bound_factor nodes (slice_index kept k)) (states_of nodes d)
            (ap (λ b. cond b (states_of (part_of nodes kept) (place_in kept d)) (weight_total (part_of nodes kept) (rules_in nodes p kept) k)) (eqb_yes k (place_in kept d) e) ∙ states_new nodes kept c d m)
            (ap (bound_factor nodes) (ap (slice_index kept) e ∙ at_place kept d m) ∙ own)
        factor k l (no n) =
            subst (λ x. x ≤ bound_factor nodes (slice_index kept k))
            (sym (ap (λ b. cond b (states_of (part_of nodes kept) (place_in kept d)) (weight_total (part_of nodes kept) (rules_in nodes p kept) k)) (eqb_no k (place_in kept d) n) ∙ weight_total_is nodes kept c p k l))
            (total_le (node_at nodes (slice_index kept k)).kind (chance_total nodes (slice_index kept k)) (rule_total p (slice_index kept k)) (states_of nodes (slice_index kept k))
            (λ f. small (slice_index kept k) (decision_of nodes (slice_index kept k) f) (λ z. n (sym (place_at kept c.apart k l) ∙ ap (place_in kept) z))))

    unit_le : (k : Kind) (chance rule : ℕ) → (k ≡ Decision → rule ≡ 1) → total_by k chance rule ≤ chance_factor_by k chance
    unit_le Chance chance rule h = omega arith
    unit_le Decision chance rule h = let e : rule ≡ 1 = h refl in omega arith
    unit_le Utility chance rule h = omega arith

    -- P of an agent
    pub mass_part : ((e : ℕ) → IsDecision nodes e → rule_total p e ≡ 1) → mass (part_of nodes kept) (rules_in nodes p kept) ≤ nat_product_over (λ v. chance_factor_by (node_at nodes v).kind (chance_total nodes v)) kept
    mass_part unit =
        subst (λ x. mass (part_of nodes kept) (rules_in nodes p kept) ≤ x) (product_part (λ v. chance_factor_by (node_at nodes v).kind (chance_total nodes v)))
        (product_le (weight_total (part_of nodes kept) (rules_in nodes p kept)) (λ k. chance_factor_by (node_at nodes (slice_index kept k)).kind (chance_total nodes (slice_index kept k))) (numbers_of (part_of nodes kept))
        (λ k j. subst (λ x. x ≤ chance_factor_by (node_at nodes (slice_index kept k)).kind (chance_total nodes (slice_index kept k))) (sym (weight_total_is nodes kept c p k (part_number k j)))
        (unit_le (node_at nodes (slice_index kept k)).kind (chance_total nodes (slice_index kept k)) (rule_total p (slice_index kept k)) (λ f. unit (slice_index kept k) (decision_of nodes (slice_index kept k) f)))))

-- ---- the bound
module _ (prod big scale s : ℕ) (some : 0 < prod) (one : 1 ≤ scale) (h : big ≤ prod) where
  greater : s ≤ max scale s
  greater = omega arith

  calls_fit : big * max scale s ≤ prod * max scale s
  calls_fit = mul-le-mul_right (max scale s) h

  product_fits : prod ≤ prod * max scale s
  product_fits = let m : 1 ≤ max scale s = omega arith in omega (arith, mul-le-mul_left prod m)

  utility_fits : s ≤ prod * max scale s
  utility_fits = omega (arith, greater, mul-le-mul_right (max scale s) some)

  gain_fits : (x : ℕ) → x ≤ big * s → x ≤ prod * max scale s
  gain_fits x l = omega (arith, calls_fit, mul-le-mul_left big greater)

  mass_fits : (x : ℕ) → x ≤ big → x ≤ prod * max scale s
  mass_fits x l = omega (arith, product_fits, h)

pub factors_positive : (nodes : List NodeView) → IsGraph nodes → HasChanceTables nodes → (v : ℕ) → 0 < bound_factor nodes v
factors_positive nodes g h v = go (node_at nodes v).kind refl
  where
    go : (k : Kind) → (node_at nodes v).kind ≡ k → 0 < bound_by (node_at nodes v).kind (chance_total nodes v) (states_of nodes v)
    go Chance e = subst (λ k. 0 < bound_by k (chance_total nodes v) (states_of nodes v)) (sym e) (h.positive v e)
    go Decision e = subst (λ k. 0 < bound_by k (chance_total nodes v) (states_of nodes v)) (sym e) (g.has_state v)
    go Utility e = subst (λ k. 0 < bound_by k (chance_total nodes v) (states_of nodes v)) (sym e) (omega arith)

pub chances_positive : (nodes : List NodeView) → HasChanceTables nodes → (v : ℕ) → 0 < chance_factor_by (node_at nodes v).kind (chance_total nodes v)
chances_positive nodes h v = go (node_at nodes v).kind refl
  where
    go : (k : Kind) → (node_at nodes v).kind ≡ k → 0 < chance_factor_by (node_at nodes v).kind (chance_total nodes v)
    go Chance e = subst (λ k. 0 < chance_factor_by k (chance_total nodes v)) (sym e) (h.positive v e)
    go Decision e = subst (λ k. 0 < chance_factor_by k (chance_total nodes v)) (sym e) (omega arith)
    go Utility e = subst (λ k. 0 < chance_factor_by k (chance_total nodes v)) (sym e) (omega arith)

pub decisions_law : SumsOfScopesFit
decisions_law d p v g h r is small =
    let scale : 1 ≤ 10 ^ d.decimals = one-le-pow d.decimals 10 (omega arith) in
    record {
      call = subst (λ s. base_mass part rules new * max (10 ^ d.decimals) s ≤ scope_bound d v) (sym most) (calls_fit (scope_product d.nodes v) (base_mass part rules new) (10 ^ d.decimals) (greatest_of d.nodes (goals_of d.nodes v)) some scale base_le);
      product = product_fits (scope_product d.nodes v) (base_mass part rules new) (10 ^ d.decimals) (greatest_of d.nodes (goals_of d.nodes v)) some scale base_le;
      utilities = utility_fits (scope_product d.nodes v) (base_mass part rules new) (10 ^ d.decimals) (greatest_of d.nodes (goals_of d.nodes v)) some scale base_le;
      gain = λ state row. gain_fits (scope_product d.nodes v) (base_mass part rules new) (10 ^ d.decimals) (greatest_of d.nodes (goals_of d.nodes v)) some scale base_le (nat_abs (gain_at part rules new state row)) (subst (λ s. nat_abs (gain_at part rules new state row) ≤ base_mass part rules new * s) most (gain_at_le part part_graph rules part_tables new state row));
      mass = λ row. mass_fits (scope_product d.nodes v) (base_mass part rules new) (10 ^ d.decimals) (greatest_of d.nodes (goals_of d.nodes v)) some scale base_le (nat_abs (mass_at part rules new row)) (mass_at_le part part_graph rules part_tables new row);
    }
  where
    part : List NodeView
    part = part_of d.nodes (scope_of d.nodes v)

    rules : List RuleView
    rules = rules_in d.nodes p (scope_of d.nodes v)

    new : ℕ
    new = place_in (scope_of d.nodes v) v

    closed : Closed d.nodes (scope_of d.nodes v)
    closed = closed_of d.nodes (scope_of d.nodes v) (scope_closed d.nodes g v is)

    part_graph : IsGraph (part_of d.nodes (scope_of d.nodes v))
    part_graph = graph_is d.nodes (scope_of d.nodes v) closed g

    part_tables : HasTables (part_of d.nodes (scope_of d.nodes v)) (rules_in d.nodes p (scope_of d.nodes v))
    part_tables = tables_of (part_of d.nodes (scope_of d.nodes v)) (rules_in d.nodes p (scope_of d.nodes v)) part_graph (tables_are d.nodes (scope_of d.nodes v) closed h) (profile_is d.nodes (scope_of d.nodes v) closed p r)

    some : 0 < scope_product d.nodes v
    some = product_positive (bound_factor d.nodes) (scope_of d.nodes v) (factors_positive d.nodes g h)

    base_le : base_mass (part_of d.nodes (scope_of d.nodes v)) (rules_in d.nodes p (scope_of d.nodes v)) (place_in (scope_of d.nodes v) v) ≤ scope_product d.nodes v
    base_le = base_part d.nodes (scope_of d.nodes v) closed p v (scope_has d.nodes g v is v v (inl refl) Here) is.kind small

    toward : (u : ℕ) → Among u (v ∷ goals_of d.nodes v) → (node_at d.nodes u).kind ≡ Utility → (is_utility_of d.nodes (agent_of d.nodes v) u && descends d.nodes v u) ≡ true
    toward u (inl e) k = absurd (no_both (sym is.kind ∙ ap (λ x. (node_at d.nodes x).kind) (sym e) ∙ k))
      where
        no_both : Decision ≡ Utility → ⊥
        no_both f = cc
    toward u (inr m) k = (among_filter (λ x. is_utility_of d.nodes (agent_of d.nodes v) x && descends d.nodes v x) u (numbers_of d.nodes) m).1

    back : (u : ℕ) → u < length d.nodes → (is_utility_of d.nodes (agent_of d.nodes v) u && descends d.nodes v u) ≡ true → Among u (v ∷ goals_of d.nodes v) × (is_utility (node_at d.nodes u).kind ≡ true)
    back u l e = (inr (among_filter_in (λ x. is_utility_of d.nodes (agent_of d.nodes v) x && descends d.nodes v x) u (numbers_of d.nodes) (number d.nodes u l) e), (and_both (is_utility (node_at d.nodes u).kind) (owns d.nodes (agent_of d.nodes v) u) (and_both (is_utility_of d.nodes (agent_of d.nodes v) u) (descends d.nodes v u) e).0).0)

    most : greatest_utility (part_of d.nodes (scope_of d.nodes v)) ≡ greatest_of d.nodes (goals_of d.nodes v)
    most = utility_part d.nodes (scope_of d.nodes v) closed ∙ kept_utilities d.nodes g (v ∷ goals_of d.nodes v) (λ u. is_utility_of d.nodes (agent_of d.nodes v) u && descends d.nodes v u) toward back

pub agents_law : SumsOfAgentsScopesFit
agents_law d p agent g h r unit =
    let scale : 1 ≤ 10 ^ d.decimals = one-le-pow d.decimals 10 (omega arith) in
    record {
      call = subst (λ s. mass part rules * max (10 ^ d.decimals) s ≤ scope_bound_for d agent) (sym most) (calls_fit (scope_product_for d.nodes agent) (mass part rules) (10 ^ d.decimals) (greatest_of d.nodes (utilities_for d.nodes agent)) some scale mass_le);
      product = product_fits (scope_product_for d.nodes agent) (mass part rules) (10 ^ d.decimals) (greatest_of d.nodes (utilities_for d.nodes agent)) some scale mass_le;
      utilities = utility_fits (scope_product_for d.nodes agent) (mass part rules) (10 ^ d.decimals) (greatest_of d.nodes (utilities_for d.nodes agent)) some scale mass_le;
      gain = gain_fits (scope_product_for d.nodes agent) (mass part rules) (10 ^ d.decimals) (greatest_of d.nodes (utilities_for d.nodes agent)) some scale mass_le (nat_abs (gain_of part rules agent)) (subst (λ s. nat_abs (gain_of part rules agent) ≤ mass part rules * s) most (gain_of_le part part_graph rules (tables_of part rules part_graph part_chances part_profile) agent (weights_law part rules part_graph part_chances part_profile)));
    }
  where
    part : List NodeView
    part = part_of d.nodes (scope_for d.nodes agent)

    rules : List RuleView
    rules = rules_in d.nodes p (scope_for d.nodes agent)

    closed : Closed d.nodes (scope_for d.nodes agent)
    closed = closed_of d.nodes (scope_for d.nodes agent) (scope_for_closed d.nodes g agent)

    part_graph : IsGraph (part_of d.nodes (scope_for d.nodes agent))
    part_graph = graph_is d.nodes (scope_for d.nodes agent) closed g

    part_chances : HasChanceTables (part_of d.nodes (scope_for d.nodes agent))
    part_chances = tables_are d.nodes (scope_for d.nodes agent) closed h

    part_profile : IsProfile (part_of d.nodes (scope_for d.nodes agent)) (rules_in d.nodes p (scope_for d.nodes agent))
    part_profile = profile_is d.nodes (scope_for d.nodes agent) closed p r

    some : 0 < scope_product_for d.nodes agent
    some = product_positive (λ v. chance_factor_by (node_at d.nodes v).kind (chance_total d.nodes v)) (scope_for d.nodes agent) (chances_positive d.nodes h)

    mass_le : mass (part_of d.nodes (scope_for d.nodes agent)) (rules_in d.nodes p (scope_for d.nodes agent)) ≤ scope_product_for d.nodes agent
    mass_le = mass_part d.nodes (scope_for d.nodes agent) closed p unit

    back : (u : ℕ) → u < length d.nodes → is_utility_of d.nodes agent u ≡ true → Among u (utilities_for d.nodes agent) × (is_utility (node_at d.nodes u).kind ≡ true)
    back u l e = (among_filter_in (is_utility_of d.nodes agent) u (numbers_of d.nodes) (number d.nodes u l) e, (and_both (is_utility (node_at d.nodes u).kind) (owns d.nodes agent u) e).0)

    most : greatest_utility (part_of d.nodes (scope_for d.nodes agent)) ≡ greatest_of d.nodes (utilities_for d.nodes agent)
    most = utility_part d.nodes (scope_for d.nodes agent) closed ∙ kept_utilities d.nodes g (utilities_for d.nodes agent) (is_utility_of d.nodes agent) (λ u m k. (among_filter (is_utility_of d.nodes agent) u (numbers_of d.nodes) m).1) back
