-- A sum over all worlds, world by world, and why it stays within its bound.
use Rattle.std.proofs.Common.{◌≡◌, ◌≢◌, ◌∙◌, ℕ, zero, suc, ◌+◌, ◌-◌, ◌*◌, ◌^◌, ◌<◌, ◌≤◌, Bool, true, false, cond, eqb, List, [], ◌∷◌, ◌++◌, flat_map, map, max, length, slice_index, slice_index_or, refl, sym, ap, inl, inr, arith, ℤ, pos, negsuc, ◌+ℤ◌, ◌*ℤ◌, ◌≤ℤ◌, nat_abs}
use Rattle.std.proofs.lemmas.Int.{ints}
use Rattle.std.proofs.lemmas.List.{length-map}
use Rattle.std.proofs.Math.IntN.{+ℤ_idl}
use Rattle.std.proofs.Math.Nat.{mul-le-mul_left, mul-le-mul_right, one-le-pow}
use Rattle.std.proofs.Math.Numerals.{add-one}
use Rattle.std.proofs.Math.Path.{fun_ext}
use Rattle.std.proofs.Math.Decide.{ℕ_discrete}
use Rattle.std.specs.List.{range_with_len}
use Rattle.maid_model.specs.declared.diagrams.Kind.{Kind}
use Rattle.maid_model.specs.declared.diagrams.Kind.TheVariants.{Chance, Decision, Utility}
use Rattle.maid_model.specs.Diagrams.{IsDiagram, greatest_number}
use Rattle.maid_model.specs.Gains.{weight_without, table_without, base_total, base_mass, sum_worlds, greatest_utility}
use Rattle.maid_model.specs.Nodes.{node_at, states_of, parents_of, rows_of, numbers_of, counts_of}
use Rattle.maid_model.specs.Profiles.{IsProfile}
use Rattle.finite_sums.specs.Sums.{World, with_state, sum_below, sum_over, InRange, product_over, nat_product_over}
use Rattle.maid_model.specs.Tables.{cell_of, table, table_by, weights_of, weight_total, total_by, chance_total, rule_total}
use Rattle.maid_model.specs.Views.{NodeView, RuleView, DiagramView}
use Rattle.maid_model.specs.Worlds.{IsWorld, world_of, worlds, worlds_from, first_world, sum_list}
use Rattle.finite_sums.specs.Members.{Among}
use Rattle.finite_sums.specs.Looks.{Ignores, IgnoresLater, HasTotal, HaveTotals}
use Rattle.maid_model.proofs.Setting.{TableFits, ParentsFirst}
use Rattle.finite_sums.proofs.Sums.{sum_below_cong}
use Rattle.finite_sums.proofs.Totals.{sum_over_totals}
use Rattle.maid_model.proofs.Tables.{TableSums, table-total, table_ignores}
use Rattle.finite_sums.proofs.Lists.{avoids, all_ignored, sum_over-shuffled, product_over-shuffled}
use Rattle.maid_model.proofs.Bridge.{sum_over_worlds}
use Rattle.maid_model.proofs.Next.{worlds_from-first, IsWorld-tail, states_positive}
use Rattle.finite_sums.proofs.Members.{range_within}
use Rattle.maid_model.proofs.Found.{eqb_yes, eqb_no}
use Rattle.maid_model.proofs.Ordering.{order, order_shuffled, order_within, order_parents_first, not_own_parent}
use Rattle.maid_model.proofs.Summing.{abs_add}
use Rattle.maid_model.proofs.Uniform.{sum_ones}
use Rattle.maid_model.proofs.Weighing.{tables_of, pos_at, base_positive, product_positive}

-- ---- no weight is below nought
pub cell_not_negative : (k : Kind) (cells : List ℤ) (weights : List ℕ) (rows states total c : ℕ) → TableFits k cells weights rows states total → pos 0 ≤ℤ table_by k cells weights c
cell_not_negative Chance cells weights rows states total c t = t.not_negative c
cell_not_negative Decision cells weights rows states total c t = omega (arith, ints)
cell_not_negative Utility cells weights rows states total c t = omega (arith, ints)

pub product_not_negative : (a b : ℤ) → pos 0 ≤ℤ a → pos 0 ≤ℤ b → pos 0 ≤ℤ (a *ℤ b)
product_not_negative (pos a) (pos b) h k = omega (arith, ints)
product_not_negative (pos a) (negsuc b) h k = absurd (omega (arith, ints))
product_not_negative (negsuc a) b h k = absurd (omega (arith, ints))

pub products_not_negative : (f : ℕ → ℤ) (vs : List ℕ) → ((v : ℕ) → Among v vs → pos 0 ≤ℤ f v) → pos 0 ≤ℤ product_over f vs
products_not_negative f [] h = omega (arith, ints)
products_not_negative f (v ∷ vs) h = product_not_negative (f v) (product_over f vs) (h v (inl refl)) (products_not_negative f vs (λ u m. h u (inr m)))

pub list_not_negative : (f : List ℕ → ℤ) → ((x : List ℕ) → pos 0 ≤ℤ f x) → (xs : List (List ℕ)) → pos 0 ≤ℤ sum_list f xs
list_not_negative f h [] = omega (arith, ints)
list_not_negative f h (x ∷ xs) = let a : pos 0 ≤ℤ f x = h x in let b : pos 0 ≤ℤ sum_list f xs = list_not_negative f h xs in omega (arith, ints)

-- ---- a sum over the list of worlds is the sum over the nodes
range-suc : (k n : ℕ) → range_with_len (k + 1) n ≡ map suc (range_with_len k n)
range-suc k zero = refl
range-suc k (suc n) = λ i. add-one k i ∷ range-suc (k + 1) n i

counts_range : (nodes : List NodeView) → counts_of nodes ≡ map (states_of nodes) (range_with_len 0 (length nodes))
counts_range [] = refl
counts_range (n ∷ ns) = ap (λ l. n.states ∷ l) (counts_range ns ∙ sym (ap (map (states_of (n ∷ ns))) (range-suc 0 (length ns)) ∙ map_twice (range_with_len 0 (length ns))))
  where
    map_twice : (l : List ℕ) → map (states_of (n ∷ ns)) (map suc l) ≡ map (states_of ns) l
    map_twice [] = refl
    map_twice (x ∷ xs) = ap (λ l. states_of ns x ∷ l) (map_twice xs)

pub all_worlds : (nodes : List NodeView) (f : World → ℤ) → ((v : ℕ) → 0 < states_of nodes v) → sum_list (λ ys. f (world_of ys)) (worlds_from (counts_of nodes) (first_world (length nodes))) ≡ sum_worlds nodes f
all_worlds nodes f h =
    ap (λ n. sum_list (λ ys. f (world_of ys)) (worlds_from (counts_of nodes) (first_world n))) (sym (length-map nodes (λ n. n.states)))
    ∙ ap (sum_list (λ ys. f (world_of ys))) (worlds_from-first (counts_of nodes) (states_positive nodes h) ∙ ap worlds (counts_range nodes))
    ∙ sum_over_worlds (states_of nodes) (length nodes) f

pos_product : (f : ℕ → ℕ) (vs : List ℕ) → product_over (λ v. pos (f v)) vs ≡ pos (nat_product_over f vs)
pos_product f [] = refl
pos_product f (v ∷ vs) = ap (λ x. pos (f v) *ℤ x) (pos_product f vs)

pub product_cong : (f g : ℕ → ℤ) (vs : List ℕ) → ((v : ℕ) → Among v vs → f v ≡ g v) → product_over f vs ≡ product_over g vs
product_cong f g [] h = refl
product_cong f g (v ∷ vs) h = λ i. h v (inl refl) i *ℤ product_cong f g vs (λ u m. h u (inr m)) i

-- some worlds follow each world
pub some_rest : (cs xs : List ℕ) → IsWorld cs xs → (rest : List (List ℕ)) × (worlds_from cs xs ≡ xs ∷ rest)
some_rest [] [] w = ([], refl)
some_rest [] (x ∷ xs) w = absurd (omega (arith, w.len))
some_rest (c ∷ cs) [] w = absurd (omega (arith, w.len))
some_rest (c ∷ cs) (x ∷ xs) w =
    let r = some_rest cs xs (IsWorld-tail c x cs xs w) in (
      map (λ ys. x ∷ ys) r.0 ++ flat_map (λ s. map (λ ys. s ∷ ys) (worlds cs)) (range_with_len (x + 1) (c - (x + 1))),
      ap (λ l. map (λ ys. x ∷ ys) l ++ flat_map (λ s. map (λ ys. s ∷ ys) (worlds cs)) (range_with_len (x + 1) (c - (x + 1)))) r.1,
    )

-- the weight of a listed world
abbrev pub weight_in : List NodeView → List RuleView → ℕ → List ℕ → ℤ
weight_in nodes p out ys = weight_without nodes p out (world_of ys)

-- m is the weight of the worlds before xs
pub record MassSoFar (nodes : List NodeView) (p : List RuleView) (out m : ℕ) (xs : List ℕ) : Type 0 where
  pub left : pos m +ℤ sum_list (weight_in nodes p out) (worlds_from (counts_of nodes) xs) ≡ pos (base_mass nodes p out)

-- ---- all weights together are the mass, with the states of the node left out
table_sums : (k : Kind) (cells : List ℤ) (weights : List ℕ) (rows states total : ℕ) → TableFits k cells weights rows states total → (k ≡ Utility → total ≡ 1) → TableSums k cells weights rows states (pos total)
table_sums Chance cells weights rows states total t u = record { row = t.row }
table_sums Decision cells weights rows states total t u = record { row = λ r l. sum_below_cong states (λ s. pos (slice_index weights (r * states + s))) (λ s. slice_index_or (map pos weights) (r * states + s) (pos 0)) (λ s k. sym (pos_at weights (r * states + s))) ∙ t.row r l }
table_sums Utility cells weights rows states total t u = (t, ap pos (u refl))

module _ (d : DiagramView) (is : IsDiagram d) (p : List RuleView) (prof : IsProfile d.nodes p) (out : ℕ) where
  abbrev factor : ℕ → World → ℤ
  factor v w = table_without d.nodes p out v w

  abbrev total : ℕ → ℤ
  total v = pos (base_total d.nodes p out v)

  factor_ignores : (v u : ℕ) → v ≢ u → ¬ (Among u (parents_of d.nodes v)) → Ignores (states_of d.nodes) (factor v) u
  factor_ignores v u n m = record { same = λ w i s l. go (eqb v out) w s ((table_ignores d.nodes p v u n (avoids u (parents_of d.nodes v) m)).same w i s l) }
    where
      go : (b : Bool) (w : World) (s : ℕ) → table d.nodes p v (with_state w u s) ≡ table d.nodes p v w → cond b (pos 1) (table d.nodes p v (with_state w u s)) ≡ cond b (pos 1) (table d.nodes p v w)
      go true w s e = refl
      go false w s e = e

  later : (vs : List ℕ) → ParentsFirst d.nodes vs → IgnoresLater (states_of d.nodes) factor vs
  later [] h = tt
  later (v ∷ vs) h = (all_ignored (states_of d.nodes) (factor v) vs (λ u m. factor_ignores v u (h.0 u m).0 (h.0 u m).1), later vs h.1)

  own_total : (v : ℕ) → v < length d.nodes → HasTotal (states_of d.nodes) (table d.nodes p) (λ u. pos (weight_total d.nodes p u)) v
  own_total v l =
      table-total d.nodes p (λ u. pos (weight_total d.nodes p u)) v (avoids v (parents_of d.nodes v) (not_own_parent d.nodes is.graph v))
      (table_sums (node_at d.nodes v).kind (node_at d.nodes v).cells (weights_of p v) (rows_of d.nodes v) (states_of d.nodes v) (weight_total d.nodes p v) ((tables_of d is p prof).at v l)
      (λ e. ap (λ k. total_by k (chance_total d.nodes v) (rule_total p v)) e))

  factor_total : (v : ℕ) → v < length d.nodes → HasTotal (states_of d.nodes) factor total v
  factor_total v l = record { sums = λ w i. go (ℕ_discrete v out) w i }
    where
      go : Dec (v ≡ out) → (w : World) → InRange (states_of d.nodes) w → sum_below (states_of d.nodes v) (λ s. factor v (with_state w v s)) ≡ total v
      go (yes e) w i =
          sum_ones (states_of d.nodes v) (λ s. factor v (with_state w v s)) (λ s k. ap (λ b. cond b (pos 1) (table d.nodes p v (with_state w v s))) (eqb_yes v out e))
          ∙ ap pos (ap (states_of d.nodes) e ∙ sym (ap (λ b. cond b (states_of d.nodes out) (weight_total d.nodes p v)) (eqb_yes v out e)))
      go (no n) w i =
          sum_below_cong (states_of d.nodes v) (λ s. factor v (with_state w v s)) (λ s. table d.nodes p v (with_state w v s)) (λ s k. ap (λ b. cond b (pos 1) (table d.nodes p v (with_state w v s))) (eqb_no v out n))
          ∙ (own_total v l).sums w i
          ∙ ap pos (sym (ap (λ b. cond b (states_of d.nodes out) (weight_total d.nodes p v)) (eqb_no v out n)))

  have : (vs : List ℕ) → ((v : ℕ) → Among v vs → v < length d.nodes) → HaveTotals (states_of d.nodes) factor total vs
  have [] h = tt
  have (v ∷ vs) h = (factor_total v (h v (inl refl)), have vs (λ u m. h u (inr m)))

  pub weights_sum : sum_worlds d.nodes (weight_without d.nodes p out) ≡ pos (base_mass d.nodes p out)
  weights_sum =
      sum_over-shuffled (states_of d.nodes) (weight_without d.nodes p out) (order_shuffled d.nodes is.graph) (λ v. 0)
      ∙ ap (λ f. sum_over (states_of d.nodes) (order d.nodes is.graph) f (λ v. 0)) (fun_ext (λ w. product_over-shuffled (λ v. factor v w) (order_shuffled d.nodes is.graph)))
      ∙ sum_over_totals (states_of d.nodes) factor total (order d.nodes is.graph) (later (order d.nodes is.graph) (order_parents_first d.nodes is.graph)) (have (order d.nodes is.graph) (order_within d.nodes is.graph)) (λ v. 0) (record { state = is.graph.has_state })
      ∙ sym (product_over-shuffled total (order_shuffled d.nodes is.graph))
      ∙ pos_product (base_total d.nodes p out) (numbers_of d.nodes)

  pub weight_not_negative : (ys : List ℕ) → pos 0 ≤ℤ weight_in d.nodes p out ys
  weight_not_negative ys = products_not_negative (λ v. factor v (world_of ys)) (numbers_of d.nodes) (λ v m. go (eqb v out) v m)
    where
      go : (b : Bool) (v : ℕ) → Among v (numbers_of d.nodes) → pos 0 ≤ℤ cond b (pos 1) (table d.nodes p v (world_of ys))
      go true v m = omega (arith, ints)
      go false v m =
          cell_not_negative (node_at d.nodes v).kind (node_at d.nodes v).cells (weights_of p v) (rows_of d.nodes v) (states_of d.nodes v) (weight_total d.nodes p v) (cell_of d.nodes v (world_of ys))
          ((tables_of d is p prof).at v (let l : v < 0 + length d.nodes = (range_within 0 (length d.nodes) v m).1 in omega arith))

  pub mass_start : (xs : List ℕ) → xs ≡ first_world (length d.nodes) → MassSoFar d.nodes p out 0 xs
  mass_start xs e = record {
    left = +ℤ_idl (sum_list (weight_in d.nodes p out) (worlds_from (counts_of d.nodes) xs))
        ∙ ap (λ l. sum_list (weight_in d.nodes p out) (worlds_from (counts_of d.nodes) l)) e
        ∙ all_worlds d.nodes (weight_without d.nodes p out) is.graph.has_state ∙ weights_sum;
  }

  module _ (m k : ℕ) (xs : List ℕ) (s : MassSoFar d.nodes p out m xs) (k_is : pos k ≡ weight_in d.nodes p out xs) (rest : List (List ℕ)) (split : worlds_from (counts_of d.nodes) xs ≡ xs ∷ rest) where
    mass_after : pos (m + k) +ℤ sum_list (weight_in d.nodes p out) rest ≡ pos (base_mass d.nodes p out)
    mass_after =
        go m k (weight_in d.nodes p out xs) (sum_list (weight_in d.nodes p out) rest) (base_mass d.nodes p out) k_is (sym (ap (λ l. pos m +ℤ sum_list (weight_in d.nodes p out) l) split) ∙ s.left)
      where
        go : (m k : ℕ) (a r : ℤ) (t : ℕ) → pos k ≡ a → pos m +ℤ (a +ℤ r) ≡ pos t → pos (m + k) +ℤ r ≡ pos t
        go m k a r t e h = omega (arith, ints)

    pub mass_within : m + k ≤ base_mass d.nodes p out
    mass_within = go (m + k) (base_mass d.nodes p out) (sum_list (weight_in d.nodes p out) rest) (list_not_negative (weight_in d.nodes p out) weight_not_negative rest) mass_after
      where
        go : (m t : ℕ) (r : ℤ) → pos 0 ≤ℤ r → pos m +ℤ r ≡ pos t → m ≤ t
        go m t r h e = omega (arith, ints)

  pub mass_step : (m k : ℕ) (xs ys : List ℕ) → MassSoFar d.nodes p out m xs → pos k ≡ weight_in d.nodes p out xs → worlds_from (counts_of d.nodes) xs ≡ xs ∷ worlds_from (counts_of d.nodes) ys → MassSoFar d.nodes p out (m + k) ys
  mass_step m k xs ys s e split = record { left = mass_after m k xs s e (worlds_from (counts_of d.nodes) ys) split }

-- ---- bounds
-- the mass times the greatest utility
pub within_bound : (m big s scale : ℕ) → m ≤ big → big * max scale s ≤ greatest_number → m * s ≤ greatest_number
within_bound m big s scale h k = go (mul-le-mul_right s h) (mul-le-mul_left big (at_most s scale)) k
  where
    at_most : (s scale : ℕ) → s ≤ max scale s
    at_most s scale = omega arith

    go : m * s ≤ big * s → big * s ≤ big * max scale s → big * max scale s ≤ greatest_number → m * s ≤ greatest_number
    go a b c = omega arith

pub added_bound : (g x : ℤ) (m k s : ℕ) → nat_abs g ≤ m * s → nat_abs x ≤ k * s → nat_abs (g +ℤ x) ≤ (m + k) * s
added_bound g x m k s a b = go (nat_abs (g +ℤ x)) (nat_abs g) (nat_abs x) (abs_add g x) a b
  where
    go : (y a b : ℕ) → y ≤ a + b → a ≤ m * s → b ≤ k * s → y ≤ (m + k) * s
    go y a b h i j = omega arith

-- the room that the bound of a sum leaves
pub record HasRoom (nodes : List NodeView) (big : ℕ) : Type 0 where
  pub mass : big ≤ greatest_number
  pub utility : greatest_utility nodes ≤ greatest_number
  pub product : (m : ℕ) → m ≤ big → m * greatest_utility nodes ≤ greatest_number

pub room_of : (d : DiagramView) (big : ℕ) → 0 < big → big * max (10 ^ d.decimals) (greatest_utility d.nodes) ≤ greatest_number → HasRoom d.nodes big
room_of d big some h = record {
  mass = first big (10 ^ d.decimals) (greatest_utility d.nodes) (one-le-pow d.decimals 10 (omega arith)) h;
  utility = second big (10 ^ d.decimals) (greatest_utility d.nodes) some h;
  product = λ m l. within_bound m big (greatest_utility d.nodes) (10 ^ d.decimals) l h;
}
  where
    first : (b t s : ℕ) → 1 ≤ t → b * max t s ≤ greatest_number → b ≤ greatest_number
    first b t s l h = let m : 1 ≤ max t s = omega arith in omega (arith, mul-le-mul_left b m)

    second : (b t s : ℕ) → 0 < b → b * max t s ≤ greatest_number → s ≤ greatest_number
    second b t s l h = let m : s ≤ max t s = omega arith in let n : max t s ≤ b * max t s = one b (max t s) l in omega arith
      where
        one : (b x : ℕ) → 0 < b → x ≤ b * x
        one b x l = omega (arith, mul-le-mul_right x l)

pub base_some : (d : DiagramView) (is : IsDiagram d) (p : List RuleView) (prof : IsProfile d.nodes p) (out : ℕ) → 0 < base_mass d.nodes p out
base_some d is p prof out = product_positive (base_total d.nodes p out) (numbers_of d.nodes) (base_positive d is p prof out)
