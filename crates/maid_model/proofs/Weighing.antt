-- The factors of a world's weight, and their product node by node.
use Rattle.std.proofs.Common.{◌≡◌, ◌≢◌, ◌∙◌, ℕ, zero, suc, ◌+◌, ◌-◌, ◌*◌, ◌^◌, ◌<◌, ◌≤◌, Bool, true, false, cond, eqb, List, [], ◌∷◌, map, length, get_or, slice_index, slice_index_or, refl, sym, ap, subst, arith, ℤ, pos, negsuc, ◌+ℤ◌, ◌*ℤ◌, ◌≤ℤ◌, nat_abs}
use Rattle.std.proofs.lemmas.Int.{ints, to_z-of_z, fits_signed_from_abs}
use Rattle.std.proofs.lemmas.List.{length-map}
use Rattle.std.proofs.Math.Nat.{mul-le-mul_left, mul-le-mul_right}
use Rattle.std.specs.Int.{w128}
use Rattle.std.specs.List.{range_with_len}
use mir.Val.{to_z, of_z}
use Rattle.maid_model.specs.declared.diagrams.Kind.{Kind}
use Rattle.maid_model.specs.declared.diagrams.Kind.TheVariants.{Chance, Decision, Utility}
use Rattle.maid_model.specs.Diagrams.{IsDiagram, greatest_number}
use Rattle.maid_model.specs.Gains.{table_without, base_total}
use Rattle.maid_model.specs.Nodes.{node_at, states_of, counts_of, rows_of, numbers_of}
use Rattle.maid_model.specs.Private.{HasPlaces}
use Rattle.maid_model.specs.Profiles.{IsProfile, IsRule, no_rule}
use Rattle.finite_sums.specs.Sums.{World, InRange, sum_below, product_over, nat_product_over}
use Rattle.maid_model.specs.Tables.{IsTable, row_of, cell_of, table, table_by, weights_of, rule_total, weight_total, total_by, chance_total}
use Rattle.maid_model.specs.Views.{NodeView, RuleView, DiagramView}
use Rattle.maid_model.specs.Worlds.{IsWorld, world_of}
use Rattle.maid_model.proofs.Setting.{TableFits, HasTables}
use Rattle.maid_model.proofs.Cells.{sum_grows_to}
use Rattle.maid_model.proofs.Found.{eqb_yes, eqb_no, weights_at}
use Rattle.finite_sums.proofs.Ints.{mul_assoc, mul_one, one_mul, zero_mul}
use Rattle.maid_model.proofs.Picked.{world_in_range}
use Rattle.maid_model.proofs.Tables.{row_of-below}

-- ---- a diagram and a profile have tables

pub decision_within : (nodes : List NodeView) (v : ℕ) → (node_at nodes v).kind ≡ Decision → v < length nodes
decision_within [] v h = absurd (cc)
decision_within (n ∷ ns) zero h = omega arith
decision_within (n ∷ ns) (suc v) h = omega (arith, decision_within ns v h)

module _ (d : DiagramView) (is : IsDiagram d) (p : List RuleView) (prof : IsProfile d.nodes p) where
  rule_at : (v : ℕ) → (node_at d.nodes v).kind ≡ Decision → IsRule d.nodes (record { decision = v; total = rule_total p v; weights = weights_of p v })
  rule_at v k = prof.rule v (record { within = decision_within d.nodes v k; kind = k })

  positive_at : (v : ℕ) (k : Kind) → (node_at d.nodes v).kind ≡ k → 0 < total_by k (chance_total d.nodes v) (rule_total p v)
  positive_at v Chance e = is.tables.positive v e
  positive_at v Decision e = (rule_at v e).positive
  positive_at v Utility e = omega arith

  fits_at : (v : ℕ) (k : Kind) → (node_at d.nodes v).kind ≡ k → TableFits k (node_at d.nodes v).cells (weights_of p v) (rows_of d.nodes v) (states_of d.nodes v) (total_by k (chance_total d.nodes v) (rule_total p v))
  fits_at v Chance e = is.tables.table v e
  fits_at v Decision e = (rule_at v e).table
  fits_at v Utility e = is.graph.utility_states v e

  pub tables_of : HasTables d.nodes p
  tables_of = record { positive = λ v. positive_at v (node_at d.nodes v).kind refl; at = λ v l. fits_at v (node_at d.nodes v).kind refl }

-- ---- a cell is at most its row's total
sum_has : (n : ℕ) (f : ℕ → ℤ) → ((i : ℕ) → pos 0 ≤ℤ f i) → (k : ℕ) → k < n → f k ≤ℤ sum_below n f
sum_has n f h k l = go (sum_below k f) (f k) (sum_below n f) (sum_grows_to f h 0 k (omega arith)) (sum_grows_to f h (suc k) n (omega arith))
  where
    go : (a b c : ℤ) → pos 0 ≤ℤ a → (a +ℤ b) ≤ℤ c → b ≤ℤ c
    go a b c h k = omega (arith, ints)

abs_le : (z : ℤ) (n : ℕ) → pos 0 ≤ℤ z → z ≤ℤ pos n → nat_abs z ≤ n
abs_le (pos k) n a b = omega (arith, ints)
abs_le (negsuc k) n a b = omega (arith, ints)

cell_le : (cells : List ℤ) (rows states total r s : ℕ) → IsTable cells rows states total → r < rows → s < states → nat_abs (slice_index_or cells (r * states + s) (pos 0)) ≤ total
cell_le cells rows states total r s t hr hs =
    abs_le (slice_index_or cells (r * states + s) (pos 0)) total (t.not_negative (r * states + s))
    (subst (λ x. slice_index_or cells (r * states + s) (pos 0) ≤ℤ x) (t.row r hr) (sum_has states (λ i. slice_index_or cells (r * states + i) (pos 0)) (λ i. t.not_negative (r * states + i)) s hs))

pub pos_at : (ws : List ℕ) (i : ℕ) → slice_index_or (map pos ws) i (pos 0) ≡ pos (slice_index ws i)
pos_at [] i = refl
pos_at (x ∷ ws) zero = refl
pos_at (x ∷ ws) (suc i) = pos_at ws i

table_at : (k : Kind) (cells : List ℤ) (weights : List ℕ) (rows states total r s : ℕ) → TableFits k cells weights rows states total → (k ≡ Utility → total ≡ 1) → r < rows → s < states → nat_abs (table_by k cells weights (r * states + s)) ≤ total
table_at Chance cells weights rows states total r s t u hr hs = cell_le cells rows states total r s t hr hs
table_at Decision cells weights rows states total r s t u hr hs = subst (λ z. nat_abs z ≤ total) (pos_at weights (r * states + s)) (cell_le (map pos weights) rows states total r s t hr hs)
table_at Utility cells weights rows states total r s t u hr hs = let e : total ≡ 1 = u refl in omega arith

module _ (d : DiagramView) (is : IsDiagram d) (p : List RuleView) (prof : IsProfile d.nodes p) (xs : List ℕ) (world : IsWorld (counts_of d.nodes) xs) (v : ℕ) (v_in : v < length d.nodes) where
  -- the factor that a world picks is at most the table's total
  table_le : nat_abs (table d.nodes p v (world_of xs)) ≤ weight_total d.nodes p v
  table_le =
      let range : InRange (states_of d.nodes) (world_of xs) = world_in_range d.nodes xs is.graph.has_state world in
      table_at (node_at d.nodes v).kind (node_at d.nodes v).cells (weights_of p v) (rows_of d.nodes v) (states_of d.nodes v) (weight_total d.nodes p v) (row_of d.nodes v (world_of xs)) (world_of xs v)
      ((tables_of d is p prof).at v v_in) (λ e. ap (λ k. total_by k (chance_total d.nodes v) (rule_total p v)) e) (row_of-below d.nodes v (world_of xs) range) (range.state v)

  module _ (out : ℕ) (n : v ≢ out) where
    pub without_is : table_without d.nodes p out v (world_of xs) ≡ table d.nodes p v (world_of xs)
    without_is = ap (λ b. cond b (pos 1) (table d.nodes p v (world_of xs))) (eqb_no v out n)

    base_is : base_total d.nodes p out v ≡ weight_total d.nodes p v
    base_is = ap (λ b. cond b (states_of d.nodes out) (weight_total d.nodes p v)) (eqb_no v out n)

    without_le : nat_abs (table_without d.nodes p out v (world_of xs)) ≤ base_total d.nodes p out v
    without_le = rw (without_is, base_is) table_le

    -- what the code found of a chance node
    pub chance_within : (cells : List ℤ) (cell : ℕ) → Chance ≡ (node_at d.nodes v).kind → cells ≡ (node_at d.nodes v).cells → cell ≡ cell_of d.nodes v (world_of xs) → nat_abs (to_z w128 (of_z w128 (slice_index_or cells cell (pos 0)))) ≤ base_total d.nodes p out v
    chance_within cells cell k e f =
        subst (λ z. nat_abs z ≤ base_total d.nodes p out v) (sym (to_z-of_z w128 (slice_index_or cells cell (pos 0)) (fits_signed_from_abs w128 (slice_index_or cells cell (pos 0)) (go (nat_abs (slice_index_or cells cell (pos 0))) (weight_total d.nodes p v) (chance_total d.nodes v) (subst (λ z. nat_abs z ≤ weight_total d.nodes p v) (sym found) table_le) (sym (ap (λ q. total_by q (chance_total d.nodes v) (rule_total p v)) k)) (is.limits.totals v (sym k))))))
        (subst (λ z. nat_abs z ≤ base_total d.nodes p out v) (sym (found ∙ sym without_is)) without_le)
      where
        found : slice_index_or cells cell (pos 0) ≡ table d.nodes p v (world_of xs)
        found = (λ i. slice_index_or (e i) (f i) (pos 0)) ∙ ap (λ q. table_by q (node_at d.nodes v).cells (weights_of p v) (cell_of d.nodes v (world_of xs))) k

        go : (a t c : ℕ) → a ≤ t → t ≡ c → c ≤ greatest_number → a < 2 ^ 127
        go a t c l e h = omega arith

    -- and of a decision
    pub decision_is : (places : List ℕ) (cell weight : ℕ) → HasPlaces d.nodes p places → Decision ≡ (node_at d.nodes v).kind → cell ≡ cell_of d.nodes v (world_of xs) → weight ≡ slice_index (get_or p (slice_index places v) no_rule).weights cell → pos weight ≡ table_without d.nodes p out v (world_of xs)
    decision_is places cell weight h k f e =
        ap pos (e ∙ ap (λ c. slice_index (get_or p (slice_index places v) no_rule).weights c) f ∙ ap (λ ws. slice_index ws (cell_of d.nodes v (world_of xs))) (sym (weights_at p v (slice_index places v) (h.at v (record { within = v_in; kind = sym k })))))
        ∙ ap (λ q. table_by q (node_at d.nodes v).cells (weights_of p v) (cell_of d.nodes v (world_of xs))) k
        ∙ sym without_is

    pub decision_le : (weight : ℕ) → pos weight ≡ table_without d.nodes p out v (world_of xs) → weight ≤ base_total d.nodes p out v
    decision_le weight e = subst (λ z. nat_abs z ≤ base_total d.nodes p out v) (sym e) without_le

    pub cell_inside : (places : List ℕ) (cell : ℕ) → HasPlaces d.nodes p places → Decision ≡ (node_at d.nodes v).kind → cell < rows_of d.nodes v * states_of d.nodes v → cell < length (get_or p (slice_index places v) no_rule).weights
    cell_inside places cell h k l =
        let r : IsRule d.nodes (record { decision = v; total = rule_total p v; weights = weights_of p v }) = prof.rule v (record { within = v_in; kind = sym k }) in
        subst (λ n. cell < n) (sym (ap length (sym (weights_at p v (slice_index places v) (h.at v (record { within = v_in; kind = sym k })))) ∙ sym (length-map (weights_of p v) pos) ∙ r.table.len)) l

-- the decision left out counts with its states
pub left_out_within : (d : DiagramView) (p : List RuleView) (v out : ℕ) → IsDiagram d → v ≡ out → 1 ≤ base_total d.nodes p out v
left_out_within d p v out is e = subst (λ b. 1 ≤ cond b (states_of d.nodes out) (weight_total d.nodes p v)) (sym (eqb_yes v out e)) (is.graph.has_state out)

pub base_positive : (d : DiagramView) (is : IsDiagram d) (p : List RuleView) (prof : IsProfile d.nodes p) (out v : ℕ) → 0 < base_total d.nodes p out v
base_positive d is p prof out v = go (eqb v out)
  where
    go : (b : Bool) → 0 < cond b (states_of d.nodes out) (weight_total d.nodes p v)
    go true = is.graph.has_state out
    go false = (tables_of d is p prof).positive v

-- ---- node by node
-- the nodes from i on
pub rest_from : List NodeView → ℕ → List ℕ
rest_from nodes i = range_with_len i (length nodes - i)

pub rest_first : (nodes : List NodeView) → rest_from nodes 0 ≡ numbers_of nodes
unfolding rest_from
rest_first nodes = ap (range_with_len 0) (all (length nodes))
  where
    all : (n : ℕ) → n - 0 ≡ n
    all n = omega arith

pub rest_next : (nodes : List NodeView) (i : ℕ) → i < length nodes → rest_from nodes i ≡ i ∷ rest_from nodes (i + 1)
unfolding rest_from
rest_next nodes i h = ap (range_with_len i) (one (length nodes) i h)
  where
    one : (n i : ℕ) → i < n → n - i ≡ suc (n - (i + 1))
    one n i h = omega arith

pub rest_none : (nodes : List NodeView) (i : ℕ) → length nodes ≤ i → rest_from nodes i ≡ []
unfolding rest_from
rest_none nodes i h = ap (range_with_len i) (none (length nodes) i h)
  where
    none : (n i : ℕ) → n ≤ i → n - i ≡ 0
    none n i h = omega arith

-- the factors of the world's weight without the rule of one decision
abbrev pub factors : List NodeView → List RuleView → ℕ → World → ℕ → ℤ
factors nodes p out w v = table_without nodes p out v w

pub product_positive : (f : ℕ → ℕ) (vs : List ℕ) → ((v : ℕ) → 0 < f v) → 0 < nat_product_over f vs
product_positive f [] h = omega arith
product_positive f (v ∷ vs) h = let a : 0 < f v = h v in let b : 0 < nat_product_over f vs = product_positive f vs h in omega (arith, mul-le-mul_left (f v) b)

-- the product so far, with the factors still to come
pub record ProductSoFar (nodes : List NodeView) (f : ℕ → ℤ) (t : ℕ → ℕ) (acc i : ℕ) : Type 0 where
  pub value : pos acc *ℤ product_over f (rest_from nodes i) ≡ product_over f (numbers_of nodes)
  pub bound : acc * nat_product_over t (rest_from nodes i) ≤ nat_product_over t (numbers_of nodes)

pub product_start : (nodes : List NodeView) (f : ℕ → ℤ) (t : ℕ → ℕ) → ProductSoFar nodes f t 1 0
product_start nodes f t = record {
  value = one_mul (product_over f (rest_from nodes 0)) ∙ ap (product_over f) (rest_first nodes);
  bound = subst (λ l. 1 * nat_product_over t l ≤ nat_product_over t (numbers_of nodes)) (sym (rest_first nodes)) (omega arith);
}

module _ (nodes : List NodeView) (f : ℕ → ℤ) (t : ℕ → ℕ) (positive : (v : ℕ) → 0 < t v) (acc i x : ℕ) (s : ProductSoFar nodes f t acc i) (i_in : i < length nodes) (x_is : pos x ≡ f i) (x_le : x ≤ t i) where
  next_bound : acc * x * nat_product_over t (rest_from nodes (i + 1)) ≤ nat_product_over t (numbers_of nodes)
  next_bound = go acc x (t i) (nat_product_over t (rest_from nodes (i + 1))) (nat_product_over t (numbers_of nodes)) x_le (subst (λ l. acc * nat_product_over t l ≤ nat_product_over t (numbers_of nodes)) (rest_next nodes i i_in) s.bound)
    where
      go : (a f t r m : ℕ) → f ≤ t → a * (t * r) ≤ m → a * f * r ≤ m
      go a f t r m h k = let e : a * f ≤ a * t = mul-le-mul_left a h in omega (arith, mul-le-mul_right r e)

  pub product_step : ProductSoFar nodes f t (acc * x) (i + 1)
  product_step = record {
    value = mul_assoc (pos acc) (pos x) (product_over f (rest_from nodes (i + 1))) ∙ ap (λ y. pos acc *ℤ (y *ℤ product_over f (rest_from nodes (i + 1)))) x_is ∙ sym (ap (λ l. pos acc *ℤ product_over f l) (rest_next nodes i i_in)) ∙ s.value;
    bound = next_bound;
  }

  pub product_fits : acc * x ≤ nat_product_over t (numbers_of nodes)
  product_fits = go (acc * x) (nat_product_over t (rest_from nodes (i + 1))) (nat_product_over t (numbers_of nodes)) (product_positive t (rest_from nodes (i + 1)) positive) next_bound
    where
      go : (a r m : ℕ) → 0 < r → a * r ≤ m → a ≤ m
      go a r m h k = omega (arith, mul-le-mul_left a h)

-- once it is nought it stays so
pub product_zero : (nodes : List NodeView) (f : ℕ → ℤ) (t : ℕ → ℕ) (acc i : ℕ) → ProductSoFar nodes f t acc i → acc ≡ 0 → pos 0 ≡ product_over f (numbers_of nodes)
product_zero nodes f t acc i s e = sym (zero_mul (product_over f (rest_from nodes i))) ∙ ap (λ n. pos n *ℤ product_over f (rest_from nodes i)) (sym e) ∙ s.value

pub product_end : (nodes : List NodeView) (f : ℕ → ℤ) (t : ℕ → ℕ) (acc i : ℕ) → ProductSoFar nodes f t acc i → length nodes ≤ i → (pos acc ≡ product_over f (numbers_of nodes)) × (acc ≤ nat_product_over t (numbers_of nodes))
product_end nodes f t acc i s h = (
  sym (mul_one (pos acc)) ∙ sym (ap (λ l. pos acc *ℤ product_over f l) (rest_none nodes i h)) ∙ s.value,
  let b : acc * 1 ≤ nat_product_over t (numbers_of nodes) = subst (λ l. acc * nat_product_over t l ≤ nat_product_over t (numbers_of nodes)) (rest_none nodes i h) s.bound in omega arith,
)
