-- A decision that does not rely on a chance node's table weighs its states alike in all diagrams
-- that differ there alone.
use Rattle.std.proofs.Common.{◌≡◌, ◌≢◌, ◌∙◌, ◌==◌, ℕ, ◌+◌, ◌*◌, ◌<◌, Bool, true, false, cond, ◌&&◌, eqb, List, [], ◌∷◌, map, length, slice_index_or, refl, sym, ap, subst, inr, ℤ, pos, ◌-ℤ◌, ◌*ℤ◌, ◌≤ℤ◌, ◌<ℤ◌, nat_abs, arith}
use Rattle.std.proofs.lemmas.Int.{ints}
use Rattle.std.proofs.Math.Decide.{ℕ_discrete, dec_lt}
use Rattle.std.specs.List.{list_any, range_with_len}
use Rattle.finite_sums.specs.Sums.{World, InRange, product_over, sum_each, sum_over}
use Rattle.finite_sums.proofs.Ints.{mul_assoc, mul_comm, mul_zero, zero_mul}
use Rattle.maid_model.specs.declared.diagrams.Kind.{Kind}
use Rattle.maid_model.specs.declared.diagrams.Kind.TheVariants.{Chance, Decision}
use Rattle.maid_model.specs.Edits.{as_decision}
use Rattle.maid_model.specs.Gains.{gain_at, mass_at, utility_below, value_for, weight_without}
use Rattle.maid_model.specs.Graph.{IsGraph}
use Rattle.maid_model.specs.Nodes.{IsDecision, agent_of, is_utility, is_utility_of, node_at, numbers_of, owns, parents_of, rows_of, states_of}
use Rattle.maid_model.specs.Profiles.{IsProfile, IsRule}
use Rattle.maid_model.specs.Relevance.{ReliesOn}
use Rattle.maid_model.specs.Tables.{HasChanceTables, cell_of, chance_total, row_of, rule_total, table, table_by, weights_of}
use Rattle.maid_model.specs.Views.{NodeView, RuleView}
use Rattle.maid_model.proofs.Tables.{row_of-below}
use Rattle.maid_model.proofs.Weighing.{pos_at}
use Rattle.maid_laws.specs.Irrelevance.{AgreeWhereRelied}
use Rattle.maid_laws.proofs.Basis.{product_over-cong, table_same}
use Rattle.maid_laws.proofs.Best.{cancel_le}
use Rattle.maid_laws.proofs.Booleans.{eqb_yes, eqb_no}
use Rattle.maid_laws.proofs.Choices.{made_at, made_profile, put_at}
use Rattle.maid_laws.proofs.Rearranged.{numbered}
use Rattle.maid_laws.proofs.RowLaws.{irrelevance_law, mass_at_least, no_gain_like}
use Rattle.maid_laws.proofs.Rules.{among_decisions}
use Rattle.maid_laws.proofs.Step.{times_le}
use Rattle.maid_laws.proofs.Tied.{decision_of, tables_of}
use Rattle.arc_laws.proofs.ControlLaws.{chance_within}
use Rattle.arc_laws.proofs.InControl.{Controls, abs_cells, controls, decision_back, decision_not_x, decision_there, graph_kept, own_table, parents_at, states_at, tables_kept}
use Rattle.arc_laws.proofs.SameArcs.{row_same, rule_there, states_same}
use Rattle.reach_laws.specs.Threshold.{IsMoved, IsPlace, state_weight, others_weight}
use Rattle.reach_laws.proofs.Perfect.{IsLike, graph_there, like_of, profile_there, turned}
use Rattle.reach_laws.proofs.Perfect as like
use Rattle.threshold.proofs.Alike.{descends_along}

-- ---- where x is a decision with its table as its rule, another decision has the same sums
module _ (nodes others : List NodeView) (agent x : ℕ) (r : Controls nodes others agent x) (k : (node_at nodes x).kind ≡ Chance) (c : HasChanceTables nodes) (p : List RuleView) (hp : IsProfile nodes p) where
  states_there : (v : ℕ) → states_of others v ≡ states_of nodes v
  states_there = states_at nodes others agent x r k

  parents_there : (v : ℕ) → parents_of others v ≡ parents_of nodes v
  parents_there = parents_at nodes others agent x r k

  row_there : (v : ℕ) (w : World) → row_of others v w ≡ row_of nodes v w
  row_there = row_same nodes others r.len states_there parents_there

  kind_there : (node_at others x).kind ≡ Decision
  kind_there = ap (λ n. n.kind) r.at

  abbrev ws : List ℕ
  ws = map nat_abs (node_at nodes x).cells

  abbrev total : ℕ
  total = chance_total nodes x

  -- the profile with x's table as the rule of x
  abbrev pub filled : List RuleView
  filled = put_at others x total ws p

  pub filled_profile : IsProfile others filled
  filled_profile = made_profile others (λ v. cond (eqb v x) total (rule_total p v)) (λ v. cond (eqb v x) ws (weights_of p v)) (λ v kv. go v kv (ℕ_discrete v x))
    where
      go : (v : ℕ) → IsDecision others v → Dec (v ≡ x) → IsRule others (record { decision = v; total = cond (eqb v x) total (rule_total p v); weights = cond (eqb v x) ws (weights_of p v) })
      go v kv (yes e) =
          subst (λ b. IsRule others (record { decision = v; total = cond b total (rule_total p v); weights = cond b ws (weights_of p v) })) (sym (eqb_yes v x e))
          (subst (λ u. IsRule others (record { decision = u; total = total; weights = ws })) (sym e) (record { positive = c.positive x k; table = own_table nodes others agent x r k c }))
      go v kv (no n) =
          subst (λ b. IsRule others (record { decision = v; total = cond b total (rule_total p v); weights = cond b ws (weights_of p v) })) (sym (eqb_no v x n))
          (rule_there nodes others r.len states_there parents_there (record { decision = v; total = rule_total p v; weights = weights_of p v }) (hp.rule v (decision_back nodes others agent x r k v n kv)))

  weights_at : (v : ℕ) → IsDecision others v → weights_of filled v ≡ cond (eqb v x) ws (weights_of p v)
  weights_at v kv = (made_at others (λ u. cond (eqb u x) total (rule_total p u)) (λ u. cond (eqb u x) ws (weights_of p u)) v (among_decisions others v kv)).0

  pub weights_filled : (v : ℕ) → IsDecision others v → v ≢ x → weights_of filled v ≡ weights_of p v
  weights_filled v kv n = weights_at v kv ∙ ap (λ b. cond b ws (weights_of p v)) (eqb_no v x n)

  own_filled : weights_of filled x ≡ ws
  own_filled = weights_at x (record { within = subst (λ n. x < n) (sym r.len) (chance_within nodes x k); kind = kind_there }) ∙ ap (λ b. cond b ws (weights_of p x)) (eqb_yes x x refl)

  table_filled : (v : ℕ) → v < length nodes → (w : World) → table others filled v w ≡ table nodes p v w
  table_filled v l w = go (ℕ_discrete v x)
    where
      at_x : table others filled x w ≡ table nodes p x w
      at_x =
          (λ i. table_by (kind_there i) (node_at others x).cells (own_filled i) (row_there x w i * states_there x i + w x))
          ∙ sym (pos_at ws (cell_of nodes x w))
          ∙ ap (λ cs. slice_index_or cs (cell_of nodes x w) (pos 0)) (abs_cells (node_at nodes x).cells (c.table x k).not_negative)
          ∙ (λ i. table_by (sym k i) (node_at nodes x).cells (weights_of p x) (cell_of nodes x w))

      go : Dec (v ≡ x) → table others filled v w ≡ table nodes p v w
      go (yes e) = subst (λ u. table others filled u w ≡ table nodes p u w) (sym e) at_x
      go (no n) =
          (λ i. table_by (r.else v n i).kind (r.else v n i).cells (weights_of filled v) (row_there v w i * states_there v i + w v))
          ∙ table_same (node_at nodes v).kind (node_at nodes v).cells (weights_of filled v) (weights_of p v) (cell_of nodes v w)
          (λ e. weights_filled v (decision_there nodes others agent x r k v (record { within = l; kind = e })) n)

  -- ---- utilities
  value_there : (other v : ℕ) (w : World) → value_for others other v w ≡ value_for nodes other v w
  value_there other v w = go (ℕ_discrete v x)
    where
      none : (b : Bool) (z : ℤ) → b ≡ false → cond b z (pos 0) ≡ pos 0
      none true z e = cc
      none false z e = refl

      no_value : (ns : List NodeView) (d : Kind) → (node_at ns v).kind ≡ d → is_utility d ≡ false → value_for ns other v w ≡ pos 0
      no_value ns d e f = none (is_utility_of ns other v) (slice_index_or (node_at ns v).cells (row_of ns v w) (pos 0)) (ap (λ a. is_utility a && owns ns other v) e ∙ ap (λ b. b && owns ns other v) f)

      go : Dec (v ≡ x) → value_for others other v w ≡ value_for nodes other v w
      go (yes e) = no_value others Decision (ap (λ u. (node_at others u).kind) e ∙ kind_there) refl ∙ sym (no_value nodes Chance (ap (λ u. (node_at nodes u).kind) e ∙ k) refl)
      go (no n) = λ i. cond (is_utility (r.else v n i).kind && list_any (λ a. a == other) ((r.else v n i).owner ∷ (r.else v n i).more)) (slice_index_or (r.else v n i).cells (row_there v w i) (pos 0)) (pos 0)

  module _ (d : ℕ) (kd : IsDecision nodes d) where
    below_there : (w : World) → utility_below others d w ≡ utility_below nodes d w
    below_there w = λ j. sum_each (λ v. cond (descends_along nodes others r.len parents_there d v j) (value_at v j) (pos 0)) (range_with_len 0 (r.len j))
      where
        value_at : (v : ℕ) → value_for others (agent_of others d) v w ≡ value_for nodes (agent_of nodes d) v w
        value_at v = ap (λ n. value_for others n.owner v w) (r.else d (decision_not_x nodes others agent x r k d kd)) ∙ value_there (agent_of nodes d) v w

    weight_there : (w : World) → weight_without others filled d w ≡ weight_without nodes p d w
    weight_there w =
        (λ i. product_over (λ v. cond (eqb v d) (pos 1) (table others filled v w)) (range_with_len 0 (r.len i)))
        ∙ product_over-cong (λ v. cond (eqb v d) (pos 1) (table others filled v w)) (λ v. cond (eqb v d) (pos 1) (table nodes p v w)) (numbers_of nodes) (λ v m. ap (cond (eqb v d) (pos 1)) (table_filled v (numbered nodes v m) w))

    pub gain_there : (i line : ℕ) → gain_at others filled d i line ≡ gain_at nodes p d i line
    gain_there i line = λ j. sum_over (states_same nodes others r.len states_there parents_there j) (range_with_len 0 (r.len j)) (λ w. cond (eqb (w d) i && eqb (row_there d w j) line) (weight_there w j *ℤ below_there w j) (pos 0)) (λ v. 0)

    pub mass_there : (line : ℕ) → mass_at others filled d line ≡ mass_at nodes p d line
    mass_there line = λ j. sum_over (states_same nodes others r.len states_there parents_there j) (range_with_len 0 (r.len j)) (λ w. cond (eqb (w d) 0 && eqb (row_there d w j) line) (weight_there w j) (pos 0)) (λ v. 0)

-- ---- a moved table on which a decision does not rely
module _ (nodes : List NodeView) (x state row : ℕ) (g : IsGraph nodes) (c : HasChanceTables nodes) (place : IsPlace nodes x state row) (num den : ℕ) (moved : List NodeView) (m : IsMoved nodes x state row num den moved)
    (agent d : ℕ) (kd : IsDecision nodes d) (free : ReliesOn (as_decision nodes agent x) d x → ⊥) (base : List RuleView) (hb : IsProfile nodes base) where
  abbrev others : List NodeView
  others = as_decision nodes agent x

  r : Controls nodes others agent x
  r = controls nodes agent x (chance_within nodes x place.kind)

  l : IsLike nodes moved
  l = like_of nodes moved x state row num den place m

  s : Controls moved others agent x
  s = record {
    len = r.len ∙ sym m.len;
    else = λ v n. r.else v n ∙ sym (m.else v n);
    at = r.at ∙ (λ i. record { kind = Decision; owner = agent; more = []; states = sym (l.states x) i; parents = sym (l.parents x) i; cells = [] });
  }

  chance : (node_at moved x).kind ≡ Chance
  chance = l.kinds x ∙ place.kind

  decides : IsDecision moved d
  decides = like.decision_back moved nodes (turned nodes moved l) d kd

  graph : IsGraph moved
  graph = graph_there nodes moved l g

  profile : IsProfile moved base
  profile = profile_there nodes moved l base hb

  abbrev before : List RuleView
  before = filled nodes others agent x r place.kind c base hb

  abbrev after : List RuleView
  after = filled moved others agent x s chance m.tables base profile

  agree : AgreeWhereRelied others d before after
  agree e h = go (ℕ_discrete e x)
    where
      go : Dec (e ≡ x) → weights_of before e ≡ weights_of after e
      go (yes q) = absurd (free (subst (ReliesOn others d) q h))
      go (no n) = weights_filled nodes others agent x r place.kind c base hb e h.on_decision n ∙ sym (weights_filled moved others agent x s chance m.tables base profile e h.on_decision n)

  in_proportion : 1 < states_of nodes d → (i line : ℕ) → gain_at nodes base d i line *ℤ mass_at moved base d line ≡ gain_at moved base d i line *ℤ mass_at nodes base d line
  in_proportion many i line =
      (λ j. sym (gain_there nodes others agent x r place.kind c base hb d kd i line) j *ℤ sym (mass_there moved others agent x s chance m.tables base profile d decides line) j)
      ∙ irrelevance_law others before after d i line (graph_kept nodes others agent x r place.kind g) (tables_kept nodes others agent x r place.kind c)
      (filled_profile nodes others agent x r place.kind c base hb) (filled_profile moved others agent x s chance m.tables base profile) there
      (record { within = there.within; states = inr (subst (λ n. 1 < n) (sym (states_at nodes others agent x r place.kind d)) many) }) agree
      ∙ (λ j. gain_there moved others agent x s chance m.tables base profile d decides i line j *ℤ mass_there nodes others agent x r place.kind c base hb d kd line j)
    where
      there : IsDecision others d
      there = decision_there nodes others agent x r place.kind d kd

  -- in a row with mass a state that gains no more than another gains no more where the table is
  -- moved
  pub gains_no_more : (line choice other : ℕ) → choice < states_of nodes d → other < states_of nodes d → pos 0 <ℤ mass_at nodes base d line
      → gain_at nodes base d other line ≤ℤ gain_at nodes base d choice line → gain_at moved base d other line ≤ℤ gain_at moved base d choice line
  gains_no_more line choice other i j reached best = go (dec_lt 1 (states_of nodes d))
    where
      join : (a b n m e f : ℤ) → e *ℤ m ≡ a *ℤ n → f *ℤ m ≡ b *ℤ n → (m *ℤ e) ≤ℤ (m *ℤ f) → (a *ℤ n) ≤ℤ (b *ℤ n)
      join a b n m e f p q h = subst (λ z. z ≤ℤ (b *ℤ n)) p (subst (λ z. (e *ℤ m) ≤ℤ z) q (subst (λ z. z ≤ℤ (f *ℤ m)) (mul_comm m e) (subst (λ z. (m *ℤ e) ≤ℤ z) (mul_comm m f) h)))

      alone : (n a : ℕ) → ¬ (1 < n) → a < n → a ≡ 0
      alone n a few h = omega arith

      even : (a b : ℤ) → a ≡ b → a ≤ℤ b
      even a b e = omega (arith, ints)

      go : Dec (1 < states_of nodes d) → gain_at moved base d other line ≤ℤ gain_at moved base d choice line
      go (yes many) =
          cancel_le (gain_at moved base d other line) (gain_at moved base d choice line) (mass_at nodes base d line) reached
          (join (gain_at moved base d other line) (gain_at moved base d choice line) (mass_at nodes base d line) (mass_at moved base d line) (gain_at nodes base d other line) (gain_at nodes base d choice line) (in_proportion many other line) (in_proportion many choice line)
          (times_le (mass_at moved base d line) (gain_at nodes base d other line) (gain_at nodes base d choice line) (mass_at_least moved base d line graph (tables_of moved base graph m.tables profile) decides.within) best))
      go (no few) = even (gain_at moved base d other line) (gain_at moved base d choice line) (ap (λ s. gain_at moved base d s line) (alone (states_of nodes d) other few j ∙ sym (alone (states_of nodes d) choice few i)))

  -- ---- rows without mass
  -- where a product with a number above nought is nought, the other factor is
  zero_factor : (a m : ℤ) → pos 0 <ℤ m → a *ℤ m ≡ pos 0 → a ≡ pos 0
  zero_factor a m h e =
      even a
      (cancel_le a (pos 0) m h (subst (λ z. z ≤ℤ (pos 0 *ℤ m)) (sym e) (subst (λ z. pos 0 ≤ℤ z) (sym (zero_mul m)) same)))
      (cancel_le (pos 0) a m h (subst (λ z. (pos 0 *ℤ m) ≤ℤ z) (sym e) (subst (λ z. z ≤ℤ pos 0) (sym (zero_mul m)) same)))
    where
      same : pos 0 ≤ℤ pos 0
      same = omega (arith, ints)

      even : (a : ℤ) → a ≤ℤ pos 0 → pos 0 ≤ℤ a → a ≡ pos 0
      even a h k = omega (arith, ints)

  above : (n : ℕ) → 0 < n → pos 0 <ℤ pos n
  above n h = omega (arith, ints)

  module _ (positive : 0 < den) (weighs : pos 0 <ℤ state_weight nodes x state row) where
    -- a cell that is nought stays so
    stays_zero : (i j : ℕ) → i < rows_of nodes x → j < states_of nodes x → state_weight nodes x j i ≡ pos 0 → state_weight moved x j i ≡ pos 0
    stays_zero i j a b e = go (ℕ_discrete i row) (ℕ_discrete j state)
      where
        clash : (z : ℤ) → pos 0 <ℤ z → z ≡ pos 0 → ⊥
        clash z h e = omega (arith, ints)

        go : Dec (i ≡ row) → Dec (j ≡ state) → state_weight moved x j i ≡ pos 0
        go (no n) k =
            zero_factor (state_weight moved x j i) (pos (chance_total nodes x)) (above (chance_total nodes x) (c.positive x place.kind))
            (m.elsewhere j i b a n ∙ ap (λ z. z *ℤ pos (chance_total moved x)) e ∙ zero_mul (pos (chance_total moved x)))
        go (yes p) (yes q) = absurd (clash (state_weight nodes x state row) weighs ((λ t. state_weight nodes x (sym q t) (sym p t)) ∙ e))
        go (yes p) (no n) =
            let here : state_weight nodes x j row ≡ pos 0 = ap (λ t. state_weight nodes x j t) (sym p) ∙ e in
            let nought = m.shared j b n ∙ ap (λ z. ((pos den -ℤ pos num) *ℤ z) *ℤ pos (chance_total moved x)) here ∙ ap (λ z. z *ℤ pos (chance_total moved x)) (mul_zero (pos den -ℤ pos num)) ∙ zero_mul (pos (chance_total moved x)) in
            ap (λ t. state_weight moved x j t) p
            ∙ zero_factor (state_weight moved x j row) (pos den) (above den positive)
            (zero_factor (state_weight moved x j row *ℤ pos den) (others_weight nodes x state row) place.others (mul_assoc (state_weight moved x j row) (pos den) (others_weight nodes x state row) ∙ nought))

    -- a table's number that is nought stays so
    zero_there : (v : ℕ) → v ≢ d → (w : World) → InRange (states_of others) w → table others before v w ≡ pos 0 → table others after v w ≡ pos 0
    zero_there v apart w h e = go (ℕ_discrete v x)
      where
        inside : InRange (states_of nodes) w
        inside = subst (λ f. InRange f w) (states_same nodes others r.len (states_at nodes others agent x r place.kind) (parents_at nodes others agent x r place.kind)) h

        was : table others before x w ≡ state_weight nodes x (w x) (row_of nodes x w)
        was = table_filled nodes others agent x r place.kind c base hb x (chance_within nodes x place.kind) w ∙ (λ t. table_by (place.kind t) (node_at nodes x).cells (weights_of base x) (cell_of nodes x w))

        is : table others after x w ≡ state_weight moved x (w x) (row_of nodes x w)
        is =
            table_filled moved others agent x s chance m.tables base profile x (subst (λ n. x < n) (sym m.len) (chance_within nodes x place.kind)) w
            ∙ (λ t. table_by (chance t) (node_at moved x).cells (weights_of base x) (cell_of moved x w))
            ∙ ap (λ i. state_weight moved x (w x) i) (row_same nodes moved l.len l.states l.parents x w)

        go : Dec (v ≡ x) → table others after v w ≡ pos 0
        go (yes q) =
            let zero = sym was ∙ ap (λ u. table others before u w) (sym q) ∙ e in
            ap (λ u. table others after u w) q ∙ is ∙ stays_zero (row_of nodes x w) (w x) (row_of-below nodes x w inside) (inside.state x) zero
        go (no n) =
            table_same (node_at others v).kind (node_at others v).cells (weights_of after v) (weights_of before v) (cell_of others v w)
            (λ k. let kv = decision_of others v k in weights_filled moved others agent x s chance m.tables base profile v kv n ∙ sym (weights_filled nodes others agent x r place.kind c base hb v kv n))
            ∙ e

    -- in a row without mass no state gains anything where the table is moved
    pub gains_nothing : (line i : ℕ) → mass_at nodes base d line ≡ pos 0 → gain_at moved base d i line ≡ pos 0
    gains_nothing line i none =
        let there = decision_there nodes others agent x r place.kind d kd in
        let g' = graph_kept nodes others agent x r place.kind g in
        let c' = tables_kept nodes others agent x r place.kind c in
        sym (gain_there moved others agent x s chance m.tables base profile d decides i line)
        ∙ no_gain_like others before after d i line g' (tables_of others before g' c' (filled_profile nodes others agent x r place.kind c base hb)) (tables_of others after g' c' (filled_profile moved others agent x s chance m.tables base profile)) there.within zero_there
        (mass_there nodes others agent x r place.kind c base hb d kd line ∙ none)
