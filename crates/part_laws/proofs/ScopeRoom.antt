-- The room that the bounds of scopes leave, whose rules are small, and the bound of the whole.
use Rattle.std.proofs.Common.{◌≡◌, ◌⊎◌, ◌∙◌, ℕ, ◌*◌, ◌^◌, ◌<◌, ◌≤◌, max, Bool, true, false, cond, ◌&&◌, filter, List, [], ◌∷◌, map, refl, sym, ap, subst, inl, inr, arith}
use Rattle.std.proofs.Math.Decide.{ℕ_discrete, dec_lt}
use Rattle.std.proofs.Math.Nat.{mul-le-mul_left, mul-le-mul_right}
use Rattle.maid_model.specs.declared.diagrams.Kind.{Kind}
use Rattle.maid_model.specs.declared.diagrams.Kind.TheVariants.{Chance, Decision, Utility}
use Rattle.maid_model.specs.Answers.{rows_at}
use Rattle.maid_model.specs.Bounds.{bound_by, bound_factor, bound_product}
use Rattle.maid_model.specs.Diagrams.{greatest_number}
use Rattle.maid_model.specs.Gains.{greatest_abs, greatest_utility}
use Rattle.maid_model.specs.Graph.{IsGraph, descends}
use Rattle.maid_model.specs.Nodes.{node_at, states_of, numbers_of, decisions_of, is_utility, is_utility_of, owns, agent_of}
use Rattle.maid_model.specs.Profiles.{uniform_rule, pure_rule}
use Rattle.maid_model.specs.Relevance.{ReliesOn}
use Rattle.maid_model.specs.Tables.{rule_total, chance_total}
use Rattle.maid_model.specs.Views.{NodeView}
use Rattle.finite_sums.specs.Members.{Among}
use Rattle.maid_model.specs.Parts.{leads_to}
use Rattle.maid_model.specs.Scopes.{goals_of, utilities_for, scope_product, scope_product_for, chance_factor_by, greatest_of, scope_bound, scope_bound_for}
use Rattle.part_laws.specs.ScopeLaws.{AnswersHaveUnitRules, BasesHaveSmallRules, ScopedSumsHaveRoom, ScopedBoundsAreWeaker}
use Rattle.maid_laws.proofs.Booleans.{eqb_yes, eqb_no}
use Rattle.part_laws.proofs.NaturalSums.{some_sum, sum_le, product_le, some_factors_le}
use Rattle.maid_laws.proofs.Rules.{among_decisions}
use Rattle.part_laws.proofs.ScopeBounds.{factors_positive, chances_positive, decisions_law, agents_law}

-- ---- bases
-- a uniform rule adds up to the count of states
uniform_total : (nodes : List NodeView) (ds : List ℕ) (v : ℕ) → Among v ds → rule_total (map (uniform_rule nodes) ds) v ≡ states_of nodes v
uniform_total nodes [] v m = absurd m
uniform_total nodes (d ∷ ds) v m = go (ℕ_discrete d v) m (λ k. uniform_total nodes ds v k)
  where
    go : Dec (d ≡ v) → (v ≡ d) ⊎ Among v ds → (Among v ds → rule_total (map (uniform_rule nodes) ds) v ≡ states_of nodes v) → rule_total (map (uniform_rule nodes) (d ∷ ds)) v ≡ states_of nodes v
    go (yes e) k r = ap (λ b. cond b (states_of nodes d) (rule_total (map (uniform_rule nodes) ds) v)) (eqb_yes d v e) ∙ ap (states_of nodes) e
    go (no n) (inl e) r = absurd (n (sym e))
    go (no n) (inr k) r = ap (λ b. cond b (states_of nodes d) (rule_total (map (uniform_rule nodes) ds) v)) (eqb_no d v n) ∙ r k

-- a pure rule adds up to 1
pure_total : (nodes : List NodeView) (choices : ℕ → List ℕ) (ds : List ℕ) (v : ℕ) → Among v ds → rule_total (map (λ d. pure_rule nodes d (choices d)) ds) v ≡ 1
pure_total nodes choices [] v m = absurd m
pure_total nodes choices (d ∷ ds) v m = go (ℕ_discrete d v) m (λ k. pure_total nodes choices ds v k)
  where
    go : Dec (d ≡ v) → (v ≡ d) ⊎ Among v ds → (Among v ds → rule_total (map (λ d. pure_rule nodes d (choices d)) ds) v ≡ 1) → rule_total (map (λ d. pure_rule nodes d (choices d)) (d ∷ ds)) v ≡ 1
    go (yes e) k r = ap (λ b. cond b 1 (rule_total (map (λ d. pure_rule nodes d (choices d)) ds) v)) (eqb_yes d v e)
    go (no n) (inl e) r = absurd (n (sym e))
    go (no n) (inr k) r = ap (λ b. cond b 1 (rule_total (map (λ d. pure_rule nodes d (choices d)) ds) v)) (eqb_no d v n) ∙ r k

pub answers_law : AnswersHaveUnitRules
answers_law nodes answers e is = pure_total nodes (λ v. map (λ r. r.choice) (rows_at answers v)) (decisions_of nodes) e (among_decisions nodes e is)

pub bases_law : BasesHaveSmallRules
bases_law nodes s base d g unit b e is n = go (dec_lt (states_of nodes e) (rule_total base e))
  where
    not_more : ¬ (states_of nodes e < rule_total base e) → rule_total base e ≤ states_of nodes e
    not_more k = omega arith

    relied : states_of nodes e < rule_total base e → ReliesOn nodes d e → ⊥
    relied l r =
        let one : rule_total base e ≡ 1 = (b.relied e r).total ∙ unit e is in
        let has : 0 < states_of nodes e = g.has_state e in
        omega arith

    go : Dec (states_of nodes e < rule_total base e) → rule_total base e ≤ states_of nodes e
    go (no k) = not_more k
    go (yes l) = absurd (
        let t : rule_total base e ≡ states_of nodes e = (b.others e is (relied l)).total ∙ uniform_total nodes (decisions_of nodes) e (among_decisions nodes e is) in
        omega arith)

-- ---- room
pub room_law : ScopedSumsHaveRoom
room_law d p g h r k = (
  (λ v is small.
      let f = decisions_law d p v g h r is small in
      let l : scope_bound d v ≤ greatest_number = k.decisions v is in
      record {
        call = trans f.call l;
        product = trans f.product l;
        utilities = trans f.utilities l;
        gain = λ state row. trans (f.gain state row) l;
        mass = λ row. trans (f.mass row) l;
      }),
  (λ agent less unit.
      let f = agents_law d p agent g h r unit in
      let l : scope_bound_for d agent ≤ greatest_number = k.agents agent less in
      record {
        call = trans f.call l;
        product = trans f.product l;
        utilities = trans f.utilities l;
        gain = trans f.gain l;
      }),
)
  where
    trans : {a b c : ℕ} → a ≤ b → b ≤ c → a ≤ c
    trans h k = omega arith

-- ---- the bound of the whole
product_bound : (a b t s z : ℕ) → a ≤ b → s ≤ z → a * max t s ≤ b * max t z
product_bound a b t s z h k =
    let m : max t s ≤ max t z = omega arith in
    omega (arith, mul-le-mul_right (max t s) h, mul-le-mul_left b m)

module _ (nodes : List NodeView) where
  -- utilities that pass a test, of all
  utilities_le : (q : ℕ → Bool) → ((v : ℕ) → q v ≡ true → is_utility (node_at nodes v).kind ≡ true) → greatest_of nodes (filter q (numbers_of nodes)) ≤ greatest_utility nodes
  utilities_le q h =
      subst (λ x. x ≤ greatest_utility nodes) (sym (some_sum (λ v. greatest_abs (node_at nodes v).cells) q (numbers_of nodes)))
      (sum_le (λ v. cond (q v) (greatest_abs (node_at nodes v).cells) 0) (λ v. cond (is_utility (node_at nodes v).kind) (greatest_abs (node_at nodes v).cells) 0) (numbers_of nodes) (λ v. go v (q v) refl))
    where
      go : (v : ℕ) (b : Bool) → q v ≡ b → cond b (greatest_abs (node_at nodes v).cells) 0 ≤ cond (is_utility (node_at nodes v).kind) (greatest_abs (node_at nodes v).cells) 0
      go v true e = subst (λ u. greatest_abs (node_at nodes v).cells ≤ cond u (greatest_abs (node_at nodes v).cells) 0) (sym (h v e)) (omega arith)
      go v false e = omega arith

  first_test : (a b : Bool) → (a && b) ≡ true → a ≡ true
  first_test true b h = refl
  first_test false b h = h

  chance_le : (g : IsGraph nodes) (v : ℕ) → chance_factor_by (node_at nodes v).kind (chance_total nodes v) ≤ bound_factor nodes v
  chance_le g v = go (node_at nodes v).kind (chance_total nodes v) (states_of nodes v) (g.has_state v)
    where
      go : (k : Kind) (total states : ℕ) → 0 < states → chance_factor_by k total ≤ bound_by k total states
      go Chance total states h = omega arith
      go Decision total states h = omega arith
      go Utility total states h = omega arith

pub weaker_law : ScopedBoundsAreWeaker
weaker_law d g h k = record {
  decisions = λ v is. trans (product_bound (scope_product d.nodes v) (bound_product d.nodes) (10 ^ d.decimals) (greatest_of d.nodes (goals_of d.nodes v)) (greatest_utility d.nodes)
      (some_factors_le (bound_factor d.nodes) (leads_to d.nodes (v ∷ goals_of d.nodes v)) (numbers_of d.nodes) (λ u. one (factors_positive d.nodes g h u)))
      (utilities_le d.nodes (λ u. is_utility_of d.nodes (agent_of d.nodes v) u && descends d.nodes v u) (λ u e. first_test d.nodes (is_utility (node_at d.nodes u).kind) (owns d.nodes (agent_of d.nodes v) u) (first_test d.nodes (is_utility_of d.nodes (agent_of d.nodes v) u) (descends d.nodes v u) e)))) k;
  agents = λ agent l. trans (product_bound (scope_product_for d.nodes agent) (bound_product d.nodes) (10 ^ d.decimals) (greatest_of d.nodes (utilities_for d.nodes agent)) (greatest_utility d.nodes)
      (trans (some_factors_le (λ v. chance_factor_by (node_at d.nodes v).kind (chance_total d.nodes v)) (leads_to d.nodes (utilities_for d.nodes agent)) (numbers_of d.nodes) (λ u. one (chances_positive d.nodes h u)))
      (product_le (λ v. chance_factor_by (node_at d.nodes v).kind (chance_total d.nodes v)) (bound_factor d.nodes) (numbers_of d.nodes) (λ u m. chance_le d.nodes g u)))
      (utilities_le d.nodes (is_utility_of d.nodes agent) (λ u e. first_test d.nodes (is_utility (node_at d.nodes u).kind) (owns d.nodes agent u) e))) k;
}
  where
    trans : {a b c : ℕ} → a ≤ b → b ≤ c → a ≤ c
    trans h k = omega arith

    one : {a : ℕ} → 0 < a → 1 ≤ a
    one h = omega arith
