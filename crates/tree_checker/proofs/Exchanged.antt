-- The factors of a profile in which one rule is exchanged.
use Rattle.std.proofs.Common.{◌≡◌, ◌≢◌, ◌∙◌, ℕ, ◌*◌, ◌<◌, ◌==◌, cond, List, [], length, set, pos, slice_index, slice_index_or, sym, ap, subst, arith}
use Rattle.std.proofs.Math.Decide.{ℕ_discrete}
use Rattle.std.proofs.lemmas.List.{get_or-set_same, get_or-set_other, length-set, length-map}
use Rattle.std.specs.Global.{Vec}
use Rattle.diagram_graph.specs.Cycles.{lists_in}
use Rattle.maid_model.specs.Nodes.{IsDecision, node_at, rows_of, states_of}
use Rattle.maid_model.specs.Profiles.{IsProfile, IsRule, Replaces}
use Rattle.maid_model.specs.Tables.{table_by, weights_of}
use Rattle.maid_model.specs.Views.{NodeView, RuleView}
use Rattle.maid_laws.proofs.Booleans.{eqb_no}
use Rattle.tree_checker.specs.declared.agent_sums.AgentSum.{AgentSum}
use Rattle.tree_checker.specs.AgentSums.{IsAgentSum}
use Rattle.tree_checker.specs.Walks.{HoldsFactors, ListsFactors, factor_at}

module _ (nodes : List NodeView) (p : List RuleView) (rule : RuleView) (d : IsDecision nodes rule.decision) (r : IsRule nodes rule) (lists : List (List ℕ)) (h : HoldsFactors nodes p (length nodes) lists) where
  -- the rule has a weight for each factor
  weight_count : length rule.weights ≡ rows_of nodes rule.decision * states_of nodes rule.decision
  weight_count = sym (length-map rule.weights pos) ∙ r.table.len

  pub same_count : length (slice_index_or lists rule.decision []) ≡ length rule.weights
  same_count = (h.lists_each rule.decision d.within).count ∙ sym weight_count

  module _ (q : List RuleView) (put : Replaces p q rule) where
    -- the rule's weights are the factors of its decision
    own : ListsFactors nodes q (length nodes) rule.decision rule.weights
    own = record { count = weight_count; factor = λ c l. sym (factor_is c) }
      where
        not_last : rule.decision ≢ length nodes
        not_last e = let l : rule.decision < length nodes = d.within in absurd (omega arith)

        factor_is : (c : ℕ) → factor_at nodes q (length nodes) rule.decision c ≡ pos (slice_index rule.weights c)
        factor_is c =
            ap (λ b. cond b (pos 1) (table_by (node_at nodes rule.decision).kind (node_at nodes rule.decision).cells (weights_of q rule.decision) c)) (eqb_no rule.decision (length nodes) not_last)
            ∙ (λ i. table_by (d.kind i) (node_at nodes rule.decision).cells (put.weights i) c)

    -- the other nodes keep theirs
    other : (v : ℕ) → v ≢ rule.decision → (list : List ℕ) → ListsFactors nodes p (length nodes) v list → ListsFactors nodes q (length nodes) v list
    other v n list f = record {
      count = f.count;
      factor = λ c l. f.factor c l
          ∙ ap (λ ws. cond (v == length nodes) (pos 1) (table_by (node_at nodes v).kind (node_at nodes v).cells ws c)) (sym (put.others v n).weights);
    }

    pub exchanged : HoldsFactors nodes q (length nodes) (set lists rule.decision rule.weights)
    exchanged = record { count = length-set lists rule.decision rule.weights ∙ h.count; lists_each = λ v l. each v l (ℕ_discrete v rule.decision) }
      where
        within : rule.decision < length lists
        within = subst (λ n. rule.decision < n) (sym h.count) d.within

        each : (v : ℕ) → v < length nodes → Dec (v ≡ rule.decision) → ListsFactors nodes q (length nodes) v (slice_index_or (set lists rule.decision rule.weights) v [])
        each v l (yes e) =
            subst (λ u. ListsFactors nodes q (length nodes) u (slice_index_or (set lists rule.decision rule.weights) u [])) (sym e)
            (subst (ListsFactors nodes q (length nodes) rule.decision) (sym (get_or-set_same lists rule.decision rule.weights [] within)) own)
        each v l (no n) =
            subst (ListsFactors nodes q (length nodes) v) (sym (get_or-set_other lists rule.decision v rule.weights [] n))
            (other v n (slice_index_or lists v []) (h.lists_each v l))

-- the sum under the rules q, whose factors are those lists
pub sum_exchanged : (nodes : List NodeView) (sum : AgentSum) (q : List RuleView) (factors : Vec (Vec ℕ)) (rule : RuleView) → IsAgentSum nodes sum → IsDecision nodes rule.decision → IsRule nodes rule
    → lists_in factors.items ≡ set (lists_in sum.factors.items) rule.decision rule.weights → IsProfile nodes q → Replaces sum.rules q rule
    → IsAgentSum nodes (record { agent = sum.agent; rules = q; marks = sum.marks; order = sum.order; factors = factors; world = sum.world })
sum_exchanged nodes sum q factors rule h d r written profile put = record {
  profile = profile;
  marked = h.marked;
  tested = h.tested;
  order = h.order;
  factors = subst (HoldsFactors nodes q (length nodes)) (sym written) (exchanged nodes sum.rules rule d r (lists_in sum.factors.items) h.factors q put);
  first = h.first;
  world = h.world;
}
