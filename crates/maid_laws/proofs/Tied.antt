-- From the facts that a diagram and its profiles meet to what the sums use of them.
use Rattle.std.proofs.Common.{◌≡◌, ◌≢◌, ◌∙◌, ℕ, ◌<◌, ◌≤◌, List, length, refl, sym, ap, subst, arith}
use Rattle.std.proofs.Math.Decide.{dec_lt}
use Rattle.maid_model.specs.declared.diagrams.Kind.{Kind}
use Rattle.maid_model.specs.declared.diagrams.Kind.TheVariants.{Chance, Decision, Utility}
use Rattle.maid_model.specs.Graph.{IsGraph}
use Rattle.maid_model.specs.Nodes.{IsDecision, node_at, states_of, rows_of}
use Rattle.maid_model.specs.Profiles.{IsProfile, IsRule}
use Rattle.maid_model.specs.Tables.{HasChanceTables, weights_of, rule_total, weight_total, total_by, chance_total}
use Rattle.maid_model.specs.Views.{NodeView, RuleView}
use Rattle.maid_model.proofs.Setting.{HasTables, TableFits}
use Rattle.maid_laws.proofs.Ranks.{past_end}

-- what is no utility is a node of the list
pub kind_within : (nodes : List NodeView) (v : ℕ) → (node_at nodes v).kind ≢ Utility → v < length nodes
kind_within nodes v n = go (dec_lt v (length nodes))
  where
    past : ¬ (v < length nodes) → length nodes ≤ v
    past m = omega arith

    go : Dec (v < length nodes) → v < length nodes
    go (yes l) = l
    go (no m) = absurd (n (ap (λ x. x.kind) (past_end nodes v (past m))))

-- a decision by its kind
pub decision_of : (nodes : List NodeView) (v : ℕ) → (node_at nodes v).kind ≡ Decision → IsDecision nodes v
decision_of nodes v k = record { within = kind_within nodes v (λ e. not_both (sym k ∙ e)); kind = k }
  where
    not_both : Decision ≡ Utility → ⊥
    not_both e = cc

-- decisions can be told
pub dec_decision : (nodes : List NodeView) (v : ℕ) → Dec (IsDecision nodes v)
dec_decision nodes v = go (node_at nodes v).kind refl
  where
    chance : Chance ≡ Decision → ⊥
    chance e = cc

    utility : Utility ≡ Decision → ⊥
    utility e = cc

    go : (k : Kind) → (node_at nodes v).kind ≡ k → Dec (IsDecision nodes v)
    go Chance e = no (λ d. chance (sym e ∙ d.kind))
    go Decision e = yes (decision_of nodes v e)
    go Utility e = no (λ d. utility (sym e ∙ d.kind))

-- the tables of a profile of a diagram
pub tables_of : (nodes : List NodeView) (p : List RuleView) → IsGraph nodes → HasChanceTables nodes → IsProfile nodes p → HasTables nodes p
tables_of nodes p g c r = record { positive = λ v. positive v (node_at nodes v).kind refl; at = λ v l. at v (node_at nodes v).kind refl }
  where
    rule : (v : ℕ) → (node_at nodes v).kind ≡ Decision → IsRule nodes (record { decision = v; total = rule_total p v; weights = weights_of p v })
    rule v e = r.rule v (decision_of nodes v e)

    positive : (v : ℕ) (k : Kind) → (node_at nodes v).kind ≡ k → 0 < weight_total nodes p v
    positive v Chance e = subst (λ k. 0 < total_by k (chance_total nodes v) (rule_total p v)) (sym e) (c.positive v e)
    positive v Decision e = subst (λ k. 0 < total_by k (chance_total nodes v) (rule_total p v)) (sym e) ((rule v e).positive)
    positive v Utility e = subst (λ k. 0 < total_by k (chance_total nodes v) (rule_total p v)) (sym e) (omega arith)

    at : (v : ℕ) (k : Kind) → (node_at nodes v).kind ≡ k → TableFits (node_at nodes v).kind (node_at nodes v).cells (weights_of p v) (rows_of nodes v) (states_of nodes v) (weight_total nodes p v)
    at v Chance e = subst (λ k. TableFits k (node_at nodes v).cells (weights_of p v) (rows_of nodes v) (states_of nodes v) (total_by k (chance_total nodes v) (rule_total p v))) (sym e) (c.table v e)
    at v Decision e = subst (λ k. TableFits k (node_at nodes v).cells (weights_of p v) (rows_of nodes v) (states_of nodes v) (total_by k (chance_total nodes v) (rule_total p v))) (sym e) ((rule v e).table)
    at v Utility e = subst (λ k. TableFits k (node_at nodes v).cells (weights_of p v) (rows_of nodes v) (states_of nodes v) (total_by k (chance_total nodes v) (rule_total p v))) (sym e) (g.utility_states v e)
