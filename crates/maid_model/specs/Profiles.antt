-- Rules and profiles.
use Rattle.std.specs.Prelude.{◌≡◌, ◌≢◌, ℕ, ◌<◌, ◌*◌, List, [], map, ◌==◌, if◌then◌else◌, pos, replicate, Contains}
use Rattle.std.specs.List.{range_with_len, flat_map}
use Rattle.maid_model.specs.Views.{NodeView, RuleView}
use Rattle.maid_model.specs.Nodes.{IsDecision, states_of, rows_of, decisions_of}
use Rattle.maid_model.specs.Tables.{IsTable, weights_of, rule_total}

-- a rule of the decision: one weight for each row and state, and one positive total for every row
pub record IsRule (nodes : List NodeView) (r : RuleView) : Type 0 where
  pub positive : 0 < r.total
  pub table :
      IsTable (map pos r.weights) (rows_of nodes r.decision) (states_of nodes r.decision) r.total

-- a profile: one rule for each decision, in text order
pub record IsProfile (nodes : List NodeView) (p : List RuleView) : Type 0 where
  pub decisions : map (λ r. r.decision) p ≡ decisions_of nodes
  pub rule : (v : ℕ) → IsDecision nodes v
      → IsRule nodes (record { decision = v; total = rule_total p v; weights = weights_of p v })

-- the rows of each decision's rule add up to what `total` gives for it
abbrev pub HasRuleTotals : List NodeView → (ℕ → ℕ) → List RuleView → Type 0
HasRuleTotals nodes total p = (v : ℕ) → IsDecision nodes v → rule_total p v ≡ total v

-- the rows of each decision's rule add up to the count of its states
abbrev pub HasUniformTotals : List NodeView → List RuleView → Type 0
HasUniformTotals nodes p = HasRuleTotals nodes (states_of nodes) p

-- the rule that gives every state the weight 1
abbrev pub uniform_rule : List NodeView → ℕ → RuleView
uniform_rule nodes v = record {
  decision = v;
  total = states_of nodes v;
  weights = replicate (rows_of nodes v * states_of nodes v) 1;
}

-- a rule of uniform weights at every decision
abbrev pub uniform_profile : List NodeView → List RuleView
uniform_profile nodes = map (uniform_rule nodes) (decisions_of nodes)

-- weight 1 at the chosen state and 0 at the others
abbrev pub pure_row : ℕ → ℕ → List ℕ
pure_row states choice = map (λ s. if s == choice then 1 else 0) (range_with_len 0 states)

-- the rule of total 1 that takes in each row the chosen state
abbrev pub pure_rule : List NodeView → ℕ → List ℕ → RuleView
pure_rule nodes v choices =
    record { decision = v; total = 1; weights = flat_map (pure_row (states_of nodes v)) choices }

-- the two profiles have the same rule at the decision
pub record SameRule (p q : List RuleView) (v : ℕ) : Type 0 where
  pub weights : weights_of p v ≡ weights_of q v
  pub total : rule_total p v ≡ rule_total q v

-- what stands for a rule that there is not
abbrev pub no_rule : RuleView
no_rule = record { decision = 0; total = 0; weights = [] }

-- the profile has a rule for the decision
abbrev pub HasRule : List RuleView → ℕ → Type 0
HasRule p v = Contains (map (λ r. r.decision) p) v

-- with a rule of any diagram's decision a profile of that diagram becomes another of it
abbrev pub KeepsProfiles : List RuleView → List RuleView → RuleView → Type 0
KeepsProfiles p q rule =
    (nodes : List NodeView) → IsProfile nodes p → IsRule nodes rule → IsProfile nodes q

-- q has the rule in the place of p's rule for that decision, and p's rules in all other places
pub record Replaces (p q : List RuleView) (rule : RuleView) : Type 0 where
  pub decisions : map (λ r. r.decision) q ≡ map (λ r. r.decision) p
  pub weights : weights_of q rule.decision ≡ rule.weights
  pub total : rule_total q rule.decision ≡ rule.total
  pub others : (v : ℕ) → v ≢ rule.decision → SameRule q p v
