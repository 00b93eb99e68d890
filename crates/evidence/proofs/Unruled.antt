-- Where x descends from no decision, the plan that keeps x alone has no rule: it sums to the same
-- under all rules.
use Rattle.std.proofs.Common.{◌≡◌, ◌∙◌, ℕ, ◌++◌, List, [], None, true, not, ap, refl, sym, ℤ, nat_abs}
use Rattle.cell_rings.specs.Rings.{mass_ring}
use Rattle.finite_sums.specs.Members.{Among}
use Rattle.finite_sums.specs.Sums.{World}
use Rattle.finite_sums.proofs.Lists.{among_filter}
use Rattle.maid_model.specs.declared.diagrams.Kind.{Kind}
use Rattle.maid_model.specs.declared.diagrams.Kind.TheVariants.{Chance, Decision, Utility}
use Rattle.maid_model.specs.Graph.{Arc, IsPath, Here, Along, IsGraph}
use Rattle.maid_model.specs.Nodes.{node_at, numbers_of, states_of}
use Rattle.maid_model.specs.Scopes.{chance_factor}
use Rattle.maid_model.specs.Tables.{chance_total, cell_of, rule_total, table_by, weight_total, weights_of}
use Rattle.maid_model.specs.Views.{NodeView, RuleView}
use Rattle.maid_laws.proofs.Tied.{decision_of}
use Rattle.plan_sums.specs.Plans.{PlanView, eliminated_nodes, has, in_plan, mass_cells, node_table, plan_nodes, plan_sum, ruled_nodes}
use Rattle.plan_sums.proofs.Sized.{map_same}
use Rattle.reach_laws.specs.Evidence.{IsEvidence}
use Rattle.ring_sums.specs.Sums.{ring_sum_over}
use Rattle.ring_sums.specs.Tables.{product_of}
use Rattle.scope_sums.proofs.Agents.{unit_factor}
use Rattle.evidence.specs.Sizes.{plan_given}
use Rattle.evidence.specs.Stakes.{IsMass, IsMassAt}
use Rattle.evidence.proofs.Planned.{path_alone}

-- a table that is no rule looks at no weights
cell_by : (k : Kind) (cells : List ℤ) (a b : List ℕ) (c : ℕ) → (k ≡ Decision → ⊥) → table_by k cells a c ≡ table_by k cells b c
cell_by Chance cells a b c n = refl
cell_by Decision cells a b c n = absurd (n refl)
cell_by Utility cells a b c n = refl

module _ (nodes : List NodeView) (g : IsGraph nodes) (x : ℕ) (evidence : IsEvidence nodes x) where
  abbrev plan : PlanView
  plan = plan_given x None

  -- a path leads from each of its nodes to x, so that none is a decision
  no_decision : (v : ℕ) → Among v (ruled_nodes nodes plan) → (node_at nodes v).kind ≡ Decision → ⊥
  no_decision v m k = go (path_alone nodes g x v inside) k
    where
      inside : in_plan nodes plan v ≡ true
      inside = (among_filter (λ v. in_plan nodes plan v) v (numbers_of nodes) (among_filter (λ v. not (has [] v)) v (plan_nodes nodes plan) m).0).1

      clash : Chance ≡ Decision → ⊥
      clash e = cc

      go : {v : ℕ} → IsPath (Arc nodes) v x → (node_at nodes v).kind ≡ Decision → ⊥
      go Here k = clash (sym evidence.kind ∙ k)
      go (Along {u} {v} arc rest) k = evidence.above u (decision_of nodes u k) (v, arc, rest)

  -- so no rule's total counts
  pub factor_is : (p : List RuleView) (v : ℕ) → Among v (ruled_nodes nodes plan) → weight_total nodes p v ≡ chance_factor nodes v
  factor_is p v m = unit_factor (node_at nodes v).kind (chance_total nodes v) (rule_total p v) (λ e. absurd (no_decision v m e))

  -- nor do its weights
  table_same : (p t : List RuleView) (v : ℕ) → Among v (ruled_nodes nodes plan) → node_table mass_cells nodes p v ≡ node_table mass_cells nodes t v
  table_same p t v m = λ i. record {
    holds = (node_table mass_cells nodes p v).holds;
    cell = λ w. nat_abs (cell_by (node_at nodes v).kind (node_at nodes v).cells (weights_of p v) (weights_of t v) (cell_of nodes v w) (no_decision v m) i);
  }

  -- so that it sums to the same
  sum_same : (p t : List RuleView) (q : World) → plan_sum mass_cells nodes p plan q ≡ plan_sum mass_cells nodes t plan q
  sum_same p t q = ap (λ tables. ring_sum_over mass_ring (states_of nodes) (eliminated_nodes nodes plan) (product_of mass_ring (tables ++ [])) q)
      (map_same (λ v. node_table mass_cells nodes p v) (λ v. node_table mass_cells nodes t v) (ruled_nodes nodes plan) (table_same p t))

  -- what it sums to under some rules is the mass
  pub mass_is : (p : List RuleView) (state mass : ℕ) → IsMassAt nodes p x state mass → IsMass nodes x state mass
  mass_is p state mass is = λ t q i at. is q i at ∙ sum_same p t q
