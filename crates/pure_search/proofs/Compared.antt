-- Gains in the part of an agent's scope compare as those in the whole do.
use Rattle.std.proofs.Common.{◌≡◌, ◌↔◌, ◌∙◌, ℕ, List, refl, sym, ap, pos, ◌*ℤ◌, ◌≤ℤ◌}
use Rattle.maid_model.specs.declared.diagrams.Kind.{Kind}
use Rattle.maid_model.specs.declared.diagrams.Kind.TheVariants.{Chance, Decision, Utility}
use Rattle.maid_model.specs.Gains.{gain_of}
use Rattle.maid_model.specs.Graph.{IsGraph}
use Rattle.maid_model.specs.Nodes.{node_at}
use Rattle.maid_model.specs.Parts.{left_out, mass_left_out}
use Rattle.maid_model.specs.Scopes.{scope_for}
use Rattle.maid_model.specs.Tables.{HasChanceTables, chance_total, rule_total, total_by, weight_total}
use Rattle.maid_model.specs.Views.{NodeView, RuleView}
use Rattle.maid_model.specs.Worlds.{IsWorld}
use Rattle.maid_laws.specs.Optimum.{IsPure}
use Rattle.maid_laws.proofs.Tied.{decision_of}
use Rattle.maid_laws.proofs.Alike.{nat_product_cong}
use Rattle.part_laws.proofs.PartChoices.{order_same}
use Rattle.part_laws.proofs.PartLaws.{agents_gains_law, positive_law}
use Rattle.part_laws.proofs.ScopeLaws.{agents_scopes_law}
use Rattle.reach_laws.specs.Equilibria.{profile_of}
use Rattle.pure_search.specs.Games.{counts_for, part_gain}
use Rattle.pure_search.proofs.Answered.{pure_choices}

-- pure rules have the same totals
same_total : (nodes : List NodeView) (p q : List RuleView) → IsPure nodes p → IsPure nodes q → (v : ℕ) → weight_total nodes p v ≡ weight_total nodes q v
same_total nodes p q hp hq v = by_kind (node_at nodes v).kind refl
  where
    by_kind : (k : Kind) → (node_at nodes v).kind ≡ k → total_by k (chance_total nodes v) (rule_total p v) ≡ total_by k (chance_total nodes v) (rule_total q v)
    by_kind Chance e = refl
    by_kind Decision e = hp.total v (decision_of nodes v e) ∙ sym (hq.total v (decision_of nodes v e))
    by_kind Utility e = refl

same_left_out : (nodes : List NodeView) (kept : List ℕ) (p q : List RuleView) → IsPure nodes p → IsPure nodes q → mass_left_out nodes p kept ≡ mass_left_out nodes q kept
same_left_out nodes kept p q hp hq = nat_product_cong (weight_total nodes p) (weight_total nodes q) (left_out nodes kept) (same_total nodes p q hp hq)

pub compares : (nodes : List NodeView) (agent : ℕ) (xs ys : List ℕ) → IsGraph nodes → HasChanceTables nodes → IsWorld (counts_for nodes) xs → IsWorld (counts_for nodes) ys
    → (gain_of nodes (profile_of nodes xs) agent ≤ℤ gain_of nodes (profile_of nodes ys) agent) ↔ (part_gain nodes agent xs ≤ℤ part_gain nodes agent ys)
compares nodes agent xs ys g tables wx wy =
    let scopes = agents_scopes_law nodes agent g in
    let px = pure_choices nodes xs wx in
    let py = pure_choices nodes ys wy in
    order_same (mass_left_out nodes (profile_of nodes xs) (scope_for nodes agent)) (positive_law nodes (profile_of nodes xs) (scope_for nodes agent) g tables px.profile)
    (gain_of nodes (profile_of nodes xs) agent) (gain_of nodes (profile_of nodes ys) agent) (part_gain nodes agent xs) (part_gain nodes agent ys)
    (agents_gains_law nodes (profile_of nodes xs) (scope_for nodes agent) agent g tables px.profile scopes.0 scopes.1)
    (agents_gains_law nodes (profile_of nodes ys) (scope_for nodes agent) agent g tables py.profile scopes.0 scopes.1
    ∙ ap (λ c. pos c *ℤ part_gain nodes agent ys) (same_left_out nodes (scope_for nodes agent) (profile_of nodes ys) (profile_of nodes xs) py px))
