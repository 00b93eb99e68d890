-- The plan of the sample's decision may be asked for.
use Rattle.std.proofs.Common.{◌≡◌, ◌≢◌, ◌∙◌, ℕ, ◌*◌, ◌<◌, ◌≤◌, List, [], ◌∷◌, length, refl, sym, ap, subst, inl, inr, arith, Some}
use Rattle.finite_sums.proofs.Members.{among_from_contains, contains_from_among}
use Rattle.finite_sums.specs.Members.{Among}
use Rattle.maid_model.specs.declared.diagrams.Kind.TheVariants.{Utility}
use Rattle.maid_model.specs.Diagrams.{IsDiagram}
use Rattle.maid_model.specs.Graph.{Here}
use Rattle.maid_model.specs.Nodes.{node_at, states_of, IsDecision}
use Rattle.maid_model.specs.Profiles.{IsProfile, uniform_profile}
use Rattle.maid_model.specs.Views.{DiagramView, RuleView}
use Rattle.cell_rings.specs.Rings.{IsRing, IsSize}
use Rattle.ring_sums.specs.Groups.{StepsFit}
use Rattle.ring_sums.proofs.Same.{fits_more}
use Rattle.plan_sums.specs.Laws.{IsOrderOfPlan}
use Rattle.plan_sums.specs.Plans.{Cells, PlanView, first_tables}
use Rattle.plan_sums.specs.Sizes.{AreSized}
use Rattle.plan_sums.proofs.Sized.{plans_fit}
use Rattle.eliminate.specs.Results.{plan_total, tables_at}
use Rattle.eliminate.proofs.Numbers.{bound_fits}
use Rattle.eliminate.proofs.Whole.{firsts_are}
use Rattle.size_precheck.specs.Sizes.{CanBePlanned}
use Rattle.sum_tests.specs.Example.{example_nodes, example, states_plan, ExampleFits}

plain : (v : ℕ) → Among v (2 ∷ 1 ∷ []) → (node_at example_nodes v).kind ≢ Utility
plain v (inl e) f = absurd (let k = ap (λ x. (node_at example_nodes x).kind) (sym e) ∙ f in cc)
plain v (inr (inl e)) f = absurd (let k = ap (λ x. (node_at example_nodes x).kind) (sym e) ∙ f in cc)
plain v (inr (inr m)) f = absurd m

apart : Among 2 (1 ∷ []) → ⊥
apart (inl e) = absurd (omega (arith, e))
apart (inr m) = m

pub states_asked : CanBePlanned example_nodes states_plan
states_asked = record {
  is_plan = record {
    different = ((λ m. apart (among_from_contains (1 ∷ []) 2 m)), ((λ m. among_from_contains [] 1 m), tt));
    kept = λ v m. plain v (among_from_contains (2 ∷ 1 ∷ []) v m);
    without = λ d e. contains_from_among (2 ∷ 1 ∷ []) d (inl (two d e));
    utility = λ u e. subst (λ x. (node_at example_nodes x).kind ≡ Utility) (three u e) refl;
  };
  known = λ u e. subst (λ x. x < length example_nodes) (three u e) (omega arith);
  decision = λ d e. subst (IsDecision example_nodes) (sym (two d e)) (record { within = omega arith; kind = refl });
  leads = λ d e. (3, inl refl, (3, contains_from_among (0 ∷ 2 ∷ []) d (inr (inl (two d e))), Here));
}
  where
    two : (d : ℕ) → Some 2 ≡ Some d → d ≡ 2
    two d e = cc

    three : (u : ℕ) → Some 3 ≡ Some u → 3 ≡ u
    three u e = cc

-- the sums of the plan that was made fit where those of the plan that was asked for do
pub plan_fits : {d : DiagramView} {p : List RuleView} {made asked : PlanView} {most : ℕ} → d ≡ example → p ≡ uniform_profile d.nodes → made ≡ asked → ExampleFits most asked → 2 * plan_total d.nodes p made ≤ most
plan_fits {d = d} {p = p} {made = made} {most = most} e uniform planned fits =
    let whole = subst (λ (x : PlanView). ExampleFits most x) (sym planned) fits in
    subst (λ (x : DiagramView). p ≡ uniform_profile x.nodes → 2 * plan_total x.nodes p made ≤ most) (sym e)
    (λ is. subst (λ rules. 2 * plan_total example_nodes rules made ≤ most) (sym is) whole) uniform

-- ---- the sum of all of its tables but the decision's
states_order : IsOrderOfPlan example_nodes states_plan (0 ∷ [])
states_order = record { once = ((λ m. among_from_contains [] 0 m), tt); all = λ v. ((λ m. m), (λ m. m)) }

module _ {C : Type 0} (c : Cells C) (h : IsRing c.ring) (sized : IsSize c.ring c.ring.size) (are : AreSized c c.ring.size) where
  abbrev Fits : DiagramView → List RuleView → Type 0
  Fits d p = StepsFit c.ring c.ring.size (states_of d.nodes) c.ring.most (0 ∷ []) (tables_at c d.nodes p (0 ∷ 1 ∷ 3 ∷ []))

  all_fit : (p : List RuleView) → IsDiagram example → IsProfile example_nodes p → 2 * plan_total example_nodes p states_plan ≤ c.ring.most → Fits example p
  all_fit p is profile fits = subst (λ ts. StepsFit c.ring c.ring.size (states_of example_nodes) c.ring.most (0 ∷ []) ts) (sym (firsts_are c example_nodes p states_plan states_asked.is_plan))
      (fits_more c.ring c.ring.size (states_of example_nodes) _ c.ring.most (bound_fits example_nodes p states_plan c.ring.most is.graph is.tables profile fits) (0 ∷ []) (first_tables c example_nodes p states_plan)
      (plans_fit c h c.ring.size sized are example_nodes p states_plan (0 ∷ []) is.graph is.tables profile states_asked.is_plan states_order))

  pub sample_fits : (d : DiagramView) (p : List RuleView) → d ≡ example → IsDiagram d → IsProfile d.nodes p → p ≡ uniform_profile d.nodes
      → 2 * plan_total example_nodes (uniform_profile example_nodes) states_plan ≤ c.ring.most → Fits d p
  sample_fits d p e is profile uniform fits =
      subst (λ (x : DiagramView). IsDiagram x → IsProfile x.nodes p → p ≡ uniform_profile x.nodes → Fits x p) (sym e)
      (λ is profile uniform. all_fit p is profile (subst (λ q. 2 * plan_total example_nodes q states_plan ≤ c.ring.most) (sym uniform) fits)) is profile uniform
