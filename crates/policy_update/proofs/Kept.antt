-- What is kept of the decisions, place by place, and the totals from one profile of pure rules to
-- the next.
use Rattle.std.proofs.Common.{◌≡◌, ◌∙◌, ℕ, zero, suc, ◌<◌, List, [], ◌∷◌, Contains, length, get_or, refl, sym, ap, subst, arith}
use Rattle.std.specs.List.{AllZip}
use Rattle.std.proofs.lemmas.List.{get_or_default}
use Rattle.std.proofs.lemmas.Slice.Zip.{AllZip-long}
use Rattle.finite_sums.proofs.Members.{contains_from_among}
use Rattle.maid_laws.specs.Optimum.{IsPure}
use Rattle.maid_laws.proofs.Rules.{among_decisions}
use Rattle.maid_laws.proofs.Tied.{decision_of}
use Rattle.maid_model.specs.declared.diagrams.Kind.{Kind}
use Rattle.maid_model.specs.declared.diagrams.Kind.TheVariants.{Chance, Decision, Utility}
use Rattle.maid_model.specs.Answers.{AreChoices}
use Rattle.maid_model.specs.Diagrams.{IsDiagram}
use Rattle.maid_model.specs.Nodes.{IsDecision, decisions_of, node_at}
use Rattle.maid_model.specs.Tables.{chance_total, rule_total, total_by}
use Rattle.maid_model.specs.Views.{NodeView, DiagramView, RuleView, AnswerView}
use Rattle.node_sets.specs.declared.sets.NodeSet.{NodeSet}
use Rattle.rule_solver.specs.Totals.{HasTotals}
use Rattle.size_precheck.specs.declared.decisions.DecisionPlans.{DecisionPlans}
use Rattle.size_precheck.specs.Decisions.{AreDecisionPlans}
use Rattle.policy_update.specs.declared.keeping.Kept.{Kept}
use Rattle.node_sets.specs.declared.sets.TheConstants.{MOST_NODES}
use Rattle.policy_update.specs.Kept.{AreDecisionsAndScopes, IsKept, IsScopeOf}
use Rattle.policy_update.proofs.Owners.{decision_at}
use Rattle.policy_update.proofs.Plans.{places}

-- the number of a decision has a place in a set
small_number : (d : DiagramView) → IsDiagram d → (v : ℕ) → IsDecision d.nodes v → v < MOST_NODES
small_number d is v k = let m = k.within in let few = is.limits.nodes in omega (arith, m, few)

-- what holds of each pair holds at each place
pair_at : {A B : Type 0} (R : A → B → Type 0) (xs : List A) (ys : List B) (k : ℕ) (d : A) (e : B) → AllZip R xs ys → k < length ys → R (get_or xs k d) (get_or ys k e)
pair_at R [] [] k d e z h = absurd (omega arith)
pair_at R [] (y ∷ ys) k d e z h = absurd z
pair_at R (x ∷ xs) [] k d e z h = absurd z
pair_at R (x ∷ xs) (y ∷ ys) zero d e z h = z.0
pair_at R (x ∷ xs) (y ∷ ys) (suc k) d e z h = pair_at R xs ys k d e z.1 (omega arith)

module _ (nodes : List NodeView) (kept : Kept) (is : IsKept nodes kept) (i : ℕ) (within : i < length (decisions_of nodes)) where
  abbrev Planned : ℕ → DecisionPlans → Type 0
  Planned d own = AreDecisionPlans nodes d own

  -- there are plans and a scope for each decision
  pub plans_within : i < length kept.plans.now
  plans_within = subst (λ n. i < n) (sym (AllZip-long Planned (decisions_of nodes) kept.plans.now is.planned)) within

  pub scopes_within : i < length kept.scopes.items
  scopes_within = subst (λ n. i < n) (sym (AllZip-long (IsScopeOf nodes) (decisions_of nodes) kept.scopes.items is.scoped)) within

  -- those at a place are those of the decision that stands there
  pub plans_at : (own : DecisionPlans) → Planned (get_or (decisions_of nodes) i 0) (get_or kept.plans.now i own)
  plans_at own = pair_at Planned (decisions_of nodes) kept.plans.now i 0 own is.planned plans_within

  pub scope_at : (own : NodeSet) → IsScopeOf nodes (get_or (decisions_of nodes) i 0) (get_or kept.scopes.items i own)
  scope_at own = pair_at (IsScopeOf nodes) (decisions_of nodes) kept.scopes.items i 0 own is.scoped scopes_within

-- there is a decision where there are choices, and its number has a place in a set
pub decision_here : (nodes : List NodeView) (kept : Kept) → IsKept nodes kept → (answers : List AnswerView) → AreChoices nodes answers → (i : ℕ) → i < length answers → IsDecision nodes (get_or kept.decisions.now i 0)
decision_here nodes kept is answers choices i l = decision_at nodes kept.decisions.now i is.decided (subst (λ n. i < n) (places nodes answers choices ∙ sym (ap length is.decided)) l)

pub number_here : (d : DiagramView) (kept : Kept) → IsDiagram d → IsKept d.nodes kept → (answers : List AnswerView) → AreChoices d.nodes answers → (i : ℕ) → i < length answers → get_or kept.decisions.now i 0 < MOST_NODES
number_here d kept is h answers choices i l = small_number d is (get_or kept.decisions.now i 0) (decision_here d.nodes kept h answers choices i l)

-- there is a scope for each decision, whose number has a place in a set
pub decisions_and_scopes : (d : DiagramView) (kept : Kept) → IsDiagram d → IsKept d.nodes kept → AreDecisionsAndScopes kept
decisions_and_scopes d kept is h = record {
  count = AllZip-long (IsScopeOf d.nodes) (decisions_of d.nodes) kept.scopes.items h.scoped ∙ ap length (sym h.decided);
  small = λ i e l. small_number d is (get_or kept.decisions.now i e) (subst (IsDecision d.nodes) (get_or_default kept.decisions.now i 0 e l) (decision_at d.nodes kept.decisions.now i h.decided l));
}

-- each of the decisions has a place in a set, and is listed
pub number_listed : (d : DiagramView) (kept : Kept) → IsDiagram d → IsKept d.nodes kept → (v : ℕ) → Contains kept.decisions.now v → v < MOST_NODES
number_listed d kept is h v (i, l, f) = subst (λ x. x < MOST_NODES) f ((decisions_and_scopes d kept is h).small i v l)

pub decision_listed : (nodes : List NodeView) (kept : Kept) → IsKept nodes kept → (v : ℕ) → IsDecision nodes v → Contains kept.decisions.now v
decision_listed nodes kept h v k = subst (λ ds. Contains ds v) (sym h.decided) (contains_from_among (decisions_of nodes) v (among_decisions nodes v k))

-- pure rules have the total 1, so all profiles of pure rules have the same totals
pub same_totals : (nodes : List NodeView) (p q : List RuleView) (totals : List ℕ) → IsPure nodes p → IsPure nodes q → HasTotals nodes p totals → HasTotals nodes q totals
same_totals nodes p q totals a b h = record {
  count = h.count;
  each = λ v l. h.each v l ∙ same (node_at nodes v).kind (chance_total nodes v) (rule_total p v) (rule_total q v) (λ k. let d = decision_of nodes v k in a.total v d ∙ sym (b.total v d));
}
  where
    same : (k : Kind) (chance m n : ℕ) → (k ≡ Decision → m ≡ n) → total_by k chance m ≡ total_by k chance n
    same Chance chance m n e = refl
    same Decision chance m n e = e refl
    same Utility chance m n e = refl
