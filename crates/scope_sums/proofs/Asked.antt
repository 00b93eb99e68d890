-- Which plans may be asked for.
use Rattle.std.proofs.Common.{◌≡◌, ℕ, [], ◌∷◌, List, inl, inr, sym, subst, ap, ◌∙◌, Some, None}
use Rattle.maid_model.specs.declared.diagrams.Kind.TheVariants.{Decision, Utility}
use Rattle.maid_model.specs.Graph.{IsGraph, Here}
use Rattle.maid_model.specs.Nodes.{IsDecision, node_at, parents_of}
use Rattle.maid_model.specs.Relevance.{IsGoal}
use Rattle.maid_model.specs.Views.{NodeView}
use Rattle.maid_laws.proofs.Members.{among_of, contains_of}
use Rattle.plan_sums.specs.Plans.{row_plan, gain_plan}
use Rattle.plan_sums.specs.Sizes.{IsPlan}
use Rattle.scope_sums.specs.Laws.{PlansCanBeAsked, UtilitysPlanCanBeAsked}

some_same : (a b : ℕ) → Some a ≡ Some b → a ≡ b
some_same a b e = cc

none_some : (a : ℕ) → None ≡ Some a → ⊥
none_some a e = cc

-- a decision's parents differ and are no utilities
row_asked : (nodes : List NodeView) (d : ℕ) → IsGraph nodes → IsPlan nodes (row_plan nodes d)
row_asked nodes d g = record {
  different = g.parents_differ d;
  kept = λ v m. g.no_utility_parent v d m;
  without = λ x e. absurd (none_some x e);
  utility = λ u e. absurd (none_some u e);
}

-- nor is the decision one of them
gain_asked : (nodes : List NodeView) (d u : ℕ) → IsGraph nodes → IsDecision nodes d → IsGoal nodes d u → IsPlan nodes (gain_plan nodes d u)
gain_asked nodes d u g is goal = record {
  different = ((λ m. g.acyclic d (d, m, Here)), g.parents_differ d);
  kept = λ v m k. elim (among_of v (d ∷ parents_of nodes d) m) [
    | inl e ↦ decides (sym is.kind ∙ ap (λ x. (node_at nodes x).kind) (sym e) ∙ k)
    | inr a ↦ g.no_utility_parent v d (contains_of v (parents_of nodes d) a) k
  ];
  without = λ x e. contains_of x (d ∷ parents_of nodes d) (inl (sym (some_same d x e)));
  utility = λ x e. subst (λ y. (node_at nodes y).kind ≡ Utility) (some_same u x e) goal.kind;
}
  where
    decides : Decision ≡ Utility → ⊥
    decides e = cc

pub asked_law : PlansCanBeAsked
asked_law nodes d g is = (row_asked nodes d g, λ u goal. (gain_asked nodes d u g is goal, goal.below))

-- nothing is kept
pub utility_asked_law : UtilitysPlanCanBeAsked
utility_asked_law nodes u kind = record {
  different = tt;
  kept = λ v m. absurd (among_of v [] m);
  without = λ x e. absurd (none_some x e);
  utility = λ x e. subst (λ y. (node_at nodes y).kind ≡ Utility) (some_same u x e) kind;
}
