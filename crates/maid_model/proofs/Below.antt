-- The nodes below one node, those to which a path leads from it but for the node itself; and the
-- goals of a decision.
use Rattle.std.proofs.Common.{◌≡◌, ◌↔◌, ℕ, ◌<◌, Bool, true, false, ◌&&◌, List, length, refl, sym, subst}
use Rattle.std.proofs.lemmas.Bool.{false≢true}
use Rattle.node_sets.specs.declared.sets.NodeSet.{NodeSet}
use Rattle.node_sets.specs.Paths.{LeadsFrom}
use Rattle.node_sets.specs.Sets.{holds, IsIn}
use Rattle.maid_model.specs.declared.diagrams.Kind.{Kind}
use Rattle.maid_model.specs.declared.diagrams.Kind.TheVariants.{Chance, Decision, Utility}
use Rattle.maid_model.specs.Graph.{Arc, IsPath, Here, Along, Descends, IsAcyclic, descends}
use Rattle.maid_model.specs.Nodes.{node_at, owners_of, Owns, owns, is_utility, is_utility_of}
use Rattle.maid_model.specs.Private.{MarksUtilities}
use Rattle.maid_model.specs.Relevance.{IsGoal}
use Rattle.maid_model.specs.Views.{NodeView}
use Rattle.finite_sums.proofs.Members.{any_is}
use Rattle.maid_model.proofs.Descent.{path_from_test, test_from_path}

pub below_is : (nodes : List NodeView) (start v : ℕ) → IsAcyclic (Arc nodes) → (Set : ℕ → Type 0) → ((x : ℕ) → Set x ↔ (x ≡ start)) →
    (LeadsFrom (Arc nodes) Set v × (v ≡ start → ⊥)) ↔ Descends (Arc nodes) start v
below_is nodes start v acyclic Set alone = (
  (λ h. along start (subst (λ x. IsPath (Arc nodes) x v) ((alone h.0.0).0 h.0.1) h.0.2) h.1),
  (λ d. ((start, (alone start).1 refl, Along d.1 d.2), (λ e. acyclic start (subst (λ x. Descends (Arc nodes) start x) e d)))),
)
  where
    along : (u : ℕ) → IsPath (Arc nodes) u v → (v ≡ u → ⊥) → Descends (Arc nodes) u v
    along u Here ne = absurd (ne refl)
    along u (Along {v = x} a p) ne = (x, a, p)

and_is : (a b c : Bool) → ((a ≡ true) ↔ ((b ≡ true) × (c ≡ true))) → a ≡ (b && c)
and_is true b c h = let t = h.0 refl in sym (both b c t.0 t.1)
  where
    both : (b c : Bool) → b ≡ true → c ≡ true → (b && c) ≡ true
    both true c e f = f
    both false c e f = absurd (false≢true e)
and_is false true true h = h.1 (refl, refl)
and_is false true false h = refl
and_is false false c h = refl

pub utility_is : (nodes : List NodeView) (agent v : ℕ) → (is_utility_of nodes agent v ≡ true) ↔ (((node_at nodes v).kind ≡ Utility) × Owns nodes agent v)
utility_is nodes agent v = go (node_at nodes v).kind
  where
    go : (kind : Kind) → ((is_utility kind && owns nodes agent v) ≡ true) ↔ ((kind ≡ Utility) × Owns nodes agent v)
    go Utility = ((λ h. (refl, (any_is agent (owners_of nodes v)).0 h)), (λ h. (any_is agent (owners_of nodes v)).1 h.1))
    go Chance = ((λ h. absurd (false≢true h)), (λ h. cc))
    go Decision = ((λ h. absurd (false≢true h)), (λ h. cc))

-- tests that pass together are equal
pub equal_tests : (a b : Bool) → (a ≡ true → b ≡ true) → (b ≡ true → a ≡ true) → a ≡ b
equal_tests true b f g = sym (f refl)
equal_tests false true f g = g refl
equal_tests false false f g = refl

module _ (nodes : List NodeView) (d : ℕ) (goals : NodeSet) (are : (v : ℕ) → IsIn goals v ↔ IsGoal nodes d v) where
  pub goals_are_utilities : MarksUtilities nodes goals
  goals_are_utilities v l m = ((are v).0 m).kind

  -- the goals by tests
  pub goals_marked : (v : ℕ) → v < length nodes → holds goals v ≡ (descends nodes d v && is_utility_of nodes (node_at nodes d).owner v)
  goals_marked v l = and_is (holds goals v) (descends nodes d v) _ (
    (λ m. let g = (are v).0 m in (test_from_path nodes d v g.below, (utility_is nodes _ v).1 (g.kind, g.owner))),
    (λ h. let u = (utility_is nodes _ v).0 h.1 in (are v).1 (record { within = l; kind = u.0; owner = u.1; below = path_from_test nodes d v h.0 })),
  )
