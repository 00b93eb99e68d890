-- Lists of those of the first numbers that pass a test, and the goals of a decision among them.
use Rattle.std.proofs.Common.{◌≡◌, ◌↔◌, ℕ, ◌<◌, Bool, true, false, ◌&&◌, cond, List, [], ◌∷◌, filter, length, sym, ap, refl, inl, inr}
use Rattle.finite_sums.specs.Members.{Among}
use Rattle.finite_sums.proofs.Members.{any_is}
use Rattle.node_sets.specs.declared.sets.NodeSet.{NodeSet}
use Rattle.node_sets.specs.Sets.{holds, IsIn}
use Rattle.maid_model.specs.declared.diagrams.Kind.{Kind}
use Rattle.maid_model.specs.declared.diagrams.Kind.TheVariants.{Chance, Decision, Utility}
use Rattle.maid_model.specs.Graph.{descends}
use Rattle.maid_model.specs.Laws.{TestsDescent}
use Rattle.maid_model.specs.Nodes.{agent_of, is_utility, is_utility_of, node_at, numbers_of, owners_of, owns}
use Rattle.maid_model.specs.Relevance.{IsGoal}
use Rattle.maid_model.specs.Scopes.{goals_of}
use Rattle.maid_model.specs.Views.{NodeView}
use Rattle.maid_laws.proofs.Rearranged.{numbered}
use Rattle.part_laws.proofs.PartSums.{and_both}

-- tests that say the same of each member keep the same
filter_same : (p q : ℕ → Bool) (xs : List ℕ) → ((x : ℕ) → Among x xs → p x ≡ q x) → filter p xs ≡ filter q xs
filter_same p q [] h = refl
filter_same p q (x ∷ xs) h = (λ i. cond (h x (inl refl) i) (x ∷ filter_same p q xs (λ y m. h y (inr m)) i) (filter_same p q xs (λ y m. h y (inr m)) i))

-- tests of one fact
same_test : (b c : Bool) → (b ≡ true → c ≡ true) → (c ≡ true → b ≡ true) → b ≡ c
same_test true c f g = sym (f refl)
same_test false true f g = g refl
same_test false false f g = refl

utility_kind : (k : Kind) → is_utility k ≡ true → k ≡ Utility
utility_kind Chance e = absurd (cc)
utility_kind Decision e = absurd (cc)
utility_kind Utility e = refl

-- ---- the goals
module _ (nodes : List NodeView) (d : ℕ) (set : NodeSet) (marks : (v : ℕ) → IsIn set v ↔ IsGoal nodes d v) (tested : TestsDescent) where
  passes : (u : ℕ) → IsGoal nodes d u → (is_utility_of nodes (agent_of nodes d) u && descends nodes d u) ≡ true
  passes u h = λ i. (ap is_utility h.kind i && (any_is (agent_of nodes d) (owners_of nodes u)).1 h.owner i) && (tested nodes d u).1 h.below i

  goal_of : (u : ℕ) → u < length nodes → (is_utility_of nodes (agent_of nodes d) u && descends nodes d u) ≡ true → IsGoal nodes d u
  goal_of u l e =
      let both = and_both (is_utility_of nodes (agent_of nodes d) u) (descends nodes d u) e in
      let own = and_both (is_utility (node_at nodes u).kind) (owns nodes (agent_of nodes d) u) both.0 in
      record { within = l; kind = utility_kind (node_at nodes u).kind own.0; owner = (any_is (agent_of nodes d) (owners_of nodes u)).0 own.1; below = (tested nodes d u).0 both.1 }

  pub goals_listed : filter (holds set) (numbers_of nodes) ≡ goals_of nodes d
  goals_listed = filter_same (holds set) (λ u. is_utility_of nodes (agent_of nodes d) u && descends nodes d u) (numbers_of nodes)
      (λ u m. same_test (holds set u) (is_utility_of nodes (agent_of nodes d) u && descends nodes d u) (λ e. passes u ((marks u).0 e)) (λ e. (marks u).1 (goal_of u (numbered nodes u m) e)))
