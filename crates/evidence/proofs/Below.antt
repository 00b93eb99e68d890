-- Whether a chance node lies below a decision, by the set of the nodes above it.
use Rattle.std.proofs.Common.{◌≡◌, ◌∙◌, ◌↔◌, ℕ, List, refl, sym, subst}
use Rattle.maid_model.specs.declared.diagrams.Kind.TheVariants.{Chance, Decision}
use Rattle.maid_model.specs.Graph.{Arc, IsPath, Here, Along}
use Rattle.maid_model.specs.Nodes.{IsDecision, node_at}
use Rattle.maid_model.specs.Views.{NodeView}
use Rattle.node_sets.specs.declared.sets.NodeSet.{NodeSet}
use Rattle.node_sets.specs.Sets.{IsIn}
use Rattle.evidence.specs.Rules.{IsBelowDecision}

module _ (nodes : List NodeView) (x : ℕ) (own above : NodeSet) (o : (v : ℕ) → IsIn own v ↔ (v ≡ x)) (a : (v : ℕ) → IsIn above v ↔ ((to : ℕ) × IsIn own to × IsPath (Arc nodes) v to)) where
  pub found : (node_at nodes x).kind ≡ Chance → (v : ℕ) → IsIn above v → IsDecision nodes v → IsBelowDecision nodes x
  found kind v t k = let r = (a v).0 t in go k (subst (IsPath (Arc nodes) v) ((o r.0).0 r.1) r.2)
    where
      clash : Chance ≡ Decision → ⊥
      clash e = cc

      go : {v : ℕ} → IsDecision nodes v → IsPath (Arc nodes) v x → IsBelowDecision nodes x
      go k Here = absurd (clash (sym kind ∙ k.kind))
      go k (Along {u} {v} arc rest) = record { decision = u; is_decision = k; path = (v, arc, rest) }

  pub told : (below : IsBelowDecision nodes x) → IsIn above below.decision
  told below = (a below.decision).1 (x, (o x).1 refl, Along below.path.1 below.path.2)
