-- Edits in a diagram in which one agent decides alone, and what is found where the first reasons
-- don't apply.
use Rattle.std.proofs.Common.{◌≡◌, ◌∙◌, ℕ, List, sym, ap, subst, inl, inr}
use Rattle.std.proofs.Math.Decide.{ℕ_discrete}
use Rattle.std.specs.declared.alloc.AllocError.{AllocError}
use Rattle.std.specs.Prelude.{None, Result, Ok, Err, IfOk}
use Rattle.arc_laws.proofs.LostArc as lost
use Rattle.arc_laws.proofs.LostArc.{Loses, loses, loses_added}
use Rattle.first_fault.specs.Outcomes.{◌▸▸◌, gives}
use Rattle.first_fault.specs.Passes.{Pass, ◌▸◌}
use Rattle.maid_model.specs.declared.answers.Ratio.{Ratio}
use Rattle.maid_model.specs.Edits.{with_arc, without_arc}
use Rattle.maid_model.specs.Graph.{IsGraph}
use Rattle.maid_model.specs.Nodes.{IsDecision, node_at}
use Rattle.maid_model.specs.Subgames.{OwnsAll}
use Rattle.maid_model.specs.Views.{NodeView, DiagramView}
use Rattle.optimum_gap.specs.declared.found.Found.{Found}
use Rattle.optimum_gap.specs.Found.{Reason, found_of}
use Rattle.size_precheck.specs.Kept.{DifferAt}
use Rattle.info_value.specs.Alone.{HasRoomForArc}

pub owns_without : (nodes : List NodeView) (x d agent : ℕ) → IsDecision nodes d → OwnsAll nodes agent → OwnsAll (without_arc nodes x d) agent
owns_without nodes x d agent k owns = lost.owns_there nodes (without_arc nodes x d) x d (loses nodes x d k.within) agent owns

pub owns_with : (nodes : List NodeView) (x d agent : ℕ) → IsDecision nodes d → IsGraph (with_arc nodes x d) → OwnsAll nodes agent → OwnsAll (with_arc nodes x d) agent
owns_with nodes x d agent k g owns v is =
    let l = loses_added nodes x d k.within g in
    sym (lost.owner_same (with_arc nodes x d) nodes x d l v) ∙ owns v (lost.decision_there (with_arc nodes x d) nodes x d l v is)

-- ---- what the edits leave
-- an arc less changes the parents of its head alone
loses_there : (nodes others : List NodeView) (x d : ℕ) → Loses nodes others x d → DifferAt nodes others d
loses_there nodes others x d l = record {
  count = l.len;
  kind = λ v. at (λ (n : NodeView). n.kind) v (ap (λ (n : NodeView). n.kind) l.at) (ℕ_discrete v d);
  states = λ v. at (λ (n : NodeView). n.states) v (ap (λ (n : NodeView). n.states) l.at) (ℕ_discrete v d);
  parents = λ v n. ap (λ (n : NodeView). n.parents) (l.else v n);
}
  where
    at : {A : Type 0} (f : NodeView → A) (v : ℕ) → f (node_at others d) ≡ f (node_at nodes d) → Dec (v ≡ d) → f (node_at others v) ≡ f (node_at nodes v)
    at f v here (yes e) = subst (λ u. f (node_at others u) ≡ f (node_at nodes u)) (sym e) here
    at f v here (no n) = ap f (l.else v n)

-- so does an arc more
differ_back : (nodes others : List NodeView) (d : ℕ) → DifferAt nodes others d → DifferAt others nodes d
differ_back nodes others d h = record {
  count = sym h.count;
  kind = λ v. sym (h.kind v);
  states = λ v. sym (h.states v);
  parents = λ v n. sym (h.parents v n);
}

pub differ_without : (nodes : List NodeView) (x d : ℕ) → IsDecision nodes d → DifferAt nodes (without_arc nodes x d) d
differ_without nodes x d k = loses_there nodes (without_arc nodes x d) x d (loses nodes x d k.within)

pub differ_with : (nodes : List NodeView) (x d : ℕ) → IsDecision nodes d → IsGraph (with_arc nodes x d) → DifferAt nodes (with_arc nodes x d) d
differ_with nodes x d k g = differ_back (with_arc nodes x d) nodes d (loses_there (with_arc nodes x d) nodes x d (loses_added nodes x d k.within g))

-- whatever is told of the arc, the diagram with it is one
pub roomy : (d : DiagramView) (x to : ℕ) (r : Result Found AllocError) → IsGraph (with_arc d.nodes x to) → IfOk r (HasRoomForArc d x to)
roomy d x to (Ok f) g = λ told. g
roomy d x to (Err e) g = tt

-- behind a pass that finds nothing
pub behind : (P Q : Pass Reason) (R : Ratio → Type 0) (r : Result Found AllocError) → P None → IfOk r (λ f. (Q ▸▸ gives R) (found_of f)) → IfOk r (λ f. ((P ▸ Q) ▸▸ gives R) (found_of f))
behind P Q R (Ok f) p h = go (found_of f) h
  where
    go : (x : Result Ratio Reason) → (Q ▸▸ gives R) x → ((P ▸ Q) ▸▸ gives R) x
    go (Ok v) k = ((p, k.0), k.1)
    go (Err reason) (inl k) = inl (inr (p, k))
    go (Err reason) (inr k) = absurd k.1
behind P Q R (Err e) p h = tt
