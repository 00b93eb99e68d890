-- Arcs removed one after another.
use Rattle.std.proofs.Common.{◌≡◌, ◌∙◌, ℕ, List, [], ◌∷◌, ◌++◌, get_or, refl, sym, ap, subst}
use Rattle.std.proofs.Math.ListN.{get_or-map}
use Rattle.std.proofs.lemmas.List.{append_assoc, append-nil}
use Rattle.maid_model.specs.Views.{NodeView}
use Rattle.maid_model.specs.Edits.{without_arc}
use Rattle.maid_model.specs.Nodes.{IsDecision, node_at, no_node}
use Rattle.maid_model.specs.Trimming.{IsTrimmed, Done, Removed, SeesRequisites, IsFirstToRemove}
use Rattle.requisite_trim.specs.Trims.{but_parents, LosesArcs}
use Rattle.requisite_trim.proofs.Losing.{loses_arc}

-- these arcs, one after another, are what trimming removes of the one diagram until the other is
-- left: whatever it removes of that, it removes then
pub record Leads (nodes : List NodeView) (removed : List (ℕ × ℕ)) (now : List NodeView) : Type 0 where
  pub on : (rest : List (ℕ × ℕ)) (trimmed : List NodeView) → IsTrimmed now rest trimmed → IsTrimmed nodes (removed ++ rest) trimmed

pub leads_none : (nodes : List NodeView) → Leads nodes [] nodes
leads_none nodes = record { on = λ rest trimmed h. h }

pub leads_more : (nodes now : List NodeView) (removed : List (ℕ × ℕ)) (x d : ℕ) → Leads nodes removed now → IsFirstToRemove now x d → Leads nodes (removed ++ (x, d) ∷ []) (without_arc now x d)
leads_more nodes now removed x d h first = record {
  on = λ rest trimmed t. subst (λ (l : List (ℕ × ℕ)). IsTrimmed nodes l trimmed) (sym (append_assoc removed ((x, d) ∷ []) rest)) (h.on ((x, d) ∷ rest) trimmed (Removed first t));
}

pub leads_end : (nodes now : List NodeView) (removed : List (ℕ × ℕ)) → Leads nodes removed now → ((d : ℕ) → IsDecision now d → SeesRequisites now d) → IsTrimmed nodes removed now
leads_end nodes now removed h all = subst (λ (l : List (ℕ × ℕ)). IsTrimmed nodes l now) (append-nil removed) (h.on [] now (Done all))

-- what is the same after each removal is the same after all
loses_then : (nodes now trimmed : List NodeView) → LosesArcs nodes now → LosesArcs now trimmed → LosesArcs nodes trimmed
loses_then nodes now trimmed h k = record {
  nodes = k.nodes ∙ h.nodes;
  arcs = λ u v a. h.arcs u v (k.arcs u v a);
  others = λ v n. k.others v (λ e. n (sym (kind_same v) ∙ e)) ∙ h.others v n;
}
  where
    kind_same : (v : ℕ) → (node_at now v).kind ≡ (node_at nodes v).kind
    kind_same v = ap (λ (n : NodeView). n.kind) (sym (get_or-map but_parents now v no_node) ∙ ap (λ (l : List NodeView). get_or l v (but_parents no_node)) h.nodes ∙ get_or-map but_parents nodes v no_node)

pub trimmed_loses : {nodes trimmed : List NodeView} {removed : List (ℕ × ℕ)} → IsTrimmed nodes removed trimmed → LosesArcs nodes trimmed
trimmed_loses (Done all) = record { nodes = refl; arcs = λ u v a. a; others = λ v n. refl }
trimmed_loses (Removed {nodes = nodes} {trimmed = trimmed} {x = x} {d = d} first rest) = loses_then nodes (without_arc nodes x d) trimmed (loses_arc nodes x d first.decision) (trimmed_loses rest)
