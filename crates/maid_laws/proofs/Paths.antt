-- Paths, and nodes below a node.
use Rattle.std.proofs.Common.{ℕ, List}
use Rattle.maid_model.specs.Graph.{Arc, IsPath, Here, Along, Descends}
use Rattle.maid_model.specs.Views.{NodeView}
use Rattle.maid_laws.proofs.Notions.{IsParent}
use Rattle.maid_laws.proofs.Members.{arc_of}
use Rattle.maid_laws.proofs.Leads.{Below, child, further}

module _ (Arc : ℕ → ℕ → Type 0) where
  -- one arc more at the end of a path
  pub path_further : {x y v : ℕ} → IsPath Arc v x → Arc x y → IsPath Arc v y
  path_further Here a = Along a Here
  path_further (Along b p) a = Along b (path_further p a)

  -- a descendant's child descends
  pub descends_further : {d x y : ℕ} → Descends Arc d x → Arc x y → Descends Arc d y
  descends_further h a = (h.0, h.1, path_further h.2 a)

-- nodes below a node are those to which a path leads
pub below_path : (nodes : List NodeView) {d x : ℕ} → Below (IsParent nodes) d x → Descends (Arc nodes) d x
below_path nodes {d} (child {y = y} a) = (y, arc_of nodes d y a, Here)
below_path nodes (further {y = y} {c = c} b a) = descends_further (Arc nodes) (below_path nodes b) (arc_of nodes y c a)
