-- Lists of all nodes, and of all chance nodes and decisions, with parents first.
use Rattle.std.proofs.Common.{ℕ, List, [], ◌∷◌, length, sym, subst}
use Rattle.maid_model.specs.Graph.{Arc, IsGraph, IsPath, Here, Along}
use Rattle.maid_model.specs.Nodes.{numbers_of, parents_of}
use Rattle.maid_model.specs.Views.{NodeView}
use Rattle.finite_sums.specs.Members.{Among}
use Rattle.maid_model.proofs.Setting.{ParentsFirst}
use Rattle.finite_sums.proofs.Lists.{decide_among}
use Rattle.maid_laws.proofs.Notions.{IsParent, OrderedGraph}
use Rattle.maid_laws.proofs.Collapse.{Apart}
use Rattle.maid_laws.proofs.Members.{arc_of, not_among}
use Rattle.maid_laws.proofs.Rearranged.{apart_shuffled, range_apart}
use Rattle.maid_laws.proofs.Sorted.{First, sorted}

-- no node stands twice, so none is its own parent
pub parents_first_of : (nodes : List NodeView) (vs : List ℕ) → Apart vs → First (IsParent nodes) vs → ParentsFirst nodes vs
parents_first_of nodes [] a h = tt
parents_first_of nodes (v ∷ vs) a h = ((λ u m. ((λ e. not_among v vs a.0 (subst (λ z. Among z vs) (sym e) m)), h.0 u m)), parents_first_of nodes vs a.1 h.1)

-- arcs can be told
pub parent_dec : (nodes : List NodeView) (u v : ℕ) → Dec (IsParent nodes u v)
parent_dec nodes u v = decide_among u (parents_of nodes v)

-- paths are the same by members and by places
pub parents_path : (nodes : List NodeView) {to v : ℕ} → IsPath (IsParent nodes) v to → IsPath (Arc nodes) v to
parents_path nodes Here = Here
parents_path nodes (Along {u = u} {v = v} a p) = Along (arc_of nodes u v a) (parents_path nodes p)

-- a graph has a list with parents first
pub ordered : (nodes : List NodeView) → IsGraph nodes → OrderedGraph nodes
ordered nodes g =
    let r = sorted (IsParent nodes) (parent_dec nodes) (λ v h. g.acyclic v (h.0, arc_of nodes v h.0 h.1, parents_path nodes h.2)) (numbers_of nodes) in
    record {
      graph = g;
      order = r.0;
      shuffled = r.1;
      parents_first = parents_first_of nodes r.0 (apart_shuffled r.1 (range_apart 0 (length nodes))) r.2;
    }
