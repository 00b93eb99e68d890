-- A diagram without an arc into a decision has fewer arcs.
use Rattle.std.proofs.Common.{◌≡◌, ◌≢◌, ◌∙◌, ℕ, ◌<◌, not, eqb, List, length, get_or, refl, sym, ap, subst, arith, eq-eqb}
use Rattle.std.specs.List.{sum_by}
use Rattle.std.specs.Prelude.{Contains}
use Rattle.std.proofs.lemmas.List.{get_or-set_same, get_or-set_other}
use Rattle.std.proofs.lemmas.List.Sums.{sum_by-set}
use Rattle.std.proofs.Math.Seq.{map-set_same}
use Rattle.std.proofs.Math.Decide.{ℕ_discrete}
use Rattle.maid_model.specs.Edits.{without_arc}
use Rattle.maid_model.specs.Graph.{Arc}
use Rattle.maid_model.specs.Nodes.{IsDecision, node_at, no_node, parents_of}
use Rattle.maid_model.specs.Views.{NodeView}
use Rattle.diagram_graph.specs.Edited.{without_parent}
use Rattle.requisite_trim.specs.Trims.{but_parents, LosesArcs}
use Rattle.requisite_trim.proofs.Filters.{contains_filter, filter_less}

-- how many arcs there are
abbrev pub arcs_in : List NodeView → ℕ
arcs_in nodes = sum_by (λ n. length n.parents) nodes

module _ (nodes : List NodeView) (x d : ℕ) (k : IsDecision nodes d) where
  abbrev less : List NodeView
  less = without_arc nodes x d

  -- the node that loses the parent, and the others
  at : node_at less d ≡ without_parent (node_at nodes d) x
  at = get_or-set_same nodes d (without_parent (node_at nodes d) x) no_node k.within

  else : (v : ℕ) → v ≢ d → node_at less v ≡ node_at nodes v
  else v n = get_or-set_other nodes d v (without_parent (node_at nodes d) x) no_node n

  -- with an arc that is there, one arc or more is lost
  pub arcs_fewer : (place : ℕ) → place < length (parents_of nodes d) → get_or (parents_of nodes d) place 0 ≡ x → arcs_in less < arcs_in nodes
  arcs_fewer place l e =
      let lost = filter_less (λ u. not (eqb u x)) (parents_of nodes d) place l (ap not (eq-eqb (get_or (parents_of nodes d) place 0) x e)) in
      let sums = sum_by-set (λ (n : NodeView). length n.parents) nodes d (without_parent (node_at nodes d) x) no_node k.within in
      omega arith

  -- all else stays
  arc_back : (u v : ℕ) → Arc less u v → Arc nodes u v
  arc_back u v = go (ℕ_discrete v d)
    where
      go : Dec (v ≡ d) → Arc less u v → Arc nodes u v
      go (yes e) a = subst (λ w. Arc nodes u w) (sym e) (contains_filter (λ w. not (eqb w x)) (parents_of nodes d) u (subst (λ (n : NodeView). Contains n.parents u) at (subst (λ w. Arc less u w) e a)))
      go (no n) a = subst (λ (m : NodeView). Contains m.parents u) (else v n) a

  pub loses_arc : LosesArcs nodes less
  loses_arc = record {
    nodes = map-set_same but_parents nodes d (without_parent (node_at nodes d) x) no_node refl;
    arcs = arc_back;
    others = λ v n. ap (λ (m : NodeView). m.parents) (else v (λ e. n (ap (λ u. (node_at nodes u).kind) e ∙ k.kind)));
  }
