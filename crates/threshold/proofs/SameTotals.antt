-- The diagrams in which the probability is 0 and 1, and the diagram over the same total, keep the
-- same bounds.
use Rattle.std.proofs.Common.{◌≡◌, ◌≢◌, ◌∙◌, ℕ, zero, suc, ◌+◌, ◌*◌, ◌/◌, ◌<◌, List, [], ◌∷◌, map, length, slice_index_or, refl, sym, ap, subst, inr, Some, None, ℤ, pos, nat_abs, ◌-ℤ◌, ◌*ℤ◌, ◌<ℤ◌, arith}
use Rattle.std.proofs.lemmas.Int.{ints}
use Rattle.std.proofs.lemmas.List.{length-set}
use Rattle.std.proofs.Math.Decide.{ℕ_discrete}
use Rattle.std.proofs.Math.Nat.{mul-div_cancel'}
use Rattle.std.specs.Int.{◌∣◌}
use Rattle.arc_laws.proofs.LostArc.{set_at, set_else}
use Rattle.first_fault.specs.Answers.{IsFaultOrNoMemory}
use Rattle.finite_sums.specs.Sums.{sum_below}
use Rattle.finite_sums.proofs.Ints.{mul_comm}
use Rattle.finite_sums.proofs.Sums.{sum_below_cong, sum_below_mul}
use Rattle.maid_laws.proofs.Rows.{rows_positive}
use Rattle.maid_laws.proofs.Tied.{kind_within}
use Rattle.maid_model.specs.declared.diagrams.Kind.TheVariants.{Chance, Utility}
use Rattle.maid_model.specs.Diagrams.{IsDiagram, greatest_number}
use Rattle.maid_model.specs.Graph.{IsGraph}
use Rattle.maid_model.specs.Nodes.{node_at, parents_of, states_of}
use Rattle.maid_model.specs.Scopes.{KeepsScopedBounds}
use Rattle.maid_model.specs.Tables.{HasChanceTables, chance_total}
use Rattle.maid_model.specs.Views.{NodeView, DiagramView}
use Rattle.reach_laws.specs.Threshold.{IsPlace, others_weight}
use Rattle.reach_laws.proofs.Perfect.{IsLike, like_of, turned}
use Rattle.threshold.specs.declared.ends.Totals.{Totals}
use Rattle.threshold.specs.declared.faults.SpanFault.{SpanFault}
use Rattle.threshold.specs.declared.faults.SpanFault.TheVariants as faults
use Rattle.threshold.specs.declared.weights.Place.{Place}
use Rattle.threshold.specs.Ends.{AreEnds, AreTotals, IsEnd}
use Rattle.threshold.specs.Faults as views
use Rattle.threshold.specs.Faults.{FaultView, OthersWeighNought, scoped_pass, span_fault, span_pass, with_total}
use Rattle.threshold.specs.Weights.{IsCell}
use Rattle.threshold.proofs.Alike.{HasSameBounds, bounds_kept, passed_at, passed_by_utilities, through}
use Rattle.threshold.proofs.Tables.{all_weight, is_place}

-- a diagram with another table of x, of this total
pub record Redone (d : DiagramView) (x whole : ℕ) (e : DiagramView) : Type 0 where
  pub like : IsLike d.nodes e.nodes
  pub else : (v : ℕ) → v ≢ x → node_at e.nodes v ≡ node_at d.nodes v
  pub total : chance_total e.nodes x ≡ whole
  pub agents : e.agents ≡ d.agents
  pub decimals : e.decimals ≡ d.decimals

-- two of them keep the same bounds
pub redone_same : (d : DiagramView) (x whole : ℕ) (a b : DiagramView) → (node_at d.nodes x).kind ≡ Chance → Redone d x whole a → Redone d x whole b → HasSameBounds a b
redone_same d x whole a b chance ha hb = record {
  like = through a.nodes d.nodes b.nodes (turned d.nodes a.nodes ha.like) hb.like;
  totals = λ v. total v (ℕ_discrete v x);
  values = λ v k. let n = apart v k in ap (λ (m : NodeView). m.cells) (hb.else v n ∙ sym (ha.else v n));
  agents = hb.agents ∙ sym ha.agents;
  decimals = hb.decimals ∙ sym ha.decimals;
}
  where
    total : (v : ℕ) → Dec (v ≡ x) → chance_total b.nodes v ≡ chance_total a.nodes v
    total v (yes e) = ap (chance_total b.nodes) e ∙ hb.total ∙ sym ha.total ∙ ap (chance_total a.nodes) (sym e)
    total v (no n) = ap (λ (m : NodeView). nat_abs (sum_below m.states (λ s. slice_index_or m.cells s (pos 0)))) (hb.else v n ∙ sym (ha.else v n))

    clash : Chance ≡ Utility → ⊥
    clash e = cc

    apart : (v : ℕ) → (node_at a.nodes v).kind ≡ Utility → v ≢ x
    apart v k e = clash (sym chance ∙ ap (λ u. (node_at d.nodes u).kind) (sym e) ∙ sym (ha.like.kinds v) ∙ k)

-- either end is one
pub end_redone : (d : DiagramView) (place : Place) (num whole : ℕ) (e : DiagramView) → IsPlace d.nodes place.node place.state place.row → IsEnd d place num whole e → Redone d place.node whole e
end_redone d place num whole e is h = record { like = like_of d.nodes e.nodes place.node place.state place.row num 1 is h.moved; else = h.moved.else; total = h.total; agents = h.agents; decimals = h.decimals }

-- ---- the diagram over another total
at_map : (k : ℕ) (cells : List ℤ) (i : ℕ) → slice_index_or (map (λ w. w *ℤ pos k) cells) i (pos 0) ≡ pos k *ℤ slice_index_or cells i (pos 0)
at_map k [] i = none (pos k)
  where
    none : (z : ℤ) → pos 0 ≡ z *ℤ pos 0
    none z = omega (arith, ints)
at_map k (c ∷ cells) zero = mul_comm c (pos k)
at_map k (c ∷ cells) (suc i) = at_map k cells i

module _ (d : DiagramView) (x whole : ℕ) (g : IsGraph d.nodes) (c : HasChanceTables d.nodes) (chance : (node_at d.nodes x).kind ≡ Chance) (divides : chance_total d.nodes x ∣ whole) where
  abbrev nodes : List NodeView
  nodes = d.nodes

  abbrev made : NodeView
  made = record { kind = (node_at nodes x).kind; owner = (node_at nodes x).owner; more = (node_at nodes x).more; states = (node_at nodes x).states; parents = (node_at nodes x).parents; cells = map (λ w. w *ℤ pos (whole / chance_total nodes x)) (node_at nodes x).cells }

  abbrev others : List NodeView
  others = (with_total d x whole).nodes

  within : x < length nodes
  within = kind_within nodes x (λ e. clash (sym chance ∙ e))
    where
      clash : Chance ≡ Utility → ⊥
      clash e = cc

  here : node_at others x ≡ made
  here = set_at nodes x made within

  kept : {A : Type 0} (f : NodeView → A) → f made ≡ f (node_at nodes x) → (v : ℕ) → f (node_at others v) ≡ f (node_at nodes v)
  kept f same v = go (ℕ_discrete v x)
    where
      go : Dec (v ≡ x) → f (node_at others v) ≡ f (node_at nodes v)
      go (yes e) = ap (λ u. f (node_at others u)) e ∙ ap f here ∙ same ∙ ap (λ u. f (node_at nodes u)) (sym e)
      go (no n) = ap f (set_else nodes x made v n)

  like : IsLike nodes others
  like = record { len = length-set nodes x made; kinds = kept (λ n. n.kind) refl; owners = kept (λ n. n.owner ∷ n.more) refl; states = kept (λ n. n.states) refl; parents = kept (λ n. n.parents) refl }

  row_sum : sum_below (states_of nodes x) (λ s. slice_index_or (node_at nodes x).cells s (pos 0)) ≡ pos (chance_total nodes x)
  row_sum =
      sum_below_cong (states_of nodes x) (λ s. slice_index_or (node_at nodes x).cells s (pos 0)) (λ s. slice_index_or (node_at nodes x).cells (0 * states_of nodes x + s) (pos 0)) (λ s m. ap (λ i. slice_index_or (node_at nodes x).cells i (pos 0)) (first (states_of nodes x) s))
      ∙ (c.table x chance).row 0 (rows_positive (states_of nodes) g.has_state (parents_of nodes x))
    where
      first : (n s : ℕ) → s ≡ 0 * n + s
      first n s = omega arith

  total : chance_total others x ≡ whole
  total =
      ap (λ (n : NodeView). nat_abs (sum_below n.states (λ s. slice_index_or n.cells s (pos 0)))) here
      ∙ ap nat_abs (sum_below_cong (states_of nodes x) (λ s. slice_index_or made.cells s (pos 0)) (λ s. pos (whole / chance_total nodes x) *ℤ slice_index_or (node_at nodes x).cells s (pos 0)) (λ s m. at_map (whole / chance_total nodes x) (node_at nodes x).cells s)
      ∙ sum_below_mul (states_of nodes x) (pos (whole / chance_total nodes x)) (λ s. slice_index_or (node_at nodes x).cells s (pos 0))
      ∙ ap (λ z. pos (whole / chance_total nodes x) *ℤ z) row_sum ∙ mul_comm (pos (whole / chance_total nodes x)) (pos (chance_total nodes x)))
      ∙ mul-div_cancel' (chance_total nodes x) divides

  pub total_redone : Redone d x whole (with_total d x whole)
  total_redone = record { like = like; else = λ v n. set_else nodes x made v n; total = total; agents = refl; decimals = refl }

-- ---- refusals
module _ (d : DiagramView) (place : Place) (h : IsDiagram d) (p : IsCell d.nodes place) (totals : Totals) (t : AreTotals d.nodes place totals) (nought : DiagramView) (e : IsEnd d place 0 totals.common nought) where
  some : pos 0 <ℤ others_weight d.nodes place.node place.state place.row
  some = subst (λ z. pos 0 <ℤ z) t.others (above totals.others t.some)
    where
      above : (n : ℕ) → 0 < n → pos 0 <ℤ pos n
      above n l = omega (arith, ints)

  same : HasSameBounds nought (with_total d place.node totals.common)
  same = redone_same d place.node totals.common nought (with_total d place.node totals.common) p.kind (end_redone d place 0 totals.common nought (is_place d.nodes place h.tables p some) e) (total_redone d place.node totals.common h.graph h.tables p.kind t.common.0)

  not_nought : OthersWeighNought d.nodes place.node place.state place.row → ⊥
  not_nought none = nothing (others_weight d.nodes place.node place.state place.row) (pos (chance_total d.nodes place.node)) _ (all_weight d.nodes place h.tables p none) refl some
    where
      nothing : (o w z : ℤ) → z ≡ w → o ≡ w -ℤ z → pos 0 <ℤ o → ⊥
      nothing o w z e f l = omega (arith, ints)

  not_wide : greatest_number < totals.common → ⊥
  not_wide l = let m = t.small in omega arith

  scoped : (f : FaultView) → scoped_pass nought (Some f) → span_pass d place.node place.state place.row (Some f)
  scoped f s = inr (not_nought, (totals.common, t.common, inr (not_wide, there f s)))
    where
      there : (f : FaultView) → scoped_pass nought (Some f) → scoped_pass (with_total d place.node totals.common) (Some f)
      there views.NoOthers s = absurd s
      there (views.WeightBound (Some v)) s = passed_at nought (with_total d place.node totals.common) same v s
      there (views.WeightBound None) s = passed_by_utilities nought (with_total d place.node totals.common) same s

  pub refused_there : (fault : SpanFault) → IsFaultOrNoMemory span_fault (scoped_pass nought) fault → IsFaultOrNoMemory span_fault (span_pass d place.node place.state place.row) fault
  refused_there faults.NoOthers s = absurd s
  refused_there (faults.WeightBound node) s = scoped (views.WeightBound node) s
  refused_there faults.NoMemory s = tt

  pub passed_there : KeepsScopedBounds nought → span_pass d place.node place.state place.row None
  passed_there k = (not_nought, (totals.common, t.common, (not_wide, bounds_kept nought (with_total d place.node totals.common) same k)))

  pub ends_there : (one : DiagramView) → IsEnd d place 1 totals.common one → KeepsScopedBounds nought → AreEnds d place nought one
  ends_there one f k = record {
    some = some;
    total = totals.common;
    at_nought = e;
    at_one = f;
    bound_nought = k;
    bound_one = bounds_kept nought one (redone_same d place.node totals.common nought one p.kind (end_redone d place 0 totals.common nought is e) (end_redone d place 1 totals.common one is f)) k;
  }
    where
      is : IsPlace d.nodes place.node place.state place.row
      is = is_place d.nodes place h.tables p some
