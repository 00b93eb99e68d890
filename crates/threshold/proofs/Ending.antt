-- The table of a probability that is 0 or 1, over a common multiple of the table's total and of
-- what the other states weigh.
use Rattle.std.proofs.Common.{◌≡◌, ◌∙◌, ℕ, ◌+◌, ◌-◌, ◌*◌, ◌/◌, ◌%◌, ◌<◌, ◌≤◌, List, length, map, slice_index_or, slice_set, refl, sym, ap, subst, pos, nat_abs, ◌≤ℤ◌, ◌<ℤ◌, arith}
use Rattle.std.proofs.lemmas.Int.{ints}
use Rattle.std.proofs.Math.Nat.{mul-div_cancel', mul_comm}
use Rattle.std.specs.Int.{◌∣◌}
use Rattle.std.specs.List.{range_with_len}
use Rattle.arc_laws.proofs.LostArc.{set_at}
use Rattle.diagram_graph.specs.Edited.{with_nodes}
use Rattle.maid_laws.proofs.Choices.{weights_by-at}
use Rattle.maid_laws.proofs.Tied.{kind_within}
use Rattle.maid_model.specs.declared.diagrams.Kind.TheVariants.{Chance, Utility}
use Rattle.maid_model.specs.Diagrams.{IsDiagram, greatest_number}
use Rattle.maid_model.specs.Nodes.{node_at, rows_of, states_of}
use Rattle.maid_model.specs.Tables.{chance_total}
use Rattle.maid_model.specs.Views.{NodeView, DiagramView}
use Rattle.maid_model.proofs.Weighing.{pos_at}
use Rattle.reach_laws.specs.Threshold.{IsMoved, IsPlace, state_weight, others_weight}
use Rattle.reach_laws.proofs.Moved as moving
use Rattle.reach_laws.proofs.Perfect.{rows_like}
use Rattle.threshold.specs.declared.ends.Totals.{Totals}
use Rattle.threshold.specs.declared.weights.Place.{Place}
use Rattle.threshold.specs.declared.weights.Scales.{Scales}
use Rattle.threshold.specs.Ends.{AreTotals, IsEnd}
use Rattle.threshold.specs.Weights.{IsCell, KeepsRange, new_weight, rewritten}
use Rattle.threshold.proofs.Moves.{like, moved_kept}
use Rattle.threshold.proofs.Tables.{is_place, one_at_most}

-- the diagram with the new table is one with the probability moved, of that total, and its weights
-- are small enough
pub record Moves (d : DiagramView) (place : Place) (scales : Scales) (num whole : ℕ) : Type 0 where
  pub moved : IsMoved d.nodes place.node place.state place.row num 1 (rewritten d.nodes place scales)
  pub total : chance_total (rewritten d.nodes place scales) place.node ≡ whole
  pub fits : KeepsRange d.nodes place scales
  pub kept : IsDiagram (with_nodes d (rewritten d.nodes place scales))

pub end_of : (d : DiagramView) (place : Place) (scales : Scales) (num whole : ℕ) (e : DiagramView) → e ≡ with_nodes d (rewritten d.nodes place scales) → Moves d place scales num whole → IsEnd d place num whole e
end_of d place scales num whole e is m = subst (IsEnd d place num whole) (sym is) (record { moved = m.moved; total = m.total; agents = refl; decimals = refl })

module _ (d : DiagramView) (place : Place) (h : IsDiagram d) (p : IsCell d.nodes place) (others : pos 0 <ℤ others_weight d.nodes place.node place.state place.row) (num : ℕ) (hn : num ≤ 1) (left : ℕ) (left_is : pos left ≡ others_weight d.nodes place.node place.state place.row)
    (whole times given each : ℕ) (ht : 0 < whole) (small : whole ≤ greatest_number) (times_is : chance_total d.nodes place.node * times ≡ whole) (given_is : given * 1 ≡ num * whole) (each_is : each * (1 * left) ≡ (1 - num) * whole) where
  abbrev nodes : List NodeView
  nodes = d.nodes

  abbrev x : ℕ
  x = place.node

  abbrev scales : Scales
  scales = record { times = times; given = given; each = each }

  is : IsPlace nodes x place.state place.row
  is = is_place nodes place h.tables p others

  one : 0 < 1
  one = omega arith

  abbrev new : List NodeView
  new = moving.moved nodes x place.state place.row num 1 h.graph h.tables is hn one left left_is whole times given each ht times_is given_is each_is

  same : new ≡ rewritten nodes place scales
  same = λ i. slice_set nodes x (record { kind = sym is.kind i; owner = (node_at nodes x).owner; more = (node_at nodes x).more; states = (node_at nodes x).states; parents = (node_at nodes x).parents; cells = map pos (map (λ c. new_weight nodes place scales (c % states_of nodes x) (c / states_of nodes x)) (range_with_len 0 (rows_of nodes x * states_of nodes x))) })

  moved : IsMoved nodes x place.state place.row num 1 (rewritten nodes place scales)
  moved = subst (IsMoved nodes x place.state place.row num 1) same (moving.is_moved nodes x place.state place.row num 1 h.graph h.tables is hn one left left_is whole times given each ht times_is given_is each_is)

  total : chance_total (rewritten nodes place scales) x ≡ whole
  total = ap (λ ns. chance_total ns x) (sym same) ∙ moving.total_is nodes x place.state place.row num 1 h.graph h.tables is hn one left left_is whole times given each ht times_is given_is each_is

  within : x < length nodes
  within = kind_within nodes x (λ e. clash (sym p.kind ∙ e))
    where
      clash : Chance ≡ Utility → ⊥
      clash e = cc

  cells_are : (node_at (rewritten nodes place scales) x).cells ≡ map pos (map (λ c. new_weight nodes place scales (c % states_of nodes x) (c / states_of nodes x)) (range_with_len 0 (rows_of nodes x * states_of nodes x)))
  cells_are = ap (λ (n : NodeView). n.cells) (set_at nodes x _ within)

  fits : KeepsRange nodes place scales
  fits s r m l =
      let others = rewritten nodes place scales in
      let t = moved.tables.table x (ap (λ (n : NodeView). n.kind) moved.at) in
      let states : states_of others x ≡ states_of nodes x = ap (λ (n : NodeView). n.states) moved.at in
      let at : state_weight others x s r ≡ pos (new_weight nodes place scales s r) =
      (λ i. slice_index_or (cells_are i) (r * states i + s) (pos 0)) ∙ pos_at (map (λ c. new_weight nodes place scales (c % states_of nodes x) (c / states_of nodes x)) (range_with_len 0 (rows_of nodes x * states_of nodes x))) (r * states_of nodes x + s)
      ∙ ap pos (weights_by-at (rows_of nodes x) (states_of nodes x) (λ r s. new_weight nodes place scales s r) r s l m) in
      let sum = t.row r (subst (λ n. r < n) (sym (rows_like nodes others (like d x place.state place.row num 1 others h is moved) x)) l) in
      let most = one_at_most (λ s. state_weight others x s r) (λ i. t.not_negative (r * states_of others x + i)) (states_of others x) s (subst (λ n. s < n) (sym states) m) in
      nat (new_weight nodes place scales s r) whole greatest_number (subst (λ z. z ≤ℤ pos whole) at (subst (λ z. state_weight others x s r ≤ℤ z) (sum ∙ ap pos total) most)) small
    where
      nat : (a b c : ℕ) → pos a ≤ℤ pos b → b ≤ c → a ≤ c
      nat a b c h k = omega (arith, ints)

  pub moves : Moves d place (record { times = times; given = given; each = each }) num whole
  moves = record { moved = moved; total = total; fits = fits; kept = moved_kept d x place.state place.row num 1 (rewritten nodes place scales) h is moved (subst (λ n. n ≤ greatest_number) (sym total) small) }

-- ---- both ends
module _ (d : DiagramView) (place : Place) (h : IsDiagram d) (p : IsCell d.nodes place) (totals : Totals) (t : AreTotals d.nodes place totals) where
  others : pos 0 <ℤ others_weight d.nodes place.node place.state place.row
  others = subst (λ z. pos 0 <ℤ z) t.others (some totals.others t.some)
    where
      some : (n : ℕ) → 0 < n → pos 0 <ℤ pos n
      some n l = omega (arith, ints)

  times_is : chance_total d.nodes place.node * (totals.common / totals.table) ≡ totals.common
  times_is = ap (λ n. n * (totals.common / totals.table)) (sym t.table) ∙ mul-div_cancel' totals.table (subst (λ n. n ∣ totals.common) (sym t.table) t.common.0)

  left_abs : nat_abs (others_weight d.nodes place.node place.state place.row) ≡ totals.others
  left_abs = ap nat_abs (sym t.others)

  shares_is : totals.common / totals.others * totals.others ≡ totals.common
  shares_is = mul_comm (totals.common / totals.others) totals.others ∙ mul-div_cancel' totals.others (subst (λ n. n ∣ totals.common) left_abs t.common.1)

  pub moves_to_nought : Moves d place (record { times = totals.common / totals.table; given = 0; each = totals.common / totals.others }) 0 totals.common
  moves_to_nought = moves d place h p others 0 (omega arith) totals.others t.others totals.common (totals.common / totals.table) 0 (totals.common / totals.others) t.positive t.small times_is (none totals.common) (all (totals.common / totals.others) totals.others totals.common shares_is)
    where
      none : (t : ℕ) → 0 * 1 ≡ 0 * t
      none t = omega arith

      all : (k l t : ℕ) → k * l ≡ t → k * (1 * l) ≡ (1 - 0) * t
      all k l t e = ap (λ z. k * z) (one l) ∙ e ∙ back t
        where
          one : (l : ℕ) → 1 * l ≡ l
          one l = omega arith

          back : (t : ℕ) → t ≡ (1 - 0) * t
          back t = omega arith

  pub moves_to_one : Moves d place (record { times = totals.common / totals.table; given = totals.common; each = 0 }) 1 totals.common
  moves_to_one = moves d place h p others 1 (omega arith) totals.others t.others totals.common (totals.common / totals.table) totals.common 0 t.positive t.small times_is (same totals.common) (nothing totals.others totals.common)
    where
      same : (t : ℕ) → t * 1 ≡ 1 * t
      same t = omega arith

      nothing : (l t : ℕ) → 0 * (1 * l) ≡ (1 - 1) * t
      nothing l t = omega arith
