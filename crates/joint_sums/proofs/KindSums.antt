-- Cells of any kind that stand for pairs: the gain of their joint sum, as the program's kind of
-- pairs has it.
use Rattle.std.proofs.Common.{◌≡◌, ◌∙◌, ℕ, List, refl, ap, pos, ◌*ℤ◌}
use Rattle.finite_sums.specs.Sums.{World, InRange, sum_each}
use Rattle.maid_model.specs.Graph.{IsGraph}
use Rattle.maid_model.specs.Nodes.{IsDecision, states_of}
use Rattle.maid_model.specs.Profiles.{IsProfile}
use Rattle.maid_model.specs.Scopes.{scope_of}
use Rattle.maid_model.specs.Tables.{HasChanceTables}
use Rattle.maid_model.specs.Views.{NodeView, RuleView}
use Rattle.cell_rings.specs.declared.boths.Both.{Both}
use Rattle.cell_rings.specs.KindLaws.{both_map, pair_of_weight, pair_of_value}
use Rattle.cell_rings.specs.Kinds.{both_of, both_kind, pair_in}
use Rattle.cell_rings.specs.RingLaws.{both_is_ring}
use Rattle.cell_rings.specs.Rings.{IsRing, Pair}
use Rattle.plan_sums.specs.Laws.{IsCellMap}
use Rattle.plan_sums.specs.Plans.{Cells, gain_cells, both_cells, plan_sum, gain_plan}
use Rattle.plan_sums.specs.Sizes.{AreSized}
use Rattle.scope_sums.specs.Missing.{missing_in}
use Rattle.joint_sums.specs.Joint.{joint_sum, AreGoals}
use Rattle.joint_sums.proofs.Gains.{joint_gains}
use Rattle.joint_sums.proofs.Orders.{maps_joint}

-- any kind
pub gains_by : {C : Type 0} (c : Cells C) → IsRing c.ring → (pair : C → Pair) → IsCellMap c both_cells pair
    → (nodes : List NodeView) (p : List RuleView) (d : ℕ) (us : List ℕ) (q : World) → IsGraph nodes → HasChanceTables nodes → IsProfile nodes p → IsDecision nodes d → AreGoals nodes d us → InRange (states_of nodes) q
    → (pair (joint_sum c nodes p d us q)).g ≡ sum_each (λ u. plan_sum gain_cells nodes p (gain_plan nodes d u) q *ℤ pos (missing_in nodes p (scope_of nodes d) (gain_plan nodes d u))) us
gains_by c h pair m nodes p d us q g t r is goals i = ap (λ (z : Pair). z.g) (maps_joint c both_cells h both_is_ring pair m nodes p d us q) ∙ joint_gains nodes p d us q g t r is goals i

-- the program's pairs
abbrev pub both_run : Cells Both
both_run = record { ring = both_kind; weight = λ w. both_of w (pos 0); value = λ v. both_of 1 v }

pub both_pairs : IsCellMap both_run both_cells pair_in
both_pairs = record { ring = both_map; weight = λ w. refl; value = λ v. refl }

pub both_run_sized : AreSized both_run both_kind.size
both_run_sized = record { weight = pair_of_weight; value = pair_of_value }
