-- What the run of a plan asks and gives.
use Rattle.std.specs.Prelude.{◌≡◌, ◌↔◌, ◌⊎◌, ℕ, ◌+◌, ◌*◌, ◌<◌, max, List, map, sum_by, length, Contains, Option, Some, None, IfSome}
use Rattle.finite_sums.specs.Sums.{World, InRange, nat_product_over}
use Rattle.node_sets.specs.Sets.{holds, IsIn}
use Rattle.maid_model.specs.Gains.{greatest_abs}
use Rattle.maid_model.specs.Nodes.{node_at, states_of}
use Rattle.maid_model.specs.Tables.{weight_total}
use Rattle.maid_model.specs.Views.{NodeView, DiagramView, RuleView}
use Rattle.cell_rings.specs.declared.cells.Cell.{Ghosts}
use Rattle.cell_rings.specs.Rings.{Ring}
use Rattle.ring_sums.specs.Tables.{Table, eliminate, joined, product_of, scopes_of}
use Rattle.plan_sums.specs.Plans.{Cells, PlanView, ruled_nodes, plan_sum}
use Rattle.factor_core.specs.declared.slots.Slot.{Slot}
use Rattle.factor_core.specs.Operations.{cells_of, first_table}
use Rattle.factor_core.specs.Slots.{WorkspaceView, IsLiveSlot, table_of, Appends, StaysLive}
use Rattle.size_precheck.specs.Counts.{counted_cells}
use Rattle.size_precheck.specs.Sizes.{SizedPlan, made_cells, steps_work}
use Rattle.eliminate.specs.declared.counts.Limits.{Limits}
use Rattle.eliminate.specs.declared.firsts.Play.{Play}
use Rattle.eliminate.specs.Steps.{first_cells}
use Rattle.ring_sums.specs.Groups.{StepsFit, StepsHold}

-- the greater of 1 and the greatest absolute value of the utility; 1 without one
abbrev pub greatest_value : List NodeView → Option ℕ → ℕ
greatest_value nodes None = 1
greatest_value nodes (Some u) = max 1 (greatest_abs (node_at nodes u).cells)

-- the product of the totals of the plan's chance and decision tables, and of that
abbrev pub plan_total : List NodeView → List RuleView → PlanView → ℕ
plan_total nodes p plan = nat_product_over (weight_total nodes p) (ruled_nodes nodes plan)
    * greatest_value nodes plan.utility

-- so it is in a play as the program has it
abbrev pub total_of : Play → PlanView → ℕ
total_of p plan = plan_total p.diagram.now.nodes p.profile.now plan

-- the slot is that of the plan's sum, over the kept nodes; as many cells as the plan counts were
-- appended, and slots that were live are, with their tables
pub record SumsPlan {C : Type 0}
    (c : Cells C) (nodes : List NodeView) (p : List RuleView) (made : SizedPlan)
    (before after : WorkspaceView C) (slot : Slot) : Type 0 where
  pub appends : Appends before after (length before.cells) made.size.cells
  pub live : IsLiveSlot nodes after.cells slot
  pub scope : (v : ℕ) → IsIn slot.scope v ↔ Contains made.plan.keep v
  pub cell : (w : World) → InRange (states_of nodes) w
      → (table_of c.ring nodes after.cells slot).cell w ≡ plan_sum c nodes p made.plan w
  pub stays :
      (s : Slot) → IsLiveSlot nodes before.cells s → StaysLive c.ring nodes before.cells after.cells s

-- ---- sums of any tables of nodes
-- the first tables of these nodes
abbrev pub tables_at :
    {C : Type 0} → Cells C → List NodeView → List RuleView → List ℕ → List (Table C)
tables_at c nodes p vs = map (first_table c nodes p) vs

-- each of the steps finds a table that holds its node
abbrev pub FindTables :
    {C : Type 0} → Cells C → List NodeView → List RuleView → List ℕ → List ℕ → Type 0
FindTables c nodes p vs steps = StepsHold c.ring (states_of nodes) steps (tables_at c nodes p vs)

-- the sums of all steps fit
abbrev pub SumsFit :
    {C : Type 0} → Cells C → List NodeView → List RuleView → List ℕ → List ℕ → Type 0
SumsFit c nodes p vs steps =
    StepsFit c.ring c.ring.size (states_of nodes) c.ring.most steps (tables_at c nodes p vs)

-- what the steps leave of them
abbrev pub tables_left :
    {C : Type 0} → Cells C → List NodeView → List RuleView → List ℕ → List ℕ → List (Table C)
tables_left c nodes p vs steps =
    eliminate c.ring (states_of nodes) steps (tables_at c nodes p vs)

-- the slot is that of the product of what the steps leave, over the nodes of these tables
pub record SumsTables {C : Type 0}
    (c : Cells C) (nodes : List NodeView) (p : List RuleView) (vs steps : List ℕ)
    (after : WorkspaceView C) (slot : Slot) : Type 0 where
  pub live : IsLiveSlot nodes after.cells slot
  pub scope : (v : ℕ) → holds slot.scope v ≡ joined (tables_left c nodes p vs steps) v
  pub cell : (w : World) → InRange (states_of nodes) w
      → (table_of c.ring nodes after.cells slot).cell w
      ≡ product_of c.ring (tables_left c nodes p vs steps) w

-- cells were at most appended: there is as much space as before, and slots that were live are, with
-- their tables
pub record Grows {C : Type 0}
    (r : Ring C) (nodes : List NodeView) (before after : WorkspaceView C) : Type 0 where
  pub space : length after.cells + after.spare ≡ length before.cells + before.spare
  pub stays :
      (s : Slot) → IsLiveSlot nodes before.cells s → StaysLive r nodes before.cells after.cells s

-- the cells of all tables that the steps ask for: of the first ones, of each that a step makes, and
-- of the last product
abbrev pub sum_cells :
    {C : Type 0} → Cells C → List NodeView → List RuleView → List ℕ → List ℕ → ℕ
sum_cells c nodes p vs steps = sum_by (first_cells c nodes p) vs
    + made_cells nodes steps (scopes_of (tables_at c nodes p vs))
    + counted_cells nodes (joined (tables_left c nodes p vs steps))

-- and the work: that of the steps, and at the end the cells of the product times the number of
-- tables left
abbrev pub sum_work :
    {C : Type 0} → Cells C → List NodeView → List RuleView → List ℕ → List ℕ → ℕ
sum_work c nodes p vs steps = steps_work nodes steps (scopes_of (tables_at c nodes p vs))
    + counted_cells nodes (joined (tables_left c nodes p vs steps))
    * length (tables_left c nodes p vs steps)

-- one of them passes its limit
abbrev pub IsTooMuch : {C : Type 0} → Cells C → List NodeView → List RuleView → List ℕ → List ℕ
    → Limits → Type 0
IsTooMuch c nodes p vs steps limits = (limits.cells < sum_cells c nodes p vs steps)
    ⊎ (limits.work < sum_work c nodes p vs steps)

-- ---- the same in a diagram, of cells of a kind
-- the slot is that of the plan's sum
abbrev pub SumsPlanIn : {C : Type 0} → Ghosts C → DiagramView → List RuleView → SizedPlan
    → WorkspaceView C → WorkspaceView C → Slot → Type 0
SumsPlanIn kind d p made before after slot =
    SumsPlan (cells_of kind) d.nodes p made before after slot

-- each of the steps finds a table that holds its node
abbrev pub FindTablesIn :
    {C : Type 0} → Ghosts C → DiagramView → List RuleView → List ℕ → List ℕ → Type 0
FindTablesIn kind d p vs steps = FindTables (cells_of kind) d.nodes p vs steps

-- the sums of all steps fit
abbrev pub SumsFitIn :
    {C : Type 0} → Ghosts C → DiagramView → List RuleView → List ℕ → List ℕ → Type 0
SumsFitIn kind d p vs steps = SumsFit (cells_of kind) d.nodes p vs steps

-- the slot, where there is one, is that of the product of what the steps leave
abbrev pub SumsIfSome : {C : Type 0} → Ghosts C → DiagramView → List RuleView → List ℕ → List ℕ
    → WorkspaceView C → Option Slot → Type 0
SumsIfSome kind d p vs steps after result =
    IfSome result (SumsTables (cells_of kind) d.nodes p vs steps after)

-- there is none exactly where the cells or the work pass their limit
abbrev pub NoneIffTooMuch : {C : Type 0} → Ghosts C → DiagramView → List RuleView → List ℕ → List ℕ
    → Limits → Option Slot → Type 0
NoneIffTooMuch kind d p vs steps limits result =
    (result ≡ None) ↔ IsTooMuch (cells_of kind) d.nodes p vs steps limits
