-- The sums of a decision in the part of its scope, as plans give them.
use Rattle.std.specs.Global.{Vec}
use Rattle.std.specs.Prelude.{◌≡◌, ◌↔◌, ℕ, ◌<◌, ◌≤◌, ◌+◌, ◌*◌, List, length, slice_index, slice_index_or, Contains, ℤ, pos, ◌+ℤ◌, ◌*ℤ◌, nat_abs}
use Rattle.maid_model.specs.Diagrams.{IsDiagram, greatest_number}
use Rattle.maid_model.specs.Gains.{gain_at, mass_at, gain_in}
use Rattle.maid_model.specs.Nodes.{IsDecision, rows_of, states_of}
use Rattle.maid_model.specs.Profiles.{IsProfile}
use Rattle.maid_model.specs.Scopes.{goals_of, greatest_of, place_in_scope, rules_in_scope, scope_bound, scope_of, scope_part, scope_product}
use Rattle.maid_model.specs.Tables.{row_of}
use Rattle.maid_model.specs.Views.{NodeView, DiagramView, RuleView}
use Rattle.node_sets.specs.declared.sets.NodeSet.{NodeSet}
use Rattle.node_sets.specs.Sets.{IsIn}
use Rattle.finite_sums.specs.Sums.{World, InRange, sum_each}
use Rattle.part_laws.specs.ScopeLaws.{HasSmallRules}
use Rattle.plan_sums.specs.Plans.{gain_cells, plan_sum, gain_plan}
use Rattle.scope_sums.specs.Missing.{missing_in}
use Rattle.rule_solver.specs.declared.decision_sums.RowSums.{RowSums}
use Rattle.rule_solver.specs.Reading.{HasGainForEach, gain_there}
use Rattle.rule_solver.specs.Totals.{HasTotals}

-- what a state gains in a row in the part of the decision's scope
abbrev pub scope_gain : List NodeView → List RuleView → ℕ → ℕ → ℕ → ℤ
scope_gain nodes p d state row =
    gain_at (scope_part nodes d) (rules_in_scope nodes p d) (place_in_scope nodes d) state row

-- the row's mass in the part of the decision's scope
abbrev pub scope_mass : List NodeView → List RuleView → ℕ → ℕ → ℤ
scope_mass nodes p d row =
    mass_at (scope_part nodes d) (rules_in_scope nodes p d) (place_in_scope nodes d) row

-- a gain for each row and state, the state fastest, and a mass for each row: those in the part of
-- the decision's scope
pub record IsRowSums
    (nodes : List NodeView) (p : List RuleView) (d : ℕ) (gains : List ℤ) (masses : List ℕ) : Type 0
  where
    pub gain_count : HasGainForEach nodes d gains
    pub mass_count : length masses ≡ rows_of nodes d
    pub gain : (state row : ℕ) → state < states_of nodes d → row < rows_of nodes d
        → gain_in gains (states_of nodes d) state row ≡ scope_gain nodes p d state row
    pub mass_there :
        (row : ℕ) → row < rows_of nodes d → pos (slice_index masses row) ≡ scope_mass nodes p d row

-- so the program has them
abbrev pub AreRowSums : List NodeView → List RuleView → ℕ → RowSums → Type 0
AreRowSums nodes p d sums = IsRowSums nodes p d sums.gains.items sums.masses.items

-- such gains alone
pub record IsRowGains (nodes : List NodeView) (p : List RuleView) (d : ℕ) (gains : List ℤ) : Type 0
  where
    pub gain_count : HasGainForEach nodes d gains
    pub gain : (state row : ℕ) → state < states_of nodes d → row < rows_of nodes d
        → gain_in gains (states_of nodes d) state row ≡ scope_gain nodes p d state row

-- so the program has the gains
abbrev pub AreRowGains : List NodeView → List RuleView → ℕ → Vec ℤ → Type 0
AreRowGains nodes p d gains = IsRowGains nodes p d gains.items

-- the gains keep the weight bound, and the masses the P of the scope
pub record KeepsRoom
    (nodes : List NodeView) (d : ℕ) (gains : List ℤ) (masses : List ℕ) : Type 0 where
  pub gain : (i : ℕ) → i < length gains
      → nat_abs (slice_index_or gains i (pos 0))
      ≤ scope_product nodes d * greatest_of nodes (goals_of nodes d)
  pub mass_there : (row : ℕ) → row < length masses → slice_index masses row ≤ scope_product nodes d

-- so do those of a decision's sums
abbrev pub KeepsRowRoom : List NodeView → ℕ → RowSums → Type 0
KeepsRowRoom nodes d sums = KeepsRoom nodes d sums.gains.items sums.masses.items

-- ---- a setting
-- a decision and a profile whose other rules are small, within the bound, with the totals of all
-- nodes and the decision's scope
pub record IsSetting
    (d : DiagramView) (p : List RuleView) (decision : ℕ) (totals : List ℕ) (scope : NodeSet) : Type
    0 where
  pub is_diagram : IsDiagram d
  pub is_decision : IsDecision d.nodes decision
  pub profile : IsProfile d.nodes p
  pub rules : HasSmallRules d.nodes p decision
  pub bound : scope_bound d decision ≤ greatest_number
  pub has_totals : HasTotals d.nodes p totals
  pub is_scope : (v : ℕ) → IsIn scope v ↔ Contains (scope_of d.nodes decision) v

-- ---- on the way; only private functions cite the rest
-- each mass is that of its row in the part of the decision's scope, and within its P
pub record HasMasses
    (d : DiagramView) (p : List RuleView) (decision : ℕ) (masses : List ℕ) : Type 0 where
  pub count : length masses ≡ rows_of d.nodes decision
  pub each : (q : World) → InRange (states_of d.nodes) q
      → pos (slice_index masses (row_of d.nodes decision q))
      ≡ scope_mass d.nodes p decision (row_of d.nodes decision q)
  pub small : (q : World) → InRange (states_of d.nodes) q
      → slice_index masses (row_of d.nodes decision q) ≤ scope_product d.nodes decision

-- what one goal gives to a gain: the sum of its plan, times the totals of the scope's nodes that
-- the plan lacks
abbrev pub goal_part : List NodeView → List RuleView → ℕ → ℕ → World → ℤ
goal_part nodes p d u q = plan_sum gain_cells nodes p (gain_plan nodes d u) q
    *ℤ pos (missing_in nodes p (scope_of nodes d) (gain_plan nodes d u))

-- each gain is what these goals give
pub record HasGoals
    (nodes : List NodeView) (p : List RuleView) (d : ℕ) (goals : List ℕ) (gains : List ℤ) : Type 0
  where
    pub count : HasGainForEach nodes d gains
    pub each : (q : World) → InRange (states_of nodes) q
        → gain_there gains nodes d q ≡ sum_each (λ u. goal_part nodes p d u q) goals
    pub small : (q : World) → InRange (states_of nodes) q
        → nat_abs (gain_there gains nodes d q) ≤ scope_product nodes d * greatest_of nodes goals

-- a gain for each row and state, with room for what these goals give
pub record HasRoomForGoals
    (d : DiagramView) (decision : ℕ) (goals : List ℕ) (gains : List ℤ) : Type 0 where
  pub count : HasGainForEach d.nodes decision gains
  pub room : (q : World) → InRange (states_of d.nodes) q
      → nat_abs (gain_there gains d.nodes decision q)
      + scope_product d.nodes decision * greatest_of d.nodes goals
      ≤ greatest_number

-- each gain is greater by what these goals give
pub record AddsGoals
    (nodes : List NodeView) (p : List RuleView) (d : ℕ) (goals : List ℕ) (before after : List ℤ) :
    Type 0 where
  pub count : length after ≡ length before
  pub each : (q : World) → InRange (states_of nodes) q
      → gain_there after nodes d q
      ≡ gain_there before nodes d q +ℤ sum_each (λ u. goal_part nodes p d u q) goals
