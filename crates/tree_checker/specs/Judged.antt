-- What the steps of a check promise one another. Only private functions cite it.
use Rattle.std.specs.Prelude.{◌≡◌, ℕ, ◌+◌, ◌*◌, ◌^◌, ◌<◌, ◌≤◌, List, length, slice_index, slice_index_or, ℤ, pos, ◌≤ℤ◌, ◌<ℤ◌, nat_abs, Option, Some, None}
use Rattle.maid_model.specs.declared.answers.Ratio.{Ratio}
use Rattle.maid_model.specs.declared.answers.Row.{Row}
use Rattle.maid_model.specs.Views.{DiagramView, RuleView, NodeView}
use Rattle.maid_model.specs.Nodes.{states_of, rows_of}
use Rattle.maid_model.specs.Diagrams.{greatest_number}
use Rattle.maid_model.specs.Gains.{gain_at, gain_in, mass_at}
use Rattle.maid_model.specs.Parts.{part_diagram, rules_in, with_ancestors}
use Rattle.maid_model.specs.Scopes.{scope_of, rules_in_scope, place_in_scope}
use Rattle.maid_model.specs.Answers.{IsBase, IsFraction, IsExpectedUtility, no_row}
use Rattle.maid_model.specs.Accepted.{IsAcceptedRow}
use Rattle.std.specs.Global.{Vec}
use Rattle.tree_checker.specs.declared.decisions.RowSums.{RowSums}
use Rattle.tree_checker.specs.declared.parts.RuledPart.{RuledPart}
use Rattle.tree_checker.specs.declared.verdicts.Cause.{Cause}
use Rattle.tree_checker.specs.declared.rows.RowFault.{RowFault}
use Rattle.tree_checker.specs.Verdicts.{FailsIn, FailsRow, no_gain}

-- a gain for each row and state, the state fastest, and a mass for each row: the sums over the
-- worlds of the diagram, each with room
pub record ListsSums
    (d : DiagramView) (p : List RuleView) (v : ℕ) (gains : List ℤ) (masses : List ℕ) : Type 0 where
  pub gain_count : length gains ≡ rows_of d.nodes v * states_of d.nodes v
  pub mass_count : length masses ≡ rows_of d.nodes v
  pub gain : (s row : ℕ) → s < states_of d.nodes v → row < rows_of d.nodes v
      → slice_index_or gains (row * states_of d.nodes v + s) (pos 0) ≡ gain_at d.nodes p v s row
  pub mass_there :
      (row : ℕ) → row < rows_of d.nodes v → pos (slice_index masses row) ≡ mass_at d.nodes p v row
  pub gain_small : (i : ℕ) → nat_abs (slice_index_or gains i (pos 0)) ≤ greatest_number
  pub mass_small : (row : ℕ) → slice_index masses row * 10 ^ d.decimals ≤ greatest_number

-- so the two lists do
abbrev pub HoldsSums : DiagramView → List RuleView → ℕ → RowSums → Type 0
HoldsSums d p v sums = ListsSums d p v sums.gains.items sums.masses.items

-- the part of these nodes and their ancestors
abbrev pub part_above : DiagramView → List ℕ → DiagramView
part_above d of = part_diagram d (with_ancestors d.nodes of)

-- the profile's rules in it
abbrev pub rules_above : List NodeView → List RuleView → List ℕ → List RuleView
rules_above nodes p of = rules_in nodes p (with_ancestors nodes of)

-- the first of the cells of each row
abbrev pub AreFirstCells : List NodeView → ℕ → List ℕ → List ℕ → Type 0
AreFirstCells nodes v cells firsts = (row : ℕ) → row < rows_of nodes v
    → slice_index firsts row ≡ slice_index cells (row * states_of nodes v)

-- there are as many masses as the decision has rows
abbrev pub HasMassEachRow : List NodeView → ℕ → Vec ℕ → Type 0
HasMassEachRow nodes v masses = length masses.items ≡ rows_of nodes v

-- the masses of the rows are those first cells
abbrev pub HasFirstCells : List NodeView → ℕ → List ℕ → Vec ℕ → Type 0
HasFirstCells nodes v cells masses = AreFirstCells nodes v cells masses.items

-- the rule, as that of a decision with this number
abbrev pub rule_as : RuleView → ℕ → RuleView
rule_as rule v = record { decision = v; total = rule.total; weights = rule.weights }

-- the part that these nodes and their ancestors make has just those
abbrev pub HasNodesAbove : List NodeView → List ℕ → RuledPart → Type 0
HasNodesAbove nodes of ruled = ruled.part.nodes.items ≡ with_ancestors nodes of

-- its rules are the profile's in that part
abbrev pub HasRulesAbove : List NodeView → List RuleView → List ℕ → RuledPart → Type 0
HasRulesAbove nodes p of ruled = ruled.rules ≡ rules_above nodes p of

-- the sums in the part of the decision's scope
abbrev pub ListsScopeSums : DiagramView → List RuleView → ℕ → List ℤ → List ℕ → Type 0
ListsScopeSums d p v gains masses = ListsSums (part_diagram d (scope_of d.nodes v))
    (rules_in_scope d.nodes p v) (place_in_scope d.nodes v) gains masses

-- so the two lists do
abbrev pub HoldsScopeSums : DiagramView → List RuleView → ℕ → RowSums → Type 0
HoldsScopeSums d p v sums = ListsScopeSums d p v sums.gains.items sums.masses.items

-- a row passes whose states have these gains: with mass its choice is best and it is worth that,
-- and without mass it is marked
pub record PassesIn (gain : ℕ → ℤ) (states : ℕ) (mass : ℤ) (scale : ℕ) (r : Row) : Type 0 where
  pub best : pos 0 <ℤ mass → (s : ℕ) → s < states → gain s ≤ℤ gain r.choice
  pub worth : pos 0 <ℤ mass
      → (w : Ratio) × (r.worth ≡ Some w) × IsFraction w (gain r.choice) (nat_abs mass * scale)
  pub never : mass ≡ pos 0 → r.worth ≡ None

-- the row passes, or fails for the cause
abbrev pub JudgesRow : (ℕ → ℤ) → ℕ → ℤ → ℕ → Row → Option Cause → Type 0
JudgesRow gain states mass scale r None = PassesIn gain states mass scale r
JudgesRow gain states mass scale r (Some cause) = FailsIn gain states mass scale r cause

-- what a state gains, in a list with a number for each
abbrev pub listed_gain : List ℤ → ℕ → ℤ
listed_gain gains s = slice_index_or gains s (pos 0)

-- the list is that of the row's states
abbrev pub ListsRow : List ℤ → ℕ → ℕ → List ℤ → Type 0
ListsRow gains states row list = (s : ℕ) → s < states → listed_gain list s ≡ gain_in gains states s row

-- the row passes by listed gains and masses
abbrev pub PassesListed : List ℤ → List ℕ → ℕ → ℕ → ℕ → Row → Type 0
PassesListed gains masses states scale row r =
    PassesIn (λ s. gain_in gains states s row) states (pos (slice_index masses row)) scale r

-- the row fails for the cause, by listed gains and masses
abbrev pub FailsListed : List ℤ → List ℕ → ℕ → ℕ → ℕ → Row → Cause → Type 0
FailsListed gains masses states scale row r cause =
    FailsIn (λ s. gain_in gains states s row) states (pos (slice_index masses row)) scale r cause

-- the fault is that of the first row that doesn't pass
pub record IsFirstFault
    (Passes : ℕ → Row → Type 0) (Fails : ℕ → Row → Cause → Type 0) (rows : List Row)
    (fault : RowFault) : Type 0 where
  pub within : fault.row < length rows
  pub fails : Fails fault.row (slice_index_or rows fault.row no_row) fault.cause
  pub before : (row : ℕ) → row < fault.row → Passes row (slice_index_or rows row no_row)

-- each row passes, or the fault is that of the first that doesn't
abbrev pub JudgesRows :
    (ℕ → Row → Type 0) → (ℕ → Row → Cause → Type 0) → List Row → Option RowFault → Type 0
JudgesRows Passes Fails rows None =
    (row : ℕ) → row < length rows → Passes row (slice_index_or rows row no_row)
JudgesRows Passes Fails rows (Some fault) = IsFirstFault Passes Fails rows fault

-- the rows pass, or the fault is that of the first that doesn't, by listed gains and masses
abbrev pub JudgesListed : List ℤ → List ℕ → ℕ → ℕ → List Row → Option RowFault → Type 0
JudgesListed gains masses states scale rows fault = JudgesRows
    (PassesListed gains masses states scale) (FailsListed gains masses states scale) rows fault

-- the rows of the decision v, judged against its base in s
pub record JudgesAnswer
    (d : DiagramView) (s : List RuleView) (v : ℕ) (rows : List Row) (fault : Option RowFault) : Type
    0 where
  pub base : List RuleView
  pub is_base : IsBase d.nodes s v base
  pub judged : JudgesRows (IsAcceptedRow d.nodes d.decimals base v)
      (FailsRow d.nodes d.decimals base v) rows fault

-- the rules are worth that to the agent
abbrev pub AreWorth : DiagramView → List RuleView → ℕ → Ratio → Type 0
AreWorth d s agent gain = IsExpectedUtility d.nodes (10 ^ d.decimals) s agent gain

-- what is printed for the agent is what the rules are worth to it
abbrev pub PrintsGain : DiagramView → List RuleView → List Ratio → ℕ → Type 0
PrintsGain d s gains agent = AreWorth d s agent (slice_index_or gains agent no_gain)

-- the agent is the first for which something else is printed
pub record IsFirstWrong
    (d : DiagramView) (s : List RuleView) (gains : List Ratio) (agent : ℕ) : Type 0 where
  pub within : agent < d.agents
  pub wrong : PrintsGain d s gains agent → ⊥
  pub before : (other : ℕ) → other < agent → PrintsGain d s gains other

-- each gain is right, or the agent is the first whose gain is wrong
abbrev pub JudgesGains : DiagramView → List RuleView → List Ratio → Option ℕ → Type 0
JudgesGains d s gains None = (agent : ℕ) → agent < d.agents → PrintsGain d s gains agent
JudgesGains d s gains (Some agent) = IsFirstWrong d s gains agent
