-- What the steps of a round promise one another. Only private functions cite it.
use Rattle.std.specs.Global.{Vec}
use Rattle.std.specs.Prelude.{◌≡◌, ◌≢◌, ◌<◌, ◌≤◌, ℕ, ℤ, Bool, true, false, List, All, Option, None, Some, MatchOption, length, map, pos, replicate, slice_index_or}
use Rattle.maid_model.specs.declared.answers.Row.{Row}
use Rattle.maid_model.specs.declared.limits.TheConstants.{MOST_PLAN_CELLS}
use Rattle.maid_model.specs.Answers.{AreChoices, no_row, pure_profile}
use Rattle.maid_model.specs.Gains.{gain_at, gain_in}
use Rattle.maid_model.specs.Nodes.{IsDecision, decisions_of, rows_of, states_of}
use Rattle.maid_model.specs.Views.{NodeView, RuleView, AnswerView}
use Rattle.node_sets.specs.declared.sets.NodeSet.{NodeSet}
use Rattle.node_sets.specs.Sets.{IsIn}
use Rattle.reach_laws.specs.Updates.{IsImproved, IsReachedAfter, IsStep, IsUpdated}
use Rattle.rule_solver.specs.Rooms.{HasRoomForRun}
use Rattle.size_precheck.specs.declared.runs.RunPlans.{RunPlans}
use Rattle.size_precheck.specs.Decisions.{ArePlans}
use Rattle.size_precheck.specs.Sizes.{ArePlansOfWorths}

-- what a state gains in a row
abbrev pub state_gain : List ℤ → ℕ → ℤ
state_gain gains s = slice_index_or gains s (pos 0)

-- the choice in a row
abbrev pub choice_in : List Row → ℕ → ℕ
choice_in rows row = (slice_index_or rows row no_row).choice

-- as many rows as before, each improved by its own gains, and without worths
pub record AreImproved (gain : ℕ → ℕ → ℤ) (states : ℕ) (before after : List Row) : Type 0 where
  pub count : length after ≡ length before
  pub each : (row : ℕ) → row < length before
      → IsImproved (λ s. gain s row) states (choice_in before row) (choice_in after row)
  pub worthless : All (λ (r : Row). r.worth ≡ None) after

-- so they are by the gains of such a list
abbrev pub AreImprovedBy : List ℤ → ℕ → List Row → List Row → Type 0
AreImprovedBy gains states before after = AreImproved (gain_in gains states) states before after

-- no state of a row has a greater gain than the row's choice, which it keeps
abbrev pub KeepChoices : (ℕ → ℕ → ℤ) → ℕ → List Row → Type 0
KeepChoices gain states rows = (row : ℕ) → row < length rows
    → IsImproved (λ s. gain s row) states (choice_in rows row) (choice_in rows row)

-- row by row the choices are the same
abbrev pub AreSameChoices : List Row → List Row → Type 0
AreSameChoices rows others =
    (row : ℕ) → row < length others → choice_in rows row ≡ choice_in others row

-- these rows improve those of the answer, with all other rules as they stand
abbrev pub Improves : List NodeView → List RuleView → AnswerView → List Row → Type 0
Improves nodes p a rows =
    AreImproved (gain_at nodes p a.decision) (states_of nodes a.decision) a.rows rows

-- they improve them, and a choice changes
abbrev pub ImprovesRows : List NodeView → List RuleView → AnswerView → Vec Row → Type 0
ImprovesRows nodes p a rows =
    Improves nodes p a rows.items × (AreSameChoices rows.items a.rows → ⊥)

-- all rows of the answer keep their choices, with all other rules as they stand
abbrev pub KeepsRows : List NodeView → List RuleView → AnswerView → Type 0
KeepsRows nodes p a = KeepChoices (gain_at nodes p a.decision) (states_of nodes a.decision) a.rows

-- so the program has the improved rows, and none where all keep their choices
abbrev pub ImprovesOrKeeps :
    List NodeView → List RuleView → AnswerView → Option (Vec Row) → Type 0
ImprovesOrKeeps nodes p a rows =
    MatchOption rows (KeepsRows nodes p a) (ImprovesRows nodes p a)

-- the decision at the place in text order is improved
abbrev pub IsStepAt : List NodeView → ℕ → List RuleView → List RuleView → Type 0
IsStepAt nodes place p q = IsStep nodes p (slice_index_or (decisions_of nodes) place 0) q

-- each decision outside the set is settled: where it is improved, with all other rules as they
-- stand, it stays
abbrev pub AreSettledBut : List NodeView → List RuleView → NodeSet → Type 0
AreSettledBut nodes p unsettled =
    (d : ℕ) → IsDecision nodes d → (IsIn unsettled d → ⊥) → IsStep nodes p d p

-- the first state in each row of each decision
abbrev pub first_choices : List NodeView → List AnswerView
first_choices nodes = map (λ v. record { decision = v; rows = replicate (rows_of nodes v) no_row })
    (decisions_of nodes)

-- the profile is that of these choices
pub record IsProfileOf
    (nodes : List NodeView) (answers : List AnswerView) (p : List RuleView) : Type 0 where
  pub choices : AreChoices nodes answers
  pub rules : p ≡ pure_profile nodes answers

-- it is told whether the profile changed
abbrev pub TellsChange : Bool → List RuleView → List RuleView → Type 0
TellsChange true p q = p ≢ q
TellsChange false p q = p ≡ q

-- the profile before the first round that does not raise, which comes among so many
pub record IsSettled (nodes : List NodeView) (rounds : ℕ) (p : List RuleView) (n : ℕ) : Type 0 where
  pub before : n < rounds
  pub updated : IsUpdated nodes n p

-- all of so many rounds raise and lead to p, or p stands before the first that does not
abbrev pub EndsAt : List NodeView → ℕ → List RuleView → Option ℕ → Type 0
EndsAt nodes rounds p None = IsReachedAfter nodes rounds p
EndsAt nodes rounds p (Some n) = IsSettled nodes rounds p n

-- the plans of the decisions in text order and those of the worths, and room for each within the
-- limit
pub record IsPlannedRun (nodes : List NodeView) (run : RunPlans) : Type 0 where
  pub plans : ArePlans nodes (decisions_of nodes) run.decisions.items
  pub worths : ArePlansOfWorths nodes run.worths.items
  pub room : HasRoomForRun nodes run.size.cells
  pub limit : run.size.cells ≤ MOST_PLAN_CELLS
