-- The stages that may refuse a request for what its file holds. A form of words has some of them,
-- in an order of its own.
use Rattle.std.specs.Prelude.{◌≡◌, ◌<◌, ◌≤◌, ℕ, ◌-◌, List, [], ◌∷◌, Contains, None, Some}
use Rattle.first_fault.specs.Passes.{Pass}
use Rattle.maid_io.specs.Device.{File}
use Rattle.maid_model.specs.Bounds.{world_count, stopped}
use Rattle.maid_model.specs.Names.{NamesView}
use Rattle.maid_model.specs.Placing.{HasRelianceOrder, IsRelianceCycle}
use Rattle.maid_model.specs.Scopes.{KeepsScopedBounds}
use Rattle.maid_model.specs.Views.{DiagramView, RuleView, SolvedView}
use Rattle.maid_model.specs.declared.limits.TheConstants.{MOST_LEAVES}
use Rattle.evidence.specs.Conditional.{IsImpossible}
use Rattle.evidence.specs.Rules.{IsBelowDecision, KeepsRules}
use Rattle.evidence.specs.Sizes.{IsSmallEnoughGiven}
use Rattle.policy_update.specs.Faults.{HasTwoOwners}
use Rattle.policy_update.specs.Faults as updating
use Rattle.pure_search.specs.Faults.{profile_count}
use Rattle.pure_search.specs.Faults as search
use Rattle.reach_laws.specs.Equilibria.{IsPureEquilibrium}
use Rattle.reach_laws.specs.Evidence.{all_seeing, all_seeing_diagram}
use Rattle.reach_laws.specs.Updates.{IsReachedAfter}
use Rattle.report_text.specs.Reading.{IsReadAs, IsBadLine}
use Rattle.rule_solver.specs.Faults.{IsSmallEnough, IsTooLarge}
use Rattle.threshold.specs.Faults.{OthersWeighNought}
use Rattle.weight_scale.specs.Bound.{IsPassedAt, IsPassedByUtilities}
use Rattle.app_forms.specs.Chances.{HasChanceNode, HasState, at_state}
use Rattle.app_forms.specs.Diagrams.{NamedDiagram, IsDiagramOf, of_diagram}
use Rattle.app_forms.specs.Evidence.{KeepsAllBounds, TellsBelow, TellsBoundGiven, TellsImpossible, TellsRules, TellsTooLargeGiven}
use Rattle.app_forms.specs.Faults.{TellsFault}
use Rattle.app_forms.specs.Lines.{unknown_agent_line, unknown_node_line, unknown_state_line, cycle_line, bound_line, profiles_line, no_equilibrium_line, not_one_agent_line, rounds_line, too_large_line, leaves_line, bad_line_line}
use Rattle.app_forms.specs.Moved.{HasRow, KeepsMovedBound, TellsMovedBound, TellsNoOthers, TellsUnknownRow}
use Rattle.app_forms.specs.Outcome.{Refused}
use Rattle.app_forms.specs.declared.forms.update.TheConstants.{MOST_ROUNDS}
use Rattle.app_forms.specs.declared.status.Status.{Status}
use Rattle.app_forms.specs.declared.status.Status.TheVariants.{TextFault, UnknownAgent, Cycle, WeightBound, TooLarge, NoPure, NotOneAgent, RoundsSpent, UnknownNode, UnknownState, BelowDecision, Impossible, UnknownRow, NoOthers}

-- what may be wrong with a file or with what the words ask of it
pub data Stage : Type 0 where
  text_fault : Stage
  unknown_agent : (agent : List ℕ) → Stage
  relevance_cycle : Stage
  weight_bound : Stage
  too_large : Stage
  too_many_profiles : Stage
  no_equilibrium : Stage
  several_owners : Stage
  update_too_large : Stage
  rounds_spent : Stage
  unknown_node : (node : List ℕ) → Stage
  unknown_state : (node state : List ℕ) → Stage
  below_decision : (node state : List ℕ) → Stage
  rules_given : (node state : List ℕ) → Stage
  cycle_given : (node state : List ℕ) → Stage
  bound_given : (node state : List ℕ) → Stage
  size_given : (node state : List ℕ) → Stage
  impossible : (node state : List ℕ) → Stage
  unknown_row : (node : List ℕ) → (row : ℕ) → (state : List ℕ) → Stage
  no_others : (node : List ℕ) → (row : ℕ) → (state : List ℕ) → Stage
  moved_bound : (node : List ℕ) → (row : ℕ) → (state : List ℕ) → Stage
  too_many_leaves : Stage
  bad_line : (text : List ℕ) → Stage

-- the text stands for a diagram
abbrev pub IsText : List ℕ → Type 0
IsText bytes = (x : NamedDiagram) × IsDiagramOf bytes x.d x.names

-- a node has the agent of that name
abbrev pub IsAgent : NamesView → List ℕ → Type 0
IsAgent names agent = Contains names.agents agent

-- no node has it, which is told
pub record TellsUnknownAgent (names : NamesView) (agent told : List ℕ) : Type 0 where
  pub unknown : IsAgent names agent → ⊥
  pub says : told ≡ unknown_agent_line agent

-- a pure profile is an equilibrium
abbrev pub HasPureEquilibrium : DiagramView → Type 0
HasPureEquilibrium d = (s : List RuleView) × IsPureEquilibrium d.nodes s

-- each of the rounds that a run of updating may take raises
abbrev pub AllRoundsRaise : DiagramView → Type 0
AllRoundsRaise d = (p : List RuleView) × IsReachedAfter d.nodes MOST_ROUNDS p

-- the relevance graph has a cycle, which is told
pub record TellsRelianceCycle (d : DiagramView) (names : NamesView) (told : List ℕ) : Type 0 where
  pub no_order : HasRelianceOrder d.nodes → ⊥
  pub cycle : List ℕ
  pub is_cycle : IsRelianceCycle d.nodes cycle
  pub says : told ≡ cycle_line names cycle

-- the first scope that fails passes the weight bound, and it is told where: at the first node in
-- text, or by the utilities
pub data TellsBound (d : DiagramView) (names : NamesView) (told : List ℕ) : Type 0 where
  AtNode : (v : ℕ) → IsPassedAt d v → told ≡ bound_line names (Some v) → TellsBound d names told
  AtUtilities : IsPassedByUtilities d → told ≡ bound_line names None → TellsBound d names told

-- the run passes a limit of cells or of work, and both its counts are told
pub record TellsTooLarge (d : DiagramView) (names : NamesView) (told : List ℕ) : Type 0 where
  pub cells : ℕ
  pub work : ℕ
  pub is_size : IsTooLarge d cells work
  pub says : told ≡ too_large_line cells work

-- the pure profiles or the worlds are too many to be listed, and their counts are told
pub record TellsProfiles (d : DiagramView) (names : NamesView) (told : List ℕ) : Type 0 where
  pub profiles : ℕ
  pub leaves : ℕ
  pub is_size : search.IsTooLargeForSearch d profiles leaves
  pub says : told ≡ profiles_line profiles leaves

-- no pure profile is an equilibrium, and how many there are is told
pub record TellsNoEquilibrium (d : DiagramView) (names : NamesView) (told : List ℕ) : Type 0 where
  pub none : HasPureEquilibrium d → ⊥
  pub says : told ≡ no_equilibrium_line (profile_count d.nodes)

-- two decisions have different owners
pub record TellsOwners (d : DiagramView) (names : NamesView) (told : List ℕ) : Type 0 where
  pub two : HasTwoOwners d.nodes
  pub says : told ≡ not_one_agent_line

-- updating in text order passes a limit of cells or of work, and both its counts are told
pub record TellsUpdateTooLarge (d : DiagramView) (names : NamesView) (told : List ℕ) : Type 0 where
  pub cells : ℕ
  pub work : ℕ
  pub is_size : updating.IsTooLargeForUpdate d cells work
  pub says : told ≡ too_large_line cells work

-- each of the rounds raises, and how many they are is told
pub record TellsRounds (d : DiagramView) (names : NamesView) (told : List ℕ) : Type 0 where
  pub all_raise : AllRoundsRaise d
  pub says : told ≡ rounds_line MOST_ROUNDS

-- no chance node has the name, which is told
pub record TellsUnknownNode
    (d : DiagramView) (names : NamesView) (node told : List ℕ) : Type 0 where
  pub unknown : HasChanceNode d names node → ⊥
  pub says : told ≡ unknown_node_line node

-- it has no state with the label, which is told
pub record TellsUnknownState
    (d : DiagramView) (names : NamesView) (node state told : List ℕ) : Type 0 where
  pub unknown : HasState d names node state → ⊥
  pub says : told ≡ unknown_state_line state

-- the diagram has so few worlds that a report of it is looked at
abbrev pub HasFewLeaves : DiagramView → Type 0
HasFewLeaves d = world_count d.nodes ≤ MOST_LEAVES

-- it has more, and their count is told
pub record TellsLeaves (d : DiagramView) (names : NamesView) (told : List ℕ) : Type 0 where
  pub many : MOST_LEAVES < world_count d.nodes
  pub says : told ≡ leaves_line (stopped (world_count d.nodes))

-- the bytes are the report of a solved value
abbrev pub IsReport : DiagramView → NamesView → List ℕ → Type 0
IsReport d names bytes = (solved : SolvedView) × IsReadAs d names bytes solved

-- the first line with which no report of the diagram begins is told
pub record TellsBadLine
    (file : File) (d : DiagramView) (names : NamesView) (told : List ℕ) : Type 0 where
  pub at : ℕ
  pub is_bad : IsBadLine d names file.1 at
  pub says : told ≡ bad_line_line file.0 at

-- a stage finds nothing where it is clear, and else refuses with its status and a line that says
-- why
abbrev pub stage : Status → Type 0 → (List ℕ → Type 0) → Pass Refused
stage status IsClear SaysWhy None = IsClear
stage status IsClear SaysWhy (Some refusal) = (refusal.status ≡ status) × SaysWhy refusal.told

-- whether the names have the agent
abbrev pub agent_pass : NamesView → List ℕ → Pass Refused
agent_pass names agent = stage UnknownAgent (IsAgent names agent) (TellsUnknownAgent names agent)

-- what each stage finds in a file, which is a name and bytes
abbrev pub Finds : Stage → File → Pass Refused
Finds text_fault file = stage TextFault (IsText file.1) (TellsFault file.0 file.1)
Finds (unknown_agent agent) file = of_diagram file.1 (λ d names. agent_pass names agent)
Finds relevance_cycle file =
    of_diagram file.1 (λ d names. stage Cycle (HasRelianceOrder d.nodes) (TellsRelianceCycle d names))
Finds weight_bound file =
    of_diagram file.1 (λ d names. stage WeightBound (KeepsScopedBounds d) (TellsBound d names))
Finds too_large file =
    of_diagram file.1 (λ d names. stage TooLarge (IsSmallEnough d) (TellsTooLarge d names))
Finds too_many_profiles file =
    of_diagram file.1 (λ d names. stage TooLarge (search.IsSmall d) (TellsProfiles d names))
Finds no_equilibrium file =
    of_diagram file.1 (λ d names. stage NoPure (HasPureEquilibrium d) (TellsNoEquilibrium d names))
Finds several_owners file = of_diagram file.1 (λ d names.
    stage NotOneAgent (HasTwoOwners d.nodes → ⊥) (TellsOwners d names))
Finds update_too_large file = of_diagram file.1 (λ d names.
    stage TooLarge (updating.IsSmallEnoughForUpdate d) (TellsUpdateTooLarge d names))
Finds rounds_spent file =
    of_diagram file.1 (λ d names. stage RoundsSpent (AllRoundsRaise d → ⊥) (TellsRounds d names))
Finds (unknown_node node) file = of_diagram file.1 (λ d names.
    stage UnknownNode (HasChanceNode d names node) (TellsUnknownNode d names node))
Finds (unknown_state node state) file = of_diagram file.1 (λ d names.
    stage UnknownState (HasState d names node state) (TellsUnknownState d names node state))
Finds (below_decision node state) file =
    of_diagram file.1 (λ d names. at_state d names node state (λ x s.
    stage BelowDecision (IsBelowDecision d.nodes x → ⊥) (TellsBelow d x node)))
Finds (rules_given node state) file =
    of_diagram file.1 (λ d names. at_state d names node state (λ x s.
    stage TooLarge (KeepsRules (all_seeing d.nodes x)) (TellsRules (all_seeing d.nodes x))))
Finds (cycle_given node state) file = of_diagram file.1 (λ d names.
    at_state d names node state (λ x s.
    stage Cycle (HasRelianceOrder (all_seeing d.nodes x))
    (TellsRelianceCycle (all_seeing_diagram d x) names)))
Finds (bound_given node state) file = of_diagram file.1 (λ d names.
    at_state d names node state (λ x s.
    stage WeightBound (KeepsAllBounds (all_seeing_diagram d x) x)
    (TellsBoundGiven (all_seeing_diagram d x) x names)))
Finds (size_given node state) file = of_diagram file.1 (λ d names.
    at_state d names node state (λ x s.
    stage TooLarge (IsSmallEnoughGiven (all_seeing_diagram d x) x)
    (TellsTooLargeGiven (all_seeing_diagram d x) x)))
Finds (impossible node state) file =
    of_diagram file.1 (λ d names. at_state d names node state (λ x s.
    stage Impossible (IsImpossible (all_seeing d.nodes x) x s → ⊥)
    (TellsImpossible (all_seeing d.nodes x) x s node state)))
Finds (unknown_row node row state) file =
    of_diagram file.1 (λ d names. at_state d names node state (λ x s.
    stage UnknownRow (HasRow d x row) (TellsUnknownRow d x row)))
Finds (no_others node row state) file =
    of_diagram file.1 (λ d names. at_state d names node state (λ x s.
    stage NoOthers (OthersWeighNought d.nodes x s (row - 1) → ⊥) (TellsNoOthers d x s row node)))
Finds (moved_bound node row state) file =
    of_diagram file.1 (λ d names. at_state d names node state (λ x s.
    stage WeightBound (KeepsMovedBound d x s row) (TellsMovedBound d x s row names)))
Finds too_many_leaves file =
    of_diagram file.1 (λ d names. stage TooLarge (HasFewLeaves d) (TellsLeaves d names))
Finds (bad_line text) file = of_diagram text (λ d names.
    stage TextFault (IsReport d names file.1) (TellsBadLine file d names))

-- a node or a state that is not there
abbrev pub name_stages : List ℕ → List ℕ → List Stage
name_stages node state = unknown_node node ∷ unknown_state node state ∷ []
