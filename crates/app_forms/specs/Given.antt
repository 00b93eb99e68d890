-- What `given` writes: the answer of a diagram under evidence.
use Rattle.std.specs.Prelude.{◌≡◌, ℕ, ◌+◌, ◌/◌, ◌%◌, ◌==◌, Bool, false, List, [], ◌∷◌, ◌++◌, codes, if◌then◌else◌, Result}
use Rattle.std.specs.List.{flat_map}
use Rattle.evidence.specs.Conditional.{IsBestGiven, IsImpossible, IsPerfectSeeing, IsWorthGiven}
use Rattle.evidence.specs.Rules.{IsBelowDecision, KeepsRules}
use Rattle.evidence.specs.Sizes.{IsSmallEnoughGiven}
use Rattle.maid_model.specs.Answers.{IsAnswer}
use Rattle.maid_model.specs.Names.{NamesView, label_of, name_of}
use Rattle.maid_model.specs.Nodes.{parents_of, rows_under, states_of}
use Rattle.maid_model.specs.Placing.{HasRelianceOrder}
use Rattle.maid_model.specs.Reports.{decision_head, gain_lines, line, names_line, quoted, row_line}
use Rattle.maid_model.specs.Views.{NodeView, DiagramView, AnswerView, SolvedView}
use Rattle.maid_model.specs.declared.answers.Ratio.{Ratio}
use Rattle.maid_model.specs.declared.answers.Row.{Row}
use Rattle.reach_laws.specs.Evidence.{all_seeing, all_seeing_diagram}
use Rattle.evidence.specs.declared.conditions.Conditioned.{Conditioned}
use Rattle.app_forms.specs.Chances.{IsStatePlace}
use Rattle.app_forms.specs.declared.forms.chances.StatePlace.{StatePlace}
use Rattle.app_forms.specs.Evidence.{KeepsAllBounds}
use Rattle.app_forms.specs.Stages.{Stage, name_stages, text_fault, below_decision, rules_given, cycle_given, bound_given, size_given, impossible}
use Rattle.app_forms.specs.Tasks.{Task, text_task}
use Rattle.std.specs.Global.{Vec}
use Rattle.line_pieces.specs.Pushed.{PushAppends}
use Rattle.first_fault.specs.Answers.{IsFaultOrNoMemory}
use Rattle.evidence.specs.Faults.{given_fault, given_pass}
use Rattle.evidence.specs.declared.faults.GivenFault.{GivenFault}

-- in the row of that number, under these parents, the parent x has the state
abbrev pub shows : (ℕ → ℕ) → List ℕ → ℕ → ℕ → ℕ → Bool
shows count [] row x state = false
shows count (u ∷ us) row x state = if u == x
    then row / rows_under count us == state
    else shows count us (row % rows_under count us) x state

-- a row's line where the decision sees the node with the state in it
abbrev pub row_given : List NodeView → NamesView → StatePlace → ℕ → ℕ → Row → List ℕ
row_given nodes names place d number row =
    if shows (states_of nodes) (parents_of nodes d) number place.node place.state
    then row_line nodes names d number row
    else []

-- these lines from that number on
abbrev pub rows_given : List NodeView → NamesView → StatePlace → ℕ → ℕ → List Row → List ℕ
rows_given nodes names place d number [] = []
rows_given nodes names place d number (row ∷ rows) =
    row_given nodes names place d number row ++ rows_given nodes names place d (number + 1) rows

-- a decision's line, and then these rows
abbrev pub decision_given : List NodeView → NamesView → StatePlace → AnswerView → List ℕ
decision_given nodes names place answer = decision_head nodes names answer.decision
    ++ rows_given nodes names place answer.decision 0 answer.rows

-- those of all decisions
abbrev pub decisions_given : List NodeView → NamesView → StatePlace → List AnswerView → List ℕ
decisions_given nodes names place answers = flat_map (decision_given nodes names place) answers

-- the evidence and the order of solving
abbrev pub given_front : NamesView → StatePlace → List ℕ → List ℕ
given_front names place order =
    line (codes "maidsolve given 1")
    ++ line (codes "given " ++ name_of names place.node ++ codes " = "
    ++ quoted (label_of names place.node place.state))
    ++ names_line (codes "order:") names order

-- these, each decision with the rows in which it sees the evidence, and each agent's conditional
-- expected utility
abbrev pub given_text : DiagramView → NamesView → StatePlace → SolvedView → List Ratio → List ℕ
given_text d names place solved gains =
    given_front names place solved.order
    ++ decisions_given d.nodes names place solved.answers
    ++ gain_lines names 0 gains

-- the same of what the code holds
abbrev pub conditioned_text : NamesView → StatePlace → Conditioned → List ℕ
conditioned_text names place c = given_text c.diagram names place c.solved c.gains.items

-- The answer of the diagram in which every decision sees the node, and what it is worth where the
-- node has the state. The profile is subgame-perfect, and none is worth more, where the node has
-- the state, to an agent that owns all decisions.
pub record HasGiven
    (node state : List ℕ) (d : DiagramView) (names : NamesView) (printed : List ℕ) : Type 0 where
  pub place : StatePlace
  pub is_place : IsStatePlace d names node state place
  pub solved : SolvedView
  pub is_answer : IsAnswer (all_seeing_diagram d place.node) solved
  pub gains : List Ratio
  pub worth : IsWorthGiven d place.node place.state solved gains
  pub subgame_perfect : IsPerfectSeeing d place.node solved
  pub best : IsBestGiven d place.node place.state solved
  pub is : printed ≡ given_text (all_seeing_diagram d place.node) names place solved gains

-- the diagram has the evidence, can be answered under it, and it is possible
pub record CanBeGiven (node state : List ℕ) (d : DiagramView) (names : NamesView) : Type 0 where
  pub place : StatePlace
  pub is_place : IsStatePlace d names node state place
  pub not_below : IsBelowDecision d.nodes place.node → ⊥
  pub rules : KeepsRules (all_seeing d.nodes place.node)
  pub order : HasRelianceOrder (all_seeing d.nodes place.node)
  pub bounds : KeepsAllBounds (all_seeing_diagram d place.node) place.node
  pub small : IsSmallEnoughGiven (all_seeing_diagram d place.node) place.node
  pub possible : IsImpossible (all_seeing d.nodes place.node) place.node place.state → ⊥

-- the stages behind the names of the words
abbrev pub evidence_stages : List ℕ → List ℕ → List Stage
evidence_stages node state = below_decision node state ∷ rules_given node state
    ∷ cycle_given node state ∷ bound_given node state ∷ size_given node state
    ∷ impossible node state ∷ []

-- the text's fault, an unknown node or state, these stages, and else the answer
abbrev pub conditioning : List ℕ → List ℕ → Task
conditioning node state = text_task
    (text_fault ∷ name_stages node state ++ evidence_stages node state) (HasGiven node state)

-- why the diagram is not answered under this evidence, or that memory ran out
abbrev pub IsGivenFault : DiagramView → StatePlace → GivenFault → Type 0
IsGivenFault d place fault = IsFaultOrNoMemory given_fault (given_pass d place.node place.state) fault

-- in the row of that number, under these parents of the diagram, the place's node has its state
abbrev pub shows_place : List NodeView → List ℕ → ℕ → StatePlace → Bool
shows_place nodes parents number place =
    shows (states_of nodes) parents number place.node place.state

-- ---- what a call that ended well appended
-- the line of a row where the decision sees the evidence in it
abbrev pub PushesRowGiven : {R E : Type 0} → DiagramView → NamesView → StatePlace → ℕ → ℕ → Row
    → Vec ℕ → Vec ℕ → Result R E → Type 0
PushesRowGiven d names place decision number row before now result =
    PushAppends before now result (row_given d.nodes names place decision number row)

-- a decision's line and those of such rows
abbrev pub PushesAnswerGiven : {R E : Type 0} → DiagramView → NamesView → StatePlace → AnswerView
    → Vec ℕ → Vec ℕ → Result R E → Type 0
PushesAnswerGiven d names place answer before now result =
    PushAppends before now result (decision_given d.nodes names place answer)

-- those of each answer in turn
abbrev pub PushesAnswersGiven : {R E : Type 0} → DiagramView → NamesView → StatePlace
    → List AnswerView → Vec ℕ → Vec ℕ → Result R E → Type 0
PushesAnswersGiven d names place answers before now result =
    PushAppends before now result (decisions_given d.nodes names place answers)
