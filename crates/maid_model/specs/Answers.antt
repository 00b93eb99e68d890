-- The answer: the base of each decision, the best states against it, and what the plan is worth to
-- each agent.
use Rattle.std.specs.Prelude.{◌≡◌, ℕ, ◌<◌, ◌*◌, ◌^◌, List, [], ◌∷◌, map, length, All, Contains, slice_index_or, ℤ, pos, ◌*ℤ◌, ◌≤ℤ◌, ◌<ℤ◌, ◌==◌, if◌then◌else◌, nat_abs, unsigned_abs, Some, None, IfSome, Result, IfOk}
use Rattle.std.specs.Int.{IsGcd}
use Rattle.maid_model.specs.declared.answers.Ratio.{Ratio}
use Rattle.maid_model.specs.declared.answers.Row.{Row}
use Rattle.maid_model.specs.Views.{NodeView, DiagramView, RuleView, AnswerView, SolvedView}
use Rattle.maid_model.specs.Nodes.{IsDecision, states_of, rows_of, decisions_of}
use Rattle.maid_model.specs.Graph.{AllDifferent}
use Rattle.maid_model.specs.Profiles.{IsProfile, IsRule, SameRule, pure_rule, uniform_profile}
use Rattle.maid_model.specs.Gains.{gain_at, mass_at, gain_of, mass}
use Rattle.maid_model.specs.Relevance.{IsLive, ReliesOn}
use Rattle.maid_model.specs.Placing.{IsRelianceOrder}

-- a reduced fraction: a positive denominator that shares no divisor but 1 with the numerator
pub record IsReduced (r : Ratio) : Type 0 where
  pub positive : 0 < r.den
  pub coprime : IsGcd (unsigned_abs r.num) r.den 1

-- the reduced fraction that num / den is
pub record IsFraction (r : Ratio) (num : ℤ) (den : ℕ) : Type 0 where
  pub reduced : IsReduced r
  pub same : r.num *ℤ pos den ≡ num *ℤ pos r.den

-- what a state of d is worth in a row against the profile: the state's gain over the row's mass,
-- where utilities are whole numbers of one part in `scale`
abbrev pub IsWorthAt : List NodeView → ℕ → List RuleView → ℕ → ℕ → ℕ → Ratio → Type 0
IsWorthAt nodes scale p d state row w =
    IsFraction w (gain_at nodes p d state row) (nat_abs (mass_at nodes p d row) * scale)

-- the row of d says what its choice is worth against the profile
abbrev pub HasWorth : List NodeView → ℕ → List RuleView → ℕ → ℕ → Row → Type 0
HasWorth nodes decimals p d row r =
    (w : Ratio) × (r.worth ≡ Some w) × IsWorthAt nodes (10 ^ decimals) p d r.choice row w

-- the agent's expected utility under the profile: its gain over the mass, where utilities are whole
-- numbers of one part in `scale`
abbrev pub IsExpectedUtility : List NodeView → ℕ → List RuleView → ℕ → Ratio → Type 0
IsExpectedUtility nodes scale p agent r =
    IsFraction r (gain_of nodes p agent) (mass nodes p * scale)

-- what stands for a row that there is not
abbrev pub no_row : Row
no_row = record { choice = 0; worth = None }

-- the rows answered at a decision
abbrev pub rows_at : List AnswerView → ℕ → List Row
rows_at [] v = []
rows_at (a ∷ answers) v = if a.decision == v then a.rows else rows_at answers v

-- the choices of the rows
abbrev pub choices_of : List Row → List ℕ
choices_of rows = map (λ r. r.choice) rows

-- the rule takes in each row of the decision the row's choice
abbrev pub TakesChoices : List NodeView → ℕ → List Row → RuleView → Type 0
TakesChoices nodes v rows rule = rule ≡ pure_rule nodes v (choices_of rows)

-- the profile of the answered choices: at each decision its pure rule
abbrev pub pure_profile : List NodeView → List AnswerView → List RuleView
pure_profile nodes answers =
    map (λ v. pure_rule nodes v (choices_of (rows_at answers v))) (decisions_of nodes)

-- the profile of the answered choices of a diagram
abbrev pub answered : DiagramView → SolvedView → List RuleView
answered d solved = pure_profile d.nodes solved.answers

-- what is answered at the decision v in a row
abbrev pub answer_at : SolvedView → ℕ → ℕ → Row
answer_at solved v row = slice_index_or (rows_at solved.answers v) row no_row

-- In a row of a live decision that the answered profile reaches, the printed worth is that against
-- the profile itself.
abbrev pub KeepsWorth : DiagramView → SolvedView → Type 0
KeepsWorth d solved =
    (v row : ℕ) → IsDecision d.nodes v → IsLive d.nodes v → row < rows_of d.nodes v
    → pos 0 <ℤ mass_at d.nodes (answered d solved) v row
    → HasWorth d.nodes d.decimals (answered d solved) v row (answer_at solved v row)

-- The base of d in s: the rules of s at the decisions that d relies on, and uniform rules at all
-- others.
pub record IsBase
    (nodes : List NodeView) (s : List RuleView) (d : ℕ) (base : List RuleView) : Type 0 where
  pub profile : IsProfile nodes base
  pub relied : (e : ℕ) → ReliesOn nodes d e → SameRule base s e
  pub others : (e : ℕ) → IsDecision nodes e → (ReliesOn nodes d e → ⊥)
      → SameRule base (uniform_profile nodes) e

-- the state is the first of those with the greatest gain
pub record IsFirstBest (gain : ℕ → ℤ) (states choice : ℕ) : Type 0 where
  pub within : choice < states
  pub greatest : (s : ℕ) → s < states → gain s ≤ℤ gain choice
  pub first : (s : ℕ) → s < choice → gain s <ℤ gain choice

-- A row with mass takes the first best state against the base and is worth its gain over the mass.
-- A row without mass takes the first state and is marked as never reached, which is None.
pub record IsAnswerRow
    (nodes : List NodeView) (decimals : ℕ) (base : List RuleView) (d row : ℕ) (r : Row) : Type 0
  where
    pub best : pos 0 <ℤ mass_at nodes base d row
        → IsFirstBest (λ s. gain_at nodes base d s row) (states_of nodes d) r.choice
    pub worth : pos 0 <ℤ mass_at nodes base d row → HasWorth nodes decimals base d row r
    pub never : mass_at nodes base d row ≡ pos 0 → (r.choice ≡ 0) × (r.worth ≡ None)

-- the rows answered at d, with the base of d in s
pub record IsAnswerAt
    (nodes : List NodeView) (decimals : ℕ) (s : List RuleView) (d : ℕ) (rows : List Row) : Type 0
  where
    pub base : List RuleView
    pub is_base : IsBase nodes s d base
    pub each : (row : ℕ) → row < rows_of nodes d
        → IsAnswerRow nodes decimals base d row (slice_index_or rows row no_row)

-- what the profile is worth to each agent
pub record IsGains (d : DiagramView) (s : List RuleView) (gains : List Ratio) : Type 0 where
  pub each : (agent : ℕ) (r : Ratio) → agent < d.agents
      → IsExpectedUtility d.nodes (10 ^ d.decimals) s agent (slice_index_or gains agent r)

-- an answer of a decision, with a row for each choice of its parents' states, choices in range and
-- reduced fractions
pub record FitsAnswer (nodes : List NodeView) (answer : AnswerView) : Type 0 where
  pub decision : IsDecision nodes answer.decision
  pub rows : length answer.rows ≡ rows_of nodes answer.decision
  pub choices : All (λ r. r.choice < states_of nodes answer.decision) answer.rows
  pub worths : All (λ r. IfSome r.worth IsReduced) answer.rows

-- no row says what it is worth
abbrev pub HasNoWorths : AnswerView → Type 0
HasNoWorths answer = All (λ (r : Row). r.worth ≡ None) answer.rows

-- answers in text order, with a choice in range for each choice of the parents' states, and without
-- worths
pub record AreChoices (nodes : List NodeView) (answers : List AnswerView) : Type 0 where
  pub follow : map (λ (a : AnswerView). a.decision) answers ≡ decisions_of nodes
  pub fits : All (FitsAnswer nodes) answers
  pub worthless : All HasNoWorths answers

-- it is so where there is a row for each choice of the decision's parents' states, with choices in
-- range
abbrev pub WhereRowsFit : List NodeView → ℕ → List Row → Type 0 → Type 0
WhereRowsFit nodes v rows So =
    length rows ≡ rows_of nodes v → All (λ r. r.choice < states_of nodes v) rows → So

-- where the rows fit, what comes of them is a rule of the diagram
abbrev pub GivesRule : {E : Type 0} → List NodeView → ℕ → List Row → Result RuleView E → Type 0
GivesRule nodes v rows result = WhereRowsFit nodes v rows (IfOk result (IsRule nodes))

-- each decision has an answered row for each choice of its parents' states, with choices in range
abbrev pub FitsAnswers : List NodeView → List AnswerView → Type 0
FitsAnswers nodes answers = (v : ℕ) → IsDecision nodes v
    → (length (rows_at answers v) ≡ rows_of nodes v)
    × All (λ r. r.choice < states_of nodes v) (rows_at answers v)

-- where the answers fit, what comes of them is a profile of the diagram
abbrev pub GivesProfile :
    {E : Type 0} → List NodeView → List AnswerView → Result (List RuleView) E → Type 0
GivesProfile nodes answers result = FitsAnswers nodes answers → IfOk result (IsProfile nodes)

-- A value that a report can show: answers in the order given, each decision once, and a reduced
-- fraction for each agent.
pub record FitsDiagram (d : DiagramView) (solved : SolvedView) : Type 0 where
  pub follow : map (λ a. a.decision) solved.answers ≡ solved.order
  pub answers : All (FitsAnswer d.nodes) solved.answers
  pub all : (v : ℕ) → IsDecision d.nodes v → Contains solved.order v
  pub once : AllDifferent solved.order
  pub gains : length solved.gains ≡ d.agents
  pub reduced : All IsReduced solved.gains

-- The answer of a diagram: decisions in the order of solving, each row best against the decision's
-- base in the answered rules, and each agent's expected utility under them.
pub record IsAnswer (d : DiagramView) (solved : SolvedView) : Type 0 where
  pub fits : FitsDiagram d solved
  pub order : IsRelianceOrder d.nodes solved.order
  pub answers : (v : ℕ) → IsDecision d.nodes v
      → IsAnswerAt d.nodes d.decimals (pure_profile d.nodes solved.answers) v
      (rows_at solved.answers v)
  pub gains : IsGains d (pure_profile d.nodes solved.answers) solved.gains
