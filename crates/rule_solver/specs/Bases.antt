-- A base that goes from decision to decision. Only private functions cite it.
use Rattle.std.specs.Prelude.{◌≡◌, ◌↔◌, ◌⊎◌, ℕ, Bool, List, Contains, IsTrue, map, slice_index}
use Rattle.maid_model.specs.Answers.{IsBase, pure_profile}
use Rattle.maid_model.specs.Nodes.{IsDecision}
use Rattle.maid_model.specs.Profiles.{IsProfile, SameRule, uniform_profile}
use Rattle.maid_model.specs.Relevance.{ReliesOn}
use Rattle.maid_model.specs.Views.{NodeView, RuleView, AnswerView}
use Rattle.node_sets.specs.declared.sets.NodeSet.{NodeSet}
use Rattle.node_sets.specs.Sets.{IsIn}
use Rattle.rule_solver.specs.declared.bases.TurningBase.{TurningBase}
use Rattle.rule_solver.specs.Totals.{HasTotals}

-- the decisions that are answered
abbrev pub answered_ones : List AnswerView → List ℕ
answered_ones answers = map (λ a. a.decision) answers

-- the decision whose answer stands at that place
abbrev pub decision_at : List AnswerView → ℕ → ℕ
decision_at answers place = slice_index (answered_ones answers) place

-- each decision on which this one relies is answered
abbrev pub ReliesOnAnswered : List NodeView → List AnswerView → ℕ → Type 0
ReliesOnAnswered nodes answers d = (e : ℕ) → ReliesOn nodes d e → Contains (answered_ones answers) e

-- the base of the decision in the answered rules
abbrev pub IsAnsweredBase : List NodeView → List AnswerView → ℕ → List RuleView → Type 0
IsAnsweredBase nodes answers d base = IsBase nodes (pure_profile nodes answers) d base

-- answered rules at these answered decisions, and uniform rules at all others
pub record IsMixed
    (nodes : List NodeView) (answers : List AnswerView) (held : NodeSet) (base : List RuleView) :
    Type 0 where
  pub profile : IsProfile nodes base
  pub plain : IsProfile nodes (uniform_profile nodes)
  pub answered : (e : ℕ) → IsIn held e → Contains (answered_ones answers) e
  pub pure : (e : ℕ) → IsIn held e → IsDecision nodes e → SameRule base (pure_profile nodes answers) e
  pub uniform : (e : ℕ) → IsDecision nodes e → (IsIn held e → ⊥)
      → SameRule base (uniform_profile nodes) e

-- the base's list has the total of each node's table or rule
abbrev pub HasTotalsIn : List NodeView → TurningBase → Type 0
HasTotalsIn nodes base = HasTotals nodes base.profile base.totals.items

-- answered rules at the decisions that it holds, uniform rules at others, and all nodes' totals
pub record IsTurningBase (nodes : List NodeView) (answers : List AnswerView) (base : TurningBase) :
    Type 0 where
  pub mixed : IsMixed nodes answers base.held base.profile
  pub has_totals : HasTotalsIn nodes base

-- the new set has what the old one has, and the node too
abbrev pub HoldsToo : ℕ → NodeSet → NodeSet → Type 0
HoldsToo v old new = (e : ℕ) → IsIn new e ↔ (IsIn old e ⊎ (e ≡ v))

-- the new set has what the old one has, but for the node
abbrev pub HoldsWithout : ℕ → NodeSet → NodeSet → Type 0
HoldsWithout v old new = (e : ℕ) → IsIn new e ↔ (IsIn old e × (e ≡ v → ⊥))

-- the node is in the new set just where it is relied on, and the others are as they were
pub record Turns (v : ℕ) (relied : Bool) (old new : NodeSet) : Type 0 where
  pub own : IsIn new v ↔ IsTrue relied
  pub others : (e : ℕ) → (e ≡ v → ⊥) → IsIn new e ↔ IsIn old e
