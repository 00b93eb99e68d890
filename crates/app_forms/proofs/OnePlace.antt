-- Words name one state of one chance node, and a bound is not both kept and passed.
use Rattle.std.proofs.Common.{◌≡◌, ◌∙◌, inl, inr, ℕ, ◌<◌, List, Option, None, Some, refl, ap, subst, arith}
use Rattle.std.specs.Int.{◌∣◌}
use Rattle.std.proofs.lemmas.Nat.Gcd.{dvd_antisymm}
use Rattle.std.proofs.Math.Decide.{dec_lt}
use Rattle.maid_model.specs.Names.{NamesView, IsFirstPlace, labels_of}
use Rattle.maid_model.specs.Scopes.{KeepsScopedBounds, FailsFirst, FailsFirstFor}
use Rattle.maid_model.specs.Views.{DiagramView}
use Rattle.threshold.specs.Faults.{WeightBound, total_pass, with_total}
use Rattle.weight_scale.specs.Bound.{IsPassedAt, IsPassedByUtilities}
use Rattle.app_forms.specs.Chances.{HasChanceNode, IsChanceNode, IsStatePlace}
use Rattle.app_forms.specs.Diagrams.{NamedDiagram}
use Rattle.app_forms.specs.declared.forms.chances.StatePlace.{StatePlace}
use Rattle.app_forms.specs.Evidence.{KeepsAllBounds, TellsBoundGiven}
use Rattle.app_forms.specs.Evidence as evidence
use Rattle.app_forms.specs.Lines.{bound_line, unknown_node_line, unknown_state_line}
use Rattle.app_forms.specs.Moved.{KeepsMovedBound, TellsMovedBound}
use Rattle.app_forms.specs.Outcome.{refused}
use Rattle.app_forms.specs.Reading.{found_by}
use Rattle.app_forms.specs.Stages.{TellsBound, AtNode, AtUtilities, name_stages}
use Rattle.app_forms.specs.declared.status.Status.TheVariants.{UnknownNode, UnknownState}

-- ---- one place
not_before : (names : List (List ℕ)) (name : List ℕ) (a b : ℕ) → IsFirstPlace names name a → IsFirstPlace names name b → a < b → ⊥
not_before names name a b is other less = other.first a less is.here

pub first_is_one : (names : List (List ℕ)) (name : List ℕ) (a b : ℕ) → IsFirstPlace names name a → IsFirstPlace names name b → a ≡ b
first_is_one names name a b is other =
    let up = not_before names name a b is other in
    let down = not_before names name b a other is in
    by (dec_lt a b) (dec_lt b a) up down
  where
    by : Dec (a < b) → Dec (b < a) → (a < b → ⊥) → (b < a → ⊥) → a ≡ b
    by (yes l) c up down = absurd (up l)
    by (no n) (yes l) up down = absurd (down l)
    by (no n) (no m) up down = omega (arith, n, m)

state_place : ℕ → ℕ → StatePlace
state_place node state = record { node = node; state = state }

pub same_state : (d : DiagramView) (names : NamesView) (node state : List ℕ) (p q : StatePlace) → IsStatePlace d names node state p → IsStatePlace d names node state q → p ≡ q
unfolding state_place
same_state d names node state p q is other =
    let x : p.node ≡ q.node = first_is_one names.nodes node p.node q.node is.node.first other.node.first in
    let s : p.state ≡ q.state = first_is_one (labels_of names q.node) state p.state q.state (subst (λ v. IsFirstPlace (labels_of names v) state p.state) x is.state) other.state in
    ap (λ v. state_place v p.state) x ∙ ap (state_place q.node) s

-- a name that no chance node has is an unknown one, and so is a label of no state of the node
module _ (d : DiagramView) (names : NamesView) (node state told : List ℕ) where
  pub unknown_node_found : (HasChanceNode d names node → ⊥) → told ≡ unknown_node_line node → found_by d names (name_stages node state) (Some (refused UnknownNode told))
  unknown_node_found unknown says name bytes is = let x : NamedDiagram = record { d = d; names = names } in inl (x, is, (refl, record { unknown = unknown; says = says }))

  pub unknown_state_found : (x : ℕ) → IsChanceNode d names node x → ((s : ℕ) → IsFirstPlace (labels_of names x) state s → ⊥) → told ≡ unknown_state_line state
      → found_by d names (name_stages node state) (Some (refused UnknownState told))
  unknown_state_found x at none says name bytes is =
      let y : NamedDiagram = record { d = d; names = names } in
      inr ((y, is, (x, at)), inl (y, is, (refl, record { unknown = λ has. elsewhere has.0 has.1; says = says })))
    where
      elsewhere : (p : StatePlace) → IsStatePlace d names node state p → ⊥
      elsewhere p there =
          let same : p.node ≡ x = first_is_one names.nodes node p.node x there.node.first at.first in
          none p.state (subst (λ v. IsFirstPlace (labels_of names v) state p.state) same there.state)

-- ---- bounds
-- the bound of a decision's scope fails, or that of an agent's, so not all hold
decision_fails : (d : DiagramView) (e : ℕ) → KeepsScopedBounds d → FailsFirst d e → ⊥
decision_fails d e keeps fails = omega (arith, keeps.decisions e fails.decision, fails.fails)

agent_fails : (d : DiagramView) (agent : ℕ) → KeepsScopedBounds d → FailsFirstFor d agent → ⊥
agent_fails d agent keeps fails = omega (arith, keeps.agents agent fails.within, fails.fails)

-- so a bound that is told as passed is not kept
pub not_kept : (d : DiagramView) (names : NamesView) (told : List ℕ) → KeepsScopedBounds d → TellsBound d names told → ⊥
not_kept d names told keeps (AtNode v (inl (e, fails, there)) says) = decision_fails d e keeps fails
not_kept d names told keeps (AtNode v (inr (agent, fails, there)) says) = agent_fails d agent keeps fails
not_kept d names told keeps (AtUtilities (inl (e, fails, there)) says) = decision_fails d e keeps fails
not_kept d names told keeps (AtUtilities (inr (agent, fails, there)) says) = agent_fails d agent keeps fails

pub not_kept_given : (d : DiagramView) (x : ℕ) (names : NamesView) (told : List ℕ) → KeepsAllBounds d x → TellsBoundGiven d x names told → ⊥
not_kept_given d x names told keeps (evidence.AtNode v passed says) = not_kept d names told keeps.scopes (AtNode v passed says)
not_kept_given d x names told keeps (evidence.AtUtilities passed says) = not_kept d names told keeps.scopes (AtUtilities passed says)
not_kept_given d x names told keeps (evidence.AtFurtherNode v scopes passed says) = let fails = passed.fails_first in omega (arith, keeps.further.each passed.agent fails.within, fails.fails)
not_kept_given d x names told keeps (evidence.AtFurtherUtilities scopes passed says) = let fails = passed.fails_first in omega (arith, keeps.further.each passed.agent fails.within, fails.fails)

-- the common multiple is one
same_multiple : (a b m n : ℕ) → (a ∣ m) × (b ∣ m) × ((k : ℕ) → a ∣ k → b ∣ k → m ∣ k) → (a ∣ n) × (b ∣ n) × ((k : ℕ) → a ∣ k → b ∣ k → n ∣ k) → m ≡ n
same_multiple a b m n least other = dvd_antisymm (least.2 n other.0 other.1) (other.2 m least.0 least.1)

-- a place at which the bound is passed
abbrev SolverPassed : DiagramView → Option ℕ → Type 0
SolverPassed d None = IsPassedByUtilities d
SolverPassed d (Some v) = IsPassedAt d v

not_passed : (d : DiagramView) (names : NamesView) (at : Option ℕ) → KeepsScopedBounds d → SolverPassed d at → ⊥
not_passed d names None keeps passed = not_kept d names (bound_line names None) keeps (AtUtilities passed refl)
not_passed d names (Some v) keeps passed = not_kept d names (bound_line names (Some v)) keeps (AtNode v passed refl)

clash : (d : DiagramView) (x total : ℕ) (names : NamesView) (at : Option ℕ) → total_pass d x total None → total_pass d x total (Some (WeightBound at)) → ⊥
clash d x total names at keeps (inl passes) = keeps.0 passes.0
clash d x total names None keeps (inr passes) = not_passed (with_total d x total) names None keeps.1 passes.1
clash d x total names (Some v) keeps (inr passes) = not_passed (with_total d x total) names (Some v) keeps.1 passes.1

pub not_moved : (d : DiagramView) (x state row : ℕ) (names : NamesView) (told : List ℕ) → KeepsMovedBound d x state row → TellsMovedBound d x state row names told → ⊥
not_moved d x state row names told keeps tells =
    let same : keeps.0 ≡ tells.passes.0 = same_multiple _ _ keeps.0 tells.passes.0 keeps.1 tells.passes.1 in
    clash d x tells.passes.0 names tells.at (subst (λ total. total_pass d x total None) same keeps.2) tells.passes.2
