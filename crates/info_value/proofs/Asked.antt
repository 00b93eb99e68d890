-- Each arc that is asked about can be asked about in the diagram in which only the agent decides.
use Rattle.std.proofs.Common.{rules, ◌≡◌, ◌≢◌, ◌∙◌, ◌⊎◌, ℕ, ◌<◌, Bool, true, false, not, ◌&&◌, ◌==◌, List, length, refl, sym, ap, subst, inl, inr}
use Rattle.std.proofs.Math.Decide.{ℕ_discrete}
use Rattle.arc_laws.proofs.Alone as others
use Rattle.arc_laws.proofs.Alone.{IsLeft, LeavesTo, decision_there, leaves}
use Rattle.maid_laws.proofs.Booleans.{eqb_yes}
use Rattle.maid_laws.proofs.Rules.{decision_kind}
use Rattle.maid_model.specs.declared.diagrams.Kind.{Kind}
use Rattle.maid_model.specs.declared.diagrams.Kind.TheVariants.{Chance, Decision, Utility}
use Rattle.maid_model.specs.Edits.{one_agent}
use Rattle.maid_model.specs.Graph.{Arc, Descends, IsPath, Here, Along, descends}
use Rattle.maid_model.specs.Laws.{TestsDescent}
use Rattle.maid_model.specs.Nodes.{IsDecision, agent_of, is_decision, is_utility, node_at, parents_of}
use Rattle.maid_model.specs.Views.{NodeView, AnswerView}
use Rattle.part_laws.proofs.PartSums.{and_both}
use Rattle.std.specs.Prelude.{Contains, IsTrue}
use Rattle.info_value.specs.Alone.{CanAsk, CanAskAll}
use Rattle.info_value.specs.Lines.{decides, may_see}
use Rattle.info_value.proofs.Sights.{path_cases}

not_both : (b : Bool) → not b ≡ true → b ≡ true → ⊥
not_both true h e = cc
not_both false h e = cc

-- paths where all nodes have the same parents
path_same : (nodes more : List NodeView) → ((v : ℕ) → parents_of more v ≡ parents_of nodes v) → {to from : ℕ} → IsPath (Arc more) from to → IsPath (Arc nodes) from to
path_same nodes more same Here = Here
path_same nodes more same (Along {u = u} {v = v} a p) = Along (subst (λ ps. Contains ps u) (same v) a) (path_same nodes more same p)

module _ (nodes : List NodeView) (agent : ℕ) (answers : List AnswerView) (tests : TestsDescent) where
  abbrev alone : List NodeView
  alone = one_agent nodes agent answers

  left : LeavesTo nodes alone agent answers
  left = leaves nodes agent answers

  -- no node becomes a utility
  no_utility : (x : ℕ) → not (is_utility (node_at nodes x).kind) ≡ true → (node_at alone x).kind ≢ Utility
  no_utility x h e = go (node_at nodes x).kind refl (ℕ_discrete (agent_of nodes x) agent)
    where
      chance_utility : Chance ≡ Utility → ⊥
      chance_utility f = cc

      decision_utility : Decision ≡ Utility → ⊥
      decision_utility f = cc

      chance_decision : Chance ≡ Decision → ⊥
      chance_decision f = cc

      kept : IsLeft (node_at nodes x) agent → (node_at nodes x).kind ≡ Utility
      kept l = sym (ap (λ m. m.kind) (left.own x l)) ∙ e

      go : (k : Kind) → (node_at nodes x).kind ≡ k → Dec (agent_of nodes x ≡ agent) → ⊥
      go Chance f o = chance_utility (sym f ∙ kept (λ g. absurd (chance_decision (sym f ∙ g))))
      go Decision f (yes o) = decision_utility (sym f ∙ kept (λ g. o))
      go Decision f (no n) = chance_utility (sym (ap (λ m. m.kind) (left.fixed x f n)) ∙ e)
      go Utility f o = not_both (is_utility (node_at nodes x).kind) h (ap is_utility f)

  -- nothing below the decision is asked about
  above : (d x : ℕ) → not (x == d) ≡ true → not (descends nodes d x) ≡ true → IsPath (Arc alone) d x → ⊥
  above d x differ off p = go (path_cases nodes (path_same nodes alone (others.parents_at nodes alone agent answers left) p))
    where
      go : (x ≡ d) ⊎ Descends (Arc nodes) d x → ⊥
      go (inl e) = not_both (x == d) differ (eqb_yes x d e)
      go (inr q) = not_both (descends nodes d x) off ((tests nodes d x).1 q)

  same : (a b : ℕ) → (a == b) ≡ true → a ≡ b
  same a b e = search rules

  module _ (d : ℕ) (within : d < length nodes) (own : IsTrue (decides nodes agent d)) where
    both : (is_decision (node_at nodes d).kind ≡ true) × ((agent_of nodes d == agent) ≡ true)
    both = and_both (is_decision (node_at nodes d).kind) (agent_of nodes d == agent) own

    decision : IsDecision alone d
    decision = decision_there nodes alone agent answers left d (record { within = within; kind = decision_kind (node_at nodes d).kind both.0 }) (same (agent_of nodes d) agent both.1)

    can_ask : (x : ℕ) → x < length nodes → IsTrue (may_see nodes d x) → CanAsk alone (x, d)
    can_ask x here seen =
        let kind = and_both (not (is_utility (node_at nodes x).kind)) (not (x == d) && not (descends nodes d x)) seen in
        let off = and_both (not (x == d)) (not (descends nodes d x)) kind.1 in
        record {
          decision = decision;
          within = subst (λ k. x < k) (sym left.len) here;
          no_utility = no_utility x kind.0;
          above = above d x off.0 off.1;
        }

    pub all_asked : CanAskAll nodes alone d
    all_asked = record { decision = decision; arcs = can_ask }
