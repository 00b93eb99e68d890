-- The diagram in which the agent decides at a chance node too, and what is found where the first
-- reasons don't apply.
use Rattle.std.proofs.Common.{◌≡◌, ◌≢◌, ◌∙◌, ◌⊎◌, ◌↔◌, ℕ, ◌<◌, Bool, true, ◌&&◌, ◌==◌, List, ◌∷◌, length, refl, sym, ap, subst, inl, inr}
use Rattle.std.proofs.Math.Decide.{ℕ_discrete}
use Rattle.std.proofs.Math.Path.{fun_ext}
use Rattle.std.specs.declared.alloc.AllocError.{AllocError}
use Rattle.std.specs.List.{list_any}
use Rattle.std.specs.Prelude.{Contains, None, Result, Ok, Err, IfOk}
use Rattle.arc_laws.proofs.Alone.{leaves}
use Rattle.arc_laws.proofs.ControlLaws.{chance_within}
use Rattle.arc_laws.proofs.InControl as control
use Rattle.arc_laws.proofs.InControl.{Controls, controls}
use Rattle.first_fault.specs.Outcomes.{◌▸▸◌, gives}
use Rattle.first_fault.specs.Passes.{Pass, ◌▸◌}
use Rattle.maid_laws.proofs.Rearranged.{numbered}
use Rattle.finite_sums.proofs.Lists.{among_filter}
use Rattle.finite_sums.specs.Members.{Among}
use Rattle.maid_model.specs.declared.answers.Ratio.{Ratio}
use Rattle.maid_model.specs.declared.diagrams.Kind.{Kind}
use Rattle.maid_model.specs.declared.diagrams.Kind.TheVariants.{Chance, Decision, Utility}
use Rattle.maid_model.specs.Edits.{as_decision, one_agent}
use Rattle.maid_model.specs.Graph.{Descends}
use Rattle.maid_model.specs.Nodes.{IsDecision, Owns, agent_of, is_chance, is_utility, node_at, numbers_of, owners_of, parents_of, states_of}
use Rattle.maid_model.specs.Subgames.{OwnsAll}
use Rattle.maid_model.specs.Views.{NodeView, AnswerView}
use Rattle.optimum_gap.specs.declared.found.Found.{Found}
use Rattle.optimum_gap.specs.Found.{Reason, found_of, unless}
use Rattle.size_precheck.specs.Kept.{KeepsPlans}
use Rattle.control_incentive.specs.Lines.{chance_nodes}

pub owns_made : (nodes : List NodeView) (agent x : ℕ) → (node_at nodes x).kind ≡ Chance → OwnsAll nodes agent → OwnsAll (as_decision nodes agent x) agent
owns_made nodes agent x k owns = control.owns_there nodes (as_decision nodes agent x) agent x (controls nodes agent x (chance_within nodes x k)) k owns

-- all that plans look at stays
pub plans_kept : (nodes : List NodeView) (agent x : ℕ) → (node_at nodes x).kind ≡ Chance → KeepsPlans nodes (as_decision nodes agent x)
plans_kept nodes agent x k = record {
  count = r.len;
  states = λ v. control.states_at nodes made agent x r k v;
  parents = λ v. control.parents_at nodes made agent x r k v;
  utility = test_kept (λ n. is_utility n.kind) (ap (λ n. is_utility n.kind) r.at ∙ ap is_utility (sym k));
  owned = λ other. test_kept (λ n. is_utility n.kind && list_any (λ a. a == other) (n.owner ∷ n.more))
      (ap (λ n. is_utility n.kind && list_any (λ a. a == other) (n.owner ∷ n.more)) r.at ∙ (λ i. is_utility (sym k i) && list_any (λ a. a == other) ((node_at nodes x).owner ∷ (node_at nodes x).more)));
  decision = λ d is. control.decision_there nodes made agent x r k d is;
  agent = λ d is. ap (λ n. n.owner) (r.else d (control.decision_not_x nodes made agent x r k d is));
}
  where
    made : List NodeView
    made = as_decision nodes agent x

    r : Controls nodes made agent x
    r = controls nodes agent x (chance_within nodes x k)

    test_kept : (f : NodeView → Bool) → f (node_at made x) ≡ f (node_at nodes x) → (v : ℕ) → f (node_at made v) ≡ f (node_at nodes v)
    test_kept f same v = go (ℕ_discrete v x)
      where
        go : Dec (v ≡ x) → f (node_at made v) ≡ f (node_at nodes v)
        go (yes e) = ap (λ u. f (node_at made u)) e ∙ same ∙ ap (λ u. f (node_at nodes u)) (sym e)
        go (no n) = ap f (r.else v n)

-- a chance node stays one where only the agent decides
pub chance_there : (nodes : List NodeView) (agent : ℕ) (answers : List AnswerView) (x : ℕ) → (node_at nodes x).kind ≡ Chance → (node_at (one_agent nodes agent answers) x).kind ≡ Chance
chance_there nodes agent answers x k = ap (λ m. m.kind) ((leaves nodes agent answers).own x (λ e. absurd (no_decision (sym k ∙ e)))) ∙ k
  where
    no_decision : Chance ≡ Decision → ⊥
    no_decision e = cc

pub listed_chance : (nodes : List NodeView) (x : ℕ) → Among x (chance_nodes nodes) → (x < length nodes) × ((node_at nodes x).kind ≡ Chance)
listed_chance nodes x m = let r = among_filter (λ v. is_chance (node_at nodes v).kind) x (numbers_of nodes) m in (numbered nodes x r.0, kind (node_at nodes x).kind r.1)
  where
    kind : (k : Kind) → is_chance k ≡ true → k ≡ Chance
    kind Chance e = refl
    kind Decision e = cc
    kind Utility e = cc

-- behind a pass that finds nothing
pub behind : (P Q : Pass Reason) (R : Ratio → Type 0) (r : Result Found AllocError) → P None → IfOk r (λ f. (Q ▸▸ gives R) (found_of f)) → IfOk r (λ f. ((P ▸ Q) ▸▸ gives R) (found_of f))
behind P Q R (Ok f) p h = go (found_of f) h
  where
    go : (x : Result Ratio Reason) → (Q ▸▸ gives R) x → ((P ▸ Q) ▸▸ gives R) x
    go (Ok v) k = ((p, k.0), k.1)
    go (Err reason) (inl k) = inl (inr (p, k))
    go (Err reason) (inr k) = absurd k.1
behind P Q R (Err e) p h = tt

-- the same need in other words
pub needed : (A B : Type 0) (reason : Reason) (P : Pass Reason) (Q R : Ratio → Type 0) (x : Result Ratio Reason) → A ↔ B → ((r : Ratio) → Q r → R r) → ((unless A reason ▸ P) ▸▸ gives Q) x → ((unless B reason ▸ P) ▸▸ gives R) x
needed A B reason P Q R (Ok r) same f h = ((same.0 h.0.0, h.0.1), f r h.1)
needed A B reason P Q R (Err e) same f (inl (inl h)) = inl (inl ((λ b. h.0 (same.1 b)), h.1))
needed A B reason P Q R (Err e) same f (inl (inr h)) = inl (inr (same.0 h.0, h.1))
needed A B reason P Q R (Err e) same f (inr h) = absurd h.1
