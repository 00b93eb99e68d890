use Rattle.std.proofs.Common.{◌≡◌, ◌∙◌, ℕ, ◌+◌, List, [], ◌∷◌, ◌++◌, cond, filter, length, map, Vec, Global, refl, subst, sym, arith}
use Rattle.std.specs.List.{range_with_len}
use Rattle.std.proofs.lemmas.List.{append-nil}
use Rattle.std.proofs.lemmas.List.Elements.{All-push}
use Rattle.maid_model.specs.Nodes.{is_decision, node_at}
use Rattle.ring_sums.proofs.Same.{map_append}
use Rattle.size_precheck.specs.declared.keeping.KeptPlans.{KeptPlans}
use Rattle.size_precheck.specs.Kept.{IsKept}
use Rattle.size_precheck.proofs.Measuring.{passed_more}
use Rattle.size_precheck.proofs.keeping.keep_decisions.Invariants.{KeepsSoFar}
use Rattle.size_precheck.proofs.keeping.keep_decisions.Goals as goal
use Rattle.size_precheck.proofs.keeping.keep_decisions.Goals.{then-is_decision+in_ok-plans+in_ok-push, else-is_decision}

-- the plans of one node more, where it is a decision
pub loop-decision-preserved : goal.loop-decision-preserved
loop-decision-preserved c =
    let nodes = c.args.diagram.now.nodes in
    let v = c.loop-decision.decision in
    let so_far : KeepsSoFar nodes v c.loop-decision.kept.items = c.loop-decision.invariant in
    elim c.if-is_decision.branch [
      | then-is_decision+in_ok-plans+in_ok-push w ↦
          subst (λ (list : Vec KeptPlans Global). KeepsSoFar nodes (v + 1) list.items) (sym w.kept-is)
          (subst (KeepsSoFar nodes (v + 1)) (sym w.in_ok-push.ensures.items) (record {
            decisions = map_append (λ (k : KeptPlans). k.decision) c.loop-decision.kept.items _ ∙ (λ i. so_far.decisions i ++ cond ((sym w.if-is_decision.true ∙ c.is_decision.ensures.kind) i) (v ∷ []) []) ∙ sym (passed_more (λ u. is_decision (node_at nodes u).kind) v);
            all = All-push (IsKept nodes) c.loop-decision.kept.items _ so_far.all (record { decision = c.is_decision.ensures.decision.0 w.if-is_decision.true; plans = w.in_ok-plans.ensures });
          }))
      | else-is_decision w ↦
          subst (λ (list : Vec KeptPlans Global). KeepsSoFar nodes (v + 1) list.items) (sym w.kept-is) (record {
            decisions = sym (append-nil _) ∙ (λ i. so_far.decisions i ++ cond ((sym w.if-is_decision.false ∙ c.is_decision.ensures.kind) i) (v ∷ []) []) ∙ sym (passed_more (λ u. is_decision (node_at nodes u).kind) v);
            all = so_far.all;
          })
    ]

pub loop-decision-init : goal.loop-decision-init
loop-decision-init c = subst (KeepsSoFar c.args.diagram.now.nodes 0) (sym {A = List KeptPlans} c.new-kept.ensures.items) (record { decisions = refl; all = λ k d l. absurd (omega arith) })

pub plan_decision_in-requires-clause-decision : goal.plan_decision_in-requires-clause-decision
plan_decision_in-requires-clause-decision c = c.is_decision.ensures.decision.0 c.if-is_decision.true

pub returns-clause-decisions : goal.returns-clause-decisions
returns-clause-decisions c =
    let nodes = c.args.diagram.now.nodes in
    let end : c.loop-decision.decision ≡ length nodes = omega (arith, c.loop-decision-test.false, c.loop-decision.auto.decision-end, c.count-decision-end.ensures.count) in
    subst (λ (n : ℕ). map (λ (k : KeptPlans). k.decision) c.loop-decision.kept.items ≡ filter (λ v. is_decision (node_at nodes v).kind) (range_with_len 0 n)) end c.loop-decision.invariant.decisions

pub returns-clause-kept : goal.returns-clause-kept
returns-clause-kept c = c.loop-decision.invariant.all
