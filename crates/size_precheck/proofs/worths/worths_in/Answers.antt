use Rattle.std.proofs.Common.{Vec, ◌∙◌, ◌+◌, filter, map, ap, inl, inr, sym, subst}
use Rattle.std.specs.Global.{Global}
use Rattle.std.specs.List.{AllZip, range_with_len}
use Rattle.maid_model.specs.Nodes.{node_at, is_utility}
use Rattle.plan_sums.specs.Plans.{worth_plan}
use Rattle.size_precheck.specs.declared.plans.Plan.{Plan}
use Rattle.size_precheck.specs.Sizes.{IsPlanned}
use Rattle.size_precheck.proofs.Kept.{zip_failed, zip_passed}
use Rattle.size_precheck.proofs.worths.worths_in.Goals as goal
use Rattle.size_precheck.proofs.worths.worths_in.Goals.{in-Utility+in_ok-worth_in-in-Utility+in_ok-push-in-Utility, in-Chance}

pub loop-u-preserved : goal.loop-u-preserved
loop-u-preserved c =
    let nodes = c.args.diagram.now.nodes in
    let u = c.loop-u.u in
    let before = c.loop-u.plans.items in
    elim c.match-kind.branch [
      | in-Utility+in_ok-worth_in-in-Utility+in_ok-push-in-Utility w ↦
          subst (AllZip (IsPlanned nodes) (map (λ x. worth_plan x) (filter (λ x. is_utility (node_at nodes x).kind) (range_with_len 0 (u + 1))))) (sym (ap (λ (v : Vec Plan Global). v.items) w.plans-is ∙ w.in_ok-push-in-Utility.ensures.items))
          (zip_passed (IsPlanned nodes) (λ x. is_utility (node_at nodes x).kind) (λ x. worth_plan x) u before w.in_ok-worth_in-in-Utility.field-0 (ap is_utility (sym c.kind.ensures.kind ∙ w.in-Utility.is)) c.loop-u.invariant
          (record { asked = w.in_ok-worth_in-in-Utility.ensures.asked; made = w.in_ok-worth_in-in-Utility.ensures.made }))
      | in-Chance w ↦
          subst (AllZip (IsPlanned nodes) (map (λ x. worth_plan x) (filter (λ x. is_utility (node_at nodes x).kind) (range_with_len 0 (u + 1))))) (sym (ap (λ (v : Vec Plan Global). v.items) w.plans-is))
          (zip_failed (IsPlanned nodes) (λ x. is_utility (node_at nodes x).kind) (λ x. worth_plan x) u before
          (elim w.in-Chance.is [ inl e ↦ ap is_utility (sym c.kind.ensures.kind ∙ e) | inr e ↦ ap is_utility (sym c.kind.ensures.kind ∙ e) ]) c.loop-u.invariant)
    ]
