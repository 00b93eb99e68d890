use Rattle.std.proofs.Common.{◌≡◌, ◌↔◌, sym, subst, ap}
use Rattle.maid_model.specs.Nodes.{IsDecision}
use Rattle.maid_model.specs.Profiles.{IsRule, Replaces}
use Rattle.maid_model.specs.Views.{RuleView}
use Rattle.node_sets.specs.declared.sets.NodeSet.{NodeSet}
use Rattle.node_sets.specs.Sets.{IsIn}
use Rattle.rule_solver.proofs.BaseTurns.{mixed_back, plain_rule}
use Rattle.rule_solver.proofs.bases.TurningBase.hold_uniform.Goals as goal

pub put-requires : goal.put-requires
put-requires c =
    let nodes = c.args.diagram.now.nodes in
    let so = c.requires.turning in
    record {
      decision = subst (IsDecision nodes) (sym (ap (λ (r : RuleView). r.decision) c.in_ok-rule.ensures)) c.requires.decision;
      rule = subst (λ (r : RuleView). IsRule nodes r) (sym c.in_ok-rule.ensures) (plain_rule nodes c.args.answers.now c.args.self.now.held c.args.self.now.profile so.mixed c.args.decision c.requires.decision);
      profile = so.mixed.profile;
      totals = so.has_totals;
    }

pub returns-clause-turning : goal.returns-clause-turning
returns-clause-turning c =
    let base = c.args.self.now in
    record {
      mixed = mixed_back c.args.diagram.now.nodes c.args.answers.now base.held base.profile c.requires.turning.mixed c.args.decision c.put.new.self.profile c.remove.new.self c.requires.decision
          (subst (Replaces base.profile c.put.new.self.profile) c.in_ok-rule.ensures c.put.ensures.replaced) c.put.ensures.profile
          (λ x. subst (λ (s : NodeSet). IsIn c.remove.new.self x ↔ (IsIn s x × (x ≡ c.args.decision → ⊥))) c.put.ensures.held (c.remove.ensures x));
      has_totals = c.put.ensures.totals;
    }

pub returns-clause-holds : goal.returns-clause-holds
returns-clause-holds c e = subst (λ (s : NodeSet). IsIn c.remove.new.self e ↔ (IsIn s e × (e ≡ c.args.decision → ⊥))) c.put.ensures.held (c.remove.ensures e)
