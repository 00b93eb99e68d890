use Rattle.std.proofs.Common.{◌∙◌, ◌+◌, ◌++◌, ◌∷◌, [], refl, sym, subst, ap, arith}
use Rattle.maid_model.specs.Nodes.{decisions_of}
use Rattle.maid_model.specs.Profiles.{IsProfile, uniform_rule}
use Rattle.maid_model.specs.Tables.{rule_total}
use Rattle.maid_model.proofs.Members.{decision_listed}
use Rattle.maid_model.proofs.Made.{MadeSoFar, made_step, made_skip, made_end, made_total}
use Rattle.maid_model.proofs.Uniform.{uniform_is_profile}
use Rattle.maid_model.proofs.profiles.Profile.uniform.Goals as goal
use Rattle.maid_model.proofs.profiles.Profile.uniform.Goals.{in-Decision+in_ok-uniform+in_ok-push, in_default}

-- at a decision its uniform rule is added, and nothing at another node
pub loop-v-preserved : goal.loop-v-preserved
loop-v-preserved c =
    elim c.match-kind.branch [
      | in-Decision+in_ok-uniform+in_ok-push w ↦
          subst (λ l. MadeSoFar c.args.diagram.now.nodes (uniform_rule c.args.diagram.now.nodes) l (c.loop-v.v + 1))
          (sym (ap (λ v. v.items) w.rules-is ∙ w.in_ok-push.ensures.items ∙ ap (λ r. c.loop-v.rules.items ++ r ∷ []) w.in_ok-uniform.ensures))
          (made_step c.args.diagram.now.nodes (uniform_rule c.args.diagram.now.nodes) c.loop-v.rules.items c.loop-v.v c.loop-v.invariant (omega arith) (sym w.in-Decision.ensures.kind))
      | in_default w ↦
          subst (λ l. MadeSoFar c.args.diagram.now.nodes (uniform_rule c.args.diagram.now.nodes) l (c.loop-v.v + 1)) (sym (ap (λ v. v.items) w.rules-is))
          (made_skip c.args.diagram.now.nodes (uniform_rule c.args.diagram.now.nodes) c.loop-v.rules.items c.loop-v.v c.loop-v.invariant (omega arith) (λ e. w.in_default.not-Decision (c.kind.ensures.kind ∙ e)))
    ]

pub returns-clause-profile : goal.returns-clause-profile
returns-clause-profile c =
    subst (IsProfile c.args.diagram.now.nodes) (sym (made_end c.args.diagram.now.nodes (uniform_rule c.args.diagram.now.nodes) c.loop-v.rules.items c.loop-v.v c.loop-v.invariant (omega arith)))
    (uniform_is_profile c.args.diagram.now.nodes c.count-v-end.ensures.diagram.graph)

pub returns-clause-total : goal.returns-clause-total
returns-clause-total c v d =
    ap (λ p. rule_total p v) (made_end c.args.diagram.now.nodes (uniform_rule c.args.diagram.now.nodes) c.loop-v.rules.items c.loop-v.v c.loop-v.invariant (omega arith))
    ∙ made_total (uniform_rule c.args.diagram.now.nodes) (λ u. refl) (decisions_of c.args.diagram.now.nodes) v (decision_listed c.args.diagram.now.nodes v d)
