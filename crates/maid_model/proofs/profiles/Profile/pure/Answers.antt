use Rattle.std.proofs.Common.{◌∙◌, ◌+◌, ◌++◌, ◌∷◌, [], map, refl, sym, subst, ap, arith}
use Rattle.maid_model.specs.Nodes.{decisions_of}
use Rattle.maid_model.specs.Profiles.{IsProfile, pure_rule}
use Rattle.maid_model.specs.Tables.{rule_total}
use Rattle.maid_model.proofs.Members.{decision_listed}
use Rattle.maid_model.proofs.Made.{MadeSoFar, made_step, made_skip, made_end, made_total}
use Rattle.maid_model.proofs.Pure.{pure_at, pure_is_profile}
use Rattle.maid_model.proofs.profiles.Profile.pure.Goals as goal
use Rattle.maid_model.proofs.profiles.Profile.pure.Goals.{in-Decision+in_ok-pure+in_ok-push, in_default}

-- at a decision its rule is added, and nothing at another node
pub loop-v-preserved : goal.loop-v-preserved
loop-v-preserved c =
    elim c.match-kind.branch [
      | in-Decision+in_ok-pure+in_ok-push w ↦
          subst (λ l. MadeSoFar c.args.diagram.now.nodes (pure_at c.args.diagram.now.nodes c.args.answers.now) l (c.loop-v.v + 1))
          (sym (ap (λ v. v.items) w.rules-is ∙ w.in_ok-push.ensures.items ∙ ap (λ r. c.loop-v.rules.items ++ r ∷ [])
          (w.in_ok-pure.ensures.choices ∙ ap (λ rows. pure_rule c.args.diagram.now.nodes c.loop-v.v (map (λ row. row.choice) rows)) w.rows_at.ensures)))
          (made_step c.args.diagram.now.nodes (pure_at c.args.diagram.now.nodes c.args.answers.now) c.loop-v.rules.items c.loop-v.v c.loop-v.invariant (omega arith) (sym w.in-Decision.ensures.kind))
      | in_default w ↦
          subst (λ l. MadeSoFar c.args.diagram.now.nodes (pure_at c.args.diagram.now.nodes c.args.answers.now) l (c.loop-v.v + 1)) (sym (ap (λ v. v.items) w.rules-is))
          (made_skip c.args.diagram.now.nodes (pure_at c.args.diagram.now.nodes c.args.answers.now) c.loop-v.rules.items c.loop-v.v c.loop-v.invariant (omega arith) (λ e. w.in_default.not-Decision (c.kind.ensures.kind ∙ e)))
    ]

pub returns-clause-profile : goal.returns-clause-profile
returns-clause-profile c fits =
    subst (IsProfile c.args.diagram.now.nodes) (sym (c.from_rules.ensures ∙ made_end c.args.diagram.now.nodes (pure_at c.args.diagram.now.nodes c.args.answers.now) c.loop-v.rules.items c.loop-v.v c.loop-v.invariant (omega arith)))
    (pure_is_profile c.args.diagram.now.nodes c.args.answers.now fits)

pub returns-clause-total : goal.returns-clause-total
returns-clause-total c v d =
    ap (λ p. rule_total p v) (c.from_rules.ensures ∙ made_end c.args.diagram.now.nodes (pure_at c.args.diagram.now.nodes c.args.answers.now) c.loop-v.rules.items c.loop-v.v c.loop-v.invariant (omega arith))
    ∙ made_total (pure_at c.args.diagram.now.nodes c.args.answers.now) (λ u. refl) (decisions_of c.args.diagram.now.nodes) v (decision_listed c.args.diagram.now.nodes v d)
