use Rattle.std.proofs.Common.{ap, subst, set}
use Rattle.maid_model.specs.Private.{IsFirstAt}
use Rattle.maid_model.specs.Profiles.{Replaces}
use Rattle.maid_model.specs.Views.{RuleView}
use Rattle.maid_model.proofs.Found.{written, profile_put}
use Rattle.maid_model.proofs.profiles.Profile.put.Goals as goal

-- the written list has the new rule where the old one was found
replaced : (c : goal.After-drop-index_mut) → Replaces c.args.self.now (set c.self.inside.rules.items c.place_of-place.result c.args.rule) c.args.rule
replaced c =
    written c.args.self.now c.self.inside.rules.items c.place_of-place.result c.args.rule c.self.view_is
    (subst (λ l. IsFirstAt l c.args.rule.decision c.place_of-place.result) c.deref.ensures.value (subst (λ d. IsFirstAt c.deref.result.now d c.place_of-place.result) (ap (λ (x : RuleView). x.decision) c.rule.view_is) c.place_of-place.ensures))

pub returns-clause-replaced : goal.returns-clause-replaced
returns-clause-replaced c = replaced c

pub returns-clause-profile : goal.returns-clause-profile
returns-clause-profile c = λ nodes is rule. profile_put nodes c.args.self.now (set c.self.inside.rules.items c.place_of-place.result c.args.rule) c.args.rule (replaced c) is rule
