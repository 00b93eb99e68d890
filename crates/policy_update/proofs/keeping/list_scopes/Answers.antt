-- One scope more.
use Rattle.std.proofs.Common.{◌∙◌, ℕ, ◌+◌, ◌++◌, ◌∷◌, [], List, get_or, take, sym, subst}
use Rattle.std.specs.List.{AllZip}
use Rattle.std.proofs.lemmas.List.{take_all, take_more}
use Rattle.std.proofs.lemmas.Slice.Zip.{all_zipped_more}
use Rattle.node_sets.specs.declared.sets.NodeSet.{NodeSet}
use Rattle.policy_update.specs.Kept.{IsScopeOf}
use Rattle.policy_update.proofs.Owners.{decision_at}
use Rattle.policy_update.proofs.keeping.list_scopes.Goals as goal

pub decision_scope-requires : goal.decision_scope-requires
decision_scope-requires c = decision_at c.args.diagram.now.nodes c.args.decisions.now c.loop-decision.decision-index c.requires c.loop-decision-test.true

pub loop-decision-preserved : goal.loop-decision-preserved
loop-decision-preserved c =
    let nodes = c.args.diagram.now.nodes in
    let decisions = c.args.decisions.now in
    let k = c.loop-decision.decision-index in
    subst (λ (l : List NodeSet). AllZip (IsScopeOf nodes) (take (k + 1) decisions) l) (sym c.in_ok-push.ensures.items)
    (subst (λ (l : List ℕ). AllZip (IsScopeOf nodes) l (c.loop-decision.scopes.items ++ c.decision_scope.result ∷ [])) (sym (take_more decisions k 0 c.loop-decision-test.true))
    (all_zipped_more (IsScopeOf nodes) (take k decisions) c.loop-decision.scopes.items (get_or decisions k 0) c.decision_scope.result c.loop-decision.invariant c.decision_scope.ensures))

pub returns : goal.returns
returns c =
    let nodes = c.args.diagram.now.nodes in
    subst (λ (l : List ℕ). AllZip (IsScopeOf nodes) l c.loop-decision.scopes.items) (take_all c.loop-decision.decision-index c.args.decisions.now c.loop-decision-test.false ∙ c.requires) c.loop-decision.invariant
