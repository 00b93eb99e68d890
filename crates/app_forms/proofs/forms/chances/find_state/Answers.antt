use Rattle.std.proofs.Common.{◌∙◌, ◌++◌, ap, codes, subst, sym}
use Rattle.maid_model.specs.Names.{IsFirstPlace, labels_of}
use Rattle.maid_model.specs.Reports.{line}
use Rattle.app_forms.specs.Chances.{HasChanceNode, IsChanceNode}
use Rattle.app_forms.specs.Reading.{found_by}
use Rattle.app_forms.specs.Stages.{name_stages}
use Rattle.app_forms.specs.declared.status.Status.TheVariants.{UnknownNode, UnknownState}
use Rattle.app_forms.proofs.OnePlace.{unknown_node_found, unknown_state_found}
use Rattle.app_forms.proofs.Refusals.{told_gives}
use Rattle.app_forms.proofs.forms.chances.find_state.Goals as goal

-- no chance node has the name
pub returns-in_default-clause-err : goal.returns-in_default-clause-err
returns-in_default-clause-err c =
    let d = c.args.diagram.now in
    let names = c.args.names.now in
    let node = c.args.node.now in
    let state = c.args.state.now in
    let as_bytes = c.as_bytes.ensures.value in
    told_gives (found_by d names (name_stages node state)) UnknownNode (line (codes "unknown chance node: " ++ c.as_bytes-in_default.result.now)) c.told.result c.told-in_default.result
    (λ told e. unknown_node_found d names node state told (subst (λ name. HasChanceNode d names name → ⊥) as_bytes c.in_default.ensures.none) (e ∙ ap (λ name. line (codes "unknown chance node: " ++ name)) c.as_bytes-in_default.ensures.value))
    c.told.ensures
    c.told-in_default.ensures

-- or no state of it has the label
pub returns-in-None-clause-err : goal.returns-in-None-clause-err
returns-in-None-clause-err c =
    let d = c.args.diagram.now in
    let names = c.args.names.now in
    let node = c.args.node.now in
    let state = c.args.state.now in
    let is : IsChanceNode d names node c.in-Some.x = subst (λ name. IsChanceNode d names name c.in-Some.x) c.as_bytes.ensures.value c.in-Some.ensures.some in
    told_gives (found_by d names (name_stages node state)) UnknownState (line (codes "unknown state: " ++ c.as_bytes-in-None.result.now)) c.told-in-None.result c.told-in-None-2.result
    (λ told e. unknown_state_found d names node state told c.in-Some.x is (λ s first. c.in-None.ensures.none s (subst (λ label. IsFirstPlace (labels_of names c.in-Some.x) label s) (sym c.as_bytes-2.ensures.value) first)) (e ∙ ap (λ label. line (codes "unknown state: " ++ label)) c.as_bytes-in-None.ensures.value))
    c.told-in-None.ensures
    c.told-in-None-2.ensures
