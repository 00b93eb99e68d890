use Rattle.std.proofs.Common.{◌≡◌, ◌∙◌, ◌<◌, ◌≤◌, ◌∷◌, [], ◌++◌, length, sym, ap, subst, rules, FitsSigned}
use Rattle.std.proofs.lemmas.Int.{to_z-of_z}
use Rattle.std.specs.Int.{w128}
use Rattle.maid_model.specs.declared.limits.TheConstants.{MOST_PROFILES}
use Rattle.maid_model.specs.Nodes.{decisions_of}
use Rattle.maid_model.specs.Views.{DiagramView}
use Rattle.maid_model.specs.Worlds.{IsWorld, worlds}
use Rattle.tree_checker.specs.AgentSums.{IsAgentSum}
use Rattle.pure_search.specs.Games.{choice_lists, key_from, key_of, part_gain}
use Rattle.pure_search.proofs.Marking.{owners_counted}
use Rattle.pure_search.proofs.Tabled.{one_key}
use Rattle.pure_search.proofs.UnderChoices.{gain_is_under, room_under}
use Rattle.pure_search.proofs.tables.add_row.Goals as goal

pub key_of-key-requires-clause-choices : goal.key_of-key-requires-clause-choices
key_of-key-requires-clause-choices c = subst (λ l. IsWorld l c.args.choices.now) (sym (c.deref.ensures.value ∙ c.requires.game.counts_are)) c.requires.choices

pub key_of-key-requires-clause-owners : goal.key_of-key-requires-clause-owners
key_of-key-requires-clause-owners c =
    ap length (c.deref-2.ensures.value ∙ c.requires.game.owners_are) ∙ owners_counted c.args.diagram.now.nodes (decisions_of c.args.diagram.now.nodes) ∙ sym (ap length (c.deref.ensures.value ∙ c.requires.game.counts_are))

pub key_of-key-requires-clause-few : goal.key_of-key-requires-clause-few
key_of-key-requires-clause-few c = subst (λ l. length (worlds l) ≤ MOST_PROFILES) (sym (c.deref.ensures.value ∙ c.requires.game.counts_are)) c.requires.bound.few

pub gain-gain-requires-clause-sum : goal.gain-gain-requires-clause-sum
gain-gain-requires-clause-sum c = subst (λ (d : DiagramView). IsAgentSum d.nodes c.args.sum.now) (sym c.requires.part) c.requires.sum.ready

pub gain-gain-requires-clause-fits : goal.gain-gain-requires-clause-fits
gain-gain-requires-clause-fits c =
    room_under c.args.diagram.now c.args.agent c.args.choices.now c.args.part.now.diagram c.args.part.now.nodes.items c.args.sum.now c.count-count.ensures.diagram c.requires.bound.bound c.requires.agent
    c.requires.choices c.requires.part c.requires.nodes c.requires.sum

pub returns-clause-row : goal.returns-clause-row
returns-clause-row c =
    let nodes = c.args.diagram.now.nodes in
    let counts = c.deref.ensures.value ∙ c.requires.game.counts_are in
    let owners = c.deref-2.ensures.value ∙ c.requires.game.owners_are in
    let key : c.key_of-key.result ≡ key_of nodes c.args.agent c.args.choices.now = c.key_of-key.ensures.key ∙ (λ i. key_from c.args.agent 0 (counts i) (owners i) c.args.choices.now) in
    let within : c.key_of-key.result < length (choice_lists nodes) = subst (λ l. c.key_of-key.result < length (worlds l)) counts c.key_of-key.ensures.within in
    let fits : FitsSigned w128 c.gain-gain.result = search rules in
    let gain : c.gain-gain.result ≡ part_gain nodes c.args.agent c.args.choices.now =
    c.gain-gain.ensures.gain
    ∙ gain_is_under c.args.diagram.now c.args.agent c.args.choices.now c.args.part.now.diagram c.args.part.now.nodes.items c.args.sum.now c.count-count.ensures.diagram c.requires.bound.bound c.requires.agent
    c.requires.choices c.requires.part c.requires.nodes c.requires.sum in
    let gains : c.push-2.new.self.items ≡ c.args.table.now.gains.items ++ part_gain nodes c.args.agent c.args.choices.now ∷ [] =
    c.in_ok-push-2.ensures.items ∙ ap (λ z. c.args.table.now.gains.items ++ z ∷ []) (to_z-of_z w128 c.gain-gain.result fits ∙ gain) in
    record {
      keys_are = c.in_ok-push.ensures.items ∙ ap (λ k. c.args.table.now.keys.items ++ k ∷ []) key;
      gains_are = gains;
      within = one_key (length (choice_lists nodes)) (key_of nodes c.args.agent c.args.choices.now) (subst (λ k. k < length (choice_lists nodes)) key within);
    }

pub returns-in_err-push-clause-sum : goal.returns-in_err-push-clause-sum
returns-in_err-push-clause-sum c = c.gain-gain.ensures.again

pub returns-in_err-push-2-clause-sum : goal.returns-in_err-push-2-clause-sum
returns-in_err-push-2-clause-sum c = c.gain-gain.ensures.again

pub returns-clause-sum : goal.returns-clause-sum
returns-clause-sum c = c.gain-gain.ensures.again
