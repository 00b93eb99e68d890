-- A name's rows are the first of those still to come.
use Rattle.std.proofs.Common.{get_or, ap, map, ◌∙◌}
use borrow.Author.Count.{falls}
use Rattle.std.proofs.lemmas.List.{get_or_default, take_all}
use Rattle.std.proofs.lemmas.List.Elements.{All-take}
use Rattle.std.proofs.lemmas.Result.{IfOk-from_err}
use Rattle.net_lexer.specs.Token.{IsTokenOf}
use Rattle.net_build.specs.Blocks.{no_token}
use Rattle.net_build.specs.Linking.{node_named, condition_steps, conditions_steps}
use Rattle.first_fault.proofs.HandedOn.{hands_on}
use Rattle.net_build.specs.Passes.{build_fault}
use Rattle.net_build.proofs.LinkLemmas.{behind_on, behind_refused, behind_end, map_more}
use Rattle.net_build.proofs.OutOfMemory.{out_of_memory}
use Rattle.net_build.proofs.conditions.read_conditions.Goals as goal

pub returns-in_err-read_condition-clause-rows : goal.returns-in_err-read_condition-clause-rows
returns-in_err-read_condition-clause-rows c =
    hands_on build_fault (conditions_steps c.args.text.now c.args.names.now c.args.heads.now c.args.conditions.now) _ _ c.from_residual.ensures
    (behind_refused (condition_steps c.args.text.now c.args.names.now c.args.heads.now) c.args.conditions.now _ c.loop-place.place (get_or c.args.conditions.now c.loop-place.place no_token) _ c.loop-place-test.true (get_or_default _ _ _ _ c.loop-place-test.true) c.loop-place.invariant.lead c.in_err-read_condition.ensures.rows)

pub loop-place-preserved : goal.loop-place-preserved
loop-place-preserved c = record {
  nodes = map_more (node_named c.args.text.now c.args.names.now) c.args.conditions.now _ _ c.loop-place.place (get_or c.args.conditions.now c.loop-place.place no_token) _ c.loop-place-test.true (get_or_default _ _ _ _ c.loop-place-test.true) c.in_ok-read_condition.ensures.node c.loop-place.invariant.nodes c.in_ok-push.ensures.items;
  lead = behind_on (condition_steps c.args.text.now c.args.names.now c.args.heads.now) c.args.conditions.now _ c.loop-place.place (get_or c.args.conditions.now c.loop-place.place no_token) c.loop-place-test.true (get_or_default _ _ _ _ c.loop-place-test.true) c.loop-place.invariant.lead c.in_ok-read_condition.ensures.rows;
}

pub returns-clause-nodes : goal.returns-clause-nodes
returns-clause-nodes c = c.loop-place.invariant.nodes ∙ ap (map (node_named c.args.text.now c.args.names.now)) (take_all c.loop-place.place c.args.conditions.now c.loop-place-test.false)

pub loop-place-init : goal.loop-place-init
loop-place-init c = record { nodes = c.new-list.ensures.items; lead = λ outcome h. h }

pub loop-place-smaller : goal.loop-place-smaller
loop-place-smaller c = falls _ _ c.loop-place-test.true

pub read_condition-requires-clause-heads : goal.read_condition-requires-clause-heads
read_condition-requires-clause-heads c = c.requires.heads

pub returns-in_err-read_condition-clause-nodes : goal.returns-in_err-read_condition-clause-nodes
returns-in_err-read_condition-clause-nodes c = IfOk-from_err _ _ c.from_residual.ensures.0

pub returns-in_err-push-clause-rows : goal.returns-in_err-push-clause-rows
returns-in_err-push-clause-rows c = out_of_memory (conditions_steps c.args.text.now c.args.names.now c.args.heads.now c.args.conditions.now) _ c.from_residual-in_err-push.ensures

pub returns-in_err-push-clause-nodes : goal.returns-in_err-push-clause-nodes
returns-in_err-push-clause-nodes c = IfOk-from_err _ _ c.from_residual-in_err-push.ensures.0

pub returns-clause-rows : goal.returns-clause-rows
returns-clause-rows c = behind_end (condition_steps c.args.text.now c.args.names.now c.args.heads.now) c.args.conditions.now _ c.loop-place.place c.loop-place-test.false c.loop-place.invariant.lead

pub read_condition-requires-clause-earlier : goal.read_condition-requires-clause-earlier
read_condition-requires-clause-earlier c = All-take (IsTokenOf c.args.text.now) c.loop-place.place c.args.conditions.now c.requires.conditions

pub read_condition-requires-clause-name : goal.read_condition-requires-clause-name
read_condition-requires-clause-name c = c.requires.conditions c.loop-place.place _ c.loop-place-test.true
