-- A name's row is the first of those still to come.
use Rattle.std.proofs.lemmas.List.{length-map, take_all}
use borrow.Author.Count.{falls}
use Rattle.std.specs.Global.{Vec}
use Rattle.net_build.proofs.OutOfMemory.{out_of_memory}
use Rattle.std.proofs.lemmas.Result.{IfOk-from_err}
use Rattle.std.proofs.Common.{[], ap, sym, ◌∙◌, ℕ, map, refl, arith}
use Rattle.maid_model.specs.Names.{list_of}
use Rattle.first_fault.specs.Passes.{each_after}
use Rattle.net_build.specs.Blocks.{with_sight, with_sights, place_among}
use Rattle.net_build.specs.Table.{sight_row}
use Rattle.first_fault.proofs.HandedOn.{hands_on}
use Rattle.net_build.specs.Passes.{build_fault}
use Rattle.net_build.proofs.LinkLemmas.{behind_on, behind_refused, behind_end}
use Rattle.net_build.proofs.OwnerLemmas.{name_item, names_within, numbers_step, sights_step}
use Rattle.net_build.proofs.owners.number_owners.Goals as goal

pub returns-in_err-number_agent-clause-rows : goal.returns-in_err-number_agent-clause-rows
returns-in_err-number_agent-clause-rows c =
    let row = sight_row (list_of c.args.agents.now.items) c.args.at in
    let names = list_of c.args.names.now in
    hands_on build_fault (each_after row [] names) _ _ c.from_residual.ensures
    (behind_refused row names (each_after row [] names) c.loop-name.name-index c.name-item.result.items _ (names_within c.args.names.now c.loop-name.name-index c.loop-name-test.true)
    (name_item c.args.names.now c.loop-name.name-index c.name-item.result c.loop-name-test.true c.name-item.is) c.loop-name.invariant.lead
    (rw (c.deref.ensures.value, c.loop-name.invariant.agents) at c.in_err-number_agent.ensures.rows))

pub loop-name-preserved : goal.loop-name-preserved
loop-name-preserved c =
    let old = list_of c.args.agents.now.items in
    let names = list_of c.args.names.now in
    let i = c.loop-name.name-index in
    let x = c.name-item.result.items in
    let within = names_within c.args.names.now i c.loop-name-test.true in
    let is = name_item c.args.names.now i c.name-item.result c.loop-name-test.true c.name-item.is in
    let so_far = c.loop-name.invariant.agents in
    let seen = rw c.deref.ensures.value at c.in_ok-number_agent.ensures.agents in
    record {
      agents = seen ∙ ap (λ s. with_sight s x) so_far ∙ sym (sights_step old names i x within is);
      numbers = numbers_step old names (list_of c.loop-name.agents.items) _ c.loop-name.numbers.items _ c.in_ok-number_agent.field-0 i x within is so_far seen c.loop-name.invariant.numbers c.in_ok-push.ensures.items (rw c.deref.ensures.value at c.in_ok-number_agent.ensures.place);
      lead = behind_on (sight_row old c.args.at) names _ i x within is c.loop-name.invariant.lead (rw (c.deref.ensures.value, so_far) at c.in_ok-number_agent.ensures.rows);
    }

pub loop-name-init : goal.loop-name-init
loop-name-init c = record { agents = refl; numbers = c.new-numbers.ensures.items; lead = λ outcome h. h }

pub bounds-names-name-index : goal.bounds-names-name-index
bounds-names-name-index c = c.loop-name-test.true

pub number_agent-requires : goal.number_agent-requires
number_agent-requires c = tt

pub returns-in_err-number_agent-clause-agents : goal.returns-in_err-number_agent-clause-agents
returns-in_err-number_agent-clause-agents c = IfOk-from_err _ _ c.from_residual.ensures.0

pub returns-in_err-number_agent-clause-numbers : goal.returns-in_err-number_agent-clause-numbers
returns-in_err-number_agent-clause-numbers c = IfOk-from_err _ _ c.from_residual.ensures.0

pub returns-in_err-push-clause-rows : goal.returns-in_err-push-clause-rows
returns-in_err-push-clause-rows c = out_of_memory (each_after (sight_row (list_of c.args.agents.now.items) c.args.at) [] (list_of c.args.names.now)) _ c.from_residual-in_err-push.ensures

pub returns-in_err-push-clause-agents : goal.returns-in_err-push-clause-agents
returns-in_err-push-clause-agents c = IfOk-from_err _ _ c.from_residual-in_err-push.ensures.0

pub returns-in_err-push-clause-numbers : goal.returns-in_err-push-clause-numbers
returns-in_err-push-clause-numbers c = IfOk-from_err _ _ c.from_residual-in_err-push.ensures.0

pub loop-name-smaller : goal.loop-name-smaller
loop-name-smaller c = falls _ _ c.loop-name-test.true

pub returns-clause-rows : goal.returns-clause-rows
returns-clause-rows c = behind_end (sight_row (list_of c.args.agents.now.items) c.args.at) (list_of c.args.names.now) _ c.loop-name.name-index (omega (arith, length-map c.args.names.now (λ (v : Vec ℕ). v.items), c.loop-name-test.false)) c.loop-name.invariant.lead

pub returns-clause-agents : goal.returns-clause-agents
returns-clause-agents c = c.loop-name.invariant.agents ∙ ap (with_sights (list_of c.args.agents.now.items)) (take_all c.loop-name.name-index (list_of c.args.names.now) (omega (arith, length-map c.args.names.now (λ (v : Vec ℕ). v.items), c.loop-name-test.false)))

pub returns-clause-numbers : goal.returns-clause-numbers
returns-clause-numbers c = c.loop-name.invariant.numbers ∙ ap (map (place_among (list_of c.loop-name.agents.items))) (take_all c.loop-name.name-index (list_of c.args.names.now) (omega (arith, length-map c.args.names.now (λ (v : Vec ℕ). v.items), c.loop-name-test.false)))
