-- An agent was seen, or it is added at the end.
use Rattle.std.proofs.lemmas.List.{length-map}
use Rattle.std.specs.Global.{Vec}
use Rattle.net_build.specs.Table.{many_agents_row}
use Rattle.net_build.proofs.OutOfMemory.{out_of_memory}
use Rattle.std.proofs.lemmas.Result.{IfOk-from_err}
use Rattle.std.proofs.Common.{◌≡◌, length, Contains, sym, subst, arith, ℕ}
use Rattle.maid_model.specs.Names.{list_of}
use Rattle.net_build.specs.Blocks.{place_among, with_sight}
use Rattle.net_build.proofs.OwnerLemmas.{sight_old, sight_pushed, place_pushed, too_many}
use Rattle.net_build.proofs.owners.number_agent.Goals as goal

pub returns-in-Some-clause-agents : goal.returns-in-Some-clause-agents
returns-in-Some-clause-agents c = let seen = rw c.deref.ensures.value at c.in-Some.ensures in sight_old _ _ seen.0

pub returns-then-place-ge-MOST_AGENTS-clause-rows : goal.returns-then-place-ge-MOST_AGENTS-clause-rows
returns-then-place-ge-MOST_AGENTS-clause-rows c =
    let lacks = rw c.deref.ensures.value at c.in_default.ensures in
    too_many c.args.agents.now.items _ _ _ (omega (arith, c.args.agents.now.ok)) lacks c.at.ensures

pub returns-clause-agents : goal.returns-clause-agents
returns-clause-agents c =
    let lacks = rw c.deref.ensures.value at c.in_default.ensures in
    let are = c.in_ok-from_slice.ensures.items in
    let lacks_it = subst (λ a. Contains (list_of c.args.agents.now.items) a → ⊥) (sym are) lacks in
    subst (λ a. list_of c.push.new.self.items ≡ with_sight (list_of c.args.agents.now.items) a) are (sight_pushed c.args.agents.now.items _ c.in_ok-from_slice.field-0 lacks_it c.in_ok-push.ensures.items)

pub returns-clause-place : goal.returns-clause-place
returns-clause-place c =
    let lacks = rw c.deref.ensures.value at c.in_default.ensures in
    let are = c.in_ok-from_slice.ensures.items in
    let lacks_it = subst (λ a. Contains (list_of c.args.agents.now.items) a → ⊥) (sym are) lacks in
    let at_end = subst (λ a. length c.args.agents.now.items ≡ place_among (list_of c.push.new.self.items) a) are (place_pushed c.args.agents.now.items _ c.in_ok-from_slice.field-0 lacks_it c.in_ok-push.ensures.items) in
    omega (arith, c.args.agents.now.ok)

pub returns-in-Some-clause-rows : goal.returns-in-Some-clause-rows
returns-in-Some-clause-rows c = λ many. let seen = rw c.deref.ensures.value at c.in-Some.ensures in many.1 seen.0

pub returns-in-Some-clause-place : goal.returns-in-Some-clause-place
returns-in-Some-clause-place c = let seen = rw c.deref.ensures.value at c.in-Some.ensures in seen.1

pub returns-in_err-from_slice-clause-rows : goal.returns-in_err-from_slice-clause-rows
returns-in_err-from_slice-clause-rows c = out_of_memory (many_agents_row (list_of c.args.agents.now.items) c.args.at c.args.agent.now) _ c.from_residual.ensures

pub returns-in_err-from_slice-clause-agents : goal.returns-in_err-from_slice-clause-agents
returns-in_err-from_slice-clause-agents c = IfOk-from_err _ _ c.from_residual.ensures.0

pub returns-in_err-from_slice-clause-place : goal.returns-in_err-from_slice-clause-place
returns-in_err-from_slice-clause-place c = IfOk-from_err _ _ c.from_residual.ensures.0

pub returns-in_err-push-clause-rows : goal.returns-in_err-push-clause-rows
returns-in_err-push-clause-rows c = out_of_memory (many_agents_row (list_of c.args.agents.now.items) c.args.at c.args.agent.now) _ c.from_residual-in_err-push.ensures

pub returns-in_err-push-clause-agents : goal.returns-in_err-push-clause-agents
returns-in_err-push-clause-agents c = IfOk-from_err _ _ c.from_residual-in_err-push.ensures.0

pub returns-in_err-push-clause-place : goal.returns-in_err-push-clause-place
returns-in_err-push-clause-place c = IfOk-from_err _ _ c.from_residual-in_err-push.ensures.0

pub returns-clause-rows : goal.returns-clause-rows
returns-clause-rows c = λ many. omega (arith, many.0, length-map c.args.agents.now.items (λ (v : Vec ℕ). v.items), c.args.agents.now.ok, c.len-place.ensures, c.if-place-ge-MOST_AGENTS.false)
