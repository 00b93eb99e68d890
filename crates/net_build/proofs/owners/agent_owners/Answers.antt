-- The names' own rows, and then those of their numbers.
use Rattle.net_build.specs.Blocks.{leaves_of, owner_attributes, place_among, with_sights}
use Rattle.net_build.proofs.OutOfMemory.{out_of_memory}
use Rattle.std.proofs.lemmas.Result.{IfOk-from_err}
use Rattle.std.proofs.Common.{◌<◌, ℕ, List, length, map, Err, Ok, ap, sym, subst, ◌∙◌}
use Rattle.maid_model.specs.Names.{list_of}
use Rattle.net_lexer.specs.declared.tokens.Token.{Token}
use Rattle.net_build.specs.Table.{owner_rows}
use Rattle.first_fault.proofs.HandedOn.{hands_on}
use Rattle.net_build.specs.Passes.{build_fault}
use Rattle.net_build.proofs.OwnerLemmas.{owners_refused, owners_numbered, some_numbers}
use Rattle.net_build.proofs.owners.agent_owners.Goals as goal

pub returns-in_err-names-clause-rows : goal.returns-in_err-names-clause-rows
returns-in_err-names-clause-rows c = hands_on build_fault (owner_rows c.args.text.now _ c.args.block.now) _ _ c.from_residual.ensures (owners_refused c.args.text.now _ c.args.block.now _ c.in_err-names.ensures.rows)

pub returns-in_err-numbers-clause-rows : goal.returns-in_err-numbers-clause-rows
returns-in_err-numbers-clause-rows c =
    hands_on build_fault (owner_rows c.args.text.now _ c.args.block.now) _ _ c.from_residual-in_err-numbers.ensures
    (owners_numbered {A = ℕ} c.args.text.now (list_of c.args.agents.now.items) c.args.block.now (list_of c.in_ok-names.names.items) c.title.result.start (Err c.in_err-numbers.field-0.0)
    c.in_ok-names.ensures.rows c.in_ok-names.ensures.names (ap (λ (t : Token). t.start) c.title.ensures) (rw c.deref.ensures.value at c.in_err-numbers.ensures.rows))

pub returns-clause-rows : goal.returns-clause-rows
returns-clause-rows c =
    owners_numbered c.args.text.now (list_of c.args.agents.now.items) c.args.block.now (list_of c.in_ok-names.names.items) c.title.result.start (Ok c.in_ok-numbers.numbers)
    c.in_ok-names.ensures.rows c.in_ok-names.ensures.names (ap (λ (t : Token). t.start) c.title.ensures) (rw c.deref.ensures.value at c.in_ok-numbers.ensures.rows)

pub read_names-requires : goal.read_names-requires
read_names-requires c = c.requires.own

pub returns-in_err-names-clause-agents : goal.returns-in_err-names-clause-agents
returns-in_err-names-clause-agents c = IfOk-from_err _ _ c.from_residual.ensures.0

pub returns-in_err-names-clause-owners : goal.returns-in_err-names-clause-owners
returns-in_err-names-clause-owners c = IfOk-from_err _ _ c.from_residual.ensures.0

pub number_owners-requires : goal.number_owners-requires
number_owners-requires c = tt

pub returns-in_err-numbers-clause-agents : goal.returns-in_err-numbers-clause-agents
returns-in_err-numbers-clause-agents c = IfOk-from_err _ _ c.from_residual-in_err-numbers.ensures.0

pub returns-in_err-numbers-clause-owners : goal.returns-in_err-numbers-clause-owners
returns-in_err-numbers-clause-owners c = IfOk-from_err _ _ c.from_residual-in_err-numbers.ensures.0

pub returns-in_err-owners_from-clause-rows : goal.returns-in_err-owners_from-clause-rows
returns-in_err-owners_from-clause-rows c = out_of_memory (owner_rows c.args.text.now (list_of c.args.agents.now.items) c.args.block.now) _ c.from_residual-in_err-owners_from.ensures

pub returns-in_err-owners_from-clause-agents : goal.returns-in_err-owners_from-clause-agents
returns-in_err-owners_from-clause-agents c = IfOk-from_err _ _ c.from_residual-in_err-owners_from.ensures.0

pub returns-in_err-owners_from-clause-owners : goal.returns-in_err-owners_from-clause-owners
returns-in_err-owners_from-clause-owners c = IfOk-from_err _ _ c.from_residual-in_err-owners_from.ensures.0

pub returns-clause-agents : goal.returns-clause-agents
returns-clause-agents c = c.in_ok-numbers.ensures.agents ∙ ap (with_sights (list_of c.args.agents.now.items)) (ap list_of c.deref.ensures.value ∙ c.in_ok-names.ensures.names)

pub owners_from-requires : goal.owners_from-requires
owners_from-requires c =
    let numbers = c.deref-2.ensures.value ∙ c.in_ok-numbers.ensures.numbers ∙ ap (map (place_among _)) (ap list_of c.deref.ensures.value ∙ c.in_ok-names.ensures.names) in
    subst (λ (l : List ℕ). 0 < length l) (sym numbers) (some_numbers c.args.text.now _ (leaves_of (owner_attributes c.args.text.now c.args.block.now)))

pub returns-clause-owners : goal.returns-clause-owners
returns-clause-owners c = c.in_ok-owners_from.ensures ∙ c.deref-2.ensures.value ∙ c.in_ok-numbers.ensures.numbers ∙ ap (map (place_among _)) (ap list_of c.deref.ensures.value ∙ c.in_ok-names.ensures.names)
