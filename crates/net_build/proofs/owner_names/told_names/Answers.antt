-- An attribute's rows, one after the other.
use Rattle.std.proofs.Common.{ap, sym, ◌∙◌}
use Rattle.net_build.specs.Table.{agent_rows}
use Rattle.net_parser.specs.Owned.{leaves}
use Rattle.first_fault.proofs.HandedOn.{hands_on}
use Rattle.net_build.specs.Passes.{build_fault}
use Rattle.net_build.proofs.OwnerNames.{told_badly, told_twice, told_well, texts_told}
use Rattle.net_build.proofs.owner_names.told_names.Goals as goal

pub returns-in_err-names-clause-rows : goal.returns-in_err-names-clause-rows
returns-in_err-names-clause-rows c = hands_on build_fault (agent_rows c.args.text.now _) _ _ c.from_residual.ensures (told_badly c.args.text.now c.args.agents.now _ c.in_err-names.ensures.rows)

pub returns-in_err-check_distinct-clause-rows : goal.returns-in_err-check_distinct-clause-rows
returns-in_err-check_distinct-clause-rows c =
    let tokens = c.deref.ensures.value ∙ c.in_ok-tokens.ensures ∙ ap leaves c.value.ensures in
    hands_on build_fault (agent_rows c.args.text.now _) _ _ c.from_residual-in_err-check_distinct.ensures (told_twice c.args.text.now c.args.agents.now _ c.in_ok-names.ensures.rows (rw tokens at c.in_err-check_distinct.ensures))

pub returns-clause-rows : goal.returns-clause-rows
returns-clause-rows c =
    let tokens = c.deref.ensures.value ∙ c.in_ok-tokens.ensures ∙ ap leaves c.value.ensures in
    told_well c.args.text.now c.args.agents.now c.in_ok-names.ensures.rows (rw tokens at c.in_ok-check_distinct.ensures)

pub returns-clause-names : goal.returns-clause-names
returns-clause-names c = c.in_ok-names.ensures.names ∙ sym (texts_told c.args.text.now c.args.agents.now c.in_ok-names.ensures.rows)
