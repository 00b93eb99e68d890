-- The value is no list of strings, or one whose strings have a label's form or not.
use Rattle.std.proofs.Common.{ap, sym, ◌∙◌}
use Rattle.net_build.specs.Blocks.{is_string_list}
use Rattle.net_build.specs.NodeCalls.{as_bad_agent}
use Rattle.net_lexer.specs.declared.tokens.Token.{Token}
use Rattle.net_parser.specs.Owned.{leaves}
use Rattle.net_parser.specs.Views.{value_tree}
use Rattle.net_build.proofs.LabelLemmas.{all_texts}
use Rattle.net_build.proofs.OwnerNames.{plain_list, unplain_fault}
use Rattle.net_build.proofs.owner_names.listed_names.Goals as goal

pub labels-requires-clause-strings : goal.labels-requires-clause-strings
labels-requires-clause-strings c = rw c.in-Some.ensures.strings (all_texts (value_tree c.value.result) (sym c.in-Some.ensures.found))

pub returns-in-Ok-clause-rows : goal.returns-in-Ok-clause-rows
returns-in-Ok-clause-rows c = plain_list c.args.text.now c.args.agents.now c.in-Some.strings.now c.requires.list
    (ap is_string_list (sym c.value.ensures) ∙ sym c.in-Some.ensures.found)
    (sym (c.in-Some.ensures.strings ∙ ap leaves c.value.ensures)) c.in-Ok.ensures.rows

pub returns-in-Err-clause-rows : goal.returns-in-Err-clause-rows
returns-in-Err-clause-rows c =
    rw (c.bad_agent.ensures ∙ ap (λ (t : Token). as_bad_agent t.start c.in-Err.refused) c.name-at.ensures)
    (unplain_fault c.args.text.now c.args.agents.now c.in-Some.strings.now _ c.requires.list (sym (c.in-Some.ensures.strings ∙ ap leaves c.value.ensures)) c.in-Err.ensures.rows)
