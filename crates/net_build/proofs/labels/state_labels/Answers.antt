-- The value is no list of strings, or one of too many, or of few.
use Rattle.std.proofs.Common.{length, ap, sym, ◌∙◌}
use Rattle.net_build.specs.declared.faults.BuildFault.TheVariants.{Fault}
use Rattle.net_build.specs.declared.faults.BuildKind.TheVariants as kinds
use Rattle.net_build.specs.declared.faults.Limit.TheVariants as limits
use Rattle.net_build.specs.Blocks.{is_string_list}
use Rattle.net_lexer.specs.declared.tokens.Token.{Token}
use Rattle.net_parser.specs.Owned.{leaves}
use Rattle.net_parser.specs.Views.{value_tree}
use Rattle.net_build.proofs.LabelLemmas.{bad_states, many_states, few_states, all_texts}
use Rattle.net_build.proofs.labels.state_labels.Goals as goal

pub returns-in_default-clause-rows : goal.returns-in_default-clause-rows
returns-in_default-clause-rows c = bad_states c.args.text.now c.args.states.now _
    (ap is_string_list (sym c.value.ensures) ∙ sym c.in_default.ensures.found)
    (c.at.ensures ∙ ap (λ (t : Token). Fault t.start kinds.BadStates) c.name-at.ensures)

pub returns-then-strings-gt-MOST_STATES-clause-rows : goal.returns-then-strings-gt-MOST_STATES-clause-rows
returns-then-strings-gt-MOST_STATES-clause-rows c = many_states c.args.text.now c.args.states.now _ (length c.in-Some.strings.now)
    (ap is_string_list (sym c.value.ensures) ∙ sym c.in-Some.ensures.found)
    (ap length (c.in-Some.ensures.strings ∙ ap leaves c.value.ensures))
    c.if-strings-gt-MOST_STATES.true
    (c.at-then-strings-gt-MOST_STATES.ensures ∙ ap (λ (t : Token). Fault t.start (kinds.LimitPassed limits.States (length c.in-Some.strings.now))) c.name-at.ensures)

pub labels-requires-clause-strings : goal.labels-requires-clause-strings
labels-requires-clause-strings c = rw c.in-Some.ensures.strings (all_texts (value_tree c.value.result) (sym c.in-Some.ensures.found))

pub returns-clause-rows : goal.returns-clause-rows
returns-clause-rows c =
    let all = c.in-Some.ensures.strings ∙ ap leaves c.value.ensures in
    few_states c.args.text.now c.args.states.now _
    (ap is_string_list (sym c.value.ensures) ∙ sym c.in-Some.ensures.found)
    (rw (← ap length all) c.if-strings-gt-MOST_STATES.false)
    (rw (← all) c.labels.ensures.rows)
