-- A list of strings is a list of leaves alone.
use Rattle.std.proofs.Common.{sym, ◌∙◌}
use Rattle.net_parser.specs.Views.{value_tree}
use Rattle.net_build.proofs.LabelLemmas.{flat_leaves, flat_strings, no_strings}
use Rattle.net_build.proofs.labels.listed_strings.Goals as goal
use Rattle.net_build.proofs.labels.listed_strings.Goals.{in_default-via-in-Some+else-are_texts, in_default-via-in_default}

pub returns-in-Some-clause-found : goal.returns-in-Some-clause-found
returns-in-Some-clause-found c =
    sym (flat_strings (value_tree c.args.value) c.in-Some.tokens.now c.in-Some.ensures.leaves ∙ sym c.are_texts.ensures ∙ c.if-are_texts.true)

pub returns-in-Some-clause-strings : goal.returns-in-Some-clause-strings
returns-in-Some-clause-strings c = flat_leaves (value_tree c.args.value) c.in-Some.tokens.now c.in-Some.ensures.leaves

pub returns-in_default-clause-found : goal.returns-in_default-clause-found
returns-in_default-clause-found c = elim c.in_default.branch [
  | in_default-via-in-Some+else-are_texts w ↦ sym (flat_strings (value_tree c.args.value) w.in-Some.tokens.now w.in-Some.ensures.leaves ∙ sym w.are_texts.ensures ∙ w.if-are_texts.false)
  | in_default-via-in_default w ↦ no_strings (value_tree c.args.value) w.in_default.ensures.none
]
