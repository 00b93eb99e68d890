use Rattle.std.proofs.Common.{ap, map, sym, ◌∙◌}
use Rattle.net_parser.specs.Trees.{leaf, list}
use Rattle.net_parser.specs.Views.{trees_of, value_tree}
use Rattle.net_parser.proofs.Spelt.{flat_values, leaf_not_list, nested_values}
use Rattle.net_parser.proofs.attributes.Value.flat_list.Goals as goal
use Rattle.net_parser.proofs.attributes.Value.flat_list.Goals.{in_default-via-in-List+else-are_leaves, in_default-via-in_default}

pub returns-in-List-clause-leaves : goal.returns-in-List-clause-leaves
returns-in-List-clause-leaves c =
    ap value_tree c.in-List.is ∙ ap list (flat_values c.in-List.tokens.now (sym c.are_leaves.ensures ∙ c.if-are_leaves.true))

pub returns-in_default-clause-none : goal.returns-in_default-clause-none
returns-in_default-clause-none c = λ us is. elim c.in_default.branch [
  | in_default-via-in-List+else-are_leaves w ↦ nested_values w.in-List.tokens.now us (sym w.are_leaves.ensures ∙ w.if-are_leaves.false) (ap value_tree (sym w.in-List.is) ∙ is)
  | in_default-via-in_default w ↦ leaf_not_list w.in_default.field-0 (trees_of (map leaf us)) (ap value_tree (sym w.in_default.is) ∙ is)
]
