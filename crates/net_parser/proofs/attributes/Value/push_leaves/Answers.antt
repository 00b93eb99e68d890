use Rattle.std.proofs.Common.{◌++◌, ap, sym, ◌∙◌}
use Rattle.net_parser.specs.Owned.{leaves}
use Rattle.net_parser.specs.Views.{value_tree}
use Rattle.net_parser.proofs.Spelt.{leaves_of_values}
use Rattle.net_parser.proofs.attributes.Value.push_leaves.Goals as goal

pub returns-in_ok-push_all_leaves-in-List : goal.returns-in_ok-push_all_leaves-in-List
returns-in_ok-push_all_leaves-in-List c =
    c.in_ok-push_all_leaves-in-List.ensures
    ∙ ap (λ ts. c.args.tokens.now.items ++ ts) (sym (ap (λ v. leaves (value_tree v)) c.in-List.is ∙ leaves_of_values c.in-List.inside.now))
