-- The string is the value's one leaf.
use Rattle.std.proofs.Common.{[], ap, sym, ◌∙◌}
use Rattle.std.proofs.lemmas.List.Elements.{All-head}
use Rattle.net_parser.specs.Owned.{IsLeafOf, leaves}
use Rattle.net_build.proofs.owner_names.one_name.Goals as goal

pub text_value-requires-clause-token : goal.text_value-requires-clause-token
text_value-requires-clause-token c =
    (All-head (IsLeafOf c.args.text.now) c.in-Some.token [] (rw (ap leaves (sym c.value.ensures ∙ c.in-Some.ensures.tree)) at c.requires.own.value)).own
