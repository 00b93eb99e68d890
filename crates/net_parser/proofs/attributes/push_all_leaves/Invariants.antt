use Rattle.std.proofs.Common.{◌≡◌, ◌++◌, filter, take}
use Rattle.net_parser.proofs.Spelt.{is_item}
use Rattle.net_parser.proofs.attributes.push_all_leaves.Given as goal

abbrev pub invariant-loop-token : goal.invariant-loop-token
invariant-loop-token l = l.tokens.items ≡ l.initial.tokens.items ++ filter is_item (take l.token-index l.inside)
