-- Each numeral is a token of the text, and a number where the first rows find nothing.
use Rattle.net_build.proofs.NumberLemmas.{own_leaves, all_numbers}
use Rattle.net_build.proofs.numbers.read_numbers.Goals as goal

pub decimals-requires-clause-own : goal.decimals-requires-clause-own
decimals-requires-clause-own c = own_leaves c.args.text.now _ _ c.requires.numerals c.requires.own.value

pub decimals-requires-clause-numbers : goal.decimals-requires-clause-numbers
decimals-requires-clause-numbers c = all_numbers _ c.in_ok-check_numbers.ensures
