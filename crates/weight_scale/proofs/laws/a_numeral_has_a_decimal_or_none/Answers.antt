use Rattle.weight_scale.proofs.Decided.{decimal_or_none}
use Rattle.weight_scale.proofs.laws.a_numeral_has_a_decimal_or_none.Goals as goal

pub returns : goal.returns
returns c = decimal_or_none
