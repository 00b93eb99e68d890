use Rattle.eliminate.proofs.Numbers.{node_numbers, value_numbers}
use Rattle.eliminate.proofs.laws.first_numbers_fit.Goals as goal

pub returns : goal.returns
returns c = record {
  weights = λ nodes p most v chance profile fits plain.
      node_numbers nodes p most chance profile v fits plain;
  values = λ nodes p most u fits e. value_numbers nodes p most u fits e;
}
