use Rattle.maid_model.proofs.Descent.{path_from_test, test_from_path}
use Rattle.maid_model.proofs.laws.descent_is_tested.Goals as goal

pub returns : goal.returns
returns c = λ nodes u v. (path_from_test nodes u v, test_from_path nodes u v)
