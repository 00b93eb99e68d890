use Rattle.size_precheck.proofs.Agreeing.{kept_there}
use Rattle.size_precheck.proofs.laws.kept_plans_stand.Goals as goal

pub returns : goal.returns
returns c nodes others kept k h = kept_there nodes others kept k h
