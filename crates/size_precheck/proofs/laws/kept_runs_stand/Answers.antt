use Rattle.size_precheck.proofs.Agreeing.{run_there}
use Rattle.size_precheck.proofs.laws.kept_runs_stand.Goals as goal

pub returns : goal.returns
returns c nodes others kept k h = run_there nodes others kept k h
