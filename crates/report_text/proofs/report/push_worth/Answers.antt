use Rattle.std.proofs.Common.{◌≡◌, ◌++◌, ℕ, List}
use Rattle.std.specs.Prelude.{OnOk, codes, Result, Ok, Err, if◌then◌else◌}
use Rattle.std.specs.Result.{is_ok}
use Rattle.report_text.proofs.report.push_worth.Goals as goal

-- what was appended where the call ended well
appended : {R E : Type 0} (result : Result R E) (new old text : List ℕ) → new ≡ (if is_ok result then old ++ text else old) → OnOk result (new ≡ old ++ text)
appended (Ok x) new old text e = e
appended (Err y) new old text e = tt

pub returns-in-None : goal.returns-in-None
returns-in-None c = rw c.in-None.is (appended c.extend_from_slice.result c.extend_from_slice.new.self.items c.args.out.now.items (codes " never") c.extend_from_slice.ensures.items)
