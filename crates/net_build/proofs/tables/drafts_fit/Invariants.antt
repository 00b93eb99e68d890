use Rattle.std.proofs.Common.{◌<◌, ℕ, get_or}
use Rattle.net_build.specs.declared.drafts.Draft.{Draft}
use Rattle.net_build.specs.TableParts.{FitsDraft}
use Rattle.net_build.proofs.tables.drafts_fit.Given as goal

abbrev pub invariant-loop-draft : goal.invariant-loop-draft
invariant-loop-draft l = (k : ℕ) (d : Draft) → k < l.draft-index → FitsDraft l.scale (get_or l.drafts k d)
