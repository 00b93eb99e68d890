use Rattle.std.proofs.Common.{◌<◌, ◌≤◌, ℕ, Contains, get_or}
use Rattle.net_build.specs.declared.drafts.Draft.{Draft}
use Rattle.net_build.specs.TableParts.{HasDecimalsAtMost, Reaches}
use Rattle.net_build.proofs.tables.most_of.Given as goal

abbrev pub invariant-loop-draft : goal.invariant-loop-draft
invariant-loop-draft l = record {
  most : (k : ℕ) (d : Draft) → k < l.draft-index → HasDecimalsAtMost l.most (get_or l.drafts k d);
  reached : 0 < l.most → (draft : Draft) × Contains l.drafts draft × Reaches l.most draft;
  few : l.most ≤ 30;
}
