use Rattle.policy_update.proofs.Kept.{same_totals}
use Rattle.policy_update.proofs.keeping.Kept.new.Goals as goal

pub list_totals-requires : goal.list_totals-requires
list_totals-requires c = c.requires.pure.profile

pub returns : goal.returns
returns c = record {
  decided = c.requires.decisions;
  planned = c.requires.planned;
  scoped = c.in_ok-list_scopes.ensures;
  has_totals = λ p pure. same_totals c.args.diagram.now.nodes c.args.profile.now p c.in_ok-list_totals.field-0.items c.requires.pure pure c.in_ok-list_totals.ensures.totals;
}
