use Rattle.maid_model.proofs.Listing.{lists_worlds, ends_with}
use Rattle.maid_model.proofs.laws.worlds_are_listed.Goals as goal

pub returns-clause-once : goal.returns-clause-once
returns-clause-once c = lists_worlds

pub returns-clause-from : goal.returns-clause-from
returns-clause-from c = ends_with
