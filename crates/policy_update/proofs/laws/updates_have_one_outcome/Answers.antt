use Rattle.policy_update.proofs.OneOutcome.{one_refusal, one_update}
use Rattle.policy_update.proofs.laws.updates_have_one_outcome.Goals as goal

pub returns : goal.returns
returns c = record {
  refusal = one_refusal c.bound_has_one_place.ensures.one c.sizes_of_plans.ensures.one;
  update = one_update c.pure_profiles_listed.ensures.choices c.updating_ends.ensures.one;
}
