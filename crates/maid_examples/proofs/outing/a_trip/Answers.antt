use Rattle.std.proofs.Common.{refl}
use Rattle.maid_model.specs.Profiles.{uniform_profile}
use Rattle.maid_examples.specs.Trip.{trip, trip_diagram, plan, stay, tossed, tossed_diagram, tossed_plan}
use Rattle.maid_examples.proofs.Weather.{solved}
use Rattle.maid_examples.proofs.WeatherMade.{in_control}
use Rattle.maid_examples.proofs.outing.a_trip.Goals as goal

pub returns-clause-sound : goal.returns-clause-sound
returns-clause-sound c = let rules = c.literals_are_tested.ensures.profile in record {
  diagram = c.literals_are_tested.ensures.diagram trip_diagram refl;
  of_uniform = rules trip (uniform_profile trip) refl refl;
  of_plan = rules trip plan refl refl;
  of_stay = rules trip stay refl refl;
}

pub returns-clause-solved : goal.returns-clause-solved
returns-clause-solved c = solved c.literals_are_tested.ensures.profile (c.literals_are_tested.ensures.diagram trip_diagram refl) c.answers_are_best.ensures.answers c.answers_are_subgame_perfect.ensures.law c.answers_are_optimal.ensures.law c.gains_are_optima.ensures.law

pub returns-clause-control : goal.returns-clause-control
returns-clause-control c =
    let a = solved c.literals_are_tested.ensures.profile (c.literals_are_tested.ensures.diagram trip_diagram refl) c.answers_are_best.ensures.answers c.answers_are_subgame_perfect.ensures.law c.answers_are_optimal.ensures.law c.gains_are_optima.ensures.law in
    in_control c.literals_are_tested.ensures.profile a.optimum

pub returns-clause-part : goal.returns-clause-part
returns-clause-part c = record {
  diagram = c.literals_are_tested.ensures.diagram tossed_diagram refl;
  profile = c.literals_are_tested.ensures.profile tossed tossed_plan refl refl;
  scope = refl;
  scope_of_agent = refl;
  place = refl;
  part = refl;
  rules = refl;
  left = refl;
  gain = refl;
  whole_mass = refl;
  go_in_sun = refl;
  sun = refl;
  whole_product = refl;
  product = refl;
  product_of_agent = refl;
  bound = refl;
}
