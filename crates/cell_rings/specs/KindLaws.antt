-- Proofs that the kinds of cell keep the laws of the numbers in them. They stand here since their
-- ghost members cite them.
use Rattle.std.proofs.Common.{refl, ap}
use Rattle.cell_rings.specs.Rings.{Pair, IsRing, IsSize, IsMap, mass_ring, gain_ring, can_ring, both_ring}
use Rattle.cell_rings.specs.Kinds.{mass_of, mass_kind, as_gain, gain_kind, can_of, can_kind, both_of, both_kind, pair_in, small_mass_of, small_mass_kind, small_gain_of, small_gain_kind}
pub use Rattle.cell_rings.specs.RingLaws.{at_most_itself, pair_of_weight, one_at_most, value_at_most, pair_of_value, can_of_weight, most_has_room, small_has_room}
use Rattle.cell_rings.specs.RingLaws.{mass_is_ring, gain_is_ring, can_is_ring, both_is_ring, mass_sized, gain_sized, can_sized, both_sized}
use Rattle.cell_rings.specs.declared.boths.Both.{Both}

pub mass_laws : IsRing mass_kind
mass_laws = record {
  plus_assoc = λ a b c. ap mass_of (mass_is_ring.plus_assoc a.0 b.0 c.0);
  plus_comm = λ a b. ap mass_of (mass_is_ring.plus_comm a.0 b.0);
  plus_nought = λ a. ap mass_of (mass_is_ring.plus_nought a.0);
  times_assoc = λ a b c. ap mass_of (mass_is_ring.times_assoc a.0 b.0 c.0);
  times_comm = λ a b. ap mass_of (mass_is_ring.times_comm a.0 b.0);
  times_unit = λ a. ap mass_of (mass_is_ring.times_unit a.0);
  times_plus = λ a b c. ap mass_of (mass_is_ring.times_plus a.0 b.0 c.0);
}

pub mass_sizes : IsSize mass_kind mass_kind.size
mass_sizes = record {
  nought = refl;
  unit = refl;
  plus = λ a b. mass_sized.plus a.0 b.0;
  times = λ a b. mass_sized.times a.0 b.0;
}

pub mass_map : IsMap mass_kind mass_ring (λ a. a.0)
mass_map = record { nought = refl; unit = refl; plus = λ a b. refl; times = λ a b. refl }

pub gain_laws : IsRing gain_kind
gain_laws = record {
  plus_assoc = λ a b c. ap as_gain (gain_is_ring.plus_assoc a.0 b.0 c.0);
  plus_comm = λ a b. ap as_gain (gain_is_ring.plus_comm a.0 b.0);
  plus_nought = λ a. ap as_gain (gain_is_ring.plus_nought a.0);
  times_assoc = λ a b c. ap as_gain (gain_is_ring.times_assoc a.0 b.0 c.0);
  times_comm = λ a b. ap as_gain (gain_is_ring.times_comm a.0 b.0);
  times_unit = λ a. ap as_gain (gain_is_ring.times_unit a.0);
  times_plus = λ a b c. ap as_gain (gain_is_ring.times_plus a.0 b.0 c.0);
}

pub gain_sizes : IsSize gain_kind gain_kind.size
gain_sizes = record {
  nought = refl;
  unit = refl;
  plus = λ a b. gain_sized.plus a.0 b.0;
  times = λ a b. gain_sized.times a.0 b.0;
}

pub gain_map : IsMap gain_kind gain_ring (λ a. a.0)
gain_map = record { nought = refl; unit = refl; plus = λ a b. refl; times = λ a b. refl }

pub can_laws : IsRing can_kind
can_laws = record {
  plus_assoc = λ a b c. ap can_of (can_is_ring.plus_assoc a.0 b.0 c.0);
  plus_comm = λ a b. ap can_of (can_is_ring.plus_comm a.0 b.0);
  plus_nought = λ a. ap can_of (can_is_ring.plus_nought a.0);
  times_assoc = λ a b c. ap can_of (can_is_ring.times_assoc a.0 b.0 c.0);
  times_comm = λ a b. ap can_of (can_is_ring.times_comm a.0 b.0);
  times_unit = λ a. ap can_of (can_is_ring.times_unit a.0);
  times_plus = λ a b c. ap can_of (can_is_ring.times_plus a.0 b.0 c.0);
}

pub can_sizes : IsSize can_kind can_kind.size
can_sizes = record {
  nought = refl;
  unit = refl;
  plus = λ a b. can_sized.plus a.0 b.0;
  times = λ a b. can_sized.times a.0 b.0;
}

pub can_map : IsMap can_kind can_ring (λ a. a.0)
can_map = record { nought = refl; unit = refl; plus = λ a b. refl; times = λ a b. refl }

both_from : Pair → Both
both_from p = both_of p.m p.g

pub both_laws : IsRing both_kind
unfolding both_from
both_laws = record {
  plus_assoc = λ a b c. ap both_from (both_is_ring.plus_assoc (pair_in a) (pair_in b) (pair_in c));
  plus_comm = λ a b. ap both_from (both_is_ring.plus_comm (pair_in a) (pair_in b));
  plus_nought = λ a. ap both_from (both_is_ring.plus_nought (pair_in a));
  times_assoc = λ a b c. ap both_from (both_is_ring.times_assoc (pair_in a) (pair_in b) (pair_in c));
  times_comm = λ a b. ap both_from (both_is_ring.times_comm (pair_in a) (pair_in b));
  times_unit = λ a. ap both_from (both_is_ring.times_unit (pair_in a));
  times_plus = λ a b c. ap both_from (both_is_ring.times_plus (pair_in a) (pair_in b) (pair_in c));
}

pub both_sizes : IsSize both_kind both_kind.size
both_sizes = record {
  nought = refl;
  unit = refl;
  plus = λ a b. both_sized.plus (pair_in a) (pair_in b);
  times = λ a b. both_sized.times (pair_in a) (pair_in b);
}

pub both_map : IsMap both_kind both_ring pair_in
both_map = record { nought = refl; unit = refl; plus = λ a b. refl; times = λ a b. refl }

pub small_mass_laws : IsRing small_mass_kind
small_mass_laws = record {
  plus_assoc = λ a b c. ap small_mass_of (mass_is_ring.plus_assoc a.0 b.0 c.0);
  plus_comm = λ a b. ap small_mass_of (mass_is_ring.plus_comm a.0 b.0);
  plus_nought = λ a. ap small_mass_of (mass_is_ring.plus_nought a.0);
  times_assoc = λ a b c. ap small_mass_of (mass_is_ring.times_assoc a.0 b.0 c.0);
  times_comm = λ a b. ap small_mass_of (mass_is_ring.times_comm a.0 b.0);
  times_unit = λ a. ap small_mass_of (mass_is_ring.times_unit a.0);
  times_plus = λ a b c. ap small_mass_of (mass_is_ring.times_plus a.0 b.0 c.0);
}

pub small_mass_sizes : IsSize small_mass_kind small_mass_kind.size
small_mass_sizes = record {
  nought = refl;
  unit = refl;
  plus = λ a b. mass_sized.plus a.0 b.0;
  times = λ a b. mass_sized.times a.0 b.0;
}

pub small_gain_laws : IsRing small_gain_kind
small_gain_laws = record {
  plus_assoc = λ a b c. ap small_gain_of (gain_is_ring.plus_assoc a.0 b.0 c.0);
  plus_comm = λ a b. ap small_gain_of (gain_is_ring.plus_comm a.0 b.0);
  plus_nought = λ a. ap small_gain_of (gain_is_ring.plus_nought a.0);
  times_assoc = λ a b c. ap small_gain_of (gain_is_ring.times_assoc a.0 b.0 c.0);
  times_comm = λ a b. ap small_gain_of (gain_is_ring.times_comm a.0 b.0);
  times_unit = λ a. ap small_gain_of (gain_is_ring.times_unit a.0);
  times_plus = λ a b c. ap small_gain_of (gain_is_ring.times_plus a.0 b.0 c.0);
}

pub small_gain_sizes : IsSize small_gain_kind small_gain_kind.size
small_gain_sizes = record {
  nought = refl;
  unit = refl;
  plus = λ a b. gain_sized.plus a.0 b.0;
  times = λ a b. gain_sized.times a.0 b.0;
}
