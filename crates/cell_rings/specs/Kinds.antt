-- The kinds of cell of the program as rings: each is added and multiplied as the numbers in it.
use Rattle.std.specs.Prelude.{ℕ, ℤ, pos, ◌+◌, ◌*◌, ◌+ℤ◌, ◌*ℤ◌, Bool, true, false, ◌||◌, ◌&&◌}
use Rattle.cell_rings.specs.Rings.{Ring, Pair, mass_size, gain_size, can_size, both_size, most_size, small_size}
use Rattle.cell_rings.specs.declared.masses.Mass.{Mass}
use Rattle.cell_rings.specs.declared.gains.Gain.{Gain}
use Rattle.cell_rings.specs.declared.small_masses.SmallMass.{SmallMass}
use Rattle.cell_rings.specs.declared.small_gains.SmallGain.{SmallGain}
use Rattle.cell_rings.specs.declared.cans.Can.{Can}
use Rattle.cell_rings.specs.declared.boths.Both.{Both}

-- the mass of a whole number
abbrev pub mass_of : ℕ → Mass
mass_of n = record { 0 = n }

-- whole numbers from nought
abbrev pub mass_kind : Ring Mass
mass_kind = record {
  nought = mass_of 0;
  unit = mass_of 1;
  plus = λ a b. mass_of (a.0 + b.0);
  times = λ a b. mass_of (a.0 * b.0);
  size = λ a. mass_size a.0;
  most = most_size;
}

-- the gain of a whole number with a sign
abbrev pub as_gain : ℤ → Gain
as_gain z = record { 0 = z }

-- whole numbers with a sign
abbrev pub gain_kind : Ring Gain
gain_kind = record {
  nought = as_gain (pos 0);
  unit = as_gain (pos 1);
  plus = λ a b. as_gain (a.0 +ℤ b.0);
  times = λ a b. as_gain (a.0 *ℤ b.0);
  size = λ a. gain_size a.0;
  most = most_size;
}

-- the cell of a truth value
abbrev pub can_of : Bool → Can
can_of b = record { 0 = b }

-- truth values, added by "or" and multiplied by "and"
abbrev pub can_kind : Ring Can
can_kind = record {
  nought = can_of false;
  unit = can_of true;
  plus = λ a b. can_of (a.0 || b.0);
  times = λ a b. can_of (a.0 && b.0);
  size = λ a. can_size a.0;
  most = most_size;
}

-- the pair of a mass and a gain
abbrev pub both_of : ℕ → ℤ → Both
both_of m g = record { m = m; g = g }

-- the pair of numbers in it
abbrev pub pair_in : Both → Pair
pair_in a = record { m = a.m; g = a.g }

-- pairs, added part by part; a product's gain is each one's gain times the other's mass
abbrev pub both_kind : Ring Both
both_kind = record {
  nought = both_of 0 (pos 0);
  unit = both_of 1 (pos 0);
  plus = λ a b. both_of (a.m + b.m) (a.g +ℤ b.g);
  times = λ a b. both_of (a.m * b.m) ((pos a.m *ℤ b.g) +ℤ (a.g *ℤ pos b.m));
  size = λ a. both_size (pair_in a);
  most = most_size;
}

-- the mass of a whole number, in 64 bits
abbrev pub small_mass_of : ℕ → SmallMass
small_mass_of n = record { 0 = n }

-- masses in 64 bits
abbrev pub small_mass_kind : Ring SmallMass
small_mass_kind = record {
  nought = small_mass_of 0;
  unit = small_mass_of 1;
  plus = λ a b. small_mass_of (a.0 + b.0);
  times = λ a b. small_mass_of (a.0 * b.0);
  size = λ a. mass_size a.0;
  most = small_size;
}

-- the gain of a whole number with a sign, in 64 bits
abbrev pub small_gain_of : ℤ → SmallGain
small_gain_of z = record { 0 = z }

-- gains in 64 bits
abbrev pub small_gain_kind : Ring SmallGain
small_gain_kind = record {
  nought = small_gain_of (pos 0);
  unit = small_gain_of (pos 1);
  plus = λ a b. small_gain_of (a.0 +ℤ b.0);
  times = λ a b. small_gain_of (a.0 *ℤ b.0);
  size = λ a. gain_size a.0;
  most = small_size;
}
