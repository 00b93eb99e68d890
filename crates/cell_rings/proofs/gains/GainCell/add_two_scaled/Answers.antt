use lib.Dec.{T}
use lib.Signed.{non_neg}
use mir.Val.{Fits}
use Rattle.std.proofs.Common.{rules, ℤ, pos, negsuc, nat_abs, ◌^◌, ◌≤ℤ◌, ◌<ℤ◌, arith, refl, FitsSigned}
use Rattle.std.specs.Int.{w64, w128}
use Rattle.std.proofs.lemmas.Int.{ints, to_z-of_z}
use Rattle.cell_rings.proofs.gains.GainCell.add_two_scaled.Goals as goal

short_fits : (z : ℤ) → (pos 0 ≤ℤ z) × (z <ℤ pos (2 ^ 63)) → T (non_neg z) × Fits w64 (nat_abs z)
short_fits (pos n) (_, few) = (tt, record { fits = omega (arith, ints, few) })
short_fits (negsuc n) (some, _) = absurd (omega (arith, ints, some))

pub overflow_cast-short : goal.overflow_cast-short
overflow_cast-short c =
    let f : FitsSigned w128 c.args.pair.now.first.0 = search rules in
    rw (to_z-of_z w128 c.args.pair.now.first.0 f) (short_fits c.args.pair.now.first.0 (c.if-is_short.ensures.0 refl))

pub overflow_cast-short-then-is_short-2 : goal.overflow_cast-short-then-is_short-2
overflow_cast-short-then-is_short-2 c =
    let f : FitsSigned w128 c.args.pair.now.second.0 = search rules in
    rw (to_z-of_z w128 c.args.pair.now.second.0 f) (short_fits c.args.pair.now.second.0 (c.if-is_short-2.ensures.0 refl))

pub add_two_long-requires-clause-cells : goal.add_two_long-requires-clause-cells
add_two_long-requires-clause-cells c = c.requires.cells

pub add_two_long-requires-clause-out : goal.add_two_long-requires-clause-out
add_two_long-requires-clause-out c = c.requires.out

pub add_two_long-requires-clause-room : goal.add_two_long-requires-clause-room
add_two_long-requires-clause-room c = c.requires.room

pub add_two_short-requires-clause-cells : goal.add_two_short-requires-clause-cells
add_two_short-requires-clause-cells c = c.requires.cells

pub add_two_short-requires-clause-out : goal.add_two_short-requires-clause-out
add_two_short-requires-clause-out c = c.requires.out

pub returns-else-is_short : goal.returns-else-is_short
returns-else-is_short c = c.add_two_long.ensures
