use Rattle.std.proofs.Common.{◌≡◌, ◌∙◌, ◌<◌, ◌≤◌, ◌^◌, ◌-ℤ◌, ℕ, List, get_or, ℤ, pos, nat_abs, sym, subst, arith, FitsSigned, to_z, of_z}
use Rattle.std.specs.Int.{w128}
use Rattle.std.proofs.lemmas.Int.{ints, to_z-of_z, fits_signed_from_abs}
use Rattle.maid_model.specs.Diagrams.{greatest_number}
use Rattle.maid_model.specs.Gains.{AreSmallGains}
use Rattle.threshold.proofs.held.lead.Goals as goal

back : (z : ℤ) → nat_abs z ≤ greatest_number → to_z w128 (of_z w128 z) ≡ z
back z h = to_z-of_z w128 z (fits_signed_from_abs w128 z (omega (arith, h)))

-- the difference of two gains, as it is computed
module _ (gains : List ℤ) (best other : ℕ) (small : AreSmallGains gains) where
  abbrev a : ℤ
  a = get_or gains best (pos 0)

  abbrev b : ℤ
  b = get_or gains other (pos 0)

  differ : to_z w128 (of_z w128 a) -ℤ to_z w128 (of_z w128 b) ≡ a -ℤ b
  differ i = back a (small best) i -ℤ back b (small other) i

  room : nat_abs (a -ℤ b) < 2 ^ 127
  room = let h = small best in let k = small other in omega (arith, ints)

  fits : FitsSigned w128 (to_z w128 (of_z w128 a) -ℤ to_z w128 (of_z w128 b))
  fits = subst (FitsSigned w128) (sym differ) (fits_signed_from_abs w128 (a -ℤ b) room)

  is : to_z w128 (of_z w128 (to_z w128 (of_z w128 a) -ℤ to_z w128 (of_z w128 b))) ≡ a -ℤ b
  is = to_z-of_z w128 (to_z w128 (of_z w128 a) -ℤ to_z w128 (of_z w128 b)) fits ∙ differ

pub overflow_sub-result : goal.overflow_sub-result
overflow_sub-result c = fits c.args.gains.now c.args.best c.args.other c.requires.small

pub returns-clause-lead : goal.returns-clause-lead
returns-clause-lead c = is c.args.gains.now c.args.best c.args.other c.requires.small

pub returns-clause-room : goal.returns-clause-room
returns-clause-room c = subst (λ z. nat_abs z < 2 ^ 127) (sym (is c.args.gains.now c.args.best c.args.other c.requires.small)) (room c.args.gains.now c.args.best c.args.other c.requires.small)
