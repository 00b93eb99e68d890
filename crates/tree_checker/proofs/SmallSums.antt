-- Sums and products of signed numbers that went through their bits: while they are numbers of a
-- diagram nothing is lost.
use Rattle.std.proofs.Common.{◌≡◌, ◌∙◌, ℕ, ◌+◌, ◌*◌, ◌≤◌, ap, sym, subst, arith, ℤ, pos, ◌+ℤ◌, ◌*ℤ◌, nat_abs, FitsSigned, to_z, of_z}
use Rattle.std.proofs.lemmas.Int.{to_z-of_z, unsigned_abs-mul}
use Rattle.std.specs.Int.{w128}
use Rattle.maid_model.specs.Diagrams.{greatest_number}
use Rattle.maid_model.proofs.Summing.{abs_add}
use Rattle.tree_checker.proofs.WalkOpened.{small_fits}

abbrev pub told : ℤ → ℤ
told z = to_z w128 (of_z w128 z)

module _ (a b : ℤ) (a_fits : FitsSigned w128 a) (b_fits : FitsSigned w128 b) (small : nat_abs (a +ℤ b) ≤ greatest_number) where
  parts : told a +ℤ told b ≡ a +ℤ b
  parts i = to_z-of_z w128 a a_fits i +ℤ to_z-of_z w128 b b_fits i

  pub sum_fits : FitsSigned w128 (told a +ℤ told b)
  sum_fits = subst (FitsSigned w128) (sym parts) (small_fits (a +ℤ b) small)

  pub sum_is : told (told a +ℤ told b) ≡ a +ℤ b
  sum_is = to_z-of_z w128 (told a +ℤ told b) sum_fits ∙ parts

-- a weight times a utility, added to a gain
module _ (g u : ℤ) (m : ℕ) (u_fits : FitsSigned w128 u) (few : m ≤ greatest_number) (room : nat_abs g + m * nat_abs u ≤ greatest_number) where
  size : nat_abs (pos m *ℤ u) ≡ m * nat_abs u
  size = unsigned_abs-mul (pos m) u

  product_small : nat_abs (pos m *ℤ u) ≤ greatest_number
  product_small = omega (arith, size, room)

  whole_small : nat_abs (g +ℤ pos m *ℤ u) ≤ greatest_number
  whole_small = omega (arith, abs_add g (pos m *ℤ u), size, room)

  g_fits : FitsSigned w128 g
  g_fits = small_fits g (omega (arith, room))

  factors : to_z w128 m *ℤ told u ≡ pos m *ℤ u
  factors i = to_z-of_z w128 (pos m) (small_fits (pos m) few) i *ℤ to_z-of_z w128 u u_fits i

  pub product_fits : FitsSigned w128 (to_z w128 m *ℤ told u)
  product_fits = subst (FitsSigned w128) (sym factors) (small_fits (pos m *ℤ u) product_small)

  pub gain_fits : FitsSigned w128 (told g +ℤ told (to_z w128 m *ℤ told u))
  gain_fits = subst (λ z. FitsSigned w128 (told g +ℤ told z)) (sym factors) (sum_fits g (pos m *ℤ u) g_fits (small_fits (pos m *ℤ u) product_small) whole_small)

  pub gain_is : told (told g +ℤ told (to_z w128 m *ℤ told u)) ≡ g +ℤ pos m *ℤ u
  gain_is = ap (λ z. told (told g +ℤ told z)) factors ∙ sum_is g (pos m *ℤ u) g_fits (small_fits (pos m *ℤ u) product_small) whole_small
