-- In pairs the product of the first tables has as gain the product of the weights times the sum of
-- the values.
use Rattle.std.proofs.Common.{◌≡◌, ◌∙◌, ℕ, Bool, true, false, not, cond, eqb, filter, map, List, [], ◌∷◌, refl, sym, ap, arith, ℤ, pos, ◌+ℤ◌, ◌*ℤ◌, nat_abs}
use Rattle.std.proofs.lemmas.Int.{ints}
use Rattle.maid_model.specs.Tables.{table}
use Rattle.maid_model.specs.Views.{NodeView, RuleView}
use Rattle.maid_model.proofs.Setting.{HasTables}
use Rattle.finite_sums.specs.Sums.{World, sum_each, product_over}
use Rattle.finite_sums.proofs.Ints.{one_mul}
use Rattle.maid_laws.proofs.OneUtility.{table_but}
use Rattle.maid_laws.proofs.Signs.{table_not_negative}
use Rattle.cell_rings.specs.Rings.{IsRing, Pair, mass_ring, gain_ring, both_ring}
use Rattle.cell_rings.specs.RingLaws.{gain_is_ring, both_is_ring, mass_to_gain}
use Rattle.ring_sums.specs.Sums.{ring_product}
use Rattle.ring_sums.specs.Tables.{Table, product_of}
use Rattle.ring_sums.proofs.Sums.{product_append, product_cong, map_product}
use Rattle.ring_sums.proofs.SumLaws.{product_is}
use Rattle.plan_sums.specs.Plans.{Cells, both_cells, node_table, utility_table, value_of}
use Rattle.plan_sums.proofs.Products.{product_map, pos_abs, mass_to_both}
use Rattle.joint_sums.specs.Joint.{scope_nodes, joint_ruled, joint_tables}

-- weights apart from values
pub joint_product : {C : Type 0} (c : Cells C) → IsRing c.ring → (nodes : List NodeView) (p : List RuleView) (d : ℕ) (us : List ℕ) (x : World)
    → product_of c.ring (joint_tables c nodes p d us) x ≡ c.ring.times (ring_product c.ring (λ v. c.weight (nat_abs (table nodes p v x))) (joint_ruled nodes d)) (ring_product c.ring (λ u. c.value (value_of nodes u x)) us)
joint_product {C} c h nodes p d us x =
    product_append c.ring h (λ (t : Table C). t.cell x) (map (λ v. node_table c nodes p v) (joint_ruled nodes d)) (map (λ u. utility_table c nodes u) us)
    ∙ (λ i. c.ring.times (product_map c.ring (λ (t : Table C). t.cell x) (λ v. node_table c nodes p v) (joint_ruled nodes d) i) (product_map c.ring (λ (t : Table C). t.cell x) (λ u. utility_table c nodes u) us i))

-- pairs of one and a value multiply to one and the sum of the values
values_add : (f : ℕ → ℤ) (us : List ℕ) → ring_product both_ring (λ u. record { m = 1; g = f u }) us ≡ record { m = 1; g = sum_each f us }
values_add f [] = refl
values_add f (u ∷ us) = ap (λ z. both_ring.times (record { m = 1; g = f u }) z) (values_add f us) ∙ (λ i. record { m = 1; g = one_more (f u) (sum_each f us) i })
  where
    one_more : (a s : ℤ) → (pos 1 *ℤ s) +ℤ (a *ℤ pos 1) ≡ a +ℤ s
    one_more a s = omega (arith, ints)

-- all factors but d's
leave_own : (nodes : List NodeView) (p : List RuleView) (d : ℕ) (x : World) (vs : List ℕ) → product_over (λ v. table nodes p v x) (filter (λ v. not (eqb v d)) vs) ≡ product_over (λ v. table_but nodes d p v x) vs
leave_own nodes p d x [] = refl
leave_own nodes p d x (v ∷ vs) = go (eqb v d) (leave_own nodes p d x vs)
  where
    go : (b : Bool) → product_over (λ u. table nodes p u x) (filter (λ u. not (eqb u d)) vs) ≡ product_over (λ u. table_but nodes d p u x) vs
        → product_over (λ u. table nodes p u x) (cond (not b) (v ∷ filter (λ u. not (eqb u d)) vs) (filter (λ u. not (eqb u d)) vs)) ≡ cond b (pos 1) (table nodes p v x) *ℤ product_over (λ u. table_but nodes d p u x) vs
    go true r = r ∙ sym (one_mul (product_over (λ u. table_but nodes d p u x) vs))
    go false r = ap (λ z. table nodes p v x *ℤ z) r

module _ (nodes : List NodeView) (p : List RuleView) (t : HasTables nodes p) (d : ℕ) (us : List ℕ) (x : World) where
  -- the product of the masses
  masses : pos (ring_product mass_ring (λ v. nat_abs (table nodes p v x)) (joint_ruled nodes d)) ≡ product_over (λ v. table_but nodes d p v x) (scope_nodes nodes d)
  masses =
      map_product mass_ring gain_ring pos mass_to_gain (λ v. nat_abs (table nodes p v x)) (joint_ruled nodes d)
      ∙ product_cong gain_ring gain_is_ring (λ v. pos (nat_abs (table nodes p v x))) (λ v. table nodes p v x) (λ v. pos_abs (table nodes p v x) (table_not_negative nodes p t v x)) (joint_ruled nodes d)
      ∙ product_is (λ v. table nodes p v x) (joint_ruled nodes d)
      ∙ leave_own nodes p d x (scope_nodes nodes d)

  pub joint_gain : (product_of both_ring (joint_tables both_cells nodes p d us) x).g ≡ product_over (λ v. table_but nodes d p v x) (scope_nodes nodes d) *ℤ sum_each (λ u. value_of nodes u x) us
  joint_gain =
      ap (λ (z : Pair). z.g)
      (joint_product both_cells both_is_ring nodes p d us x
      ∙ (λ i. both_ring.times (sym (map_product mass_ring both_ring (λ n. record { m = n; g = pos 0 }) mass_to_both (λ v. nat_abs (table nodes p v x)) (joint_ruled nodes d)) i) (values_add (λ u. value_of nodes u x) us i)))
      ∙ tidy (pos (ring_product mass_ring (λ v. nat_abs (table nodes p v x)) (joint_ruled nodes d))) (sum_each (λ u. value_of nodes u x) us)
      ∙ ap (λ z. z *ℤ sum_each (λ u. value_of nodes u x) us) masses
    where
      tidy : (a b : ℤ) → (a *ℤ b) +ℤ (pos 0 *ℤ pos 1) ≡ a *ℤ b
      tidy a b = omega (arith, ints)
