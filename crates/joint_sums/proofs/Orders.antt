-- The first tables look at their scopes, so elimination gives the joint sum; and a map of cells
-- takes it along.
use Rattle.std.proofs.Common.{◌∙◌, ℕ, map, List, [], ◌∷◌, sym, ap, nat_abs}
use Rattle.std.proofs.Math.Path.{fun_ext}
use Rattle.maid_model.specs.Nodes.{states_of}
use Rattle.maid_model.specs.Tables.{table}
use Rattle.maid_model.specs.Views.{NodeView, RuleView}
use Rattle.maid_laws.proofs.Members.{among_of, contains_of, apart_of}
use Rattle.maid_laws.proofs.Rearranged.{shuffled_of}
use Rattle.cell_rings.specs.Rings.{IsRing}
use Rattle.ring_sums.specs.Sums.{ring_sum_over, ring_product}
use Rattle.ring_sums.specs.Tables.{Table, LooksInScope, product_of}
use Rattle.ring_sums.proofs.Each.{Each, each_append}
use Rattle.ring_sums.proofs.Steps.{eliminated}
use Rattle.ring_sums.proofs.Sums.{over_shuffled, map_over, map_product, product_cong}
use Rattle.plan_sums.specs.Laws.{IsCellMap}
use Rattle.plan_sums.specs.Plans.{Cells, node_table, utility_table, value_of}
use Rattle.plan_sums.proofs.Looks.{node_looks, utility_looks}
use Rattle.joint_sums.specs.Joint.{joint_ruled, joint_summed, joint_tables}
use Rattle.joint_sums.specs.Laws.{RunsJoint, MapsJoint}
use Rattle.joint_sums.proofs.ScopeNodes.{summed_apart}
use Rattle.joint_sums.proofs.Pairs.{joint_product}

pub tables_look : {C : Type 0} (c : Cells C) (nodes : List NodeView) (p : List RuleView) (d : ℕ) (us : List ℕ) → Each (LooksInScope (states_of nodes)) (joint_tables c nodes p d us)
tables_look {C} c nodes p d us =
    each_append (LooksInScope (states_of nodes)) (map (λ v. node_table c nodes p v) (joint_ruled nodes d)) (map (λ u. utility_table c nodes u) us)
    (each (λ v. node_table c nodes p v) (node_looks c nodes p) (joint_ruled nodes d))
    (each (λ u. utility_table c nodes u) (utility_looks c nodes p) us)
  where
    each : (f : ℕ → Table C) → ((v : ℕ) → LooksInScope (states_of nodes) (f v)) → (vs : List ℕ) → Each (LooksInScope (states_of nodes)) (map f vs)
    each f h [] = tt
    each f h (v ∷ vs) = (h v, each f h vs)

-- in any order
pub runs_joint : {C : Type 0} (c : Cells C) → IsRing c.ring → RunsJoint c
runs_joint c h nodes p d us steps q is i =
    eliminated c.ring h (states_of nodes) steps (joint_tables c nodes p d us) (tables_look c nodes p d us) q i
    ∙ over_shuffled c.ring h (states_of nodes) (product_of c.ring (joint_tables c nodes p d us))
    (shuffled_of steps (joint_summed nodes d) (apart_of steps is.once) (summed_apart nodes d)
    (λ v m. among_of v (joint_summed nodes d) ((is.all v).0 (contains_of v steps m)))
    (λ v m. among_of v steps ((is.all v).1 (contains_of v (joint_summed nodes d) m)))) q

-- a map of cells
pub maps_joint : {C D : Type 0} (c : Cells C) (e : Cells D) → IsRing c.ring → IsRing e.ring → (f : C → D) → IsCellMap c e f → MapsJoint c e f
maps_joint c e h k f m nodes p d us q =
    map_over c.ring e.ring f m.ring k (states_of nodes) (joint_summed nodes d) (product_of c.ring (joint_tables c nodes p d us)) q
    ∙ ap (λ z. ring_sum_over e.ring (states_of nodes) (joint_summed nodes d) z q) (fun_ext (λ x.
    ap f (joint_product c h nodes p d us x)
    ∙ m.ring.times (ring_product c.ring (λ v. c.weight (nat_abs (table nodes p v x))) (joint_ruled nodes d)) (ring_product c.ring (λ u. c.value (value_of nodes u x)) us)
    ∙ (λ i. e.ring.times
    ((map_product c.ring e.ring f m.ring (λ v. c.weight (nat_abs (table nodes p v x))) (joint_ruled nodes d) ∙ product_cong e.ring k (λ v. f (c.weight (nat_abs (table nodes p v x)))) (λ v. e.weight (nat_abs (table nodes p v x))) (λ v. m.weight (nat_abs (table nodes p v x))) (joint_ruled nodes d)) i)
    ((map_product c.ring e.ring f m.ring (λ u. c.value (value_of nodes u x)) us ∙ product_cong e.ring k (λ u. f (c.value (value_of nodes u x))) (λ u. e.value (value_of nodes u x)) (λ u. m.value (value_of nodes u x)) us) i))
    ∙ sym (joint_product e k nodes p d us x)))
