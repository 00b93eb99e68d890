-- The exchange, with gains and masses as sums over the nodes in text order.
use Rattle.std.proofs.Common.{◌≡◌, ◌∙◌, ℕ, Bool, true, false, cond, not, ◌||◌, eqb, List, [], ◌∷◌, refl, sym, ap, subst, ℤ, pos, ◌*ℤ◌, ◌≤ℤ◌, ◌<◌, length}
use Rattle.std.proofs.Math.Path.{fun_ext}
use Rattle.std.specs.List.{list_all}
use Rattle.maid_model.specs.declared.diagrams.Kind.TheVariants.{Decision}
use Rattle.maid_model.specs.Gains.{utility, sum_worlds}
use Rattle.maid_model.specs.Nodes.{states_of, numbers_of, node_at}
use Rattle.finite_sums.specs.Sums.{World, product_over}
use Rattle.maid_model.specs.Tables.{table, weight_total}
use Rattle.maid_model.specs.Views.{NodeView, RuleView}
use Rattle.finite_sums.specs.Members.{Among}
use Rattle.maid_model.proofs.Setting.{HasTables}
use Rattle.finite_sums.proofs.Ints.{mul_comm, mul_assoc, one_mul, mul_one}
use Rattle.finite_sums.proofs.Lists.{sum_over-shuffled, product_over-shuffled}
use Rattle.maid_laws.proofs.Best.{product_over-times}
use Rattle.maid_laws.proofs.Collapse.{one_if, one_if-and, one_if-cond}
use Rattle.maid_laws.proofs.PutBack.{subgame_perfect}
use Rattle.maid_laws.proofs.Notions.{OrderedGraph, extends, gain_from_start, mass_from_start, IsStart, IsBest, InOrder, SameForOthers}
use Rattle.maid_laws.proofs.Step.{gain_from, table_from, total_from}

-- a test of all nodes is a product of tests
all_ones : (f : ℕ → Bool) (vs : List ℕ) → product_over (λ v. one_if (f v)) vs ≡ one_if (list_all f vs)
all_ones f [] = refl
all_ones f (v ∷ vs) = ap (λ x. one_if (f v) *ℤ x) (all_ones f vs) ∙ sym (one_if-and (f v) (list_all f vs))

module _ (nodes : List NodeView) (g : OrderedGraph nodes) (started : ℕ → Bool) (q : World) where
  -- a factor from a start, in two parts
  parts : (b : Bool) (e : Bool) (x : ℤ) → cond b (one_if e) x ≡ one_if (not b || e) *ℤ cond b (pos 1) x
  parts true e x = sym (mul_one (one_if e))
  parts false e x = sym (one_mul x)

  -- the sum in text order is that in the list's order
  pub gain_is : (p : List RuleView) (a : ℕ) → gain_from_start nodes started q p a ≡ gain_from nodes g.order started q p (utility nodes a)
  gain_is p a =
      ap (sum_worlds nodes) (fun_ext (λ w.
      one_if-cond (extends nodes started q w) (product_over (λ v. cond (started v) (pos 1) (table nodes p v w)) (numbers_of nodes) *ℤ utility nodes a w)
      ∙ sym (mul_assoc (one_if (extends nodes started q w)) (product_over (λ v. cond (started v) (pos 1) (table nodes p v w)) (numbers_of nodes)) (utility nodes a w))
      ∙ mul_comm (one_if (extends nodes started q w) *ℤ product_over (λ v. cond (started v) (pos 1) (table nodes p v w)) (numbers_of nodes)) (utility nodes a w)
      ∙ ap (λ x. utility nodes a w *ℤ x)
      (ap (λ x. x *ℤ product_over (λ v. cond (started v) (pos 1) (table nodes p v w)) (numbers_of nodes)) (sym (all_ones (λ v. not (started v) || eqb (w v) (q v)) (numbers_of nodes)))
      ∙ sym (product_over-times (λ v. one_if (not (started v) || eqb (w v) (q v))) (λ v. cond (started v) (pos 1) (table nodes p v w)) (numbers_of nodes))
      ∙ ap (λ f. product_over f (numbers_of nodes)) (fun_ext (λ v. sym (parts (started v) (eqb (w v) (q v)) (table nodes p v w))))
      ∙ product_over-shuffled (λ v. table_from nodes started q p v w) g.shuffled)))
      ∙ sum_over-shuffled (states_of nodes) (λ x. utility nodes a x *ℤ product_over (λ v. table_from nodes started q p v x) g.order) g.shuffled (λ v. 0)

  -- and so is the product of totals
  pub mass_is : (p : List RuleView) → mass_from_start nodes started p ≡ product_over (total_from started (λ v. pos (weight_total nodes p v))) g.order
  mass_is p = product_over-shuffled (total_from started (λ v. pos (weight_total nodes p v))) g.shuffled

-- a profile that is best in its bases, along an order of all decisions: from no start does an agent
-- gain
pub exchange_at : (nodes : List NodeView) (s : List RuleView) (choice : ℕ → ℕ → ℕ) (base : ℕ → List RuleView) (order : List ℕ)
    → OrderedGraph nodes → IsBest nodes s choice base
    → InOrder nodes [] order → ((v : ℕ) → v < length nodes → (node_at nodes v).kind ≡ Decision → Among v order)
    → (started : ℕ → Bool) (q : World) → IsStart nodes started q → (agent : ℕ) (t : List RuleView) → HasTables nodes t → SameForOthers nodes agent s t
    → (gain_from_start nodes started q t agent *ℤ mass_from_start nodes started s) ≤ℤ (gain_from_start nodes started q s agent *ℤ mass_from_start nodes started t)
exchange_at nodes s choice base order g best in_order all started q start a t ht other =
    let h = subgame_perfect nodes g s choice base best started q start order in_order all a t ht other in
    subst (λ x. x ≤ℤ (gain_from_start nodes started q s a *ℤ mass_from_start nodes started t)) (sym (λ i. gain_is nodes g started q t a i *ℤ mass_is nodes g started q s i))
    (subst (λ x. (gain_from nodes g.order started q t (utility nodes a) *ℤ product_over (total_from started (λ v. pos (weight_total nodes s v))) g.order) ≤ℤ x) (sym (λ i. gain_is nodes g started q s a i *ℤ mass_is nodes g started q t i)) h)
