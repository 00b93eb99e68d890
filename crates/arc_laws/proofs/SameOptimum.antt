-- Diagrams in which an agent can get as much have the same optimum.
use Rattle.std.proofs.Common.{◌≡◌, ◌∙◌, ℕ, ◌*◌, ◌^◌, ◌<◌, List, sym, ap, subst, ℤ, pos, ◌*ℤ◌, ◌≤ℤ◌, ◌<ℤ◌, arith}
use Rattle.std.proofs.lemmas.Int.{ints}
use Rattle.maid_model.specs.declared.answers.Ratio.{Ratio}
use Rattle.maid_model.specs.Answers.{IsFraction}
use Rattle.maid_model.specs.Gains.{gain_of, mass}
use Rattle.maid_model.specs.Graph.{IsGraph}
use Rattle.maid_model.specs.Subgames.{OwnsAll}
use Rattle.maid_model.specs.Tables.{HasChanceTables}
use Rattle.maid_model.specs.Values.{IsOptimum}
use Rattle.maid_model.specs.Views.{NodeView, RuleView}
use Rattle.finite_sums.proofs.Ints.{products}
use Rattle.arc_laws.specs.Arcs.{CanGet, HasSameOptimum, IsNotAbove}
use Rattle.maid_laws.specs.Optimum.{IsAsGood}
use Rattle.maid_laws.proofs.Best.{cancel_le}
use Rattle.maid_laws.proofs.Fractions.{fraction_like}
use Rattle.maid_laws.proofs.Optima.{scale_positive, scaled}
use Rattle.maid_laws.proofs.PureReplies.{as_good, as_good_then}
use Rattle.maid_laws.proofs.Step.{times_le}
use Rattle.maid_laws.proofs.Tied.{tables_of}

-- equal gains and masses
pub good_equal : (nodes others : List NodeView) (p q : List RuleView) (agent : ℕ) → gain_of nodes p agent ≡ gain_of others q agent → mass nodes p ≡ mass others q → IsAsGood nodes p others q agent
good_equal nodes others p q agent e f = record {
  worth = subst (λ z. (gain_of nodes p agent *ℤ pos (mass others q)) ≤ℤ z) (λ i. e i *ℤ pos (sym f i)) (refl_le (gain_of nodes p agent *ℤ pos (mass others q)));
}
  where
    refl_le : (z : ℤ) → z ≤ℤ z
    refl_le z = omega (arith, ints)

-- fractions in the order of their cross products
fractions_le : (r s : Ratio) (x y : ℤ) (m n k : ℕ) → 0 < m * k → 0 < n * k → IsFraction r x (m * k) → IsFraction s y (n * k) → (x *ℤ pos n) ≤ℤ (y *ℤ pos m) → (r.num *ℤ pos s.den) ≤ℤ (s.num *ℤ pos r.den)
fractions_le r s x y m n k hm hn fr fs l =
    cancel_le (r.num *ℤ pos s.den) (s.num *ℤ pos r.den) (pos (m * k)) (natural (m * k) hm)
    (cancel_le ((r.num *ℤ pos s.den) *ℤ pos (m * k)) ((s.num *ℤ pos r.den) *ℤ pos (m * k)) (pos (n * k)) (natural (n * k) hn)
    (subst (λ z. z ≤ℤ (((s.num *ℤ pos r.den) *ℤ pos (m * k)) *ℤ pos (n * k))) (sym left)
    (subst (λ z. (((pos r.den *ℤ pos s.den) *ℤ pos k) *ℤ (x *ℤ pos n)) ≤ℤ z) (sym right)
    (times_le ((pos r.den *ℤ pos s.den) *ℤ pos k) (x *ℤ pos n) (y *ℤ pos m) (omega (arith, ints)) l))))
  where
    natural : (n : ℕ) → 0 < n → pos 0 <ℤ pos n
    natural n l = omega (arith, ints)

    one : (a d m n k : ℤ) → ((a *ℤ d) *ℤ m) *ℤ (n *ℤ k) ≡ (a *ℤ m) *ℤ ((d *ℤ k) *ℤ n)
    one a d m n k = simp products

    two : (x e d k n : ℤ) → (x *ℤ e) *ℤ ((d *ℤ k) *ℤ n) ≡ ((e *ℤ d) *ℤ k) *ℤ (x *ℤ n)
    two x e d k n = simp products

    three : (b e m n k : ℤ) → ((b *ℤ e) *ℤ (m *ℤ k)) *ℤ n ≡ (b *ℤ n) *ℤ ((e *ℤ k) *ℤ m)
    three b e m n k = simp products

    four : (y d e k m : ℤ) → (y *ℤ d) *ℤ ((e *ℤ k) *ℤ m) ≡ ((e *ℤ d) *ℤ k) *ℤ (y *ℤ m)
    four y d e k m = simp products

    left : ((r.num *ℤ pos s.den) *ℤ pos (m * k)) *ℤ pos (n * k) ≡ ((pos r.den *ℤ pos s.den) *ℤ pos k) *ℤ (x *ℤ pos n)
    left = one r.num (pos s.den) (pos (m * k)) (pos n) (pos k) ∙ ap (λ z. z *ℤ ((pos s.den *ℤ pos k) *ℤ pos n)) fr.same ∙ two x (pos r.den) (pos s.den) (pos k) (pos n)

    right : ((s.num *ℤ pos r.den) *ℤ pos (m * k)) *ℤ pos (n * k) ≡ ((pos r.den *ℤ pos s.den) *ℤ pos k) *ℤ (y *ℤ pos m)
    right = three s.num (pos r.den) (pos m) (pos (n * k)) (pos k) ∙ ap (λ z. z *ℤ ((pos r.den *ℤ pos k) *ℤ pos m)) fs.same ∙ four y (pos s.den) (pos r.den) (pos k) (pos m)

-- what can be got can be got by way of a third diagram
pub can_get_then : (nodes others thirds : List NodeView) (agent : ℕ) → IsGraph nodes → HasChanceTables nodes → IsGraph others → HasChanceTables others → IsGraph thirds → HasChanceTables thirds
    → CanGet nodes others agent → CanGet others thirds agent → CanGet nodes thirds agent
can_get_then nodes others thirds agent g c h d i e a b p hp =
    let q = a p hp in
    let r = b q.0 q.1 in
    (r.0, r.1, as_good_then nodes others thirds p q.0 r.0 agent (tables_of nodes p g c hp) (tables_of others q.0 h d q.1) (tables_of thirds r.0 i e r.1) q.2 r.2)

-- all in the diagram itself
pub can_get : (nodes : List NodeView) (agent : ℕ) → CanGet nodes nodes agent
can_get nodes agent p hp = (p, hp, as_good nodes p agent)

module _ (nodes others : List NodeView) (agent : ℕ) (g : IsGraph nodes) (c : HasChanceTables nodes) (h : IsGraph others) (d : HasChanceTables others) (there : CanGet nodes others agent) where
  pub not_above : IsNotAbove nodes others agent
  not_above decimals r s a b =
      let q = there a.best a.optimal.profile in
      let t = as_good_then nodes others others a.best q.0 b.best agent (tables_of nodes a.best g c a.optimal.profile) (tables_of others q.0 h d q.1) (tables_of others b.best h d b.optimal.profile) q.2 (record { worth = b.optimal.greatest q.0 q.1 }) in
      fractions_le r s (gain_of nodes a.best agent) (gain_of others b.best agent) (mass nodes a.best) (mass others b.best) (10 ^ decimals)
      (scale_positive nodes a.best decimals (tables_of nodes a.best g c a.optimal.profile)) (scale_positive others b.best decimals (tables_of others b.best h d b.optimal.profile)) a.worth b.worth t.worth

  -- the optimum is one there
  pub optimum_there : CanGet others nodes agent → OwnsAll others agent → (decimals : ℕ) (r : Ratio) → IsOptimum nodes decimals agent r → IsOptimum others decimals agent r
  optimum_there back owns decimals r o =
      let q = there o.best o.optimal.profile in
      let tb = tables_of nodes o.best g c o.optimal.profile in
      let tq = tables_of others q.0 h d q.1 in
      let again : IsAsGood others q.0 nodes o.best agent =
      let u = back q.0 q.1 in as_good_then others nodes nodes q.0 u.0 o.best agent tq (tables_of nodes u.0 g c u.1) tb u.2 (record { worth = o.optimal.greatest u.0 u.1 }) in
      record {
        alone = owns;
        best = q.0;
        optimal = record {
          profile = q.1;
          greatest = λ t ht.
              let u = back t ht in
              let a : IsAsGood others t nodes o.best agent = as_good_then others nodes nodes t u.0 o.best agent (tables_of others t h d ht) (tables_of nodes u.0 g c u.1) tb u.2 (record { worth = o.optimal.greatest u.0 u.1 }) in
              (as_good_then others nodes others t o.best q.0 agent (tables_of others t h d ht) tb tq a q.2).worth;
        };
        worth = fraction_like r (gain_of nodes o.best agent) (gain_of others q.0 agent) (mass nodes o.best * 10 ^ decimals) (mass others q.0 * 10 ^ decimals) (scale_positive nodes o.best decimals tb) o.worth
            (scaled (gain_of nodes o.best agent) (gain_of others q.0 agent) (mass nodes o.best) (mass others q.0) (10 ^ decimals) q.2.worth again.worth);
      }

-- both ways
pub same_optimum : (nodes others : List NodeView) (agent : ℕ) → IsGraph nodes → HasChanceTables nodes → IsGraph others → HasChanceTables others → CanGet nodes others agent → CanGet others nodes agent → OwnsAll nodes agent → OwnsAll others agent
    → HasSameOptimum nodes others agent
same_optimum nodes others agent g c h d a b owns own = record {
  there = optimum_there nodes others agent g c h d a b own;
  back = optimum_there others nodes agent h d g c b a owns;
}
