-- Sums in which a decision and all that lies below it are summed out.
use Rattle.std.proofs.Common.{◌≡◌, ◌≢◌, ◌⊎◌, ◌∙◌, ℕ, ◌+◌, ◌*◌, ◌<◌, Bool, not, eqb, filter, List, [], ◌∷◌, refl, sym, ap, subst, inl, inr, ℤ, ◌*ℤ◌, arith}
use Rattle.std.proofs.lemmas.Bool.Decides.{nat_tests}
use Rattle.std.proofs.Math.Decide.{ℕ_discrete}
use Rattle.finite_sums.specs.Members.{Among}
use Rattle.finite_sums.specs.Looks.{Ignores, IgnoresLater, HasTotal}
use Rattle.maid_model.proofs.Setting.{ParentsFirst}
use Rattle.maid_model.specs.Gains.{is_at}
use Rattle.maid_model.specs.Nodes.{states_of}
use Rattle.finite_sums.specs.Sums.{World, with_state, sum_below, sum_over, product_over, InRange}
use Rattle.maid_model.specs.Tables.{row_of}
use Rattle.maid_model.specs.Views.{NodeView}
use Rattle.finite_sums.proofs.Ints.{mul_assoc, products}
use Rattle.finite_sums.proofs.Sums.{sum_below_cong, sum_below_swap}
use Rattle.finite_sums.proofs.Totals.{law_of_totals}
use Rattle.finite_sums.specs.Members.{Avoids}
use Rattle.finite_sums.proofs.Lists.{among_filter, all_ignored, each_ignored}
use Rattle.maid_laws.proofs.Basis.{Setup, Tells, LooksAtParents, later_general, have_totals}
use Rattle.maid_laws.proofs.Collapse.{one_if, one_if-and, Apart, sum_below_at}
use Rattle.maid_laws.proofs.Grouped.{passes_not}
use Rattle.maid_laws.proofs.Leads.{Below, child, further}
use Rattle.maid_laws.proofs.Notions.{IsParent}

-- d, or what lies below it
abbrev pub FromD : List NodeView → ℕ → ℕ → Type 0
FromD nodes d v = (v ≡ d) ⊎ Below (IsParent nodes) d v

module _ (nodes : List NodeView) (order : List ℕ) (setup : Setup nodes order) (d : ℕ) (keep : ℕ → Bool) (tells : Tells keep (λ v. ¬ (FromD nodes d v)) order) where
  -- what looks at neither d nor anything below it is left when these are summed out
  pub summed_out : (table : ℕ → World → ℤ) (total : ℕ → ℤ) (f : World → ℤ) → LooksAtParents nodes table
      → ((v : ℕ) → Among v order → HasTotal (states_of nodes) table total v)
      → ((u : ℕ) → ¬ ¬ (FromD nodes d u) → Ignores (states_of nodes) f u)
      → (w : World) → InRange (states_of nodes) w
      → sum_over (states_of nodes) order (λ x. f x *ℤ product_over (λ v. table v x) order) w
      ≡ product_over total (filter (λ v. not (keep v)) order) *ℤ sum_over (states_of nodes) (filter keep order) (λ x. f x *ℤ product_over (λ v. table v x) (filter keep order)) w
  summed_out table total f looks totals hf w i =
      law_of_totals (states_of nodes) table total keep order f
      (each_ignored (states_of nodes) table (filter keep order) (filter (λ v. not (keep v)) order) (λ v m u k.
      let a = among_filter keep v order m in
      let b = among_filter (λ x. not (keep x)) u order k in
      let nv : ¬ (FromD nodes d v) = tells.yes v a.0 a.1 in
      let nu : ¬ ¬ (FromD nodes d u) = tells.no u b.0 (passes_not keep u b.1) in
      looks.others v u (λ e. nu (λ h. nv (subst (FromD nodes d) (sym e) h))) (λ c. nu (λ h. nv (next u v h c)))))
      (all_ignored (states_of nodes) f (filter (λ v. not (keep v)) order) (λ u k. let b = among_filter (λ x. not (keep x)) u order k in hf u (tells.no u b.0 (passes_not keep u b.1))))
      (later_general nodes table looks (λ v. not (keep v)) order setup.parents_first)
      (have_totals (states_of nodes) table total (filter (λ v. not (keep v)) order) (λ v m. totals v (among_filter (λ x. not (keep x)) v order m).0))
      w i
    where
      next : (u v : ℕ) → FromD nodes d u → IsParent nodes u v → FromD nodes d v
      next u v (inl e) a = inr (child (subst (λ z. IsParent nodes z v) e a))
      next u v (inr b) a = inr (further b a)

-- ---- a product in which one factor is changed
product_same : (f g : ℕ → ℤ) (d : ℕ) (vs : List ℕ) → ((v : ℕ) → v ≢ d → f v ≡ g v) → Avoids d vs → product_over f vs ≡ product_over g vs
product_same f g d [] h a = refl
product_same f g d (v ∷ vs) h a = λ i. h v a.0 i *ℤ product_same f g d vs h a.1 i

-- by induction over the list
pub product_changed : (f g : ℕ → ℤ) (d : ℕ) (vs : List ℕ) → ((v : ℕ) → v ≢ d → f v ≡ g v) → Apart vs → Among d vs → product_over f vs *ℤ g d ≡ product_over g vs *ℤ f d
product_changed f g d [] h a m = absurd m
product_changed f g d (v ∷ vs) h a m = go (ℕ_discrete v d) m (λ k. product_changed f g d vs h a.1 k)
  where
    front : (x y z : ℤ) → (x *ℤ z) *ℤ y ≡ (y *ℤ z) *ℤ x
    front x y z = simp products

    rest : (x z y : ℤ) → (x *ℤ z) *ℤ y ≡ x *ℤ (z *ℤ y)
    rest x z y = mul_assoc x z y

    go : Dec (v ≡ d) → (d ≡ v) ⊎ Among d vs → (Among d vs → product_over f vs *ℤ g d ≡ product_over g vs *ℤ f d) → (f v *ℤ product_over f vs) *ℤ g d ≡ (g v *ℤ product_over g vs) *ℤ f d
    go (yes e) k r =
        ap (λ x. (f x *ℤ product_over f vs) *ℤ g d) e
        ∙ front (f d) (g d) (product_over f vs)
        ∙ ap (λ x. (g d *ℤ x) *ℤ f d) (product_same f g d vs h (subst (λ x. Avoids x vs) e a.0))
        ∙ sym (ap (λ x. (g x *ℤ product_over g vs) *ℤ f d) e)
    go (no n) (inl e) r = absurd (n (sym e))
    go (no n) (inr k) r =
        rest (f v) (product_over f vs) (g d) ∙ (λ i. h v n i *ℤ r k i) ∙ sym (rest (g v) (product_over g vs) (f d))

-- ---- a sum by the row and state of d
pub sum_over_below : (count : ℕ → ℕ) (vs : List ℕ) (n : ℕ) (f : ℕ → World → ℤ) (w : World) → sum_over count vs (λ x. sum_below n (λ i. f i x)) w ≡ sum_below n (λ i. sum_over count vs (f i) w)
sum_over_below count [] n f w = refl
sum_over_below count (v ∷ vs) n f w =
    sum_below_cong (count v) (λ s. sum_over count vs (λ x. sum_below n (λ i. f i x)) (with_state w v s)) (λ s. sum_below n (λ i. sum_over count vs (f i) (with_state w v s))) (λ s l. sum_over_below count vs n f (with_state w v s))
    ∙ sum_below_swap (count v) n (λ s i. sum_over count vs (f i) (with_state w v s))

-- a rule's weight in a world is picked out of all its weights
pub picked : (nodes : List NodeView) (d : ℕ) (rule : ℕ → ℤ) (w : World) → InRange (states_of nodes) w → (rows : ℕ) → row_of nodes d w < rows
    → sum_below rows (λ r. sum_below (states_of nodes d) (λ s. one_if (is_at nodes d s r w) *ℤ rule (r * states_of nodes d + s))) ≡ rule (row_of nodes d w * states_of nodes d + w d)
picked nodes d rule w i rows l =
    sum_below_cong rows (λ r. sum_below (states_of nodes d) (λ s. one_if (is_at nodes d s r w) *ℤ rule (r * states_of nodes d + s))) (λ r. one_if (eqb r (row_of nodes d w)) *ℤ rule (r * states_of nodes d + w d))
    (λ r k. sum_below_cong (states_of nodes d) (λ s. one_if (is_at nodes d s r w) *ℤ rule (r * states_of nodes d + s)) (λ s. one_if (eqb s (w d)) *ℤ (one_if (eqb r (row_of nodes d w)) *ℤ rule (r * states_of nodes d + s)))
    (λ s j. ap (λ x. x *ℤ rule (r * states_of nodes d + s)) (one_if-and (eqb (w d) s) (eqb (row_of nodes d w) r) ∙ (λ z. one_if (eqb_sym (w d) s z) *ℤ one_if (eqb_sym (row_of nodes d w) r z))) ∙ mul_assoc (one_if (eqb s (w d))) (one_if (eqb r (row_of nodes d w))) (rule (r * states_of nodes d + s)))
    ∙ sum_below_at (states_of nodes d) (w d) (λ s. one_if (eqb r (row_of nodes d w)) *ℤ rule (r * states_of nodes d + s)) (i.state d))
    ∙ sum_below_at rows (row_of nodes d w) (λ r. rule (r * states_of nodes d + w d)) l
  where
    eqb_sym : (a b : ℕ) → eqb a b ≡ eqb b a
    eqb_sym a b = grind (arith, nat_tests)

-- in a list with parents first no table looks at a later node
pub later_all : (nodes : List NodeView) (table : ℕ → World → ℤ) → LooksAtParents nodes table → (vs : List ℕ) → ParentsFirst nodes vs → IgnoresLater (states_of nodes) table vs
later_all nodes table h [] p = tt
later_all nodes table h (v ∷ vs) p = (all_ignored (states_of nodes) (table v) vs (λ u m. let k = p.0 u m in h.others v u k.0 k.1), later_all nodes table h vs p.1)
