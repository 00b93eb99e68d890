-- A positive factor changes no choice, no mark and no fraction.
use Rattle.std.proofs.Common.{◌≡◌, ◌⊎◌, ◌↔◌, ◌∙◌, ℕ, ◌*◌, ◌<◌, List, sym, ap, subst, inl, inr, arith, ℤ, pos, ◌*ℤ◌, ◌≤ℤ◌, ◌<ℤ◌, nat_abs}
use Rattle.std.proofs.lemmas.Int.{ints, unsigned_abs-mul}
use Rattle.maid_model.specs.declared.answers.Ratio.{Ratio}
use Rattle.maid_model.specs.Answers.{IsFraction}
use Rattle.maid_model.specs.Gains.{gain_of, mass, gain_at, mass_at}
use Rattle.maid_model.specs.Views.{NodeView, RuleView}
use Rattle.finite_sums.proofs.Ints.{mul_comm, mul_assoc, mul_left_comm}
use Rattle.maid_model.specs.Parts.{place_in, part_of, rules_in, mass_left_out}
use Rattle.part_laws.specs.PartLaws.{ChoicesOfParts, WorthsOfParts}
use Rattle.maid_laws.proofs.Best.{cancel_le}
use Rattle.part_laws.proofs.PartLaws.{gains_law, masses_law, agents_gains_law, mass_law, positive_law}
use Rattle.maid_laws.proofs.Step.{times_le}

module _ (c : ℕ) (some : 0 < c) where
  positive : pos 0 <ℤ pos c
  positive = omega (arith, ints)

  not_negative : pos 0 ≤ℤ pos c
  not_negative = omega (arith, ints)

  up : (a b : ℤ) → a ≤ℤ b → (pos c *ℤ a) ≤ℤ (pos c *ℤ b)
  up a b h = times_le (pos c) a b not_negative h

  down : (a b : ℤ) → (pos c *ℤ a) ≤ℤ (pos c *ℤ b) → a ≤ℤ b
  down a b h = cancel_le a b (pos c) positive (subst (λ x. x ≤ℤ (b *ℤ pos c)) (mul_comm (pos c) a) (subst (λ x. (pos c *ℤ a) ≤ℤ x) (mul_comm (pos c) b) h))

  -- an order of two multiples
  pub order_same : (x y a b : ℤ) → x ≡ pos c *ℤ a → y ≡ pos c *ℤ b → (x ≤ℤ y) ↔ (a ≤ℤ b)
  order_same x y a b e f = ((λ h. down a b (subst (λ z. z ≤ℤ (pos c *ℤ b)) e (subst (λ z. x ≤ℤ z) f h))), (λ h. subst (λ z. z ≤ℤ y) (sym e) (subst (λ z. (pos c *ℤ a) ≤ℤ z) (sym f) (up a b h))))

  -- a sign
  pub sign_same : (x a : ℤ) → x ≡ pos c *ℤ a → (pos 0 <ℤ x) ↔ (pos 0 <ℤ a)
  sign_same x a e = (there, back)
    where
      none : pos c *ℤ pos 0 ≡ pos 0
      none = omega (arith, ints)

      cases : (x y : ℤ) → (x ≤ℤ y) ⊎ (y <ℤ x)
      cases x y = grind (arith, ints)

      at_most : (x y : ℤ) → ¬ (x ≤ℤ y) → y <ℤ x
      at_most x y n = elim (cases x y) [ inl h ↦ absurd (n h) | inr h ↦ h ]

      over : (x y : ℤ) → y <ℤ x → ¬ (x ≤ℤ y)
      over x y h k = omega (arith, ints)

      there : pos 0 <ℤ x → pos 0 <ℤ a
      there h = at_most a (pos 0) (λ l. over x (pos 0) h ((order_same x (pos 0) a (pos 0) e (sym none)).1 l))

      back : pos 0 <ℤ a → pos 0 <ℤ x
      back h = at_most x (pos 0) (λ l. over a (pos 0) h ((order_same x (pos 0) a (pos 0) e (sym none)).0 l))

  -- an equation
  equal_same : (a b : ℤ) → pos c *ℤ a ≡ pos c *ℤ b → a ≡ b
  equal_same a b e = both a b (down a b (at_most (pos c *ℤ a) (pos c *ℤ b) e)) (down b a (at_most (pos c *ℤ b) (pos c *ℤ a) (sym e)))
    where
      at_most : (x y : ℤ) → x ≡ y → x ≤ℤ y
      at_most x y e = omega (arith, ints)

      both : (a b : ℤ) → a ≤ℤ b → b ≤ℤ a → a ≡ b
      both a b h k = omega (arith, ints)

  -- a fraction
  pub fraction_same : (w : Ratio) (x a : ℤ) (y b : ℕ) → x ≡ pos c *ℤ a → pos y ≡ pos c *ℤ pos b → IsFraction w x y ↔ IsFraction w a b
  fraction_same w x a y b e f = (
    (λ h. record { reduced = h.reduced; same = equal_same (w.num *ℤ pos b) (a *ℤ pos w.den) (sym left ∙ h.same ∙ right) }),
    (λ h. record { reduced = h.reduced; same = left ∙ ap (λ z. pos c *ℤ z) h.same ∙ sym right }),
  )
    where
      left : w.num *ℤ pos y ≡ pos c *ℤ (w.num *ℤ pos b)
      left = ap (λ z. w.num *ℤ z) f ∙ mul_left_comm w.num (pos c) (pos b)

      right : x *ℤ pos w.den ≡ pos c *ℤ (a *ℤ pos w.den)
      right = ap (λ z. z *ℤ pos w.den) e ∙ mul_assoc (pos c) a (pos w.den)

-- a scaled mass
scaled : (c : ℕ) (x a : ℤ) (scale : ℕ) → x ≡ pos c *ℤ a → pos (nat_abs x * scale) ≡ pos c *ℤ pos (nat_abs a * scale)
scaled c x a scale e = ap (λ n. pos (n * scale)) (ap nat_abs e ∙ unsigned_abs-mul (pos c) a) ∙ grouped c (nat_abs a) scale
  where
    grouped : (c n k : ℕ) → pos ((c * n) * k) ≡ pos c *ℤ pos (n * k)
    grouped c n k = omega (arith, ints)

pub choices_law : ChoicesOfParts
choices_law nodes p kept d row g h r closed is m all = record {
  best = λ state other. order_same left some (gain_at nodes p d state row) (gain_at nodes p d other row) (gain_at part rules new state row) (gain_at part rules new other row) (gain state) (gain other);
  reached = sign_same left some (mass_at nodes p d row) (mass_at part rules new row) weight;
  worth = λ state scale w. fraction_same left some w (gain_at nodes p d state row) (gain_at part rules new state row) (nat_abs (mass_at nodes p d row) * scale) (nat_abs (mass_at part rules new row) * scale) (gain state) (scaled left (mass_at nodes p d row) (mass_at part rules new row) scale weight);
}
  where
    part : List NodeView
    part = part_of nodes kept

    rules : List RuleView
    rules = rules_in nodes p kept

    new : ℕ
    new = place_in kept d

    left : ℕ
    left = mass_left_out nodes p kept

    some : 0 < mass_left_out nodes p kept
    some = positive_law nodes p kept g h r

    gain : (state : ℕ) → gain_at nodes p d state row ≡ pos (mass_left_out nodes p kept) *ℤ gain_at (part_of nodes kept) (rules_in nodes p kept) (place_in kept d) state row
    gain state = gains_law nodes p kept d state row g h r closed is m all

    weight : mass_at nodes p d row ≡ pos (mass_left_out nodes p kept) *ℤ mass_at (part_of nodes kept) (rules_in nodes p kept) (place_in kept d) row
    weight = masses_law nodes p kept d row g h r closed is m

pub worths_law : WorthsOfParts
worths_law nodes p kept agent scale w g h r closed all =
    fraction_same (mass_left_out nodes p kept) (positive_law nodes p kept g h r) w (gain_of nodes p agent) (gain_of (part_of nodes kept) (rules_in nodes p kept) agent)
    (mass nodes p * scale) (mass (part_of nodes kept) (rules_in nodes p kept) * scale)
    (agents_gains_law nodes p kept agent g h r closed all)
    (ap (λ n. pos (n * scale)) (mass_law nodes p kept g h r closed) ∙ grouped (mass_left_out nodes p kept) (mass (part_of nodes kept) (rules_in nodes p kept)) scale)
  where
    grouped : (c n k : ℕ) → pos ((c * n) * k) ≡ pos c *ℤ pos (n * k)
    grouped c n k = omega (arith, ints)
