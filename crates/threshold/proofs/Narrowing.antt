-- An interval that conditions make narrower: each linear condition cuts it at one fraction.
use Rattle.std.proofs.Common.{◌≡◌, ◌≢◌, ◌↔◌, ◌∙◌, ◌⊎◌, true, false, int_lt, ℕ, zero, suc, ◌+◌, ◌-◌, ◌*◌, ◌<◌, ◌≤◌, refl, sym, ap, subst, inl, inr, ℤ, pos, negsuc, nat_abs, ◌+ℤ◌, ◌-ℤ◌, ◌*ℤ◌, ◌≤ℤ◌, ◌<ℤ◌, arith}
use Rattle.std.proofs.lemmas.Int.{ints}
use Rattle.std.proofs.lemmas.Bool.Decides.{nat_tests}
use Rattle.std.specs.Ordering.{nat_cmp}
use Rattle.std.specs.declared.cmp.Ordering.TheVariants.{Less, Equal, Greater}
use Rattle.std.specs.declared.cmp.Ordering.{Ordering}
use Rattle.whole_num.specs.Fractions.{fraction_order}
use Rattle.std.proofs.Math.Decide.{ℕ_discrete}
use Rattle.std.proofs.Math.Nat.{mul-pos}
use Rattle.reach_laws.proofs.Spans.{le_through}
use Rattle.threshold.specs.declared.held.Held.{Held}
use Rattle.threshold.specs.declared.held.Part.{Part}
use Rattle.threshold.specs.Held.{HoldsSomewhere, IsFrom, IsNotBelow, IsPart, IsRange, IsUpTo, Narrows, between}

-- ---- many conditions
pub narrows_none : (P : ℕ → ℕ → ℕ → Type 0) (held : Held) → IsRange held → Narrows (λ num den. (i : ℕ) → i < 0 → P i num den) held held
narrows_none P held r = record { range = r; within = λ num den p l. ((λ w. (w, λ i m. absurd (omega arith))), (λ w. w.0)) }

pub narrows_more : (P : ℕ → ℕ → ℕ → Type 0) (n : ℕ) (a b c : Held) → Narrows (λ num den. (i : ℕ) → i < n → P i num den) a b → Narrows (P n) b c → Narrows (λ num den. (i : ℕ) → i < n + 1 → P i num den) a c
narrows_more P n a b c first last = record {
  range = last.range;
  within = λ num den p l. (
    (λ w. let x = (last.within num den p l).0 w in let y = (first.within num den p l).0 x.0 in (y.0, λ i m. all num den y.1 x.1 i m (ℕ_discrete i n))),
    (λ w. (last.within num den p l).1 ((first.within num den p l).1 (w.0, λ i m. w.1 i (more i m)), w.1 n (omega arith))),
  );
}
  where
    more : (i : ℕ) → i < n → i < n + 1
    more i m = omega arith

    less : (i : ℕ) → i < n + 1 → i ≢ n → i < n
    less i m k = omega arith

    all : (num den : ℕ) → ((i : ℕ) → i < n → P i num den) → P n num den → (i : ℕ) → i < n + 1 → Dec (i ≡ n) → P i num den
    all num den h k i m (yes e) = subst (λ j. P j num den) (sym e) k
    all num den h k i m (no ne) = h i (less i m ne)

-- other words for the condition
pub narrows_map : (P Q : ℕ → ℕ → Type 0) (a b : Held) → ((num den : ℕ) → 0 < den → num ≤ den → P num den ↔ Q num den) → Narrows P a b → Narrows Q a b
narrows_map P Q a b same h = record {
  range = h.range;
  within = λ num den p l. (
    (λ w. let x = (h.within num den p l).0 w in (x.0, (same num den p l).0 x.1)),
    (λ w. (h.within num den p l).1 (w.0, (same num den p l).1 w.1)),
  );
}

-- ---- one linear condition
-- a number below nought, and one that is not
pub of_negative : (z : ℤ) → z <ℤ pos 0 → (0 < nat_abs z) × (z ≡ pos 0 -ℤ pos (nat_abs z))
of_negative (pos n) h = absurd (omega (arith, ints))
of_negative (negsuc n) h = (omega arith, omega (arith, ints))

pub of_natural : (z : ℤ) → pos 0 ≤ℤ z → z ≡ pos (nat_abs z)
of_natural (pos n) h = refl
of_natural (negsuc n) h = absurd (omega (arith, ints))

minus : (n d : ℕ) → n ≤ d → (k : ℕ) × (d ≡ n + k) × (pos d -ℤ pos n ≡ pos k)
minus n d h = go d h
  where
    go : (d : ℕ) → n ≤ d → (k : ℕ) × (d ≡ n + k) × (pos d -ℤ pos n ≡ pos k)
    go d h = (d - n, omega arith, omega (arith, ints))

spread : (a n k : ℕ) → a * (n + k) ≡ a * n + a * k
spread a n k = omega arith

gather : (a b n : ℕ) → n * (a + b) ≡ a * n + b * n
gather a b n = omega arith

turned : (a k : ℕ) → (pos 0 -ℤ pos a) *ℤ pos k ≡ pos 0 -ℤ pos (a * k)
turned zero k = omega (arith, ints)
turned (suc a) k = ap (λ z. z *ℤ pos k) (same a) ∙ below a k
  where
    same : (a : ℕ) → pos 0 -ℤ pos (suc a) ≡ negsuc a
    same a = omega (arith, ints)

    below : (a k : ℕ) → negsuc a *ℤ pos k ≡ pos 0 -ℤ pos (suc a * k)
    below a k = omega (arith, ints)

rising : (a b num den : ℕ) → num ≤ den → (k : ℕ) × (den ≡ num + k) × (between (pos 0 -ℤ pos a) (pos b) num den ≡ pos (b * num) -ℤ pos (a * k))
rising a b num den h =
    let k = minus num den h in (
      k.0,
      k.1,
      (λ i. (pos b *ℤ pos num) +ℤ ((pos 0 -ℤ pos a) *ℤ k.2 i)) ∙ (λ i. pos (b * num) +ℤ turned a k.0 i) ∙ plain (pos (b * num)) (pos (a * k.0)),
    )
  where
    plain : (x y : ℤ) → x +ℤ (pos 0 -ℤ y) ≡ x -ℤ y
    plain x y = omega (arith, ints)

pub from_same : (a b num den : ℕ) → num ≤ den → (a * den ≤ num * (a + b)) ↔ (pos 0 ≤ℤ between (pos 0 -ℤ pos a) (pos b) num den)
from_same a b num den h =
    let p = rising a b num den h in
    let e = ap (λ d. a * d) p.1 ∙ spread a num p.0 in
    let f = gather a b num in
    let g = p.2 in
    ((λ l. omega (arith, ints)), (λ l. omega (arith, ints)))

falling : (a b num den : ℕ) → num ≤ den → (k : ℕ) × (den ≡ num + k) × (between (pos a) (pos 0 -ℤ pos b) num den ≡ pos (a * k) -ℤ pos (b * num))
falling a b num den h =
    let k = minus num den h in (
      k.0,
      k.1,
      (λ i. turned b num i +ℤ (pos a *ℤ k.2 i)) ∙ plain (pos (b * num)) (pos (a * k.0)),
    )
  where
    plain : (x y : ℤ) → (pos 0 -ℤ x) +ℤ y ≡ y -ℤ x
    plain x y = omega (arith, ints)

pub up_to_same : (a b num den : ℕ) → num ≤ den → (num * (a + b) ≤ a * den) ↔ (pos 0 ≤ℤ between (pos a) (pos 0 -ℤ pos b) num den)
up_to_same a b num den h =
    let p = falling a b num den h in
    let e = ap (λ d. a * d) p.1 ∙ spread a num p.0 in
    let f = gather a b num in
    let g = p.2 in
    ((λ l. omega (arith, ints)), (λ l. omega (arith, ints)))

-- two below nought are nowhere
pub not_both : (a b num den : ℕ) → 0 < a → 0 < b → 0 < den → num ≤ den → pos 0 ≤ℤ between (pos 0 -ℤ pos a) (pos 0 -ℤ pos b) num den → ⊥
not_both a b num den ha hb hd h n =
    let k = minus num den h in
    clash (b * num) (a * k.0) (subst (λ z. pos 0 ≤ℤ z) ((λ i. turned b num i +ℤ ((pos 0 -ℤ pos a) *ℤ k.2 i)) ∙ (λ i. (pos 0 -ℤ pos (b * num)) +ℤ turned a k.0 i)) n) (some num k.0 (subst (λ d. 0 < d) k.1 hd))
  where
    some : (n k : ℕ) → 0 < n + k → 0 < b * n + a * k
    some zero zero l = absurd (omega arith)
    some zero (suc k) l = let m = mul-pos ha (pos_suc k) in omega arith
      where
        pos_suc : (k : ℕ) → 0 < suc k
        pos_suc k = omega arith
    some (suc n) k l = let m = mul-pos hb (pos_suc n) in omega arith
      where
        pos_suc : (k : ℕ) → 0 < suc k
        pos_suc k = omega arith

    clash : (x y : ℕ) → pos 0 ≤ℤ ((pos 0 -ℤ pos x) +ℤ (pos 0 -ℤ pos y)) → 0 < x + y → ⊥
    clash x y l m = omega (arith, ints)

-- tests against nought
pub below_nought : (z : ℤ) → int_lt z (pos 0) ≡ true → z <ℤ pos 0
below_nought z e = grind (arith, ints)

pub from_nought : (z : ℤ) → int_lt z (pos 0) ≡ false → pos 0 ≤ℤ z
from_nought z e = grind (arith, ints)

-- ---- cuts
-- where the number at 0 is below nought, that at 1 is not
rises : (nought one : ℤ) → nought <ℤ pos 0 → HoldsSomewhere (IsNotBelow nought one) → pos 0 ≤ℤ one
rises nought one h w = go (compare one)
  where
    compare : (z : ℤ) → (pos 0 ≤ℤ z) ⊎ (z <ℤ pos 0)
    compare z = grind (arith, ints)

    go : (pos 0 ≤ℤ one) ⊎ (one <ℤ pos 0) → pos 0 ≤ℤ one
    go (inl l) = l
    go (inr l) =
        let a = of_negative nought h in
        let b = of_negative one l in
        absurd (not_both (nat_abs nought) (nat_abs one) w.num w.den a.0 b.0 w.positive w.at_most (subst (λ z. pos 0 ≤ℤ between z (pos 0 -ℤ pos (nat_abs one)) w.num w.den) a.1 (subst (λ z. pos 0 ≤ℤ between nought z w.num w.den) b.1 w.holds)))

-- the fractions from the turn on are those at which a rising number is not below nought
pub cut_low : (held : Held) (low turn : Part) (nought one : ℤ) → IsRange held → IsPart low → ((num den : ℕ) → IsFrom low num den ↔ (IsFrom held.low num den × IsFrom turn num den))
    → turn.num ≡ nat_abs nought → turn.den ≡ nat_abs nought + nat_abs one → nought <ℤ pos 0 → HoldsSomewhere (IsNotBelow nought one) → Narrows (IsNotBelow nought one) held (record { low = low; high = held.high })
cut_low held low turn nought one r part from num_is den_is h w = record {
  range = record { low = part; high = r.high };
  within = λ num den p l. (
    (λ x. let y = (from num den).0 x.0 in ((y.0, x.1), (same num den l).0 y.1)),
    (λ x. ((from num den).1 (x.0.0, (same num den l).1 x.1), x.0.1)),
  );
}
  where
    low_is : nought ≡ pos 0 -ℤ pos (nat_abs nought)
    low_is = (of_negative nought h).1

    high_is : one ≡ pos (nat_abs one)
    high_is = of_natural one (rises nought one h w)

    same : (num den : ℕ) → num ≤ den → IsFrom turn num den ↔ IsNotBelow nought one num den
    same num den l =
        let e = from_same (nat_abs nought) (nat_abs one) num den l in (
          (λ x. subst (λ z. pos 0 ≤ℤ between z one num den) (sym low_is) (subst (λ z. pos 0 ≤ℤ between (pos 0 -ℤ pos (nat_abs nought)) z num den) (sym high_is)
              (e.0 (subst (λ z. z * den ≤ num * (nat_abs nought + nat_abs one)) num_is (subst (λ z. turn.num * den ≤ num * z) den_is x))))),
          (λ x. subst (λ z. turn.num * den ≤ num * z) (sym den_is) (subst (λ z. z * den ≤ num * (nat_abs nought + nat_abs one)) (sym num_is)
              (e.1 (subst (λ z. pos 0 ≤ℤ between (pos 0 -ℤ pos (nat_abs nought)) z num den) high_is (subst (λ z. pos 0 ≤ℤ between z one num den) low_is x))))),
        )

-- the fractions up to the turn are those at which a falling number is not below nought
pub cut_high : (held : Held) (high turn : Part) (nought one : ℤ) → IsRange held → IsPart high → ((num den : ℕ) → IsUpTo high num den ↔ (IsUpTo held.high num den × IsUpTo turn num den))
    → turn.num ≡ nat_abs nought → turn.den ≡ nat_abs nought + nat_abs one → pos 0 ≤ℤ nought → one <ℤ pos 0 → Narrows (IsNotBelow nought one) held (record { low = held.low; high = high })
cut_high held high turn nought one r part up_to num_is den_is h k = record {
  range = record { low = r.low; high = part };
  within = λ num den p l. (
    (λ x. let y = (up_to num den).0 x.1 in ((x.0, y.0), (same num den l).0 y.1)),
    (λ x. (x.0.0, (up_to num den).1 (x.0.1, (same num den l).1 x.1))),
  );
}
  where
    high_is : nought ≡ pos (nat_abs nought)
    high_is = of_natural nought h

    low_is : one ≡ pos 0 -ℤ pos (nat_abs one)
    low_is = (of_negative one k).1

    same : (num den : ℕ) → num ≤ den → IsUpTo turn num den ↔ IsNotBelow nought one num den
    same num den l =
        let e = up_to_same (nat_abs nought) (nat_abs one) num den l in (
          (λ x. subst (λ z. pos 0 ≤ℤ between z one num den) (sym high_is) (subst (λ z. pos 0 ≤ℤ between (pos (nat_abs nought)) z num den) (sym low_is)
              (e.0 (subst (λ z. num * (nat_abs nought + nat_abs one) ≤ z * den) num_is (subst (λ z. num * z ≤ turn.num * den) den_is x))))),
          (λ x. subst (λ z. num * z ≤ turn.num * den) (sym den_is) (subst (λ z. num * (nat_abs nought + nat_abs one) ≤ z * den) (sym num_is)
              (e.1 (subst (λ z. pos 0 ≤ℤ between (pos (nat_abs nought)) z num den) low_is (subst (λ z. pos 0 ≤ℤ between z one num den) high_is x))))),
        )

-- where it is not below nought at 0 and 1, it never is
pub cut_none : (held : Held) (nought one : ℤ) → IsRange held → pos 0 ≤ℤ nought → pos 0 ≤ℤ one → Narrows (IsNotBelow nought one) held held
cut_none held nought one r h k = record { range = r; within = λ num den p l. ((λ x. (x, all num den l)), (λ x. x.0)) }
  where
    natural : (a b : ℤ) (m n : ℕ) → pos 0 ≤ℤ a → pos 0 ≤ℤ b → pos 0 ≤ℤ ((b *ℤ pos m) +ℤ (a *ℤ pos n))
    natural (pos a) (pos b) m n h k = omega (arith, ints)
    natural (negsuc a) b m n h k = absurd (omega (arith, ints, h))
    natural (pos a) (negsuc b) m n h k = absurd (omega (arith, ints, k))

    all : (num den : ℕ) → num ≤ den → IsNotBelow nought one num den
    all num den l = let m = minus num den l in subst (λ z. pos 0 ≤ℤ ((one *ℤ pos num) +ℤ (nought *ℤ z))) (sym m.2) (natural nought one num m.0 h k)

-- ---- the greater and the lesser of two fractions
pub greater_of : (a b c : Part) → IsPart a → IsPart b → a.num * b.den ≤ b.num * a.den → c ≡ b → IsPart c × ((num den : ℕ) → IsFrom c num den ↔ (IsFrom a num den × IsFrom b num den))
greater_of a b c ha hb l e = subst (λ d. IsPart d × ((num den : ℕ) → IsFrom d num den ↔ (IsFrom a num den × IsFrom b num den))) (sym e)
    (hb, λ num den. ((λ x. (le_through a.num a.den b.num b.den num den hb.positive l x, x)), (λ x. x.1)))

pub lesser_of : (a b c : Part) → IsPart a → IsPart b → a.num * b.den ≤ b.num * a.den → c ≡ a → IsPart c × ((num den : ℕ) → IsUpTo c num den ↔ (IsUpTo a num den × IsUpTo b num den))
lesser_of a b c ha hb l e = subst (λ d. IsPart d × ((num den : ℕ) → IsUpTo d num den ↔ (IsUpTo a num den × IsUpTo b num den))) (sym e)
    (ha, λ num den. ((λ x. (x, le_through num den a.num a.den b.num b.den ha.positive x l)), (λ x. x.0)))

pub greater_first : (a b : Part) → IsPart a → IsPart b → b.num * a.den ≤ a.num * b.den → IsPart a × ((num den : ℕ) → IsFrom a num den ↔ (IsFrom a num den × IsFrom b num den))
greater_first a b ha hb l = (ha, λ num den. ((λ x. (x, le_through b.num b.den a.num a.den num den ha.positive l x)), (λ x. x.0)))

pub lesser_last : (a b : Part) → IsPart a → IsPart b → b.num * a.den ≤ a.num * b.den → IsPart b × ((num den : ℕ) → IsUpTo b num den ↔ (IsUpTo a num den × IsUpTo b num den))
lesser_last a b ha hb l = (hb, λ num den. ((λ x. (le_through num den b.num b.den a.num a.den hb.positive x l, x)), (λ x. x.1)))

-- the order of two fractions, as products across
pub less_order : (a b c d : ℕ) → fraction_order a b c d ≡ Less → a * d ≤ c * b
less_order a b c d e = decide (a * d) (c * b) e
  where
    decide : (x y : ℕ) → nat_cmp x y ≡ Less → x ≤ y
    decide x y e = grind (arith, nat_tests)

pub no_less_order : (a b c d : ℕ) (o : Ordering) → o ≡ fraction_order a b c d → (o ≡ Equal) ⊎ (o ≡ Greater) → c * b ≤ a * d
no_less_order a b c d o e (inl f) = decide (a * d) (c * b) (sym e ∙ f)
  where
    decide : (x y : ℕ) → nat_cmp x y ≡ Equal → y ≤ x
    decide x y e = grind (arith, nat_tests)
no_less_order a b c d o e (inr f) = decide (a * d) (c * b) (sym e ∙ f)
  where
    decide : (x y : ℕ) → nat_cmp x y ≡ Greater → y ≤ x
    decide x y e = grind (arith, nat_tests)
