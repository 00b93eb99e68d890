-- A sum over the worlds that agree with a given one at some nodes.
use Rattle.std.proofs.Common.{◌≡◌, ◌≢◌, ◌∙◌, ℕ, zero, suc, ◌<◌, ◌+◌, ◌*◌, Bool, true, false, cond, ◌&&◌, eqb, List, [], ◌∷◌, refl, sym, ap, inl, inr, ℤ, pos, ◌+ℤ◌, ◌*ℤ◌, arith}
use Rattle.std.proofs.lemmas.Int.{ints}
use Rattle.std.proofs.lemmas.Bool.Decides.{nat_tests}
use Rattle.std.proofs.Math.Decide.{ℕ_discrete}
use Rattle.std.proofs.Math.Path.{fun_ext}
use Rattle.finite_sums.specs.Members.{Among}
use Rattle.finite_sums.specs.Looks.{IgnoresAll}
use Rattle.finite_sums.specs.Sums.{World, with_state, sum_below, sum_over, product_over, InRange}
use Rattle.maid_model.specs.Tables.{row_from}
use Rattle.maid_model.proofs.Bases.{digits}
use Rattle.finite_sums.proofs.Ints.{mul_assoc, zero_mul, one_mul}
use Rattle.finite_sums.proofs.Sums.{sum_below_cong, sum_below_zero, sum_over_out, with_same, with_other, with_in}
use Rattle.finite_sums.specs.Members.{Avoids}

-- 1 where the test holds, else 0
abbrev pub one_if : Bool → ℤ
one_if b = cond b (pos 1) (pos 0)

-- both tests hold where the product is 1
pub one_if-and : (a b : Bool) → one_if (a && b) ≡ one_if a *ℤ one_if b
one_if-and true true = refl
one_if-and true false = refl
one_if-and false true = refl
one_if-and false false = refl

-- a term that counts only where the test holds
pub one_if-cond : (b : Bool) (x : ℤ) → cond b x (pos 0) ≡ one_if b *ℤ x
one_if-cond true x = sym (one_mul x)
one_if-cond false x = sym (zero_mul x)

-- of all terms the one at d is left
pub sum_below_at : (n d : ℕ) (f : ℕ → ℤ) → d < n → sum_below n (λ s. one_if (eqb s d) *ℤ f s) ≡ f d
sum_below_at zero d f h = absurd (omega arith)
sum_below_at (suc n) d f h = go (ℕ_discrete d n) (λ l. sum_below_at n d f l)
  where
    yes_at : (n d : ℕ) → d ≡ n → eqb n d ≡ true
    yes_at n d e = grind (arith, nat_tests)

    no_at : (i d : ℕ) → d ≢ i → eqb i d ≡ false
    no_at i d e = grind (arith, nat_tests)

    below : (i n d : ℕ) → d ≡ n → i < n → d ≢ i
    below i n d e l = omega arith

    smaller : (d n : ℕ) → d < suc n → d ≢ n → d < n
    smaller d n h k = omega arith

    go : Dec (d ≡ n) → (d < n → sum_below n (λ s. one_if (eqb s d) *ℤ f s) ≡ f d) → sum_below n (λ s. one_if (eqb s d) *ℤ f s) +ℤ one_if (eqb n d) *ℤ f n ≡ f d
    go (yes e) r =
        let z : sum_below n (λ s. one_if (eqb s d) *ℤ f s) ≡ pos 0 = sum_below_cong n (λ s. one_if (eqb s d) *ℤ f s) (λ s. pos 0) (λ i l. ap (λ b. one_if b *ℤ f i) (no_at i d (below i n d e l)) ∙ zero_mul (f i)) ∙ sum_below_zero n in
        let o : one_if (eqb n d) *ℤ f n ≡ f d = ap (λ b. one_if b *ℤ f n) (yes_at n d e) ∙ one_mul (f n) ∙ ap f (sym e) in
        omega (arith, ints)
    go (no k) r =
        let z : one_if (eqb n d) *ℤ f n ≡ pos 0 = ap (λ b. one_if b *ℤ f n) (no_at n d k) ∙ zero_mul (f n) in
        let o : sum_below n (λ s. one_if (eqb s d) *ℤ f s) ≡ f d = r (smaller d n h k) in
        omega (arith, ints)

-- 1 where the world agrees with q at these nodes, else 0
abbrev pub agree : List ℕ → World → World → ℤ
agree os q w = product_over (λ o. one_if (eqb (w o) (q o))) os

-- w with the states of q at these nodes
abbrev pub fix : List ℕ → World → World → World
fix [] q w = w
fix (o ∷ os) q w = fix os q (with_state w o (q o))

-- no node stands twice
abbrev pub Apart : List ℕ → Type 0
Apart [] = Unit {0}
Apart (o ∷ os) = Avoids o os × Apart os

-- the test at o does not look at other nodes
state_ignored : (count : ℕ → ℕ) (q : World) (o : ℕ) (us : List ℕ) → Avoids o us → IgnoresAll count (λ w. one_if (eqb (w o) (q o))) us
state_ignored count q o [] h = tt
state_ignored count q o (u ∷ us) h = (record { same = λ w i s l. ap (λ x. one_if (eqb x (q o))) (with_other w u s o (λ e. h.0 (sym e))) }, state_ignored count q o us h.1)

-- the sum over the worlds that agree with q is the value at q
pub collapse : (count : ℕ → ℕ) (os : List ℕ) (q : World) (h : World → ℤ) → InRange count q → Apart os → (w : World) → InRange count w → sum_over count os (λ x. agree os q x *ℤ h x) w ≡ h (fix os q w)
collapse count [] q h iq a w i = one_mul (h w)
collapse count (o ∷ os) q h iq a w i =
    sum_below_cong (count o) (λ s. sum_over count os (λ x. (one_if (eqb (x o) (q o)) *ℤ agree os q x) *ℤ h x) (with_state w o s)) (λ s. one_if (eqb s (q o)) *ℤ h (fix os q (with_state w o s)))
    (λ s l. ap (λ g. sum_over count os g (with_state w o s)) (fun_ext (λ x. mul_assoc (one_if (eqb (x o) (q o))) (agree os q x) (h x)))
    ∙ sum_over_out count os (λ x. one_if (eqb (x o) (q o))) (λ x. agree os q x *ℤ h x) (state_ignored count q o os a.0) (with_state w o s) (with_in count w o s i l)
    ∙ ap (λ t. one_if (eqb t (q o)) *ℤ sum_over count os (λ x. agree os q x *ℤ h x) (with_state w o s)) (with_same w o s)
    ∙ ap (λ t. one_if (eqb s (q o)) *ℤ t) (collapse count os q h iq a.1 (with_state w o s) (with_in count w o s i l)))
    ∙ sum_below_at (count o) (q o) (λ s. h (fix os q (with_state w o s))) (iq.state o)

-- the fixed world is q at every node
fix_at : (os : List ℕ) (q w : World) → ((v : ℕ) → Avoids v os → w v ≡ q v) → (v : ℕ) → fix os q w v ≡ q v
fix_at [] q w h v = h v tt
fix_at (o ∷ os) q w h v = fix_at os q (with_state w o (q o)) (λ u a. go u a (ℕ_discrete u o)) v
  where
    go : (u : ℕ) → Avoids u os → Dec (u ≡ o) → with_state w o (q o) u ≡ q u
    go u a (yes e) = ap (with_state w o (q o)) e ∙ with_same w o (q o) ∙ ap q (sym e)
    go u a (no n) = with_other w o (q o) u n ∙ h u ((λ e. n (sym e)), a)

-- a world that agrees with q elsewhere becomes q
pub fix_is : (os : List ℕ) (q w : World) → ((v : ℕ) → Avoids v os → w v ≡ q v) → fix os q w ≡ q
fix_is os q w h = fun_ext (fix_at os q w h)

-- ---- rows tell the parents' states apart

-- equal rows mean equal states of the parents
pub rows_agree : (count : ℕ → ℕ) (w q : World) → InRange count w → InRange count q → (us : List ℕ) (r s : ℕ) → row_from count w r us ≡ row_from count q s us → (r ≡ s) × ((u : ℕ) → Among u us → w u ≡ q u)
rows_agree count w q i j [] r s e = (e, λ u h. absurd h)
rows_agree count w q i j (u ∷ us) r s e =
    let h = rows_agree count w q i j us (r * count u + w u) (s * count u + q u) e in
    let d = digits r s (w u) (q u) (count u) (i.state u) (j.state u) h.0 in
    (d.0, λ x m. elim m [ inl f ↦ ap w f ∙ d.1 ∙ ap q (sym f) | inr k ↦ h.1 x k ])

-- and equal states mean equal rows
pub agree_rows : (count : ℕ → ℕ) (w q : World) (us : List ℕ) (r : ℕ) → ((u : ℕ) → Among u us → w u ≡ q u) → row_from count w r us ≡ row_from count q r us
agree_rows count w q [] r h = refl
agree_rows count w q (u ∷ us) r h = ap (λ x. row_from count w (r * count u + x) us) (h u (inl refl)) ∙ agree_rows count w q us (r * count u + q u) (λ x m. h x (inr m))
